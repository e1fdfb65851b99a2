-- `==` of types is equality of their views.
use Rattle.std.proofs.Common.{◌≡◌, ◌↔◌, IsTrue, rules, true, false, true≢false, Bool, refl, ap, subst, sym, ◌∙◌, Option, Some, None, ◌&&◌, ℕ, nat_eq, List, [], ◌∷◌, map, option_map, string_bytes, inl, inr}
use Rattle.std.specs.Bool.{beq}
use Rattle.std.specs.String.{string_eq}
use Rattle.std.specs.Option.{option_eq}
use Rattle.std.specs.Cmp.Lexicographic.{pointwise}
use Rattle.std.proofs.lemmas.Option.{same_Some}
use Rattle.ir_types.specs.judged.Plain.{PlainMember, PlainInner, PlainType, struct, plain, member_view, inner_view, type_view}
use Rattle.ir_types.specs.declared.types.ArraySize.{ArraySize}
use Rattle.ir_types.specs.contracts.types.ArraySizePartialEq.TheImpl as size
use Rattle.ir_types.specs.declared.types.StructMember.{StructMember}
use Rattle.ir_types.specs.contracts.types.StructMemberPartialEq.TheImpl as of_member
use Rattle.ir_types.specs.declared.types.TypeInner.{TypeInner}
use Rattle.ir_types.specs.declared.types.TypeInner.TheVariants as inner
use Rattle.ir_types.specs.contracts.types.TypeInner as types
use Rattle.ir_types.specs.contracts.types.TypeInnerPartialEq.TheImpl as of_inner
use Rattle.ir_types.specs.contracts.types.TypeInnerEq.TheImpl.Laws as inner_laws
use Rattle.ir_types.specs.declared.types.IrType.{IrType}
use Rattle.ir_types.specs.contracts.types.IrTypePartialEq.TheImpl as of_type
use Rattle.ir_kinds.specs.declared.spaces.AddressSpace.{AddressSpace}
use Rattle.ir_kinds.specs.contracts.spaces.AddressSpacePartialEq.TheImpl as space
use Rattle.ir_kinds.specs.declared.images.ImageDimension.{ImageDimension}
use Rattle.ir_kinds.specs.declared.images.ImageClass.{ImageClass}
use Rattle.ir_types.proofs.Choices.{Test, Laws, both, same_view}
use Rattle.ir_types.proofs.Same.{same_number, same_binding, same_class, same_list, number, flag, handle, missing}
use Rattle.ir_kinds.specs.declared.bindings.Binding.{Binding}
use Rattle.ir_kinds.specs.contracts.bindings.BindingPartialEq.TheImpl as bound
use Rattle.ir_kinds.specs.contracts.bindings.BindingEq.TheImpl.Laws as bound_laws
use Rattle.ir_kinds.specs.contracts.images.ImageDimensionPartialEq.TheImpl as dim
use Rattle.ir_kinds.specs.contracts.images.ImageClassPartialEq.TheImpl as class
use Rattle.ir_kinds.specs.declared.scalars.VectorSize.{VectorSize}
use Rattle.ir_kinds.specs.contracts.scalars.VectorSizePartialEq.TheImpl as of_size
use Rattle.ir_kinds.specs.declared.scalars.CooperativeSize.{CooperativeSize}
use Rattle.ir_kinds.specs.contracts.scalars.CooperativeSizePartialEq.TheImpl as side
use Rattle.ir_kinds.specs.declared.scalars.CooperativeRole.{CooperativeRole}
use Rattle.ir_kinds.specs.contracts.scalars.CooperativeRolePartialEq.TheImpl as role
use Rattle.ir_kinds.specs.declared.scalars.Scalar.{Scalar}
use Rattle.ir_kinds.specs.contracts.scalars.ScalarPartialEq.TheImpl as scalar

pub same_size : (a b : ArraySize) → IsTrue (size.ghosts.eq a b) → a ≡ b
same_size a b e = search rules

pub same_space : (a b : AddressSpace) → IsTrue (space.ghosts.eq a b) → a ≡ b
same_space a b e = search rules

same_name : (a b : StructMember) → IsTrue (option_eq string_eq a.name b.name) → option_map string_bytes a.name ≡ option_map string_bytes b.name
same_name a b e = search rules

abbrev binding_test : Test (Option Binding)
binding_test = missing (bound.ghosts.eq, same_binding)

same_member : (a b : StructMember) → IsTrue (of_member.ghosts.eq a b) → member_view a ≡ member_view b
same_member a b e =
    let h1 : IsTrue (option_eq string_eq a.name b.name) × IsTrue ((nat_eq a.ty b.ty && true) && (option_eq bound.ghosts.eq a.binding b.binding && nat_eq a.offset b.offset)) = both _ _ e in
    let h2 : IsTrue (nat_eq a.ty b.ty && true) × IsTrue (option_eq bound.ghosts.eq a.binding b.binding && nat_eq a.offset b.offset) = both _ _ h1.1 in
    let h3 : IsTrue (option_eq bound.ghosts.eq a.binding b.binding) × IsTrue (nat_eq a.offset b.offset) = both _ _ h2.1 in
    λ i. record {
      name = same_name a b h1.0 i;
      ty = same_number a.ty b.ty (both (nat_eq a.ty b.ty) true h2.0).0 i;
      binding = binding_test.1 a.binding b.binding h3.0 i;
      offset = same_number a.offset b.offset h3.1 i;
    }

pub same_dim : (a b : ImageDimension) → IsTrue (dim.ghosts.eq a b) → a ≡ b
same_dim a b e = search rules

pub same_vector_size : (a b : VectorSize) → IsTrue (of_size.ghosts.eq a b) → a ≡ b
same_vector_size a b e = search rules

pub same_side : (a b : CooperativeSize) → IsTrue (side.ghosts.eq a b) → a ≡ b
same_side a b e = search rules

pub same_role : (a b : CooperativeRole) → IsTrue (role.ghosts.eq a b) → a ≡ b
same_role a b e = search rules

pub same_of_scalar : (a b : Scalar) → IsTrue (scalar.ghosts.eq a b) → a ≡ b
same_of_scalar a b e = search rules

abbrev pub size_test : Test ArraySize
size_test = (size.ghosts.eq, same_size)

abbrev pub space_test : Test AddressSpace
space_test = (space.ghosts.eq, same_space)

abbrev pub vector_test : Test VectorSize
vector_test = (of_size.ghosts.eq, same_vector_size)

abbrev pub side_test : Test CooperativeSize
side_test = (side.ghosts.eq, same_side)

abbrev pub role_test : Test CooperativeRole
role_test = (role.ghosts.eq, same_role)

abbrev pub scalar_test : Test Scalar
scalar_test = (scalar.ghosts.eq, same_of_scalar)

abbrev pub dim_test : Test ImageDimension
dim_test = (dim.ghosts.eq, same_dim)

abbrev pub class_test : Test ImageClass
class_test = (class.ghosts.eq, same_class)

same_structs : (ms ms2 : _) (n n2 : _) → IsTrue (of_inner.ghosts.eq (inner.Struct ms n) (inner.Struct ms2 n2)) → inner_view (inner.Struct ms n) ≡ inner_view (inner.Struct ms2 n2)
same_structs ms ms2 n n2 e =
    let h1 : IsTrue (pointwise of_member.ghosts.eq ms.items ms2.items) × IsTrue (nat_eq n n2) = both _ _ e in
    λ i. struct (same_list member_view of_member.ghosts.eq same_member ms.items ms2.items h1.0 i) (same_number n n2 h1.1 i)

-- in the order of declaration
abbrev laws : Laws types.enum.parts (λ c. inner_view (types.enum.make c))
laws = (
  inl (scalar_test, tt),
  (
    inl (vector_test, (scalar_test, tt)),
    (
      inl (vector_test, (vector_test, (scalar_test, tt))),
      (
        inl (side_test, (side_test, (scalar_test, (role_test, tt)))),
        (
          inl (scalar_test, tt),
          (
            inl (handle, (space_test, tt)),
            (
              inl (missing vector_test, (scalar_test, (space_test, tt))),
              (
                inl (handle, (size_test, (number, tt))),
                (
                  inr ((λ x y. pointwise of_member.ghosts.eq x.0.items y.0.items && nat_eq x.1.0 y.1.0), (λ x y e. same_structs x.0 y.0 x.1.0 y.1.0 e)),
                  (
                    inl (dim_test, (flag, (class_test, tt))),
                    (
                      inl (flag, tt),
                      (
                        inl (flag, tt),
                        (
                          inl (flag, tt),
                          (inl (handle, (size_test, tt)), tt),
                        ),
                      ),
                    ),
                  ),
                ),
              ),
            ),
          ),
        ),
      ),
    ),
  ),
)

same_inner : (a b : TypeInner) → IsTrue (of_inner.ghosts.eq a b) → inner_view a ≡ inner_view b
same_inner a b e = same_view types.enum inner_view laws a b e

-- ---- equal views compare equal

-- the inner type is no struct
abbrev unplain : PlainInner → Option TypeInner
unplain (struct members span) = None
unplain (plain t) = Some t

same_plain : (a b : TypeInner) → unplain (inner_view b) ≡ Some a → IsTrue (of_inner.ghosts.eq a b)
same_plain a (inner.Scalar z) e = subst (λ c. IsTrue (of_inner.ghosts.eq c (inner.Scalar z))) (same_Some _ _ e) (inner_laws.laws-law.refl (inner.Scalar z))
same_plain a (inner.Vector y z) e = subst (λ c. IsTrue (of_inner.ghosts.eq c (inner.Vector y z))) (same_Some _ _ e) (inner_laws.laws-law.refl (inner.Vector y z))
same_plain a (inner.Matrix x y z) e = subst (λ c. IsTrue (of_inner.ghosts.eq c (inner.Matrix x y z))) (same_Some _ _ e) (inner_laws.laws-law.refl (inner.Matrix x y z))
same_plain a (inner.CooperativeMatrix w x y z) e = subst (λ c. IsTrue (of_inner.ghosts.eq c (inner.CooperativeMatrix w x y z))) (same_Some _ _ e) (inner_laws.laws-law.refl (inner.CooperativeMatrix w x y z))
same_plain a (inner.Atomic z) e = subst (λ c. IsTrue (of_inner.ghosts.eq c (inner.Atomic z))) (same_Some _ _ e) (inner_laws.laws-law.refl (inner.Atomic z))
same_plain a (inner.Pointer y z) e = subst (λ c. IsTrue (of_inner.ghosts.eq c (inner.Pointer y z))) (same_Some _ _ e) (inner_laws.laws-law.refl (inner.Pointer y z))
same_plain a (inner.ValuePointer x y z) e = subst (λ c. IsTrue (of_inner.ghosts.eq c (inner.ValuePointer x y z))) (same_Some _ _ e) (inner_laws.laws-law.refl (inner.ValuePointer x y z))
same_plain a (inner.Array x y z) e = subst (λ c. IsTrue (of_inner.ghosts.eq c (inner.Array x y z))) (same_Some _ _ e) (inner_laws.laws-law.refl (inner.Array x y z))
same_plain a (inner.Image x y z) e = subst (λ c. IsTrue (of_inner.ghosts.eq c (inner.Image x y z))) (same_Some _ _ e) (inner_laws.laws-law.refl (inner.Image x y z))
same_plain a (inner.Sampler z) e = subst (λ c. IsTrue (of_inner.ghosts.eq c (inner.Sampler z))) (same_Some _ _ e) (inner_laws.laws-law.refl (inner.Sampler z))
same_plain a (inner.AccelerationStructure z) e = subst (λ c. IsTrue (of_inner.ghosts.eq c (inner.AccelerationStructure z))) (same_Some _ _ e) (inner_laws.laws-law.refl (inner.AccelerationStructure z))
same_plain a (inner.RayQuery z) e = subst (λ c. IsTrue (of_inner.ghosts.eq c (inner.RayQuery z))) (same_Some _ _ e) (inner_laws.laws-law.refl (inner.RayQuery z))
same_plain a (inner.BindingArray y z) e = subst (λ c. IsTrue (of_inner.ghosts.eq c (inner.BindingArray y z))) (same_Some _ _ e) (inner_laws.laws-law.refl (inner.BindingArray y z))
same_plain a (inner.Struct ms n) e = let x = e in cc

-- the members of a struct
abbrev members_of : PlainInner → Option (List PlainMember)
members_of (struct members span) = Some members
members_of (plain t) = None

abbrev span_of : PlainInner → ℕ
span_of (struct members span) = span
span_of (plain t) = 0

all : (x y : Bool) → IsTrue x → IsTrue y → IsTrue (x && y)
all true y h k = k
all false y h k = absurd (true≢false (sym h))

name_same : (a b : StructMember) → option_map string_bytes a.name ≡ option_map string_bytes b.name → IsTrue (option_eq string_eq a.name b.name)
name_same a b e = search rules

number_same : (n m : ℕ) → n ≡ m → IsTrue (nat_eq n m)
number_same n m e = search rules

option_same : {A : Type 0} (eq : A → A → Bool) → ((a : A) → IsTrue (eq a a)) → (x y : Option A) → x ≡ y → IsTrue (option_eq eq x y)
option_same eq same None None e = refl
option_same eq same None (Some y) e = let x = e in cc
option_same eq same (Some x) None e = let x = e in cc
option_same eq same (Some x) (Some y) e = subst (λ z. IsTrue (eq x z)) (same_Some x y e) (same x)

member_same : (a b : StructMember) → member_view a ≡ member_view b → IsTrue (of_member.ghosts.eq a b)
member_same a b e =
    all (option_eq string_eq a.name b.name) _ (name_same a b (ap (λ (m : PlainMember). m.name) e))
    (all (nat_eq a.ty b.ty && true) _ (all (nat_eq a.ty b.ty) true (number_same a.ty b.ty (ap (λ (m : PlainMember). m.ty) e)) refl)
    (all (option_eq bound.ghosts.eq a.binding b.binding) _ (option_same bound.ghosts.eq bound_laws.laws-law.refl a.binding b.binding (ap (λ (m : PlainMember). m.binding) e))
    (number_same a.offset b.offset (ap (λ (m : PlainMember). m.offset) e))))

members_same : (xs ys : List StructMember) → map member_view xs ≡ map member_view ys → IsTrue (pointwise of_member.ghosts.eq xs ys)
members_same [] [] e = refl
members_same [] (y ∷ ys) e = let x = e in cc
members_same (x ∷ xs) [] e = let x = e in cc
members_same (x ∷ xs) (y ∷ ys) e =
    all (of_member.ghosts.eq x y) (pointwise of_member.ghosts.eq xs ys) (member_same x y (let h = e in cc)) (members_same xs ys (let h = e in cc))

inner_same : (a b : TypeInner) → inner_view a ≡ inner_view b → IsTrue (of_inner.ghosts.eq a b)
inner_same (inner.Struct ms n) (inner.Struct ns m) e =
    all (pointwise of_member.ghosts.eq ms.items ns.items) (nat_eq n m) (members_same ms.items ns.items (same_Some _ _ (ap members_of e))) (number_same n m (ap span_of e))
inner_same (inner.Struct ms n) (inner.Scalar z) e = let x = e in cc
inner_same (inner.Struct ms n) (inner.Vector y z) e = let x = e in cc
inner_same (inner.Struct ms n) (inner.Matrix x y z) e = let x = e in cc
inner_same (inner.Struct ms n) (inner.CooperativeMatrix w x y z) e = let x = e in cc
inner_same (inner.Struct ms n) (inner.Atomic z) e = let x = e in cc
inner_same (inner.Struct ms n) (inner.Pointer y z) e = let x = e in cc
inner_same (inner.Struct ms n) (inner.ValuePointer x y z) e = let x = e in cc
inner_same (inner.Struct ms n) (inner.Array x y z) e = let x = e in cc
inner_same (inner.Struct ms n) (inner.Image x y z) e = let x = e in cc
inner_same (inner.Struct ms n) (inner.Sampler z) e = let x = e in cc
inner_same (inner.Struct ms n) (inner.AccelerationStructure z) e = let x = e in cc
inner_same (inner.Struct ms n) (inner.RayQuery z) e = let x = e in cc
inner_same (inner.Struct ms n) (inner.BindingArray y z) e = let x = e in cc
inner_same (inner.Scalar z) b e = same_plain (inner.Scalar z) b (ap unplain (sym e))
inner_same (inner.Vector y z) b e = same_plain (inner.Vector y z) b (ap unplain (sym e))
inner_same (inner.Matrix x y z) b e = same_plain (inner.Matrix x y z) b (ap unplain (sym e))
inner_same (inner.CooperativeMatrix w x y z) b e = same_plain (inner.CooperativeMatrix w x y z) b (ap unplain (sym e))
inner_same (inner.Atomic z) b e = same_plain (inner.Atomic z) b (ap unplain (sym e))
inner_same (inner.Pointer y z) b e = same_plain (inner.Pointer y z) b (ap unplain (sym e))
inner_same (inner.ValuePointer x y z) b e = same_plain (inner.ValuePointer x y z) b (ap unplain (sym e))
inner_same (inner.Array x y z) b e = same_plain (inner.Array x y z) b (ap unplain (sym e))
inner_same (inner.Image x y z) b e = same_plain (inner.Image x y z) b (ap unplain (sym e))
inner_same (inner.Sampler z) b e = same_plain (inner.Sampler z) b (ap unplain (sym e))
inner_same (inner.AccelerationStructure z) b e = same_plain (inner.AccelerationStructure z) b (ap unplain (sym e))
inner_same (inner.RayQuery z) b e = same_plain (inner.RayQuery z) b (ap unplain (sym e))
inner_same (inner.BindingArray y z) b e = same_plain (inner.BindingArray y z) b (ap unplain (sym e))

type_name_same : (a b : IrType) → option_map string_bytes a.name ≡ option_map string_bytes b.name → IsTrue (option_eq string_eq a.name b.name)
type_name_same a b e = search rules

same_type_name : (a b : IrType) → IsTrue (option_eq string_eq a.name b.name) → option_map string_bytes a.name ≡ option_map string_bytes b.name
same_type_name a b e = search rules

type_same : (a b : IrType) → type_view a ≡ type_view b → IsTrue (of_type.ghosts.eq a b)
type_same a b e =
    all (option_eq string_eq a.name b.name) (of_inner.ghosts.eq a.inner b.inner) (type_name_same a b (ap (λ (t : PlainType). t.name) e)) (inner_same a.inner b.inner (ap (λ (t : PlainType). t.inner) e))

same_type : (a b : IrType) → IsTrue (of_type.ghosts.eq a b) → type_view a ≡ type_view b
same_type a b e =
    let h : IsTrue (option_eq string_eq a.name b.name) × IsTrue (of_inner.ghosts.eq a.inner b.inner) = both _ _ e in
    λ i. record { name = same_type_name a b h.0 i; inner = same_inner a.inner b.inner h.1 i }

pub type_eq : (a b : IrType) → IsTrue (of_type.ghosts.eq a b) ↔ (type_view a ≡ type_view b)
type_eq a b = (same_type a b, type_same a b)
