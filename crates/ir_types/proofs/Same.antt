-- `==` of enums without fields is equality, and so is that of options; and both as equalities of fields.
use Rattle.std.proofs.Common.{◌≡◌, IsTrue, rules, true, false, true≢false, Bool, refl, sym, Option, Some, None, ◌&&◌, ap, ℕ, nat_eq, List, [], ◌∷◌, map, inl}
use Rattle.std.specs.Bool.{beq}
use Rattle.std.specs.Option.{option_eq}
use Rattle.std.specs.Cmp.Lexicographic.{pointwise}
use Rattle.ir_kinds.specs.declared.bindings.Interpolation.{Interpolation}
use Rattle.ir_kinds.specs.contracts.bindings.InterpolationPartialEq.TheImpl as interpolation
use Rattle.ir_kinds.specs.declared.bindings.Sampling.{Sampling}
use Rattle.ir_kinds.specs.contracts.bindings.SamplingPartialEq.TheImpl as sampling
use Rattle.ir_kinds.specs.declared.scalars.ScalarKind.{ScalarKind}
use Rattle.ir_kinds.specs.contracts.scalars.ScalarKindPartialEq.TheImpl as kind
use Rattle.ir_kinds.specs.declared.images.ImageClass.{ImageClass}
use Rattle.ir_kinds.specs.contracts.images.ImageClass as class
use Rattle.ir_kinds.specs.contracts.images.ImageClassPartialEq.TheImpl as of_class
use Rattle.ir_kinds.specs.declared.images.StorageFormat.{StorageFormat}
use Rattle.ir_kinds.specs.contracts.images.StorageFormatPartialEq.TheImpl as format
use Rattle.ir_kinds.specs.IrFlags.{StorageAccess}
use Rattle.ir_kinds.specs.IrFlags.access as access
use Rattle.ir_kinds.specs.contracts.bindings.BuiltInPartialEq.TheImpl as built_in
use Rattle.ir_kinds.specs.declared.bindings.Binding.{Binding}
use Rattle.ir_kinds.specs.contracts.bindings.Binding as binding
use Rattle.ir_kinds.specs.contracts.bindings.BindingPartialEq.TheImpl as bound
use Rattle.ir_types.proofs.BuiltIns.{same_built_in}
use Rattle.ir_types.proofs.Choices.{Test, Laws, both, same_view}

-- if `==` of some values is equality, so is that of options and lists of them, by their views
pub same_option : {A : Type 0} (eq : A → A → Bool) → ((a b : A) → IsTrue (eq a b) → a ≡ b) → (x y : Option A) → IsTrue (option_eq eq x y) → x ≡ y
same_option eq same None None e = refl
same_option eq same None (Some y) e = absurd (true≢false (sym e))
same_option eq same (Some x) None e = absurd (true≢false (sym e))
same_option eq same (Some x) (Some y) e = ap Some (same x y e)

pub same_list : {A B : Type 0} (view : A → B) (eq : A → A → Bool) → ((a b : A) → IsTrue (eq a b) → view a ≡ view b) → (xs ys : List A) → IsTrue (pointwise eq xs ys) → map view xs ≡ map view ys
same_list view eq same [] [] e = refl
same_list view eq same [] (y ∷ ys) e = absurd (true≢false (sym e))
same_list view eq same (x ∷ xs) [] e = absurd (true≢false (sym e))
same_list view eq same (x ∷ xs) (y ∷ ys) e =
    let h : IsTrue (eq x y) × IsTrue (pointwise eq xs ys) = both (eq x y) (pointwise eq xs ys) e in
    λ i. same x y h.0 i ∷ same_list view eq same xs ys h.1 i

pub same_number : (a b : ℕ) → IsTrue (nat_eq a b) → a ≡ b
same_number a b e = search rules

pub same_flag : (a b : Bool) → IsTrue (beq a b) → a ≡ b
same_flag a b e = search rules

pub same_handle : (a b : ℕ) → IsTrue (nat_eq a b && true) → a ≡ b
same_handle a b e = same_number a b (both (nat_eq a b) true e).0

same_kind : (a b : ScalarKind) → IsTrue (kind.ghosts.eq a b) → a ≡ b
same_kind a b e = search rules

same_format : (a b : StorageFormat) → IsTrue (format.ghosts.eq a b) → a ≡ b
same_format a b e = search rules

same_access : (a b : StorageAccess) → IsTrue (access.ghosts.eq a b) → a ≡ b
same_access a b e = search rules

same_interpolation : (a b : Interpolation) → IsTrue (interpolation.ghosts.eq a b) → a ≡ b
same_interpolation a b e = search rules

same_sampling : (a b : Sampling) → IsTrue (sampling.ghosts.eq a b) → a ≡ b
same_sampling a b e = search rules

abbrev pub number : Test ℕ
number = (nat_eq, same_number)

abbrev pub flag : Test Bool
flag = (beq, same_flag)

abbrev pub handle : Test ℕ
handle = ((λ a b. nat_eq a b && true), same_handle)

abbrev pub missing : {A : Type 0} → Test A → Test (Option A)
missing test = (option_eq test.0, same_option test.0 test.1)

abbrev classes : Laws class.enum.parts class.enum.make
classes = (
  inl ((kind.ghosts.eq, same_kind), (flag, tt)),
  (
    inl (flag, tt),
    (
      inl tt,
      (inl ((format.ghosts.eq, same_format), ((access.ghosts.eq, same_access), tt)), tt),
    ),
  ),
)

pub same_class : (a b : ImageClass) → IsTrue (of_class.ghosts.eq a b) → a ≡ b
same_class a b e = same_view class.enum (λ x. x) classes a b e

abbrev bindings : Laws binding.enum.parts binding.enum.make
bindings = (
  inl ((built_in.ghosts.eq, same_built_in), tt),
  (inl (number, (missing (interpolation.ghosts.eq, same_interpolation), (missing (sampling.ghosts.eq, same_sampling), (missing number, (flag, tt))))), tt),
)

pub same_binding : (a b : Binding) → IsTrue (bound.ghosts.eq a b) → a ≡ b
same_binding a b e = same_view binding.enum (λ x. x) bindings a b e
