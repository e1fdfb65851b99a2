-- A type refers to the types of its members.
use Rattle.std.proofs.Common.{◌≡◌, ◌↔◌, ◌<◌, ◌≤◌, ◌+◌, ◌⊎◌, inl, inr, rules, ℕ, zero, suc, List, [], ◌∷◌, map, length, arith, Bool, IsTrue, All, Some, sym, subst}
use Rattle.std.proofs.lemmas.List.Elements.{All-map}
use Rattle.ir_types.specs.IrArena.{Span, value_at}
use Rattle.ir_types.specs.declared.types.IrType.{IrType}
use Rattle.typing_forms.proofs.Lookups.{inner_found}
use Rattle.ir_types.specs.judged.Plain.{PlainInner, PlainMember, PlainType, member_view, inner_view}
use Rattle.typing_forms.specs.judged.Resolutions.{types_view, inner_at}
use Rattle.ir_types.specs.declared.types.StructMember.{StructMember}
use Rattle.ir_types.specs.declared.types.TypeInner.{TypeInner}
use Rattle.ir_types.specs.declared.types.TypeInner.TheVariants as inner
use Rattle.typing_forms.specs.judged.Order.{named_types, TypesGoBack}

all_members : (b : ℕ) (ms : List StructMember) → All (λ named. named < b) (map (λ m. m.ty) (map member_view ms)) → All (λ m. m.ty < b) ms
all_members b [] h k d lt = absurd (omega arith)
all_members b (m ∷ ms) h zero d lt = h zero 0 (omega arith)
all_members b (m ∷ ms) h (suc k) d lt = all_members b ms (λ j e l. h (suc j) e (omega arith)) k d (omega arith)

all_types : (b : ℕ) (ms : List StructMember) → All (λ m. m.ty < b) ms → All (λ named. named < b) (map (λ m. m.ty) (map member_view ms))
all_types b ms h =
    All-map (λ named. named < b) (λ (m : PlainMember). m.ty) (map member_view ms) (All-map (λ (m : PlainMember). m.ty < b) member_view ms h)

pub members_named : (b : ℕ) (i : TypeInner) (members span : _) (ms : List StructMember) (r : Bool) → i ≡ inner.Struct members span → ms ≡ members.items
    → IsTrue r ↔ All (λ m. m.ty < b) ms → IsTrue r ↔ All (λ named. named < b) (named_types (inner_view i))
members_named b i members span ms r is same below =
    subst (λ x. IsTrue r ↔ All (λ named. named < b) (named_types (inner_view x))) (sym is)
    (subst (λ xs. IsTrue r ↔ All (λ named. named < b) (map (λ (m : PlainMember). m.ty) (map member_view xs))) same
    ((λ h. all_types b ms (below.0 h)), (λ h. below.1 (all_members b ms h))))

-- each type before an index refers only to earlier types
pub record GoBackBelow (types : List PlainType) (place : ℕ) : Type 0 where
  pub each : (handle : ℕ) (i : PlainInner) → handle < place → inner_at types handle ≡ Some i → All (λ named. named < handle) (named_types i)

below_or_same : (h k : ℕ) → h < k + 1 → (h < k) ⊎ (h ≡ k)
below_or_same h k lt = search rules

pub back_more : (types : List PlainType) (place : ℕ) (i : PlainInner) → GoBackBelow types place → Some i ≡ inner_at types place → All (λ named. named < place) (named_types i)
    → GoBackBelow types (place + 1)
back_more types place i before at named =
    record { each = λ handle j lt there. elim (below_or_same handle place lt) [ inl less ↦ before.each handle j less there | inr same ↦ last handle j same there ] }
  where
    last : (handle : ℕ) (j : PlainInner) → handle ≡ place → inner_at types handle ≡ Some j → All (λ n. n < handle) (named_types j)
    last handle j same there =
        subst (λ h. All (λ n. n < h) (named_types j)) (sym same)
        (subst (λ x. All (λ n. n < place) (named_types x)) (let a = at in let b = there in let c = same in cc) named)

within : (entries : List (IrType × Span)) (handle : ℕ) (i : PlainInner) → inner_at (types_view entries) handle ≡ Some i → handle < length entries
within [] handle i e = absurd (let h = e in cc)
within (x ∷ xs) zero i e = omega arith
within (x ∷ xs) (suc h) i e = let before : h < length xs = within xs h i e in omega arith

pub back_all : (entries : List (IrType × Span)) (place : ℕ) → length entries ≤ place → GoBackBelow (types_view entries) place → TypesGoBack (types_view entries)
back_all entries place le before =
    record { each = λ handle i there. before.each handle i (let lt : handle < length entries = within entries handle i there in omega arith) there }

pub type_found : (entries : List (IrType × Span)) (h : ℕ) (t : IrType) → Some t ≡ value_at entries h → Some (inner_view t.inner) ≡ inner_at (types_view entries) h
type_found = inner_found
