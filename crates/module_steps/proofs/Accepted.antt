-- The `TypeInfo`s of types, one by one.
use Rattle.std.proofs.Common.{◌≡◌, ◌<◌, ◌≤◌, ◌+◌, ◌++◌, inl, inr, ℕ, zero, suc, List, [], ◌∷◌, Some, Bool, length, slice_get, refl, sym, ap, subst, ◌∙◌, arith, length-append}
use Rattle.ir_arena.specs.declared.span.Span.{Span}
use Rattle.ir_flags.specs.declared.settings.Capabilities.{Capabilities}
use Rattle.ir_types.specs.judged.Plain.{PlainType}
use Rattle.ir_types.specs.declared.types.IrType.{IrType}
use Rattle.module_context.specs.AcceptedTypes.{IsAccepted, AreAcceptedBelow, AreAccepted}
use Rattle.module_steps.specs.Validated.{IsRefusedFor, IsNextRefused, IsFirstRefused}
use Rattle.module_steps.specs.declared.validate.InvalidType.{InvalidType}
use Rattle.module_type_checks.specs.Known.{types_in, IsKnown}
use Rattle.module_type_checks.specs.declared.context.TypeContext.{TypeContext}
use Rattle.typing_layout.specs.declared.info.TypeInfo.{TypeInfo}
use Rattle.typing_forms.specs.judged.Order.{TypesGoBack}
use Rattle.typing_forms.specs.judged.Resolutions.{types_view}
use Rattle.typing_layout.proofs.Held.{pushed}
use Rattle.typing_layout.specs.found.Held.{AreLayouts}

pub known_from : (c : TypeContext) (place : ℕ) → TypesGoBack (types_in c) → AreLayouts (types_in c) c.layouter.now → place ≤ length c.layouter.now
    → AreAcceptedBelow c.capabilities c.overrides_resolved (types_in c) c.infos.now place → IsKnown c
known_from c place back held le accepted = record {
  back = back;
  held = held;
  told = record { each = λ handle i at. (accepted.each handle i at).info };
  laid = omega (arith, accepted.many, le);
}

pub accepted_none : (k : Capabilities) (resolved : Bool) (types : List PlainType) (infos : List TypeInfo) → infos ≡ [] → AreAcceptedBelow k resolved types infos 0
accepted_none k resolved types infos none = subst (λ xs. AreAcceptedBelow k resolved types xs 0) (sym none) (record { many = refl; each = λ handle i at. cc })

pub accepted_more : (k : Capabilities) (resolved : Bool) (types : List PlainType) (infos new : List TypeInfo) (place handle : ℕ) (i : TypeInfo) → AreAcceptedBelow k resolved types infos place → handle ≡ place
    → IsAccepted k resolved types handle i → new ≡ infos ++ i ∷ [] → AreAcceptedBelow k resolved types new (place + 1)
accepted_more k resolved types infos new place handle i before same here is =
    subst (λ xs. AreAcceptedBelow k resolved types xs (place + 1)) (sym is)
    (record {
      many = omega (arith, length-append infos (i ∷ []), before.many);
      each = λ h x at. elim (pushed infos i h x at) [
        | inl old ↦ before.each h x old
        | inr last ↦
            subst (λ y. IsAccepted k resolved types h y) last.1
            (subst (λ n. IsAccepted k resolved types n i) (same ∙ sym before.many ∙ sym last.0) here)
      ];
    })

pub many_types : (entries : List (IrType × Span)) → length (types_view entries) ≡ length entries
many_types [] = refl
many_types (x ∷ xs) = ap suc (many_types xs)

pub accepted_all : (k : Capabilities) (resolved : Bool) (entries : List (IrType × Span)) (infos : List TypeInfo) (place : ℕ) → AreAcceptedBelow k resolved (types_view entries) infos place → place ≡ length entries
    → AreAccepted k resolved (types_view entries) infos
accepted_all k resolved entries infos place accepted all = subst (AreAcceptedBelow k resolved (types_view entries) infos) (all ∙ sym (many_types entries)) accepted

-- the element at an index of a list that is long enough
there : {A : Type 0} (xs : List A) (k : ℕ) → k < length xs → (x : A) × (slice_get xs k ≡ Some x)
there [] k lt = absurd (omega arith)
there (x ∷ xs) zero lt = (x, refl)
there (x ∷ xs) (suc k) lt = there xs k (omega arith)

pub first_refused : (k : Capabilities) (resolved : Bool) (entries : List (IrType × Span)) (infos : List TypeInfo) (place handle : ℕ) (e f : InvalidType) → AreAcceptedBelow k resolved (types_view entries) infos place
    → handle ≡ place → place < length entries → IsNextRefused k resolved (types_view entries) handle e → f ≡ e → IsFirstRefused k resolved (types_view entries) f
first_refused k resolved entries infos place handle e f accepted same lt refused is = subst (IsFirstRefused k resolved (types_view entries)) (sym is) (record {
  within = omega (arith, refused.0, same, lt, many_types entries);
  fault = subst (λ h. IsRefusedFor k resolved (types_view entries) h e.error) (sym refused.0) refused.1;
  before = λ h less. let x = there infos h (omega (arith, less, refused.0, same, accepted.many)) in (accepted.each h x.0 x.1).ok;
})
