-- Look-ups by the handles of a module.
use Rattle.std.proofs.Common.{◌≡◌, ◌<◌, ℕ, zero, suc, List, [], ◌∷◌, length, map, Option, Some, None, option_map, slice_get, refl, sym, ap, ◌∙◌, arith, true≢false}
use Rattle.std.specs.Prelude.{IsSome}
use Rattle.std.proofs.lemmas.Option.{same_Some, slice_get-map}
use Rattle.ir_arena.specs.found.Arenas.{value_at, value_of_entry}
use Rattle.ir_arena.specs.declared.span.Span.{Span}
use Rattle.ir_types.specs.judged.Plain.{PlainType, inner_view, type_view}
use Rattle.ir_types.specs.declared.types.IrType.{IrType}
use Rattle.typing_forms.specs.judged.Resolutions.{inner_at, types_view}

none_in : {A : Type 0} (xs : List A) (i : ℕ) → (i < length xs → ⊥) → slice_get xs i ≡ None
none_in [] i past = refl
none_in (x ∷ xs) zero past = absurd (past (omega arith))
none_in (x ∷ xs) (suc i) past = none_in xs i (λ lt. past (omega (arith, lt)))

module _ {T V : Type 0} (view : T → V) (entries : List (T × Span)) (h : ℕ) where
  pub found : (v : T) → Some v ≡ value_at entries h → slice_get (map view (map value_of_entry entries)) h ≡ Some (view v)
  found v at = slice_get-map view (map value_of_entry entries) h ∙ ap (option_map view) (slice_get-map value_of_entry entries h ∙ sym at)

  pub missing : (h < length entries → ⊥) → slice_get (map view (map value_of_entry entries)) h ≡ None
  missing past = slice_get-map view (map value_of_entry entries) h ∙ ap (option_map view) (slice_get-map value_of_entry entries h ∙ ap (option_map value_of_entry) (none_in entries h past))

module _ (entries : List (IrType × Span)) (h : ℕ) where
  pub inner_found : (t : IrType) → Some t ≡ value_at entries h → inner_at (types_view entries) h ≡ Some (inner_view t.inner)
  inner_found t at = ap (option_map (λ (x : PlainType). x.inner)) (found type_view entries h t at)

  pub inner_missing : (h < length entries → ⊥) → inner_at (types_view entries) h ≡ None
  inner_missing past = ap (option_map (λ (x : PlainType). x.inner)) (missing type_view entries h past)

-- ---- options

pub none_some : {A : Type 0} (o : Option A) (x : A) → o ≡ None → o ≡ Some x → ⊥
none_some o x none some = cc

pub is_some_by : {A : Type 0} (o : Option A) (x : A) → o ≡ Some x → IsSome o
is_some_by (Some y) x e = refl
is_some_by None x e = cc

pub not_some_by : {A : Type 0} (o : Option A) → o ≡ None → IsSome o → ⊥
not_some_by (Some y) e some = cc
not_some_by None e some = true≢false (sym some)
