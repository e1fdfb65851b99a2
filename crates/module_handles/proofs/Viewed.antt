-- Items as plain data, and the properties they keep.
use Rattle.std.proofs.Common.{◌≡◌, ℕ, List, map, Option, Some, option_map, sym, ap, ◌∙◌, subst, slice_get}
use Rattle.std.proofs.lemmas.Option.{slice_get-map}
use Rattle.std.specs.Option.{MatchOption}
use Rattle.ir_arena.specs.found.Arenas.{value_at}
use Rattle.ir_arena.specs.declared.span.Span.{Span}
use Rattle.ir_items.specs.found.GlobalView.{values_of}
use Rattle.typing_references.proofs.Entries.{slice_get-entries}
use Rattle.typing_references.proofs.FaultLaws.{map_some}
use Rattle.typing_references.specs.declared.fault.HandleFault.{HandleFault}
use Rattle.module_handles.proofs.PassLemmas.{weaker}
use Rattle.module_handles.specs.Lists.{AllPass, SomeFails}

module _ {T A : Type 0} (view : T → A) where
  -- the value at a handle, as plain data
  pub entry_at : (entries : List (T × Span)) (place handle : ℕ) (x : T) → handle ≡ place → Some x ≡ value_at entries handle → slice_get (map view (values_of entries)) place ≡ Some (view x)
  entry_at entries place handle x same at =
      subst (λ p. slice_get (map view (values_of entries)) p ≡ Some (view x)) same (slice_get-entries view entries handle ∙ ap (option_map view) (sym at))

  module _ (P : ℕ → A → Type 0) (Q : ℕ → A → HandleFault → Type 0) (F : HandleFault → Type 0) (items : List T) where
    all_viewed : AllPass (λ i x. P i (view x)) items → (i : ℕ) (y : A) → slice_get (map view items) i ≡ Some y → P i y
    all_viewed all i y at =
        let r = map_some view (slice_get items i) y (sym (slice_get-map view items i) ∙ at) in
        subst (P i) (sym r.2) (all i r.0 r.1)

    -- a property of the items holds of them as plain data
    pub reported_viewed : ((i : ℕ) (y : A) (h : HandleFault) → slice_get (map view items) i ≡ Some y → Q i y h → F h) → (o : Option HandleFault)
        → MatchOption o (AllPass (λ i x. P i (view x)) items) (SomeFails (λ i x h. Q i (view x) h) items) → MatchOption o ((i : ℕ) (y : A) → slice_get (map view items) i ≡ Some y → P i y) F
    reported_viewed says o told =
        weaker o all_viewed (λ h f. says f.0 (view f.1) h (slice_get-map view items f.0 ∙ ap (option_map view) f.2) f.3) told
