-- A type that is equal to an earlier one is rejected.
use Rattle.std.proofs.Common.{◌≡◌, ℕ, suc, ◌+◌, List, [], ◌∷◌, ◌++◌, length, map, Contains, Bool, true, false, refl, sym, ap, subst, ◌∙◌, arith}
use Rattle.std.proofs.lemmas.List.{map-append, length-append}
use Rattle.ir_arena.specs.found.Arenas.{has_equal, with_entry}
use Rattle.ir_arena.specs.declared.span.Span.{Span}
use Rattle.ir_types.specs.judged.Plain.{type_view}
use Rattle.ir_types.specs.declared.types.IrType.{IrType}
use Rattle.ir_types.specs.contracts.types.IrTypePartialEq.TheImpl.{ghosts}
use Rattle.ir_types.proofs.TypeEquality.{type_eq}

-- an equal type in the arena has an equal view
equal_is_held : (entries : List (IrType × Span)) (x : IrType) → has_equal ghosts.eq entries x ≡ true → Contains (map type_view (map (λ e. e.0) entries)) (type_view x)
equal_is_held [] x e = cc
equal_is_held (y ∷ ys) x e =
    elim (ghosts.eq x y.0) as (λ b. ghosts.eq x y.0 ≡ b → Contains (map type_view (map (λ (t : IrType × Span). t.0) (y ∷ ys))) (type_view x)) [
      | true ↦ λ same. (0, omega arith, sym ((type_eq x y.0).0 same))
      | false ↦ λ other.
          let rest : has_equal ghosts.eq ys x ≡ true = rw other at e in
          let there = equal_is_held ys x rest in
          (suc there.0, (let lt = there.1 in omega arith), there.2)
    ] refl

-- if the arena has not grown, the type is in it
pub not_grown : (old new : List (IrType × Span)) (x : IrType) (span : Span) → new ≡ with_entry ghosts.eq old x span → length new ≡ length old → Contains (map type_view (map (λ e. e.0) old)) (type_view x)
not_grown old new x span is same =
    elim (has_equal ghosts.eq old x) as (λ b. has_equal ghosts.eq old x ≡ b → Contains (map type_view (map (λ (t : IrType × Span). t.0) old)) (type_view x)) [
      | true ↦ λ e. equal_is_held old x e
      | false ↦ λ e. absurd (let grown : new ≡ old ++ (x, span) ∷ [] = rw e at is in let len = ap length grown ∙ length-append old ((x, span) ∷ []) in omega arith)
    ] refl
