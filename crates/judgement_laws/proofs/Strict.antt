-- Strict scope holds of each body that is alike.
use Rattle.std.proofs.Common.{◌≡◌, ◌⊎◌, inl, inr, ⊎_elim, ℕ, Option, None, refl, sym, ap, subst, ◌∙◌}
use Rattle.std.specs.Prelude.{Contains}
use Rattle.ir_blocks.specs.judged.Plain.{PlainStatement, PlainOperation, emit, continue, return, operation, ray_query, ballot, PlainBlock}
use Rattle.ir_blocks.specs.judged.Places.{Place, Spot, nothing, statement, loop_condition, spot_at, OccursAt}
use Rattle.ir_blocks.specs.judged.Tails.{head_of}
use Rattle.ir_blocks.specs.found.View.{HoldsNoBlock}
use Rattle.ir_blocks.specs.declared.operations.RayQueryFunction.TheVariants.{Proceed}
use Rattle.ir_items.specs.judged.Plain.{PlainFunction}
use Rattle.spec_statements.specs.judged.Strict.{MaySkip, InStrictScope, StrictOK, Needs, statement_needed, needed_at}
use Rattle.judgement_laws.specs.found.Alike.{IsCarried, Alike}
use Rattle.judgement_laws.proofs.Bodies.{carry, looks, is_same, none_contained, introduces}
use Rattle.judgement_laws.proofs.Heads.{needed_head}

-- a statement without blocks is in the other body too
stands_too : {b c : PlainBlock} (u : PlainStatement) → HoldsNoBlock u → head_of u ≡ u → (return None ≡ u → ⊥) → IsCarried b c → (p : Place) → OccursAt b p u → OccursAt c p u
stands_too u none own other h p stands = let k = carry (λ s. s ≡ u) (is_same u none own) other h p u stands refl in k.1 ∙ ap statement k.2

skips : {b c : PlainBlock} → IsCarried b c → (q p : Place) → MaySkip b q p → MaySkip c q p
skips h q p (at, leads, stands) = (at, leads, stands_too continue tt refl (λ is. (let x = is in cc)) h at stands)

in_strict : (f : PlainFunction) (c : PlainBlock) → Alike f.body c → (p : Place) (e : ℕ) → InStrictScope f p e → InStrictScope (record f { body = c }) p e
in_strict f c a p e (inl pre) = inl pre
in_strict f c a p e (inr x) = inr (x.0, x.1, introduces a.there x.0 e x.2, λ m. x.3 (skips a.back x.0 p m))

needs : {b c : PlainBlock} → IsCarried b c → (p : Place) (e : ℕ) → Needs b p e → Needs c p e
needs {b} {c} h p e i = at (spot_at p b) refl i
  where
    in_condition : (break_if : Option ℕ) → (spot_at p c ≡ loop_condition break_if) ⊎ (break_if ≡ None) → Contains (needed_at (loop_condition break_if)) e → Needs c p e
    in_condition break_if (inl same) i = subst (λ x. Contains (needed_at x) e) (sym same) i
    in_condition break_if (inr none) i = absurd (none_contained e (subst (λ o. Contains (needed_at (loop_condition o)) e) none i))

    at : (x : Spot) → spot_at p b ≡ x → Contains (needed_at x) e → Needs c p e
    at nothing is i = absurd (none_contained e i)
    at (loop_condition break_if) is i = in_condition break_if (h.conditions p break_if is) i
    at (statement s) is i =
        let k = carry (λ u. Contains (statement_needed u) e) (looks statement_needed needed_head (λ xs. Contains xs e)) (none_contained e) h p s is i in
        subst (λ x. Contains (needed_at x) e) (sym k.1) k.2

no_operation : (a : PlainOperation) → return None ≡ operation a → ⊥
no_operation a is = let x = is in cc

pub strict_moves : (f : PlainFunction) (c : PlainBlock) → Alike f.body c → StrictOK f → StrictOK (record f { body = c })
strict_moves f c a ok = record {
  used = λ p o h. in_strict f c a p o (ok.used p o (needs a.back p o h));
  emitted = λ p first end stands e ge lt x at o held.
      ⊎_elim (λ own. inl own) (λ scope. inr (in_strict f c a p o scope)) (ok.emitted p first end (stands_too (emit first end) tt refl (λ is. (let y = is in cc)) a.back p stands) e ge lt x at o held);
  proceeds = λ p query result stands. ok.proceeds p query result (stands_too (operation (ray_query query (Proceed result))) tt refl (no_operation _) a.back p stands);
  ballots = λ p result predicate stands. ok.ballots p result predicate (stands_too (operation (ballot result predicate)) tt refl (no_operation _) a.back p stands);
}
