-- If scope is valid, used expressions may be used.
use Rattle.std.proofs.Common.{◌≡◌, ℕ, List, [], ◌∷◌, ◌++◌, ◌⊎◌, inl, inr, ⊎_elim, Option, Some, None, Contains, slice_get, refl, subst}
use Rattle.ir_blocks.specs.judged.Places.{Place, here, later, inside, condition, OccursAt}
use Rattle.ir_blocks.specs.judged.Plain.{PlainStatement, PlainBlock, stop, next}
use Rattle.ir_blocks.specs.judged.Shapes.{inner, accepting, rejecting, case_at, loop_body, loop_continuing, shape_of, part_of}
use Rattle.ir_types.specs.judged.ExpressionPlain.{PlainExpression}
use Rattle.ir_items.specs.judged.Plain.{PlainFunction}
use Rattle.spec_statements.proofs.ScopeLaws.{none_held, scope_by_walk_lem}
use Rattle.spec_statements.specs.judged.Scope.{PreEmitted}
use Rattle.spec_statements.specs.judged.Tables.{introduced}
use Rattle.spec_statements.specs.found.SureLevel.{visible_by}
use Rattle.spec_statements.specs.judged.Visible.{top_level, visible}
use Rattle.spec_runs.specs.judged.Laws.{SkippedIsLawful, ScopeSuffices}
use Rattle.spec_runs.specs.judged.Machine.{introduced_operands}
use Rattle.spec_runs.specs.judged.Scoping.{UsedOperands, Scoping, IsUsable, AreUsable, IsScoped}

-- if the top level keeps all that it introduces, the visible expressions are those that a walk carries
visible_is : (p : Place) (outer : List ℕ) (b : PlainBlock) → visible outer p b ≡ visible_by top_level outer p b
visible_is here outer b = refl
visible_is (later p) outer stop = refl
visible_is (later p) outer (next s rest) = visible_is p (outer ++ introduced s) rest
visible_is (inside part p) outer stop = refl
visible_is (inside inner p) outer (next s rest) = visible_is p outer (part_of (shape_of s) inner)
visible_is (inside accepting p) outer (next s rest) = visible_is p outer (part_of (shape_of s) accepting)
visible_is (inside rejecting p) outer (next s rest) = visible_is p outer (part_of (shape_of s) rejecting)
visible_is (inside (case_at k) p) outer (next s rest) = visible_is p outer (part_of (shape_of s) (case_at k))
visible_is (inside loop_body p) outer (next s rest) = visible_is p outer (part_of (shape_of s) loop_body)
visible_is (inside loop_continuing p) outer (next s rest) = visible_is p (outer ++ top_level (part_of (shape_of s) loop_body)) (part_of (shape_of s) loop_continuing)
visible_is condition outer stop = refl
visible_is condition outer (next s rest) = refl

pub skipped_is_lawful : SkippedIsLawful
skipped_is_lawful = record { leaves = λ b e held. held; first = λ s rest e held. held; skips = λ s rest e goes held. refl }

pub scope_suffices : ScopeSuffices
scope_suffices f ok = record {
  at_spots = λ p o checks. ⊎_elim (λ a. inl a) (λ held. inr (subst (λ xs. Contains xs o) (visible_is p [] f.body) held)) ((scope_by_walk_lem f p o).0 (ok.in_scope p o checks));
  at_introductions = λ p s stands before e after is x at o held. none_held o held;
}

-- a scoped expression may be used if all that is in scope there is live
module _ (u : UsedOperands) (g : Scoping) (f : PlainFunction) (scoped : IsScoped u g f) where
  pub known : (live skipped scope : List ℕ) (o : ℕ) → AreUsable g f live skipped scope → PreEmitted f o ⊎ Contains scope o → IsUsable g f live skipped o
  known live skipped scope o there h = ⊎_elim (λ a. inl a) (λ held. there.each o held) h

  pub introduced_known : (p : Place) (s : PlainStatement) → OccursAt f.body p s → (before : List ℕ) (e : ℕ) (after : List ℕ) → introduced s ≡ before ++ (e ∷ after) → (live skipped : List ℕ) → AreUsable g f live skipped (visible_by g.level [] p f.body ++ before)
      → (o : ℕ) → Contains (introduced_operands u (slice_get f.expressions e)) o → IsUsable g f live skipped o
  introduced_known p s stands before e after is live skipped there o held = by_get (slice_get f.expressions e) refl held
    where
      by_get : (x : Option PlainExpression) → slice_get f.expressions e ≡ x → Contains (introduced_operands u x) o → IsUsable g f live skipped o
      by_get (Some x) at h = known live skipped (visible_by g.level [] p f.body ++ before) o there (scoped.at_introductions p s stands before e after is x at o h)
      by_get None at h = none_held o h
