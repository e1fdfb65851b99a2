-- The definition of the stages that may run the functions of a module has a unique solution.
use Rattle.std.proofs.Common.{◌≡◌, inl, inr, ℕ, zero, suc, ◌<◌, ◌≤◌, List, length, Some, None, refl, sym, ap, subst, arith, slice_get}
use Rattle.std.specs.Prelude.{◌↔◌, unwrap_or}
use Rattle.std.proofs.lemmas.Bool.{cases_eq, cases_lt}
use Rattle.std.proofs.lemmas.Option.{slice_get_past}
use Rattle.ir_blocks.specs.judged.Places.{Place, OccursAt}
use Rattle.ir_blocks.specs.judged.Plain.{PlainStatement, emit, block, if_, switch, loop, break, continue, return, kill, operation, call, PlainOperation, control_barrier}
use Rattle.ir_types.specs.judged.ExpressionPlain.{PlainExpression, compose, plain}
use Rattle.ir_types.specs.declared.expressions.Expression.{Expression}
use Rattle.ir_types.specs.declared.expressions.Expression.TheVariants as x
use Rattle.ir_flags.specs.Sets.{Has}
use Rattle.ir_flags.specs.declared.stages.ShaderStages.{ShaderStages}
use Rattle.ir_flags.specs.declared.settings.Settings.{Settings}
use Rattle.ir_items.specs.judged.Plain.{PlainFunction, PlainModule}
use Rattle.spec_statements.proofs.SpecExpressions.{get-within}
use Rattle.spec_interface.specs.judged.Modules.{AreStages}
use Rattle.spec_statements.specs.SpecExpressions.{CalleesPrecede, computed, done, expression_names, statement_calls}
use Rattle.spec_statements.specs.judged.ExpressionStages.{all_stages, callee_stages, stages_of}
use Rattle.spec_statements.specs.judged.Functions.{AllowsStage}
use Rattle.spec_statements.specs.judged.ModuleFunctions.{reading_over}
use Rattle.spec_statements.specs.judged.Stages.{statement_stages}

-- ---- a function's stages, given those of its callees

-- the sets have the same members
abbrev pub SameStages : ShaderStages → ShaderStages → Type 0
SameStages a b = (stage : ℕ) → Has a.0 stage ↔ Has b.0 stage

same : (a : ShaderStages) → SameStages a a
same a stage = (λ h. h, λ h. h)

-- the lists have the same stages of this many functions
abbrev pub Agree : (index : ℕ) → (a b : List ShaderStages) → Type 0
Agree index a b = (earlier : ℕ) → earlier < index → SameStages (callee_stages a earlier) (callee_stages b earlier)

module _ (index : ℕ) (f : PlainFunction) (a b : List ShaderStages) (precede : CalleesPrecede index f) (agree : Agree index a b) where
  operation_same : (subgroups : ShaderStages) (o : PlainOperation) → SameStages (statement_stages subgroups a (operation o)) (statement_stages subgroups b (operation o))
  operation_same subgroups (control_barrier barrier) stage = (λ h. h, λ h. h)
  operation_same subgroups _ stage = (λ h. h, λ h. h)

  statement_same : (subgroups : ShaderStages) (p : Place) (u : PlainStatement) → OccursAt f.body p u → SameStages (statement_stages subgroups a u) (statement_stages subgroups b u)
  statement_same subgroups p (emit first end) stands = same all_stages
  statement_same subgroups p (block body) stands = same all_stages
  statement_same subgroups p (if_ condition accept reject) stands = same all_stages
  statement_same subgroups p (switch selector cases) stands = same all_stages
  statement_same subgroups p (loop body continuing break_if) stands = same all_stages
  statement_same subgroups p break stands = same all_stages
  statement_same subgroups p continue stands = same all_stages
  statement_same subgroups p (return value) stands = same all_stages
  statement_same subgroups p kill stands = same (statement_stages subgroups a kill)
  statement_same subgroups p (operation o) stands = operation_same subgroups o
  statement_same subgroups p (call function arguments answer) stands = agree function (precede (done p) function (statement_calls stands refl))

  plain_same : (e : ℕ) (v : Expression) → slice_get f.expressions e ≡ Some (plain v) → SameStages (stages_of a (plain v)) (stages_of b (plain v))
  plain_same e (x.CallResult function) at = agree function (precede (computed e) function (expression_names at refl))
  plain_same e _ at = λ stage. (λ h. h, λ h. h)

  expression_same : (e : ℕ) (v : PlainExpression) → slice_get f.expressions e ≡ Some v → SameStages (stages_of a v) (stages_of b v)
  expression_same e (compose type components) at = same all_stages
  expression_same e (plain v) at = plain_same e v at

  pub allows_other : (s : Settings) (m : PlainModule) (stage : ℕ) → AllowsStage (reading_over a m f) s a f stage → AllowsStage (reading_over b m f) s b f stage
  allows_other s m stage h = record {
    statements = λ asked p u stands. (statement_same s.subgroup_stages p u stands stage).0 (h.statements asked p u stands);
    expressions = λ asked e z lt run.
        subst (λ (t : ShaderStages). Has t.0 stage) (sym run.run_by)
        ((expression_same e run.expression run.at stage).0 (h.expressions asked e (stages_of a run.expression) lt (record { expression = run.expression; at = run.at; run_by = refl })));
  }

-- ---- by strong induction on the functions

turned : (index : ℕ) (a b : List ShaderStages) → Agree index a b → Agree index b a
turned index a b agree earlier lt stage = let h = agree earlier lt stage in (h.1, h.0)

module _ (s : Settings) (m : PlainModule) (precede : (i : ℕ) (f : PlainFunction) → slice_get m.functions i ≡ Some f → CalleesPrecede i f) (a b : List ShaderStages) (as_ : AreStages s m a) (bs : AreStages s m b) where
  abbrev SameAt : ℕ → Type 0
  SameAt index = SameStages (callee_stages a index) (callee_stages b index)

  one_way : (c d : List ShaderStages) (cs : AreStages s m c) (ds : AreStages s m d) (index : ℕ) (f : PlainFunction) (own other : ShaderStages) → slice_get m.functions index ≡ Some f → slice_get c index ≡ Some own
      → slice_get d index ≡ Some other → Agree index c d → (stage : ℕ) → Has own.0 stage → Has other.0 stage
  one_way c d cs ds index f own other at here there agree stage h =
      let r = (cs.each index f own at here stage).0 h in
      (ds.each index f other at there stage).1 (r.0, allows_other index f c d (precede index f at) agree s m stage r.1)

  found_same : (index : ℕ) (f : PlainFunction) (own other : ShaderStages) → slice_get m.functions index ≡ Some f → slice_get a index ≡ Some own → slice_get b index ≡ Some other → Agree index a b
      → SameStages own other
  found_same index f own other at here there agree stage =
      (one_way a b as_ bs index f own other at here there agree stage, one_way b a bs as_ index f other own at there here (turned index a b agree) stage)

  named : (c : List ShaderStages) (index : ℕ) (own : ShaderStages) → slice_get c index ≡ Some own → callee_stages c index ≡ own
  named c index own at = ap (λ o. unwrap_or o all_stages) at

  unnamed : (c : List ShaderStages) (index : ℕ) → slice_get c index ≡ None → callee_stages c index ≡ all_stages
  unnamed c index at = ap (λ o. unwrap_or o all_stages) at

  within : (index : ℕ) → index < length m.functions → Agree index a b → SameAt index
  within index lt agree =
      let f = get-within m.functions index lt in
      let own = get-within a index (subst (λ n. index < n) (sym as_.many) lt) in
      let other = get-within b index (subst (λ n. index < n) (sym bs.many) lt) in
      subst (λ z. SameStages z (callee_stages b index)) (sym (named a index own.0 own.1))
      (subst (λ z. SameStages own.0 z) (sym (named b index other.0 other.1)) (found_same index f.0 own.0 other.0 f.1 own.1 other.1 agree))

  past : (index : ℕ) → length m.functions ≤ index → SameAt index
  past index le =
      subst (λ z. SameStages z (callee_stages b index)) (sym (unnamed a index (slice_get_past a index (let n = as_.many in omega (arith, le, n)))))
      (subst (λ z. SameStages all_stages z) (sym (unnamed b index (slice_get_past b index (let n = bs.many in omega (arith, le, n))))) (same all_stages))

  same_at : (n : ℕ) → Agree n a b → SameAt n
  same_at n agree = elim (cases_lt n (length m.functions)) [ inl lt ↦ within n lt agree | inr le ↦ past n le ]

  pub all_agree : (n : ℕ) → Agree n a b
  all_agree zero earlier lt = absurd (omega (arith, lt))
  all_agree (suc n) earlier lt = elim (cases_eq earlier n) [
    | inl here ↦ subst SameAt (sym here) (same_at n (all_agree n))
    | inr differ ↦ all_agree n earlier (omega (arith, lt, differ))
  ]
