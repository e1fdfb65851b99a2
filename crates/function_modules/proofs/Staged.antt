-- What is noted of functions that were judged one after the other is which stages may run them, each with its callees.
use Rattle.std.proofs.Common.{◌≡◌, ◌↔◌, ℕ, ◌<◌, List, length, Some, refl, sym, ap, subst, ◌∙◌, slice_get, unwrap_or}
use Rattle.std.proofs.lemmas.Option.{same_Some}
use Rattle.function_whole.specs.FunctionInterface.{question}
use Rattle.function_modules.specs.Judged.{IsNotedAt, AreNoted}
use Rattle.ir_blocks.specs.judged.Places.{Place, OccursAt}
use Rattle.ir_blocks.specs.judged.Plain.{PlainStatement, emit, block, if_, switch, loop, break, continue, return, kill, operation, call, PlainOperation, control_barrier}
use Rattle.ir_types.specs.judged.ExpressionPlain.{PlainExpression, compose, plain}
use Rattle.ir_types.specs.declared.expressions.Expression.{Expression}
use Rattle.ir_types.specs.declared.expressions.Expression.TheVariants as x
use Rattle.ir_flags.specs.Sets.{Has}
use Rattle.ir_flags.specs.declared.stages.ShaderStages.{ShaderStages}
use Rattle.ir_flags.specs.declared.settings.Settings.{Settings}
use Rattle.ir_items.specs.judged.Plain.{PlainFunction, PlainModule}
use Rattle.function_modules.specs.Readings.{reading_of}
use Rattle.spec_expressions.specs.judged.Summaries.{Summary}
use Rattle.spec_interface.specs.judged.Modules.{AreStages}
use Rattle.spec_statements.specs.judged.ModuleFunctions.{reading_over}
use Rattle.spec_expressions.specs.judged.FunctionHandles.{CalleesPrecede}
use Rattle.spec_expressions.specs.judged.References.{computed, done, expression_names, statement_calls}
use Rattle.spec_statements.specs.judged.ExpressionStages.{all_stages, callee_stages, stages_of}
use Rattle.spec_statements.specs.judged.Functions.{AllowsStage}
use Rattle.spec_statements.specs.judged.Stages.{statement_stages}

-- the two lists have the same stages of the functions that a function names
abbrev Alike : (index : ℕ) → (given noted : List ShaderStages) → Type 0
Alike index given noted = (earlier : ℕ) → earlier < index → slice_get given earlier ≡ slice_get noted earlier

module _ (index : ℕ) (f : PlainFunction) (given noted : List ShaderStages) (precede : CalleesPrecede index f) (alike : Alike index given noted) where
  same_callee : (function : ℕ) → function < index → callee_stages given function ≡ callee_stages noted function
  same_callee function lt = ap (λ o. unwrap_or o all_stages) (alike function lt)

  operation_same : (subgroups : ShaderStages) (a : PlainOperation) → statement_stages subgroups given (operation a) ≡ statement_stages subgroups noted (operation a)
  operation_same subgroups (control_barrier barrier) = refl
  operation_same subgroups _ = refl

  statement_same : (subgroups : ShaderStages) (p : Place) (u : PlainStatement) → OccursAt f.body p u → statement_stages subgroups given u ≡ statement_stages subgroups noted u
  statement_same subgroups p (emit first end) stands = refl
  statement_same subgroups p (block b) stands = refl
  statement_same subgroups p (if_ condition accept reject) stands = refl
  statement_same subgroups p (switch selector cases) stands = refl
  statement_same subgroups p (loop body continuing break_if) stands = refl
  statement_same subgroups p break stands = refl
  statement_same subgroups p continue stands = refl
  statement_same subgroups p (return value) stands = refl
  statement_same subgroups p kill stands = refl
  statement_same subgroups p (operation a) stands = operation_same subgroups a
  statement_same subgroups p (call function arguments answer) stands = same_callee function (precede (done p) function (statement_calls stands refl))

  plain_same : (e : ℕ) (v : Expression) → slice_get f.expressions e ≡ Some (plain v) → stages_of given (plain v) ≡ stages_of noted (plain v)
  plain_same e (x.CallResult function) at = same_callee function (precede (computed e) function (expression_names at refl))
  plain_same e _ at = refl

  expression_same : (e : ℕ) (v : PlainExpression) → slice_get f.expressions e ≡ Some v → stages_of given v ≡ stages_of noted v
  expression_same e (compose type components) at = refl
  expression_same e (plain v) at = plain_same e v at

  module _ (s : Settings) (m : PlainModule) (summaries : List Summary) (stage : ℕ) where
    pub allows_with : AllowsStage (reading_of (question m f summaries given)) s given f stage → AllowsStage (reading_over noted m f) s noted f stage
    allows_with a = record {
      statements = λ asked p u stands. subst (λ (z : ShaderStages). Has z.0 stage) (statement_same s.subgroup_stages p u stands) (a.statements asked p u stands);
      expressions = λ asked e z lt run.
          a.expressions asked e z lt (record { expression = run.expression; at = run.at; run_by = run.run_by ∙ sym (expression_same e run.expression run.at) });
    }

    pub allows_by : AllowsStage (reading_over noted m f) s noted f stage → AllowsStage (reading_of (question m f summaries given)) s given f stage
    allows_by a = record {
      statements = λ asked p u stands. subst (λ (z : ShaderStages). Has z.0 stage) (sym (statement_same s.subgroup_stages p u stands)) (a.statements asked p u stands);
      expressions = λ asked e z lt run.
          a.expressions asked e z lt (record { expression = run.expression; at = run.at; run_by = run.run_by ∙ expression_same e run.expression run.at });
    }

module _ (s : Settings) (m : PlainModule) (noted : List ShaderStages) (precede : (i : ℕ) (f : PlainFunction) → slice_get m.functions i ≡ Some f → CalleesPrecede i f) where
  noted_at : (index : ℕ) (f : PlainFunction) (own : ShaderStages) → slice_get m.functions index ≡ Some f → IsNotedAt reading_of s m noted index own
      → (stage : ℕ) → Has own.0 stage ↔ (Has all_stages.0 stage × AllowsStage (reading_over noted m f) s noted f stage)
  noted_at index f own at n stage =
      let same : n.function ≡ f = same_Some _ _ (sym n.at ∙ at) in
      let go = precede index n.function n.at in
      subst (λ g. Has own.0 stage ↔ (Has all_stages.0 stage × AllowsStage (reading_over noted m g) s noted g stage)) same (
        λ h. (let r = (n.exact stage).0 h in (r.0, allows_with index n.function n.given.stages noted go n.same s m n.given.summaries stage r.1)),
        λ r. (n.exact stage).1 (r.0, allows_by index n.function n.given.stages noted go n.same s m n.given.summaries stage r.1),
      )

  pub are_stages : length noted ≡ length m.functions → AreNoted reading_of s m noted → AreStages s m noted
  are_stages many n = record {
    many = many;
    each = λ index f own at own_at. noted_at index f own at (n index own own_at);
  }
