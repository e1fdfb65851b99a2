-- The tally after all effects, in program order.
use Rattle.std.proofs.Common.{◌≡◌, ℕ, ◌+◌, true, List, [], ◌∷◌, ◌++◌, map, Option, Some, None, slice_get, refl, sym, ap, ◌∙◌}
use Rattle.ir_types.specs.judged.ExpressionPlain.{PlainExpression, plain}
use Rattle.ir_types.specs.declared.expressions.Expression.TheVariants as x
use Rattle.ir_blocks.specs.judged.Plain.{PlainStatement, emit, block, if_, switch, loop, break, continue, return, kill, operation, call, PlainBlock, stop, next, PlainCases, no_case, case}
use Rattle.spec_expressions.specs.judged.OperandUses.{Operand, expression_uses, statement_uses}
use Rattle.spec_expressions.specs.judged.Effects.{Effect, takes, samples, runs, discards, sampling_at, expression_effects, expressions_effects, leaving_effects, statement_effects, effects_in, effects_inside, effects_in_cases}
use Rattle.spec_expressions.specs.judged.CallChains.{global_or_argument}
use Rattle.typing_summaries.specs.Tallies.{Known, Tallied, take_one, pair_one, sample_one, count_all, expression_done, expressions_done, join_summary, leave, statement_done, done_in, done_inside, done_in_cases}

abbrev pub do_one : Known → Effect → Tallied → Tallied
do_one k (takes o) t = record { counted = take_one k.globals o t.counted; paired = t.paired; may_kill = t.may_kill }
do_one k (samples e image sampler) t = record { counted = t.counted; paired = pair_one (Some e) (Some e) (global_or_argument k.expressions image) (global_or_argument k.expressions sampler) t.paired; may_kill = t.may_kill }
do_one k (runs function arguments) t = join_summary k arguments (slice_get k.summaries function) t
do_one k discards t = record { counted = t.counted; paired = t.paired; may_kill = true }

abbrev pub do_all : Known → List Effect → Tallied → Tallied
do_all k [] t = t
do_all k (x ∷ rest) t = do_all k rest (do_one k x t)

pub do_append : (k : Known) (xs ys : List Effect) (t : Tallied) → do_all k (xs ++ ys) t ≡ do_all k ys (do_all k xs t)
do_append k [] ys t = refl
do_append k (x ∷ xs) ys t = do_append k xs ys (do_one k x t)

do_takes : (k : Known) (os : List Operand) (t : Tallied) → do_all k (map takes os) t ≡ count_all k os t
do_takes k [] t = refl
do_takes k (o ∷ os) t = do_takes k os (do_one k (takes o) t)

do_sampling : (k : Known) (e : ℕ) (expression : PlainExpression) (t : Tallied) → do_all k (sampling_at e expression) t ≡ record { counted = t.counted; paired = sample_one k.expressions e expression t.paired; may_kill = t.may_kill }
do_sampling k e (plain (x.ImageSample image sampler gathers coordinate array_index offset level depth_ref clamp_to_edge)) t = refl
do_sampling k e _ t = refl

do_expression : (k : Known) (e : ℕ) (expression : PlainExpression) (t : Tallied) → do_all k (expression_effects e expression) t ≡ expression_done k e expression t
do_expression k e expression t =
    do_append k (map takes (expression_uses expression)) (sampling_at e expression) t
    ∙ (ap (do_all k (sampling_at e expression)) (do_takes k (expression_uses expression) t) ∙ do_sampling k e expression (count_all k (expression_uses expression) t))

pub do_expressions : (k : Known) (e : ℕ) (expressions : List PlainExpression) (t : Tallied) → do_all k (expressions_effects e expressions) t ≡ expressions_done k e expressions t
do_expressions k e [] t = refl
do_expressions k e (expression ∷ rest) t =
    do_append k (expression_effects e expression) (expressions_effects (e + 1) rest) t
    ∙ (ap (do_all k (expressions_effects (e + 1) rest)) (do_expression k e expression t) ∙ do_expressions k (e + 1) rest (expression_done k e expression t))

do_leaving : (k : Known) (s : PlainStatement) (t : Tallied) → do_all k (leaving_effects s) t ≡ leave k s t
do_leaving k (emit first end) t = refl
do_leaving k (block body) t = refl
do_leaving k (if_ condition accept reject) t = refl
do_leaving k (switch selector cases) t = refl
do_leaving k (loop body continuing break_if) t = refl
do_leaving k break t = refl
do_leaving k continue t = refl
do_leaving k (return value) t = refl
do_leaving k kill t = refl
do_leaving k (operation a) t = refl
do_leaving k (call function arguments result) t = refl

do_statement : (k : Known) (s : PlainStatement) (t : Tallied) → do_all k (statement_effects s) t ≡ statement_done k s t
do_statement k s t =
    do_append k (map takes (statement_uses s)) (leaving_effects s) t
    ∙ (ap (do_all k (leaving_effects s)) (do_takes k (statement_uses s) t) ∙ do_leaving k s (count_all k (statement_uses s) t))

-- a nested block, and what follows it
then_rest : (k : Known) (xs ys : List Effect) (t u v : Tallied) → do_all k xs t ≡ u → do_all k ys u ≡ v → do_all k (xs ++ ys) t ≡ v
then_rest k xs ys t u v first after = do_append k xs ys t ∙ (ap (do_all k ys) first ∙ after)

mutual
  pub do_in : (k : Known) (b : PlainBlock) (t : Tallied) → do_all k (effects_in b) t ≡ done_in k b t
  do_in k stop t = refl
  do_in k (next s rest) t =
      then_rest k (statement_effects s ++ effects_inside s) (effects_in rest) t (done_inside k s (statement_done k s t)) (done_in k rest (done_inside k s (statement_done k s t)))
      (then_rest k (statement_effects s) (effects_inside s) t (statement_done k s t) (done_inside k s (statement_done k s t)) (do_statement k s t) (do_inside k s (statement_done k s t)))
      (do_in k rest (done_inside k s (statement_done k s t)))

  do_inside : (k : Known) (s : PlainStatement) (t : Tallied) → do_all k (effects_inside s) t ≡ done_inside k s t
  do_inside k (emit first end) t = refl
  do_inside k (block body) t = do_in k body t
  do_inside k (if_ condition accept reject) t = then_rest k (effects_in accept) (effects_in reject) t (done_in k accept t) (done_in k reject (done_in k accept t)) (do_in k accept t) (do_in k reject (done_in k accept t))
  do_inside k (switch selector cases) t = do_in_cases k cases t
  do_inside k (loop body continuing break_if) t = then_rest k (effects_in body) (effects_in continuing) t (done_in k body t) (done_in k continuing (done_in k body t)) (do_in k body t) (do_in k continuing (done_in k body t))
  do_inside k break t = refl
  do_inside k continue t = refl
  do_inside k (return value) t = refl
  do_inside k kill t = refl
  do_inside k (operation a) t = refl
  do_inside k (call function arguments result) t = refl

  do_in_cases : (k : Known) (cases : PlainCases) (t : Tallied) → do_all k (effects_in_cases cases) t ≡ done_in_cases k cases t
  do_in_cases k no_case t = refl
  do_in_cases k (case value body falls rest) t = then_rest k (effects_in body) (effects_in_cases rest) t (done_in k body t) (done_in_cases k rest (done_in k body t)) (do_in k body t) (do_in_cases k rest (done_in k body t))
