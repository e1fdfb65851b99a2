-- Each callee of a function is called by a statement in its body.
use Rattle.std.proofs.Common.{◌≡◌, ◌⊎◌, inl, inr, ℕ, zero, suc, ◌+◌, List, [], ◌∷◌, ◌++◌, map, Option, Some, None, refl, sym, ap, ◌∙◌}
use Rattle.ir_blocks.specs.judged.Places.{Place, here, later, inside, OccursAt}
use Rattle.ir_blocks.specs.judged.Plain.{PlainStatement, emit, block, if_, switch, loop, break, continue, return, kill, operation, call, PlainBlock, stop, next, PlainCases, no_case, case}
use Rattle.ir_blocks.specs.judged.Shapes.{Part, inner, accepting, rejecting, case_at, loop_body, loop_continuing, shape_of, part_of, case_body}
use Rattle.ir_types.specs.judged.ExpressionPlain.{PlainExpression, plain}
use Rattle.ir_types.specs.declared.expressions.Expression.TheVariants.{ImageSample}
use Rattle.spec_expressions.specs.IrItems.{PlainFunction}
use Rattle.spec_expressions.specs.TypingRules.{IsAmong}
use Rattle.spec_expressions.proofs.Members.{among-cases}
use Rattle.spec_expressions.specs.judged.Effects.{takes, runs, sampling_at, expression_effects, expressions_effects, leaving_effects, statement_effects, effects_in, effects_inside, effects_in_cases, effects_of}
use Rattle.spec_expressions.specs.judged.OperandUses.{Operand, expression_uses, statement_uses}
use Rattle.spec_statements.specs.found.FunctionLaws.{CallsPrecede}
use Rattle.spec_expressions.specs.judged.References.{done, statement_calls}

-- a call of this function with these arguments is in the block
pub record CallOccurs (b : PlainBlock) (callee : ℕ) (arguments : List ℕ) : Type 0 where
  pub place : Place
  pub answer : Option ℕ
  pub stands : OccursAt b place (call callee arguments answer)

no_run_taken : (callee : ℕ) (arguments : List ℕ) (operands : List Operand) → IsAmong (runs callee arguments) (map takes operands) → ⊥
no_run_taken callee arguments [] h = elim h [ ]
no_run_taken callee arguments (o ∷ rest) (inl e) = cc
no_run_taken callee arguments (o ∷ rest) (inr h) = no_run_taken callee arguments rest h

no_run_sampled : (callee : ℕ) (arguments : List ℕ) (e : ℕ) (x : PlainExpression) → IsAmong (runs callee arguments) (sampling_at e x) → ⊥
no_run_sampled callee arguments e (plain (ImageSample image sampler gathers coordinate array_index offset level depth_ref clamp_to_edge)) h = elim h [ inl is ↦ cc (is) | inr none ↦ elim none [ ] ]
no_run_sampled callee arguments e _ h = elim h [ ]

module _ (callee : ℕ) (arguments : List ℕ) where
  no_run_computed : (e : ℕ) (xs : List PlainExpression) → IsAmong (runs callee arguments) (expressions_effects e xs) → ⊥
  no_run_computed e [] h = elim h [ ]
  no_run_computed e (x ∷ xs) h = elim (among-cases (expression_effects e x) (expressions_effects (e + 1) xs) _ h) [
    | inl own ↦ elim (among-cases (map takes (expression_uses x)) (sampling_at e x) _ own) [
      | inl taken ↦ no_run_taken callee arguments (expression_uses x) taken
      | inr sampled ↦ no_run_sampled callee arguments e x sampled
    ]
    | inr rest ↦ no_run_computed (e + 1) xs rest
  ]

  here_call : (s : PlainStatement) (rest : PlainBlock) → IsAmong (runs callee arguments) (leaving_effects s) → CallOccurs (next s rest) callee arguments
  here_call (call function passed result) rest (inl is) = record {
    place = here;
    answer = result;
    stands = (let same : runs function passed ≡ runs callee arguments = is in cc);
  }
  here_call (call function passed result) rest (inr none) = elim none [ ]
  here_call kill rest (inl is) = cc (is)
  here_call kill rest (inr none) = elim none [ ]
  here_call (emit first end) rest h = elim h [ ]
  here_call (block b) rest h = elim h [ ]
  here_call (if_ test accept reject) rest h = elim h [ ]
  here_call (switch selector cases) rest h = elim h [ ]
  here_call (loop body continuing break_if) rest h = elim h [ ]
  here_call break rest h = elim h [ ]
  here_call continue rest h = elim h [ ]
  here_call (return value) rest h = elim h [ ]
  here_call (operation a) rest h = elim h [ ]

  own_call : (s : PlainStatement) (rest : PlainBlock) → IsAmong (runs callee arguments) (statement_effects s) → CallOccurs (next s rest) callee arguments
  own_call s rest h = elim (among-cases (map takes (statement_uses s)) (leaving_effects s) _ h) [
    | inl taken ↦ absurd (no_run_taken callee arguments (statement_uses s) taken)
    | inr leaving ↦ here_call s rest leaving
  ]

  later_call : (s : PlainStatement) (rest : PlainBlock) → CallOccurs rest callee arguments → CallOccurs (next s rest) callee arguments
  later_call s rest c = record { place = later c.place; answer = c.answer; stands = c.stands }

  -- it is in a nested block of the statement
  abbrev StandsInside : PlainStatement → Type 0
  StandsInside s = (part : Part) × CallOccurs (part_of (shape_of s) part) callee arguments

  inner_call : (s : PlainStatement) (rest : PlainBlock) → StandsInside s → CallOccurs (next s rest) callee arguments
  inner_call s rest c = record { place = inside c.0 c.1.place; answer = c.1.answer; stands = c.1.stands }

  mutual
    in_block : (b : PlainBlock) → IsAmong (runs callee arguments) (effects_in b) → CallOccurs b callee arguments
    in_block stop h = elim h [ ]
    in_block (next s rest) h = elim (among-cases (statement_effects s ++ effects_inside s) (effects_in rest) _ h) [
      | inl first ↦ elim (among-cases (statement_effects s) (effects_inside s) _ first) [
        | inl own ↦ own_call s rest own
        | inr held ↦ inner_call s rest (in_part s held)
      ]
      | inr after ↦ later_call s rest (in_block rest after)
    ]

    in_part : (s : PlainStatement) → IsAmong (runs callee arguments) (effects_inside s) → StandsInside s
    in_part (emit first end) h = elim h [ ]
    in_part (block b) h = (inner, in_block b h)
    in_part (if_ test accept reject) h = elim (among-cases (effects_in accept) (effects_in reject) _ h) [
      | inl a ↦ (accepting, in_block accept a)
      | inr r ↦ (rejecting, in_block reject r)
    ]
    in_part (switch selector cases) h = let r = in_cases cases h in (case_at r.0, r.1)
    in_part (loop body continuing break_if) h = elim (among-cases (effects_in body) (effects_in continuing) _ h) [
      | inl a ↦ (loop_body, in_block body a)
      | inr r ↦ (loop_continuing, in_block continuing r)
    ]
    in_part break h = elim h [ ]
    in_part continue h = elim h [ ]
    in_part (return value) h = elim h [ ]
    in_part kill h = elim h [ ]
    in_part (operation a) h = elim h [ ]
    in_part (call function passed result) h = elim h [ ]

    in_cases : (cases : PlainCases) → IsAmong (runs callee arguments) (effects_in_cases cases) → (k : ℕ) × CallOccurs (case_body cases k) callee arguments
    in_cases no_case h = elim h [ ]
    in_cases (case value body falls rest) h = elim (among-cases (effects_in body) (effects_in_cases rest) _ h) [
      | inl own ↦ (zero, in_block body own)
      | inr other ↦ (let r = in_cases rest other in (suc r.0, r.1))
    ]

  pub run_stands : (f : PlainFunction) → IsAmong (runs callee arguments) (effects_of f) → CallOccurs f.body callee arguments
  run_stands f h = elim (among-cases (expressions_effects 0 f.expressions) (effects_in f.body) _ h) [
    | inl computed ↦ absurd (no_run_computed 0 f.expressions computed)
    | inr stands ↦ in_block f.body stands
  ]

pub calls_precede : CallsPrecede
calls_precede f before precede callee arguments run =
    let c = run_stands callee arguments f run in
    precede (done c.place) callee (statement_calls c.stands refl)
