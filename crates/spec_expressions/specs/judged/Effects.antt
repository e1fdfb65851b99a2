-- The effects of a function that its summary records, in program order.
use Rattle.std.specs.Prelude.{ℕ, ◌+◌, List, ◌∷◌, ◌++◌, map, ◌==◌, if◌then◌else◌, option_to_list, [], Option, Some}
use Rattle.typing_layout.specs.IrTypes.{PlainExpression, plain_expression as plain, ImageSample}
use Rattle.ir_items.specs.IrBlocks.{Exit, kills, PlainStatement, emit, block, if_, switch, loop, break, continue, return, kill, operation, call, PlainBlock, stop, next, PlainCases, no_case, case}
use Rattle.ir_items.specs.judged.Plain.{PlainFunction}
use Rattle.spec_expressions.specs.judged.Kinds.{statement_row}
use Rattle.spec_expressions.specs.judged.OperandUses.{Operand, expression_uses, statement_uses}

-- An effect: an operand is used, an expression samples an image, a function is called with these arguments, or a discard.
pub data Effect : Type 0 where
  takes : Operand → Effect
  samples : (expression image sampler : ℕ) → Effect
  runs : (function : ℕ) → (arguments : List ℕ) → Effect
  discards : Effect

-- the sample that the expression at an index is, if it is one
abbrev pub sampling_at : ℕ → PlainExpression → List Effect
sampling_at e (plain (ImageSample image sampler gathers coordinate array_index offset level depth_ref clamp_to_edge)) = samples e image sampler ∷ []
sampling_at e _ = []

-- the effects of the expression at an index
abbrev pub expression_effects : ℕ → PlainExpression → List Effect
expression_effects e expression = map takes (expression_uses expression) ++ sampling_at e expression

-- the effects of these expressions, the first of which has this index
abbrev pub expressions_effects : ℕ → List PlainExpression → List Effect
expressions_effects e [] = []
expressions_effects e (expression ∷ rest) = expression_effects e expression ++ expressions_effects (e + 1) rest

abbrev pub ending_effects : Option Exit → List Effect
ending_effects o = elim o [ Some kills ↦ discards ∷ [] | _ ↦ [] ]

-- a statement's call or discard
abbrev pub leaving_effects : PlainStatement → List Effect
leaving_effects s = map (λ (c : ℕ × List ℕ). runs c.0 c.1) (option_to_list (statement_row s).calls) ++ ending_effects (statement_row s).ends

-- the effects of the statement itself, without its nested statements
abbrev pub statement_effects : PlainStatement → List Effect
statement_effects s = map takes (statement_uses s) ++ leaving_effects s

-- the effects of all statements of a block, at any depth
abbrev mutual
  pub effects_in : PlainBlock → List Effect
  effects_in stop = []
  effects_in (next s rest) = (statement_effects s ++ effects_inside s) ++ effects_in rest

  pub effects_inside : PlainStatement → List Effect
  effects_inside (emit first end) = []
  effects_inside (block body) = effects_in body
  effects_inside (if_ condition accept reject) = effects_in accept ++ effects_in reject
  effects_inside (switch selector cases) = effects_in_cases cases
  effects_inside (loop body continuing break_if) = effects_in body ++ effects_in continuing
  effects_inside break = []
  effects_inside continue = []
  effects_inside (return value) = []
  effects_inside kill = []
  effects_inside (operation a) = []
  effects_inside (call function arguments result) = []

  pub effects_in_cases : PlainCases → List Effect
  effects_in_cases no_case = []
  effects_in_cases (case value body falls rest) = effects_in body ++ effects_in_cases rest

-- All expressions count, emitted or not; initializers of local variables are no operands.
abbrev pub effects_of : PlainFunction → List Effect
effects_of f = expressions_effects 0 f.expressions ++ effects_in f.body

-- the number of places where an expression is an operand
abbrev pub places_of : ℕ → List Effect → ℕ
places_of e [] = 0
places_of e (takes operand ∷ rest) = (if operand.handle == e then 1 else 0) + places_of e rest
places_of e (samples expression image sampler ∷ rest) = places_of e rest
places_of e (runs function arguments ∷ rest) = places_of e rest
places_of e (discards ∷ rest) = places_of e rest
