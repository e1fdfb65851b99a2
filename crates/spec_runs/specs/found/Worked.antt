-- The small functions of the example runs.
use Rattle.std.specs.Prelude.{ℕ, true, false, List, [], ◌∷◌, Option, Some, None}
use Rattle.ir_kinds.specs.declared.operators.UnaryOperator.TheVariants.{LogicalNot}
use Rattle.ir_kinds.specs.declared.values.Literal.TheVariants.{Bool as Truth, U32 as Unsigned}
use Rattle.ir_kinds.specs.declared.values.SwitchValue.TheVariants.{Default, U32 as Number}
use Rattle.ir_types.specs.judged.ExpressionPlain.{PlainExpression, plain}
use Rattle.ir_types.specs.declared.expressions.Expression.TheVariants as x
use Rattle.ir_types.specs.declared.expressions.SampleLevel.TheVariants.{Zero}
use Rattle.ir_blocks.specs.judged.Plain.{emit, if_, switch, loop, break, continue, return, call, PlainBlock, stop, next, no_case, case}
use Rattle.ir_items.specs.declared.functions.FunctionResult.{FunctionResult}
use Rattle.ir_items.specs.judged.Plain.{PlainFunction, PlainModule}

-- a function without arguments
abbrev pub of_body : Option FunctionResult → List PlainExpression → PlainBlock → PlainFunction
of_body result expressions body = record { name = None; arguments = []; result = result; locals = []; expressions = expressions; body = body; leaf = None }

-- it calls the first function
abbrev pub calling : PlainFunction
calling = of_body None [] (next (call 0 [] None) stop)

-- a module of these functions
abbrev pub module_of : List PlainFunction → PlainModule
module_of functions = record {
  types = [];
  special = record { ray_desc = None; ray_intersection = None; ray_vertex_return = None; predeclared = [] };
  filters = [];
  leaf = None;
  constants = [];
  overrides = [];
  global_expressions = [];
  globals = [];
  functions = functions;
  entries = [];
}

-- a loop with a continue that may skip the emit of its condition's operand
abbrev pub skipping : PlainFunction
skipping = of_body None (plain (x.Literal (Truth true)) ∷ plain (x.Unary LogicalNot 0) ∷ []) (next (loop (next (if_ 0 (next continue stop) stop) (next (emit 1 2) stop)) stop (Some 1)) stop)

-- a function that emits its expressions from this one on, each the negation of the one before it
abbrev pub emitting : ℕ → PlainFunction
emitting first = of_body None (plain (x.Literal (Truth true)) ∷ plain (x.Unary LogicalNot 0) ∷ plain (x.Unary LogicalNot 1) ∷ []) (next (emit first 3) stop)

-- a function with a result, whose final switch is left by a `Break`
abbrev pub breaking : PlainFunction
breaking = of_body (Some (record { ty = 0; binding = None })) (plain (x.Literal (Unsigned 0)) ∷ []) (next (switch 0 (case Default (next break stop) false no_case)) stop)

-- a switch whose default case is first and falls through into the case 1
abbrev pub falling : PlainFunction
falling = of_body None (plain (x.Literal (Unsigned 0)) ∷ []) (next (switch 0 (case Default stop true (case (Number 1) (next (return None) stop) false no_case))) stop)

-- a function that samples its image argument with its sampler argument, through the operand of an emitted expression,
-- one that passes both on, and one that calls the second with two global variables
abbrev pub sampling : PlainFunction
sampling = of_body None
    (plain (x.FunctionArgument 0) ∷ plain (x.FunctionArgument 1) ∷ plain (x.ZeroValue 0) ∷ plain (x.ImageSample 0 1 None 2 None None Zero None false) ∷ plain (x.Unary LogicalNot 3) ∷ [])
    (next (emit 4 5) stop)

abbrev pub handing_on : PlainFunction
handing_on = of_body None (plain (x.FunctionArgument 0) ∷ plain (x.FunctionArgument 1) ∷ []) (next (call 0 (0 ∷ 1 ∷ []) None) stop)

abbrev pub passing : PlainFunction
passing = of_body None (plain (x.GlobalVariable 0) ∷ plain (x.GlobalVariable 1) ∷ []) (next (call 1 (0 ∷ 1 ∷ []) None) stop)

-- ---- functions that no valid module has

-- a return in a continuing block
abbrev pub escaping : PlainFunction
escaping = of_body None [] (next (loop stop (next (return None) stop) None) stop)

-- a use of an expression that is never emitted
abbrev pub using_too_early : PlainFunction
using_too_early = of_body None (plain (x.Literal (Truth true)) ∷ plain (x.Unary LogicalNot 0) ∷ []) (next (if_ 1 stop stop) stop)
