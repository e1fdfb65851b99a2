-- Functions, modules and bodies of the examples.
use Rattle.std.specs.Prelude.{ℕ, List, [], ◌∷◌, Option, Some, None, true}
use Rattle.ir_blocks.specs.judged.Plain.{PlainStatement, if_, PlainBlock, stop, next}
use Rattle.ir_types.specs.judged.ExpressionPlain.{PlainExpression, plain}
use Rattle.ir_types.specs.declared.expressions.Expression.TheVariants as x
use Rattle.ir_items.specs.judged.Plain.{PlainArgument, PlainFunction, PlainModule}
use Rattle.ir_items.specs.declared.functions.FunctionResult.{FunctionResult}
use Rattle.ir_kinds.specs.declared.operators.UnaryOperator.TheVariants.{LogicalNot}
use Rattle.ir_kinds.specs.judged.Scalars.{boolean, unsigned}
use Rattle.ir_kinds.specs.declared.scalars.Scalar.{Scalar}
use Rattle.ir_kinds.specs.declared.values.Literal.TheVariants as literal
use Rattle.ir_types.specs.judged.Plain.{plain as plain_type}
use Rattle.ir_types.specs.declared.types.TypeInner.TheVariants as inner
use Rattle.typing_forms.specs.declared.form.Form.{Form}
use Rattle.typing_forms.specs.declared.form.Form.TheVariants as form
use Rattle.spec_statements.specs.judged.BlockContext.{BlockContext}

-- ---- bodies

abbrev pub one : PlainStatement → PlainBlock
one s = next s stop

abbrev pub two : (first second : PlainStatement) → PlainBlock
two first second = next first (one second)

-- it uses an expression, and has no other effect
abbrev pub use_of : ℕ → PlainStatement
use_of e = if_ e stop stop

-- ---- functions and modules

-- a function with these arguments and this result
abbrev pub function_with : List PlainArgument → Option FunctionResult → List PlainExpression → PlainBlock → PlainFunction
function_with arguments answer expressions body =
    record { name = None; arguments = arguments; result = answer; locals = []; expressions = expressions; body = body; leaf = None }

-- a bool, its negation, and the negation of that
abbrev pub truths : List PlainExpression
truths = plain (x.Literal (literal.Bool true)) ∷ plain (x.Unary LogicalNot 0) ∷ plain (x.Unary LogicalNot 1) ∷ []

-- a body over these, and over the call result of the first function
abbrev pub over_truths : PlainBlock → PlainFunction
over_truths body = function_with [] None truths body

abbrev pub over_answer : PlainBlock → PlainFunction
over_answer body = function_with [] None (plain (x.CallResult 0) ∷ []) body

-- the module's first type is that of the argument or the result
abbrev pub given_first : PlainArgument
given_first = record { name = None; ty = 0; binding = None }

abbrev pub first_answered : Option FunctionResult
first_answered = Some (record { ty = 0; binding = None })

-- a module of one scalar type, and these functions
abbrev pub module_of : Scalar → List PlainFunction → PlainModule
module_of s functions = record {
  types = record { name = None; inner = plain_type (inner.Scalar s) } ∷ [];
  special = record { ray_desc = None; ray_intersection = None; ray_vertex_return = None; predeclared = [] };
  filters = [];
  leaf = None;
  constants = [];
  overrides = [];
  global_expressions = [];
  globals = [];
  functions = functions;
  entries = [];
}

-- in a function of a module with one scalar type; the capabilities and the subgroup operations are these bits
abbrev pub context_of : (capabilities operations : ℕ) → Scalar → List PlainFunction → PlainFunction → List Form → BlockContext
context_of capabilities operations s functions f forms =
    record { capabilities = record { 0 = capabilities }; operations = record { 0 = operations }; m = module_of s functions; f = f; forms = forms }

-- a variable and a value that is stored to it, both of the module's scalar type
abbrev pub storing : (pointer value : Form) → BlockContext
storing pointer value = context_of 0 0 (unsigned 4) [] (function_with [] None (plain (x.GlobalVariable 0) ∷ plain (x.ZeroValue 0) ∷ []) stop) (pointer ∷ value ∷ [])

-- a call of a function with an integer argument and an integer result, with an argument of this form
abbrev pub calling : (passed : Form) → BlockContext
calling passed = context_of 0 0 (unsigned 4) (function_with (given_first ∷ []) first_answered [] stop ∷ [])
    (function_with [] None (plain (x.ZeroValue 0) ∷ plain (x.CallResult 0) ∷ []) stop) (passed ∷ form.Scalar (unsigned 4) ∷ [])

-- a function with this result, and a returned value of this form
abbrev pub answering : Option FunctionResult → Form → BlockContext
answering answer value = context_of 0 0 (unsigned 4) [] (function_with [] answer (plain (x.ZeroValue 0) ∷ []) stop) (value ∷ [])

-- no flags
abbrev pub allowing : (capabilities operations : ℕ) → BlockContext
allowing capabilities operations = context_of capabilities operations boolean [] (over_truths stop) (form.Scalar boolean ∷ form.Scalar boolean ∷ form.Scalar boolean ∷ [])
