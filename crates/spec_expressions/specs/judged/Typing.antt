-- The type of an expression from the types of its operands: a rule for each kind, and the relation that the rules define.
use Rattle.std.specs.Prelude.{◌≡◌, ℕ, List, Option, Some, None, Result, Ok, slice_get, option_map}
use Rattle.typing_layout.specs.IrTypes.{PlainExpression, compose, plain_expression as plain, Expression}
use Rattle.typing_layout.specs.IrTypes.x as x
use Rattle.ir_items.specs.judged.Plain.{PlainFunction, PlainModule}
use Rattle.typing_layout.specs.TypingForms.{form_of_type, Form}
use Rattle.typing_layout.specs.TypingForms.form as form
use Rattle.typing_rules.specs.judged.Laws.{IsAmong}
use Rattle.spec_expressions.specs.judged.Kinds.{row_of_expression}
use Rattle.spec_expressions.specs.judged.Access.{access_type, access_index_type}
use Rattle.spec_expressions.specs.judged.Compositions.{splat_type, swizzle_type}
use Rattle.spec_expressions.specs.judged.Context.{Context, inside, outside, form_if}
use Rattle.spec_expressions.specs.judged.Conversions.{as_type}
use Rattle.spec_expressions.specs.judged.CooperativeMatrices.{cooperative_load_type}
use Rattle.spec_expressions.specs.judged.ImageLoads.{image_load_type, image_query_type}
use Rattle.spec_expressions.specs.judged.ImageSamples.{image_sample_type}
use Rattle.spec_expressions.specs.judged.Loads.{argument_type, global_type, local_type, load_type}
use Rattle.spec_expressions.specs.judged.Maths.{math_type}
use Rattle.spec_expressions.specs.judged.Operators.{binary_type}
use Rattle.spec_expressions.specs.judged.RayQueries.{special_type}
use Rattle.spec_expressions.specs.judged.Results.{call_result_type}
use Rattle.spec_expressions.specs.judged.Selections.{relational_type}
use Rattle.spec_expressions.specs.declared.faults.TypingFault.{TypingFault}
use Rattle.ir_kinds.specs.declared.scalars.VectorSize.TheVariants.{Quad}
use Rattle.ir_kinds.specs.judged.Scalars.{boolean, unsigned}
use Rattle.ir_kinds.specs.judged.Values.{literal_scalar}

-- the operands whose types determine that of the expression, in order
abbrev pub typing_operands : PlainExpression → List ℕ
typing_operands x = (row_of_expression x).typed

-- ---- one rule for each kind

-- The type of an expression, or why it has none, if its operands have the forms a, b, c and d, in order. Literals, declared items
-- and results have the type they declare; selects, unary operations, derivatives and cooperative multiply-adds that of an
-- operand; a ballot has a bit for each invocation.
abbrev pub rule_of : Context → Expression → (a b c d : Form) → Result Form TypingFault
rule_of context (x.Literal value) a b c d = Ok (form.Scalar (literal_scalar value))
rule_of context (x.Constant constant) a b c d = Ok (form_if context.types (option_map (λ k. k.ty) (slice_get context.constants constant)))
rule_of context (x.Override override) a b c d = Ok (form_if context.types (option_map (λ o. o.ty) (slice_get context.overrides override)))
rule_of context (x.ZeroValue type) a b c d = Ok (form_of_type context.types type)
rule_of context (x.Compose type components) a b c d = Ok (form_of_type context.types type)
rule_of context (x.Access base index) a b c d = access_type context.types base a
rule_of context (x.AccessIndex base index) a b c d = access_index_type context.types base index a
rule_of context (x.Splat size value) a b c d = splat_type size value a
rule_of context (x.Swizzle size vector pattern) a b c d = swizzle_type size vector a
rule_of context (x.FunctionArgument number) a b c d = argument_type context number
rule_of context (x.GlobalVariable global) a b c d = Ok (global_type context global)
rule_of context (x.LocalVariable local) a b c d = Ok (local_type context local)
rule_of context (x.Load pointer) a b c d = load_type context.types pointer a
rule_of context (x.ImageSample image sampler gather coordinate array_index offset level depth_ref clamp_to_edge) a b c d = image_sample_type image gather a
rule_of context (x.ImageLoad image coordinate array_index sample level) a b c d = image_load_type image a
rule_of context (x.ImageQuery image query) a b c d = image_query_type image query a
rule_of context (x.Unary op expr) a b c d = Ok a
rule_of context (x.Binary op left right) a b c d = binary_type op a b
rule_of context (x.Select condition accept reject) a b c d = Ok a
rule_of context (x.Derivative axis ctrl expr) a b c d = Ok a
rule_of context (x.Relational fun argument) a b c d = relational_type fun a
rule_of context (x.Math fun arg arg1 arg2 arg3) a b c d = math_type context fun arg1 arg2 arg3 a b c d
rule_of context (x.As expr kind convert) a b c d = as_type kind convert a
rule_of context (x.CallResult function) a b c d = call_result_type context function
rule_of context (x.AtomicResult type comparison) a b c d = Ok (form_of_type context.types type)
rule_of context (x.WorkGroupUniformLoadResult type) a b c d = Ok (form_of_type context.types type)
rule_of context (x.ArrayLength array) a b c d = Ok (form.Scalar (unsigned 4))
rule_of context (x.RayQueryVertexPositions query committed) a b c d = special_type context context.special.ray_vertex_return
rule_of context x.RayQueryProceedResult a b c d = Ok (form.Scalar boolean)
rule_of context (x.RayQueryGetIntersection query committed) a b c d = special_type context context.special.ray_intersection
rule_of context x.SubgroupBallotResult a b c d = Ok (form.Vector Quad (unsigned 4))
rule_of context (x.SubgroupOperationResult type) a b c d = Ok (form_of_type context.types type)
rule_of context (x.CooperativeLoad columns rows role block) a b c d = cooperative_load_type context.types columns rows role block.pointer a
rule_of context (x.CooperativeMultiplyAdd p q r) a b c d = Ok a

abbrev pub expression_rule : Context → PlainExpression → (a b c d : Form) → Result Form TypingFault
expression_rule context (compose type components) a b c d = Ok (form_of_type context.types type)
expression_rule context (plain expression) a b c d = rule_of context expression a b c d

-- the form of an operand, if it exists
abbrev pub form_read : (ℕ → Form) → Option ℕ → Form
form_read past o = elim o [ Some operand ↦ past operand | None ↦ form.Nothing ]

abbrev pub operand_form : (ℕ → Form) → List ℕ → (place : ℕ) → Form
operand_form past operands place = form_read past (slice_get operands place)

-- the rule of an expression, if each of its operands has the form that past gives
abbrev pub rule_at : Context → PlainExpression → (past : ℕ → Form) → Result Form TypingFault
rule_at context expression past =
    expression_rule context expression (operand_form past (typing_operands expression) 0) (operand_form past (typing_operands expression) 1)
    (operand_form past (typing_operands expression) 2) (operand_form past (typing_operands expression) 3)

-- ---- the typing relation

-- An expression has a type of a form if its operands have types, and the rule of its kind gives the form for theirs.
pub data HasTypeAmong (context : Context) (expressions : List PlainExpression) : ℕ → Form → Type 0 where
  has : {place : ℕ} {t : Form} (expression : PlainExpression) (past : ℕ → Form) → slice_get expressions place ≡ Some expression
      → ((operand : ℕ) → IsAmong operand (typing_operands expression) → HasTypeAmong context expressions operand (past operand))
      → rule_at context expression past ≡ Ok t → HasTypeAmong context expressions place t

-- an expression of a function of the module has a type of this form
abbrev pub HasType : PlainModule → PlainFunction → ℕ → Form → Type 0
HasType m f = HasTypeAmong (inside m f) f.expressions

-- a global expression has a type of this form
abbrev pub HasGlobalType : PlainModule → ℕ → Form → Type 0
HasGlobalType m = HasTypeAmong (outside m) m.global_expressions
