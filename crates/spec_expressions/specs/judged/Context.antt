-- What expressions may refer to: the items of a module, and a function's arguments and variables.
use Rattle.std.specs.Prelude.{◌<◌, ℕ, List, [], Option, Some, None, length}
use Rattle.typing_layout.specs.IrTypes.{PlainType, PlainExpression, compose, plain_expression as plain, Expression}
use Rattle.typing_layout.specs.IrTypes.x as x
use Rattle.ir_items.specs.judged.GlobalPlain.{PlainConstant, PlainOverride, PlainGlobal, PlainSpecialTypes}
use Rattle.ir_items.specs.judged.Plain.{PlainArgument, PlainLocal, PlainFunction, PlainModule}
use Rattle.typing_layout.specs.TypingForms.{Form, form_of_type}
use Rattle.typing_layout.specs.TypingForms.form as form

pub record Context : Type 0 where
  pub types : List PlainType
  pub special : PlainSpecialTypes
  pub constants : List PlainConstant
  pub overrides : List PlainOverride
  pub globals : List PlainGlobal
  pub functions : List PlainFunction
  pub locals : List PlainLocal
  pub arguments : List PlainArgument

-- the items of a module, with these local variables and arguments
abbrev pub context_with : PlainModule → List PlainLocal → List PlainArgument → Context
context_with m locals arguments = record {
  types = m.types;
  special = m.special;
  constants = m.constants;
  overrides = m.overrides;
  globals = m.globals;
  functions = m.functions;
  locals = locals;
  arguments = arguments;
}

-- inside a function
abbrev pub inside : PlainModule → PlainFunction → Context
inside m f = context_with m f.locals f.arguments

-- for global expressions
abbrev pub outside : PlainModule → Context
outside m = context_with m [] []

-- the form of the type at an optional handle
abbrev pub form_if : List PlainType → Option ℕ → Form
form_if types o = elim o [ Some type ↦ form_of_type types type | None ↦ form.Nothing ]

-- the item that an expression refers to exists; argument indices are not checked here
abbrev pub NamesItemOf : Context → Expression → Type 0
NamesItemOf c (x.Literal value) = Unit {0}
NamesItemOf c (x.Constant constant) = constant < length c.constants
NamesItemOf c (x.Override override) = override < length c.overrides
NamesItemOf c (x.ZeroValue type) = Unit {0}
NamesItemOf c (x.Compose type components) = Unit {0}
NamesItemOf c (x.Access base index) = Unit {0}
NamesItemOf c (x.AccessIndex base index) = Unit {0}
NamesItemOf c (x.Splat size value) = Unit {0}
NamesItemOf c (x.Swizzle size vector pattern) = Unit {0}
NamesItemOf c (x.FunctionArgument number) = Unit {0}
NamesItemOf c (x.GlobalVariable global) = global < length c.globals
NamesItemOf c (x.LocalVariable local) = local < length c.locals
NamesItemOf c (x.Load pointer) = Unit {0}
NamesItemOf c (x.ImageSample image sampler gather coordinate array_index offset level depth_ref clamp_to_edge) = Unit {0}
NamesItemOf c (x.ImageLoad image coordinate array_index sample level) = Unit {0}
NamesItemOf c (x.ImageQuery image query) = Unit {0}
NamesItemOf c (x.Unary op expr) = Unit {0}
NamesItemOf c (x.Binary op left right) = Unit {0}
NamesItemOf c (x.Select condition accept reject) = Unit {0}
NamesItemOf c (x.Derivative axis ctrl expr) = Unit {0}
NamesItemOf c (x.Relational fun argument) = Unit {0}
NamesItemOf c (x.Math fun arg arg1 arg2 arg3) = Unit {0}
NamesItemOf c (x.As expr kind convert) = Unit {0}
NamesItemOf c (x.CallResult function) = function < length c.functions
NamesItemOf c (x.AtomicResult type comparison) = Unit {0}
NamesItemOf c (x.WorkGroupUniformLoadResult type) = Unit {0}
NamesItemOf c (x.ArrayLength array) = Unit {0}
NamesItemOf c (x.RayQueryVertexPositions query committed) = Unit {0}
NamesItemOf c x.RayQueryProceedResult = Unit {0}
NamesItemOf c (x.RayQueryGetIntersection query committed) = Unit {0}
NamesItemOf c x.SubgroupBallotResult = Unit {0}
NamesItemOf c (x.SubgroupOperationResult type) = Unit {0}
NamesItemOf c (x.CooperativeLoad columns rows role block) = Unit {0}
NamesItemOf c (x.CooperativeMultiplyAdd p q r) = Unit {0}

abbrev pub NamesItem : Context → PlainExpression → Type 0
NamesItem c (compose type components) = Unit {0}
NamesItem c (plain expression) = NamesItemOf c expression
