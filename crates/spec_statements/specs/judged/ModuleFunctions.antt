-- Which functions of a module are valid.
use Rattle.std.specs.Prelude.{◌≡◌, ◌<◌, ℕ, List, false, Option, Some, length, slice_get}
use Rattle.ir_flags.specs.declared.stages.ShaderStages.{ShaderStages}
use Rattle.ir_flags.specs.declared.settings.Settings.{Settings}
use Rattle.spec_expressions.specs.IrItems.{PlainFunction, PlainModule}
use Rattle.spec_statements.specs.judged.Expressions.{ExpressionOK}
use Rattle.spec_statements.specs.judged.Scene.{scene_of}
use Rattle.spec_statements.specs.judged.ExpressionStages.{IsRunBy}
use Rattle.spec_expressions.specs.judged.Typing.{HasType}
use Rattle.spec_statements.specs.judged.Analysis.{IsAnalysed}
use Rattle.spec_statements.specs.judged.EarlierPayloads.{IsPayloadBefore}
use Rattle.spec_statements.specs.judged.Functions.{Reading, FunctionOK}

-- The lower layer for a function of a module: the types of its expressions by the typing rules, the analysis over call
-- chains, the checks of expressions, and which stages may run an expression, given those that may run its callees.
abbrev pub reading_over : (callees : List ShaderStages) → PlainModule → PlainFunction → Reading
reading_over callees m f = record {
  HasForm = HasType m f;
  IsAnalysed = λ flags. IsAnalysed flags m f;
  IsAccepted = λ capabilities forms e. ExpressionOK (scene_of capabilities m f forms) e;
  IsRunBy = IsRunBy callees f.expressions;
}

-- The function at an index of a module meets the rules of functions, given what the earlier ones contribute, whichever stages may
-- run its callees.
pub record FunctionAtOK (s : Settings) (m : PlainModule) (index : ℕ) : Type 0 where
  pub function : PlainFunction
  pub at : slice_get m.functions index ≡ Some function
  pub held : Option ℕ
  pub before : IsPayloadBefore s.flags m index held
  pub ok : (callees : List ShaderStages) → FunctionOK (reading_over callees m function) s false held m function

-- all functions of a module are valid
abbrev pub FunctionsOK : Settings → PlainModule → Type 0
FunctionsOK s m = (index : ℕ) → index < length m.functions → FunctionAtOK s m index
