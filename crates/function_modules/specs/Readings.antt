-- The results of the analysis of functions and of the expression checks.
use Rattle.std.specs.Prelude.{ℕ}
use Rattle.typing_errors.specs.declared.error.FunctionError.{FunctionError}
use Rattle.module_expressions.specs.Faults.{IsExpressionFault}
use Rattle.function_whole.specs.FunctionInterface.{Faults, Question}
use Rattle.spec_statements.specs.judged.Expressions.{ExpressionOK}
use Rattle.spec_statements.specs.judged.Scene.{scene_of}
use Rattle.spec_statements.specs.judged.ExpressionStages.{IsRunBy}
use Rattle.spec_expressions.specs.judged.Typing.{HasType}
use Rattle.spec_statements.specs.judged.Functions.{Reading}
use Rattle.typing_analysis.specs.Processed.{IsAnalysisFault}

-- its expressions have types by the rules of their kinds, and the analysis finds no error
abbrev pub reading_of : Question → Reading
reading_of q = record {
  HasForm = HasType q.m q.f;
  IsAnalysed = λ flags. (e : FunctionError) → IsAnalysisFault flags q.m q.f q.summaries e → ⊥;
  IsAccepted = λ capabilities forms e. ExpressionOK (scene_of capabilities q.m q.f forms) e;
  IsRunBy = IsRunBy q.stages q.f.expressions;
}

abbrev pub faults_of : Question → Faults
faults_of q = record {
  IsAnalysisFault = λ flags. IsAnalysisFault flags q.m q.f q.summaries;
  IsFaultAt = λ capabilities forms. IsExpressionFault (scene_of capabilities q.m q.f forms);
}
