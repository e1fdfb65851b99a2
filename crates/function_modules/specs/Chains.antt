-- The results for the functions of a module, by all call chains.
use Rattle.std.specs.Prelude.{◌≡◌, List, length}
use Rattle.ir_flags.specs.declared.settings.Settings.{Settings}
use Rattle.function_modules.specs.Judged.{IsRefusedAt}
use Rattle.function_errors.specs.declared.error.InvalidFunction.{InvalidFunction}
use Rattle.ir_items.specs.judged.Plain.{PlainModule}
use Rattle.function_modules.specs.Readings.{reading_of, faults_of}
use Rattle.spec_expressions.specs.judged.Summaries.{Summary, AreSummaries}
use Rattle.spec_statements.specs.judged.ModuleFunctions.{FunctionAtOK, FunctionsOK}
use Rattle.spec_expressions.specs.judged.Firsts.{FailsFirst}

-- All functions are valid, and these are their summaries.
pub record AreKept (s : Settings) (m : PlainModule) (summaries : List Summary) : Type 0 where
  pub accepted : FunctionsOK s m
  pub many : length summaries ≡ length m.functions
  pub known : AreSummaries m summaries

-- It is the first invalid function, with this error.
pub record IsFunctionFault (s : Settings) (m : PlainModule) (e : InvalidFunction) : Type 0 where
  pub first : FailsFirst (length m.functions) (FunctionAtOK s m) e.function
  pub fault : IsRefusedAt reading_of faults_of s m e.function e.trail e.error
