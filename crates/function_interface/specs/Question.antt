-- The questions to a layer.
use Rattle.std.specs.Prelude.{List}
use Rattle.ir_flags.specs.declared.stages.ShaderStages.{ShaderStages}
use Rattle.ir_items.specs.judged.Plain.{PlainFunction, PlainModule}
use Rattle.spec_expressions.specs.judged.Summaries.{Summary}

-- A function of a module, with the information on earlier functions: their summaries, and the stages that may run them.
pub record Question : Type 0 where
  pub m : PlainModule
  pub f : PlainFunction
  pub summaries : List Summary
  pub stages : List ShaderStages

abbrev pub question : PlainModule → PlainFunction → List Summary → List ShaderStages → Question
question m f summaries stages = record { m = m; f = f; summaries = summaries; stages = stages }
