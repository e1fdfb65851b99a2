-- The view of a context.
use Rattle.ir_items.specs.found.View.{function_view, module_view}
use Rattle.spec_statements.specs.judged.BlockContext.{BlockContext as PlainContext}
use Rattle.function_statement_checks.specs.declared.context.BlockContext.{BlockContext}
use Rattle.function_statement_checks.specs.Descriptors.{AreDescriptors}
use Rattle.function_statement_checks.specs.Emits.{AreAnswers}
use Rattle.typing_layout.specs.judged.Constness.{AreKinds}

abbrev pub context_view : BlockContext → PlainContext
context_view c = record {
  capabilities = c.capabilities;
  operations = c.operations;
  m = module_view c.«module».now;
  f = function_view c.function.now;
  forms = c.forms.now;
}

-- the kinds are those of all expressions, the results the next ones among them, and the descriptors are marked among the types
pub record IsKnown (c : BlockContext) : Type 0 where
  pub kinds : AreKinds (context_view c).f.expressions c.kinds.now
  pub answers : AreAnswers (context_view c).f.expressions c.answers.now
  pub descriptors : AreDescriptors (context_view c).m.types (context_view c).m.special.ray_desc c.descriptors.now
