-- The context of the rules of a statement.
use Rattle.std.specs.Prelude.{ℕ, List}
use Rattle.ir_flags.specs.declared.settings.Capabilities.{Capabilities}
use Rattle.ir_flags.specs.declared.stages.SubgroupOperationSet.{SubgroupOperationSet}
use Rattle.spec_expressions.specs.IrItems.{PlainFunction, PlainModule}
use Rattle.spec_expressions.specs.TypingForms.{Form}
use Rattle.spec_statements.specs.judged.Scene as scene

-- The capabilities and subgroup operations of the validator, the module, the function whose body it is, and the forms
-- of the types of all its expressions.
pub record BlockContext : Type 0 where
  pub capabilities : Capabilities
  pub operations : SubgroupOperationSet
  pub m : PlainModule
  pub f : PlainFunction
  pub forms : List Form

-- the form of the type of an expression
abbrev pub form_at : BlockContext → ℕ → Form
form_at c e = scene.form_among c.forms e
