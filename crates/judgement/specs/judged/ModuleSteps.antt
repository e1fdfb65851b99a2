-- The steps of the check of a module up to its overrides.
use Rattle.std.specs.Prelude.{ℕ, Bool, ◌<◌, length}
use Rattle.ir_flags.specs.Sets.{Has}
use Rattle.ir_flags.specs.declared.settings.TheConstants.ValidationFlags.{CONSTANTS}
use Rattle.ir_items.specs.judged.Plain.{PlainModule}
use Rattle.spec_expressions.specs.judged.Constants.{ConstantOK}
use Rattle.spec_expressions.specs.judged.GlobalExpressions.{GlobalExpressionOK}
use Rattle.spec_expressions.specs.judged.Overrides.{OverrideOK}
use Rattle.spec_expressions.specs.judged.Typing.{HasGlobalType}
use Rattle.typing_layout.specs.judged.Rules.{TypeOK}
use Rattle.spec_expressions.specs.judged.ModuleHandles.{HandlesOK}
use Rattle.ir_flags.specs.declared.settings.Settings.{Settings}
use Rattle.typing_layout.specs.judged.Layout.{LayoutOK}
use Rattle.typing_layout.specs.judged.View.{type_tree}
use Rattle.typing_forms.specs.declared.form.Form.{Form}
use Rattle.spec_expressions.specs.judged.Firsts.{FailsFirst}

-- The steps after the check of handles: types are laid out and checked, the types of global expressions are inferred, and global
-- expressions, constants and overrides are checked.
pub data ModuleStep : Type 0 where
  layout : ModuleStep
  type : ModuleStep
  typing : ModuleStep
  expression : ModuleStep
  constant : ModuleStep
  override : ModuleStep

-- their order
abbrev pub step_rank : ModuleStep → ℕ
step_rank layout = 0
step_rank type = 1
step_rank typing = 2
step_rank expression = 3
step_rank constant = 4
step_rank override = 5

-- the number of items that a step checks
abbrev pub item_count : PlainModule → ModuleStep → ℕ
item_count m layout = length m.types
item_count m type = length m.types
item_count m typing = length m.global_expressions
item_count m expression = length m.global_expressions
item_count m constant = length m.constants
item_count m override = length m.overrides

-- the requirement of the item at an index, with overrides resolved or not
abbrev pub StepOK : Settings → (resolved : Bool) → PlainModule → ModuleStep → (index : ℕ) → Type 0
StepOK s resolved m layout index = LayoutOK (type_tree m.types index)
StepOK s resolved m type index = TypeOK s.capabilities resolved m.types index
StepOK s resolved m typing index = (t : Form) × HasGlobalType m index t
StepOK s resolved m expression index = Has s.flags.0 CONSTANTS.0 → GlobalExpressionOK s.capabilities resolved m index
StepOK s resolved m constant index = Has s.flags.0 CONSTANTS.0 → ConstantOK m index
StepOK s resolved m override index = Has s.flags.0 CONSTANTS.0 → OverrideOK resolved m index

-- each item is valid
pub record StepPasses (s : Settings) (resolved : Bool) (m : PlainModule) (step : ModuleStep) : Type 0 where
  pub each : (index : ℕ) → index < item_count m step → StepOK s resolved m step index

-- The handles are valid, and each item passes each step.
pub record ModuleOK (s : Settings) (resolved : Bool) (m : PlainModule) : Type 0 where
  pub handles : HandlesOK m
  pub steps : (step : ModuleStep) → StepPasses s resolved m step

-- The handles are valid, and each item passes the steps before one.
pub record IsReached (s : Settings) (resolved : Bool) (m : PlainModule) (step : ModuleStep) : Type 0 where
  pub handles : HandlesOK m
  pub earlier : (other : ModuleStep) → step_rank other < step_rank step → StepPasses s resolved m other

-- The first failing step, and the first item that fails it.
pub record IsFirstFailing (s : Settings) (resolved : Bool) (m : PlainModule) (step : ModuleStep) (index : ℕ) : Type 0 where
  pub reached : IsReached s resolved m step
  pub item : FailsFirst (item_count m step) (StepOK s resolved m step) index
