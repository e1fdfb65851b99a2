-- The context in which a global variable is checked.
use Rattle.std.specs.Prelude.{◌≡◌, length}
use Rattle.module_globals.specs.declared.context.VariableContext.{VariableContext}
use Rattle.ir_items.specs.judged.Plain.{PlainModule}
use Rattle.ir_items.specs.found.View.{module_view}
use Rattle.module_type_checks.specs.Known.{AreInfos}

abbrev pub module_of : VariableContext → PlainModule
module_of c = module_view c.«module».now

-- there is a `TypeInfo` for every type of the module
pub record HasInfos (c : VariableContext) : Type 0 where
  pub many : length c.infos.now ≡ length (module_of c).types
  pub told : AreInfos (module_of c).types c.infos.now
