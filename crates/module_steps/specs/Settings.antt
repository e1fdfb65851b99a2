-- The settings of the checks of a module's values.
use Rattle.std.specs.Prelude.{◌≡◌, Bool}
use Rattle.ir_flags.specs.declared.settings.Settings.{Settings}
use Rattle.module_constants.specs.declared.context.GlobalContext.{GlobalContext}

-- the settings of the checks of values are those of the module
pub record AreSettingsOf (s : Settings) (resolved : Bool) (c : GlobalContext) : Type 0 where
  pub capabilities : c.capabilities ≡ s.capabilities
  pub overrides : c.overrides_resolved ≡ resolved
