-- The results for a valid module.
use Rattle.std.specs.Prelude.{◌≡◌, [], Bool, length}
use Rattle.ir_flags.specs.declared.settings.Settings.{Settings}
use Rattle.ir_items.specs.judged.Plain.{PlainModule}
use Rattle.typing_infos.specs.declared.info.ModuleInfo.{ModuleInfo}
use Rattle.module_context.specs.AcceptedTypes.{AreAccepted}
use Rattle.spec_expressions.specs.judged.Context.{outside}
use Rattle.typing_infos.specs.Types.{AreTypes}
use Rattle.typing_layout.specs.found.Held.{AreLayouts}

-- The flags and layout of each type and the type of each global expression; nothing yet for functions and entry points.
pub record IsInfoOf (s : Settings) (resolved : Bool) (m : PlainModule) (info : ModuleInfo) : Type 0 where
  pub types : AreAccepted s.capabilities resolved m.types info.types.items
  pub layouts : AreLayouts m.types info.layouter
  pub laid : length info.layouter ≡ length m.types
  pub expressions : AreTypes (outside m) m.global_expressions info.const_expression_types.items
  pub functions : info.functions.items ≡ []
  pub entry_points : info.entry_points.items ≡ []
