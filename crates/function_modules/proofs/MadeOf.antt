-- What a validator keeps of a module that it accepts is of this module.
use Rattle.std.specs.Prelude.{Bool}
use Rattle.ir_flags.specs.declared.settings.Capabilities.{Capabilities}
use Rattle.ir_items.specs.judged.Plain.{PlainModule}
use Rattle.typing_infos.specs.declared.info.ModuleInfo.{ModuleInfo}
use Rattle.module_context.specs.AcceptedTypes.{AreAccepted}
use Rattle.function_modules.specs.Made.{IsMadeOf}
use Rattle.spec_expressions.specs.judged.Context.{outside}
use Rattle.spec_expressions.specs.judged.ModuleHandles.{HandlesOK}
use Rattle.typing_infos.specs.Types.{AreTypes}

pub made_of : (capabilities : Capabilities) (resolved : Bool) (m : PlainModule) (info : ModuleInfo) → HandlesOK m → AreAccepted capabilities resolved m.types info.types.items
    → AreTypes (outside m) m.global_expressions info.const_expression_types.items → IsMadeOf m info
made_of capabilities resolved m info handles accepted typed = record {
  handles = handles;
  told = record {
    told = record { each = λ handle i at. (accepted.each handle i at).info };
    many = accepted.many;
  };
  typed = typed;
}
