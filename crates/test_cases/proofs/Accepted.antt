-- What is reported of types that are accepted.
use Rattle.std.specs.Prelude.{Bool, List}
use Rattle.function_interface.specs.Reported.{AreReported}
use Rattle.ir_flags.specs.declared.settings.Capabilities.{Capabilities}
use Rattle.ir_types.specs.judged.Plain.{PlainType}
use Rattle.module_context.specs.AcceptedTypes.{AreAccepted}
use Rattle.typing_layout.specs.declared.info.TypeInfo.{TypeInfo}

pub reported_of : (capabilities : Capabilities) (resolved : Bool) (types : List PlainType) (infos : List TypeInfo) → AreAccepted capabilities resolved types infos → AreReported types infos
reported_of capabilities resolved types infos accepted = record {
  told = record { each = λ handle i at. (accepted.each handle i at).info };
  many = accepted.many;
}
