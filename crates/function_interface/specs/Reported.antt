-- The `TypeInfo`s of a module.
use Rattle.std.specs.Prelude.{◌≡◌, List, length}
use Rattle.ir_types.specs.judged.Plain.{PlainType}
use Rattle.module_type_checks.specs.Known.{AreInfos}
use Rattle.typing_layout.specs.declared.info.TypeInfo.{TypeInfo}

-- the infos are those of all types
pub record AreReported (types : List PlainType) (infos : List TypeInfo) : Type 0 where
  pub told : AreInfos types infos
  pub many : length infos ≡ length types
