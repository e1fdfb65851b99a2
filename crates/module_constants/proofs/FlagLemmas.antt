-- The `TypeInfo` at an index is that of the type there.
use Rattle.std.proofs.Common.{◌≡◌, ◌<◌, ℕ, List, length, get_or, sym, subst}
use Rattle.std.proofs.lemmas.Option.{slice_get-get_or}
use Rattle.ir_types.specs.judged.Plain.{PlainType}
use Rattle.typing_layout.specs.judged.View.{type_tree}
use Rattle.module_type_checks.specs.Known.{AreInfos}
use Rattle.typing_layout.specs.found.Infos.{HasInfo}
use Rattle.typing_layout.specs.declared.info.TypeInfo.{TypeInfo}

pub info_at : (types : List PlainType) (infos : List TypeInfo) (h k : ℕ) (other : TypeInfo) → AreInfos types infos → h < length infos → k ≡ h → HasInfo types (type_tree types h) (get_or infos k other)
info_at types infos h k other told lt index =
    subst (λ n. HasInfo types (type_tree types h) (get_or infos n other)) (sym index) (told.each h (get_or infos h other) (slice_get-get_or infos h other lt))
