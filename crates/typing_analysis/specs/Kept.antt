-- The assembled info of each expression.
use Rattle.std.specs.Prelude.{ℕ, ◌+◌, List, [], ◌∷◌, Option, None, slice_index_or}
use Rattle.spec_expressions.specs.declared.expression_info.ExpressionInfo.{ExpressionInfo}
use Rattle.spec_expressions.specs.declared.uniformity.Uniformity.{Uniformity}
use Rattle.spec_expressions.specs.judged.Values.{known_at}
use Rattle.typing_forms.specs.declared.resolution.TypeResolution.{TypeResolution}

-- no expression infos
abbrev pub unknown : Uniformity
unknown = record { non_uniform_result = None; requirements = record { 0 = 0 } }

-- the info of the expression at a place, which has this type
abbrev pub info_at : List Uniformity → (counts : List ℕ) → (globals : List (Option ℕ)) → ℕ → TypeResolution → ExpressionInfo
info_at uniformities counts globals e ty = record {
  uniformity = slice_index_or uniformities e unknown;
  ref_count = slice_index_or counts e 0;
  assignable_global = known_at globals e;
  ty = ty;
}

-- the infos of all expressions from this place on
abbrev pub infos_from : List Uniformity → (counts : List ℕ) → (globals : List (Option ℕ)) → ℕ → List TypeResolution → List ExpressionInfo
infos_from uniformities counts globals e [] = []
infos_from uniformities counts globals e (ty ∷ rest) = info_at uniformities counts globals e ty ∷ infos_from uniformities counts globals (e + 1) rest
