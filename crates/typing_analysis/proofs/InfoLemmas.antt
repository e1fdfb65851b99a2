-- The assembled info of each expression satisfies the definitions.
use Rattle.std.proofs.Common.{◌≡◌, ℕ, zero, suc, ◌+◌, ◌<◌, Option, Some, List, [], ◌∷◌, length, slice_get, refl, sym, ap, ◌∙◌, subst, arith}
use Rattle.std.specs.Prelude.{slice_index_or}
use Rattle.std.proofs.lemmas.Option.{same_Some, slice_get-get_or, slice_get_within}
use Rattle.typing_uniformity.specs.Facts.{AreUniformities}
use Rattle.spec_expressions.specs.declared.expression_info.ExpressionInfo.{ExpressionInfo}
use Rattle.spec_expressions.specs.declared.uniformity.Uniformity.{Uniformity}
use Rattle.typing_summaries.specs.Tallied.{IsTally}
use Rattle.typing_summaries.specs.Tallies.{Tallied}
use Rattle.ir_items.specs.judged.Plain.{PlainFunction, PlainModule}
use Rattle.spec_expressions.specs.judged.Summaries.{Summary}
use Rattle.spec_expressions.specs.judged.Values.{AreStarts}
use Rattle.spec_expressions.specs.judged.Context.{inside}
use Rattle.typing_analysis.specs.Infos.{IsExpressionInfo, AreExpressionInfos}
use Rattle.typing_analysis.specs.Kept.{unknown, info_at, infos_from}
use Rattle.typing_infos.specs.Types.{AreTypes}
use Rattle.typing_forms.specs.declared.resolution.TypeResolution.{TypeResolution}

-- the element at a place was assembled from the type there
record PutTogether (uniformities : List Uniformity) (counts : List ℕ) (globals : List (Option ℕ)) (place e : ℕ) (types : List TypeResolution) (i : ExpressionInfo) : Type 0 where
  ty : TypeResolution
  there : slice_get types e ≡ Some ty
  is : i ≡ info_at uniformities counts globals (place + e) ty

module _ (uniformities : List Uniformity) (counts : List ℕ) (globals : List (Option ℕ)) where
  put_together : (place : ℕ) (types : List TypeResolution) (e : ℕ) (i : ExpressionInfo) → slice_get (infos_from uniformities counts globals place types) e ≡ Some i → PutTogether uniformities counts globals place e types i
  put_together place [] e i at = absurd (cc (at))
  put_together place (ty ∷ rest) zero i at =
      let same : place ≡ place + 0 = omega arith in
      record { ty = ty; there = refl; is = sym (same_Some _ _ at) ∙ ap (λ p. info_at uniformities counts globals p ty) same }
  put_together place (ty ∷ rest) (suc e) i at =
      let p = put_together (place + 1) rest e i at in
      let same : place + 1 + e ≡ place + suc e = omega arith in
      record { ty = p.ty; there = p.there; is = p.is ∙ ap (λ q. info_at uniformities counts globals q p.ty) same }

  infos_length : (place : ℕ) (types : List TypeResolution) → length (infos_from uniformities counts globals place types) ≡ length types
  infos_length place [] = refl
  infos_length place (ty ∷ rest) = ap suc (infos_length (place + 1) rest)

  module _ (m : PlainModule) (f : PlainFunction) (summaries : List Summary) (types : List TypeResolution) (t : Tallied) (typed : AreTypes (inside m f) f.expressions types) (uniform : AreUniformities m f uniformities)
      (starts : AreStarts f.expressions globals) (tally : IsTally (length m.globals) f summaries t) (counted : t.counted.counts ≡ counts) where
    info_is : (e : ℕ) (ty : TypeResolution) → slice_get types e ≡ Some ty → IsExpressionInfo m f e (info_at uniformities counts globals e ty)
    info_is e ty there =
        let within : e < length types = slice_get_within types e ty there in
        let below : e < length f.expressions = subst (λ n. e < n) typed.len within in
        let known = slice_get-get_or uniformities e unknown (subst (λ n. e < n) (sym uniform.len) below) in
        record {
          uniformity = uniform.each e (slice_index_or uniformities e unknown) known;
          ref_count = ap (λ l. slice_index_or l e 0) (sym counted) ∙ tally.counts e below;
          assignable_global = λ g. starts e g;
          ty = typed.each e ty there;
        }

    pub infos_are : (infos : List ExpressionInfo) → infos ≡ infos_from uniformities counts globals 0 types → AreExpressionInfos m f infos
    infos_are infos are = record {
      len = ap length are ∙ infos_length 0 types ∙ typed.len;
      each = λ e i at.
          let p = put_together 0 types e i (ap (λ l. slice_get l e) (sym are) ∙ at) in
          let same : 0 + e ≡ e = omega arith in
          subst (IsExpressionInfo m f e) (sym (p.is ∙ ap (λ q. info_at uniformities counts globals q p.ty) same)) (info_is e p.ty p.there);
    }
