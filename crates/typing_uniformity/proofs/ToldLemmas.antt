-- The uniformities assembled for each expression satisfy the definitions.
use Rattle.std.proofs.Common.{◌≡◌, ℕ, zero, suc, ◌+◌, List, [], ◌∷◌, length, map, Option, Some, None, option_map, slice_get, refl, sym, ap, ◌∙◌, subst, arith}
use Rattle.std.proofs.lemmas.Option.{same_Some, slice_get-map, slice_get_within}
use Rattle.ir_arena.specs.judged.Handles.{handles_from}
use Rattle.ir_arena.specs.declared.span.Span.{Span}
use Rattle.ir_types.specs.judged.ExpressionPlain.{PlainExpression, expression_view}
use Rattle.ir_types.specs.declared.expressions.Expression.{Expression}
use Rattle.ir_items.specs.found.GlobalView.{values_of}
use Rattle.ir_items.specs.judged.Plain.{PlainFunction, PlainModule}
use Rattle.spec_expressions.specs.declared.uniformity.Uniformity.{Uniformity}
use Rattle.spec_expressions.specs.judged.Values.{ComesFrom, IsExact}
use Rattle.typing_uniformity.specs.Facts.{AreSources, IsUniformity, AreUniformities}
use Rattle.spec_expressions.specs.judged.Faults.{requirement_in}
use Rattle.typing_uniformity.specs.Reported.{Reported, told, reported_of, all_reported}

told_at : (sources : List (Option ℕ)) (n : ℕ) (entries : List (Expression × Span)) (i : ℕ)
    → slice_get (all_reported sources (handles_from n entries)) i ≡ option_map (reported_of sources (n + i)) (slice_get (map expression_view (values_of entries)) i)
told_at sources n [] i = refl
told_at sources n (e ∷ es) zero = let same : n ≡ n + 0 = omega arith in ap (λ k. Some (reported_of sources k (expression_view e.0))) same
told_at sources n (e ∷ es) (suc i) =
    let same : n + 1 + i ≡ n + suc i = omega arith in
    told_at sources (n + 1) es i ∙ ap (λ k. option_map (reported_of sources k) (slice_get (map expression_view (values_of es)) i)) same

told_length : (sources : List (Option ℕ)) (n : ℕ) (entries : List (Expression × Span)) → length (all_reported sources (handles_from n entries)) ≡ length (map expression_view (values_of entries))
told_length sources n [] = refl
told_length sources n (e ∷ es) = ap suc (told_length sources (n + 1) es)

map_length : (us : List Uniformity) → length (map told us) ≡ length us
map_length [] = refl
map_length (u ∷ us) = ap suc (map_length us)

module _ (m : PlainModule) (f : PlainFunction) (sources : List (Option ℕ)) (are : AreSources m f sources) where
  told_is : (e : ℕ) (u : Uniformity) (o : Option PlainExpression) → slice_get f.expressions e ≡ o → Some (told u) ≡ option_map (reported_of sources e) o → IsUniformity m f e u
  told_is e u None there is = absurd (cc (is))
  told_is e u (Some x) there is =
      let same : told u ≡ reported_of sources e x = same_Some _ _ is in
      record {
        source = subst (λ s. IsExact s (ComesFrom m f e)) (sym (ap (λ (t : Reported). t.source) same)) (are.each e (slice_get_within f.expressions e x there));
        requirements = ap (λ (t : Reported). t.requirement) same ∙ sym (ap requirement_in there);
      }

  pub are_uniformities : (entries : List (Expression × Span)) (all : List Uniformity) → f.expressions ≡ map expression_view (values_of entries) → map told all ≡ all_reported sources (handles_from 0 entries) → AreUniformities m f all
  are_uniformities entries all is tells =
      let at : (e : ℕ) → option_map told (slice_get all e) ≡ option_map (reported_of sources e) (slice_get f.expressions e) = λ e.
      let zero_plus : 0 + e ≡ e = omega arith in
      sym (slice_get-map told all e) ∙ ap (λ l. slice_get l e) tells ∙ told_at sources 0 entries e
      ∙ ap (λ k. option_map (reported_of sources k) (slice_get (map expression_view (values_of entries)) e)) zero_plus
      ∙ ap (λ l. option_map (reported_of sources e) (slice_get l e)) (sym is) in
      record {
        len = sym (map_length all) ∙ ap length tells ∙ told_length sources 0 entries ∙ ap length (sym is);
        each = λ e u stands. told_is e u (slice_get f.expressions e) refl (sym (ap (option_map told) stands) ∙ at e);
      }
