-- Defined spans, by their views.
use Rattle.std.proofs.Common.{◌≡◌, ◌<◌, ℕ, zero, suc, true, List, [], ◌∷◌, String, Global, map, length, slice_index_or, refl, sym, ap, ◌∙◌, arith}
use Rattle.std.proofs.lemmas.List.{length-map}
use Rattle.std.specs.List.{AllPass}
use Rattle.ir_arena.specs.declared.span.Span.{Span}
use Rattle.ir_arena.specs.found.Spans.{is_defined_span}
use Rattle.ir_types.specs.found.Faults.{context_of}

span_got : (xs : List (Span × String Global)) (k : ℕ) (d : Span × String Global) → (slice_index_or xs k d).0 ≡ (slice_index_or (map context_of xs) k (context_of d)).0
span_got [] k d = refl
span_got (x ∷ xs) zero d = refl
span_got (x ∷ xs) (suc k) d = span_got xs k d

-- a list whose view is one of defined spans has defined spans
pub known_alike : (xs ys : List (Span × String Global)) → map context_of xs ≡ map context_of ys → AllPass (λ context. is_defined_span context.0) ys → AllPass (λ context. is_defined_span context.0) xs
known_alike xs ys e known k d within =
    let alike = span_got xs k d ∙ (ap (λ l. (slice_index_or l k (context_of d)).0) e ∙ sym (span_got ys k d)) in
    ap is_defined_span alike ∙ known k d (omega (arith, within, sym (length-map xs context_of) ∙ (ap length e ∙ length-map ys context_of)))
