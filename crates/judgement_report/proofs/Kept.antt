-- Lists with a further row, and the strides of the elements around a leaf.
use Rattle.std.proofs.Common.{◌≡◌, ◌≢◌, ℕ, List, [], ◌∷◌, ◌++◌, codes, decimal, refl, sym, ap, ◌∙◌, append-nil, flat_map, ne_eqb}
use Rattle.std.specs.Prelude.{if◌then◌else◌}
use Rattle.std.proofs.lemmas.List.{flat_map_more}
use Rattle.judgement_report.specs.Lines.{repeat_words}
use Rattle.judgement_report.specs.Paths.{stride_word}
use Rattle.judgement_report.specs.Runs.{to_each}
use Rattle.judgement_rows.specs.declared.rows.Repeat.{Repeat}

-- an array of one element has no stride
pub none_more : (before repeats : List Repeat) (count stride : ℕ) → count ≡ 1 → repeats ≡ before → repeat_words repeats ≡ repeat_words before ++ stride_word (to_each count stride)
none_more before repeats count stride one is = ap repeat_words is ∙ (sym (append-nil (repeat_words before)) ∙ ap (λ n. repeat_words before ++ stride_word (to_each n stride)) (sym one))

pub one_more : (before repeats : List Repeat) (r : Repeat) → r.count ≢ 1 → repeats ≡ before ++ r ∷ [] → repeat_words repeats ≡ repeat_words before ++ stride_word (to_each r.count r.stride)
one_more before repeats r several is =
    let word : List ℕ = codes " stride " ++ decimal r.stride in
    ap repeat_words is
    ∙ (sym (flat_map_more (λ (q : Repeat). codes " stride " ++ decimal q.stride) [] before r)
    ∙ ap (λ b. repeat_words before ++ (if b then [] else word)) (sym (ne_eqb r.count 1 several)))

-- ---- rows that are kept

pub kept : {X : Type 0} (line : X → List ℕ) (old new : List X) (x : X) → new ≡ old ++ x ∷ [] → flat_map line new ≡ flat_map line old ++ line x
kept line old new x is = ap (flat_map line) is ∙ sym (flat_map_more line [] old x)
