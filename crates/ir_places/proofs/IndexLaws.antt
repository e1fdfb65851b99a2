-- Iteration over statements and cases by an index.
use Rattle.std.proofs.Common.{◌≡◌, ◌<◌, ◌≤◌, ◌+◌, ◌∙◌, ℕ, suc, List, ◌∷◌, map, length, drop, get_or, arith, sym, ap}
use Rattle.std.proofs.Math.Seq.{drop-cons}
use Rattle.std.proofs.lemmas.List.{drop_all}
use Rattle.ir_blocks.specs.declared.statements.Statement.{Statement}
use Rattle.ir_blocks.specs.declared.statements.SwitchCase.{SwitchCase}
use Rattle.ir_blocks.specs.found.View.{statement_view, block_view, case_view, statements_view, cases_of}
use Rattle.ir_blocks.specs.judged.Plain.{stop, next, case}
use Rattle.ir_places.proofs.TrailLaws.{body_is}

pub next_of : (items : List Statement) (i : ℕ) (s : Statement) → i < length items → s ≡ get_or items i s → statements_view (drop i items) ≡ next (statement_view s) (statements_view (drop (i + 1) items))
next_of items i s within is =
    ap statements_view (drop-cons items i s within) ∙ (ap (λ x. next (statement_view x) (statements_view (drop (suc i) items))) (sym is)
    ∙ ap (λ n. next (statement_view s) (statements_view (drop n items))) (let e : suc i ≡ i + 1 = omega arith in e))

pub stop_of : (items : List Statement) (i : ℕ) → length items ≤ i → statements_view (drop i items) ≡ stop
stop_of items i past = ap statements_view (drop_all i items past)

pub case_of : (items : List SwitchCase) (i : ℕ) (c : SwitchCase) → i < length items → c ≡ get_or items i c
    → cases_of (map case_view (drop i items)) ≡ case (case_view c).value (block_view c.body) (case_view c).falls (cases_of (map case_view (drop (i + 1) items)))
case_of items i c within is =
    ap (λ x. cases_of (map case_view x)) (drop-cons items i c within) ∙ (ap (λ x. cases_of (case_view x ∷ map case_view (drop (suc i) items))) (sym is)
    ∙ (ap (λ n. cases_of (case_view c ∷ map case_view (drop n items))) (let e : suc i ≡ i + 1 = omega arith in e)
    ∙ ap (λ b. case (case_view c).value b (case_view c).falls (cases_of (map case_view (drop (i + 1) items)))) (sym (body_is c))))
