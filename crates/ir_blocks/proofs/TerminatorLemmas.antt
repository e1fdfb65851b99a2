-- The completed body, as the code computes it.
use Rattle.std.proofs.Common.{◌≡◌, List, [], ◌∷◌, ◌++◌, map, true, false, None, sym, ap, ◌∙◌, rules}
use Rattle.std.proofs.lemmas.List.{map-append}
use Rattle.ir_blocks.specs.judged.Plain.{PlainStatement, return, next}
use Rattle.ir_blocks.specs.judged.Shapes.{shape_of}
use Rattle.ir_blocks.specs.judged.Tails.{goes_on, ending, completed, finished}
use Rattle.ir_blocks.specs.found.View.{block_of, statement_view, block_view, statements_view, statements_of}
use Rattle.ir_blocks.specs.declared.statements.Statement.{Statement, the_lemmas}
use Rattle.ir_blocks.specs.declared.statements.Block.{Block}

completed_stays : (xs : List PlainStatement) (x : PlainStatement) → goes_on (shape_of x) ≡ false → completed (block_of (xs ++ x ∷ [])) ≡ block_of (xs ++ finished x ∷ [])
completed_stays [] x e = ap (λ b. next (finished x) (ending b)) e
completed_stays (y ∷ []) x e = ap (next y) (completed_stays [] x e)
completed_stays (y ∷ z ∷ zs) x e = ap (next y) (completed_stays (z ∷ zs) x e)

completed_adds : (xs : List PlainStatement) (x : PlainStatement) → goes_on (shape_of x) ≡ true → completed (block_of (xs ++ x ∷ [])) ≡ block_of ((xs ++ finished x ∷ []) ++ return None ∷ [])
completed_adds [] x e = ap (λ b. next (finished x) (ending b)) e
completed_adds (y ∷ []) x e = ap (next y) (completed_adds [] x e)
completed_adds (y ∷ z ∷ zs) x e = ap (next y) (completed_adds (z ∷ zs) x e)

pub block_view-statements : (b : Block) → block_view b ≡ statements_view (statements_of b)
block_view-statements b = search (rules, the_lemmas)

-- the statements so far, the last one completed, and a return if control continues
pub complete_stays : (b : Block) (prefix body items : List Statement) (last whole : Statement) → statements_of b ≡ prefix ++ last ∷ [] → map statement_view body ≡ map statement_view prefix
    → statement_view whole ≡ finished (statement_view last) → goes_on (shape_of (statement_view last)) ≡ false → items ≡ body ++ whole ∷ [] → statements_view items ≡ completed (block_view b)
complete_stays b prefix body items last whole parts copies end on made =
    let left : statements_view items ≡ block_of (map statement_view prefix ++ finished (statement_view last) ∷ []) =
    ap statements_view made ∙ (ap block_of (map-append statement_view body (whole ∷ [])) ∙ (ap (λ z. block_of (z ++ statement_view whole ∷ [])) copies ∙ ap (λ z. block_of (map statement_view prefix ++ z ∷ [])) end)) in
    let right : block_view b ≡ block_of (map statement_view prefix ++ statement_view last ∷ []) =
    block_view-statements b ∙ (ap statements_view parts ∙ ap block_of (map-append statement_view prefix (last ∷ []))) in
    left ∙ (sym (completed_stays (map statement_view prefix) (statement_view last) on) ∙ sym (ap completed right))

pub complete_adds : (b : Block) (prefix body more items : List Statement) (last whole : Statement) → statements_of b ≡ prefix ++ last ∷ [] → map statement_view body ≡ map statement_view prefix
    → statement_view whole ≡ finished (statement_view last) → goes_on (shape_of (statement_view last)) ≡ true → more ≡ body ++ whole ∷ [] → map statement_view items ≡ map statement_view more ++ return None ∷ []
    → statements_view items ≡ completed (block_view b)
complete_adds b prefix body more items last whole parts copies end on made all =
    let more_is : map statement_view more ≡ map statement_view prefix ++ finished (statement_view last) ∷ [] =
    ap (map statement_view) made ∙ (map-append statement_view body (whole ∷ []) ∙ (ap (λ z. z ++ statement_view whole ∷ []) copies ∙ ap (λ z. map statement_view prefix ++ z ∷ []) end)) in
    let left : statements_view items ≡ block_of ((map statement_view prefix ++ finished (statement_view last) ∷ []) ++ return None ∷ []) =
    ap block_of all ∙ ap (λ z. block_of (z ++ return None ∷ [])) more_is in
    let right : block_view b ≡ block_of (map statement_view prefix ++ statement_view last ∷ []) =
    block_view-statements b ∙ (ap statements_view parts ∙ ap block_of (map-append statement_view prefix (last ∷ []))) in
    left ∙ (sym (completed_adds (map statement_view prefix) (statement_view last) on) ∙ sym (ap completed right))
