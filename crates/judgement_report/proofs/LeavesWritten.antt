-- Lines of leaves that are written part by part.
use Rattle.std.proofs.Common.{◌≡◌, ◌≢◌, ◌<◌, ◌+◌, ℕ, zero, suc, List, [], ◌∷◌, ◌++◌, Some, None, map, length, get_or, drop, slice_get, option_map, string_bytes, codes, true, false, true≢false, ◌==◌, refl, ap, sym, ◌∙◌, arith, append_assoc, append-nil}
use Rattle.std.proofs.lemmas.Bool.{eqb-true}
use Rattle.std.proofs.lemmas.Option.{slice_get-map}
use Rattle.ir_types.specs.judged.Plain.{PlainMember, PlainType, member_view}
use Rattle.ir_types.specs.declared.types.StructMember.{StructMember}
use Rattle.judgement_report.proofs.Listed.{split_at}
use Rattle.judgement_report.specs.Lines.{leaf_line, path_word, row_lines}
use Rattle.judgement_report.specs.Paths.{dot_after, named, numbered, parts_at, parts_of_found, stride_word, stride_words, to_elements, to_found, to_member, path_along}
use Rattle.judgement_report.specs.Runs.{Row, Step, elements, listed, member_rows, row_inside, row_of, to_each, to_part}
use Rattle.typing_forms.specs.judged.Resolutions.{inner_at}
use Rattle.typing_layout.specs.judged.Tree.{Tree}
use Rattle.typing_layout.specs.judged.View.{members_by, tree_along, tree_found, type_tree}

lines_append : (text : List Step → List ℕ) (strides : List ℕ) (start : ℕ) (xs ys : List Row) → row_lines text strides start (xs ++ ys) ≡ row_lines text strides start xs ++ row_lines text strides start ys
lines_append text strides start [] ys = refl
lines_append text strides start (x ∷ xs) ys =
    let line : List ℕ = leaf_line (text x.steps) (strides ++ stride_words x.steps) (start + x.first) x.length x.alignment in
    ap (λ r. line ++ r) (lines_append text strides start xs ys) ∙ sym (append_assoc line (row_lines text strides start xs) (row_lines text strides start ys))

-- of the rows of a part, as rows of the whole
lines_inside : (text : List Step → List ℕ) (strides : List ℕ) (start : ℕ) (step : Step) (offset : ℕ) (xs : List Row)
    → row_lines text strides start (map (row_inside step offset) xs) ≡ row_lines (λ p. text (step ∷ p)) (strides ++ stride_word step) (start + offset) xs
lines_inside text strides start step offset [] = refl
lines_inside text strides start step offset (x ∷ xs) =
    let e : start + (offset + x.first) ≡ start + offset + x.first = omega arith in
    let more = row_lines text strides start (map (row_inside step offset) xs) in
    ap (λ f. leaf_line (text (step ∷ x.steps)) (strides ++ (stride_word step ++ stride_words x.steps)) f x.length x.alignment ++ more) e
    ∙ (ap (λ w. leaf_line (text (step ∷ x.steps)) w (start + offset + x.first) x.length x.alignment ++ more) (sym (append_assoc strides (stride_word step) (stride_words x.steps)))
    ∙ ap (λ r. leaf_line (text (step ∷ x.steps)) ((strides ++ stride_word step) ++ stride_words x.steps) (start + offset + x.first) x.length x.alignment ++ r) (lines_inside text strides start step offset xs))

-- ---- elements

-- the lines of one element are those of all
pub elements_written : (types : List PlainType) (before path strides apart : List ℕ) (base start count stride : ℕ) (rs : List Row) (old after : List ℕ) → count ≢ 0
    → path ≡ to_elements before count → apart ≡ strides ++ stride_word (to_each count stride) → after ≡ old ++ row_lines (path_along types path (parts_at types base)) apart start rs
    → after ≡ old ++ row_lines (path_along types before (numbered base)) strides start (elements count stride rs)
elements_written types before path strides apart base start zero stride rs old after some is far written = absurd (some refl)
elements_written types before path strides apart base start (suc n) stride rs old after some is far written =
    let z : start + 0 ≡ start = omega arith in
    let step = to_each (suc n) stride in
    written
    ∙ (ap (λ p. old ++ row_lines (path_along types p (parts_at types base)) apart start rs) is
    ∙ (ap (λ w. old ++ row_lines (path_along types (to_elements before (suc n)) (parts_at types base)) w start rs) far
    ∙ ap (λ l. old ++ l) (sym (lines_inside (path_along types before (numbered base)) strides start step 0 rs
    ∙ ap (λ k. row_lines (λ p. path_along types before (numbered base) (step ∷ p)) (strides ++ stride_word step) k rs) z))))

pub no_elements : (old strides : List ℕ) (text : List Step → List ℕ) (start count stride : ℕ) (rs : List Row) → count ≡ 0 → old ≡ old ++ row_lines text strides start (elements count stride rs)
no_elements old strides text start count stride rs none = sym (ap (λ n. old ++ row_lines text strides start (elements n stride rs)) none ∙ append-nil old)

-- ---- members

got : (members : List StructMember) (place : ℕ) (m : StructMember) → place < length members → m ≡ get_or members place m → slice_get members place ≡ Some m
got [] place m lt is = absurd (omega (arith, lt))
got (x ∷ xs) zero m lt is = ap Some (sym is)
got (x ∷ xs) (suc k) m lt is = got xs k m (omega (arith, lt)) is

pub one_member_more : (types : List PlainType) (tree : ℕ → Tree) (members : List StructMember) (place start : ℕ) (m : StructMember) (before path strides out after all : List ℕ) → place < length members → m ≡ get_or members place m
    → out ++ row_lines (path_along types before (named (map member_view members))) strides start (member_rows place (members_by tree (map member_view (drop place members)))) ≡ all
    → path ≡ to_member before (option_map string_bytes m.name) place
    → after ≡ out ++ row_lines (path_along types path (parts_at types m.ty)) strides (start + m.offset) (listed (tree m.ty))
    → after ++ row_lines (path_along types before (named (map member_view members))) strides start (member_rows (place + 1) (members_by tree (map member_view (drop (place + 1) members)))) ≡ all
one_member_more types tree members place start m before path strides out after all lt is p named_so q =
    let ms : List PlainMember = map member_view members in
    let text : List Step → List ℕ = path_along types before (named ms) in
    let rest : List ℕ = row_lines text strides start (member_rows (place + 1) (members_by tree (map member_view (drop (place + 1) members)))) in
    let next : suc place ≡ place + 1 = omega arith in
    let at : slice_get ms place ≡ Some (member_view m) = slice_get-map member_view members place ∙ ap (option_map member_view) (got members place m lt is) in
    let one : row_lines text strides start (map (row_inside (to_part place) m.offset) (listed (tree m.ty))) ≡ row_lines (path_along types path (parts_at types m.ty)) strides (start + m.offset) (listed (tree m.ty)) =
    lines_inside text strides start (to_part place) m.offset (listed (tree m.ty))
    ∙ ap (λ w. row_lines (λ p. text (to_part place ∷ p)) w (start + m.offset) (listed (tree m.ty))) (append-nil strides)
    ∙ ap (λ o. row_lines (path_along types (to_found before o place) (parts_of_found types o)) strides (start + m.offset) (listed (tree m.ty))) at
    ∙ ap (λ b. row_lines (path_along types b (parts_at types m.ty)) strides (start + m.offset) (listed (tree m.ty))) (sym named_so) in
    let here : row_lines text strides start (member_rows place (members_by tree (map member_view (drop place members)))) ≡ row_lines (path_along types path (parts_at types m.ty)) strides (start + m.offset) (listed (tree m.ty)) ++ rest =
    ap (λ l. row_lines text strides start (member_rows place (members_by tree l))) (split_at members place m lt is)
    ∙ lines_append text strides start (map (row_inside (to_part place) m.offset) (listed (tree m.ty))) _
    ∙ ap (λ r. r ++ row_lines text strides start (member_rows (suc place) (members_by tree (map member_view (drop (place + 1) members))))) one
    ∙ ap (λ n. row_lines (path_along types path (parts_at types m.ty)) strides (start + m.offset) (listed (tree m.ty)) ++ row_lines text strides start (member_rows n (members_by tree (map member_view (drop (place + 1) members))))) next in
    ap (λ o. o ++ rest) q ∙ append_assoc out _ rest ∙ ap (λ r. out ++ r) (sym here) ∙ p

-- ---- one line, or none

pub one_line : (path strides : List ℕ) (start length alignment : ℕ) (old : List ℕ) (new : List ℕ) → new ≡ old ++ leaf_line path strides start length alignment
    → new ≡ old ++ row_lines (λ p. path) strides start (row_of [] 0 length alignment ∷ [])
one_line path strides start length alignment old new e =
    let z : start ≡ start + 0 = omega arith in
    e ∙ ap (λ f. old ++ leaf_line path strides f length alignment) z ∙ ap (λ w. old ++ leaf_line path w (start + 0) length alignment) (sym (append-nil strides))
    ∙ ap (λ l. old ++ l) (sym (append-nil (leaf_line path (strides ++ []) (start + 0) length alignment)))

pub dot_for_none : (path : List ℕ) → (length path == 0) ≡ true → codes "." ≡ path_word path
dot_for_none [] e = refl
dot_for_none (b ∷ bs) e = absurd (let n : length (b ∷ bs) ≡ 0 = eqb-true (length (b ∷ bs)) 0 e in omega (arith, n))

pub path_for_some : (path : List ℕ) → (length path == 0) ≡ false → path ≡ path_word path
path_for_some [] e = absurd (true≢false e)
path_for_some (b ∷ bs) e = refl

pub no_dot : (before : List ℕ) → (length before == 0) ≡ true → [] ≡ dot_after before
no_dot [] e = refl
no_dot (b ∷ bs) e = absurd (let n : length (b ∷ bs) ≡ 0 = eqb-true (length (b ∷ bs)) 0 e in omega (arith, n))

pub a_dot : (before : List ℕ) → (length before == 0) ≡ false → codes "." ≡ dot_after before
a_dot [] e = absurd (true≢false e)
a_dot (b ∷ bs) e = refl

pub nothing_written : (old strides : List ℕ) (text : List Step → List ℕ) (start : ℕ) (rs : List Row) → rs ≡ [] → old ≡ old ++ row_lines text strides start rs
nothing_written old strides text start rs e = sym (ap (λ l. old ++ row_lines text strides start l) e ∙ append-nil old)

-- ---- types by their handles

pub missing_listed : (types : List PlainType) (handle : ℕ) → inner_at types handle ≡ None → listed (type_tree types handle) ≡ []
unfolding tree_along type_tree
missing_listed types handle at = ap (λ i. listed (tree_found (tree_along types handle) i)) at
