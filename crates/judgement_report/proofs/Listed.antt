-- One more element or member, and the leaves at a handle.
use Rattle.std.proofs.Common.{◌≡◌, ◌≢◌, ◌<◌, ◌≤◌, ◌+◌, ◌-◌, ◌*◌, ℕ, zero, suc, List, [], ◌∷◌, ◌++◌, Some, None, map, length, get_or, drop, refl, ap, sym, ◌∙◌, arith, add-one, append_assoc, append-nil}
use Rattle.std.proofs.Math.Seq.{drop-cons}
use Rattle.ir_types.specs.judged.Plain.{PlainInner, PlainType, member_view}
use Rattle.ir_types.specs.declared.types.StructMember.{StructMember}
use Rattle.judgement_report.specs.Rows.{row, rows}
use Rattle.judgement_report.specs.declared.leaves.Leaf.{Leaf}
use Rattle.judgement.specs.judged.Leaves.{Leaf as Place, leaf_inside, leaves, member_leaves, repeated}
use Rattle.typing_forms.specs.judged.Resolutions.{inner_at}
use Rattle.typing_layout.specs.judged.Tree.{Tree}
use Rattle.typing_layout.specs.judged.View.{members_by, tree_by, tree_found, tree_along}

rows_append : (start : ℕ) (xs ys : List Place) → rows start (xs ++ ys) ≡ rows start xs ++ rows start ys
rows_append start [] ys = refl
rows_append start (x ∷ xs) ys = ap (λ r. row start x ∷ r) (rows_append start xs ys)

rows_inside : (start part offset : ℕ) (xs : List Place) → rows start (map (leaf_inside part offset) xs) ≡ rows (start + offset) xs
rows_inside start part offset [] = refl
rows_inside start part offset (x ∷ xs) =
    let e : start + (offset + x.first) ≡ start + offset + x.first = omega arith in
    let one : row start (leaf_inside part offset x) ≡ row (start + offset) x = ap (λ f. let l : Leaf = record { first = f; len = x.length; alignment = x.alignment } in l) e in
    ap (λ r. r ∷ rows start (map (leaf_inside part offset) xs)) one ∙ ap (λ r. row (start + offset) x ∷ r) (rows_inside start part offset xs)

-- ---- elements

pub repeated_last : (n part stride : ℕ) (ls : List Place) → repeated (suc n) part stride ls ≡ repeated n part stride ls ++ map (leaf_inside (part + n) ((part + n) * stride)) ls
unfolding repeated
repeated_last zero part stride ls = append-nil _ ∙ (let e : part ≡ part + 0 = omega arith in ap (λ j. map (leaf_inside j (j * stride)) ls) e)
repeated_last (suc n) part stride ls =
    let e : suc part + n ≡ part + suc n = omega arith in
    ap (λ r. map (leaf_inside part (part * stride)) ls ++ r) (repeated_last n (suc part) stride ls ∙ ap (λ j. repeated n (suc part) stride ls ++ map (leaf_inside j (j * stride)) ls) e)
    ∙ sym (append_assoc (map (leaf_inside part (part * stride)) ls) (repeated n (suc part) stride ls) _)

pub one_element_more : (out old after : List Leaf) (start place stride : ℕ) (ls : List Place) → out ≡ old ++ rows start (repeated place 0 stride ls) → after ≡ out ++ rows (start + place * stride) ls
    → after ≡ old ++ rows start (repeated (place + 1) 0 stride ls)
one_element_more out old after start place stride ls p q =
    let e : repeated (place + 1) 0 stride ls ≡ repeated place 0 stride ls ++ map (leaf_inside (0 + place) ((0 + place) * stride)) ls = ap (λ j. repeated j 0 stride ls) (add-one place) ∙ repeated_last place 0 stride ls in
    let z : 0 + place ≡ place = omega arith in
    let f : rows start (repeated (place + 1) 0 stride ls) ≡ rows start (repeated place 0 stride ls) ++ rows (start + place * stride) ls =
    ap (rows start) e
    ∙ rows_append start (repeated place 0 stride ls) _
    ∙ ap (λ r. rows start (repeated place 0 stride ls) ++ r) (rows_inside start (0 + place) ((0 + place) * stride) ls ∙ ap (λ j. rows (start + j * stride) ls) z) in
    q ∙ ap (λ o. o ++ rows (start + place * stride) ls) p ∙ append_assoc old _ _ ∙ ap (λ r. old ++ r) (sym f)

pub no_elements : (old : List Leaf) (start stride : ℕ) (ls : List Place) → old ≡ old ++ rows start (repeated 0 0 stride ls)
unfolding repeated
no_elements old start stride ls = sym (append-nil old)

-- an element is within the size of the array
pub element_offset : (place count stride : ℕ) → place < count → count * stride ≤ 2147483647 → place * stride ≤ 2147483647
element_offset place count stride lt le = grind arith

-- ---- members

pub split_at : (members : List StructMember) (place : ℕ) (m : StructMember) → place < length members → m ≡ get_or members place m
    → map member_view (drop place members) ≡ member_view m ∷ map member_view (drop (place + 1) members)
split_at members place m lt is =
    let split : drop place members ≡ get_or members place m ∷ drop (suc place) members = drop-cons members place m lt in
    let next : suc place ≡ place + 1 = omega arith in
    ap (map member_view) split ∙ (ap (λ x. member_view x ∷ map member_view (drop (suc place) members)) (sym is) ∙ ap (λ n. member_view m ∷ map member_view (drop n members)) next)

pub one_member_more : (tree : ℕ → Tree) (members : List StructMember) (place start : ℕ) (m : StructMember) (out after all : List Leaf) → place < length members → m ≡ get_or members place m
    → out ++ rows start (member_leaves 1 place (members_by tree (map member_view (drop place members)))) ≡ all → after ≡ out ++ rows (start + m.offset) (leaves 1 (tree m.ty))
    → after ++ rows start (member_leaves 1 (place + 1) (members_by tree (map member_view (drop (place + 1) members)))) ≡ all
one_member_more tree members place start m out after all lt is p q =
    let rest = rows start (member_leaves 1 (place + 1) (members_by tree (map member_view (drop (place + 1) members)))) in
    let next : suc place ≡ place + 1 = omega arith in
    let here : rows start (member_leaves 1 place (members_by tree (map member_view (drop place members)))) ≡ rows (start + m.offset) (leaves 1 (tree m.ty)) ++ rest =
    ap (λ ms. rows start (member_leaves 1 place (members_by tree ms))) (split_at members place m lt is)
    ∙ rows_append start (map (leaf_inside place m.offset) (leaves 1 (tree m.ty))) _
    ∙ ap (λ r. r ++ rows start (member_leaves 1 (suc place) (members_by tree (map member_view (drop (place + 1) members))))) (rows_inside start place m.offset (leaves 1 (tree m.ty)))
    ∙ ap (λ n. rows (start + m.offset) (leaves 1 (tree m.ty)) ++ rows start (member_leaves 1 n (members_by tree (map member_view (drop (place + 1) members))))) next in
    ap (λ o. o ++ rest) q ∙ append_assoc out _ rest ∙ ap (λ r. out ++ r) (sym here) ∙ p

-- ---- types by their handles

pub none_along : (types : List PlainType) (depth handle : ℕ) → depth ≡ 0 → leaves 1 (tree_along types depth handle) ≡ []
unfolding tree_along
none_along types zero handle is = refl
none_along types (suc n) handle is = absurd (omega (arith, is))

pub missing_along : (types : List PlainType) (depth handle : ℕ) → inner_at types handle ≡ None → leaves 1 (tree_along types depth handle) ≡ []
unfolding tree_along
missing_along types zero handle at = refl
missing_along types (suc n) handle at = ap (λ i. leaves 1 (tree_found (tree_along types n) i)) at

pub found_along : (types : List PlainType) (depth handle : ℕ) (i : PlainInner) → depth ≢ 0 → inner_at types handle ≡ Some i → tree_along types depth handle ≡ tree_by (tree_along types (depth - 1)) i
unfolding tree_along
found_along types zero handle i some at = absurd (some refl)
found_along types (suc n) handle i some at = ap (tree_found (tree_along types n)) at ∙ (let e : n ≡ suc n - 1 = omega arith in ap (λ m. tree_by (tree_along types m) i) e)

pub nothing_added : (old : List Leaf) (start : ℕ) (ls : List Place) → ls ≡ [] → old ≡ old ++ rows start ls
nothing_added old start ls e = sym (ap (λ l. old ++ rows start l) e ∙ append-nil old)
