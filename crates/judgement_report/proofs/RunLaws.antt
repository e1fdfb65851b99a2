-- The rows of a value represent its leaves.
use Rattle.std.proofs.Common.{◌≡◌, ◌+◌, ◌*◌, ℕ, zero, suc, List, [], ◌∷◌, ◌++◌, map, inl, inr, refl, sym, ap, subst, ◌∙◌, arith}
use Rattle.std.specs.Prelude.{◌↔◌}
use Rattle.spec_expressions.proofs.Members.{among-left, among-right, among-cases}
use Rattle.typing_rules.specs.judged.Laws.{IsAmong}
use Rattle.judgement.specs.judged.Leaves.{Leaf, leaf, leaf_inside, leaves, member_leaves, held_in, repeated}
use Rattle.judgement_report.specs.Laws.{RowsAreLeaves}
use Rattle.judgement_report.specs.Runs.{Row, Step, to_part, to_each, row_inside, elements, listed, member_rows, reached_by, stands_for, all_stand_for}
use Rattle.typing_layout.specs.judged.Tree.{Tree, scalar, vector, matrix, cooperative_matrix, atomic, pointer, value_pointer, array, struct, image, sampler, acceleration_structure, ray_query, binding_array, Members, no_members, member}

-- both have the same members
abbrev Same : List Leaf → List Leaf → Type 0
Same xs ys = (l : Leaf) → IsAmong l xs ↔ IsAmong l ys

same_self : (xs : List Leaf) → Same xs xs
same_self xs l = (λ h. h, λ h. h)

same_by : (xs ys : List Leaf) → xs ≡ ys → Same xs ys
same_by xs ys e = subst (Same xs) e (same_self xs)

same_back : (xs ys : List Leaf) → Same xs ys → Same ys xs
same_back xs ys h l = ((h l).1, (h l).0)

same_then : (xs ys zs : List Leaf) → Same xs ys → Same ys zs → Same xs zs
same_then xs ys zs h k l = (λ a. (k l).0 ((h l).0 a), λ a. (h l).1 ((k l).1 a))

same_both : (a b c d : List Leaf) → Same a b → Same c d → Same (a ++ c) (b ++ d)
same_both a b c d h k l = (
  λ x. elim (among-cases a c l x) [ inl y ↦ among-left b d l ((h l).0 y) | inr y ↦ among-right b d l ((k l).0 y) ],
  λ x. elim (among-cases b d l x) [ inl y ↦ among-left a c l ((h l).1 y) | inr y ↦ among-right a c l ((k l).1 y) ],
)

-- four lists, the middle two swapped
half : (a b c d : List Leaf) (l : Leaf) → IsAmong l ((a ++ c) ++ (b ++ d)) → IsAmong l ((a ++ b) ++ (c ++ d))
half a b c d l x = elim (among-cases (a ++ c) (b ++ d) l x) [
  | inl y ↦ elim (among-cases a c l y) [
    | inl z ↦ among-left (a ++ b) (c ++ d) l (among-left a b l z)
    | inr z ↦ among-right (a ++ b) (c ++ d) l (among-left c d l z)
  ]
  | inr y ↦ elim (among-cases b d l y) [
    | inl z ↦ among-left (a ++ b) (c ++ d) l (among-right a b l z)
    | inr z ↦ among-right (a ++ b) (c ++ d) l (among-right c d l z)
  ]
]

exchanged : (a b c d : List Leaf) → Same ((a ++ c) ++ (b ++ d)) ((a ++ b) ++ (c ++ d))
exchanged a b c d l = (half a b c d l, half a c b d l)

map_both : (f : Leaf → Leaf) (xs ys : List Leaf) → map f (xs ++ ys) ≡ map f xs ++ map f ys
map_both f [] ys = refl
map_both f (x ∷ xs) ys = ap (λ r. f x ∷ r) (map_both f xs ys)

mapped : (f : Leaf → Leaf) (xs ys : List Leaf) (l : Leaf) → ((k : Leaf) → IsAmong k xs → IsAmong k ys) → IsAmong l (map f xs) → IsAmong l (map f ys)
mapped f xs ys l h x = let k = source xs x in subst (λ z. IsAmong z (map f ys)) k.2 (image_of k.0 ys (h k.0 k.1))
  where
    source : (zs : List Leaf) → IsAmong l (map f zs) → (k : Leaf) × IsAmong k zs × (f k ≡ l)
    source [] y = elim y [ ]
    source (z ∷ zs) (inl e) = (z, inl refl, e)
    source (z ∷ zs) (inr y) = let k = source zs y in (k.0, inr k.1, k.2)

    image_of : (k : Leaf) (zs : List Leaf) → IsAmong k zs → IsAmong (f k) (map f zs)
    image_of k [] y = elim y [ ]
    image_of k (z ∷ zs) (inl e) = inl (ap f e)
    image_of k (z ∷ zs) (inr y) = inr (image_of k zs y)

same_mapped : (f : Leaf → Leaf) (xs ys : List Leaf) → Same xs ys → Same (map f xs) (map f ys)
same_mapped f xs ys h l = (mapped f xs ys l (λ k. (h k).0), mapped f ys xs l (λ k. (h k).1))

-- ---- elements

repeated_none : (n part stride : ℕ) → repeated n part stride [] ≡ []
unfolding repeated
repeated_none zero part stride = refl
repeated_none (suc n) part stride = repeated_none n (suc part) stride

same_repeated : (n part stride : ℕ) (xs ys : List Leaf) → Same xs ys → Same (repeated n part stride xs) (repeated n part stride ys)
unfolding repeated
same_repeated zero part stride xs ys h = same_self []
same_repeated (suc n) part stride xs ys h =
    let f = leaf_inside part (part * stride) in
    same_both (map f xs) (map f ys) (repeated n (suc part) stride xs) (repeated n (suc part) stride ys) (same_mapped f xs ys h) (same_repeated n (suc part) stride xs ys h)

repeated_both : (n part stride : ℕ) (xs ys : List Leaf) → Same (repeated n part stride xs ++ repeated n part stride ys) (repeated n part stride (xs ++ ys))
unfolding repeated
repeated_both zero part stride xs ys = same_self []
repeated_both (suc n) part stride xs ys =
    let f = leaf_inside part (part * stride) in
    let a = map f xs in let b = map f ys in
    let c = repeated n (suc part) stride xs in let d = repeated n (suc part) stride ys in
    same_then ((a ++ c) ++ (b ++ d)) ((a ++ b) ++ (c ++ d)) (map f (xs ++ ys) ++ repeated n (suc part) stride (xs ++ ys)) (exchanged a b c d)
    (same_both (a ++ b) (map f (xs ++ ys)) (c ++ d) (repeated n (suc part) stride (xs ++ ys)) (same_by (a ++ b) (map f (xs ++ ys)) (sym (map_both f xs ys))) (repeated_both n (suc part) stride xs ys))

each_stands : (n stride : ℕ) (r : Row) → stands_for (row_inside (to_each n stride) 0 r) ≡ repeated n 0 stride (stands_for r)
each_stands n stride r = let z : 0 + r.first ≡ r.first = omega arith in ap (λ f. repeated n 0 stride (reached_by r.steps (leaf [] f r.length r.alignment ∷ []))) z

elements_stand : (n stride : ℕ) (rs : List Row) → Same (repeated n 0 stride (all_stand_for rs)) (all_stand_for (map (row_inside (to_each n stride) 0) rs))
elements_stand n stride [] = same_by (repeated n 0 stride []) [] (repeated_none n 0 stride)
elements_stand n stride (r ∷ rs) =
    let one = stands_for r in
    let here = repeated n 0 stride one in
    let rest = repeated n 0 stride (all_stand_for rs) in
    let told = stands_for (row_inside (to_each n stride) 0 r) in
    let more = all_stand_for (map (row_inside (to_each n stride) 0) rs) in
    same_then (repeated n 0 stride (one ++ all_stand_for rs)) (here ++ rest) (told ++ more) (same_back (here ++ rest) (repeated n 0 stride (one ++ all_stand_for rs)) (repeated_both n 0 stride one (all_stand_for rs)))
    (same_both here told rest more (same_by here told (sym (each_stands n stride r))) (elements_stand n stride rs))

all_elements : (n stride : ℕ) (ls : List Leaf) (rs : List Row) → Same ls (all_stand_for rs) → Same (repeated n 0 stride ls) (all_stand_for (elements n stride rs))
unfolding repeated
all_elements zero stride ls rs h = same_self []
all_elements (suc n) stride ls rs h =
    same_then (repeated (suc n) 0 stride ls) (repeated (suc n) 0 stride (all_stand_for rs)) (all_stand_for (elements (suc n) stride rs))
    (same_repeated (suc n) 0 stride ls (all_stand_for rs) h) (elements_stand (suc n) stride rs)

-- ---- members

abbrev later : ℕ → Leaf → Leaf
later offset l = leaf l.path (offset + l.first) l.length l.alignment

inside_later : (part at offset : ℕ) (xs : List Leaf) → map (leaf_inside part at) (map (later offset) xs) ≡ map (later offset) (map (leaf_inside part at) xs)
inside_later part at offset [] = refl
inside_later part at offset (x ∷ xs) =
    let e : at + (offset + x.first) ≡ offset + (at + x.first) = omega arith in
    λ i. leaf (part ∷ x.path) (e i) x.length x.alignment ∷ inside_later part at offset xs i

repeated_later : (n part stride offset : ℕ) (xs : List Leaf) → repeated n part stride (map (later offset) xs) ≡ map (later offset) (repeated n part stride xs)
unfolding repeated
repeated_later zero part stride offset xs = refl
repeated_later (suc n) part stride offset xs =
    let f = leaf_inside part (part * stride) in
    (λ i. inside_later part (part * stride) offset xs i ++ repeated_later n (suc part) stride offset xs i)
    ∙ sym (map_both (later offset) (map f xs) (repeated n (suc part) stride xs))

reached_later : (steps : List Step) (offset : ℕ) (xs : List Leaf) → reached_by steps (map (later offset) xs) ≡ map (later offset) (reached_by steps xs)
reached_later [] offset xs = refl
reached_later (to_part number ∷ steps) offset xs = ap (map (leaf_inside number 0)) (reached_later steps offset xs) ∙ inside_later number 0 offset (reached_by steps xs)
reached_later (to_each count stride ∷ steps) offset xs = ap (repeated count 0 stride) (reached_later steps offset xs) ∙ repeated_later count 0 stride offset (reached_by steps xs)

inside_at : (part offset : ℕ) (xs : List Leaf) → map (leaf_inside part 0) (map (later offset) xs) ≡ map (leaf_inside part offset) xs
inside_at part offset [] = refl
inside_at part offset (x ∷ xs) = let z : 0 + (offset + x.first) ≡ offset + x.first = omega arith in λ i. leaf (part ∷ x.path) (z i) x.length x.alignment ∷ inside_at part offset xs i

part_stands : (part offset : ℕ) (r : Row) → stands_for (row_inside (to_part part) offset r) ≡ map (leaf_inside part offset) (stands_for r)
part_stands part offset r =
    ap (map (leaf_inside part 0)) (reached_later r.steps offset (leaf [] r.first r.length r.alignment ∷ []))
    ∙ inside_at part offset (stands_for r)

part_all : (part offset : ℕ) (rs : List Row) → map (leaf_inside part offset) (all_stand_for rs) ≡ all_stand_for (map (row_inside (to_part part) offset) rs)
part_all part offset [] = refl
part_all part offset (r ∷ rs) =
    map_both (leaf_inside part offset) (stands_for r) (all_stand_for rs)
    ∙ (λ i. sym (part_stands part offset r) i ++ part_all part offset rs i)

all_both : (rs qs : List Row) → all_stand_for (rs ++ qs) ≡ all_stand_for rs ++ all_stand_for qs
all_both [] qs = refl
all_both (r ∷ rs) qs = ap (λ z. stands_for r ++ z) (all_both rs qs) ∙ sym (appended (stands_for r) (all_stand_for rs) (all_stand_for qs))
  where
    appended : (xs ys zs : List Leaf) → (xs ++ ys) ++ zs ≡ xs ++ (ys ++ zs)
    appended [] ys zs = refl
    appended (x ∷ xs) ys zs = ap (λ r. x ∷ r) (appended xs ys zs)

-- ---- values

mutual
  same_leaves : (t : Tree) → Same (leaves 1 t) (all_stand_for (listed t))
  same_leaves (scalar s) = same_self (leaves 1 (scalar s))
  same_leaves (vector n s) = same_self (leaves 1 (vector n s))
  same_leaves (matrix columns rows s) = same_self (leaves 1 (matrix columns rows s))
  same_leaves (cooperative_matrix columns rows s role) = same_self (leaves 1 (cooperative_matrix columns rows s role))
  same_leaves (atomic s) = same_self (leaves 1 (atomic s))
  same_leaves (pointer base space) = same_self []
  same_leaves (value_pointer n s space) = same_self []
  same_leaves (array base n stride) = all_elements (held_in 1 n) stride (leaves 1 base) (listed base) (same_leaves base)
  same_leaves (struct ms span) = same_members 0 ms
  same_leaves (image dim arrayed class) = same_self []
  same_leaves (sampler comparison) = same_self []
  same_leaves (acceleration_structure vertex_return) = same_self []
  same_leaves (ray_query vertex_return) = same_self []
  same_leaves (binding_array base n) = same_self []

  same_members : (part : ℕ) (ms : Members) → Same (member_leaves 1 part ms) (all_stand_for (member_rows part ms))
  same_members part no_members = same_self []
  same_members part (member t binding offset ms) =
      let f = leaf_inside part offset in
      let here = map f (leaves 1 t) in
      let told = all_stand_for (map (row_inside (to_part part) offset) (listed t)) in
      let rest = member_leaves 1 (suc part) ms in
      let more = all_stand_for (member_rows (suc part) ms) in
      same_then (here ++ rest) (told ++ more) (all_stand_for (map (row_inside (to_part part) offset) (listed t) ++ member_rows (suc part) ms))
      (same_both here told rest more (same_then here (map f (all_stand_for (listed t))) told (same_mapped f (leaves 1 t) (all_stand_for (listed t)) (same_leaves t)) (same_by (map f (all_stand_for (listed t))) told (part_all part offset (listed t)))) (same_members (suc part) ms))
      (same_by (told ++ more) (all_stand_for (map (row_inside (to_part part) offset) (listed t) ++ member_rows (suc part) ms)) (sym (all_both (map (row_inside (to_part part) offset) (listed t)) (member_rows (suc part) ms))))

pub rows_are_leaves : RowsAreLeaves
rows_are_leaves t l = same_leaves t l
