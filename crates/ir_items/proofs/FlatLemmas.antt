-- The leaves of expressions are unique, exist, and are computed in finitely many steps.
use Rattle.std.proofs.Common.{◌≡◌, ℕ, zero, suc, ◌+◌, ◌<◌, ◌≤◌, List, [], ◌∷◌, ◌++◌, length, take, reverse, Option, Some, None, slice_get, refl, sym, ap, subst, ◌∙◌, append_assoc, arith}
use Rattle.std.specs.List.{All}
use Rattle.std.specs.Option.{option_and_then}
use Rattle.std.specs.Prelude.{unwrap_or, MatchOption}
use Rattle.std.proofs.lemmas.Grind.{reverse_onto}
use Rattle.std.proofs.lemmas.List.{reverse-append, reverse-reverse, length-append, length-map, append-nil, take-append-le, take_all}
use Rattle.std.proofs.lemmas.List.Elements.{All-nil, All-head, All-tail, All-append, All-push, All-weaker}
use Rattle.ir_blocks.specs.IrArena.{Span}
use Rattle.ir_blocks.specs.IrTypes.{Expression, PlainExpression, expression_view}
use Rattle.ir_items.specs.found.GlobalView.{values_of}
use Rattle.ir_items.specs.judged.Bases.{expressions_of}
use Rattle.ir_items.specs.found.Flat.{parts_of, PartsPrecede, AreLeaves, none, leaf, taken_apart, OneFlattening}
use Rattle.ir_items.proofs.Places.{item_at}

-- ---- uniqueness

same_expression : (es : List PlainExpression) (handle : ℕ) (d e : PlainExpression) → slice_get es handle ≡ Some d → slice_get es handle ≡ Some e → d ≡ e
same_expression es handle d e a b = let x = a in let y = b in cc

no_parts : (es : List PlainExpression) (handle : ℕ) (d e : PlainExpression) (parts : List ℕ) → slice_get es handle ≡ Some d → parts_of d ≡ None → slice_get es handle ≡ Some e → parts_of e ≡ Some parts → ⊥
no_parts es handle d e parts a n b m =
    let same : Some parts ≡ None = sym m ∙ ap parts_of (same_expression es handle e d b a) ∙ n in cc

same_parts : (es : List PlainExpression) (handle : ℕ) (d e : PlainExpression) (ps qs : List ℕ) → slice_get es handle ≡ Some d → parts_of d ≡ Some ps → slice_get es handle ≡ Some e → parts_of e ≡ Some qs → qs ≡ ps
same_parts es handle d e ps qs a n b m =
    let same : Some qs ≡ Some ps = sym m ∙ ap parts_of (same_expression es handle e d b a) ∙ n in cc

pub one_list : (es : List PlainExpression) (hs a b : List ℕ) → AreLeaves es hs a → AreLeaves es hs b → a ≡ b
one_list es _ _ _ none none = refl
one_list es _ _ _ (leaf {handle = h} {rest = rest} {leaves = a} x n r) (leaf {leaves = b} y m s) = ap (λ l. h ∷ l) (one_list es rest a b r s)
one_list es _ _ _ (leaf {handle = h} {e = d} x n r) (taken_apart {parts = ps} {e = e} y m i s) = absurd (no_parts es h d e ps x n y m)
one_list es _ _ _ (taken_apart {handle = h} {parts = ps} {e = e} y m i s) (leaf {e = d} x n r) = absurd (no_parts es h d e ps x n y m)
one_list es _ _ _ (taken_apart {handle = h} {rest = rest} {parts = ps} {inside = c} {leaves = a} {e = d} x n i r) (taken_apart {parts = qs} {inside = k} {leaves = b} {e = e} y m j s) =
    let first : c ≡ k = one_list es ps c k i (subst (λ l. AreLeaves es l k) (same_parts es h d e ps qs x n y m) j) in
    let others : a ≡ b = one_list es rest a b r s in
    cc

pub one_flattening : OneFlattening
one_flattening es None components a b x y = x ∙ sym y
one_flattening es (Some n) components a b x y = x.2 ∙ ap (take n) (one_list es components x.0 y.0 x.1 y.1) ∙ sym y.2

-- ---- existence

-- the leaves of a concatenation, split
pub parted : (es : List PlainExpression) (hs ks all : List ℕ) → AreLeaves es (hs ++ ks) all → (a : List ℕ) × (b : List ℕ) × AreLeaves es hs a × AreLeaves es ks b × (all ≡ a ++ b)
parted es [] ks all x = ([], all, none, x, refl)
parted es (h ∷ hs) ks _ (leaf {leaves = l} x n r) =
    let p = parted es hs ks l r in (h ∷ p.0, p.1, leaf x n p.2, p.3, ap (λ v. h ∷ v) p.4)
parted es (h ∷ hs) ks _ (taken_apart {inside = i} {leaves = l} x n inner r) =
    let p = parted es hs ks l r in (i ++ p.0, p.1, taken_apart x n inner p.2, p.3, ap (λ v. i ++ v) p.4 ∙ sym (append_assoc i p.0 p.1))

-- handles below a bound have leaves, if the operands of all handles below it have
inner_leaves : (es : List PlainExpression) → PartsPrecede es → (bound : ℕ) → bound < length es
    → ((hs : List ℕ) → All (λ h. h < bound) hs → (leaves : List ℕ) × AreLeaves es hs leaves)
    → (hs : List ℕ) → All (λ h. h < suc bound) hs → (leaves : List ℕ) × AreLeaves es hs leaves
inner_leaves es precede bound within below [] all = ([], none)
inner_leaves es precede bound within below (h ∷ hs) all =
    let small : h < suc bound = All-head (λ k. k < suc bound) h hs all in
    let e = item_at es h (omega arith) in
    let rest = inner_leaves es precede bound within below hs (All-tail (λ k. k < suc bound) h hs all) in
    by_parts e.0 e.1 (parts_of e.0) refl small rest
  where
    by_parts : (e : PlainExpression) → slice_get es h ≡ Some e → (o : Option (List ℕ)) → parts_of e ≡ o → h < suc bound → (leaves : List ℕ) × AreLeaves es hs leaves → (leaves : List ℕ) × AreLeaves es (h ∷ hs) leaves
    by_parts e at None is small rest = (h ∷ rest.0, leaf at is rest.1)
    by_parts e at (Some parts) is small rest =
        let inside = below parts (All-weaker (λ k. k < h) (λ k. k < bound) (λ k lt. omega arith) parts (precede h e parts at is)) in
        (inside.0 ++ rest.0, taken_apart at is inside.1 rest.1)

leaves_below : (es : List PlainExpression) → PartsPrecede es → (bound : ℕ) → bound ≤ length es → (hs : List ℕ) → All (λ h. h < bound) hs → (leaves : List ℕ) × AreLeaves es hs leaves
leaves_below es precede zero within [] all = ([], none)
leaves_below es precede zero within (h ∷ hs) all = let never : h < 0 = All-head (λ k. k < 0) h hs all in absurd (omega arith)
leaves_below es precede (suc bound) within hs all = inner_leaves es precede bound (omega arith) (leaves_below es precede bound (omega arith)) hs all

-- handles in the arena have leaves
pub leaves_of : (es : List PlainExpression) → PartsPrecede es → (hs : List ℕ) → All (λ h. h < length es) hs → (leaves : List ℕ) × AreLeaves es hs leaves
leaves_of es precede hs all = leaves_below es precede (length es) (omega arith) hs all

-- ---- termination

-- the sum over a list
abbrev pub total : (ℕ → ℕ) → List ℕ → ℕ
total f [] = 0
total f (x ∷ xs) = f x + total f xs

pub total-append : (f : ℕ → ℕ) (xs ys : List ℕ) → total f (xs ++ ys) ≡ total f xs + total f ys
total-append f [] ys = omega arith
total-append f (x ∷ xs) ys = let e = total-append f xs ys in omega arith

pub total-reverse : (f : ℕ → ℕ) (xs : List ℕ) → total f (reverse xs) ≡ total f xs
total-reverse f [] = refl
total-reverse f (x ∷ xs) =
    let turned : total f (reverse (x ∷ xs)) ≡ total f (reverse xs ++ x ∷ []) = ap (total f) (reverse_onto xs x []) in
    let split = total-append f (reverse xs) (x ∷ []) in
    let rest = total-reverse f xs in
    omega arith

-- the operands at a handle, none if there is no expression with operands
abbrev pub parts_at : List PlainExpression → ℕ → List ℕ
parts_at es h = unwrap_or (option_and_then parts_of (slice_get es h)) []

-- how many steps it takes to flatten an expression to this depth
pub steps : List PlainExpression → ℕ → ℕ → ℕ
steps es zero h = 1
steps es (suc depth) h = 1 + total (λ part. steps es depth part) (parts_at es h)

-- the same terms below a bound have the same sum
same_total : (f g : ℕ → ℕ) (bound : ℕ) → ((x : ℕ) → x < bound → f x ≡ g x) → (xs : List ℕ) → All (λ x. x < bound) xs → total f xs ≡ total g xs
same_total f g bound same [] all = refl
same_total f g bound same (x ∷ xs) all =
    let first : f x ≡ g x = same x (All-head (λ y. y < bound) x xs all) in
    let rest = same_total f g bound same xs (All-tail (λ y. y < bound) x xs all) in
    omega arith

-- the operands at a handle precede it
parts_before : (es : List PlainExpression) → PartsPrecede es → (h : ℕ) → All (λ part. part < h) (parts_at es h)
parts_before es precede h = by_expression (slice_get es h) refl
  where
    by_parts : (e : PlainExpression) → slice_get es h ≡ Some e → (o : Option (List ℕ)) → parts_of e ≡ o → All (λ part. part < h) (unwrap_or o [])
    by_parts e at None is = All-nil (λ part. part < h)
    by_parts e at (Some parts) is = precede h e parts at is

    by_expression : (o : Option PlainExpression) → slice_get es h ≡ o → All (λ part. part < h) (unwrap_or (option_and_then parts_of o) [])
    by_expression None is = All-nil (λ part. part < h)
    by_expression (Some e) is = by_parts e is (parts_of e) refl

-- a depth above an expression's handle gives the same number of steps
deep_enough : (es : List PlainExpression) → PartsPrecede es → (depth h : ℕ) → h < depth → steps es (suc depth) h ≡ steps es depth h
unfolding steps
deep_enough es precede zero h lt = absurd (omega arith)
deep_enough es precede (suc depth) h lt =
    ap (λ n. 1 + n)
    (same_total (λ part. steps es (suc depth) part) (λ part. steps es depth part) h
    (λ part before. deep_enough es precede depth part (omega arith)) (parts_at es h) (parts_before es precede h))

-- each expression takes a step
pub a_step : (es : List PlainExpression) (depth h : ℕ) → 0 < steps es depth h
unfolding steps
a_step es zero h = omega arith
a_step es (suc depth) h = omega arith

-- and its operands take one less together
pub fewer_steps : (es : List PlainExpression) → PartsPrecede es → (depth h : ℕ) (e : PlainExpression) (parts : List ℕ) → h < depth → slice_get es h ≡ Some e → parts_of e ≡ Some parts
    → total (λ part. steps es depth part) parts < steps es depth h
unfolding steps
fewer_steps es precede zero h e parts lt at is = absurd (omega arith)
fewer_steps es precede (suc depth) h e parts lt at is =
    let are : parts_at es h ≡ parts = ap (λ o. unwrap_or (option_and_then parts_of o) []) at ∙ ap (λ o. unwrap_or o []) is in
    let same : total (λ part. steps es (suc depth) part) parts ≡ total (λ part. steps es depth part) parts =
    same_total (λ part. steps es (suc depth) part) (λ part. steps es depth part) h
    (λ part before. deep_enough es precede depth part (omega arith)) parts (precede h e parts at is) in
    let enough : total (λ part. steps es depth part) (parts_at es h) ≡ total (λ part. steps es depth part) parts = ap (total (λ part. steps es depth part)) are in
    omega arith

-- ---- a step of the loop

-- what holds of each element holds of each element of the reversed list
pub All-reverse : (P : ℕ → Type 0) (xs : List ℕ) → All P xs → All P (reverse xs)
All-reverse P [] all = all
All-reverse P (x ∷ xs) all =
    subst (λ (l : List ℕ). All P l) (sym (reverse_onto xs x []))
    (All-push P (reverse xs) x (All-reverse P xs (All-tail P x xs all)) (All-head P x xs all))

last_first : (rest : List ℕ) (h : ℕ) → reverse (rest ++ h ∷ []) ≡ h ∷ reverse rest
last_first rest h = reverse-append rest (h ∷ [])

-- a step, on the stack and the leaves
abbrev pub Steps : PlainExpression → ℕ → List ℕ → List ℕ → List ℕ → List ℕ → Type 0
Steps e h rest new out found =
    MatchOption (parts_of e) ((new ≡ rest) × (found ≡ out ++ h ∷ [])) (λ parts. (new ≡ rest ++ reverse parts) × (found ≡ out))

-- The result of the rest is the result of the whole.
pub goes_on : (es : List PlainExpression) (h : ℕ) (e : PlainExpression) (components rest old new out found : List ℕ)
    → slice_get es h ≡ Some e → old ≡ rest ++ h ∷ [] → Steps e h rest new out found
    → ((leaves : List ℕ) → AreLeaves es (reverse old) leaves → AreLeaves es components (out ++ leaves))
    → (leaves : List ℕ) → AreLeaves es (reverse new) leaves → AreLeaves es components (found ++ leaves)
goes_on es h e components rest old new out found at popped step before leaves after =
    by_parts (parts_of e) refl step
  where
    all : (l : List ℕ) → AreLeaves es (h ∷ reverse rest) l → AreLeaves es components (out ++ l)
    all l x = before l (subst (λ (hs : List ℕ). AreLeaves es hs l) (sym (ap reverse popped ∙ last_first rest h)) x)

    by_parts : (o : Option (List ℕ)) → parts_of e ≡ o
        → MatchOption o ((new ≡ rest) × (found ≡ out ++ h ∷ [])) (λ parts. (new ≡ rest ++ reverse parts) × (found ≡ out))
        → AreLeaves es components (found ++ leaves)
    by_parts None is step =
        let behind : AreLeaves es (reverse rest) leaves = subst (λ (l : List ℕ). AreLeaves es (reverse l) leaves) step.0 after in
        subst (λ (l : List ℕ). AreLeaves es components l) (sym (ap (λ l. l ++ leaves) step.1 ∙ append_assoc out (h ∷ []) leaves)) (all (h ∷ leaves) (leaf at is behind))
    by_parts (Some parts) is step =
        let turned : reverse new ≡ parts ++ reverse rest =
        ap reverse step.0 ∙ reverse-append rest (reverse parts) ∙ ap (λ l. l ++ reverse rest) (reverse-reverse parts) in
        let p = parted es parts (reverse rest) leaves (subst (λ (l : List ℕ). AreLeaves es l leaves) turned after) in
        let whole : AreLeaves es components (out ++ (p.0 ++ p.1)) = all (p.0 ++ p.1) (taken_apart at is p.2 p.3) in
        subst (λ (l : List ℕ). AreLeaves es components l) (λ i. sym step.1 i ++ sym p.4 i) whole

-- The stack stays in the arena.
pub stays_in : (es : List PlainExpression) → PartsPrecede es → (bound h : ℕ) (e : PlainExpression) (rest old new out found : List ℕ)
    → slice_get es h ≡ Some e → old ≡ rest ++ h ∷ [] → Steps e h rest new out found → All (λ k. k < bound) rest → h < bound → All (λ k. k < bound) new
stays_in es precede bound h e rest old new out found at popped step all within = by_parts (parts_of e) refl step
  where
    by_parts : (o : Option (List ℕ)) → parts_of e ≡ o
        → MatchOption o ((new ≡ rest) × (found ≡ out ++ h ∷ [])) (λ parts. (new ≡ rest ++ reverse parts) × (found ≡ out))
        → All (λ k. k < bound) new
    by_parts None is step = subst (λ (l : List ℕ). All (λ k. k < bound) l) (sym step.0) all
    by_parts (Some parts) is step =
        let small = All-weaker (λ k. k < h) (λ k. k < bound) (λ k lt. omega arith) parts (precede h e parts at is) in
        subst (λ (l : List ℕ). All (λ k. k < bound) l) (sym step.0) (All-append (λ k. k < bound) rest (reverse parts) all (All-reverse (λ k. k < bound) parts small))

-- The number of remaining steps decreases.
pub comes_nearer : (es : List PlainExpression) → PartsPrecede es → (bound h : ℕ) (e : PlainExpression) (rest old new out found : List ℕ)
    → slice_get es h ≡ Some e → old ≡ rest ++ h ∷ [] → Steps e h rest new out found → h < bound
    → total (λ k. steps es bound k) new < total (λ k. steps es bound k) old
comes_nearer es precede bound h e rest old new out found at popped step within =
    let was = ap (total (λ k. steps es bound k)) popped ∙ total-append (λ k. steps es bound k) rest (h ∷ []) in
    let one = a_step es bound h in
    let less = by_parts (parts_of e) refl step in
    omega arith
  where
    by_parts : (o : Option (List ℕ)) → parts_of e ≡ o
        → MatchOption o ((new ≡ rest) × (found ≡ out ++ h ∷ [])) (λ parts. (new ≡ rest ++ reverse parts) × (found ≡ out))
        → total (λ k. steps es bound k) new < total (λ k. steps es bound k) rest + steps es bound h
    by_parts None is step =
        let same = ap (total (λ k. steps es bound k)) step.0 in
        let one = a_step es bound h in
        omega arith
    by_parts (Some parts) is step =
        let same = ap (total (λ k. steps es bound k)) step.0 ∙ total-append (λ k. steps es bound k) rest (reverse parts) in
        let turned = total-reverse (λ k. steps es bound k) parts in
        let fewer = fewer_steps es precede bound h e parts within at is in
        omega arith

-- At most one leaf is found in a step.
pub one_more : (h : ℕ) (e : PlainExpression) (rest new out found : List ℕ) → Steps e h rest new out found → length found ≤ length out + 1
one_more h e rest new out found step = by_parts (parts_of e) step
  where
    by_parts : (o : Option (List ℕ))
        → MatchOption o ((new ≡ rest) × (found ≡ out ++ h ∷ [])) (λ parts. (new ≡ rest ++ reverse parts) × (found ≡ out))
        → length found ≤ length out + 1
    by_parts None step = let long = ap length step.1 ∙ length-append out (h ∷ []) in omega arith
    by_parts (Some parts) step = let long = ap length step.1 in omega arith

-- ---- the end of the loop

-- there are as many plain expressions as expressions
pub same_length : (entries : List (Expression × Span)) → length (expressions_of entries) ≡ length entries
same_length entries = length-map (values_of entries) expression_view ∙ length-map entries (λ (x : Expression × Span). x.0)

-- a list of length zero is empty
pub empty : (xs : List ℕ) → length xs ≡ 0 → xs ≡ []
empty [] e = refl
empty (x ∷ xs) e = absurd (omega arith)

-- enough leaves are found
pub enough : (entries : List (Expression × Span)) → PartsPrecede (expressions_of entries) → (most : ℕ) (components ahead out : List ℕ) → All (λ h. h < length entries) ahead
    → length out ≡ most
    → ((leaves : List ℕ) → AreLeaves (expressions_of entries) (reverse ahead) leaves → AreLeaves (expressions_of entries) components (out ++ leaves))
    → (leaves : List ℕ) × AreLeaves (expressions_of entries) components leaves × (out ≡ take most leaves)
enough entries precede most components ahead out all long gives =
    let inside : All (λ h. h < length (expressions_of entries)) ahead = subst (λ (n : ℕ). All (λ h. h < n) ahead) (sym (same_length entries)) all in
    let more = leaves_of (expressions_of entries) precede (reverse ahead) (All-reverse (λ h. h < length (expressions_of entries)) ahead inside) in
    let fits : take most (out ++ more.0) ≡ out = take-append-le most out more.0 (omega arith) ∙ take_all most out (omega arith) in
    (out ++ more.0, gives more.0 more.1, sym fits)

-- the stack is empty
pub nothing_left : (es : List PlainExpression) (most : ℕ) (components ahead out : List ℕ) → ahead ≡ [] → length out ≤ most
    → ((leaves : List ℕ) → AreLeaves es (reverse ahead) leaves → AreLeaves es components (out ++ leaves))
    → (leaves : List ℕ) × AreLeaves es components leaves × (out ≡ take most leaves)
nothing_left es most components ahead out empty few gives =
    let whole : AreLeaves es components (out ++ []) = gives [] (subst (λ (l : List ℕ). AreLeaves es (reverse l) []) (sym empty) none) in
    (out, subst (λ (l : List ℕ). AreLeaves es components l) (append-nil out) whole, sym (take_all most out few))
