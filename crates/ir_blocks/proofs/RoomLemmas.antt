-- Adding returns in place: the last statement of a block, and the capacity for it.
use Rattle.std.proofs.Common.{◌≡◌, ◌<◌, ◌≤◌, ℕ, zero, suc, ◌+◌, List, [], ◌∷◌, ◌++◌, map, take, length, get_or, Bool, true, false, ◌&&◌, if◌then◌else◌, Result, Ok, Err, OnOk, refl, sym, ap, ◌∙◌, arith, rules}
use Rattle.std.specs.Prelude.{Vec}
use Rattle.std.specs.declared.alloc.Global.{Global}
use Rattle.std.proofs.lemmas.List.{map-append, take_all}
use Rattle.std.proofs.Math.ListN.{set}
use Rattle.ir_types.specs.IrArena.{Span}
use Rattle.ir_blocks.specs.judged.Plain.{PlainStatement, emit, block, if_, switch, loop, break, continue, return, kill, operation, call, case}
use Rattle.ir_blocks.specs.judged.Shapes.{shape_of}
use Rattle.ir_blocks.specs.found.Spans.{StatementSpans, in_case}
use Rattle.ir_blocks.specs.judged.Tails.{goes_on, finished, finished_case, finished_cases}
use Rattle.ir_blocks.specs.found.TailSpans.{finished_spans, finished_case_body, finished_case_spans}
use Rattle.ir_blocks.specs.found.Room.{EndRoom, end_room, has_spare, own_room, statement_room, block_room, case_room, each_room, HasOwnRoom, HasRoom, HasRoomWithin, HasRoomInCase, HasRoomInCases}
use Rattle.ir_blocks.specs.found.View.{spans_over, cases_of, case_spans_of, case_view, case_block_spans, statement_view, block_view, statements_view, statement_spans, block_spans, statements_of}
use Rattle.ir_blocks.specs.declared.statements.Statement.{Statement, the_lemmas}
use Rattle.ir_blocks.specs.declared.statements.Statement.TheViews.{roll-Block}
use Rattle.ir_blocks.specs.declared.statements.Block.{Block}
use Rattle.ir_blocks.specs.declared.statements.SwitchCase.{SwitchCase}

-- ---- the last of a list

pub at_end : {A : Type 0} (vs : List A) (i : ℕ) (s : A) → i + 1 ≡ length vs → s ≡ get_or vs i s → vs ≡ take i vs ++ s ∷ []
at_end [] i s n e = absurd (omega arith)
at_end (v ∷ []) zero s n e = ap (λ z. z ∷ []) (sym e)
at_end (v ∷ []) (suc i) s n e = absurd (omega arith)
at_end (v ∷ w ∷ vs) zero s n e = absurd (omega arith)
at_end (v ∷ w ∷ vs) (suc i) s n e = ap (λ z. v ∷ z) (at_end (w ∷ vs) i s (omega arith) e)

pub set_end : {A : Type 0} (vs : List A) (i : ℕ) (s : A) → i + 1 ≡ length vs → set vs i s ≡ take i vs ++ s ∷ []
set_end [] i s n = absurd (omega arith)
set_end (v ∷ []) zero s n = refl
set_end (v ∷ []) (suc i) s n = absurd (omega arith)
set_end (v ∷ w ∷ vs) zero s n = absurd (omega arith)
set_end (v ∷ w ∷ vs) (suc i) s n = ap (λ z. v ∷ z) (set_end (w ∷ vs) i s (omega arith))

pub same_at : {A : Type 0} (vs : List A) (i : ℕ) (a b : A) → i < length vs → get_or vs i a ≡ get_or vs i b
same_at [] i a b n = absurd (omega arith)
same_at (v ∷ vs) zero a b n = refl
same_at (v ∷ vs) (suc i) a b n = same_at vs i a b (omega arith)

-- one is changed, and has the same view
pub same_looks : {A B : Type 0} (f : A → B) (vs : List A) (i : ℕ) (s t : A) → i < length vs → s ≡ get_or vs i s → f t ≡ f s → map f (set vs i t) ≡ map f vs
same_looks f [] i s t n e h = absurd (omega arith)
same_looks f (v ∷ vs) zero s t n e h = ap (λ z. z ∷ map f vs) (h ∙ ap f e)
same_looks f (v ∷ vs) (suc i) s t n e h = ap (λ z. f v ∷ z) (same_looks f vs i s t (omega arith) e h)

-- ---- blocks by their lists

pub block_view-roll : (body : Vec Statement Global) (kept : List Span) → block_view (roll-Block (record { body = body; span_info = kept })) ≡ statements_view body.items
block_view-roll body kept = search (rules, the_lemmas)

pub block_spans-roll : (body : Vec Statement Global) (kept : List Span) → block_spans (roll-Block (record { body = body; span_info = kept })) ≡ spans_over kept (map statement_spans body.items)
block_spans-roll body kept = search (rules, the_lemmas)

pub block_room-lists : (b : Block) → block_room b ≡ end_room (own_room b) (map statement_room (statements_of b))
block_room-lists b = search (rules, the_lemmas)

pub on_is : (s : Statement) → (statement_room s).on ≡ goes_on (shape_of (statement_view s))
on_is s = search (rules, the_lemmas)

pub room_at_end : (own : Bool) (rs : List EndRoom) (r : EndRoom) → end_room own (rs ++ r ∷ []) ≡ (if r.on then own else r.parts)
room_at_end own [] r = refl
room_at_end own (x ∷ []) r = refl
room_at_end own (x ∷ y ∷ rs) r = room_at_end own (y ∷ rs) r

-- ---- whether control continues after a statement is unchanged

pub finished_on : (s : PlainStatement) → goes_on (shape_of s) ≡ true → finished s ≡ s
finished_on (emit first end) on = refl
finished_on (block b) on = absurd (search rules)
finished_on (if_ condition accept reject) on = absurd (search rules)
finished_on (switch selector cases) on = absurd (search rules)
finished_on (loop body continuing break_if) on = refl
finished_on break on = refl
finished_on continue on = refl
finished_on (return value) on = refl
finished_on kill on = refl
finished_on (operation a) on = refl
finished_on (call function arguments result) on = refl

pub finished_spans_on : (s : PlainStatement) (kept : StatementSpans) → goes_on (shape_of s) ≡ true → finished_spans s kept ≡ kept
finished_spans_on (emit first end) kept on = refl
finished_spans_on (block b) kept on = absurd (search rules)
finished_spans_on (if_ condition accept reject) kept on = absurd (search rules)
finished_spans_on (switch selector cases) kept on = absurd (search rules)
finished_spans_on (loop body continuing break_if) kept on = refl
finished_spans_on break kept on = refl
finished_spans_on continue kept on = refl
finished_spans_on (return value) kept on = refl
finished_spans_on kill kept on = refl
finished_spans_on (operation a) kept on = refl
finished_spans_on (call function arguments result) kept on = refl

-- ---- capacity

pub on_ok_both : {A E P Q R : Type 0} (r : Result A E) → OnOk r P → OnOk r Q → (P → Q → R) → OnOk r R
on_ok_both (Ok x) p q f = f p q
on_ok_both (Err e) p q f = p

pub on_ok_then : {A E P Q : Type 0} (r : Result A E) → OnOk r P → (P → Q) → OnOk r Q
on_ok_then (Ok x) p f = f p
on_ok_then (Err e) p f = p

and_true : (a b : Bool) → a ≡ true → b ≡ true → (a && b) ≡ true
and_true true true p q = refl
and_true true false p q = q
and_true false b p q = p

pub left_true : (a b : Bool) → (a && b) ≡ true → a ≡ true
left_true true b p = refl
left_true false b p = p

pub right_true : (a b : Bool) → (a && b) ≡ true → b ≡ true
right_true true b p = p
right_true false true p = refl
right_true false false p = p

-- the room that a block needs whose last statement is s
lists_end : (own : Bool) (vs : List Statement) (i : ℕ) (s : Statement) → i + 1 ≡ length vs → s ≡ get_or vs i s
    → end_room own (map statement_room vs) ≡ (if goes_on (shape_of (statement_view s)) then own else (statement_room s).parts)
lists_end own vs i s n e =
    let lists : map statement_room vs ≡ map statement_room (take i vs) ++ statement_room s ∷ [] = ap (map statement_room) (at_end vs i s n e) ∙ map-append statement_room (take i vs) (s ∷ []) in
    ap (end_room own) lists ∙ (room_at_end own (map statement_room (take i vs)) (statement_room s) ∙ ap (λ z. if z then own else (statement_room s).parts) (on_is s))

pub room_needed : (b : Block) (i : ℕ) (s : Statement) → i + 1 ≡ length (statements_of b) → s ≡ get_or (statements_of b) i s
    → block_room b ≡ (if goes_on (shape_of (statement_view s)) then own_room b else (statement_room s).parts)
room_needed b i s n e = block_room-lists b ∙ lists_end (own_room b) (statements_of b) i s n e

-- room was reserved in a block after whose last statement control continues
pub room_made : (a b : Block) (i : ℕ) (s : Statement) → i + 1 ≡ length (statements_of a) → s ≡ get_or (statements_of a) i s → goes_on (shape_of (statement_view s)) ≡ true → statements_of b ≡ statements_of a → HasOwnRoom b → HasRoom b
room_made a b i s n e on same own =
    let m : i + 1 ≡ length (statements_of b) = n ∙ ap length (sym same) in
    let f : s ≡ get_or (statements_of b) i s = e ∙ ap (λ z. get_or z i s) (sym same) in
    room_needed b i s m f ∙ (ap (λ z. if z then own_room b else (statement_room s).parts) on ∙ own)

-- room was reserved in the tail parts of a block's last statement
pub room_within : (own : Bool) (vs : List Statement) (i : ℕ) (s t : Statement) → i + 1 ≡ length vs → s ≡ get_or vs i s → goes_on (shape_of (statement_view s)) ≡ false → statement_view t ≡ statement_view s → HasRoomWithin t
    → end_room own (map statement_room (set vs i t)) ≡ true
room_within own vs i s t n e on same room =
    let lists : map statement_room (set vs i t) ≡ map statement_room (take i vs) ++ statement_room t ∷ [] = ap (map statement_room) (set_end vs i t n) ∙ map-append statement_room (take i vs) (t ∷ []) in
    let off : (statement_room t).on ≡ false = on_is t ∙ (ap (λ z. goes_on (shape_of z)) same ∙ on) in
    ap (end_room own) lists ∙ (room_at_end own (map statement_room (take i vs)) (statement_room t) ∙ (ap (λ z. if z then own else (statement_room t).parts) off ∙ room))

pub block_room-roll : (body : Vec Statement Global) (kept : List Span) → block_room (roll-Block (record { body = body; span_info = kept })) ≡ end_room (has_spare body) (map statement_room body.items)
block_room-roll body kept = search (rules, the_lemmas)

-- the room at an end where a return is added
pub own_known : (b : Block) (i : ℕ) (s : Statement) → i + 1 ≡ length (statements_of b) → s ≡ get_or (statements_of b) i s → goes_on (shape_of (statement_view s)) ≡ true → HasRoom b → HasOwnRoom b
own_known b i s n e on room = ap (λ z. if z then own_room b else (statement_room s).parts) (sym on) ∙ (sym (room_needed b i s n e) ∙ room)

pub within_last : (b : Block) (i : ℕ) (s t : Statement) (r : Bool) → t ≡ get_or (statements_of b) i t → s ≡ get_or (statements_of b) i s → r ≡ goes_on (shape_of (statement_view s)) → r ≡ false → i + 1 ≡ length (statements_of b) → HasRoom b → HasRoomWithin t
within_last b i s t r at stands is off n room =
    let same : t ≡ s = at ∙ (same_at (statements_of b) i t s (omega arith) ∙ sym stands) in
    let on : goes_on (shape_of (statement_view t)) ≡ false = ap (λ z. goes_on (shape_of (statement_view z))) same ∙ (sym is ∙ off) in
    ap (λ z. if z then own_room b else (statement_room t).parts) (sym on) ∙ (sym (room_needed b i t n at) ∙ room)

-- ---- cases

pub room_in_cases : (done : List SwitchCase) (c : SwitchCase) → HasRoomInCases done → HasRoomInCase c → HasRoomInCases (done ++ c ∷ [])
room_in_cases [] c all one = ap (λ z. z && true) one
room_in_cases (d ∷ ds) c all one = and_true _ _ (left_true _ _ all) (room_in_cases ds c (right_true _ _ all) one)

pub room_of_case : (cs : List SwitchCase) (i : ℕ) (c : SwitchCase) → i < length cs → c ≡ get_or cs i c → HasRoomInCases cs → HasRoomInCase c
room_of_case [] i c n e all = absurd (omega arith)
room_of_case (d ∷ ds) zero c n e all = ap case_room e ∙ left_true _ _ all
room_of_case (d ∷ ds) (suc i) c n e all = room_of_case ds i c (omega arith) e (right_true _ _ all)

pub length_set : {A : Type 0} (vs : List A) (i : ℕ) (x : A) → length (set vs i x) ≡ length vs
length_set [] i x = refl
length_set (v ∷ vs) zero x = refl
length_set (v ∷ vs) (suc i) x = ap suc (length_set vs i x)

others_stay : {A : Type 0} (vs : List A) (i k : ℕ) (x d : A) → i + 1 ≤ k → get_or (set vs i x) k d ≡ get_or vs k d
others_stay [] i k x d le = refl
others_stay (v ∷ vs) zero zero x d le = absurd (omega arith)
others_stay (v ∷ vs) zero (suc k) x d le = refl
others_stay (v ∷ vs) (suc i) zero x d le = absurd (omega arith)
others_stay (v ∷ vs) (suc i) (suc k) x d le = others_stay vs i k x d (omega arith)

take_set_suc : {A : Type 0} (vs : List A) (i : ℕ) (x : A) → i < length vs → take (suc i) (set vs i x) ≡ take i vs ++ x ∷ []
take_set_suc [] i x n = absurd (omega arith)
take_set_suc (v ∷ vs) zero x n = refl
take_set_suc (v ∷ vs) (suc i) x n = ap (λ z. v ∷ z) (take_set_suc vs i x (omega arith))

take_suc : {A : Type 0} (vs : List A) (i : ℕ) (x : A) → i < length vs → x ≡ get_or vs i x → take (suc i) vs ≡ take i vs ++ x ∷ []
take_suc [] i x n e = absurd (omega arith)
take_suc (v ∷ vs) zero x n e = ap (λ z. z ∷ []) (sym e)
take_suc (v ∷ vs) (suc i) x n e = ap (λ z. v ∷ z) (take_suc vs i x (omega arith) e)

one_more : (i : ℕ) → i + 1 ≡ suc i
one_more i = omega arith

pub take_set : {A : Type 0} (vs : List A) (i : ℕ) (x : A) → i < length vs → take (i + 1) (set vs i x) ≡ take i vs ++ x ∷ []
take_set vs i x n = ap (λ k. take k (set vs i x)) (one_more i) ∙ take_set_suc vs i x n

pub take_next : {A : Type 0} (vs : List A) (i : ℕ) (x : A) → i < length vs → x ≡ get_or vs i x → take (i + 1) vs ≡ take i vs ++ x ∷ []
take_next vs i x n e = ap (λ k. take k vs) (one_more i) ∙ take_suc vs i x n e

-- those after the first i are unchanged
abbrev pub Unvisited : {A : Type 0} → List A → List A → ℕ → Type 0
Unvisited {A} vs ws i = (length vs ≡ length ws) × ((k : ℕ) (d : A) → i ≤ k → get_or vs k d ≡ get_or ws k d)

pub unvisited_more : {A : Type 0} (vs ws : List A) (i : ℕ) (x : A) → Unvisited vs ws i → Unvisited (set vs i x) ws (i + 1)
unvisited_more vs ws i x u = (length_set vs i x ∙ u.0, λ k d le. others_stay vs i k x d le ∙ u.1 k d (omega arith))

pub room_more : (vs : List SwitchCase) (i : ℕ) (x : SwitchCase) → i < length vs → HasRoomInCases (take i vs) → HasRoomInCase x → HasRoomInCases (take (i + 1) (set vs i x))
room_more vs i x n all one = ap (λ z. each_room (map case_room z)) (take_set vs i x n) ∙ room_in_cases (take i vs) x all one

-- one more of the first i is done, by h for one element
pub done_more : {A B : Type 0} (f h : A → B) (vs ws : List A) (i : ℕ) (c x : A) → i < length vs → Unvisited vs ws i → c ≡ get_or vs i c → f x ≡ h c
    → map f (take i vs) ≡ map h (take i ws) → map f (take (i + 1) (set vs i x)) ≡ map h (take (i + 1) ws)
done_more f h vs ws i c x n u e s done =
    let at : c ≡ get_or ws i c = e ∙ u.1 i c (omega arith) in
    let in_range : i < length ws = omega (arith, u.0) in
    let left : map f (take (i + 1) (set vs i x)) ≡ map f (take i vs) ++ f x ∷ [] = ap (map f) (take_set vs i x n) ∙ map-append f (take i vs) (x ∷ []) in
    let right : map h (take (i + 1) ws) ≡ map h (take i ws) ++ h c ∷ [] = ap (map h) (take_next ws i c in_range at) ∙ map-append h (take i ws) (c ∷ []) in
    left ∙ (ap (λ z. z ++ f x ∷ []) done ∙ (ap (λ z. map h (take i ws) ++ z ∷ []) s ∙ sym right))

pub all_done : {A B : Type 0} (f h : A → B) (vs ws : List A) (n : ℕ) → length ws ≤ n → Unvisited vs ws n → map f (take n vs) ≡ map h (take n ws) → map f vs ≡ map h ws
all_done f h vs ws n past u done =
    let past_too : length vs ≤ n = omega (arith, u.0) in
    ap (map f) (sym (take_all n vs past_too)) ∙ (done ∙ ap (map h) (take_all n ws past))

pub cases_finished : (cs : List SwitchCase) → cases_of (map (λ c. finished_case (case_view c)) cs) ≡ finished_cases (cases_of (map case_view cs))
cases_finished [] = refl
cases_finished (c ∷ cs) = ap (λ rest. case (case_view c).value (finished_case (case_view c)).body (case_view c).falls rest) (cases_finished cs)

pub case_spans_finished : (cs : List SwitchCase) → case_spans_of (map (λ c. finished_case_body (case_view c) (case_block_spans c)) cs) ≡ finished_case_spans (cases_of (map case_view cs)) (case_spans_of (map case_block_spans cs))
case_spans_finished [] = refl
case_spans_finished (c ∷ cs) = ap (in_case (finished_case_body (case_view c) (case_block_spans c))) (case_spans_finished cs)

pub room_here : (cs xs : List SwitchCase) (i : ℕ) (c : SwitchCase) → c ≡ get_or xs i c → Unvisited xs cs i → i < length cs → HasRoomInCases cs → HasRoomInCase c
room_here cs xs i c e u n all = room_of_case cs i c n (e ∙ u.1 i c (omega arith)) all
