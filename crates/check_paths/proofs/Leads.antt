-- The path of a position leads to the statement there.
use Rattle.std.proofs.Common.{◌≡◌, ◌<◌, ◌≤◌, ◌-◌, ◌+◌, arith, zero, suc, ℕ, length, drop, get_or, Bool, true, false, List, [], ◌∷◌, ◌++◌, Option, Some, None, refl, sym, ap, ◌∙◌, subst, option_and_then}
use Rattle.std.proofs.Math.Seq.{drop-cons}
use Rattle.std.proofs.lemmas.List.{append_assoc, append-nil}
use Rattle.serde_json.specs.Data.{Data, null, boolean, number, string, array, object, Items, no_items, item}
use Rattle.serde_json.specs.Find.{at, get_item}
use Rattle.check_faults.specs.Parts.{along}
use Rattle.document_forms.specs.judged.Form.{AnArray, Ends, ◌▸◌}
use Rattle.ir_blocks.specs.judged.Places.{Place, here, later, condition, OccursAt}
use Rattle.ir_blocks.specs.judged.Places as place
use Rattle.ir_blocks.specs.judged.Plain.{PlainStatement, emit, block, if_, switch, loop, break, continue, return, kill, operation, call, PlainBlock, stop, next, PlainCases, no_case, case}
use Rattle.ir_blocks.specs.judged.Shapes.{shape_of, case_body, part_of}
use Rattle.ir_places.specs.declared.step.Part.{Part}
use Rattle.ir_places.specs.declared.step.Part.TheVariants as part
use Rattle.ir_places.specs.declared.step.Step.{Step}
use Rattle.ir_places.specs.declared.trail.Trail.{Trail}
use Rattle.ir_places.specs.Paths.{part_view, later_by, stepped, place_along, last_place, place_of}
use Rattle.document_reader.specs.judged.StatementForm.{AStatement, TheStatements, TheCases}
use Rattle.check_paths.specs.Json.{part_path, step_path, path_along, last_path, json_path, PathsLead}

none_in_stop : {A : Type 0} (p : Place) (s : PlainStatement) → OccursAt stop p s → A
none_in_stop here s e = let x = e in absurd (cc)
none_in_stop (later p) s e = let x = e in absurd (cc)
none_in_stop (place.inside part p) s e = let x = e in absurd (cc)
none_in_stop condition s e = let x = e in absurd (cc)

-- ---- arrays

second : (p q : Data → Type 0) (r : Items → Type 0) (d : Data) → AnArray (p ▸ q ▸ r) d → (a : Data) × (at 1 d ≡ Some a) × q a
second p q r (array (item x (item a rest))) h = (a, refl, h.1.0)
second p q r (array (item x no_items)) h = absurd h.1
second p q r (array no_items) h = absurd h
second p q r null h = absurd h
second p q r (boolean b) h = absurd h
second p q r (number n) h = absurd h
second p q r (string t) h = absurd h
second p q r (object m) h = absurd h

third : (o p q : Data → Type 0) (r : Items → Type 0) (d : Data) → AnArray (o ▸ p ▸ q ▸ r) d → (a : Data) × (at 2 d ≡ Some a) × q a
third o p q r (array (item x (item y (item a rest)))) h = (a, refl, h.1.1.0)
third o p q r (array (item x (item y no_items))) h = absurd h.1.1
third o p q r (array (item x no_items)) h = absurd h.1
third o p q r (array no_items) h = absurd h
third o p q r null h = absurd h
third o p q r (boolean b) h = absurd h
third o p q r (number n) h = absurd h
third o p q r (string t) h = absurd h
third o p q r (object m) h = absurd h

fourth : (n o p q : Data → Type 0) (r : Items → Type 0) (d : Data) → AnArray (n ▸ o ▸ p ▸ q ▸ r) d → (a : Data) × (at 3 d ≡ Some a) × q a
fourth n o p q r (array (item x (item y (item z (item a rest))))) h = (a, refl, h.1.1.1.0)
fourth n o p q r (array (item x (item y (item z no_items)))) h = absurd h.1.1.1
fourth n o p q r (array (item x (item y no_items))) h = absurd h.1.1
fourth n o p q r (array (item x no_items)) h = absurd h.1
fourth n o p q r (array no_items) h = absurd h
fourth n o p q r null h = absurd h
fourth n o p q r (boolean b) h = absurd h
fourth n o p q r (number m) h = absurd h
fourth n o p q r (string t) h = absurd h
fourth n o p q r (object m) h = absurd h

items_of : (q : Items → Type 0) (d : Data) → AnArray q d → (ds : Items) × (d ≡ array ds) × q ds
items_of q (array ds) h = (ds, refl, h)
items_of q null h = absurd h
items_of q (boolean b) h = absurd h
items_of q (number n) h = absurd h
items_of q (string t) h = absurd h
items_of q (object m) h = absurd h

go_on : (i : ℕ) (path : List ℕ) (d e : Data) → at i d ≡ Some e → along (i ∷ path) d ≡ along path e
go_on i path d e is = ap (option_and_then (along path)) is

-- ---- the statements of a block, the cases of a switch, the blocks of a statement

pub record Found (p : Place) (s : PlainStatement) (k : ℕ) (d : Data) : Type 0 where
  pub by : PlainStatement
  pub rest : PlainBlock
  pub at_index : Data
  pub is : at k d ≡ Some at_index
  pub written : AStatement by at_index
  pub stands : OccursAt (next by rest) p s

find_item : (b : PlainBlock) (ds : Items) (k : ℕ) (p : Place) (s : PlainStatement) → OccursAt b (later_by k p) s → TheStatements b ds → Found p s k (array ds)
find_item stop ds k p s e h = none_in_stop (later_by k p) s e
find_item (next u rest) no_items k p s e h = absurd h
find_item (next u rest) (item d ds) zero p s e h = record { by = u; rest = rest; at_index = d; is = refl; written = h.0; stands = e }
find_item (next u rest) (item d ds) (suc k) p s e h =
    let found = find_item rest ds k p s e h.1 in
    record { by = found.by; rest = found.rest; at_index = found.at_index; is = found.is; written = found.written; stands = found.stands }

find_statement : (b : PlainBlock) (d : Data) (k : ℕ) (p : Place) (s : PlainStatement) → OccursAt b (later_by k p) s → AnArray (TheStatements b) d → Found p s k d
find_statement b d k p s e h =
    let found = items_of (TheStatements b) d h in
    subst (λ x. Found p s k x) (sym found.1) (find_item b found.0 k p s e found.2)

find_case : (cs : PlainCases) (ds : Items) (k : ℕ) (p : Place) (s : PlainStatement) → OccursAt (case_body cs k) p s → TheCases cs ds
    → (c : Data) × (at k (array ds) ≡ Some c) × (a : Data) × (at 1 c ≡ Some a) × AnArray (TheStatements (case_body cs k)) a
find_case no_case ds k p s e h = none_in_stop p s e
find_case (case value body falls rest) no_items k p s e h = absurd h
find_case (case value body falls rest) (item d ds) zero p s e h =
    let found = second _ (AnArray (TheStatements body)) _ d h.0 in
    (d, refl, found.0, found.1, found.2)
find_case (case value body falls rest) (item d ds) (suc k) p s e h = find_case rest ds k p s e h.1

abbrev InPart : PlainStatement → Part → Data → Type 0
InPart u q w = (a : Data) × ((path : List ℕ) → along (part_path q ++ path) w ≡ along path a) × AnArray (TheStatements (part_of (shape_of u) (part_view q))) a

find_part : (u : PlainStatement) (q : Part) (w : Data) → AStatement u w → (p : Place) (s : PlainStatement) → OccursAt (part_of (shape_of u) (part_view q)) p s → InPart u q w
find_part (block b) part.Inner w h p s e =
    let found = second _ (AnArray (TheStatements b)) _ w h in (found.0, λ path. go_on 1 path w found.0 found.1, found.2)
find_part (if_ test accept reject) part.Accepting w h p s e =
    let found = third _ _ (AnArray (TheStatements accept)) _ w h in (found.0, λ path. go_on 2 path w found.0 found.1, found.2)
find_part (if_ test accept reject) part.Rejecting w h p s e =
    let found = fourth _ _ _ (AnArray (TheStatements reject)) _ w h in (found.0, λ path. go_on 3 path w found.0 found.1, found.2)
find_part (loop body continuing break_if) part.LoopBody w h p s e =
    let found = second _ (AnArray (TheStatements body)) _ w h in (found.0, λ path. go_on 1 path w found.0 found.1, found.2)
find_part (loop body continuing break_if) part.LoopContinuing w h p s e =
    let found = third _ _ (AnArray (TheStatements continuing)) _ w h in (found.0, λ path. go_on 2 path w found.0 found.1, found.2)
find_part (switch selector cases) (part.Case k) w h p s e =
    let list = third _ _ (AnArray (TheCases cases)) _ w h in
    let items = items_of (TheCases cases) list.0 list.2 in
    let found = find_case cases items.0 k p s e items.2 in
    let there : at k list.0 ≡ Some found.0 = subst (λ x. at k x ≡ Some found.0) (sym items.1) found.1 in
    (found.2, (λ path. go_on 2 (k ∷ 1 ∷ path) w list.0 list.1 ∙ (go_on k (1 ∷ path) list.0 found.0 there ∙ go_on 1 path found.0 found.2 found.3)), found.4)
find_part (block b) part.Accepting w h p s e = none_in_stop p s e
find_part (block b) part.Rejecting w h p s e = none_in_stop p s e
find_part (block b) (part.Case k) w h p s e = none_in_stop p s e
find_part (block b) part.LoopBody w h p s e = none_in_stop p s e
find_part (block b) part.LoopContinuing w h p s e = none_in_stop p s e
find_part (if_ test accept reject) part.Inner w h p s e = none_in_stop p s e
find_part (if_ test accept reject) (part.Case k) w h p s e = none_in_stop p s e
find_part (if_ test accept reject) part.LoopBody w h p s e = none_in_stop p s e
find_part (if_ test accept reject) part.LoopContinuing w h p s e = none_in_stop p s e
find_part (switch selector cases) part.Inner w h p s e = none_in_stop p s e
find_part (switch selector cases) part.Accepting w h p s e = none_in_stop p s e
find_part (switch selector cases) part.Rejecting w h p s e = none_in_stop p s e
find_part (switch selector cases) part.LoopBody w h p s e = none_in_stop p s e
find_part (switch selector cases) part.LoopContinuing w h p s e = none_in_stop p s e
find_part (loop body continuing break_if) part.Inner w h p s e = none_in_stop p s e
find_part (loop body continuing break_if) part.Accepting w h p s e = none_in_stop p s e
find_part (loop body continuing break_if) part.Rejecting w h p s e = none_in_stop p s e
find_part (loop body continuing break_if) (part.Case k) w h p s e = none_in_stop p s e
find_part (emit first end) q w h p s e = none_in_stop p s e
find_part break q w h p s e = none_in_stop p s e
find_part continue q w h p s e = none_in_stop p s e
find_part (return value) q w h p s e = none_in_stop p s e
find_part kill q w h p s e = none_in_stop p s e
find_part (operation a) q w h p s e = none_in_stop p s e
find_part (call function arguments result) q w h p s e = none_in_stop p s e

-- ---- the whole path

abbrev Leads : Place → List ℕ → Type 0
Leads p path = (b : PlainBlock) (s : PlainStatement) (d : Data) → OccursAt b p s → AnArray (TheStatements b) d → (w : Data) × (along path d ≡ Some w) × AStatement s w

own_leads : (k : ℕ) → Leads (later_by k here) (k ∷ [])
own_leads k b s d e h =
    let found = find_statement b d k here s e h in
    let same : found.by ≡ s = (let x = found.stands in cc) in
    (found.at_index, go_on k [] d found.at_index found.is, subst (λ u. AStatement u found.at_index) same found.written)

no_statement : (k : ℕ) (path : List ℕ) → Leads (later_by k condition) path
no_statement k path b s d e h =
    let found = find_statement b d k condition s e h in
    let x = found.stands in absurd (cc)

step_leads : (t : Step) (p : Place) (path : List ℕ) → Leads p path → Leads (stepped t p) (step_path t ++ path)
step_leads t p path leads b s d e h =
    let found = find_statement b d t.index (place.inside (part_view t.part) p) s e h in
    let inner = find_part found.by t.part found.at_index found.written p s found.stands in
    let last = leads (part_of (shape_of found.by) (part_view t.part)) s inner.0 found.stands inner.2 in
    (last.0, go_on t.index (part_path t.part ++ path) d found.at_index found.is ∙ (inner.1 path ∙ last.1), last.2)

along_leads : (steps : List Step) (p : Place) (path : List ℕ) → Leads p path → Leads (place_along steps p) (path_along steps path)
along_leads [] p path leads = leads
along_leads (t ∷ rest) p path leads = along_leads rest (stepped t p) (step_path t ++ path) (step_leads t p path leads)

last_leads : (k : ℕ) (is_condition : Bool) → Leads (later_by k (last_place is_condition)) (k ∷ last_path is_condition)
last_leads k true = no_statement k (k ∷ 3 ∷ [])
last_leads k false = own_leads k

pub all_lead : PathsLead
all_lead place b s d e h = along_leads place.steps.items (later_by place.index (last_place place.condition)) (place.index ∷ last_path place.condition) (last_leads place.index place.condition) b s d e h

-- ---- the path is built step by step, from the first on

along_append : (steps : List Step) (path : List ℕ) → path_along steps path ≡ path_along steps [] ++ path
along_append [] path = refl
along_append (t ∷ rest) path =
    along_append rest (step_path t ++ path)
    ∙ (sym (append_assoc (path_along rest []) (step_path t) path)
    ∙ ap (λ x. x ++ path) (sym (along_append rest (step_path t)) ∙ ap (path_along rest) (sym (append-nil (step_path t)))))

pub whole : (trail : Trail) (before path longer : List ℕ) → path ≡ before ++ path_along trail.steps.items [] → longer ≡ path ++ trail.index ∷ last_path trail.condition → longer ≡ before ++ json_path trail
whole trail before path longer so is =
    is ∙ (ap (λ x. x ++ trail.index ∷ last_path trail.condition) so ∙ (append_assoc before (path_along trail.steps.items []) (trail.index ∷ last_path trail.condition)
    ∙ ap (λ x. before ++ x) (sym (along_append trail.steps.items (trail.index ∷ last_path trail.condition)))))

made_more : (steps : List Step) (k : ℕ) (d : Step) → k < length steps → path_along (drop k steps) [] ≡ path_along (drop (suc k) steps) [] ++ step_path (get_or steps k d)
made_more steps k d within =
    let t = get_or steps k d in
    ap (λ x. path_along x []) (drop-cons steps k d within)
    ∙ (ap (path_along (drop (suc k) steps)) (append-nil (step_path t)) ∙ along_append (drop (suc k) steps) (step_path t))

pub made_back : (before : List ℕ) (steps : List Step) (left : ℕ) (d : Step) (path longer : List ℕ) → 0 < left → left ≤ length steps → path ≡ before ++ path_along (drop left steps) []
    → longer ≡ path ++ step_path (get_or steps (left - 1) d) → longer ≡ before ++ path_along (drop (left - 1) steps) []
made_back before steps left d path longer some within so more =
    more ∙ (ap (λ x. x ++ step_path (get_or steps (left - 1) d)) (so ∙ ap (λ n. before ++ path_along (drop n steps) []) (let e : left ≡ suc (left - 1) = omega arith in e))
    ∙ (append_assoc before (path_along (drop (suc (left - 1)) steps) []) (step_path (get_or steps (left - 1) d))
    ∙ ap (λ x. before ++ x) (sym (made_more steps (left - 1) d (let e : left - 1 < length steps = omega arith in e)))))
