-- What was found of each place up to one.
use Rattle.std.proofs.Common.{◌≡◌, ℕ, ◌+◌, ◌<◌, List, Some, length, slice_get, map, subst, ◌∙◌, arith}
use borrow.Author.Count.{below_more}
use Rattle.std.proofs.lemmas.List.{length-map}
use Rattle.std.proofs.lemmas.Option.{slice_get_within}
use Rattle.ir_arena.specs.declared.span.Span.{Span}
use Rattle.ir_items.specs.found.GlobalView.{values_of}

-- this holds at each place below a bound
abbrev pub UpTo : {P : Type 0} → (ℕ → P → Type 0) → List P → ℕ → Type 0
UpTo {P} Q items bound = (place : ℕ) → place < bound → (item : P) → slice_get items place ≡ Some item → Q place item

pub further : {P : Type 0} → (Q : ℕ → P → Type 0) → (items : List P) (bound : ℕ) (x : P) → slice_get items bound ≡ Some x → Q bound x → UpTo Q items bound → UpTo Q items (bound + 1)
further {P} Q items bound x at holds before =
    below_more (λ place. (item : P) → slice_get items place ≡ Some item → Q place item) bound before
    (λ item e. let same : x ≡ item = (let y = at in let z = e in cc) in subst (λ (y : P). Q bound y) same holds)

pub everywhere : {T P : Type 0} → (view : T → P) → (Q : ℕ → P → Type 0) → (entries : List (T × Span)) → UpTo Q (map view (values_of entries)) (length entries)
    → (place : ℕ) (item : P) → slice_get (map view (values_of entries)) place ≡ Some item → Q place item
everywhere {T} {P} view Q entries holds place item at =
    let long = length-map (values_of entries) view ∙ length-map entries (λ (x : T × Span). x.0) in
    let inside : place < length (map view (values_of entries)) = slice_get_within (map view (values_of entries)) place item at in
    holds place (omega arith) item at
