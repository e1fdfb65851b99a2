-- Modules that differ only in returns: how they arise, and the symmetry of the relation.
use Rattle.std.proofs.Common.{◌≡◌, inl, ℕ, zero, suc, Some, None, List, [], ◌∷◌, slice_get, refl, sym, ap, subst, ◌∙◌}
use Rattle.std.specs.List.{AllZip}
use Rattle.std.proofs.lemmas.Option.{same_Some}
use Rattle.ir_blocks.specs.judged.Plain.{PlainBlock}
use Rattle.ir_blocks.proofs.OneCompleted.{one_completed}
use Rattle.ir_items.specs.judged.Plain.{PlainFunction, PlainEntry, PlainModule}
use Rattle.ir_items.specs.judged.Returned.{IsReturnedFunction, IsReturnedEntry, IsReturned}
use Rattle.judgement_laws.specs.found.Alike.{kept, IsCarried, Alike}
use Rattle.judgement_laws.specs.judged.Like.{Matched, LikeFunction, LikeEntry, LikeModule, HasNoResult}
use Rattle.judgement_laws.proofs.Completed.{completed_alike}

-- ---- symmetry

pub alike_back : {b c : PlainBlock} → Alike b c → Alike c b
alike_back a = record { there = a.back; back = a.there; effects = sym a.effects }

pub function_back : {f g : PlainFunction} → LikeFunction f g → LikeFunction g f
function_back {f} {g} l = record {
  no_result = ap (λ x. x.result) l.rest ∙ l.no_result;
  body = alike_back l.body;
  rest = (let again : (record g { body = f.body }) ≡ f = (λ i. record (l.rest i) { body = f.body }) in sym again);
}

pub entry_back : {x y : PlainEntry} → LikeEntry x y → LikeEntry y x
entry_back {x} {y} l = record { function = function_back l.function; rest = (let again : (record y { function = x.function }) ≡ x = (λ i. record (l.rest i) { function = x.function }) in sym again) }

pub matched_back : {A : Type 0} {R : A → A → Type 0} {xs ys : List A} → ((x y : A) → R x y → R y x) → Matched R xs ys → Matched R ys xs
matched_back turn l = record {
  many = sym l.many;
  there = λ i y at. (let k = l.back i y at in (k.0, k.1, turn _ _ k.2));
  back = λ i x at. (let k = l.there i x at in (k.0, k.1, turn _ _ k.2));
}

pub module_back : {m n : PlainModule} → LikeModule m n → LikeModule n m
module_back {m} {n} l = record {
  functions = matched_back (λ f g. function_back) l.functions;
  entries = matched_back (λ x y. entry_back) l.entries;
  rest = (let again : (record n { functions = m.functions; entries = m.entries }) ≡ m = (λ i. record (l.rest i) { functions = m.functions; entries = m.entries }) in sym again);
}

-- ---- a module without results is like itself

alike_itself : (b : PlainBlock) → Alike b b
alike_itself b =
    let carried : IsCarried b b = record { statements = λ p s at. kept s at refl; conditions = λ p e at. inl at } in
    record { there = carried; back = carried; effects = refl }

function_itself : (f : PlainFunction) → f.result ≡ None → LikeFunction f f
function_itself f no_result = record { no_result = no_result; body = alike_itself f.body; rest = refl }

matched_itself : {A : Type 0} (R : A → A → Type 0) (xs : List A) → ((i : ℕ) (x : A) → slice_get xs i ≡ Some x → R x x) → Matched R xs xs
matched_itself R xs each = record { many = refl; there = λ i x at. (x, at, each i x at); back = λ i x at. (x, at, each i x at) }

pub like_itself : (m : PlainModule) → HasNoResult m → LikeModule m m
like_itself m none = record {
  functions = matched_itself LikeFunction m.functions (λ i f at. function_itself f (none.functions i f at));
  entries = matched_itself LikeEntry m.entries (λ k x at. record { function = function_itself x.function (none.entries k x at); rest = refl });
  rest = refl;
}

-- ---- a property of a module with other bodies is one of the module

pub over_like : {m n : PlainModule} {f g : PlainFunction} (P : PlainModule → PlainFunction → Type 0) → LikeModule m n → LikeFunction f g
    → P (record m { functions = n.functions; entries = n.entries }) (record f { body = g.body }) → P n g
over_like {m} {n} {f} {g} P l k h = subst (λ z. P z g) (sym l.rest) (subst (P (record m { functions = n.functions; entries = n.entries })) (sym k.rest) h)

entry_is : {x y : PlainEntry} → LikeEntry x y → y ≡ record x { function = record x.function { body = y.function.body } }
entry_is {x} {y} k =
    let inner : (record x { function = y.function }) ≡ record x { function = record x.function { body = y.function.body } } = (λ i. record x { function = k.function.rest i }) in
    k.rest ∙ inner

pub over_entry : {m n : PlainModule} {x y : PlainEntry} (P : PlainModule → PlainEntry → Type 0) → LikeModule m n → LikeEntry x y
    → P (record m { functions = n.functions; entries = n.entries }) (record x { function = record x.function { body = y.function.body } }) → P n y
over_entry {m} {n} {x} {y} P l k h = subst (λ z. P z y) (sym l.rest) (subst (P (record m { functions = n.functions; entries = n.entries })) (sym (entry_is k)) h)

-- ---- from a module with missing returns inserted

none_some : {A B : Type 0} {x : A} → None ≡ Some x → B
none_some e = absurd (cc (e))

zipped : {A : Type 0} (R S : A → A → Type 0) (xs ys : List A) → ((i : ℕ) (x y : A) → slice_get xs i ≡ Some x → R x y → S x y) → AllZip R xs ys → Matched S xs ys
zipped R S [] [] f z = record { many = refl; there = λ i x at. none_some at; back = λ i y at. none_some at }
zipped R S [] (y ∷ ys) f z = absurd z
zipped R S (x ∷ xs) [] f z = absurd z
zipped {A} R S (x ∷ xs) (y ∷ ys) f z =
    let more = zipped R S xs ys (λ i. f (suc i)) z.1 in
    record { many = ap suc more.many; there = there more; back = back more }
  where
    there : Matched S xs ys → (i : ℕ) (u : A) → slice_get (x ∷ xs) i ≡ Some u → (v : A) × (slice_get (y ∷ ys) i ≡ Some v) × S u v
    there more zero u at = (y, refl, subst (λ w. S w y) (same_Some _ _ at) (f zero x y refl z.0))
    there more (suc i) u at = more.there i u at

    back : Matched S xs ys → (i : ℕ) (v : A) → slice_get (y ∷ ys) i ≡ Some v → (u : A) × (slice_get (x ∷ xs) i ≡ Some u) × S u v
    back more zero v at = (x, refl, subst (λ w. S x w) (same_Some _ _ at) (f zero x y refl z.0))
    back more (suc i) v at = more.back i v at

like_function : (f g : PlainFunction) → f.result ≡ None → IsReturnedFunction f g → LikeFunction f g
like_function f g no_result r = record {
  no_result = no_result;
  body = subst (Alike f.body) (sym (one_completed f.body g.body r.body)) (completed_alike f.body);
  rest = r.rest;
}

pub like_returned : (m n : PlainModule) → HasNoResult m → IsReturned m n → LikeModule m n
like_returned m n none r = record {
  functions = zipped IsReturnedFunction LikeFunction m.functions n.functions (λ i f g at h. like_function f g (none.functions i f at) h) r.functions;
  entries = zipped IsReturnedEntry LikeEntry m.entries n.entries (λ k x y at h. record { function = like_function x.function y.function (none.entries k x at) h.function; rest = h.rest }) r.entries;
  rest = r.rest;
}
