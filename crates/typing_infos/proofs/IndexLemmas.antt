-- The codes of values are inserted into a set one after another.
use Rattle.std.proofs.Common.{◌≡◌, ℕ, zero, suc, ◌+◌, ◌<◌, ◌≤◌, Bool, true, false, cond, ◌||◌, List, [], ◌∷◌, length, drop, get_or, refl, sym, ap, ◌∙◌, subst, arith}
use Rattle.std.specs.BTreeSet.{BTreeSet, contains}
use Rattle.std.specs.List.{list_any}
use Rattle.std.specs.Ordering.{is_eq}
use Rattle.spec_expressions.specs.judged.Pairs.{SamplingPair, pair_eq}
use Rattle.typing_infos.proofs.CodeLemmas.{codes_tie}
use Rattle.typing_infos.specs.Codes.{code_of, code_cmp, IsIndexOf}

or_false : (b : Bool) → (b || false) ≡ b
or_false true = refl
or_false false = refl

put : (a b r : Bool) → (cond a true b || r) ≡ (b || (a || r))
put true true r = refl
put true false r = refl
put false true r = refl
put false false r = refl

at_place : (values : List SamplingPair) (i : ℕ) (x q : SamplingPair) → i < length values → x ≡ get_or values i x → list_any (pair_eq q) (drop i values) ≡ (pair_eq q x || list_any (pair_eq q) (drop (suc i) values))
at_place [] i x q lt is = absurd (omega (arith, lt))
at_place (v ∷ values) zero x q lt is = ap (λ z. pair_eq q z || list_any (pair_eq q) values) (sym is)
at_place (v ∷ values) (suc i) x q lt is = at_place values i x q (omega (arith, lt)) is

-- the codes in the set, or of the values from this index on
abbrev pub AreAll : (codes : BTreeSet (ℕ × ℕ)) → (values : List SamplingPair) → ℕ → Type 0
AreAll codes values i = (q : SamplingPair) → (contains code_cmp codes (code_of q) || list_any (pair_eq q) (drop i values)) ≡ list_any (pair_eq q) values

-- the code of one more value is inserted
pub one_put : (old new : BTreeSet (ℕ × ℕ)) (values : List SamplingPair) (i j : ℕ) (x : SamplingPair) → j ≡ suc i → i < length values → x ≡ get_or values i x
    → ((c : ℕ × ℕ) → contains code_cmp new c ≡ cond (is_eq (code_cmp (code_of x) c)) true (contains code_cmp old c))
    → AreAll old values i → AreAll new values j
one_put old new values i j x next lt is puts all = λ q.
    let rest = list_any (pair_eq q) (drop (suc i) values) in
    let had = contains code_cmp old (code_of q) in
    (λ k. puts (code_of q) k || list_any (pair_eq q) (drop (next k) values))
    ∙ (ap (λ a. cond a true had || rest) (codes_tie x q)
    ∙ (put (pair_eq q x) had rest
    ∙ (ap (λ b. had || b) (sym (at_place values i x q lt is))
    ∙ all q)))

drop_all : (values : List SamplingPair) (i : ℕ) → length values ≤ i → drop i values ≡ []
drop_all [] zero le = refl
drop_all [] (suc i) le = refl
drop_all (v ∷ values) zero le = absurd (omega (arith, le))
drop_all (v ∷ values) (suc i) le = drop_all values i (omega (arith, le))

-- all are inserted
pub all_put : (codes : BTreeSet (ℕ × ℕ)) (values : List SamplingPair) (i : ℕ) → length values ≤ i → AreAll codes values i → IsIndexOf codes values
all_put codes values i le all = λ q.
    let had = contains code_cmp codes (code_of q) in
    sym (ap (λ l. had || list_any (pair_eq q) l) (drop_all values i le) ∙ or_false had) ∙ all q
