-- Codes distinguish pairs.
use Rattle.std.proofs.Common.{◌≡◌, ℕ, ◌+◌, ◌*◌, Bool, true, false, cond, true≢false, ◌||◌, List, [], ◌∷◌, ◌++◌, refl, sym, ap, subst, ◌∙◌, arith}
use Rattle.std.proofs.lemmas.List.Folds.{list_any-append}
use Rattle.std.proofs.lemmas.Map.Lookups.{exact_pairs, exact_unsigned}
use Rattle.std.specs.BTreeSet.{BTreeSet, contains}
use Rattle.std.specs.Cmp.{both_ways, nat_cmp_total, tied_itself}
use Rattle.std.specs.List.{list_any}
use Rattle.std.specs.Ordering.{is_eq, nat_cmp, ordering_then}
use Rattle.std.specs.declared.cmp.Ordering.{Ordering}
use Rattle.std.specs.declared.cmp.Ordering.TheVariants.{Less, Equal, Greater}
use Rattle.spec_expressions.specs.declared.sampling.GlobalOrArgument.{GlobalOrArgument}
use Rattle.spec_expressions.specs.declared.sampling.GlobalOrArgument.TheVariants.{Global, Argument}
use Rattle.spec_expressions.specs.judged.Pairs.{SamplingPair, pair_eq}
use Rattle.typing_infos.proofs.Equal.{pair_same, pair_self}
use Rattle.typing_infos.specs.Codes.{part_code, code_of, code_cmp, IsIndexOf}

pub equal_by : (o : Ordering) → is_eq o ≡ true → o ≡ Equal
equal_by Less e = absurd (true≢false (sym e))
equal_by Equal e = refl
equal_by Greater e = absurd (true≢false (sym e))

exact_part : (a b : GlobalOrArgument) → part_code a ≡ part_code b → a ≡ b
exact_part (Global x) (Global y) e = ap Global (omega (arith, e))
exact_part (Argument x) (Argument y) e = ap Argument (omega (arith, e))
exact_part (Global x) (Argument y) e = absurd (omega (arith, e))
exact_part (Argument x) (Global y) e = absurd (omega (arith, e))

exact_code : (p q : SamplingPair) → code_of p ≡ code_of q → p ≡ q
exact_code p q e = λ i. (exact_part p.0 q.0 (ap (λ (c : ℕ × ℕ). c.0) e) i, exact_part p.1 q.1 (ap (λ (c : ℕ × ℕ). c.1) e) i)

tied : (c : ℕ × ℕ) → code_cmp c c ≡ Equal
tied c = λ i. ordering_then (tied_itself nat_cmp_total c.0 i) (tied_itself nat_cmp_total c.1 i)

-- a code is in the list exactly if the pair is
pub codes_tie : (p q : SamplingPair) → is_eq (code_cmp (code_of p) (code_of q)) ≡ pair_eq q p
codes_tie p q = both_ways (is_eq (code_cmp (code_of p) (code_of q))) (pair_eq q p)
    (λ e. let same : p ≡ q = exact_code p q (exact_pairs nat_cmp nat_cmp exact_unsigned exact_unsigned (code_of p) (code_of q) (equal_by (code_cmp (code_of p) (code_of q)) e)) in
    subst (λ z. pair_eq z p ≡ true) same (pair_self p))
    (λ e. subst (λ z. is_eq (code_cmp (code_of z) (code_of q)) ≡ true) (pair_same q p e) (ap is_eq (tied (code_of q))))

last : (a b : Bool) → cond a true b ≡ (b || (a || false))
last true true = refl
last true false = refl
last false true = refl
last false false = refl

-- the code of one more pair is inserted
pub one_coded : (old new : BTreeSet (ℕ × ℕ)) (pairs : List SamplingPair) (p : SamplingPair)
    → ((c : ℕ × ℕ) → contains code_cmp new c ≡ cond (is_eq (code_cmp (code_of p) c)) true (contains code_cmp old c))
    → IsIndexOf old pairs → IsIndexOf new (pairs ++ p ∷ [])
one_coded old new pairs p puts is = λ q.
    puts (code_of q)
    ∙ ((λ i. cond (codes_tie p q i) true (is q i))
    ∙ (last (pair_eq q p) (list_any (pair_eq q) pairs)
    ∙ sym (list_any-append (pair_eq q) pairs (p ∷ []))))
