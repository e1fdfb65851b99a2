-- A set of the keys of cases says whether a value stands among them.
use Rattle.std.proofs.Common.{◌≡◌, ◌≢◌, ◌⊎◌, inl, inr, ℕ, zero, suc, ℤ, pos, ◌<◌, ◌≤◌, ◌+◌, List, [], ◌∷◌, ◌++◌, map, take, length, get_or, Bool, true, false, cond, true≢false, ◌||◌, Contains, refl, sym, ap, subst, ◌∙◌, arith}
use Rattle.std.specs.Ordering.{nat_cmp, int_cmp, eq_by_cmp, ordering_then}
use Rattle.std.specs.declared.cmp.Ordering.{Ordering}
use Rattle.std.specs.Cmp.{IsTotalOrder}
use Rattle.std.specs.List.{AllPairs, list_any}
use Rattle.std.proofs.lemmas.Cmp.{eq_by_cmp_equiv, then_total, on_total, nat_cmp_total, int_cmp_total}
use Rattle.std.proofs.lemmas.Map.Lookups.{CmpEqualImpliesEq, exact_pairs, exact_unsigned, exact_signed}
use Rattle.std.proofs.lemmas.Map.Views.{tells_apart}
use Rattle.std.proofs.lemmas.List.{take_more, take_all}
use Rattle.std.proofs.lemmas.List.Folds.{list_any-append}
use Rattle.std.proofs.lemmas.Option.{get_or_from_slice_get, slice_get_within}
use Rattle.ir_blocks.specs.judged.Plain.{PlainStatement, PlainBlock}
use Rattle.ir_blocks.specs.found.View.{PlainCase, case_view, cases_of, statement_step, block_step, case_step}
use Rattle.ir_blocks.specs.declared.statements.Statement.TheFolds.{fold_out-SwitchCase}
use Rattle.ir_blocks.specs.declared.statements.SwitchCase.{SwitchCase}
use Rattle.ir_kinds.specs.declared.scalars.ScalarKind.{ScalarKind}
use Rattle.ir_kinds.specs.declared.values.SwitchValue.{SwitchValue}
use Rattle.ir_kinds.specs.declared.values.SwitchValue.TheVariants.{I32, U32, Default}
use Rattle.spec_statements.specs.judged.Switches.{case_values, FitsKind}
use Rattle.function_statement_checks.specs.Cases.{OccursTwice, AreApart}
use Rattle.function_statement_checks.specs.CaseValues.{value_key}
use Rattle.function_statement_checks.proofs.CaseLists.{contains_cons, contains_first, contains_later, image_at, image_before}

-- ---- keys

abbrev pub key_cmp : ℕ × ℤ → ℕ × ℤ → Ordering
key_cmp x y = ordering_then (nat_cmp x.0 y.0) (int_cmp x.1 y.1)

keys_total : IsTotalOrder key_cmp
keys_total = then_total (on_total (λ x. x.0) nat_cmp_total) (on_total (λ x. x.1) int_cmp_total)

keys_exact : CmpEqualImpliesEq key_cmp
keys_exact = exact_pairs nat_cmp int_cmp exact_unsigned exact_signed

apart : ¬ (suc zero ≡ suc (suc zero))
apart e = omega arith

-- no two values have one key
one_value : (v w : SwitchValue) → value_key v ≡ value_key w → v ≡ w
one_value (I32 a) (I32 b) e = ap (λ (p : ℕ × ℤ). I32 p.1) e
one_value (I32 a) (U32 b) e = let k : zero ≡ 1 = ap (λ (p : ℕ × ℤ). p.0) e in cc
one_value (I32 a) Default e = let k : zero ≡ 2 = ap (λ (p : ℕ × ℤ). p.0) e in cc
one_value (U32 a) (I32 b) e = let k : 1 ≡ zero = ap (λ (p : ℕ × ℤ). p.0) e in cc
one_value (U32 a) (U32 b) e = let k : pos a ≡ pos b = ap (λ (p : ℕ × ℤ). p.1) e in cc
one_value (U32 a) Default e = absurd (apart (ap (λ (p : ℕ × ℤ). p.0) e))
one_value Default (I32 b) e = let k : 2 ≡ zero = ap (λ (p : ℕ × ℤ). p.0) e in cc
one_value Default (U32 b) e = absurd (apart (sym (ap (λ (p : ℕ × ℤ). p.0) e)))
one_value Default Default e = refl

-- ---- cases

abbrev pub value_of : SwitchCase → SwitchValue
value_of c = c.value

-- one of the cases has a value with this key
abbrev pub has_key : List SwitchCase → ℕ × ℤ → Bool
has_key cs q = list_any (λ c. eq_by_cmp key_cmp (value_key (value_of c)) q) cs

either : (a b : Bool) → (a || b) ≡ true → (a ≡ true) ⊎ (b ≡ true)
either true b e = inl refl
either false b e = inr e

or_true : (a b : Bool) → b ≡ true → (a || b) ≡ true
or_true true b e = refl
or_true false b e = e

pub held : (cs : List SwitchCase) (v : SwitchValue) → has_key cs (value_key v) ≡ true → Contains (map value_of cs) v
held [] v e = absurd (true≢false (sym e))
held (c ∷ cs) v e =
    elim (either _ _ e) [
      | inl same ↦ subst (Contains (value_of c ∷ map value_of cs)) (one_value (value_of c) v (tells_apart keys_exact _ _ same)) (contains_first (value_of c) (map value_of cs))
      | inr later ↦ contains_later (value_of c) (map value_of cs) v (held cs v later)
    ]

pub found : (cs : List SwitchCase) (v : SwitchValue) → Contains (map value_of cs) v → has_key cs (value_key v) ≡ true
found [] v h = absurd (let lt = h.1 in omega arith)
found (c ∷ cs) v h =
    elim (contains_cons (value_of c) (map value_of cs) v h) [
      | inl same ↦ ap (λ b. b || has_key cs (value_key v)) (subst (λ w. eq_by_cmp key_cmp (value_key (value_of c)) (value_key w) ≡ true) same ((eq_by_cmp_equiv keys_total).refl (value_key (value_of c))))
      | inr later ↦ or_true _ _ (found cs v later)
    ]

joined : (a b : Bool) → cond b true a ≡ (a || (b || false))
joined true true = refl
joined true false = refl
joined false true = refl
joined false false = refl

-- with one case more
pub more_keys : (cases : List SwitchCase) (i : ℕ) (x : SwitchCase) (q : ℕ × ℤ) (before after : Bool) → i < length cases → x ≡ get_or cases i x
    → before ≡ has_key (take i cases) q → after ≡ cond (eq_by_cmp key_cmp (value_key (value_of x)) q) true before → after ≡ has_key (take (i + 1) cases) q
more_keys cases i x q before after lt is b a =
    let more : take (i + 1) cases ≡ take i cases ++ x ∷ [] = take_more cases i x lt ∙ ap (λ z. take i cases ++ z ∷ []) (sym is) in
    a ∙ (ap (cond (eq_by_cmp key_cmp (value_key (value_of x)) q) true) b
    ∙ (joined (has_key (take i cases) q) (eq_by_cmp key_cmp (value_key (value_of x)) q)
    ∙ sym (ap (λ cs. has_key cs q) more ∙ list_any-append (λ c. eq_by_cmp key_cmp (value_key (value_of c)) q) (take i cases) (x ∷ []))))

-- ---- the whole

value_is : (c : SwitchCase) → (case_view c).value ≡ value_of c
value_is c = ap (λ (p : PlainCase). p.value) (fold_out-SwitchCase PlainStatement PlainBlock PlainCase statement_step block_step case_step c)

pub values_are : (cs : List SwitchCase) → case_values (cases_of (map case_view cs)) ≡ map value_of cs
values_are [] = refl
values_are (c ∷ cs) = ap (λ v. v ∷ case_values (cases_of (map case_view cs))) (value_is c) ∙ ap (λ vs. value_of c ∷ vs) (values_are cs)

-- all are of the kind and differ
pub all_apart : (kind : ScalarKind) (cs : List SwitchCase) (i : ℕ) → length cs ≤ i → AllPairs (λ v w. v ≢ w) (map value_of (take i cs))
    → ((v : SwitchValue) → Contains (map value_of (take i cs)) v → FitsKind kind v) → AreApart kind (case_values (cases_of (map case_view cs)))
all_apart kind cs i past differ fit =
    let same : map value_of (take i cs) ≡ case_values (cases_of (map case_view cs)) = ap (map value_of) (take_all i cs past) ∙ sym (values_are cs) in record {
      fit = λ v c. fit v (subst (λ vs. Contains vs v) (sym same) c);
      differ = subst (AllPairs (λ v w. v ≢ w)) same differ;
    }

-- a value that stood before stands twice
pub stands_twice : (cs : List SwitchCase) (i : ℕ) (c : SwitchCase) → i < length cs → c ≡ get_or cs i c → Contains (map value_of (take i cs)) (value_of c)
    → OccursTwice (case_values (cases_of (map case_view cs))) (value_of c)
stands_twice cs i c lt here there =
    let first = image_before value_of cs i c lt there in
    subst (λ vs. OccursTwice vs (value_of c)) (sym (values_are cs)) (record {
      first = first.0;
      again = i;
      behind = first.1;
      stands = first.2;
      stands_again = image_at value_of cs i c lt here;
    })

-- the value of each case is one of the values
pub held_at : (cs : List SwitchCase) (i : ℕ) (c : SwitchCase) → i < length cs → c ≡ get_or cs i c → Contains (case_values (cases_of (map case_view cs))) (value_of c)
held_at cs i c lt here =
    let at = image_at value_of cs i c lt here in
    subst (λ vs. Contains vs (value_of c)) (sym (values_are cs)) (i, slice_get_within _ i _ at, get_or_from_slice_get _ i _ (value_of c) at)

-- and none is another
pub held_all : (cs : List SwitchCase) (i : ℕ) (v : SwitchValue) → length cs ≤ i → Contains (case_values (cases_of (map case_view cs))) v → Contains (map value_of (take i cs)) v
held_all cs i v past held = subst (λ vs. Contains vs v) (values_are cs ∙ ap (map value_of) (sym (take_all i cs past))) held
