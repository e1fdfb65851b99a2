-- The rules of a product all have the same number of arguments.
use Rattle.std.proofs.Common.{◌≡◌, ◌∙◌, ◌++◌, ℕ, suc, Some, None, List, [], ◌∷◌, refl, ap, sym, arith, fold, length, map, max, min, slice_get}
use Rattle.ir_kinds.specs.declared.scalars.Scalar.{Scalar}
use Rattle.typing_rules.specs.declared.patterns.Pattern.{Pattern}
use Rattle.typing_rules.specs.declared.rules.ConstructorSize.{ConstructorSize}
use Rattle.typing_rules.specs.declared.rules.Rule.{Rule}
use Rattle.typing_rules.specs.judged.MathTable.{math_rule, rules_over}
use Rattle.typing_overloads.specs.Products.{row, required_type, required_by}
use Rattle.typing_rules.specs.judged.Laws.{arity}
use Rattle.typing_overloads.specs.Sets.{fewest_arguments, most_arguments}
use Rattle.typing_overloads.proofs.Kept.{required_are}

length_mapped : {A B : Type 0} (f : A → B) (xs : List A) → length (map f xs) ≡ length xs
length_mapped f [] = refl
length_mapped f (x ∷ xs) = ap (λ n. suc n) (length_mapped f xs)

arity_by : (p : Pattern) (n : ConstructorSize) (s : Scalar) → arity (math_rule p n s) ≡ length (required_by p)
arity_by p n s = ap length (required_are p n s) ∙ length_mapped (required_type n s) (required_by p)

-- each rule has this many arguments
abbrev AllHave : ℕ → List Rule → Type 0
AllHave k [] = Unit {0}
AllHave k (r ∷ rs) = (arity r ≡ k) × AllHave k rs

all_joined : (k : ℕ) (xs ys : List Rule) → AllHave k xs → AllHave k ys → AllHave k (xs ++ ys)
all_joined k [] ys h l = l
all_joined k (x ∷ xs) ys h l = (h.0, all_joined k xs ys h.1 l)

all_of_row : (p : Pattern) (n : ConstructorSize) (ss : List Scalar) → AllHave (length (required_by p)) (row p ss n)
all_of_row p n [] = tt
all_of_row p n (s ∷ ss) = (arity_by p n s, all_of_row p n ss)

all_of_rules : (p : Pattern) (ss : List Scalar) (ns : List ConstructorSize) → AllHave (length (required_by p)) (rules_over p ss ns)
all_of_rules p ss [] = tt
all_of_rules p ss (n ∷ ns) = all_joined (length (required_by p)) (row p ss n) (rules_over p ss ns) (all_of_row p n ss) (all_of_rules p ss ns)

-- ---- minimum and maximum

settled : (op : ℕ → ℕ → ℕ) (again : (n k : ℕ) → op (op n k) k ≡ op n k) (n k : ℕ) (rs : List Rule) → AllHave k rs → fold (λ m r. op m (arity r)) (op n k) rs ≡ op n k
settled op again n k [] h = refl
settled op again n k (r ∷ rs) h = ap (λ m. fold (λ i q. op i (arity q)) m rs) (ap (op (op n k)) h.0 ∙ again n k) ∙ settled op again n k rs h.1

found : (op : ℕ → ℕ → ℕ) (again : (n k : ℕ) → op (op n k) k ≡ op n k) (n k : ℕ) (rs : List Rule) (q : Rule) → AllHave k rs → Some q ≡ slice_get rs 0
    → op n k ≡ fold (λ m r. op m (arity r)) n rs
found op again n k [] q h e = absurd (cc)
found op again n k (r ∷ rs) q h e = sym (ap (λ m. fold (λ i j. op i (arity j)) m rs) (ap (op n) h.0) ∙ settled op again n k rs h.1)

min_again : (n k : ℕ) → min (min n k) k ≡ min n k
min_again n k = omega arith

max_again : (n k : ℕ) → max (max n k) k ≡ max n k
max_again n k = omega arith

pub fewest_found : (p : Pattern) (ss : List Scalar) (ns : List ConstructorSize) (n : ℕ) (q : Rule) → Some q ≡ slice_get (rules_over p ss ns) 0
    → min n (length (required_by p)) ≡ fold (λ m r. min m (arity r)) n (rules_over p ss ns)
fewest_found p ss ns n q e = found min min_again n (length (required_by p)) (rules_over p ss ns) q (all_of_rules p ss ns) e

pub most_found : (p : Pattern) (ss : List Scalar) (ns : List ConstructorSize) (n : ℕ) (q : Rule) → Some q ≡ slice_get (rules_over p ss ns) 0
    → max n (length (required_by p)) ≡ fold (λ m r. max m (arity r)) n (rules_over p ss ns)
most_found p ss ns n q e = found max max_again n (length (required_by p)) (rules_over p ss ns) q (all_of_rules p ss ns) e

-- an empty list changes nothing
pub none_found : (op : ℕ → Rule → ℕ) (n : ℕ) (rs : List Rule) → None ≡ slice_get rs 0 → n ≡ fold op n rs
none_found op n [] e = refl
none_found op n (r ∷ rs) e = absurd (cc)

-- ---- over all rules, from the first one on

min_same : (n : ℕ) → min n n ≡ n
min_same n = omega arith

max_same : (n : ℕ) → max n n ≡ n
max_same n = omega arith

fewest_from : (rs : List Rule) (q : Rule) → slice_get rs 0 ≡ Some q → fold (λ m r. min m (arity r)) (arity q) rs ≡ fewest_arguments rs
fewest_from [] q e = absurd (cc)
fewest_from (r ∷ rs) q e = let same : q ≡ r = cc in ap (λ i. fold (λ m j. min m (arity j)) (min (arity i) (arity r)) rs) same ∙ ap (λ i. fold (λ m j. min m (arity j)) i rs) (min_same (arity r))

most_from : (rs : List Rule) (q : Rule) → slice_get rs 0 ≡ Some q → fold (λ m r. max m (arity r)) (arity q) rs ≡ most_arguments rs
most_from [] q e = absurd (cc)
most_from (r ∷ rs) q e = let same : q ≡ r = cc in ap (λ i. fold (λ m j. max m (arity j)) (max (arity i) (arity r)) rs) same ∙ ap (λ i. fold (λ m j. max m (arity j)) i rs) (max_same (arity r))

pub fewest_given : (rs xs : List Rule) (q : Rule) (own found : ℕ) → xs ≡ rs → slice_get rs 0 ≡ Some q → own ≡ arity q → found ≡ fold (λ m r. min m (arity r)) own xs
    → found ≡ fewest_arguments rs
fewest_given rs xs q own found whole e a b =
    b ∙ ap (λ n. fold (λ m r. min m (arity r)) n xs) a ∙ ap (fold (λ m r. min m (arity r)) (arity q)) whole ∙ fewest_from rs q e

pub most_given : (rs xs : List Rule) (q : Rule) (own found : ℕ) → xs ≡ rs → slice_get rs 0 ≡ Some q → own ≡ arity q → found ≡ fold (λ m r. max m (arity r)) own xs
    → found ≡ most_arguments rs
most_given rs xs q own found whole e a b =
    b ∙ ap (λ n. fold (λ m r. max m (arity r)) n xs) a ∙ ap (fold (λ m r. max m (arity r)) (arity q)) whole ∙ most_from rs q e
