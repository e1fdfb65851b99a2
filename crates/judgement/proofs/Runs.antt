-- Leaves in ascending order without overlap.
use Rattle.std.proofs.Common.{ℕ, zero, suc, ◌+◌, ◌*◌, ◌≤◌, inl, List, [], ◌∷◌, ◌++◌, map, arith}
use Rattle.std.specs.Int.{◌∣◌}
use Rattle.std.specs.List.{All, AllPairs}
use Rattle.std.proofs.lemmas.List.Elements.{All-nil, All-cons, All-weaker}
use Rattle.std.proofs.lemmas.List.Kept.{AllPairs-cons}
use Rattle.std.proofs.lemmas.Nat.Gcd.{dvd_trans}
use Rattle.std.proofs.Math.Nat.{dvd-add, dvd-mul_left_of_dvd}
use Rattle.judgement.specs.judged.Sound.{LeavesApart}
use Rattle.judgement.specs.judged.Leaves.{Leaf, leaf_inside, repeated}

-- in ascending order, each at a multiple of its alignment, which divides `a`
abbrev pub Runs : (a low : ℕ) → List Leaf → (high : ℕ) → Type 0
Runs a low [] high = low ≤ high
Runs a low (l ∷ ls) high = (low ≤ l.first) × (l.alignment ∣ a) × (l.alignment ∣ l.first) × Runs a (l.first + l.length) ls high

pub runs_lower : (a low lower : ℕ) (ls : List Leaf) (high : ℕ) → lower ≤ low → Runs a low ls high → Runs a lower ls high
runs_lower a low lower [] high h r = omega arith
runs_lower a low lower (l ∷ ls) high h r = (omega arith, r.1, r.2, r.3)

pub runs_higher : (a low : ℕ) (ls : List Leaf) (high higher : ℕ) → high ≤ higher → Runs a low ls high → Runs a low ls higher
runs_higher a low [] high higher h r = omega arith
runs_higher a low (l ∷ ls) high higher h r = (r.0, r.1, r.2, runs_higher a (l.first + l.length) ls high higher h r.3)

pub runs_wider : (a b low : ℕ) (ls : List Leaf) (high : ℕ) → a ∣ b → Runs a low ls high → Runs b low ls high
runs_wider a b low [] high d r = r
runs_wider a b low (l ∷ ls) high d r = (r.0, dvd_trans l.alignment r.1 d, r.2, runs_wider a b (l.first + l.length) ls high d r.3)

pub runs_append : (a low : ℕ) (xs : List Leaf) (mid : ℕ) (ys : List Leaf) (high : ℕ) → Runs a low xs mid → Runs a mid ys high → Runs a low (xs ++ ys) high
runs_append a low [] mid ys high r q = runs_lower a mid low ys high r q
runs_append a low (l ∷ ls) mid ys high r q = (r.0, r.1, r.2, runs_append a (l.first + l.length) ls mid ys high r.3 q)

-- shifted to the offset of a part
pub runs_inside : (a part offset low : ℕ) (ls : List Leaf) (high : ℕ) → a ∣ offset → Runs a low ls high → Runs a (offset + low) (map (leaf_inside part offset) ls) (offset + high)
runs_inside a part offset low [] high d r = omega arith
runs_inside a part offset low (l ∷ ls) high d r = (
  omega arith,
  r.1,
  dvd-add l.alignment (dvd_trans l.alignment r.1 d) r.2,
  runs_lower a (offset + (l.first + l.length)) (offset + l.first + l.length) (map (leaf_inside part offset) ls) (offset + high) (omega arith) (runs_inside a part offset (l.first + l.length) ls high d r.3),
)

-- one element after another
pub runs_repeated : (a stride : ℕ) (ls : List Leaf) (high : ℕ) → a ∣ stride → Runs a 0 ls high → high ≤ stride → (n part : ℕ) → Runs a (part * stride) (repeated n part stride ls) ((part + n) * stride)
unfolding repeated
runs_repeated a stride ls high d r le zero part = omega arith
runs_repeated a stride ls high d r le (suc n) part =
    let here : Runs a (part * stride + 0) (map (leaf_inside part (part * stride)) ls) (part * stride + high) = runs_inside a part (part * stride) 0 ls high (dvd-mul_left_of_dvd a d part) r in
    let low : Runs a (part * stride) (map (leaf_inside part (part * stride)) ls) (part * stride + high) = runs_lower a (part * stride + 0) (part * stride) _ (part * stride + high) (omega arith) here in
    let placed : Runs a (part * stride) (map (leaf_inside part (part * stride)) ls) (suc part * stride) = runs_higher a (part * stride) _ (part * stride + high) (suc part * stride) (omega arith) low in
    let rest : Runs a (suc part * stride) (repeated n (suc part) stride ls) ((part + suc n) * stride) =
    runs_higher a (suc part * stride) _ ((suc part + n) * stride) ((part + suc n) * stride) (omega arith) (runs_repeated a stride ls high d r le n (suc part)) in
    runs_append a (part * stride) _ (suc part * stride) _ ((part + suc n) * stride) placed rest

-- ---- consequences

pub runs_aligned : (a low : ℕ) (ls : List Leaf) (high : ℕ) → Runs a low ls high → All (λ l. l.alignment ∣ l.first) ls
runs_aligned a low [] high r = All-nil _
runs_aligned a low (l ∷ ls) high r = All-cons (λ l. l.alignment ∣ l.first) l ls r.2 (runs_aligned a (l.first + l.length) ls high r.3)

pub runs_fitting : (a low : ℕ) (ls : List Leaf) (high : ℕ) → Runs a low ls high → All (λ l. l.alignment ∣ a) ls
runs_fitting a low [] high r = All-nil _
runs_fitting a low (l ∷ ls) high r = All-cons (λ l. l.alignment ∣ a) l ls r.1 (runs_fitting a (l.first + l.length) ls high r.3)

pub runs_from : (a low : ℕ) (ls : List Leaf) (high : ℕ) → Runs a low ls high → All (λ l. low ≤ l.first) ls
runs_from a low [] high r = All-nil _
runs_from a low (l ∷ ls) high r =
    All-cons (λ m. low ≤ m.first) l ls r.0 (All-weaker (λ m. l.first + l.length ≤ m.first) (λ m. low ≤ m.first) (λ m h. omega arith) ls (runs_from a (l.first + l.length) ls high r.3))

low_below_high : (a low : ℕ) (ls : List Leaf) (high : ℕ) → Runs a low ls high → low ≤ high
low_below_high a low [] high r = r
low_below_high a low (l ∷ ls) high r = let h : l.first + l.length ≤ high = low_below_high a (l.first + l.length) ls high r.3 in omega arith

pub runs_within : (a low : ℕ) (ls : List Leaf) (high : ℕ) → Runs a low ls high → All (λ l. l.first + l.length ≤ high) ls
runs_within a low [] high r = All-nil _
runs_within a low (l ∷ ls) high r = All-cons (λ m. m.first + m.length ≤ high) l ls (low_below_high a (l.first + l.length) ls high r.3) (runs_within a (l.first + l.length) ls high r.3)

pub runs_apart : (a low : ℕ) (ls : List Leaf) (high : ℕ) → Runs a low ls high → AllPairs LeavesApart ls
runs_apart a low [] high r = λ i j d lt h. absurd (omega arith)
runs_apart a low (l ∷ ls) high r =
    AllPairs-cons LeavesApart l ls (All-weaker (λ m. l.first + l.length ≤ m.first) (LeavesApart l) (λ m h. inl h) ls (runs_from a (l.first + l.length) ls high r.3)) (runs_apart a (l.first + l.length) ls high r.3)
