-- Properties of each element of a list.
use Rattle.std.proofs.Common.{◌≡◌, ℕ, ◌≤◌, List, Some, Result, Ok, Err, OnErr, arith, subst}
use Rattle.std.specs.List.{HoldsAt, AllWithin}
use Rattle.ir_arena.specs.declared.span.Span.{Span}
use Rattle.ir_arena.specs.found.Arenas.{value_at}
use Rattle.ir_arena.proofs.Zipped.{value_got}

-- what always holds also holds on an error
pub OnErr-always : {X E P : Type 0} (r : Result X E) → P → OnErr r P
OnErr-always (Ok x) p = tt
OnErr-always (Err e) p = p

module _ {X : Type 0} (P : X → Type 0) where
  -- what holds below i holds below n, if n ≤ i
  pub AllWithin-up_to : (xs : List X) (i n : ℕ) → n ≤ i → AllWithin P xs 0 i → AllWithin P xs 0 n
  AllWithin-up_to xs i n le all = λ k d low below. all k d low (omega arith)

-- a property of the value at a handle is one of the entry there
pub HoldsAt-value : {T : Type 0} (P : T → Type 0) (entries : List (T × Span)) (i : ℕ) (x : T) → Some x ≡ value_at entries i → P x → HoldsAt (λ entry. P entry.0) entries i
HoldsAt-value P entries i x is p = λ d. subst P (value_got entries i x is d) p
