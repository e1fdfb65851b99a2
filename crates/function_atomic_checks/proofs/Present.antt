-- What holds of something that is there.
use Rattle.std.proofs.Common.{◌≡◌, Option, Some, None, IsSomeAnd}

module _ {A : Type 0} where
  pub missing : (o : Option A) (P : A → Type 0) → o ≡ None → IsSomeAnd o P → ⊥
  missing None P is there = there
  missing (Some x) P is there = absurd (let e = is in cc)

  pub both : (o : Option A) (P Q : A → Type 0) → ((x : A) → P x → Q x → ⊥) → IsSomeAnd o P → IsSomeAnd o Q → ⊥
  both None P Q apart p q = p
  both (Some x) P Q apart p q = apart x p q
