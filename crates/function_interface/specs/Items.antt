-- The first item of a list that breaks a rule.
use Rattle.std.specs.Prelude.{◌≡◌, ◌<◌, ℕ, List, Some, slice_get}

-- each item meets it
abbrev pub EachOK : {A : Type 0} → (Rule : A → Type 0) → List A → Type 0
EachOK {A = A} Rule items = (i : ℕ) (x : A) → slice_get items i ≡ Some x → Rule x

-- each item before a place does
pub record EachBelow {A : Type 0} (Rule : A → Type 0) (items : List A) (end : ℕ) : Type 0 where
  pub each : (i : ℕ) (x : A) → i < end → slice_get items i ≡ Some x → Rule x

-- the one at an index has an error, and those before it meet the rule
pub record IsFirstAt {A : Type 0} (Rule Wrong : A → Type 0) (items : List A) (index : ℕ) : Type 0 where
  pub item : A
  pub at : slice_get items index ≡ Some item
  pub before : EachBelow Rule items index
  pub wrong : Wrong item
