-- What is marked, one type after another.
use Rattle.std.proofs.Common.{◌≡◌, ◌↔◌, ◌+◌, zero, suc, ℕ, Bool, IsTrue, List, [], ◌∷◌, ◌++◌, Option, None, Some, length, slice_get, ap, sym, subst, ◌∙◌}
use Rattle.std.proofs.lemmas.List.{length-append}
use Rattle.std.proofs.lemmas.Option.{same_Some}
use Rattle.ir_types.specs.judged.Plain.{PlainType}
use Rattle.function_statement_checks.specs.Descriptors.{AreDescriptors, IsDescriptorAt}

pub longer : (marks : List Bool) (b : Bool) (n : ℕ) → length marks ≡ n → length (marks ++ b ∷ []) ≡ n + 1
longer marks b n many = length-append marks (b ∷ []) ∙ ap (λ k. k + 1) many

none_some : {X : Type 0} {x : X} → None ≡ Some x → ⊥
none_some e = cc

pub none_marked : (types : List PlainType) (declared : Option ℕ) → AreDescriptors types declared []
none_marked types declared type marked at = absurd (none_some at)

-- what is at a place of a longer list is the last, or was there
at_last : (P : ℕ → Bool → Type 0) (marks : List Bool) (b : Bool) → ((k : ℕ) (m : Bool) → slice_get marks k ≡ Some m → P k m) → P (length marks) b
    → (k : ℕ) (m : Bool) → slice_get (marks ++ b ∷ []) k ≡ Some m → P k m
at_last P [] b before last zero m at = subst (P zero) (same_Some _ _ at) last
at_last P [] b before last (suc k) m at = absurd (none_some at)
at_last P (x ∷ marks) b before last zero m at = before zero m at
at_last P (x ∷ marks) b before last (suc k) m at = at_last (λ n. P (suc n)) marks b (λ n. before (suc n)) last k m at

pub one_marked : (types : List PlainType) (declared : Option ℕ) (marks : List Bool) (n : ℕ) (b : Bool) → length marks ≡ n → AreDescriptors types declared marks
    → IsTrue b ↔ IsDescriptorAt types declared n → AreDescriptors types declared (marks ++ b ∷ [])
one_marked types declared marks n b many before is =
    at_last (λ k m. IsTrue m ↔ IsDescriptorAt types declared k) marks b before (subst (λ k. IsTrue b ↔ IsDescriptorAt types declared k) (sym many) is)
