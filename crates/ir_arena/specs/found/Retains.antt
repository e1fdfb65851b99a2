-- The entries that remain after `retain_mut`.
use Rattle.std.specs.Prelude.{ℕ, ◌≡◌, ◌+◌, Bool, cond, List, [], ◌∷◌}
use Rattle.std.specs.Borrow.{MutBor}
use Rattle.std.specs.Fn.{Mut, Called}
use Rattle.ir_arena.specs.declared.span.Span.{Span}

-- a call of keep with a handle and a `&mut` to the value x may return b, and leave keep' and x'
pub record KeepsAt {F T : Type 0} (g : Mut F (ℕ × (MutBor T × Unit {0})) (Bool × (MutBor T × Unit {0}))) (keep : F) (handle : ℕ) (x : T) (b : Bool) (keep' : F) (x' : T) : Type 0 where
  pub shown : MutBor T
  pub shows : shown.now ≡ x
  pub left : MutBor T
  pub called : Called g keep (handle, (shown, tt)) (b, (left, tt)) keep'
  pub leaves : left.now ≡ x'

-- keep was called on the entries in turn, the first of which has this handle, and `kept` has those for
-- which it returned true, with their values as it left them and their own spans
abbrev pub RetainsFrom : {F T : Type 0} → (F → ℕ → T → Bool → F → T → Type 0) → F → ℕ → List (T × Span) → List (T × Span) → Type 0
RetainsFrom keeps keep handle [] kept = kept ≡ []
RetainsFrom {F} {T} keeps keep handle (entry ∷ rest) kept =
    (b : Bool) × (keep' : F) × (x : T) × keeps keep handle entry.0 b keep' x × (others : List (T × Span)) × RetainsFrom keeps keep' (handle + 1) rest others × (kept ≡ cond b ((x, entry.1) ∷ others) others)
