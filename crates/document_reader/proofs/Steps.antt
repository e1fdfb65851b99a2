-- The steps of decoding, as the code takes them.
use Rattle.std.proofs.Common.{◌≡◌, ◌≢◌, ℕ, zero, suc, ◌-◌, None, refl, ap, arith}
use Rattle.serde_json.specs.Data.{Data}
use Rattle.document_forms.specs.found.Decide.{tagged_of}
use Rattle.document_reader.specs.found.Kinds.{statement_kinds}
use Rattle.document_reader.specs.found.Statements.{statement_at, statement_with, block_at}

pub statement_at-zero : (n : ℕ) (d : Data) → n ≡ 0 → statement_at n d ≡ None
unfolding statement_at
statement_at-zero zero d h = refl
statement_at-zero (suc n) d h = absurd (omega arith)

pub statement_at-more : (n : ℕ) (d : Data) → n ≢ 0 → statement_at n d ≡ tagged_of statement_kinds (statement_with (block_at (n - 1))) d
unfolding statement_at
statement_at-more zero d h = absurd (h refl)
statement_at-more (suc n) d h = ap (λ m. tagged_of statement_kinds (statement_with (block_at m)) d) (omega arith)

pub ruleset statement_steps = (statement_at-zero, statement_at-more)
