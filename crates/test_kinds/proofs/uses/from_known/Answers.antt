use Rattle.std.proofs.Common.{◌≡◌, ◌↔◌, ◌∙◌, ℕ, IsSome, subst, sym}
use Rattle.std.proofs.lemmas.Nat.{and_comm}
use Rattle.std.specs.Int.RustNames.{bit_and}
use Rattle.ir_flags.proofs.SetLaws.{all_validation_flags}
use Rattle.test_kinds.proofs.uses.from_known.Goals as goal

pub returns-clause-known : goal.returns-clause-known
returns-clause-known c =
    let P : ℕ → Type 0 = λ n. IsSome c.from_bits.result ↔ (bit_and c.args.bits n ≡ c.args.bits) in
    let k = subst P all_validation_flags (c.from_bits.ensures.known tt) in
    let turned = and_comm 127 c.args.bits in
    (λ s. turned ∙ k.0 s, λ e. k.1 (sym turned ∙ e))
