use Rattle.std.proofs.Common.{sym, subst, ◌%◌, eq-eqb}
use Rattle.std.proofs.lemmas.Nat.Gcd.{dvd_of_mod-eq-zero, mod-eq-zero_of_dvd}
use Rattle.std.specs.Int.{◌∣◌}
use Rattle.typing_layout.proofs.Rounds.{rest_is_none}
use Rattle.typing_layout.proofs.alignment.Alignment.is_aligned.Goals as goal

pub returns : goal.returns
returns c = (
  (λ e. subst (λ a. a ∣ c.args.n) c.get.ensures.value (dvd_of_mod-eq-zero c.get.result (rest_is_none (c.args.n % c.get.result) e))),
  (λ d. eq-eqb (c.args.n % c.get.result) 0 (mod-eq-zero_of_dvd c.get.result (subst (λ a. a ∣ c.args.n) (sym c.get.ensures.value) d))),
)
