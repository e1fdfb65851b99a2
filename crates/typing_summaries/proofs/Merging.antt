-- After the end of either list nothing is merged.
use Rattle.std.proofs.Common.{◌≡◌, ℕ, ◌+◌, ◌≤◌, ◌<◌, min, List, [], ◌∷◌, length, drop, refl, ap, ◌∙◌, ⊎_elim, arith}
use Rattle.std.proofs.Math.ListN.{drop_of_length-le}
use Rattle.std.proofs.lemmas.Bool.{cases_lt}
use Rattle.std.proofs.lemmas.List.{set_past}
use Rattle.spec_expressions.specs.declared.global_use.GlobalUse.{GlobalUse}
use Rattle.spec_expressions.specs.judged.Summaries.{no_use}
use Rattle.std.specs.Prelude.{slice_index_or}
use Rattle.typing_infos.specs.Infos.{joined_use}
use Rattle.typing_summaries.specs.Tallies.{merged_from}

past : (n : ℕ) (uses others : List GlobalUse) → length uses ≤ n → merged_from n uses others ≡ uses
past n uses [] le = refl
past n uses (o ∷ os) le = ap (λ u. merged_from (n + 1) u os) (set_past uses n (joined_use (slice_index_or uses n no_use) o.0) le) ∙ past (n + 1) uses os (omega (arith, le))

ended : (n : ℕ) (uses others : List GlobalUse) → length others ≤ n → merged_from n uses (drop n others) ≡ uses
ended n uses others le = ap (merged_from n uses) (drop_of_length-le others le)

pub rest : (n : ℕ) (uses others : List GlobalUse) → min (length uses) (length others) ≤ n → merged_from n uses (drop n others) ≡ uses
rest n uses others le = ⊎_elim (λ (short : n < length uses). ended n uses others (omega (arith, le, short))) (λ (past_all : length uses ≤ n). past n uses (drop n others) past_all) (cases_lt n (length uses))
