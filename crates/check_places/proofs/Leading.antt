-- The longest prefix that leads to a part does lead to one.
use Rattle.std.proofs.Common.{◌≡◌, ℕ, List, [], ◌∷◌, Option, Some, None, IsSome, option_and_then, option_map, subst, sym, take, refl}
use Rattle.serde_json.specs.Data.{Data}
use Rattle.serde_json.specs.Find.{at}
use Rattle.check_faults.specs.Parts.{along}
use Rattle.check_places.specs.Leading.{Leads, lead_length, one_more}

step_leads : (i : ℕ) (is : List ℕ) (d : Data) (found : Option Data) → at i d ≡ found → ((part : Data) → Leads (take (lead_length is part) is) part) → Leads (take (one_more (option_map (lead_length is) found)) (i ∷ is)) d
step_leads i is d None e rest = refl
step_leads i is d (Some part) e rest = subst (λ o. IsSome (option_and_then (along (take (lead_length is part) is)) o)) (sym e) (rest part)

pub leads : (path : List ℕ) (d : Data) → Leads (take (lead_length path d) path) d
leads [] d = refl
leads (i ∷ is) d = step_leads i is d (at i d) refl (leads is)
