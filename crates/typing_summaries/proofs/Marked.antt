-- Each argument that a pair contains is marked.
use Rattle.std.proofs.Common.{◌≡◌, ◌⊎◌, ℕ, zero, suc, Bool, true, false, List, [], ◌∷◌, fold, inl, inr, Option, Some, None, slice_get, refl, sym, ap, ◌∙◌, subst}
use Rattle.typing_rules.specs.judged.Laws.{IsAmong}
use Rattle.spec_expressions.specs.declared.sampling.GlobalOrArgument.{GlobalOrArgument}
use Rattle.spec_expressions.specs.declared.sampling.GlobalOrArgument.TheVariants.{Global, Argument}
use Rattle.spec_expressions.specs.judged.Pairs.{SamplingPair}
use Rattle.typing_infos.specs.Marks.{marked_at, marked_part, marked_pair, marks_of}

abbrev IsMarked : List Bool → ℕ → Type 0
IsMarked marks n = slice_get marks n ≡ Some true

at_marked : (marks : List Bool) (n : ℕ) → IsMarked (marked_at marks n) n
at_marked [] zero = refl
at_marked [] (suc n) = at_marked [] n
at_marked (m ∷ marks) zero = refl
at_marked (m ∷ marks) (suc n) = at_marked marks n

at_stays : (marks : List Bool) (n k : ℕ) → IsMarked marks k → IsMarked (marked_at marks n) k
at_stays [] n k e = absurd (cc (e))
at_stays (m ∷ marks) zero zero e = refl
at_stays (m ∷ marks) zero (suc k) e = e
at_stays (m ∷ marks) (suc n) zero e = e
at_stays (m ∷ marks) (suc n) (suc k) e = at_stays marks n k e

part_stays : (marks : List Bool) (part : GlobalOrArgument) (k : ℕ) → IsMarked marks k → IsMarked (marked_part marks part) k
part_stays marks (Global g) k e = e
part_stays marks (Argument n) k e = at_stays marks n k e

pair_stays : (marks : List Bool) (p : SamplingPair) (k : ℕ) → IsMarked marks k → IsMarked (marked_pair marks p) k
pair_stays marks p k e = part_stays (marked_part marks p.0) p.1 k (part_stays marks p.0 k e)

all_stay : (ps : List SamplingPair) (marks : List Bool) (k : ℕ) → IsMarked marks k → IsMarked (fold marked_pair marks ps) k
all_stay [] marks k e = e
all_stay (p ∷ ps) marks k e = all_stay ps (marked_pair marks p) k (pair_stays marks p k e)

part_marked : (marks : List Bool) (part : GlobalOrArgument) (n : ℕ) → part ≡ Argument n → IsMarked (marked_part marks part) n
part_marked marks part n is = subst (λ z. IsMarked (marked_part marks z) n) (sym is) (at_marked marks n)

-- one of the parts is this argument
abbrev pub HasArgument : SamplingPair → ℕ → Type 0
HasArgument p n = (p.0 ≡ Argument n) ⊎ (p.1 ≡ Argument n)

pair_marked : (marks : List Bool) (p : SamplingPair) (n : ℕ) → HasArgument p n → IsMarked (marked_pair marks p) n
pair_marked marks p n (inl image) = part_stays (marked_part marks p.0) p.1 n (part_marked marks p.0 n image)
pair_marked marks p n (inr sampler) = part_marked (marked_part marks p.0) p.1 n sampler

all_marked : (ps : List SamplingPair) (marks : List Bool) (p : SamplingPair) (n : ℕ) → IsAmong p ps → HasArgument p n → IsMarked (fold marked_pair marks ps) n
all_marked [] marks p n among has = elim among [ ]
all_marked (q ∷ ps) marks p n (inl is) has = all_stay ps (marked_pair marks q) n (pair_marked marks q n (subst (λ z. HasArgument z n) (sym is) has))
all_marked (q ∷ ps) marks p n (inr among) has = all_marked ps (marked_pair marks q) p n among has

pub is_marked : (ps : List SamplingPair) (p : SamplingPair) (n : ℕ) → IsAmong p ps → HasArgument p n → slice_get (marks_of ps) n ≡ Some true
is_marked ps p n among has = all_marked ps [] p n among has
