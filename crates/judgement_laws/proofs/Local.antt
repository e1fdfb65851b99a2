-- Call chains of one module are chains of each that differs elsewhere.
use Rattle.std.proofs.Common.{◌≡◌, inl, inr, ◌<◌, ℕ, List, [], ◌∷◌, ◌++◌, length, slice_get, refl, sym, ap, subst, ◌∙◌}
use Rattle.spec_expressions.specs.judged.Pairs.{SamplingPair}
use Rattle.spec_expressions.specs.declared.sampling.GlobalOrArgument.TheVariants.{Global}
use Rattle.ir_items.specs.judged.Plain.{PlainEntry, PlainFunction, PlainModule}
use Rattle.spec_expressions.specs.judged.CallChains.{Step, Calls, IsChain, chain_end, Reaches, IsUnusedFrom, UsesDirectly, HasUse, HasPair}
use Rattle.spec_expressions.specs.judged.Effects.{effects_of}
use Rattle.judgement.proofs.OneReport.{one_entry_report}
use Rattle.judgement.specs.judged.Reports.{IsEntryReport}
use Rattle.judgement_laws.proofs.Lines.{entries_are_reported}
use Rattle.judgement_laws.specs.judged.Lines.{HasLines}
use Rattle.judgement_laws.specs.judged.Local.{AgreeFrom, DifferElsewhere, ReportsAreLocal}

-- composition of chains
end_after : (f : PlainFunction) (before after : List Step) → chain_end f (after ++ before) ≡ chain_end (chain_end f before) after
end_after f before [] = refl
end_after f before (s ∷ after) = refl

chain_behind : (m : PlainModule) (f : PlainFunction) (before after : List Step) → IsChain m f before → IsChain m (chain_end f before) after → IsChain m f (after ++ before)
chain_behind m f before [] first rest = first
chain_behind m f before (s ∷ after) first rest = (subst (λ h. Calls m h s) (sym (end_after f before after)) rest.0, chain_behind m f before after first rest.1)

-- if modules agree on all functions reachable from f, they agree on those reachable from each of these
agree_there : (m n : PlainModule) (f : PlainFunction) (chain : List Step) → IsChain m f chain → AgreeFrom m n f → AgreeFrom m n (chain_end f chain)
agree_there m n f chain is agree after rest at callee arguments call =
    agree (after ++ chain) (chain_behind m f chain after is rest) at callee arguments (ap (λ h. slice_get (effects_of h) at) (end_after f chain after) ∙ call)

call_kept : (m n : PlainModule) (f : PlainFunction) (chain : List Step) (s : Step) → IsChain m f chain → AgreeFrom m n f → Calls m (chain_end f chain) s → Calls n (chain_end f chain) s
call_kept m n f chain s is agree calls = record { callee = calls.callee; call = calls.call; found = sym (agree chain is s.at calls.callee s.arguments calls.call) ∙ calls.found }

chain_kept : (m n : PlainModule) (f : PlainFunction) (chain : List Step) → AgreeFrom m n f → IsChain m f chain → IsChain n f chain
chain_kept m n f [] agree is = tt
chain_kept m n f (s ∷ before) agree is = (call_kept m n f before s is.1 agree is.0, chain_kept m n f before agree is.1)

-- the converse, by the same agreement along chains of m
chain_back : (m n : PlainModule) (f : PlainFunction) (chain : List Step) → AgreeFrom m n f → IsChain n f chain → IsChain m f chain
chain_back m n f [] agree is = tt
chain_back m n f (s ∷ before) agree is =
    let first = chain_back m n f before agree is.1 in
    (record { callee = is.0.callee; call = is.0.call; found = agree before first s.at is.0.callee s.arguments is.0.call ∙ is.0.found }, first)

agree_back : (m n : PlainModule) (f : PlainFunction) → AgreeFrom m n f → AgreeFrom n m f
agree_back m n f agree chain is at callee arguments call = sym (agree chain (chain_back m n f chain agree is) at callee arguments call)

reaches_kept : (m n : PlainModule) (f : PlainFunction) (P : PlainFunction → Type 0) → AgreeFrom m n f → Reaches m f P → Reaches n f P
reaches_kept m n f P agree r = record { chain = r.chain; is_chain = chain_kept m n f r.chain agree r.is_chain; holds = r.holds }

use_kept : (m n : PlainModule) (f : PlainFunction) → AgreeFrom m n f → (g k : ℕ) → HasUse m f g k → HasUse n f g k
use_kept m n f agree g k (inl direct) = inl (reaches_kept m n f (UsesDirectly g k) agree direct)
use_kept m n f agree g k (inr query) =
    let r = query.1 in
    let there = agree_back m n (chain_end f r.chain) (agree_there m n f r.chain r.is_chain agree) in
    let unused : IsUnusedFrom n g (chain_end f r.chain) = λ j used. r.holds.1 j (reaches_kept n m (chain_end f r.chain) (UsesDirectly g j) there used) in
    inr (query.0, record { chain = r.chain; is_chain = chain_kept m n f r.chain agree r.is_chain; holds = (r.holds.0, unused) })

pair_kept : (m n : PlainModule) (f : PlainFunction) → AgreeFrom m n f → (p : SamplingPair) → HasPair m f p → HasPair n f p
pair_kept m n f agree p h = record { chain = h.chain; is_chain = chain_kept m n f h.chain agree h.is_chain; sampled = h.sampled }

-- ---- reports

module _ (m n : PlainModule) (e : PlainEntry) (differ : DifferElsewhere m n e) where
  back : AgreeFrom n m e.function
  back = agree_back m n e.function differ.reached

  same_globals : length m.globals ≡ length n.globals
  same_globals = ap (λ x. length x.globals) (sym differ.rest)

  lines_kept : (number : ℕ) (lines : List ℕ) → IsEntryReport m number e lines → IsEntryReport n number e lines
  lines_kept number lines r = record {
    uses = r.uses;
    pairs = r.pairs;
    are_uses = record {
      many = r.are_uses.many ∙ same_globals;
      exact = λ g k lt other. (
        (λ h. use_kept m n e.function differ.reached g k ((r.are_uses.exact g k (subst (λ c. g < c) (sym same_globals) lt) other).0 h)),
        (λ h. (r.are_uses.exact g k (subst (λ c. g < c) (sym same_globals) lt) other).1 (use_kept n m e.function back g k h)),
      );
    };
    are_pairs = record {
      ordered = r.are_pairs.ordered;
      exact = λ image sampler. (
        (λ h. pair_kept m n e.function differ.reached (Global image, Global sampler) ((r.are_pairs.exact image sampler).0 h)),
        (λ h. (r.are_pairs.exact image sampler).1 (pair_kept n m e.function back (Global image, Global sampler) h)),
      );
    };
    told = r.told;
  }

pub reports_are_local : ReportsAreLocal
reports_are_local m report is number e at n other differ told =
    let here = entries_are_reported m report is number e at in
    let there = entries_are_reported n other told number e (ap (λ x. slice_get x.entries number) differ.rest ∙ at) in
    let same = one_entry_report n number e there.lines here.lines there.are (lines_kept m n e differ number here.lines here.are) in
    (here.lines, record { are = here.are; stand = here.stand }, record { are = lines_kept m n e differ number here.lines here.are; stand = subst (λ lines. HasLines lines other) same there.stand })
