-- Wrong forms by call chains are those by summaries of the callees.
use Rattle.std.proofs.Common.{◌≡◌, ◌⊎◌, inl, inr, ℕ, List, Some, None, sym, ap, subst, ◌∙◌, slice_get}
use Rattle.std.proofs.lemmas.Option.{same_Some}
use Rattle.spec_expressions.specs.judged.Pairs.{SamplingPair}
use Rattle.spec_expressions.specs.IrItems.{PlainFunction, PlainModule}
use Rattle.spec_expressions.specs.TypingRules.{IsAmong}
use Rattle.spec_expressions.proofs.Members.{among-get, get-among}
use Rattle.spec_expressions.specs.judged.CallChains.{HasPair}
use Rattle.spec_expressions.specs.judged.Effects.{runs, effects_of}
use Rattle.spec_expressions.specs.judged.Summaries.{Summary, CallsOne, CalleesKnown, IsWrongArgument, IsFormFault}
use Rattle.spec_statements.specs.judged.Analysis.{PassesWrongForm, HasWrongForm}
use Rattle.spec_statements.specs.found.FunctionLaws.{FormsByCallees}

module _ (m : PlainModule) (f : PlainFunction) (summaries : List Summary) (known : CalleesKnown m f summaries) (e : ℕ) where
  passes : (arguments : List ℕ) (t : Summary) (q : SamplingPair) → CallsOne f summaries arguments t → IsAmong q t.pairs
      → IsWrongArgument f.expressions arguments q.0 e ⊎ IsWrongArgument f.expressions arguments q.1 e → PassesWrongForm m f e
  passes arguments t q calls among wrong =
      let k = known calls.callee arguments calls.call in
      let at = get-among (effects_of f) (runs calls.callee arguments) calls.call in
      let same : t ≡ k.summary = same_Some _ _ (sym calls.found ∙ k.kept) in
      record {
        step = record { at = at.0; arguments = arguments; function = k.function };
        pair = q;
        calls = record { callee = calls.callee; call = at.1; found = k.found };
        sampled = (k.is.pairs q).0 (subst (λ u. IsAmong q u.pairs) same among);
        wrong = wrong;
      }

  passed : (p : PassesWrongForm m f e) → (arguments : List ℕ) × (t : Summary) × (q : SamplingPair) × CallsOne f summaries arguments t × IsAmong q t.pairs × (IsWrongArgument f.expressions arguments q.0 e ⊎ IsWrongArgument f.expressions arguments q.1 e)
  passed p =
      let c = p.calls in
      let call : IsAmong (runs c.callee p.step.arguments) (effects_of f) = among-get (effects_of f) p.step.at (runs c.callee p.step.arguments) c.call in
      let k = known c.callee p.step.arguments call in
      let same : p.step.function ≡ k.function = same_Some _ _ (sym c.found ∙ k.found) in (
        p.step.arguments,
        k.summary,
        p.pair,
        record { callee = c.callee; call = call; found = k.kept },
        (k.is.pairs p.pair).1 (subst (λ g. HasPair m g p.pair) same p.sampled),
        p.wrong,
      )

  pub wrong_by_summaries : HasWrongForm m f e → IsFormFault f summaries e
  wrong_by_summaries (inl own) = inl (own.image, own.sampler, own.sampling, own.wrong)
  wrong_by_summaries (inr p) = inr (passed p)

  pub wrong_by_chains : IsFormFault f summaries e → HasWrongForm m f e
  wrong_by_chains (inl own) = inl (record { image = own.0; sampler = own.1; sampling = own.2; wrong = own.3 })
  wrong_by_chains (inr c) = inr (passes c.0 c.1 c.2 c.3 c.4 c.5)

pub forms_by_callees : FormsByCallees
forms_by_callees m f summaries known e = (wrong_by_summaries m f summaries known e, wrong_by_chains m f summaries known e)
