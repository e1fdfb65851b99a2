use Rattle.std.proofs.Common.{inl, inr}
use Rattle.spec_expressions.specs.judged.CallChains.{UsesDirectly, NamesGlobal, IsUnusedFrom, Discards}
use Rattle.spec_expressions.proofs.ChainLaws.{reaches-here, reaches-from_call, reaches-cases, use-from_call, pair-here, pair-from_call, pair-cases}
use Rattle.spec_expressions.proofs.call_laws.by_calls.Goals as goal

pub returns-clause-uses : goal.returns-clause-uses
returns-clause-uses c m f g k = (
  λ u. elim u [
    | inl r ↦ elim (reaches-cases m f (UsesDirectly g k) r) [ inl own ↦ inl own | inr s ↦ inr (inl (s.step, s.calls, inl s.reaches)) ]
    | inr q ↦ elim (reaches-cases m f (λ h. NamesGlobal g h × IsUnusedFrom m g h) q.1) [ inl own ↦ inr (inr (q.0, own.0, own.1)) | inr s ↦ inr (inl (s.step, s.calls, inr (q.0, s.reaches))) ]
  ],
  λ u. elim u [
    | inl own ↦ inl (reaches-here m f (UsesDirectly g k) own)
    | inr v ↦ elim v [ inl s ↦ use-from_call m f s.0 g k s.1 s.2 | inr q ↦ inr (q.0, reaches-here m f (λ h. NamesGlobal g h × IsUnusedFrom m g h) (q.1, q.2)) ]
  ],
)

pub returns-clause-pairs : goal.returns-clause-pairs
returns-clause-pairs c m f p = (
  λ h. elim (pair-cases m f p h) [ inl own ↦ inl own | inr s ↦ inr (s.step, s.pair, s.calls, s.below, s.gives) ],
  λ h. elim h [ inl own ↦ pair-here m f p own | inr s ↦ pair-from_call m f s.0 s.1 p s.2 s.3 s.4 ],
)

pub returns-clause-kills : goal.returns-clause-kills
returns-clause-kills c m f = (
  λ h. elim (reaches-cases m f Discards h) [ inl own ↦ inl own | inr s ↦ inr (s.step, s.calls, s.reaches) ],
  λ h. elim h [ inl own ↦ reaches-here m f Discards own | inr s ↦ reaches-from_call m f Discards s.0 s.1 s.2 ],
)
