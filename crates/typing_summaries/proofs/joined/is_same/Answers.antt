use Rattle.std.proofs.Common.{◌≡◌, Bool, true, false, not, true≢false, inl, inr, refl, sym, ◌∙◌}
use Rattle.typing_summaries.proofs.PassedLemmas.{parts_same, pairs_same}
use Rattle.typing_summaries.proofs.joined.is_same.Goals as goal

not_so : (b : Bool) → not b ≡ false → b ≡ true
not_so true e = refl
not_so false e = absurd (true≢false e)

pub returns-then-passed-callee : goal.returns-then-passed-callee
returns-then-passed-callee c = λ t. (
  sym c.as_slice.ensures.value ∙ parts_same c.as_slice.result.now c.args.parts.now (not_so _ (sym c.ne.ensures ∙ c.if-ne.false)),
  inl c.if-passed-callee.true,
)

pub returns : goal.returns
returns c = λ t. (
  sym c.as_slice.ensures.value ∙ parts_same c.as_slice.result.now c.args.parts.now (not_so _ (sym c.ne.ensures ∙ c.if-ne.false)),
  inr (sym c.as_slice-2.ensures ∙ pairs_same c.as_slice-2.result.now c.args.pairs.now (sym c.eq.ensures ∙ t)),
)
