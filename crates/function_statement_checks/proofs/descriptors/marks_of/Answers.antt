use Rattle.std.proofs.Common.{◌≡◌, ◌↔◌, [], ◌∷◌, ◌++◌, IsTrue, Some, length, ap, sym, subst, ◌∙◌}
use Rattle.function_statement_checks.specs.Descriptors.{AreDescriptors, IsDescriptorAt}
use Rattle.function_statement_checks.proofs.DescriptorLemmas.{longer, none_marked, one_marked}
use Rattle.function_statement_checks.proofs.descriptors.marks_of.Goals as goal
use Rattle.typing_forms.specs.judged.Resolutions.{types_view}

pub loop-index-init : goal.loop-index-init
loop-index-init c =
    let empty = c.in_ok-marks.ensures.items in
    (ap length empty, subst (AreDescriptors (types_view c.args.types.now) (Some c.args.declared)) (sym empty) (none_marked (types_view c.args.types.now) (Some c.args.declared)))

pub loop-index-preserved : goal.loop-index-preserved
loop-index-preserved c =
    let pushed : c.push.new.self.items ≡ c.loop-index.marks.items ++ c.are_made_same_at.result ∷ [] = c.in_ok-push.ensures.items in (
      ap length pushed ∙ longer c.loop-index.marks.items c.are_made_same_at.result c.loop-index.index c.loop-index.invariant.0,
      subst (AreDescriptors (types_view c.args.types.now) (Some c.args.declared)) (sym pushed)
          (one_marked (types_view c.args.types.now) (Some c.args.declared) c.loop-index.marks.items c.loop-index.index c.are_made_same_at.result c.loop-index.invariant.0 c.loop-index.invariant.1
          (subst (λ k. IsTrue c.are_made_same_at.result ↔ IsDescriptorAt (types_view c.args.types.now) (Some c.args.declared) k) c.at.ensures c.are_made_same_at.ensures)),
    )
