use Rattle.std.proofs.Common.{◌∙◌, ap, subst, sym}
use Rattle.typing_infos.specs.Keys.{AreKeys}
use Rattle.typing_infos.specs.Marks.{EachOnce, marks_of}
use Rattle.typing_infos.proofs.sampled.SampledPairs.of_pairs.Goals as goal

pub invariant_of-table : goal.invariant_of-table
invariant_of-table c =
    let are = c.in_ok-pairs.ensures in
    record {
      once = subst EachOnce (sym are) c.requires;
      keyed = subst (λ ps. AreKeys ps c.in_ok-keys.keys.items) (c.deref.ensures.value ∙ sym are) c.in_ok-keys.ensures;
      marked = c.in_ok-marks.ensures ∙ (ap marks_of c.deref-2.ensures.value ∙ ap marks_of (sym are));
    }
