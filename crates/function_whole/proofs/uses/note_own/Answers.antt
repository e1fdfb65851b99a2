use Rattle.std.proofs.Common.{◌≡◌, ◌⊎◌, ℕ, Option, Some, subst}
use Rattle.std.specs.Int.{bit_at}
use Rattle.std.specs.Prelude.{◌↔◌}
use Rattle.spec_expressions.specs.declared.global_use.GlobalUse.{GlobalUse}
use Rattle.spec_expressions.specs.declared.global_use.TheConstants.GlobalUse.{READ}
use Rattle.function_whole.proofs.Noted.{put_both}
use Rattle.spec_expressions.specs.judged.Summaries.{HasUseBit}
use Rattle.function_whole.proofs.uses.note_own.Goals as goal

pub returns-clause-uses : goal.returns-clause-uses
returns-clause-uses g c = λ v k.
    let summary = g.L.Lower.summary c.args.lower.now in
    let before = HasUseBit (summary c.args.info.now).uses v k in
    let middle = HasUseBit (summary c.note_use.new.info).uses v k in
    let after = HasUseBit (summary c.note_use-2.new.info).uses v k in
    put_both
    (subst (λ (u : GlobalUse). middle ↔ (before ⊎ ((c.args.entry.now.task_payload ≡ Some v) × (bit_at u.0 k ≡ 1)))) c.own_payload_use-kinds.ensures (c.note_use.ensures.uses v k))
    (subst (λ (o : Option ℕ). after ↔ (middle ⊎ ((o ≡ Some v) × (bit_at READ.0 k ≡ 1)))) c.mesh_output.ensures (c.note_use-2.ensures.uses v k))

pub returns-clause-own : goal.returns-clause-own
returns-clause-own g c = λ m f h. c.note_use-2.ensures.own m f (c.note_use.ensures.own m f h)
