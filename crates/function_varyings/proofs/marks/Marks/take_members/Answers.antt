use Rattle.std.proofs.Common.{◌≡◌, ℕ, true, false, subst}
use Rattle.ir_sets.specs.Bits.{has_bit}
use Rattle.spec_interface.specs.judged.Varyings.{mesh_varyings}
use Rattle.typing_forms.specs.judged.Resolutions.{types_view}
use Rattle.function_varyings.proofs.MarkLaws.{newly_by_part}
use Rattle.function_varyings.specs.Marks.{IsAmong}
use Rattle.function_varyings.proofs.marks.Marks.take_members.Goals as goal

pub returns-clause-free : goal.returns-clause-free
returns-clause-free c = λ free.
    let m = c.part_of.new.self in
    let part = c.in_ok-part.part in
    let old = c.args.taken.now.items in
    let new = c.take_part.new.taken.items in
    newly_by_part c.args.flags m.numbers m.words.items (mesh_varyings (types_view c.args.types.now) c.args.ty) part old new c.in_ok-part.ensures.part
    (subst (λ words. (n : ℕ) → IsAmong words part.from part.end n → (has_bit new n ≡ true) × (has_bit old n ≡ false)) c.deref.ensures.value (c.in_ok-free.ensures.free free))
