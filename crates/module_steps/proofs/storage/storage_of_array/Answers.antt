use Rattle.std.proofs.Common.{◌≡◌, true≢false, sym, ◌∙◌}
use Rattle.module_steps.proofs.LayoutLaws.{broken_here, bad_stride, storage_array}
use Rattle.typing_layout.specs.judged.Layout.{alignment}
use Rattle.typing_layout.specs.found.BufferFaults.{BreaksStorage}
use Rattle.typing_layout.specs.declared.type_error.Disalignment.TheVariants as fault
use Rattle.module_steps.proofs.storage.storage_of_array.Goals as goal

pub returns-then-is_aligned : goal.returns-then-is_aligned
returns-then-is_aligned c =
    storage_array c.args.context.now c.args.base.now c.args.stride c.args.handle c.in-Ok.alignment c.requires.own (rw c.in-Ok.is at c.requires.own.facts.info.storage) (c.is_aligned.ensures.0 c.if-is_aligned.true)

pub returns-else-is_aligned : goal.returns-else-is_aligned
returns-else-is_aligned c =
    broken_here BreaksStorage c.args.context.now c.args.handle (fault.ArrayStride c.args.stride c.in-Ok.alignment)
    (bad_stride (λ base n. n ≡ alignment base) c.args.context.now c.args.base.now c.args.stride c.args.handle c.in-Ok.alignment c.requires.own (rw c.in-Ok.is at c.requires.own.facts.info.storage).1 (λ d. true≢false (sym (c.is_aligned.ensures.1 d) ∙ c.if-is_aligned.false)))
