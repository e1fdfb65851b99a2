use Rattle.typing_layout.proofs.Alignments.{struct_members_below, array_aligned}
use Rattle.typing_layout.proofs.layout_of.alignment_of.Goals as goal

pub greatest_alignment-requires : goal.greatest_alignment-requires
greatest_alignment-requires c = struct_members_below _ c.args.inner.now c.in-Struct.members c.in-Struct.span c.as_slice.result.now c.in-Struct.is c.as_slice.ensures.value c.requires

pub returns-in-Array : goal.returns-in-Array
returns-in-Array c = λ tree a. array_aligned tree c.args.layouts.now c.args.inner.now c.in-Array.base c.in-Array.size c.in-Array.stride c.index.result c.index-layouts-index.result c.in-Array.is c.index.ensures.value c.requires a
