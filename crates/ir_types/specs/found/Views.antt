-- No view of an inner type is a `Struct` as it is.
use Rattle.ir_types.specs.declared.types.TypeInner.{TypeInner}
use Rattle.ir_types.specs.declared.types.TypeInner.TheVariants as inner
use Rattle.ir_types.specs.judged.Plain.{PlainInner, struct, plain, inner_view}

abbrev pub HoldsNoStruct : PlainInner → Type 0
HoldsNoStruct (struct members span) = Unit {0}
HoldsNoStruct (plain (inner.Struct members span)) = ⊥
HoldsNoStruct (plain other) = Unit {0}

pub holds_no_struct : (i : TypeInner) → HoldsNoStruct (inner_view i)
holds_no_struct (inner.Scalar scalar) = tt
holds_no_struct (inner.Vector size scalar) = tt
holds_no_struct (inner.Matrix columns rows scalar) = tt
holds_no_struct (inner.CooperativeMatrix columns rows scalar role) = tt
holds_no_struct (inner.Atomic scalar) = tt
holds_no_struct (inner.Pointer base space) = tt
holds_no_struct (inner.ValuePointer size scalar space) = tt
holds_no_struct (inner.Array base size stride) = tt
holds_no_struct (inner.Struct members span) = tt
holds_no_struct (inner.Image dim arrayed class) = tt
holds_no_struct (inner.Sampler comparison) = tt
holds_no_struct (inner.AccelerationStructure vertex_return) = tt
holds_no_struct (inner.RayQuery vertex_return) = tt
holds_no_struct (inner.BindingArray base size) = tt
