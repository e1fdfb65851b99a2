-- Types without elements or members.
use Rattle.std.specs.Prelude.{List, [], ◌∷◌}
use Rattle.ir_types.specs.judged.Plain.{PlainInner, struct, plain}
use Rattle.ir_types.specs.declared.types.TypeInner.TheVariants as inner
use Rattle.typing_layout.specs.judged.Flags.{TypeFlag, Data, Sized, HostShareable, CreationResolved, Constructible, scalar_flags, shareable_flags, pointer_flags, array_flags, resource_flags}

abbrev pub atomic_flags : List TypeFlag
atomic_flags = Data ∷ Sized ∷ HostShareable ∷ CreationResolved ∷ []

abbrev pub query_flags : List TypeFlag
query_flags = Data ∷ Sized ∷ Constructible ∷ CreationResolved ∷ []

abbrev pub binding_array_flags : List TypeFlag
binding_array_flags = CreationResolved ∷ []

-- the flags of a type that references no other, and the mask for an array's element type; a struct is never
-- `plain`
abbrev pub whole_flags : PlainInner → List TypeFlag
whole_flags (struct members span) = []
whole_flags (plain (inner.Scalar s)) = scalar_flags s.kind
whole_flags (plain (inner.Vector n s)) = scalar_flags s.kind
whole_flags (plain (inner.Matrix columns rows s)) = shareable_flags
whole_flags (plain (inner.CooperativeMatrix columns rows s role)) = shareable_flags
whole_flags (plain (inner.Atomic s)) = atomic_flags
whole_flags (plain (inner.Pointer base space)) = pointer_flags space
whole_flags (plain (inner.ValuePointer n s space)) = pointer_flags space
whole_flags (plain (inner.Array base n stride)) = array_flags n
whole_flags (plain (inner.Struct members span)) = resource_flags
whole_flags (plain (inner.Image dim arrayed class)) = resource_flags
whole_flags (plain (inner.Sampler comparison)) = resource_flags
whole_flags (plain (inner.AccelerationStructure vertex_return)) = resource_flags
whole_flags (plain (inner.RayQuery vertex_return)) = query_flags
whole_flags (plain (inner.BindingArray base n)) = binding_array_flags
