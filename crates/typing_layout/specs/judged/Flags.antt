-- Type flags.
use Rattle.std.specs.Prelude.{◌≡◌, ◌≤◌, ◌==◌, ◌||◌, ℕ, List, [], ◌∷◌, Option, Some, None, Bool, false, IsTrue, IsSome, IfSome, slice_get}
use Rattle.ir_kinds.specs.declared.bindings.Binding.{Binding}
use Rattle.ir_kinds.specs.declared.bindings.Binding.TheVariants as bound
use Rattle.ir_kinds.specs.declared.scalars.ScalarKind.{ScalarKind}
use Rattle.ir_kinds.specs.declared.scalars.ScalarKind.TheVariants as kind
use Rattle.ir_kinds.specs.declared.spaces.AddressSpace.{AddressSpace}
use Rattle.ir_kinds.specs.declared.spaces.AddressSpace.TheVariants as space
use Rattle.typing_forms.specs.IrTypes.{ArraySize}
use Rattle.typing_forms.specs.IrTypes.count as count
use Rattle.typing_layout.specs.declared.type_flags.TheConstants.TypeFlags.{DATA, SIZED, COPY, IO_SHAREABLE, HOST_SHAREABLE, CREATION_RESOLVED, ARGUMENT, CONSTRUCTIBLE}
use Rattle.typing_layout.specs.judged.Tree.{Tree, scalar, vector, matrix, cooperative_matrix, atomic, pointer, value_pointer, array, struct, image, sampler, acceleration_structure, ray_query, binding_array, Members, no_members, member}
use Rattle.typing_layout.specs.judged.Parts.{TreeMember, member_list, end_of, item_before}

pub data TypeFlag : Type 0 where
  -- values can be stored in memory
  Data : TypeFlag
  -- the size is known at pipeline creation
  Sized : TypeFlag
  -- values can be copied
  Copy : TypeFlag
  -- values can be passed between stages
  IoShareable : TypeFlag
  -- the type is host-shareable
  HostShareable : TypeFlag
  -- the size is known at pipeline creation, without overrides
  CreationResolved : TypeFlag
  -- functions take arguments of the type
  Argument : TypeFlag
  -- values can be constructed
  Constructible : TypeFlag

-- the bit of each flag
abbrev pub bit : TypeFlag → ℕ
bit Data = DATA.0
bit Sized = SIZED.0
bit Copy = COPY.0
bit IoShareable = IO_SHAREABLE.0
bit HostShareable = HOST_SHAREABLE.0
bit CreationResolved = CREATION_RESOLVED.0
bit Argument = ARGUMENT.0
bit Constructible = CONSTRUCTIBLE.0

abbrev pub among : List TypeFlag → TypeFlag → Bool
among [] f = false
among (x ∷ xs) f = (bit x == bit f) || among xs f

-- ---- kinds of types with fixed flags

abbrev pub value_flags : List TypeFlag
value_flags = Data ∷ Sized ∷ Copy ∷ CreationResolved ∷ Argument ∷ Constructible ∷ []

abbrev pub shareable_flags : List TypeFlag
shareable_flags = HostShareable ∷ value_flags

abbrev pub scalar_flags : ScalarKind → List TypeFlag
scalar_flags kind.Sint = IoShareable ∷ shareable_flags
scalar_flags kind.Uint = IoShareable ∷ shareable_flags
scalar_flags kind.Float = IoShareable ∷ shareable_flags
scalar_flags kind.Bool = value_flags
scalar_flags kind.AbstractInt = IoShareable ∷ shareable_flags
scalar_flags kind.AbstractFloat = IoShareable ∷ shareable_flags

abbrev pub shared_pointer_flags : List TypeFlag
shared_pointer_flags = Sized ∷ Copy ∷ CreationResolved ∷ []

-- functions take pointers into the function and private spaces
abbrev pub pointer_flags : AddressSpace → List TypeFlag
pointer_flags space.Function = Argument ∷ shared_pointer_flags
pointer_flags space.Private = Argument ∷ shared_pointer_flags
pointer_flags space.WorkGroup = shared_pointer_flags
pointer_flags space.Uniform = shared_pointer_flags
pointer_flags (space.Storage access) = shared_pointer_flags
pointer_flags space.Handle = shared_pointer_flags
pointer_flags space.Immediate = shared_pointer_flags
pointer_flags space.TaskPayload = shared_pointer_flags
pointer_flags space.RayPayload = shared_pointer_flags
pointer_flags space.IncomingRayPayload = shared_pointer_flags

abbrev pub resource_flags : List TypeFlag
resource_flags = CreationResolved ∷ Argument ∷ []

-- the flags that an array inherits from its elements
abbrev pub array_flags : ArraySize → List TypeFlag
array_flags (count.Constant n) = shareable_flags
array_flags (count.Pending override) = Data ∷ Sized ∷ Copy ∷ HostShareable ∷ Argument ∷ []
array_flags count.Dynamic = Data ∷ Copy ∷ HostShareable ∷ CreationResolved ∷ []

-- ---- structs

-- the blend source of a member
abbrev pub blend_source : Option Binding → Option ℕ
blend_source None = None
blend_source (Some (bound.BuiltIn built_in)) = None
blend_source (Some (bound.Location location interpolation sampling source per_primitive)) = source

abbrev pub HasBlendSource : List TreeMember → Type 0
HasBlendSource ps = (k : ℕ) × (p : TreeMember) × (slice_get ps k ≡ Some p) × IsSome (blend_source p.binding)

-- each member begins at or after the end of the one before
abbrev pub IsInOrder : List TreeMember → Type 0
IsInOrder ps = (k : ℕ) (p : TreeMember) → slice_get ps k ≡ Some p → IfSome (item_before ps k) (λ a. end_of a ≤ p.offset)

-- a struct has a flag if `all`: each member has it; except that it can be passed between stages exactly if it has
-- blend sources, and that it is host-shareable only with its members in order
abbrev pub StructHas : TypeFlag → (all : Type 0) → List TreeMember → Type 0
StructHas Data all ps = all
StructHas Sized all ps = all
StructHas Copy all ps = all
StructHas IoShareable all ps = HasBlendSource ps
StructHas HostShareable all ps = all × IsInOrder ps
StructHas CreationResolved all ps = all
StructHas Argument all ps = all
StructHas Constructible all ps = all

abbrev mutual
  pub HasFlag : TypeFlag → Tree → Type 0
  HasFlag f (scalar s) = IsTrue (among (scalar_flags s.kind) f)
  HasFlag f (vector n s) = IsTrue (among (scalar_flags s.kind) f)
  HasFlag f (matrix columns rows s) = IsTrue (among shareable_flags f)
  HasFlag f (cooperative_matrix columns rows s role) = IsTrue (among shareable_flags f)
  HasFlag f (atomic s) = IsTrue (among (Data ∷ Sized ∷ HostShareable ∷ CreationResolved ∷ []) f)
  HasFlag f (pointer base space) = IsTrue (among (pointer_flags space) f)
  HasFlag f (value_pointer n s space) = IsTrue (among (pointer_flags space) f)
  HasFlag f (array base n stride) = HasFlag f base × IsTrue (among (array_flags n) f)
  HasFlag f (struct ms span) = StructHas f (AllHave f ms) (member_list ms)
  HasFlag f (image dim arrayed class) = IsTrue (among resource_flags f)
  HasFlag f (sampler comparison) = IsTrue (among resource_flags f)
  HasFlag f (acceleration_structure vertex_return) = IsTrue (among resource_flags f)
  HasFlag f (ray_query vertex_return) = IsTrue (among (Data ∷ Sized ∷ Constructible ∷ CreationResolved ∷ []) f)
  HasFlag f (binding_array base n) = IsTrue (among (CreationResolved ∷ []) f)

  pub AllHave : TypeFlag → Members → Type 0
  AllHave f no_members = Unit {0}
  AllHave f (member t binding offset ms) = HasFlag f t × AllHave f ms
