-- The varyings of an entry point, and the rules of all varyings of one direction.
use Rattle.std.specs.Prelude.{◌≡◌, ◌<◌, ◌||◌, ◌++◌, ℕ, zero, suc, Bool, false, List, [], ◌∷◌, map, Option, Some, None, is_some, slice_get, if◌then◌else◌}
use Rattle.ir_flags.specs.Sets.{Has}
use Rattle.ir_flags.specs.declared.settings.TheConstants.ValidationFlags.{BINDINGS}
use Rattle.ir_items.specs.judged.Plain.{PlainArgument}
use Rattle.ir_items.specs.declared.functions.FunctionResult.{FunctionResult}
use Rattle.ir_kinds.specs.declared.bindings.Binding.{Binding}
use Rattle.ir_kinds.specs.declared.bindings.Binding.TheVariants as binding
use Rattle.ir_kinds.specs.declared.bindings.BuiltIn.{BuiltIn}
use Rattle.ir_kinds.specs.declared.bindings.BuiltIn.TheVariants.{Position, Barycentric}
use Rattle.ir_kinds.specs.declared.stages.ShaderStage.TheVariants.{Fragment}
use Rattle.ir_types.specs.judged.Plain.{PlainInner, PlainMember, PlainType, struct}
use Rattle.typing_layout.specs.judged.Flags.{blend_source}
use Rattle.spec_interface.specs.judged.BuiltIns.{RowOK}
use Rattle.spec_interface.specs.judged.BuiltInRows.{built_in_row}
use Rattle.spec_interface.specs.judged.Contexts.{VaryingContext}
use Rattle.spec_interface.specs.judged.Locations.{LocationOK}
use Rattle.spec_interface.specs.declared.varyings.Bound.{Bound}
use Rattle.spec_interface.specs.declared.varyings.Bound.TheVariants.{BuiltIn as built_in, Location as location, BlendSources, Nothing, NoMember}
use Rattle.spec_interface.specs.declared.varyings.Direction.TheVariants.{Output}
use Rattle.spec_interface.specs.declared.varyings.Varying.{Varying}
use Rattle.typing_forms.specs.judged.Resolutions.{inner_at}

-- ---- the varyings

-- a value of a type, with its binding, if any
abbrev pub bound_value : (type : ℕ) → Binding → Bound
bound_value type (binding.BuiltIn b) = built_in type b
bound_value type (binding.Location place interpolation sampling source per_primitive) =
    location type (record { location = place; interpolation = interpolation; sampling = sampling; blend_src = source; per_primitive = per_primitive })

-- the member at an index
abbrev pub bound_member : (place type : ℕ) → Option Binding → Bound
bound_member place type o = elim o [ Some b ↦ bound_value type b | None ↦ NoMember place ]

-- members from an index on
abbrev pub bound_members : (place : ℕ) → List PlainMember → List Bound
bound_members place [] = []
bound_members place (m ∷ ms) = bound_member place m.ty m.binding ∷ bound_members (suc place) ms

-- some member is a blend source
abbrev pub has_source : List PlainMember → Bool
has_source [] = false
has_source (m ∷ ms) = is_some (blend_source m.binding) || has_source ms

-- the varyings of a value without a binding: the members of a struct, each by itself, unless they are the blend sources
abbrev pub unbound : Option PlainInner → List Bound
unbound (Some (struct members span)) = if has_source members then (BlendSources ∷ []) else (bound_members zero members)
unbound _ = Nothing ∷ []

-- the bindings of a value of a type with this optional binding
abbrev pub bounds : List PlainType → (type : ℕ) → Option Binding → List Bound
bounds types type o = elim o [ Some b ↦ bound_value type b ∷ [] | None ↦ unbound (inner_at types type) ]

abbrev pub varying : (index : ℕ) → Bound → Varying
varying index b = record { index = index; bound = b }

-- the varyings of one value: of an argument by its index, or of a result or a mesh output
abbrev pub varyings_of : List PlainType → (index type : ℕ) → Option Binding → List Varying
varyings_of types index type b = map (varying index) (bounds types type b)

-- the varyings of arguments from an index on
abbrev pub argument_varyings_from : List PlainType → (index : ℕ) → List PlainArgument → List Varying
argument_varyings_from types index [] = []
argument_varyings_from types index (a ∷ as_) = varyings_of types index a.ty a.binding ++ argument_varyings_from types (suc index) as_

abbrev pub argument_varyings : List PlainType → List PlainArgument → List Varying
argument_varyings types arguments = argument_varyings_from types zero arguments

-- the varyings of a result, if there is one
abbrev pub result_varyings : List PlainType → Option FunctionResult → List Varying
result_varyings types o = elim o [ Some r ↦ varyings_of types zero r.ty r.binding | None ↦ [] ]

-- the varyings of the vertex or primitive outputs of a mesh shader, which have this type
abbrev pub mesh_varyings : List PlainType → (type : ℕ) → List Varying
mesh_varyings types type = varyings_of types zero type None

-- ---- keys that must be distinct

-- the variant of the built-in value: its fields don't matter
abbrev pub canonical : BuiltIn → BuiltIn
canonical b = elim b [ Position invariant ↦ Position false | Barycentric perspective ↦ Barycentric false | other ↦ other ]

abbrev pub built_in_of : Bound → Option BuiltIn
built_in_of (built_in type b) = Some (canonical b)
built_in_of (location type l) = None
built_in_of BlendSources = None
built_in_of Nothing = None
built_in_of (NoMember place) = None

-- the location taken; the blend sources take the first one
abbrev pub location_of : Bound → Option ℕ
location_of (built_in type b) = None
location_of (location type l) = Some l.location
location_of BlendSources = Some 0
location_of Nothing = None
location_of (NoMember place) = None

-- the varying at an index has this key
abbrev pub ShowsAt : {A : Type 0} → (Bound → Option A) → List Varying → (place : ℕ) → A → Type 0
ShowsAt shown vs place x = (v : Varying) × (slice_get vs place ≡ Some v) × (shown v.bound ≡ Some x)

-- no two have the same key
abbrev pub VaryingsApart : {A : Type 0} → (Bound → Option A) → List Varying → Type 0
VaryingsApart {A} shown vs = (first second : ℕ) (x : A) → first < second → ShowsAt shown vs first x → ¬ ShowsAt shown vs second x

-- the built-in is among them
abbrev pub HasBuiltIn : List Varying → BuiltIn → Type 0
HasBuiltIn vs b = (place : ℕ) × ShowsAt built_in_of vs place (canonical b)

-- the two blend sources are among them
abbrev pub HasBlendSources : List Varying → Type 0
HasBlendSources vs = (place : ℕ) × (v : Varying) × (slice_get vs place ≡ Some v) × (v.bound ≡ BlendSources)

-- ---- rules

-- the rule of each varying by itself
abbrev pub BoundOK : VaryingContext → Bound → Type 0
BoundOK c (built_in type b) = RowOK c type (built_in_row b)
BoundOK c (location type l) = LocationOK c type l
BoundOK c BlendSources = (c.stage ≡ Fragment) × (c.direction ≡ Output)
BoundOK c Nothing = ¬ Has c.flags.0 BINDINGS.0
BoundOK c (NoMember place) = ¬ Has c.flags.0 BINDINGS.0

-- Each is valid, no built-in value occurs twice, and no location occurs twice if that is required.
pub record VaryingsOK (c : VaryingContext) (vs : List Varying) : Type 0 where
  pub each : (place : ℕ) (v : Varying) → slice_get vs place ≡ Some v → BoundOK c v.bound
  pub once : VaryingsApart built_in_of vs
  pub apart : Has c.flags.0 BINDINGS.0 → VaryingsApart location_of vs
