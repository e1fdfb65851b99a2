-- Errors of varyings.
use Rattle.std.specs.Prelude.{◌≡◌, ◌≢◌, ◌⊎◌, ◌<◌, ℕ, List, [], ◌∷◌, IsTrue, IsSome, Option, Some, None, min, slice_get, false, true}
use Rattle.ir_flags.specs.Sets.{Has}
use Rattle.ir_flags.specs.declared.settings.Capabilities.{Capabilities}
use Rattle.ir_flags.specs.declared.settings.TheConstants.Capabilities.{MESH_SHADER, MULTISAMPLED_SHADING, PER_VERTEX}
use Rattle.ir_flags.specs.declared.settings.ValidationFlags.{ValidationFlags}
use Rattle.ir_flags.specs.declared.settings.TheConstants.ValidationFlags.{BINDINGS}
use Rattle.ir_kinds.specs.declared.bindings.BuiltIn.{BuiltIn}
use Rattle.ir_kinds.specs.declared.bindings.Interpolation.TheVariants.{Flat, PerVertex}
use Rattle.ir_kinds.specs.declared.bindings.Sampling.TheVariants.{Center, Sample}
use Rattle.ir_kinds.specs.declared.scalars.ScalarKind.{ScalarKind}
use Rattle.ir_kinds.specs.declared.scalars.ScalarKind.TheVariants.{Sint, Uint, Float}
use Rattle.ir_kinds.specs.declared.stages.ShaderStage.TheVariants.{Fragment}
use Rattle.ir_types.specs.judged.Plain.{inner_view}
use Rattle.typing_layout.specs.judged.Flags.{HasFlag, IoShareable}
use Rattle.typing_layout.specs.judged.View.{type_tree}
use Rattle.spec_interface.specs.judged.BuiltIns.{IsFree, IsOfType, RowOccursAt}
use Rattle.spec_interface.specs.found.BuiltIns.{IsLinearWorkgroup, HasNoTaskPayload}
use Rattle.spec_interface.specs.judged.Contexts.{VaryingContext}
use Rattle.spec_interface.specs.judged.Locations.{NeedsInterpolation, varying_type, sampling_fits, kind_of}
use Rattle.spec_interface.specs.found.Locations.{of_three}
use Rattle.spec_interface.specs.judged.BuiltInRows.{built_in_row}
use Rattle.spec_interface.specs.judged.Varyings.{ShowsAt, built_in_of, canonical, location_of}
use Rattle.spec_interface.specs.declared.rows.BuiltInRow.{BuiltInRow}
use Rattle.spec_interface.specs.declared.rows.Exception.TheVariants.{NotAfterTasks, RowsOnly}
use Rattle.spec_interface.specs.declared.varyings.Bound.{Bound}
use Rattle.spec_interface.specs.declared.varyings.Bound.TheVariants.{BuiltIn as built_in, Location as at_location, BlendSources, Nothing, NoMember}
use Rattle.spec_interface.specs.declared.varyings.Direction.TheVariants.{Input, Output, PrimitiveOutput}
use Rattle.spec_interface.specs.declared.varyings.Location.{Location}
use Rattle.spec_interface.specs.declared.varyings.Varying.{Varying}
use Rattle.typing_forms.specs.judged.Forms.{form_of_type}
use Rattle.typing_forms.specs.judged.Resolutions.{inner_at}
use Rattle.function_varying_checks.specs.declared.error.VaryingError.{VaryingError}
use Rattle.function_varying_checks.specs.declared.error.VaryingError.TheVariants as error
use Rattle.function_varying_checks.specs.declared.error.VaryingRefusal.{VaryingRefusal}
use Rattle.function_varying_checks.specs.declared.error.VaryingRefusal.TheVariants as refusal

-- ---- a built-in

-- the capability of its row is missing
abbrev pub Misses : VaryingContext → BuiltInRow → Capabilities → Type 0
Misses c r x = (r.capability ≡ Some x) × (¬ IsFree c.stage r.exception) × ¬ Has c.capabilities.0 x.0

-- it does not have this direction in this stage, or not with a task payload
abbrev pub IsAstray : VaryingContext → BuiltInRow → Type 0
IsAstray c r = (¬ RowOccursAt c.direction c.stage r) ⊎ ((r.exception ≡ NotAfterTasks) × ¬ HasNoTaskPayload c)

abbrev pub IsBuiltInFault : VaryingContext → (type : ℕ) → BuiltIn → VaryingError → Type 0
IsBuiltInFault c type b (error.UnsupportedCapability x) = Misses c (built_in_row b) x
IsBuiltInFault c type b error.InvalidMultiDimensionalSubgroupBuiltIn = ((built_in_row b).exception ≡ RowsOnly) × ¬ IsLinearWorkgroup c.sizes
IsBuiltInFault c type b (error.InvalidBuiltInStage d) = (d ≡ b) × IsAstray c (built_in_row b)
IsBuiltInFault c type b (error.InvalidBuiltInType d i) = (d ≡ b) × (inner_at c.types type ≡ Some (inner_view i)) × ¬ IsOfType c.types (built_in_row b).ty type
IsBuiltInFault c type b (error.InvalidType t) = (t ≡ type) × (inner_at c.types type ≡ None) × ¬ IsOfType c.types (built_in_row b).ty type
IsBuiltInFault c type b _ = ⊥

-- ---- a value at a location

-- an attribute of the binding requires this capability, which is missing
abbrev pub Needs : Location → Capabilities → Type 0
Needs l x = (IsTrue l.per_primitive × (x ≡ MESH_SHADER))
    ⊎ (((l.interpolation ≡ Some PerVertex) × (x ≡ PER_VERTEX)) ⊎ ((l.sampling ≡ Some Sample) × (x ≡ MULTISAMPLED_SHADING)))

-- it is interpolated, and has this scalar kind
abbrev pub Lies : VaryingContext → (type : ℕ) → Location → ScalarKind → Type 0
Lies c type l kind = NeedsInterpolation c.direction c.stage l.per_primitive × (kind_of (form_of_type c.types type) ≡ Some kind)

abbrev pub IsLocationFault : VaryingContext → (type : ℕ) → Location → VaryingError → Type 0
IsLocationFault c type l (error.InvalidType t) = (t ≡ type) × (l.interpolation ≢ Some PerVertex) × (kind_of (form_of_type c.types type) ≡ None)
IsLocationFault c type l (error.NotIOShareableType t) = (varying_type c.types l.interpolation type ≡ Some t) × ¬ HasFlag IoShareable (type_tree c.types t)
IsLocationFault c type l (error.InvalidInterpolationInStage i stage) = (i ≡ PerVertex) × (stage ≡ Fragment) × (l.interpolation ≡ Some PerVertex) × (c.stage ≢ Fragment)
IsLocationFault c type l (error.InvalidInterpolationSamplingCombination i s) = (l.interpolation ≡ Some i) × (l.sampling ≡ Some s) × (sampling_fits i s ≡ false)
IsLocationFault c type l error.InvalidInterpolationForInteger = (Lies c type l Sint ⊎ Lies c type l Uint) × (l.interpolation ≢ Some PerVertex) × (l.interpolation ≢ Some Flat)
IsLocationFault c type l error.MissingInterpolation = Lies c type l Float × (l.interpolation ≡ None)
IsLocationFault c type l (error.UnsupportedCapability x) = Needs l x × ¬ Has c.capabilities.0 x.0
IsLocationFault c type l error.BlendSrcNotOnStructMember = IsSome l.blend_src
IsLocationFault c type l error.InvalidPerPrimitive = (l.per_primitive ≡ true) × (c.direction ≢ PrimitiveOutput) × ((c.direction ≢ Input) ⊎ (c.stage ≢ Fragment))
IsLocationFault c type l error.MissingPerPrimitive = (l.per_primitive ≡ false) × (c.direction ≡ PrimitiveOutput)
IsLocationFault c type l error.PerVertexNotArrayOfThree = (l.interpolation ≡ Some PerVertex) × (of_three (form_of_type c.types type) ≡ None)
IsLocationFault c type l error.InvalidPerVertexSampling = (l.interpolation ≡ Some PerVertex) × IsSome l.sampling × (l.sampling ≢ Some Center)
IsLocationFault c type l _ = ⊥

-- ---- without its own binding

-- the name of blend sources in binding errors
abbrev pub blend_src : List ℕ
blend_src = 98 ∷ 108 ∷ 101 ∷ 110 ∷ 100 ∷ 95 ∷ 115 ∷ 114 ∷ 99 ∷ []

-- only fragment results have blend sources
abbrev pub IsBlendFault : VaryingContext → VaryingError → Type 0
IsBlendFault c (error.InvalidAttributeInStage word stage) = (word.now ≡ blend_src) × (stage ≡ c.stage) × (c.stage ≢ Fragment)
IsBlendFault c (error.InvalidInputAttributeInStage word stage) = (word.now ≡ blend_src) × (stage ≡ c.stage) × (c.direction ≢ Output)
IsBlendFault c _ = ⊥

abbrev pub IsUnboundFault : ValidationFlags → VaryingError → Type 0
IsUnboundFault flags error.MissingBinding = Has flags.0 BINDINGS.0
IsUnboundFault flags _ = ⊥

-- the member is named by its index, as far as the error's number goes
abbrev pub IsMemberFault : ValidationFlags → (place : ℕ) → VaryingError → Type 0
IsMemberFault flags place (error.MemberMissingBinding k) = (k ≡ min place 4294967295) × Has flags.0 BINDINGS.0
IsMemberFault flags place _ = ⊥

-- ---- one varying

-- by itself
abbrev pub IsOwnFault : VaryingContext → Bound → VaryingError → Type 0
IsOwnFault c (built_in type b) e = IsBuiltInFault c type b e
IsOwnFault c (at_location type l) e = IsLocationFault c type l e
IsOwnFault c BlendSources e = IsBlendFault c e
IsOwnFault c Nothing e = IsUnboundFault c.flags e
IsOwnFault c (NoMember place) e = IsMemberFault c.flags place e

-- an earlier one has this fact
abbrev pub ShowsBefore : {A : Type 0} → (Bound → Option A) → List Varying → (place : ℕ) → A → Type 0
ShowsBefore shown vs place x = (earlier : ℕ) × (earlier < place) × ShowsAt shown vs earlier x

-- it is this built-in
abbrev pub IsBuiltIn : Bound → BuiltIn → Type 0
IsBuiltIn (built_in type b) d = d ≡ b
IsBuiltIn (at_location type l) d = ⊥
IsBuiltIn BlendSources d = ⊥
IsBuiltIn Nothing d = ⊥
IsBuiltIn (NoMember place) d = ⊥

-- an earlier one is the same built-in, or has the same location
abbrev pub IsRepeated : VaryingContext → List Varying → (place : ℕ) → Bound → VaryingError → Type 0
IsRepeated c vs place bound (error.DuplicateBuiltIn d) = IsBuiltIn bound d × ShowsBefore built_in_of vs place (canonical d)
IsRepeated c vs place bound (error.BindingCollision n) = Has c.flags.0 BINDINGS.0 × (location_of bound ≡ Some n) × ShowsBefore location_of vs place n
IsRepeated c vs place bound _ = ⊥

-- ---- all

-- The error is of a varying of the argument with this index.
pub record IsVaryingFault (c : VaryingContext) (vs : List Varying) (index : ℕ) (e : VaryingError) : Type 0 where
  pub place : ℕ
  pub v : Varying
  pub at : slice_get vs place ≡ Some v
  pub of : v.index ≡ index
  pub wrong : IsOwnFault c v.bound e ⊎ IsRepeated c vs place v.bound e

-- out of memory, or the error's condition holds
abbrev pub IsRefusal : VaryingContext → List Varying → VaryingRefusal → Type 0
IsRefusal c vs (refusal.Memory a) = Unit {0}
IsRefusal c vs (refusal.Fault index e) = IsVaryingFault c vs index e
