-- Varyings with a fault are not as they should be.
use Rattle.std.proofs.Common.{◌≡◌, ◌≢◌, ◌⊎◌, inl, inr, ℕ, List, true, true≢false, Option, Some, None, IsSome, IsSomeAnd, IfSome, refl, sym, ap, subst, ◌∙◌, slice_get}
use Rattle.ir_flags.specs.Sets.{Has}
use Rattle.ir_flags.specs.declared.settings.Capabilities.{Capabilities}
use Rattle.ir_kinds.specs.declared.bindings.BuiltIn.{BuiltIn}
use Rattle.ir_kinds.specs.declared.bindings.Interpolation.TheVariants.{PerVertex}
use Rattle.ir_kinds.specs.declared.bindings.Sampling.{Sampling}
use Rattle.ir_kinds.specs.declared.scalars.ScalarKind.{ScalarKind}
use Rattle.ir_kinds.specs.declared.scalars.ScalarKind.TheVariants.{Sint, Uint, Float}
use Rattle.ir_kinds.specs.declared.stages.ShaderStage.{ShaderStage}
use Rattle.ir_kinds.specs.declared.stages.ShaderStage.TheVariants.{Fragment}
use Rattle.typing_layout.specs.judged.Flags.{HasFlag, IoShareable}
use Rattle.typing_layout.specs.judged.View.{type_tree}
use Rattle.spec_interface.specs.judged.BuiltIns.{ExceptionOK, IsFree, RowOK}
use Rattle.spec_interface.specs.judged.Contexts.{VaryingContext}
use Rattle.spec_interface.specs.judged.Locations.{NeedsInterpolation, InterpolationOK, LocationOK, PerPrimitiveOK, varying_type, kind_of}
use Rattle.spec_interface.specs.judged.BuiltInRows.{built_in_row}
use Rattle.spec_interface.specs.judged.Varyings.{VaryingsApart, BoundOK, VaryingsOK, built_in_of, canonical, location_of}
use Rattle.spec_interface.specs.declared.rows.BuiltInRow.{BuiltInRow}
use Rattle.spec_interface.specs.declared.rows.Exception.{Exception}
use Rattle.spec_interface.specs.declared.rows.Exception.TheVariants.{NotAfterTasks, RowsOnly}
use Rattle.spec_interface.specs.declared.varyings.Bound.{Bound}
use Rattle.spec_interface.specs.declared.varyings.Bound.TheVariants.{BuiltIn as built_in, Location as at_location, BlendSources, Nothing, NoMember}
use Rattle.spec_interface.specs.declared.varyings.Direction.{Direction}
use Rattle.spec_interface.specs.declared.varyings.Direction.TheVariants.{Input, Output, VertexOutput, PrimitiveOutput}
use Rattle.spec_interface.specs.declared.varyings.Location.{Location}
use Rattle.spec_interface.specs.declared.varyings.Varying.{Varying}
use Rattle.typing_forms.specs.judged.Forms.{form_of_type}
use Rattle.function_varying_checks.specs.Faults.{IsAstray, IsBlendFault, IsBuiltIn, IsBuiltInFault, IsLocationFault, IsMemberFault, IsUnboundFault, IsOwnFault, IsRepeated, Lies, Needs, ShowsBefore}
use Rattle.function_varying_checks.specs.declared.error.VaryingError.{VaryingError}
use Rattle.function_varying_checks.specs.declared.error.VaryingError.TheVariants as error
use Rattle.function_varyings.specs.Laws.{FaultRefutes}

-- ---- a built-in value

module _ (c : VaryingContext) (type : ℕ) (r : BuiltInRow) (ok : RowOK c type r) where
  need_met : (x : Capabilities) → r.capability ≡ Some x → ¬ IsFree c.stage r.exception → Has c.capabilities.0 x.0
  need_met x is dear = elim ok.capable [
    | inl free ↦ absurd (dear free)
    | inr met ↦ subst (λ o. IfSome o (λ (y : Capabilities). Has c.capabilities.0 y.0)) is met
  ]

  excepted : (e : Exception) → r.exception ≡ e → ExceptionOK c e
  excepted e is = subst (ExceptionOK c) is ok.besides

  row_astray : IsAstray c r → ⊥
  row_astray (inl astray) = astray ok.stands
  row_astray (inr behind) = behind.1 (excepted NotAfterTasks behind.0)

built_in_refuted : (c : VaryingContext) (type : ℕ) (b : BuiltIn) (e : VaryingError) → IsBuiltInFault c type b e → RowOK c type (built_in_row b) → ⊥
built_in_refuted c type b (error.UnsupportedCapability x) w ok = w.2 (need_met c type (built_in_row b) ok x w.0 w.1)
built_in_refuted c type b error.InvalidMultiDimensionalSubgroupBuiltIn w ok = w.1 (excepted c type (built_in_row b) ok RowsOnly w.0)
built_in_refuted c type b (error.InvalidBuiltInStage d) w ok = row_astray c type (built_in_row b) ok w.1
built_in_refuted c type b (error.InvalidBuiltInType d i) w ok = w.2 ok.typed
built_in_refuted c type b (error.InvalidType t) w ok = w.2 ok.typed
built_in_refuted c type b _ w ok = w

-- ---- a value at a location

none_some : {A : Type 0} (x : A) → None ≡ Some x → ⊥
none_some x e = cc

none_there : {A : Type 0} (o : Option A) → o ≡ None → IsSome o → ⊥
none_there None is there = true≢false (sym there)
none_there (Some x) is there = none_some x (sym is)

unprimitive : (d : Direction) (s : ShaderStage) → PerPrimitiveOK d s true → d ≢ PrimitiveOutput → (d ≢ Input) ⊎ (s ≢ Fragment) → ⊥
unprimitive Input s ok other (inl differs) = differs refl
unprimitive Input s ok other (inr differs) = differs (ok refl)
unprimitive Output s ok other w = true≢false ok
unprimitive VertexOutput s ok other w = true≢false ok
unprimitive PrimitiveOutput s ok other w = other refl

module _ (c : VaryingContext) (type : ℕ) (l : Location) (ok : LocationOK c type l) where
  element_is : (t : ℕ) → varying_type c.types l.interpolation type ≡ Some t → ok.element ≡ t
  element_is t is = let e = sym ok.counts ∙ is in cc

  found : (kind : ScalarKind) → l.interpolation ≢ Some PerVertex → Lies c type l kind → InterpolationOK kind l.interpolation
  found kind one lies = subst (λ o. IsSomeAnd o (λ k. NeedsInterpolation c.direction c.stage l.per_primitive → InterpolationOK k l.interpolation)) lies.1 (ok.value one) lies.0

  no_kind : l.interpolation ≢ Some PerVertex → kind_of (form_of_type c.types type) ≡ None → ⊥
  no_kind one none = subst (λ o. IsSomeAnd o (λ k. NeedsInterpolation c.direction c.stage l.per_primitive → InterpolationOK k l.interpolation)) none (ok.value one)

  met : (x : Capabilities) → Needs l x → Has c.capabilities.0 x.0
  met x (inl primitive) = subst (λ (y : Capabilities). Has c.capabilities.0 y.0) (sym primitive.1) (ok.capable primitive.0)
  met x (inr (inl vertex)) = subst (λ (y : Capabilities). Has c.capabilities.0 y.0) (sym vertex.1) (ok.vertices vertex.0).capable
  met x (inr (inr sample)) = subst (λ (y : Capabilities). Has c.capabilities.0 y.0) (sym sample.1) (ok.multisampled sample.0)

  none_is_one : l.interpolation ≡ None → l.interpolation ≢ Some PerVertex
  none_is_one none is = none_some PerVertex (sym none ∙ is)

  location_refuted : (e : VaryingError) → IsLocationFault c type l e → ⊥
  location_refuted (error.InvalidType t) w = no_kind w.1 w.2
  location_refuted (error.NotIOShareableType t) w = w.1 (subst (λ k. HasFlag IoShareable (type_tree c.types k)) (element_is t w.0) ok.shared)
  location_refuted (error.InvalidInterpolationInStage i s) w = w.3 (ok.vertices w.2).fragment
  location_refuted (error.InvalidInterpolationSamplingCombination i s) w = true≢false (sym (ok.sampled i s w.0 w.1) ∙ w.2)
  location_refuted error.InvalidInterpolationForInteger w = elim w.0 [
    | inl signed ↦ w.2 (found Sint w.1 signed)
    | inr unsigned ↦ w.2 (found Uint w.1 unsigned)
  ]
  location_refuted error.MissingInterpolation w = none_there l.interpolation w.1 (found Float (none_is_one w.1) w.0)
  location_refuted (error.UnsupportedCapability x) w = w.1 (met x w.0)
  location_refuted error.BlendSrcNotOnStructMember w = none_there l.blend_src ok.alone w
  location_refuted error.InvalidPerPrimitive w = unprimitive c.direction c.stage (subst (PerPrimitiveOK c.direction c.stage) w.0 ok.primitive) w.1 w.2
  location_refuted error.MissingPerPrimitive w = true≢false (sym (subst (λ d. PerPrimitiveOK d c.stage l.per_primitive) w.1 ok.primitive) ∙ w.0)
  location_refuted error.PerVertexNotArrayOfThree w =
      none_some ok.element (sym (subst (λ i. varying_type c.types i type ≡ None) (sym w.0) w.1) ∙ ok.counts)
  location_refuted error.InvalidPerVertexSampling w = placed l.sampling refl w.1
    where
      placed : (s : Option Sampling) → l.sampling ≡ s → IsSome s → ⊥
      placed None is there = true≢false (sym there)
      placed (Some s) is there = true≢false (sym (ok.sampled PerVertex s w.0 is))
  location_refuted _ w = w

-- ---- one varying

blend_refuted : (c : VaryingContext) (e : VaryingError) → IsBlendFault c e → BoundOK c BlendSources → ⊥
blend_refuted c (error.InvalidAttributeInStage word stage) w ok = w.2 ok.0
blend_refuted c (error.InvalidInputAttributeInStage word stage) w ok = w.2 ok.1
blend_refuted c _ w ok = w

unbound_refuted : (c : VaryingContext) (e : VaryingError) → IsUnboundFault c.flags e → BoundOK c Nothing → ⊥
unbound_refuted c error.MissingBinding w ok = ok w
unbound_refuted c _ w ok = w

member_refuted : (c : VaryingContext) (place : ℕ) (e : VaryingError) → IsMemberFault c.flags place e → BoundOK c (NoMember place) → ⊥
member_refuted c place (error.MemberMissingBinding k) w ok = ok w.1
member_refuted c place _ w ok = w

own_refuted : (c : VaryingContext) (b : Bound) (e : VaryingError) → IsOwnFault c b e → BoundOK c b → ⊥
own_refuted c (built_in type b) e w ok = built_in_refuted c type b e w ok
own_refuted c (at_location type l) e w ok = location_refuted c type l ok e w
own_refuted c BlendSources e w ok = blend_refuted c e w ok
own_refuted c Nothing e w ok = unbound_refuted c e w ok
own_refuted c (NoMember place) e w ok = member_refuted c place e w ok

-- ---- all

shows_it : (b : Bound) (d : BuiltIn) → IsBuiltIn b d → built_in_of b ≡ Some (canonical d)
shows_it (built_in type b) d is = ap (λ x. Some (canonical x)) (sym is)
shows_it _ d is = absurd is

module _ (c : VaryingContext) (vs : List Varying) (ok : VaryingsOK c vs) where
  twice : {A : Type 0} (shown : Bound → Option A) → VaryingsApart shown vs → (place : ℕ) (v : Varying) (x : A) → slice_get vs place ≡ Some v → shown v.bound ≡ Some x → ShowsBefore shown vs place x → ⊥
  twice shown apart place v x at shows before = apart before.0 place x before.1 before.2 (v, at, shows)

  repeated_refuted : (place : ℕ) (v : Varying) (e : VaryingError) → slice_get vs place ≡ Some v → IsRepeated c vs place v.bound e → ⊥
  repeated_refuted place v (error.DuplicateBuiltIn d) at w = twice built_in_of ok.once place v (canonical d) at (shows_it v.bound d w.0) w.1
  repeated_refuted place v (error.BindingCollision n) at w = twice location_of (ok.apart w.0) place v n at w.1 w.2
  repeated_refuted place v _ at w = w

pub fault_refutes : FaultRefutes
fault_refutes c vs index e fault ok = elim fault.wrong [
  | inl own ↦ own_refuted c fault.v.bound e own (ok.each fault.place fault.v fault.at)
  | inr again ↦ repeated_refuted c vs ok fault.place fault.v e fault.at again
]
