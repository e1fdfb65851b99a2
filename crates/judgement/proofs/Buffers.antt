-- The buffers of a valid module.
use Rattle.std.proofs.Common.{◌≡◌, ◌<◌, ◌⊎◌, inl, inr, ℕ, List, Bool, true, true≢false, Option, Some, None, IsTrue, All, length, slice_get, unwrap_or, zero, suc, [], ◌∷◌, refl, sym, ap, subst, ◌∙◌, arith, if◌then◌else◌}
use Rattle.std.proofs.lemmas.List.Elements.{All-contains_itself}
use Rattle.std.proofs.lemmas.Option.{same_Some, slice_get_within}
use Rattle.ir_flags.specs.Sets.{Has}
use Rattle.ir_flags.specs.declared.settings.Capabilities.{Capabilities}
use Rattle.ir_flags.specs.declared.settings.TheConstants.ValidationFlags.{STRUCT_LAYOUTS}
use Rattle.ir_flags.specs.declared.settings.ValidationFlags.{ValidationFlags}
use Rattle.ir_flags.specs.declared.settings.Settings.{Settings}
use Rattle.ir_items.specs.judged.GlobalPlain.{PlainGlobal}
use Rattle.ir_items.specs.judged.Plain.{PlainModule}
use Rattle.ir_kinds.specs.declared.spaces.AddressSpace.{AddressSpace}
use Rattle.ir_kinds.specs.declared.spaces.AddressSpace.TheVariants as space
use Rattle.ir_types.specs.judged.Plain.{PlainInner, struct as written_struct, plain, PlainType}
use Rattle.ir_types.specs.declared.types.TypeInner.TheVariants as inner
use Rattle.judgement.proofs.Inside.{everywhere_inside}
use Rattle.judgement.proofs.Placed.{buffer_sound}
use Rattle.judgement.specs.judged.BufferLaws.{buffer_type, BuffersOK, TypesAreSound, BuffersAreSound}
use Rattle.judgement.specs.judged.Sound.{StrideOK, ShapesOK, IsBuffer}
use Rattle.spec_interface.specs.judged.Globals.{GlobalsOK}
use Rattle.spec_interface.specs.found.Variables.{VariableOK}
use Rattle.spec_interface.specs.judged.Spaces.{array_base, effective_type, LiesIn}
use Rattle.spec_expressions.specs.judged.ModuleHandles.{HandlesOK}
use Rattle.spec_expressions.specs.judged.Order.{a_type, type_on_named}
use Rattle.spec_expressions.specs.judged.ModuleReferences.{variable, variable_type}
use Rattle.spec_expressions.specs.judged.References.{item}
use Rattle.spec_expressions.specs.declared.target.Target.TheVariants as target
use Rattle.judgement.specs.judged.ModuleSteps.{layout, type, ModuleOK}
use Rattle.judgement.specs.judged.Lines.{is_buffer, buffer_line, buffer_of}
use Rattle.typing_forms.specs.judged.Order.{named_types, TypesGoBack}
use Rattle.typing_forms.specs.judged.Resolutions.{inner_at}
use Rattle.typing_layout.specs.judged.Buffers.{FitsStorageBuffer, FitsUniformBuffer}
use Rattle.typing_layout.specs.judged.Layout.{size, alignment, LayoutOK}
use Rattle.typing_layout.specs.judged.Parts.{Everywhere}
use Rattle.typing_layout.specs.judged.Rules.{ShapeOK}
use Rattle.typing_layout.specs.judged.Tree.{Tree, scalar, vector, matrix, cooperative_matrix, atomic, pointer, value_pointer, array, struct, image, sampler, acceleration_structure, ray_query, binding_array}
use Rattle.typing_layout.specs.judged.View.{type_tree}

-- the part of the checks of a type that leaves depend on
shape_counts : (c : Capabilities) (resolved : Bool) (t : Tree) → ShapeOK c resolved t → ShapesOK t
shape_counts c resolved (array base n stride) h = h.1
shape_counts c resolved (struct ms span) h = h
shape_counts c resolved (scalar s) h = tt
shape_counts c resolved (vector n s) h = tt
shape_counts c resolved (matrix columns rows s) h = tt
shape_counts c resolved (cooperative_matrix columns rows s role) h = tt
shape_counts c resolved (atomic s) h = tt
shape_counts c resolved (pointer base space) h = tt
shape_counts c resolved (value_pointer n s space) h = tt
shape_counts c resolved (image dim arrayed class) h = tt
shape_counts c resolved (sampler comparison) h = tt
shape_counts c resolved (acceleration_structure vertex_return) h = tt
shape_counts c resolved (ray_query vertex_return) h = tt
shape_counts c resolved (binding_array base n) h = tt

-- the storage or the uniform layout of a buffer's type is valid
serves : (flags : ValidationFlags) (a : AddressSpace) (i : Option PlainInner) (t : Tree) → IsTrue (is_buffer a) → Has flags.0 STRUCT_LAYOUTS.0 → LiesIn flags a i t → FitsStorageBuffer t ⊎ FitsUniformBuffer t
serves flags space.Uniform i t b asked lies = inr (lies asked)
serves flags (space.Storage access) i t b asked lies = inl (lies.0 asked)
serves flags space.Function i t b asked lies = absurd lies
serves flags space.Private i t b asked lies = absurd (true≢false (sym b))
serves flags space.WorkGroup i t b asked lies = absurd (true≢false (sym b))
serves flags space.Handle i t b asked lies = absurd (true≢false (sym b))
serves flags space.Immediate i t b asked lies = absurd (true≢false (sym b))
serves flags space.TaskPayload i t b asked lies = absurd (true≢false (sym b))
serves flags space.RayPayload i t b asked lies = absurd (true≢false (sym b))
serves flags space.IncomingRayPayload i t b asked lies = absurd (true≢false (sym b))

-- the type whose layout is reported is that of the variable, or an earlier one
unwrapped : (types : List PlainType) → TypesGoBack types → (ty many : ℕ) (i : Option PlainInner) → inner_at types ty ≡ i → ty < many → unwrap_or (array_base i) ty < many
unwrapped types back ty many None at lt = lt
unwrapped types back ty many (Some (written_struct members span)) at lt = lt
unwrapped types back ty many (Some (plain (inner.Scalar s))) at lt = lt
unwrapped types back ty many (Some (plain (inner.Vector n s))) at lt = lt
unwrapped types back ty many (Some (plain (inner.Matrix columns rows s))) at lt = lt
unwrapped types back ty many (Some (plain (inner.CooperativeMatrix columns rows s role))) at lt = lt
unwrapped types back ty many (Some (plain (inner.Atomic s))) at lt = lt
unwrapped types back ty many (Some (plain (inner.Pointer base a))) at lt = lt
unwrapped types back ty many (Some (plain (inner.ValuePointer n s a))) at lt = lt
unwrapped types back ty many (Some (plain (inner.Array base size stride))) at lt = lt
unwrapped types back ty many (Some (plain (inner.Struct members span))) at lt = lt
unwrapped types back ty many (Some (plain (inner.Image dim arrayed class))) at lt = lt
unwrapped types back ty many (Some (plain (inner.Sampler comparison))) at lt = lt
unwrapped types back ty many (Some (plain (inner.AccelerationStructure vertex_return))) at lt = lt
unwrapped types back ty many (Some (plain (inner.RayQuery vertex_return))) at lt = lt
unwrapped types back ty many (Some (plain (inner.BindingArray base n))) at lt =
    let below : base < ty = back.each ty (plain (inner.BindingArray base n)) at 0 0 (omega arith) in omega (arith, below, lt)

counted_within : (types : List PlainType) → TypesGoBack types → (ty many : ℕ) → ty < many → effective_type types ty < many
counted_within types back ty many lt = unwrapped types back ty many (inner_at types ty) refl lt

-- ---- what valid handles imply

found : (types : List PlainType) (handle : ℕ) (i : PlainInner) → inner_at types handle ≡ Some i → (x : PlainType) × (slice_get types handle ≡ Some x) × (x.inner ≡ i)
found [] handle i e = cc (e)
found (x ∷ xs) zero i e = (x, refl, same_Some _ _ e)
found (x ∷ xs) (suc k) i e = found xs k i e

pub types_go_back : (m : PlainModule) → HandlesOK m → TypesGoBack m.types
types_go_back m ok = record {
  each = λ handle i at. (let x = found m.types handle i at in
      subst (λ j. All (λ named. named < handle) (named_types j)) x.2
      (λ k d lt. ok.back (a_type handle) (a_type _) (type_on_named x.1 (All-contains_itself (named_types x.0.inner) k d lt))));
}

-- ---- a buffer of a valid module

line_of : (types : List PlainType) (number : ℕ) (v : PlainGlobal) (b : Bool) → is_buffer v.space ≡ b → b ≡ true
    → buffer_of types number v ≡ buffer_line number (size (buffer_type types v)) (alignment (buffer_type types v))
line_of types number v b is holds =
    ap (λ x. if x then buffer_line number (size (buffer_type types v)) (alignment (buffer_type types v)) else []) (is ∙ holds)

pub types_are_sound : TypesAreSound
types_are_sound t b = buffer_sound t b

module _ (s : Settings) (resolved : Bool) (m : PlainModule) (asked : Has s.flags.0 STRUCT_LAYOUTS.0) (ok : ModuleOK s resolved m) (globals : GlobalsOK s.flags s.capabilities m) where
  back : TypesGoBack m.types
  back = types_go_back m ok.handles

  within : (number : ℕ) (v : PlainGlobal) → slice_get m.globals number ≡ Some v → effective_type m.types v.ty < length m.types
  within number v at = counted_within m.types back v.ty (length m.types) (ok.handles.there (variable number) (item (target.Type v.ty)) (variable_type at))

  accepted : (number : ℕ) (v : PlainGlobal) → slice_get m.globals number ≡ Some v → VariableOK s.flags s.capabilities m v
  accepted number v at =
      let g = globals number (slice_get_within m.globals number v at) in
      subst (VariableOK s.flags s.capabilities m) (same_Some _ _ (sym g.at ∙ at)) g.ok

  is_buffer_type : (number : ℕ) (v : PlainGlobal) → slice_get m.globals number ≡ Some v → IsTrue (is_buffer v.space) → Everywhere StrideOK (buffer_type m.types v) → IsBuffer (buffer_type m.types v)
  is_buffer_type number v at b strides = record {
    laid = everywhere_inside LayoutOK m.types back (λ handle lt. (ok.steps layout).each handle lt) (effective_type m.types v.ty) (within number v at);
    shaped = everywhere_inside ShapesOK m.types back (λ handle lt. shape_counts s.capabilities resolved (type_tree m.types handle) ((ok.steps type).each handle lt).shape) (effective_type m.types v.ty) (within number v at);
    strides = strides;
    serves = serves s.flags v.space _ _ b asked (accepted number v at).lies;
  }

  sound_buffers : BuffersOK m
  sound_buffers number v at b = record {
    line = line_of m.types number v true b refl;
    leaves = λ strides. buffer_sound (buffer_type m.types v) (is_buffer_type number v at b strides);
  }

pub buffers_are_sound : BuffersAreSound
buffers_are_sound s resolved m asked ok globals = sound_buffers s resolved m asked ok globals
