-- The type whose layout is reported.
use Rattle.std.proofs.Common.{◌≡◌, ◌<◌, ℕ, List, [], true, Option, Some, None, unwrap_or, option_map, map, length, slice_get, refl, sym, ap, subst, ◌∙◌, arith}
use Rattle.std.specs.Prelude.{if◌then◌else◌}
use Rattle.std.proofs.lemmas.List.Elements.{All-head}
use Rattle.std.proofs.lemmas.Option.{slice_get-map}
use Rattle.ir_arena.specs.found.Arenas.{value_at, value_of_entry}
use Rattle.ir_arena.specs.declared.span.Span.{Span}
use Rattle.ir_items.specs.judged.GlobalPlain.{PlainGlobal}
use Rattle.ir_items.specs.found.GlobalView.{values_of}
use Rattle.ir_types.specs.judged.Plain.{PlainInner, plain, PlainType}
use Rattle.ir_types.specs.declared.types.TypeInner.TheVariants as inner
use Rattle.spec_interface.specs.judged.Spaces.{array_base, effective_type}
use Rattle.judgement.specs.judged.Lines.{is_buffer, buffer_line, buffer_of}
use Rattle.typing_layout.specs.judged.Layout.{size, alignment}
use Rattle.typing_layout.specs.judged.View.{type_tree}
use Rattle.typing_forms.specs.judged.Order.{TypesGoBack}
use Rattle.typing_forms.specs.judged.Resolutions.{inner_at}
use Rattle.typing_layout.specs.found.Held.{IsLayoutOf}
use Rattle.typing_layout.specs.declared.layout.TypeLayout.{TypeLayout}

same : (b base : ℕ) → Some b ≡ Some base → b ≡ base
same b base e = cc

-- the element type of a binding array precedes it
base_before : (types : List PlainType) → TypesGoBack types → (type base : ℕ) (o : Option PlainInner) → inner_at types type ≡ o → array_base o ≡ Some base → base < type
base_before types back type base (Some (plain (inner.BindingArray b n))) at e =
    subst (λ k. k < type) (same b base e) (All-head (λ named. named < type) b [] (back.each type (plain (inner.BindingArray b n)) at))
base_before types back type base _ at e = cc

counted_by : (types : List PlainType) → TypesGoBack types → (type : ℕ) → type < length types → (o : Option ℕ) → array_base (inner_at types type) ≡ o → unwrap_or o type < length types
counted_by types back type within None e = within
counted_by types back type within (Some base) e = let before = base_before types back type base (inner_at types type) refl e in omega (arith, before, within)

pub counted_there : (types : List PlainType) → TypesGoBack types → (type : ℕ) → type < length types → effective_type types type < length types
counted_there types back type within = counted_by types back type within (array_base (inner_at types type)) refl

-- a buffer's line has the layout of its type
pub buffer_told : (types : List PlainType) (number : ℕ) (v : PlainGlobal) (type : ℕ) (l : TypeLayout) → is_buffer v.space ≡ true → type ≡ effective_type types v.ty → IsLayoutOf (type_tree types type) l
    → buffer_line number l.size l.alignment ≡ buffer_of types number v
buffer_told types number v type l buffer counts is =
    let here : IsLayoutOf (type_tree types (effective_type types v.ty)) l = subst (λ t. IsLayoutOf (type_tree types t) l) counts is in
    ap (λ n. buffer_line number n l.alignment) here.size
    ∙ (ap (λ n. buffer_line number (size (type_tree types (effective_type types v.ty))) n) here.alignment
    ∙ sym (ap (λ b. if b then buffer_line number (size (type_tree types (effective_type types v.ty))) (alignment (type_tree types (effective_type types v.ty))) else []) buffer))

-- the variable at an index of an arena is the module's
pub global_found : {T View : Type 0} (view : T → View) (entries : List (T × Span)) (h : ℕ) (v : T) → Some v ≡ value_at entries h → slice_get (map view (values_of entries)) h ≡ Some (view v)
global_found view entries h v at = slice_get-map view (values_of entries) h ∙ ap (option_map view) (slice_get-map value_of_entry entries h ∙ sym at)
