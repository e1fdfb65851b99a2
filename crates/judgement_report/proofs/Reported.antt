-- The lines of a buffer, and those of all buffers.
use Rattle.std.proofs.Common.{◌≡◌, ◌<◌, ◌+◌, ℕ, zero, suc, List, [], ◌∷◌, ◌++◌, true, Option, Some, None, unwrap_or, length, drop, slice_get, refl, sym, ap, subst, ◌∙◌, arith, append_assoc}
use Rattle.std.specs.Prelude.{if◌then◌else◌}
use Rattle.std.proofs.lemmas.List.Elements.{All-head}
use Rattle.ir_items.specs.judged.GlobalPlain.{PlainGlobal}
use Rattle.ir_types.specs.judged.Plain.{PlainInner, plain, PlainType}
use Rattle.ir_types.specs.declared.types.TypeInner.TheVariants as inner
use Rattle.judgement_report.specs.Lines.{described, leaves_of, row_lines}
use Rattle.judgement_report.specs.Paths.{parts_at, path_along}
use Rattle.judgement.specs.judged.BufferLaws.{buffer_type}
use Rattle.judgement_report.specs.Runs.{listed}
use Rattle.spec_interface.specs.judged.Spaces.{array_base, effective_type}
use Rattle.judgement.specs.judged.Lines.{each_from, is_buffer, buffer_line}
use Rattle.typing_forms.specs.judged.Order.{TypesGoBack}
use Rattle.typing_forms.specs.judged.Resolutions.{inner_at}
use Rattle.typing_layout.specs.found.Held.{IsLayoutOf}
use Rattle.typing_layout.specs.judged.Layout.{size, alignment}
use Rattle.typing_layout.specs.judged.View.{type_tree}
use Rattle.typing_layout.specs.declared.layout.TypeLayout.{TypeLayout}

-- ---- the type whose layout is reported exists

same : (b base : ℕ) → Some b ≡ Some base → b ≡ base
same b base e = cc

-- the element type of a binding array precedes it
base_before : (types : List PlainType) → TypesGoBack types → (type base : ℕ) (o : Option PlainInner) → inner_at types type ≡ o → array_base o ≡ Some base → base < type
base_before types back type base (Some (plain (inner.BindingArray b n))) at e =
    subst (λ k. k < type) (same b base e) (All-head (λ named. named < type) b [] (back.each type (plain (inner.BindingArray b n)) at))
base_before types back type base _ at e = cc

counted_by : (types : List PlainType) → TypesGoBack types → (type : ℕ) → type < length types → (o : Option ℕ) → array_base (inner_at types type) ≡ o → unwrap_or o type < length types
counted_by types back type within None e = within
counted_by types back type within (Some base) e = let before = base_before types back type base (inner_at types type) refl e in omega (arith, before, within)

pub counted_there : (types : List PlainType) → TypesGoBack types → (type : ℕ) → type < length types → effective_type types type < length types
counted_there types back type within = counted_by types back type within (array_base (inner_at types type)) refl

-- the text written for a buffer is its line
pub buffer_described : (types : List PlainType) → TypesGoBack types → (number : ℕ) (v : PlainGlobal) (ty step : ℕ) (l : TypeLayout) (old middle after : List ℕ) → is_buffer v.space ≡ true
    → ty ≡ effective_type types v.ty → IsLayoutOf (type_tree types ty) l → step ≡ l.alignment → middle ≡ old ++ buffer_line number l.size step
    → after ≡ middle ++ row_lines (path_along types [] (parts_at types ty)) [] 0 (listed (type_tree types ty)) → after ≡ old ++ described types number v
buffer_described types back number v ty step l old middle after buffer counts laid steps first second =
    let t = effective_type types v.ty in
    let here : IsLayoutOf (type_tree types t) l = subst (λ h. IsLayoutOf (type_tree types h) l) counts laid in
    let line : List ℕ = buffer_line number (size (buffer_type types v)) (alignment (buffer_type types v)) in
    let e : buffer_line number l.size step ≡ line = ap (λ n. buffer_line number l.size n) steps ∙ ap (λ n. buffer_line number n l.alignment) here.size ∙ ap (λ n. buffer_line number (size (buffer_type types v)) n) here.alignment in
    let behind : row_lines (path_along types [] (parts_at types ty)) [] 0 (listed (type_tree types ty)) ≡ leaves_of types v =
    ap (λ h. row_lines (path_along types [] (parts_at types h)) [] 0 (listed (type_tree types h))) counts in
    second
    ∙ ap (λ m. m ++ row_lines (path_along types [] (parts_at types ty)) [] 0 (listed (type_tree types ty))) (first ∙ ap (λ n. old ++ n) e)
    ∙ ap (λ b. (old ++ line) ++ b) behind
    ∙ append_assoc old line (leaves_of types v)
    ∙ ap (λ b. old ++ (if b then line ++ leaves_of types v else [])) (sym buffer)

-- ---- items in order

each_next : {X : Type 0} (told : ℕ → X → List ℕ) (first : ℕ) (xs : List X) (place : ℕ) (x : X) → slice_get xs place ≡ Some x
    → each_from told first (drop place xs) ≡ told first x ++ each_from told (suc first) (drop (suc place) xs)
each_next told first [] place x at = let h = at in absurd (cc)
each_next told first (y ∷ ys) zero x at = let is : y ≡ x = (let h = at in cc) in ap (λ z. told first z ++ each_from told (suc first) ys) is
each_next told first (y ∷ ys) (suc place) x at = each_next told first ys place x at

-- one more item is written
pub each_more : {X : Type 0} (told : ℕ → X → List ℕ) (xs : List X) (number : ℕ) (x : X) (middle after whole : List ℕ) → slice_get xs number ≡ Some x
    → middle ++ each_from told number (drop number xs) ≡ whole → after ≡ middle ++ told number x → after ++ each_from told (number + 1) (drop (number + 1) xs) ≡ whole
each_more told xs number x middle after whole at is written =
    let next : suc number ≡ number + 1 = omega arith in
    subst (λ n. after ++ each_from told n (drop n xs) ≡ whole) next
    (ap (λ t. t ++ each_from told (suc number) (drop (suc number) xs)) written
    ∙ (append_assoc middle (told number x) (each_from told (suc number) (drop (suc number) xs)) ∙ (ap (λ t. middle ++ t) (sym (each_next told number xs number x at)) ∙ is)))
