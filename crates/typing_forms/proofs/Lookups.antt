-- The type at a handle of an arena.
use Rattle.std.proofs.Common.{◌≡◌, ℕ, zero, suc, ◌<◌, List, [], ◌∷◌, length, Some, None, option_map, refl, sym, ap, ◌∙◌, arith}
use Rattle.ir_types.specs.IrArena.{value_at, Span}
use Rattle.ir_types.specs.judged.Plain.{inner_view}
use Rattle.ir_types.specs.declared.types.IrType.{IrType}
use Rattle.typing_forms.specs.judged.Resolutions.{types_view, inner_at}

pub inner_value : (entries : List (IrType × Span)) (h : ℕ) → inner_at (types_view entries) h ≡ option_map (λ t. inner_view t.inner) (value_at entries h)
inner_value [] h = refl
inner_value (e ∷ es) zero = refl
inner_value (e ∷ es) (suc h) = inner_value es h

pub inner_found : (entries : List (IrType × Span)) (h : ℕ) (t : IrType) → Some t ≡ value_at entries h → Some (inner_view t.inner) ≡ inner_at (types_view entries) h
inner_found entries h t e = ap (option_map (λ (x : IrType). inner_view x.inner)) e ∙ sym (inner_value entries h)

pub inner_past : (entries : List (IrType × Span)) (h : ℕ) → (h < length entries → ⊥) → None ≡ inner_at (types_view entries) h
inner_past [] h n = refl
inner_past (e ∷ es) zero n = absurd (n (omega arith))
inner_past (e ∷ es) (suc h) n = inner_past es h (λ lt. n (omega arith))
