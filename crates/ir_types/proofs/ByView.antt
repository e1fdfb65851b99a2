-- Types with equal views compare equal.
use Rattle.std.proofs.Common.{◌≡◌, Bool, true, false, true≢false, refl, sym, ◌∙◌}
use Rattle.ir_types.specs.judged.Plain.{type_view}
use Rattle.ir_types.specs.declared.types.IrType.{IrType}
use Rattle.ir_types.specs.contracts.types.IrTypePartialEq.TheImpl.{ghosts}
use Rattle.ir_types.proofs.TypeEquality.{type_eq}

-- two bools that imply each other are equal
same_truth : (x y : Bool) → (x ≡ true → y ≡ true) → (y ≡ true → x ≡ true) → x ≡ y
same_truth true y h k = sym (h refl)
same_truth false true h k = absurd (true≢false (sym (k refl)))
same_truth false false h k = refl

pub eq_by_view : (a b x y : IrType) → type_view a ≡ type_view b → type_view x ≡ type_view y → ghosts.eq a x ≡ ghosts.eq b y
eq_by_view a b x y e f =
    same_truth (ghosts.eq a x) (ghosts.eq b y) (λ h. (type_eq b y).1 (sym e ∙ ((type_eq a x).0 h ∙ f))) (λ h. (type_eq a x).1 (e ∙ ((type_eq b y).0 h ∙ sym f)))
