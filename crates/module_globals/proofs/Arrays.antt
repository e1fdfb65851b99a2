-- The element type of a binding array precedes it.
use Rattle.std.proofs.Common.{◌≡◌, ◌<◌, ℕ, List, [], Option, Some, length, refl, subst, arith}
use Rattle.std.proofs.lemmas.List.Elements.{All-head}
use Rattle.ir_types.specs.judged.Plain.{PlainInner, plain, PlainType}
use Rattle.ir_types.specs.declared.types.TypeInner.TheVariants as inner
use Rattle.spec_interface.specs.judged.Spaces.{array_base}
use Rattle.typing_forms.specs.judged.Order.{TypesGoBack}
use Rattle.typing_forms.specs.judged.Resolutions.{inner_at}

same : (b base : ℕ) → Some b ≡ Some base → b ≡ base
same b base e = cc

base_before : (types : List PlainType) → TypesGoBack types → (type base : ℕ) (o : Option PlainInner) → inner_at types type ≡ o → array_base o ≡ Some base → base < type
base_before types back type base (Some (plain (inner.BindingArray b n))) at e =
    subst (λ k. k < type) (same b base e) (All-head (λ named. named < type) b [] (back.each type (plain (inner.BindingArray b n)) at))
base_before types back type base _ at e = cc

pub base_there : (types : List PlainType) → TypesGoBack types → (type base : ℕ) → type < length types → array_base (inner_at types type) ≡ Some base → base < length types
base_there types back type base within e =
    let before = base_before types back type base (inner_at types type) refl e in
    omega (arith, before, within)
