-- Two types have the same `TypeInner` exactly if they compare equal.
use Rattle.std.proofs.Common.{◌≡◌, ◌↔◌, IsTrue, None, ap}
use Rattle.ir_types.proofs.TypeEquality.{type_eq}
use Rattle.ir_types.specs.judged.Plain.{PlainType, inner_view}
use Rattle.ir_types.specs.contracts.types.TypeInnerPartialEq.TheImpl as of_inner
use Rattle.ir_types.specs.declared.types.IrType.{IrType}
use Rattle.ir_types.specs.declared.types.TypeInner.{TypeInner}

-- a type without a name
abbrev unnamed : TypeInner → IrType
unnamed i = record { name = None; inner = i }

pub inner_equality : (a b : TypeInner) → IsTrue (of_inner.ghosts.eq a b) ↔ (inner_view a ≡ inner_view b)
inner_equality a b =
    ((λ e. ap (λ (t : PlainType). t.inner) ((type_eq (unnamed a) (unnamed b)).0 e)), (λ e. (type_eq (unnamed a) (unnamed b)).1 (λ i. record { name = None; inner = e i })))
