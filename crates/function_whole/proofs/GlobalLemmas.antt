-- A global variable of a module whose handles are in order.
use Rattle.std.proofs.Common.{◌≡◌, ◌<◌, ℕ, Option, Some, None, IfSome, length, slice_get, refl}
use Rattle.module_globals.specs.There.{IsPlaced}
use Rattle.ir_items.specs.judged.GlobalPlain.{PlainGlobal}
use Rattle.ir_items.specs.judged.Plain.{PlainModule}
use Rattle.spec_expressions.specs.judged.ModuleHandles.{HandlesOK}
use Rattle.spec_expressions.specs.judged.ModuleReferences as part
use Rattle.spec_expressions.specs.judged.References.{item, operand}
use Rattle.spec_expressions.specs.declared.target.Target.TheVariants as target

module _ (m : PlainModule) (ok : HandlesOK m) (handle : ℕ) (v : PlainGlobal) (at : slice_get m.globals handle ≡ Some v) where
  pub value_there : (e : ℕ) → v.init ≡ Some e → e < length m.global_expressions
  value_there e is = ok.there (part.variable handle) (operand e) (part.variable_value at is)

  begins_there : (init : Option ℕ) → v.init ≡ init → IfSome init (λ e. e < length m.global_expressions)
  begins_there None is = tt
  begins_there (Some e) is = value_there e is

  pub is_placed : IsPlaced m v
  is_placed = record {
    typed = ok.there (part.variable handle) (item (target.Type v.ty)) (part.variable_type at);
    begins = begins_there v.init refl;
  }
