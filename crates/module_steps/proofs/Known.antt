-- The preconditions of the check of global variables.
use Rattle.std.proofs.Common.{◌≡◌, ◌<◌, ℕ, zero, suc, List, [], ◌∷◌, Option, Some, None, IfSome, length, slice_get, refl, arith}
use Rattle.module_globals.specs.There.{IsThere}
use Rattle.ir_items.specs.judged.GlobalPlain.{PlainGlobal}
use Rattle.ir_items.specs.judged.Plain.{PlainModule}
use Rattle.typing_handles.proofs.Ordered.{conditions}
use Rattle.spec_expressions.specs.judged.ModuleHandles.{HandlesOK}
use Rattle.spec_expressions.specs.judged.ModuleReferences as part
use Rattle.spec_expressions.specs.judged.References.{item, operand}
use Rattle.spec_expressions.specs.declared.target.Target.TheVariants as target

-- the element at an index of a list
at_place : {A : Type 0} (xs : List A) (k : ℕ) → k < length xs → (x : A) × (slice_get xs k ≡ Some x)
at_place [] k lt = absurd (omega (arith, lt))
at_place (x ∷ xs) zero lt = (x, refl)
at_place (x ∷ xs) (suc k) lt = at_place xs k (omega (arith, lt))

module _ (m : PlainModule) (ok : HandlesOK m) (handle : ℕ) where
  value_there : (v : PlainGlobal) → slice_get m.globals handle ≡ Some v → (init : Option ℕ) → v.init ≡ init → IfSome init (λ e. e < length m.global_expressions)
  value_there v at None is = tt
  value_there v at (Some e) is = ok.there (part.variable handle) (operand e) (part.variable_value at is)

  -- the variable at a handle exists, with its type and initializer
  pub is_there : handle < length m.globals → IsThere m handle
  is_there lt =
      let here = at_place m.globals handle lt in
      record {
        variable = here.0;
        at = here.1;
        placed = record {
          typed = ok.there (part.variable handle) (item (target.Type here.0.ty)) (part.variable_type here.1);
          begins = value_there here.0 here.1 here.0.init refl;
        };
        back = (conditions m ok).types;
      }
