-- What valid handles imply for the later steps, and what errors of handles refute.
use Rattle.std.proofs.Common.{inl, inr, ℕ, suc, List, [], ◌∷◌, Contains, arith}
use Rattle.module_handles.specs.declared.error.InvalidHandleError.{InvalidHandleError}
use Rattle.module_handles.specs.declared.error.InvalidHandleError.TheVariants as error
use Rattle.ir_items.specs.judged.Plain.{PlainModule}
use Rattle.module_constants.specs.Known.{AreThere}
use Rattle.module_handles.specs.Errors.{IsHandleError}
use Rattle.typing_rules.specs.judged.Laws.{IsAmong}
use Rattle.spec_expressions.specs.judged.ModuleHandles.{HandlesOK, IsAbsent, in_module, in_function, in_entry}
use Rattle.spec_expressions.specs.judged.ModuleReferences as part
use Rattle.spec_expressions.specs.judged.References.{Named, item, operand}
use Rattle.spec_expressions.specs.declared.target.Target.TheVariants as target

among_contains : (xs : List ℕ) (x : ℕ) → IsAmong x xs → Contains xs x
among_contains [] x among = absurd among
among_contains (y ∷ ys) x (inl e) = (0, omega arith, e)
among_contains (y ∷ ys) x (inr rest) =
    let there = among_contains ys x rest in
    let lt = there.1 in
    (suc there.0, omega (arith, lt), there.2)

pub named_are_there : (m : PlainModule) → HandlesOK m → AreThere m
named_are_there m ok = record {
  constant_types = λ h c at. ok.there (part.constant h) (item (target.Type c.ty)) (part.constant_type at);
  constant_values = λ h c at. ok.there (part.constant h) (operand c.init) (part.constant_value at);
  override_types = λ h o at. ok.there (part.override h) (item (target.Type o.ty)) (part.override_type at);
  override_values = λ h init o at has. ok.there (part.override h) (operand init) (part.override_value at has);
  components = λ h type component all at among. ok.there (part.expression h) (operand component) (part.expression_reads at (among_contains all component among));
}

absent_refutes : (m : PlainModule) (named : Named) → IsAbsent m named → HandlesOK m → ⊥
absent_refutes m named (in_module {part = p} names missing) ok = missing (ok.there p named names)
absent_refutes m named (in_function i {f = f} {site = site} at names missing) ok = missing (ok.functions i f at site named names)
absent_refutes m named (in_entry k {x = x} {site = site} at names missing) ok = missing (ok.entries k x at site named names)

pub handle_refuted : (m : PlainModule) (e : InvalidHandleError) → IsHandleError m e → HandlesOK m → ⊥
handle_refuted m (error.BadHandle e) wrong ok = absent_refutes m wrong.2.named wrong.2.absent ok
handle_refuted m (error.ForwardDependency e) wrong ok = wrong.3.forward (ok.back wrong.3.item wrong.3.depends wrong.3.related)
handle_refuted m (error.BadRange e) wrong ok = absent_refutes m _ wrong.1 ok
