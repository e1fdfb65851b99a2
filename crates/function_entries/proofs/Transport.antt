-- What is said of uses is said of any that are the same for the variables of the module.
use Rattle.std.proofs.Common.{◌<◌, ℕ, length}
use Rattle.std.specs.Prelude.{◌↔◌}
use Rattle.std.proofs.lemmas.Option.{slice_get_within}
use Rattle.function_entry_checks.proofs.UsedLaws.{bound_within, lies_within}
use Rattle.function_entry_checks.specs.Faults.{IsBindingFault, IsFaultOfOne, IsImmediateFault, IsUseFault, IsVariableFault, of_payload, of_stage, of_uses, IsVariablesFault, of_immediates, of_one, of_bindings}
use Rattle.function_entry_checks.specs.declared.error.EntryPointError.{EntryPointError}
use Rattle.function_entry_checks.specs.declared.error.EntryPointError.TheVariants as error
use Rattle.function_entries.specs.ConnectionFaults.{IsConnectionFault, of_arguments, of_result, of_answer, of_variables, of_mesh}
use Rattle.ir_flags.specs.declared.settings.Capabilities.{Capabilities}
use Rattle.ir_flags.specs.declared.settings.ValidationFlags.{ValidationFlags}
use Rattle.ir_items.specs.judged.GlobalPlain.{PlainGlobal}
use Rattle.ir_items.specs.judged.Plain.{PlainEntry, PlainModule}
use Rattle.spec_interface.specs.judged.Entries.{ConnectionsOK}
use Rattle.spec_interface.specs.judged.UsedVariables.{IsUsed, UsedVariableOK, VariablesOK}

module _ (m : PlainModule) (e : PlainEntry) (U V : ℕ → ℕ → Type 0) (same : (g k : ℕ) → g < length m.globals → U g k ↔ V g k) where
  used_to : (g : ℕ) → g < length m.globals → IsUsed U g → IsUsed V g
  used_to g lt used = (used.0, (same g used.0 lt).0 used.1)

  used_back : (g : ℕ) → g < length m.globals → IsUsed V g → IsUsed U g
  used_back g lt used = (used.0, (same g used.0 lt).1 used.1)

  variable_to : (g : ℕ) (v : PlainGlobal) → g < length m.globals → UsedVariableOK m e g v (U g) → UsedVariableOK m e g v (V g)
  variable_to g v lt ok = record { payload = ok.payload; reached = ok.reached; allowed = λ k used. ok.allowed k ((same g k lt).1 used) }

  pub variables_to : (flags : ValidationFlags) → VariablesOK flags m e U → VariablesOK flags m e V
  variables_to flags ok = record {
    each = λ g v at used. (let lt = slice_get_within m.globals g v at in variable_to g v lt (ok.each g v at (used_back g lt used)));
    immediate = λ g h g_used h_used g_lies h_lies. ok.immediate g h (used_back g (lies_within m g g_lies) g_used) (used_back h (lies_within m h h_lies) h_used) g_lies h_lies;
    bound = λ asked g h b g_used h_used g_at h_at. ok.bound asked g h b (used_back g (bound_within m g b g_at) g_used) (used_back h (bound_within m h b h_at) h_used) g_at h_at;
  }

  pub connections_to : (flags : ValidationFlags) (capabilities : Capabilities) → ConnectionsOK flags capabilities m e U → ConnectionsOK flags capabilities m e V
  connections_to flags capabilities ok = record { arguments = ok.arguments; result = ok.result; answer = ok.answer; variables = variables_to flags ok.variables; mesh = ok.mesh }

  -- ---- faults

  use_to : (g : ℕ) (v : PlainGlobal) → g < length m.globals → (x : EntryPointError) → IsUseFault m e g v (U g) x → IsUseFault m e g v (V g) x
  use_to g v lt (error.InvalidGlobalUsage h kinds) fault = (
    fault.0,
    λ k. ((λ bit. (same g k lt).0 ((fault.1 k).0 bit)), (λ used. (fault.1 k).1 ((same g k lt).1 used))),
    λ allowed. fault.2 (λ k used. allowed k ((same g k lt).0 used)),
  )
  use_to g v lt _ fault = absurd fault

  one_to : (g : ℕ) (v : PlainGlobal) → g < length m.globals → (x : EntryPointError) → IsVariableFault m e g v (U g) x → IsVariableFault m e g v (V g) x
  one_to g v lt x (of_payload fault) = of_payload fault
  one_to g v lt x (of_stage fault) = of_stage fault
  one_to g v lt x (of_uses fault) = of_uses (use_to g v lt x fault)

  of_one_to : (x : EntryPointError) → IsFaultOfOne m e U x → IsFaultOfOne m e V x
  of_one_to x f =
      let lt = slice_get_within m.globals f.handle f.variable f.at in
      record { handle = f.handle; variable = f.variable; at = f.at; used = used_to f.handle lt f.used; fault = one_to f.handle f.variable lt x f.fault }

  immediates_to : (x : EntryPointError) → IsImmediateFault m U x → IsImmediateFault m V x
  immediates_to error.MoreThanOneImmediateUsed f = record {
    first = f.first;
    second = f.second;
    apart = f.apart;
    first_used = used_to f.first (lies_within m f.first f.first_lies) f.first_used;
    second_used = used_to f.second (lies_within m f.second f.second_lies) f.second_used;
    first_lies = f.first_lies;
    second_lies = f.second_lies;
  }
  immediates_to _ f = absurd f

  bindings_to : (x : EntryPointError) → IsBindingFault m U x → IsBindingFault m V x
  bindings_to (error.BindingCollision h) f = record {
    other = f.other;
    binding = f.binding;
    apart = f.apart;
    used = used_to h (bound_within m h f.binding f.bound) f.used;
    other_used = used_to f.other (bound_within m f.other f.binding f.other_bound) f.other_used;
    bound = f.bound;
    other_bound = f.other_bound;
  }
  bindings_to _ f = absurd f

  variables_fault_to : (flags : ValidationFlags) (x : EntryPointError) → IsVariablesFault flags m e U x → IsVariablesFault flags m e V x
  variables_fault_to flags x (of_immediates fault) = of_immediates (immediates_to x fault)
  variables_fault_to flags x (of_one fault) = of_one (of_one_to x fault)
  variables_fault_to flags x (of_bindings asked fault) = of_bindings asked (bindings_to x fault)

  pub connection_fault_to : (flags : ValidationFlags) (capabilities : Capabilities) (x : EntryPointError) → IsConnectionFault flags capabilities m e U x → IsConnectionFault flags capabilities m e V x
  connection_fault_to flags capabilities x (of_arguments fault) = of_arguments fault
  connection_fault_to flags capabilities x (of_result fault) = of_result fault
  connection_fault_to flags capabilities x (of_answer fault) = of_answer fault
  connection_fault_to flags capabilities x (of_variables fault) = of_variables (variables_fault_to flags x fault)
  connection_fault_to flags capabilities x (of_mesh i said fault) = of_mesh i said fault
