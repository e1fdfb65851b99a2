-- What the errors of a function say about its module.
use Rattle.std.proofs.Common.{◌≡◌, inl, inr, ℕ, Some, refl, sym, slice_get}
use Rattle.ir_items.specs.judged.Plain.{PlainFunction, PlainEntry, PlainModule}
use Rattle.typing_references.specs.Faults.{IsMissingFault, IsForwardOperand, IsForwardCallee, IsForwardParent}
use Rattle.typing_references.specs.declared.fault.HandleFault.{HandleFault}
use Rattle.typing_references.specs.declared.fault.HandleFault.TheVariants as fault
use Rattle.module_handles.specs.InOrder.{IsFaultIn, IsFunctionFault, IsEntryFault}
use Rattle.module_handles.proofs.OutsideFaults.{entry_fault}
use Rattle.spec_expressions.specs.judged.ModuleHandles.{in_function, in_entry}
use Rattle.spec_expressions.specs.judged.Order.{an_expression, a_function, a_filter, of_function, of_entry, filter_on_parent, expression_on_operand, function_on_callee, inside_function, inside_entry}

module _ (m : PlainModule) where
  -- ---- of a function

  missing_fault : (i : ℕ) (f : PlainFunction) (h : HandleFault) → slice_get m.functions i ≡ Some f → IsMissingFault m f h → IsFaultIn m h
  missing_fault i f (fault.Missing k place) at e = record { named = e.named; absent = in_function i at e.absent.names e.absent.absent; at = e.at }
  missing_fault i f (fault.Forward k place depends_on) at e = absurd e
  missing_fault i f (fault.Range first end) at e = in_function i at e.names e.absent

  operand_fault : (i : ℕ) (f : PlainFunction) (h : HandleFault) → slice_get m.functions i ≡ Some f → IsForwardOperand f.expressions h → IsFaultIn m h
  operand_fault i f (fault.Missing k place) at e = absurd e
  operand_fault i f (fault.Forward k place depends_on) at e =
      record { item = of_function i place; depends = of_function i depends_on; related = inside_function at e.1.1 e.1.2; forward = e.1.3; of_kind = sym e.0; both_of_kind = sym e.0; at = refl; depends_at = refl }
  operand_fault i f (fault.Range first end) at e = absurd e

  callee_fault : (i : ℕ) (f : PlainFunction) (h : HandleFault) → slice_get m.functions i ≡ Some f → IsForwardCallee i f h → IsFaultIn m h
  callee_fault i f (fault.Missing k place) at e = absurd e
  callee_fault i f (fault.Forward k place depends_on) at e =
      record { item = a_function i; depends = a_function depends_on; related = function_on_callee at e.2.1; forward = e.2.2; of_kind = sym e.0; both_of_kind = sym e.0; at = sym e.1; depends_at = refl }
  callee_fault i f (fault.Range first end) at e = absurd e

  pub function_fault : (i : ℕ) (f : PlainFunction) (h : HandleFault) → slice_get m.functions i ≡ Some f → IsFunctionFault m i f h → IsFaultIn m h
  function_fault i f h at (inl a) = missing_fault i f h at a
  function_fault i f h at (inr (inl b)) = operand_fault i f h at b
  function_fault i f h at (inr (inr c)) = callee_fault i f h at c

  -- ---- of the function of an entry point

  entry_missing_fault : (k : ℕ) (x : PlainEntry) (h : HandleFault) → slice_get m.entries k ≡ Some x → IsMissingFault m x.function h → IsFaultIn m h
  entry_missing_fault i x (fault.Missing k place) at e = record { named = e.named; absent = in_entry i at e.absent.names e.absent.absent; at = e.at }
  entry_missing_fault i x (fault.Forward k place depends_on) at e = absurd e
  entry_missing_fault i x (fault.Range first end) at e = in_entry i at e.names e.absent

  entry_operand_fault : (k : ℕ) (x : PlainEntry) (h : HandleFault) → slice_get m.entries k ≡ Some x → IsForwardOperand x.function.expressions h → IsFaultIn m h
  entry_operand_fault i x (fault.Missing k place) at e = absurd e
  entry_operand_fault i x (fault.Forward k place depends_on) at e =
      record { item = of_entry i place; depends = of_entry i depends_on; related = inside_entry at e.1.1 e.1.2; forward = e.1.3; of_kind = sym e.0; both_of_kind = sym e.0; at = refl; depends_at = refl }
  entry_operand_fault i x (fault.Range first end) at e = absurd e

  pub whole_entry_fault : (k : ℕ) (x : PlainEntry) (h : HandleFault) → slice_get m.entries k ≡ Some x → IsEntryFault m x h → IsFaultIn m h
  whole_entry_fault k x h at (inl a) = entry_fault m k x h at a
  whole_entry_fault k x h at (inr (inl b)) = entry_missing_fault k x h at b
  whole_entry_fault k x h at (inr (inr c)) = entry_operand_fault k x h at c

  -- ---- of global expressions and of filters

  pub global_operand_fault : (h : HandleFault) → IsForwardOperand m.global_expressions h → IsFaultIn m h
  global_operand_fault (fault.Missing k place) e = absurd e
  global_operand_fault (fault.Forward k place depends_on) e =
      record { item = an_expression place; depends = an_expression depends_on; related = expression_on_operand e.1.1 e.1.2; forward = e.1.3; of_kind = sym e.0; both_of_kind = sym e.0; at = refl; depends_at = refl }
  global_operand_fault (fault.Range first end) e = absurd e

  pub parent_fault : (h : HandleFault) → IsForwardParent m.filters h → IsFaultIn m h
  parent_fault (fault.Missing k place) e = absurd e
  parent_fault (fault.Forward k place depends_on) e =
      record { item = a_filter place; depends = a_filter depends_on; related = filter_on_parent e.1.1 e.1.2; forward = e.1.3; of_kind = sym e.0; both_of_kind = sym e.0; at = refl; depends_at = refl }
  parent_fault (fault.Range first end) e = absurd e
