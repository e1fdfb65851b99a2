-- A module with valid handles satisfies what later passes require.
use Rattle.std.proofs.Common.{◌≡◌, ℕ, ◌<◌, List, Some, sym, subst, slice_get, length, All, Contains}
use Rattle.std.proofs.lemmas.List.Elements.{All-contains_itself}
use Rattle.ir_types.specs.judged.ExpressionPlain.{PlainExpression}
use Rattle.ir_types.specs.judged.Plain.{PlainType}
use Rattle.ir_items.specs.judged.Plain.{PlainFunction, PlainEntry, PlainModule}
use Rattle.typing_references.proofs.FaultLaws.{map_some}
use Rattle.typing_handles.specs.Conditions.{FunctionConditions, ModuleConditions, OrderGivesConditions}
use Rattle.spec_expressions.specs.judged.FunctionHandles.{OperandsPrecede}
use Rattle.spec_expressions.specs.judged.ExpressionNames.{expression_operands}
use Rattle.spec_expressions.specs.judged.ModuleHandles.{HandlesOK}
use Rattle.spec_expressions.specs.judged.Order.{a_type, a_filter, a_function, an_expression, of_function, of_entry, type_on_named, filter_on_parent, expression_on_operand, function_on_callee, inside_function, inside_entry}
use Rattle.spec_expressions.specs.judged.References.{item}
use Rattle.spec_expressions.specs.declared.target.Target.TheVariants as target
use Rattle.typing_forms.specs.judged.Order.{named_types, TypesGoBack}

module _ (m : PlainModule) (ok : HandlesOK m) where
  go_back : TypesGoBack m.types
  go_back = record {
    each = λ handle i at. (let r = map_some (λ (t : PlainType). t.inner) (slice_get m.types handle) i at in
        subst (λ z. All (λ named. named < handle) (named_types z)) (sym r.2) (each_back handle r.0 r.1));
  }
    where
      each_back : (place : ℕ) (x : PlainType) → slice_get m.types place ≡ Some x → All (λ named. named < place) (named_types x.inner)
      each_back place x at k d lt = ok.back (a_type place) (a_type _) (type_on_named at (All-contains_itself (named_types x.inner) k d lt))

  back_in : (xs : List PlainExpression) → ((e o : ℕ) (x : PlainExpression) → slice_get xs e ≡ Some x → Contains (expression_operands x) o → o < e) → OperandsPrecede xs
  back_in xs before e x at k d lt = before e _ x at (All-contains_itself (expression_operands x) k d lt)

  of_a_function : (i : ℕ) (f : PlainFunction) → slice_get m.functions i ≡ Some f → FunctionConditions m i f
  of_a_function i f at = record {
    in_range = ok.functions i f at;
    operands = back_in f.expressions (λ e o x there c. ok.back (of_function i e) (of_function i o) (inside_function at there c));
    callees = λ site callee names. ok.back (a_function i) (a_function callee) (function_on_callee at names);
  }

  of_an_entry : (k : ℕ) (x : PlainEntry) → slice_get m.entries k ≡ Some x → FunctionConditions m (length m.functions) x.function
  of_an_entry k x at = record {
    in_range = ok.entries k x at;
    operands = back_in x.function.expressions (λ e o y there c. ok.back (of_entry k e) (of_entry k o) (inside_entry at there c));
    callees = λ site callee names. ok.entries k x at site (item (target.Function callee)) names;
  }

  pub conditions : ModuleConditions m
  conditions = record {
    types = go_back;
    filters = λ place parent node at is. ok.back (a_filter place) (a_filter parent) (filter_on_parent at is);
    global_expressions = back_in m.global_expressions (λ e o x there c. ok.back (an_expression e) (an_expression o) (expression_on_operand there c));
    functions = of_a_function;
    entries = of_an_entry;
  }

pub order_gives_conditions : OrderGivesConditions
order_gives_conditions m ok = conditions m ok
