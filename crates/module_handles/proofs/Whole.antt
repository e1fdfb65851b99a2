-- If all parts of a module are valid, the whole is valid.
use Rattle.std.proofs.Common.{◌≡◌, ℕ, ◌+◌, ◌<◌, List, Some, option_map, option_and_then, sym, ap, ◌∙◌, subst, slice_get, length, All, Contains, arith}
use Rattle.std.proofs.lemmas.List.Elements.{All-contains}
use Rattle.std.proofs.lemmas.Option.{slice_get_within}
use Rattle.ir_types.specs.judged.ExpressionPlain.{PlainExpression}
use Rattle.ir_items.specs.judged.GlobalPlain.{PlainConstant, PlainOverride}
use Rattle.ir_items.specs.judged.Plain.{PlainModule}
use Rattle.typing_references.proofs.FaultLaws.{missing_none, then_none, map_none}
use Rattle.typing_references.proofs.FirstLaws.{or_none, below_each}
use Rattle.typing_references.specs.Faults.{outside_functions, missing, item_missing}
use Rattle.ir_types.specs.judged.Plain.{PlainInner, PlainType}
use Rattle.ir_items.specs.found.Filters.{ParentsPrecede}
use Rattle.module_handles.proofs.OutsideFaults.{forward_none, each_there, item_there, type_found}
use Rattle.module_handles.specs.Found.{up_to, looked_through}
use Rattle.module_handles.specs.LookupFound.{type_of, init_of, forward, counted_by}
use Rattle.module_handles.specs.InOrder.{TypesOK, ItemsOK, GlobalExpressionsOK, FunctionsOK, EntriesOK}
use Rattle.spec_expressions.specs.judged.FunctionHandles.{OperandsPrecede}
use Rattle.spec_expressions.specs.judged.ExpressionNames.{expression_operands, expression_item}
use Rattle.spec_expressions.specs.judged.ModuleHandles.{HandlesOK}
use Rattle.spec_expressions.specs.judged.ItemNames.{pending_of, special_types, mesh_types, mesh_expressions, entry_variables}
use Rattle.spec_expressions.specs.judged.ModuleReferences.{ModulePart, NamesIn, type_names, type_counts, special_names, filter_names, leaf_names, constant_type, constant_value, override_type, override_value, expression_names, expression_reads, variable_type, variable_value, entry_type, entry_expression, entry_variable, IsThereIn}
use Rattle.spec_expressions.specs.judged.Order.{Ordered, DependsOn, type_on_named, type_on_override, type_on_expression, filter_on_parent, expression_on_operand, expression_on_constant, expression_on_override, function_on_callee, inside_function, inside_entry, IsBefore}
use Rattle.spec_expressions.specs.judged.References.{Named}
use Rattle.spec_expressions.specs.declared.item.ItemKind.TheVariants as kind
use Rattle.spec_expressions.specs.declared.target.Target.TheVariants as target
use Rattle.typing_forms.specs.judged.Order.{named_types}

-- an index that precedes an item of the list is in the list
earlier : {A : Type 0} (xs : List A) (place named : ℕ) (x : A) → slice_get xs place ≡ Some x → named < place → named < length xs
earlier xs place named x at before = let within = slice_get_within xs place x at in omega (arith, within, before)

operand_before : (xs : List PlainExpression) (e o : ℕ) (x : PlainExpression) → OperandsPrecede xs → slice_get xs e ≡ Some x → Contains (expression_operands x) o → o < e
operand_before xs e o x precede at c = All-contains (λ y. y < e) (expression_operands x) o (precede e x at) c

module _ (m : PlainModule) (types : TypesOK m) (items : ItemsOK m) (globals : GlobalExpressionsOK m) (operands : OperandsPrecede m.global_expressions) (parents : ParentsPrecede m.filters)
    (functions : FunctionsOK m) (entries : EntriesOK m) where
  -- ---- every handle is in bounds

  type_before : (place t : ℕ) (x : PlainType) → slice_get m.types place ≡ Some x → Contains (named_types x.inner) t → t < place
  type_before place t x at c = below_each place (named_types x.inner) (map_none _ _ (types place x at).built) t c

  names_there : (part : ModulePart) (named : Named) → NamesIn m part named → IsThereIn m named
  names_there _ _ (type_names {i = i} {t = t} {x = x} at c) = earlier m.types i t x at (type_before i t x at c)
  names_there _ _ (type_counts {i = i} {o = o} {x = x} at is) = missing_none kind.Override _ o (then_none (missing kind.Override (length m.overrides)) (pending_of x.inner) (types i x at).there o is)
  names_there _ _ (special_names {t = t} c) = each_there kind.Type _ (special_types m.special) items.special t c
  names_there _ _ (filter_names {i = i} {p = p} {x = x} at is) = earlier m.filters i p x at (parents i p x at is)
  names_there _ _ (leaf_names {n = n} is) = missing_none kind.DiagnosticFilter _ n (then_none (missing kind.DiagnosticFilter (length m.filters)) m.leaf items.leaf n is)
  names_there _ _ (constant_type {i = i} {x = x} at) = missing_none kind.Type _ x.ty (or_none _ _ (items.constants i x at)).0
  names_there _ _ (constant_value {i = i} {x = x} at) = missing_none kind.Expression _ x.init (or_none _ _ (items.constants i x at)).1
  names_there _ _ (override_type {i = i} {x = x} at) = missing_none kind.Type _ x.ty (or_none _ _ (items.overrides i x at)).0
  names_there _ _ (override_value {i = i} {e = e} {x = x} at is) =
      missing_none kind.Expression _ e (then_none (missing kind.Expression (length m.global_expressions)) x.init (or_none _ _ (items.overrides i x at)).1 e is)
  names_there _ _ (expression_names {i = i} {x = x} {t = t} at is) = item_there m t (then_none (item_missing (outside_functions m)) (expression_item x) (globals i x at).there t is)
  names_there _ _ (expression_reads {i = i} {o = o} {x = x} at c) = earlier m.global_expressions i o x at (operand_before m.global_expressions i o x operands at c)
  names_there _ _ (variable_type {i = i} {x = x} at) = missing_none kind.Type _ x.ty (or_none _ _ (items.variables i x at)).0
  names_there _ _ (variable_value {i = i} {e = e} {x = x} at is) =
      missing_none kind.Expression _ e (then_none (missing kind.Expression (length m.global_expressions)) x.init (or_none _ _ (items.variables i x at)).1 e is)
  names_there _ _ (entry_type {k = k} {t = t} {x = x} at c) = each_there kind.Type _ (mesh_types x.mesh) (or_none _ _ (entries k x at).itself).0 t c
  names_there _ _ (entry_expression {k = k} {e = e} {x = x} at c) = each_there kind.Expression _ (mesh_expressions x.mesh) (or_none _ _ (or_none _ _ (entries k x at).itself).1).0 e c
  names_there _ _ (entry_variable {k = k} {v = v} {x = x} at c) = each_there kind.GlobalVariable _ (entry_variables x) (or_none _ _ (or_none _ _ (entries k x at).itself).1).1 v c

  -- ---- each item follows its dependencies

  -- the override that gives the length of a type, and its initializer
  counted : (i : PlainInner) (o : ℕ) → pending_of i ≡ Some o → counted_by i ≡ Some (target.Override o)
  counted i o is = ap (option_map (λ (handle : ℕ). target.Override handle)) is

  override_begins : (o init : ℕ) (x : PlainOverride) → slice_get m.overrides o ≡ Some x → x.init ≡ Some init → init_of m (target.Override o) ≡ Some init
  override_begins o init x at is = ap (option_and_then (λ (y : PlainOverride). y.init)) at ∙ is

  depends_back : (first second : Ordered) → DependsOn m first second → IsBefore second first
  depends_back _ _ (type_on_named {i = i} {t = t} {x = x} at c) = type_before i t x at c
  depends_back _ _ (type_on_override {i = i} {o = o} {x = x} {override = override} at counts is) =
      forward_none kind.Type i override.ty
      (then_none (forward kind.Type i) _ (types i x at).counted override.ty (ap (option_and_then (type_of m)) (counted x.inner o counts) ∙ ap (option_map (λ (y : PlainOverride). y.ty)) is))
  depends_back _ _ (type_on_expression {i = i} {o = o} {init = init} {e = e} {t = t} {x = x} {override = override} {y = y} at counts is begins up there names) =
      let all : looked_through m x.inner ≡ init + 1 = ap up_to (ap (option_and_then (init_of m)) (counted x.inner o counts) ∙ override_begins o init override is begins) in
      let before : e < looked_through m x.inner = subst (λ n. e < n) (sym all) (omega (arith, up)) in
      forward_none kind.Type i t (then_none (forward kind.Type i) _ ((types i x at).looked e y (omega arith) before there) t (type_found m y t names))
  depends_back _ _ (filter_on_parent {i = i} {p = p} {x = x} at is) = parents i p x at is
  depends_back _ _ (expression_on_operand {e = e} {o = o} {x = x} at c) = operand_before m.global_expressions e o x operands at c
  depends_back _ _ (expression_on_constant {e = e} {c = c} {x = x} {constant = constant} at names is) =
      forward_none kind.Expression e constant.init
      (then_none (forward kind.Expression e) _ (globals e x at).init constant.init (ap (option_and_then (init_of m)) names ∙ ap (option_map (λ (y : PlainConstant). y.init)) is))
  depends_back _ _ (expression_on_override {e = e} {o = o} {init = init} {x = x} {override = override} at names is begins) =
      forward_none kind.Expression e init (then_none (forward kind.Expression e) _ (globals e x at).init init (ap (option_and_then (init_of m)) names ∙ override_begins o init override is begins))
  depends_back _ _ (function_on_callee {i = i} {c = c} {f = f} {site = site} at names) = (functions i f at).callees site c names
  depends_back _ _ (inside_function {i = i} {e = e} {o = o} {f = f} {x = x} at there c) = operand_before f.expressions e o x (functions i f at).operands there c
  depends_back _ _ (inside_entry {k = k} {e = e} {o = o} {entry = entry} {x = x} at there c) = operand_before entry.function.expressions e o x (entries k entry at).operands there c

  pub whole : HandlesOK m
  whole = record { there = names_there; functions = λ i f at. (functions i f at).in_range; entries = λ k x at. (entries k x at).there; back = depends_back }
