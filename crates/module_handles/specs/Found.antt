-- The errors of a module's handles outside its functions, as the checks find them; `spec_expressions` states the requirements of
-- the handles.
use Rattle.std.specs.Prelude.{ℕ, ◌+◌, List, nat_lt, if◌then◌else◌, Option, Some, None, option_map, option_and_then, slice_get}
use Rattle.std.specs.Option.{option_or}
use Rattle.ir_types.specs.judged.ExpressionPlain.{PlainExpression}
use Rattle.ir_items.specs.judged.GlobalPlain.{PlainConstant, PlainOverride, PlainGlobal, PlainSpecialTypes}
use Rattle.ir_items.specs.judged.Plain.{PlainEntry, PlainModule}
use Rattle.typing_references.specs.Faults.{missing, item_missing}
use Rattle.typing_references.specs.First.{first_past}
use Rattle.typing_references.specs.declared.bounds.Bounds.{Bounds}
use Rattle.typing_references.specs.declared.fault.HandleFault.{HandleFault}
use Rattle.typing_references.specs.declared.fault.HandleFault.TheVariants as fault
use Rattle.ir_types.specs.judged.Plain.{PlainInner}
use Rattle.module_handles.specs.LookupFound.{type_of, init_of, forward, counted_by}
use Rattle.spec_expressions.specs.judged.ExpressionNames.{expression_item}
use Rattle.spec_expressions.specs.judged.ItemNames.{pending_of, special_types, mesh_types, mesh_expressions, entry_variables}
use Rattle.spec_expressions.specs.declared.item.ItemKind.{ItemKind}
use Rattle.spec_expressions.specs.declared.item.ItemKind.TheVariants as kind
use Rattle.spec_expressions.specs.declared.target.Target.{Target}
use Rattle.spec_expressions.specs.declared.target.Target.TheVariants as target
use Rattle.typing_forms.specs.judged.Order.{named_types}

-- ---- out of bounds

-- the first of these indices that is out of bounds
abbrev pub first_missing : ItemKind → (there : ℕ) → List ℕ → Option HandleFault
first_missing k there places = option_map (λ place. fault.Missing k place) (first_past there places)

abbrev pub special_missing : Bounds → PlainSpecialTypes → Option HandleFault
special_missing b special = first_missing kind.Type b.types (special_types special)

abbrev pub leaf_missing : Bounds → Option ℕ → Option HandleFault
leaf_missing b leaf = option_and_then (missing kind.DiagnosticFilter b.filters) leaf

abbrev pub constant_missing : Bounds → PlainConstant → Option HandleFault
constant_missing b x = option_or (missing kind.Type b.types x.ty) (missing kind.Expression b.expressions x.init)

abbrev pub override_missing : Bounds → PlainOverride → Option HandleFault
override_missing b x = option_or (missing kind.Type b.types x.ty) (option_and_then (missing kind.Expression b.expressions) x.init)

abbrev pub variable_missing : Bounds → PlainGlobal → Option HandleFault
variable_missing b x = option_or (missing kind.Type b.types x.ty) (option_and_then (missing kind.Expression b.expressions) x.init)

abbrev pub entry_missing : Bounds → PlainEntry → Option HandleFault
entry_missing b x =
    option_or (first_missing kind.Type b.types (mesh_types x.mesh)) (option_or (first_missing kind.Expression b.expressions (mesh_expressions x.mesh))
    (first_missing kind.GlobalVariable b.global_variables (entry_variables x)))

-- the items that a global expression references, operands aside
abbrev pub named_missing : Bounds → PlainExpression → Option HandleFault
named_missing b x = option_and_then (item_missing b) (expression_item x)

-- the override that gives the length of an array type
abbrev pub pending_missing : Bounds → PlainInner → Option HandleFault
pending_missing b i = option_and_then (missing kind.Override b.overrides) (pending_of i)

-- ---- forward dependencies

-- of the initializer of the constant or override that a global expression references
abbrev pub init_forward : PlainModule → ℕ → PlainExpression → Option HandleFault
init_forward m e x = option_and_then (forward kind.Expression e) (option_and_then (init_of m) (expression_item x))

-- of the types that a type references
abbrev pub built_forward : ℕ → PlainInner → Option HandleFault
built_forward place i = option_map (λ t. fault.Forward kind.Type place t) (first_past place (named_types i))

-- of the type that a global expression references
abbrev pub named_forward : PlainModule → ℕ → PlainExpression → Option HandleFault
named_forward m place x = option_and_then (forward kind.Type place) (option_and_then (type_of m) (expression_item x))

-- the number of global expressions up to this one
abbrev pub up_to : Option ℕ → ℕ
up_to None = 0
up_to (Some e) = e + 1

-- the number of global expressions to check for a type
abbrev pub looked_through : PlainModule → PlainInner → ℕ
looked_through m i = up_to (option_and_then (init_of m) (counted_by i))
