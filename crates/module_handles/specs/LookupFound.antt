-- Types and initializers of referenced items, and forward dependencies; `spec_expressions` states the requirements of them.
use Rattle.std.specs.Prelude.{ℕ, nat_lt, if◌then◌else◌, Option, Some, None, option_map, option_and_then, slice_get}
use Rattle.ir_items.specs.judged.GlobalPlain.{PlainConstant, PlainOverride}
use Rattle.ir_items.specs.judged.Plain.{PlainModule}
use Rattle.typing_references.specs.declared.fault.HandleFault.{HandleFault}
use Rattle.typing_references.specs.declared.fault.HandleFault.TheVariants as fault
use Rattle.ir_types.specs.judged.Plain.{PlainInner}
use Rattle.spec_expressions.specs.judged.ItemNames.{pending_of}
use Rattle.spec_expressions.specs.declared.item.ItemKind.{ItemKind}
use Rattle.spec_expressions.specs.declared.item.ItemKind.TheVariants as kind
use Rattle.spec_expressions.specs.declared.target.Target.{Target}
use Rattle.spec_expressions.specs.declared.target.Target.TheVariants as target

-- the type of an item
abbrev pub type_of : PlainModule → Target → Option ℕ
type_of m (target.Type handle) = Some handle
type_of m (target.Constant handle) = option_map (λ (x : PlainConstant). x.ty) (slice_get m.constants handle)
type_of m (target.Override handle) = option_map (λ (x : PlainOverride). x.ty) (slice_get m.overrides handle)
type_of m (target.GlobalVariable handle) = None
type_of m (target.LocalVariable handle) = None
type_of m (target.Function handle) = None
type_of m (target.DiagnosticFilter handle) = None

-- the initializer of a constant or an override
abbrev pub init_of : PlainModule → Target → Option ℕ
init_of m (target.Type handle) = None
init_of m (target.Constant handle) = option_map (λ (x : PlainConstant). x.init) (slice_get m.constants handle)
init_of m (target.Override handle) = option_and_then (λ (x : PlainOverride). x.init) (slice_get m.overrides handle)
init_of m (target.GlobalVariable handle) = None
init_of m (target.LocalVariable handle) = None
init_of m (target.Function handle) = None
init_of m (target.DiagnosticFilter handle) = None

-- an item of this kind has a forward dependency
abbrev pub forward : ItemKind → (place depends_on : ℕ) → Option HandleFault
forward k place depends_on = if nat_lt depends_on place then None else Some (fault.Forward k place depends_on)

-- the override that gives the length of a type, as an item
abbrev pub counted_by : PlainInner → Option Target
counted_by i = option_map (λ o. target.Override o) (pending_of i)

-- of that override's type
abbrev pub counted_forward : PlainModule → ℕ → PlainInner → Option HandleFault
counted_forward m place i = option_and_then (forward kind.Type place) (option_and_then (type_of m) (counted_by i))
