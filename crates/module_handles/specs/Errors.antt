-- The meaning of the errors of handles.
use Rattle.std.specs.Prelude.{◌≡◌, ℕ, List, codes}
use Rattle.module_handles.specs.declared.error.InvalidHandleError.{InvalidHandleError}
use Rattle.module_handles.specs.declared.error.InvalidHandleError.TheVariants as error
use Rattle.ir_items.specs.judged.Plain.{PlainModule}
use Rattle.spec_expressions.specs.judged.ModuleHandles.{IsMissing, IsRangeOut, IsForward}
use Rattle.spec_expressions.specs.declared.item.ItemKind.{ItemKind}
use Rattle.spec_expressions.specs.declared.item.ItemKind.TheVariants as kind

-- the word for an item's kind
abbrev pub word_of : ItemKind → List ℕ
word_of kind.Type = codes "type"
word_of kind.Constant = codes "constant"
word_of kind.Override = codes "override"
word_of kind.Expression = codes "expression"
word_of kind.GlobalVariable = codes "global"
word_of kind.LocalVariable = codes "local"
word_of kind.Function = codes "function"
word_of kind.DiagnosticFilter = codes "filter"

-- The error is of something in the module: a handle that is out of bounds, an item that depends on another which does not
-- precede it, or a range of expressions that is out of bounds.
abbrev pub IsHandleError : PlainModule → InvalidHandleError → Type 0
IsHandleError m (error.BadHandle e) = (k : ItemKind) × (e.kind.now ≡ word_of k) × IsMissing m k e.index
IsHandleError m (error.ForwardDependency e) = (k : ItemKind) × (e.subject_kind.now ≡ word_of k) × (e.depends_on_kind.now ≡ word_of k) × IsForward m k e.subject e.depends_on
IsHandleError m (error.BadRange e) = (e.kind.now ≡ word_of kind.Expression) × IsRangeOut m (record { first = e.range.0; end = e.range.1 })
