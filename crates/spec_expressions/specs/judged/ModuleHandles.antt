-- When the handles of a module are valid, and handle errors.
use Rattle.std.specs.Prelude.{◌≡◌, ℕ, Option, Some, None, slice_get}
use Rattle.ir_items.specs.judged.Plain.{PlainFunction, PlainEntry, PlainModule}
use Rattle.spec_expressions.specs.judged.FunctionHandles.{HandlesInRange}
use Rattle.spec_expressions.specs.judged.ModuleReferences.{ModulePart, NamesIn, IsThereIn}
use Rattle.spec_expressions.specs.judged.Order.{Ordered, kind_of, place_of, DependsOn, IsBefore}
use Rattle.spec_expressions.specs.judged.References.{Site, Named, item, operand, range, Names, IsThere}
use Rattle.spec_expressions.specs.judged.Kinds.{Emitted}
use Rattle.spec_expressions.specs.declared.item.ItemKind.{ItemKind}
use Rattle.spec_expressions.specs.declared.item.ItemKind.TheVariants as kind
use Rattle.spec_expressions.specs.declared.target.Target.TheVariants as target

-- All items referred to exist, ranges are in bounds, and each item comes after its dependencies.
pub record HandlesOK (m : PlainModule) : Type 0 where
  pub there : (part : ModulePart) (named : Named) → NamesIn m part named → IsThereIn m named
  pub functions : (i : ℕ) (f : PlainFunction) → slice_get m.functions i ≡ Some f → HandlesInRange m f
  pub entries : (k : ℕ) (x : PlainEntry) → slice_get m.entries k ≡ Some x → HandlesInRange m x.function
  pub back : (item depends : Ordered) → DependsOn m item depends → IsBefore depends item

-- ---- handle errors

-- the kind and the index of the item that a handle refers to
abbrev pub named_at : Named → Option (ItemKind × ℕ)
named_at (item (target.Type handle)) = Some (kind.Type, handle)
named_at (item (target.Constant handle)) = Some (kind.Constant, handle)
named_at (item (target.Override handle)) = Some (kind.Override, handle)
named_at (item (target.GlobalVariable handle)) = Some (kind.GlobalVariable, handle)
named_at (item (target.LocalVariable handle)) = Some (kind.LocalVariable, handle)
named_at (item (target.Function handle)) = Some (kind.Function, handle)
named_at (item (target.DiagnosticFilter handle)) = Some (kind.DiagnosticFilter, handle)
named_at (operand e) = Some (kind.Expression, e)
named_at (range r) = None

-- A part of the module, of a function, or of the function of an entry point refers to something that does not exist.
pub data IsAbsent (m : PlainModule) : Named → Type 0 where
  in_module : {part : ModulePart} {named : Named} → NamesIn m part named → ¬ IsThereIn m named → IsAbsent m named
  in_function : (i : ℕ) {f : PlainFunction} {site : Site} {named : Named} → slice_get m.functions i ≡ Some f → Names f site named → ¬ IsThere m f named
      → IsAbsent m named
  in_entry : (k : ℕ) {x : PlainEntry} {site : Site} {named : Named} → slice_get m.entries k ≡ Some x → Names x.function site named
      → ¬ IsThere m x.function named → IsAbsent m named

-- An item of this kind at this index is referred to, and does not exist.
pub record IsMissing (m : PlainModule) (k : ItemKind) (place : ℕ) : Type 0 where
  pub named : Named
  pub absent : IsAbsent m named
  pub at : named_at named ≡ Some (k, place)

-- A range of expressions ends before it begins, or is out of bounds.
abbrev pub IsRangeOut : PlainModule → Emitted → Type 0
IsRangeOut m r = IsAbsent m (range r)

-- Of two items of this kind, at these indices, the first depends on the second, which doesn't precede it.
pub record IsForward (m : PlainModule) (k : ItemKind) (place depends_on : ℕ) : Type 0 where
  pub item : Ordered
  pub depends : Ordered
  pub related : DependsOn m item depends
  pub forward : ¬ IsBefore depends item
  pub of_kind : kind_of item ≡ k
  pub both_of_kind : kind_of depends ≡ k
  pub at : place_of item ≡ place
  pub depends_at : place_of depends ≡ depends_on
