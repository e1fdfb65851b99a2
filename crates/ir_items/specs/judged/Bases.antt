-- The expression at the end of a chain of access bases.
use Rattle.std.specs.Prelude.{◌≡◌, ℕ, ◌<◌, List, map, Option, Some, None, slice_get}
use Rattle.ir_blocks.specs.IrArena.{Span}
use Rattle.ir_blocks.specs.IrTypes.{Expression, Access, AccessIndex, GlobalVariable, PlainExpression, plain_expression as plain, expression_view}
use Rattle.ir_items.specs.found.GlobalView.{values_of}

-- the expressions of an arena
abbrev pub expressions_of : List (Expression × Span) → List PlainExpression
expressions_of entries = map expression_view (values_of entries)

-- the base of an access
abbrev pub base_of : PlainExpression → Option ℕ
base_of e = elim e [ plain (Access base index) ↦ Some base | plain (AccessIndex base index) ↦ Some base | _ ↦ None ]

-- the base of each access precedes it
abbrev pub BasesPrecede : List PlainExpression → Type 0
BasesPrecede expressions = (handle base : ℕ) (e : PlainExpression) → slice_get expressions handle ≡ Some e → base_of e ≡ Some base → base < handle

-- The chain of bases from the expression at a handle ends at another: at that expression itself if it is no access,
-- and otherwise where the chain from its base ends.
pub data StartsAt (expressions : List PlainExpression) : ℕ → PlainExpression → Type 0 where
  itself : {handle : ℕ} {e : PlainExpression} → slice_get expressions handle ≡ Some e → base_of e ≡ None → StartsAt expressions handle e
  through : {handle base : ℕ} {e start : PlainExpression} → slice_get expressions handle ≡ Some e → base_of e ≡ Some base → StartsAt expressions base start → StartsAt expressions handle start

-- the global variable of a `GlobalVariable` expression
abbrev pub global_of : PlainExpression → Option ℕ
global_of e = elim e [ plain (GlobalVariable global) ↦ Some global | _ ↦ None ]

-- this is the global variable at the end of the chain from a handle, if it ends at one
abbrev pub HasOrigin : List PlainExpression → ℕ → Option ℕ → Type 0
HasOrigin expressions handle origin = (start : PlainExpression) × StartsAt expressions handle start × (origin ≡ global_of start)

-- a chain ends at one expression at most
abbrev pub OneOrigin : Type 0
OneOrigin = (expressions : List PlainExpression) (handle : ℕ) (a b : Option ℕ) → HasOrigin expressions handle a → HasOrigin expressions handle b → a ≡ b
