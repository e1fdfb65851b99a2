-- The items of a module other than functions as plain data, without their memory and spans.
use Rattle.std.specs.Prelude.{ℕ, List, Option}
use Rattle.ir_flags.specs.declared.memory.MemoryDecorations.{MemoryDecorations}
use Rattle.ir_kinds.specs.declared.bindings.ResourceBinding.{ResourceBinding}
use Rattle.ir_kinds.specs.declared.diagnostics.Severity.{Severity}
use Rattle.ir_kinds.specs.declared.diagnostics.StandardFilterableTriggeringRule.{StandardFilterableTriggeringRule}
use Rattle.ir_kinds.specs.declared.predeclared.PredeclaredType.{PredeclaredType}
use Rattle.ir_kinds.specs.declared.spaces.AddressSpace.{AddressSpace}

pub record PlainConstant : Type 0 where
  pub name : Option (List ℕ)
  pub ty : ℕ
  pub init : ℕ

pub record PlainOverride : Type 0 where
  pub name : Option (List ℕ)
  pub id : Option ℕ
  pub ty : ℕ
  pub init : Option ℕ

pub record PlainGlobal : Type 0 where
  pub name : Option (List ℕ)
  pub space : AddressSpace
  pub binding : Option ResourceBinding
  pub ty : ℕ
  pub init : Option ℕ
  pub decorations : MemoryDecorations

pub data PlainRule : Type 0 where
  standard : StandardFilterableTriggeringRule → PlainRule
  unknown : (name : List ℕ) → PlainRule
  user : (tool name : List ℕ) → PlainRule

-- A diagnostic filter, and its parent.
pub record PlainFilterNode : Type 0 where
  pub severity : Severity
  pub rule : PlainRule
  pub parent : Option ℕ

-- The special types: for ray queries, and for results of built-in functions.
pub record PlainSpecialTypes : Type 0 where
  pub ray_desc : Option ℕ
  pub ray_intersection : Option ℕ
  pub ray_vertex_return : Option ℕ
  pub predeclared : List (PredeclaredType × ℕ)
