-- Functions, entry points and the module as plain data, without their memory and spans.
use Rattle.std.specs.Prelude.{ℕ, List, Option}
use Rattle.ir_kinds.specs.declared.bindings.Binding.{Binding}
use Rattle.ir_kinds.specs.declared.stages.ShaderStage.{ShaderStage}
use Rattle.ir_kinds.specs.declared.stages.EarlyDepthTest.{EarlyDepthTest}
use Rattle.ir_blocks.specs.IrTypes.{PlainType, PlainExpression}
use Rattle.ir_items.specs.declared.entries.MeshStageInfo.{MeshStageInfo}
use Rattle.ir_items.specs.declared.functions.FunctionResult.{FunctionResult}
use Rattle.ir_blocks.specs.judged.Plain.{PlainBlock}
use Rattle.ir_items.specs.judged.GlobalPlain.{PlainConstant, PlainOverride, PlainGlobal, PlainFilterNode, PlainSpecialTypes}

pub record PlainArgument : Type 0 where
  pub name : Option (List ℕ)
  pub ty : ℕ
  pub binding : Option Binding

pub record PlainLocal : Type 0 where
  pub name : Option (List ℕ)
  pub ty : ℕ
  pub init : Option ℕ

pub record PlainFunction : Type 0 where
  pub name : Option (List ℕ)
  pub arguments : List PlainArgument
  pub result : Option FunctionResult
  pub locals : List PlainLocal
  pub expressions : List PlainExpression
  pub body : PlainBlock
  pub leaf : Option ℕ

pub record PlainEntry : Type 0 where
  pub stage : ShaderStage
  pub name : List ℕ
  pub early : Option EarlyDepthTest
  pub sizes : List ℕ
  pub mesh : Option MeshStageInfo
  pub payload : Option ℕ
  pub function : PlainFunction

pub record PlainModule : Type 0 where
  pub types : List PlainType
  pub special : PlainSpecialTypes
  pub filters : List PlainFilterNode
  pub leaf : Option ℕ
  pub constants : List PlainConstant
  pub overrides : List PlainOverride
  pub global_expressions : List PlainExpression
  pub globals : List PlainGlobal
  pub functions : List PlainFunction
  pub entries : List PlainEntry
