-- A function with an error breaks its rule.
use Rattle.std.specs.Prelude.{Bool, IfSome, List}
use Rattle.typing_errors.specs.declared.error.FunctionError.{FunctionError}
use Rattle.typing_errors.specs.declared.locals.LocalVariableError.{LocalVariableError}
use Rattle.function_interface.specs.Answered.{AllAnswered, IsUnansweredFault}
use Rattle.function_interface.specs.Arguments.{IsArgumentsFault}
use Rattle.function_interface.specs.Interfaces.{IsInterfaceFault}
use Rattle.function_interface.specs.Items.{EachOK}
use Rattle.function_interface.specs.Locals.{IsLocalError, IsLocalsFault}
use Rattle.function_interface.specs.Results.{IsResultFault}
use Rattle.ir_items.specs.judged.Plain.{PlainLocal}
use Rattle.spec_statements.specs.judged.BlockContext.{BlockContext}
use Rattle.spec_statements.specs.judged.Interfaces.{ArgumentOK, InterfaceOK, LocalOK, ResultOK}

-- The refutation of each part, and of the whole.
pub record Refuted (c : BlockContext) (entry : Bool) (e : FunctionError) : Type 0 where
  pub local : (l : PlainLocal) (error : LocalVariableError) → IsLocalError c l error → LocalOK c l → ⊥
  pub locals : IsLocalsFault c e → EachOK (LocalOK c) c.f.locals → ⊥
  pub arguments : IsArgumentsFault c entry e → EachOK (ArgumentOK c.m entry) c.f.arguments → ⊥
  pub answer : IsResultFault c entry e → IfSome c.f.result (ResultOK c.m entry) → ⊥
  pub interface : IsInterfaceFault c entry e → InterfaceOK c entry → ⊥
  pub answered : (given : List Bool) → IsUnansweredFault c.f.expressions given e → AllAnswered c.f.expressions given → ⊥

abbrev pub FaultsRefute : Type 0
FaultsRefute = (c : BlockContext) (entry : Bool) (e : FunctionError) → Refuted c entry e
