-- A refusal of a part is one of the whole.
use Rattle.std.proofs.Common.{Bool, inl, inr}
use Rattle.typing_errors.specs.declared.error.FunctionError.{FunctionError}
use Rattle.function_interface.specs.Arguments.{IsArgumentsFault}
use Rattle.function_interface.specs.Interfaces.{IsInterfaceFault}
use Rattle.function_interface.specs.Items.{EachOK}
use Rattle.function_interface.specs.Locals.{IsLocalsFault}
use Rattle.function_interface.specs.Refusals.{IsRefusal}
use Rattle.ir_types.specs.declared.refusal.Refusal.{Refusal}
use Rattle.ir_types.specs.declared.refusal.Refusal.TheVariants as refusal
use Rattle.spec_statements.specs.judged.BlockContext.{BlockContext}
use Rattle.spec_statements.specs.judged.Interfaces.{ArgumentOK, InterfaceOK, LocalOK}

pub locals_refused : (c : BlockContext) (entry : Bool) (r : Refusal FunctionError) → IsRefusal (EachOK (LocalOK c) c.f.locals) (IsLocalsFault c) r → IsRefusal (InterfaceOK c entry) (IsInterfaceFault c entry) r
locals_refused c entry (refusal.Memory e) broken = λ whole. broken whole.locals
locals_refused c entry (refusal.Fault e) told = (inl told.0, told.1)

pub arguments_refused : (c : BlockContext) (entry : Bool) (r : Refusal FunctionError) → EachOK (LocalOK c) c.f.locals → IsRefusal (EachOK (ArgumentOK c.m entry) c.f.arguments) (IsArgumentsFault c entry) r
    → IsRefusal (InterfaceOK c entry) (IsInterfaceFault c entry) r
arguments_refused c entry (refusal.Memory e) locals broken = λ whole. broken whole.arguments
arguments_refused c entry (refusal.Fault e) locals told = (inr (inl (record { locals = locals; wrong = told.0 })), told.1)
