-- Errors of the local variables, the arguments and the result of a function.
use Rattle.std.specs.Prelude.{◌⊎◌, Bool}
use Rattle.typing_errors.specs.declared.error.FunctionError.{FunctionError}
use Rattle.function_interface.specs.Arguments.{IsArgumentsFault}
use Rattle.function_interface.specs.Items.{EachOK}
use Rattle.function_interface.specs.Locals.{IsLocalsFault}
use Rattle.function_interface.specs.Results.{IsResultFault}
use Rattle.spec_statements.specs.judged.BlockContext.{BlockContext}
use Rattle.spec_statements.specs.judged.Interfaces.{ArgumentOK, LocalOK}

-- of the arguments, if the variables are valid
pub record IsArgumentsFaultFirst (c : BlockContext) (entry : Bool) (e : FunctionError) : Type 0 where
  pub locals : EachOK (LocalOK c) c.f.locals
  pub wrong : IsArgumentsFault c entry e

-- of the result, if the variables and the arguments are valid
pub record IsResultFaultFirst (c : BlockContext) (entry : Bool) (e : FunctionError) : Type 0 where
  pub locals : EachOK (LocalOK c) c.f.locals
  pub arguments : EachOK (ArgumentOK c.m entry) c.f.arguments
  pub wrong : IsResultFault c entry e

-- of the first invalid of the three
abbrev pub IsInterfaceFault : BlockContext → (entry : Bool) → FunctionError → Type 0
IsInterfaceFault c entry e = IsLocalsFault c e ⊎ (IsArgumentsFaultFirst c entry e ⊎ IsResultFaultFirst c entry e)
