-- From what an error speaks of to something else.
use Rattle.std.proofs.Common.{}
use Rattle.typing_errors.specs.declared.error.FunctionError.{FunctionError}
use Rattle.function_strict_scope.specs.Walked.{IfFault}
use Rattle.function_strict_scope.specs.declared.error.StrictError.{StrictError}
use Rattle.function_strict_scope.specs.declared.error.StrictError.TheVariants as strict_error

pub if_fault_then : (r : StrictError) (P Q : FunctionError → Type 0) → ((e : FunctionError) → P e → Q e) → IfFault r P → IfFault r Q
if_fault_then (strict_error.Memory e) P Q then h = h
if_fault_then (strict_error.Unknown e) P Q then h = then _ h
if_fault_then (strict_error.UnknownArgument function index) P Q then h = then _ h
if_fault_then (strict_error.Known e) P Q then h = then _ h
if_fault_then (strict_error.OtherAnswer e) P Q then h = then _ h
