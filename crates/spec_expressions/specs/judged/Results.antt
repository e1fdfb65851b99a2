-- Results of calls, atomic operations and uniform loads from workgroup memory.
use Rattle.std.specs.Prelude.{ℕ, Option, option_map, option_and_then, Result, ok_or, slice_get}
use Rattle.ir_items.specs.declared.functions.FunctionResult.{FunctionResult}
use Rattle.typing_layout.specs.TypingForms.{Form, form_of_type}
use Rattle.spec_expressions.specs.judged.Context.{Context}
use Rattle.spec_expressions.specs.declared.faults.TypingFault.{TypingFault}
use Rattle.spec_expressions.specs.declared.faults.TypingFault.TheVariants.{FunctionReturnsVoid}

-- the result type that a function declares
abbrev pub result_of : Context → ℕ → Option FunctionResult
result_of c function = option_and_then (λ f. f.result) (slice_get c.functions function)

-- a call result has the type that the function declares
abbrev pub call_result_type : Context → ℕ → Result Form TypingFault
call_result_type c function = ok_or (option_map (λ (r : FunctionResult). form_of_type c.types r.ty) (result_of c function)) FunctionReturnsVoid
