-- Errors of results.
use Rattle.std.specs.Prelude.{◌≡◌, Bool, false, None, IsSomeAnd}
use Rattle.typing_errors.specs.declared.error.FunctionError.{FunctionError}
use Rattle.typing_errors.specs.declared.error.FunctionError.TheVariants as error
use Rattle.typing_layout.specs.judged.Flags.{HasFlag, Constructible}
use Rattle.spec_statements.specs.judged.BlockContext.{BlockContext}
use Rattle.typing_layout.specs.judged.View.{type_tree}

-- the type is not constructible; or there is a binding in a function that is not an entry point's
abbrev pub IsResultFault : BlockContext → (entry : Bool) → FunctionError → Type 0
IsResultFault c entry error.NonConstructibleReturnType = IsSomeAnd c.f.result (λ r. ¬ HasFlag Constructible (type_tree c.m.types r.ty))
IsResultFault c entry error.PipelineOutputRegularFunction = IsSomeAnd c.f.result (λ r. (entry ≡ false) × ¬ (r.binding ≡ None))
IsResultFault c entry _ = ⊥
