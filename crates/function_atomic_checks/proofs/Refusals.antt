-- How a texel that is written is refused.
use Rattle.std.proofs.Common.{◌≡◌, ℕ, [], Option, subst, sym}
use Rattle.typing_errors.specs.declared.error.FunctionError.{FunctionError}
use Rattle.ir_types.specs.found.Faults.{error_of, spans_of}
use Rattle.ir_types.specs.declared.refusal.Refusal.TheVariants.{Fault}
use Rattle.ir_types.specs.declared.with_span.WithSpan.{WithSpan}
use Rattle.function_atomic_checks.specs.StorageImages.{IsImageStoreFault, IsImageStoreRefusal}
use Rattle.spec_statements.specs.judged.BlockContext.{BlockContext}

-- by an error without spans
pub refused_by : (c : BlockContext) (image coordinate : ℕ) (array_index : Option ℕ) (value : ℕ) (f : WithSpan FunctionError) (e : FunctionError)
    → error_of f ≡ e → spans_of f ≡ [] → IsImageStoreFault c image coordinate array_index value e
    → IsImageStoreRefusal c image coordinate array_index value (Fault f)
refused_by c image coordinate array_index value f e is bare stands =
    (subst (IsImageStoreFault c image coordinate array_index value) (sym is) stands, bare)
