-- Views of errors with labelled spans.
use Rattle.std.specs.Prelude.{◌≡◌, ℕ, List, [], ◌∷◌, ◌++◌, map, string_bytes, if◌then◌else◌}
use Rattle.std.specs.declared.string.String.{String}
use Rattle.std.specs.declared.alloc.Global.{Global}
use Rattle.ir_arena.specs.declared.span.Span.{Span}
use Rattle.ir_arena.specs.found.Spans.{is_defined_span}
use Rattle.ir_types.specs.declared.with_span.WithSpan.{WithSpan}

-- a span with the bytes of its label
abbrev pub context_of : Span × String Global → Span × List ℕ
context_of context = (context.0, string_bytes context.1)

module _ {E : Type 0} where
  -- the inner error
  abbrev pub error_of : WithSpan E → E
  error_of fault = fault.inner

  -- the labelled spans, each with the bytes of its label
  abbrev pub spans_of : WithSpan E → List (Span × List ℕ)
  spans_of fault = map context_of fault.spans.items

  -- the view of a `WithSpan`: the inner error and the labelled spans
  pub record IsSameFault (old new : WithSpan E) : Type 0 where
    pub error : error_of new ≡ error_of old
    pub spans : spans_of new ≡ spans_of old

-- the spans with one more appended, if it is defined
abbrev pub with_context : List (Span × List ℕ) → Span → List ℕ → List (Span × List ℕ)
with_context contexts span text =
    if is_defined_span span then contexts ++ (span, text) ∷ [] else contexts
