-- Uniformity facts read from a list, and the expressions that have requirements.
use Rattle.std.specs.Prelude.{◌≡◌, ℕ, ◌<◌, ◌≤◌, Bool, true, false, IsTrue, ◌||◌, ◌&&◌, nat_lt, ◌==◌, List, length, Option, Some, None, is_some, option_and_then, slice_get, slice_index_or, if◌then◌else◌}
use Rattle.ir_kinds.specs.declared.diagnostics.Severity.{Severity}
use Rattle.ir_kinds.specs.declared.diagnostics.Severity.TheVariants.{Off, Info, Warning, Error}
use Rattle.spec_expressions.specs.declared.uniformity.Uniformity.{Uniformity}
use Rattle.spec_expressions.specs.declared.uniformity.TheConstants.UniformityRequirements.{DERIVATIVE, IMPLICIT_LEVEL, COOP_OPS}
use Rattle.spec_expressions.specs.judged.Uniformity.{Required}
use Rattle.typing_uniformity.specs.declared.body_fault.NonUniform.{NonUniform}

abbrev pub source_in : Option Uniformity → Option ℕ
source_in None = None
source_in (Some u) = u.non_uniform_result

-- the value of the expression may be non-uniform
abbrev pub varies_of : List Uniformity → ℕ → Bool
varies_of uniformities e = is_some (source_in (slice_get uniformities e))

abbrev pub requirement_in : Option Uniformity → ℕ
requirement_in None = 0
requirement_in (Some u) = u.requirements.0

-- the requirements of the expression
abbrev pub required_of : List Uniformity → ℕ → ℕ
required_of uniformities e = requirement_in (slice_get uniformities e)

abbrev pub is_error : Severity → Bool
is_error Off = false
is_error Info = false
is_error Warning = false
is_error Error = true

-- a requirement that counts
abbrev pub counts : Severity → ℕ → Bool
counts severity bits = (bits == COOP_OPS.0) || (is_error severity && ((bits == DERIVATIVE.0) || (bits == IMPLICIT_LEVEL.0)))

abbrev pub asks : Severity → List Uniformity → ℕ → Bool
asks severity uniformities e = counts severity (required_of uniformities e)

-- The index is that of the first expression from another one on that passes the test, or the number of expressions.
pub record IsNext (test : ℕ → Bool) (count from place : ℕ) : Type 0 where
  pub ahead : from ≤ place
  pub within : place ≤ count
  pub passes : place < count → test place ≡ true
  pub between : (k : ℕ) → from ≤ k → k < place → test k ≡ false

-- for each expression the first one from it on that passes the test
pub record AreNext (test : ℕ → Bool) (count : ℕ) (next : List ℕ) : Type 0 where
  pub len : length next ≡ count
  pub each : (k : ℕ) → k < count → IsNext test count k (slice_index_or next k 0)

-- a fault as a requirement
abbrev pub required_view : NonUniform → Required
required_view f = record { requirement = f.requirements.0; expression = f.expression }

abbrev pub required_with : ℕ → ℕ → Option Uniformity → Option Required
required_with end place None = None
required_with end place (Some u) = if nat_lt place end then Some (record { requirement = u.requirements.0; expression = place }) else None

abbrev pub required_from : List Uniformity → ℕ → Option ℕ → Option Required
required_from uniformities end None = None
required_from uniformities end (Some place) = required_with end place (slice_get uniformities place)

-- the requirement of the first expression of a range that has one
abbrev pub look_of : List Uniformity → List ℕ → ℕ → ℕ → Option Required
look_of uniformities next first end = required_from uniformities end (slice_get next first)
