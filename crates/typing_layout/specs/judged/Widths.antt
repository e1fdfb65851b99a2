-- Which scalars are valid under given capabilities.
use Rattle.std.specs.Prelude.{◌≡◌, ◌⊎◌, ℕ}
use Rattle.ir_flags.specs.Sets.{Has}
use Rattle.ir_flags.specs.declared.settings.Capabilities.{Capabilities}
use Rattle.ir_flags.specs.declared.settings.TheConstants.Capabilities.{FLOAT64, SHADER_FLOAT16, SHADER_INT16, SHADER_INT64, SHADER_FLOAT32_ATOMIC, SHADER_INT64_ATOMIC_MIN_MAX, SHADER_INT64_ATOMIC_ALL_OPS}
use Rattle.ir_kinds.specs.declared.scalars.Scalar.{Scalar}
use Rattle.ir_kinds.specs.declared.scalars.ScalarKind.{ScalarKind}
use Rattle.ir_kinds.specs.declared.scalars.ScalarKind.TheVariants.{Sint, Uint, Float, Bool}

-- width four, or two or eight with its capability
abbrev pub IsWidthAllowed : Capabilities → (two eight : Capabilities) → (width : ℕ) → Type 0
IsWidthAllowed capabilities two eight width = (width ≡ 4) ⊎ (((width ≡ 2) × Has capabilities.0 two.0) ⊎ ((width ≡ 8) × Has capabilities.0 eight.0))

abbrev pub IsKindAllowed : Capabilities → ScalarKind → (width : ℕ) → Type 0
IsKindAllowed capabilities Bool width = width ≡ 1
IsKindAllowed capabilities Sint width = IsWidthAllowed capabilities SHADER_INT16 SHADER_INT64 width
IsKindAllowed capabilities Uint width = IsWidthAllowed capabilities SHADER_INT16 SHADER_INT64 width
IsKindAllowed capabilities Float width = IsWidthAllowed capabilities SHADER_FLOAT16 FLOAT64 width
IsKindAllowed capabilities _ width = ⊥

-- a scalar allowed in types and literals
abbrev pub ScalarOK : Capabilities → Scalar → Type 0
ScalarOK capabilities s = IsKindAllowed capabilities s.kind s.width

-- a 32-bit integer, or a 64-bit one with the capability for 64-bit atomics
abbrev pub IsAtomicInteger : Capabilities → (width : ℕ) → Type 0
IsAtomicInteger capabilities w = (w ≡ 4) ⊎ ((w ≡ 8) × (Has capabilities.0 SHADER_INT64_ATOMIC_MIN_MAX.0 ⊎ Has capabilities.0 SHADER_INT64_ATOMIC_ALL_OPS.0))

abbrev pub IsAtomicKind : Capabilities → ScalarKind → (width : ℕ) → Type 0
IsAtomicKind capabilities Sint width = IsAtomicInteger capabilities width
IsAtomicKind capabilities Uint width = IsAtomicInteger capabilities width
IsAtomicKind capabilities Float width = (width ≡ 4) × Has capabilities.0 SHADER_FLOAT32_ATOMIC.0
IsAtomicKind capabilities _ width = ⊥

-- a scalar allowed in atomics
abbrev pub AtomicOK : Capabilities → Scalar → Type 0
AtomicOK capabilities s = IsAtomicKind capabilities s.kind s.width
