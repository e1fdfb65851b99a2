-- What is required of some scalars.
use Rattle.std.proofs.Common.{◌≡◌, ◌⊎◌, ℕ, Option, inl, inr, sym, ap, ◌∙◌}
use Rattle.ir_blocks.specs.declared.operations.AtomicFunction.{AtomicFunction}
use Rattle.ir_flags.specs.declared.settings.Capabilities.{Capabilities}
use Rattle.ir_kinds.specs.judged.Scalars.{floating, signed, unsigned}
use Rattle.ir_kinds.specs.declared.scalars.Scalar.{Scalar}
use Rattle.ir_kinds.specs.declared.scalars.ScalarKind.TheVariants as kind
use Rattle.spec_statements.specs.judged.Atomics.{Int64AtomicOK, Float32AtomicOK, ScalarAllows}
use Rattle.typing_forms.specs.declared.form.Form.{Form}
use Rattle.typing_forms.specs.declared.form.Form.TheVariants as form

pub same_scalar : (a b : Scalar) → form.Scalar a ≡ form.Scalar b → a ≡ b
same_scalar a b e = cc

-- ---- scalars that differ

signed_float : (s : Scalar) → s ≡ signed 8 → s ≡ floating 4 → ⊥
signed_float s e f = let h : kind.Sint ≡ kind.Float = ap (λ (x : Scalar). x.kind) (sym e ∙ f) in cc

unsigned_float : (s : Scalar) → s ≡ unsigned 8 → s ≡ floating 4 → ⊥
unsigned_float s e f = let h : kind.Uint ≡ kind.Float = ap (λ (x : Scalar). x.kind) (sym e ∙ f) in cc

wide_float : (s : Scalar) → (s ≡ signed 8) ⊎ (s ≡ unsigned 8) → s ≡ floating 4 → ⊥
wide_float s (inl e) f = signed_float s e f
wide_float s (inr e) f = unsigned_float s e f

-- ---- what they allow

pub wide_allows : (k : Capabilities) (s : Scalar) (pointer : Form) (done : AtomicFunction) (result : Option ℕ)
    → (s ≡ signed 8) ⊎ (s ≡ unsigned 8) → Int64AtomicOK k pointer done result → ScalarAllows k s pointer done result
wide_allows k s pointer done result is wide =
    record { signed_wide = λ e. wide; unsigned_wide = λ e. wide; float = λ e. absurd (wide_float s is e) }

pub float_allows : (k : Capabilities) (s : Scalar) (pointer : Form) (done : AtomicFunction) (result : Option ℕ)
    → s ≡ floating 4 → Float32AtomicOK k pointer done → ScalarAllows k s pointer done result
float_allows k s pointer done result is float =
    record { signed_wide = λ e. absurd (signed_float s e is); unsigned_wide = λ e. absurd (unsigned_float s e is); float = λ e. float }

pub others_allow : (k : Capabilities) (s : Scalar) (pointer : Form) (done : AtomicFunction) (result : Option ℕ)
    → ((s ≡ signed 8) ⊎ (s ≡ unsigned 8) → ⊥) → (s ≡ floating 4 → ⊥) → ScalarAllows k s pointer done result
others_allow k s pointer done result narrow whole =
    record { signed_wide = λ e. absurd (narrow (inl e)); unsigned_wide = λ e. absurd (narrow (inr e)); float = λ e. absurd (whole e) }
