-- None of those before is the sources of a blend.
use Rattle.std.proofs.Common.{◌≡◌, ℕ, ◌<◌, Some, slice_get}
use Rattle.spec_interface.specs.declared.varyings.Bound.TheVariants.{BlendSources}
use Rattle.spec_interface.specs.declared.varyings.Varying.{Varying}
use Rattle.function_varyings.proofs.shown.has_blend_sources.Given as goal

abbrev pub invariant-loop-place : goal.invariant-loop-place
invariant-loop-place l = (k : ℕ) (v : Varying) → k < l.place → slice_get l.varyings k ≡ Some v → ¬ (v.bound ≡ BlendSources)
