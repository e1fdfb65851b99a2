use Rattle.std.proofs.Common.{ℕ, ◌<◌, ◌≤◌}
use Rattle.ir_items.specs.found.View.{function_view}
use Rattle.function_body_checks.specs.Carried.{Known}
use Rattle.function_body_checks.proofs.bringing.first_known.Given as goal

-- none of those before is in scope
abbrev pub invariant-loop-place : goal.invariant-loop-place
invariant-loop-place l = (e : ℕ) → l.fn.range.0 ≤ e → e < l.place → ¬ Known (function_view l.function) l.scope e
