-- What is valid with overrides resolved is valid without.
use Rattle.std.proofs.Common.{ℕ, Option, Some, None, true, false, refl}
use Rattle.ir_flags.specs.declared.settings.Capabilities.{Capabilities}
use Rattle.ir_items.specs.judged.Plain.{PlainModule}
use Rattle.spec_expressions.specs.judged.GlobalExpressions.{GlobalRequirement, of_literal, of_composition, of_value, must_be_folded, MayWait, IsMet}
use Rattle.spec_expressions.specs.found.ConstantLaws.{ResolvedExpressions, ResolvedOverrides}
use Rattle.spec_expressions.specs.judged.Overrides.{DefaultOK}
use Rattle.typing_layout.specs.declared.constness.ExpressionKind.{ExpressionKind}
use Rattle.typing_layout.specs.declared.constness.ExpressionKind.TheVariants.{Const, Override, Runtime}

waits : (k : ExpressionKind) → MayWait true k → MayWait false k
waits Const ok = ok
waits Override ok = refl
waits Runtime ok = ok

met_resolved : (capabilities : Capabilities) (m : PlainModule) (k : ExpressionKind) (asked : GlobalRequirement) → IsMet capabilities true m k asked → IsMet capabilities false m k asked
met_resolved capabilities m k (of_literal value) ok = ok
met_resolved capabilities m k (of_composition type components) ok = ok
met_resolved capabilities m k of_value ok = ok
met_resolved capabilities m k must_be_folded ok = waits k ok

pub resolved_expressions : ResolvedExpressions
resolved_expressions capabilities m handle ok = record {
  expression = ok.expression;
  at = ok.at;
  kind = ok.kind;
  of_kind = ok.of_kind;
  known = ok.known;
  met = met_resolved capabilities m ok.kind _ ok.met;
}

default_resolved : (m : PlainModule) (type : ℕ) (init : Option ℕ) → DefaultOK true m type init → DefaultOK false m type init
default_resolved m type None ok = refl
default_resolved m type (Some init) ok = ok

pub resolved_overrides : ResolvedOverrides
resolved_overrides m handle ok = record {
  override = ok.override;
  at = ok.at;
  named = ok.named;
  own = ok.own;
  scalar = ok.scalar;
  default = default_resolved m ok.override.ty ok.override.init ok.default;
}
