-- A larger set of capabilities accepts at least as much.
use Rattle.std.proofs.Common.{inl, inr, ℕ, Bool}
use Rattle.ir_flags.proofs.SetLaws.{within-over}
use Rattle.ir_flags.specs.Sets.{Has, IsWithin}
use Rattle.ir_flags.specs.declared.settings.Capabilities.{Capabilities}
use Rattle.ir_items.specs.judged.Plain.{PlainModule}
use Rattle.ir_kinds.specs.declared.scalars.ScalarKind.{ScalarKind}
use Rattle.ir_kinds.specs.declared.scalars.ScalarKind.TheVariants as kind
use Rattle.spec_expressions.specs.judged.GlobalExpressions.{GlobalRequirement, of_literal, of_composition, of_value, must_be_folded, IsMet}
use Rattle.spec_expressions.specs.found.ConstantLaws.{MoreCapabilities}
use Rattle.typing_layout.specs.judged.Widths.{IsWidthAllowed, IsKindAllowed}
use Rattle.ir_kinds.specs.judged.Values.{literal_scalar}
use Rattle.typing_layout.specs.declared.constness.ExpressionKind.{ExpressionKind}

has_more : (few many c : ℕ) → IsWithin few many → Has few c → Has many c
has_more few many c more has = within-over c few many has more

width_more : (few many two eight : Capabilities) (width : ℕ) → IsWithin few.0 many.0 → IsWidthAllowed few two eight width → IsWidthAllowed many two eight width
width_more few many two eight width more (inl four) = inl four
width_more few many two eight width more (inr (inl h)) = inr (inl (h.0, has_more few.0 many.0 two.0 more h.1))
width_more few many two eight width more (inr (inr h)) = inr (inr (h.0, has_more few.0 many.0 eight.0 more h.1))

kind_more : (few many : Capabilities) (k : ScalarKind) (width : ℕ) → IsWithin few.0 many.0 → IsKindAllowed few k width → IsKindAllowed many k width
kind_more few many kind.Sint width more ok = width_more few many _ _ width more ok
kind_more few many kind.Uint width more ok = width_more few many _ _ width more ok
kind_more few many kind.Float width more ok = width_more few many _ _ width more ok
kind_more few many kind.Bool width more ok = ok
kind_more few many kind.AbstractInt width more ok = ok
kind_more few many kind.AbstractFloat width more ok = ok

met_more : (few many : Capabilities) (resolved : Bool) (m : PlainModule) (k : ExpressionKind) (asked : GlobalRequirement) → IsWithin few.0 many.0 → IsMet few resolved m k asked → IsMet many resolved m k asked
met_more few many resolved m k (of_literal value) more ok = kind_more few many (literal_scalar value).kind (literal_scalar value).width more ok
met_more few many resolved m k (of_composition type components) more ok = ok
met_more few many resolved m k of_value more ok = ok
met_more few many resolved m k must_be_folded more ok = ok

pub more_capabilities : MoreCapabilities
more_capabilities few many more resolved m handle ok = record {
  expression = ok.expression;
  at = ok.at;
  kind = ok.kind;
  of_kind = ok.of_kind;
  known = ok.known;
  met = met_more few many resolved m ok.kind _ more ok.met;
}
