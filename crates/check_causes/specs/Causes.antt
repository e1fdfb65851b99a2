-- The broken rules of expressions, by expression kind.
use Rattle.std.specs.Prelude.{◌≡◌, slice_get}
use Rattle.ir_types.specs.judged.ExpressionPlain.{PlainExpression, plain}
use Rattle.ir_types.specs.declared.expressions.Expression.TheVariants as x
use Rattle.spec_statements.specs.judged.Access.{known_length}
use Rattle.spec_statements.specs.judged.Scene.{Scene, form_among}
use Rattle.check_causes.specs.Access.{BrokenAccess, BrokenPart}
use Rattle.check_causes.specs.Conversions.{BrokenAs}
use Rattle.check_image_causes.specs.ImageLoads.{BrokenLoad, BrokenQuery}
use Rattle.check_image_causes.specs.ImageSamples.{BrokenSample}
use Rattle.check_causes.specs.Operators.{BrokenBinary}
use Rattle.check_causes.specs.Selections.{BrokenSelect}
use Rattle.check_causes.specs.Swizzles.{BrokenSwizzle}
use Rattle.check_causes.specs.declared.access.AccessCause.{AccessCause}
use Rattle.check_causes.specs.declared.conversions.AsCause.{AsCause}
use Rattle.check_image_causes.specs.declared.image_loads.LoadCause.{LoadCause}
use Rattle.check_image_causes.specs.declared.image_loads.QueryCause.{QueryCause}
use Rattle.check_image_causes.specs.declared.image_samples.SampleCause.{SampleCause}
use Rattle.check_causes.specs.declared.operators.BinaryCause.{BinaryCause}
use Rattle.check_causes.specs.declared.selections.SelectCause.{SelectCause}
use Rattle.check_causes.specs.declared.swizzles.SwizzleCause.{SwizzleCause}
use Rattle.ir_kinds.specs.declared.operators.BinaryOperator.{BinaryOperator}
use Rattle.check_causes.specs.declared.expression.Cause.{Cause}
use Rattle.check_causes.specs.declared.expression.Cause.TheVariants as cause

-- ---- for each family: the expression belongs to it, and breaks the rule

abbrev pub OfAccess : Scene → AccessCause → PlainExpression → Type 0
OfAccess s c (plain (x.Access base index)) = BrokenAccess s.types (form_among s.forms base) (form_among s.forms index) (slice_get s.expressions index) c
OfAccess s c (plain (x.AccessIndex base index)) = BrokenPart (known_length s.types (form_among s.forms base)) index c
OfAccess s c _ = ⊥

abbrev pub OfAs : Scene → AsCause → PlainExpression → Type 0
OfAs s c (plain (x.As expr kind convert)) = BrokenAs s.capabilities kind convert (form_among s.forms expr) c
OfAs s c _ = ⊥

abbrev pub OfLoad : Scene → LoadCause → PlainExpression → Type 0
OfLoad s c (plain (x.ImageLoad image coordinate array_index sample level)) = BrokenLoad s.forms (form_among s.forms image) (record {
  coordinate = coordinate;
  array_index = array_index;
  sample = sample;
  level = level;
}) c
OfLoad s c _ = ⊥

abbrev pub OfQuery : Scene → QueryCause → PlainExpression → Type 0
OfQuery s c (plain (x.ImageQuery image query)) = BrokenQuery s.forms (form_among s.forms image) query c
OfQuery s c _ = ⊥

abbrev pub OfSample : Scene → SampleCause → PlainExpression → Type 0
OfSample s c (plain (x.ImageSample image sampler gather coordinate array_index offset level depth_ref clamp_to_edge)) =
    BrokenSample s.expressions s.forms (form_among s.forms image) (record {
      sampler = sampler;
      gather = gather;
      coordinate = coordinate;
      array_index = array_index;
      offset = offset;
      level = level;
      depth_ref = depth_ref;
      clamp_to_edge = clamp_to_edge;
    }) c
OfSample s c _ = ⊥

abbrev pub OfBinary : Scene → BinaryOperator → BinaryCause → PlainExpression → Type 0
OfBinary s told c (plain (x.Binary op left right)) = (told ≡ op) × BrokenBinary op (form_among s.forms left) (form_among s.forms right) c
OfBinary s told c _ = ⊥

abbrev pub OfSelect : Scene → SelectCause → PlainExpression → Type 0
OfSelect s c (plain (x.Select condition accept reject)) = BrokenSelect (form_among s.forms condition) (form_among s.forms accept) (form_among s.forms reject) c
OfSelect s c _ = ⊥

abbrev pub OfSwizzle : Scene → SwizzleCause → PlainExpression → Type 0
OfSwizzle s c (plain (x.Swizzle size vector pattern)) = BrokenSwizzle size pattern (form_among s.forms vector) c
OfSwizzle s c _ = ⊥

-- ---- for any expression

-- the expression breaks this rule of its kind
abbrev pub BrokenBy : Scene → PlainExpression → Cause → Type 0
BrokenBy s e (cause.Access c) = OfAccess s c e
BrokenBy s e (cause.As c) = OfAs s c e
BrokenBy s e (cause.ImageLoad c) = OfLoad s c e
BrokenBy s e (cause.ImageQuery c) = OfQuery s c e
BrokenBy s e (cause.ImageSample c) = OfSample s c e
BrokenBy s e (cause.Binary op c) = OfBinary s op c e
BrokenBy s e (cause.Select c) = OfSelect s c e
BrokenBy s e (cause.Swizzle c) = OfSwizzle s c e
