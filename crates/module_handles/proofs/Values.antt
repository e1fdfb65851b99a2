-- Types of expressions that depend only on the forms of their operands.
use Rattle.std.proofs.Common.{◌≡◌, ℕ, List, Option, Some, None, option_map}
use Rattle.ir_types.specs.declared.expressions.ImageQuery.{ImageQuery}
use Rattle.ir_types.specs.declared.expressions.ImageQuery.TheVariants as query
use Rattle.ir_kinds.specs.judged.Scalars.{boolean, floating, unsigned}
use Rattle.ir_kinds.specs.declared.images.ImageClass.{ImageClass}
use Rattle.ir_kinds.specs.declared.images.ImageClass.TheVariants as class
use Rattle.ir_kinds.specs.declared.images.ImageDimension.{ImageDimension}
use Rattle.ir_kinds.specs.declared.images.ImageDimension.TheVariants as dimension
use Rattle.ir_kinds.specs.declared.operators.BinaryOperator.{BinaryOperator}
use Rattle.ir_kinds.specs.declared.operators.BinaryOperator.TheVariants as operator
use Rattle.ir_kinds.specs.declared.operators.RelationalFunction.{RelationalFunction}
use Rattle.ir_kinds.specs.declared.operators.RelationalFunction.TheVariants as relational
use Rattle.ir_kinds.specs.declared.scalars.CooperativeRole.{CooperativeRole}
use Rattle.ir_kinds.specs.declared.scalars.CooperativeSize.{CooperativeSize}
use Rattle.ir_kinds.specs.declared.scalars.Scalar.{Scalar}
use Rattle.ir_kinds.specs.declared.scalars.ScalarKind.{ScalarKind}
use Rattle.ir_kinds.specs.declared.scalars.SwizzleComponent.{SwizzleComponent}
use Rattle.ir_kinds.specs.declared.scalars.VectorSize.{VectorSize}
use Rattle.ir_types.specs.judged.Plain.{PlainType, plain}
use Rattle.module_handles.proofs.Forms.{Gives, GivesIf, gives, gives_none, some_form, no_form}
use Rattle.module_handles.specs.Types.{IsMadeOf}
use Rattle.typing_rules.specs.judged.Types.{inner_of}
use Rattle.typing_rules.specs.declared.rules.ConstructorSize.{ConstructorSize}
use Rattle.typing_rules.specs.declared.rules.ConstructorSize.TheVariants as shape
use Rattle.spec_expressions.specs.judged.Compositions.{splat_type, swizzle_type}
use Rattle.spec_expressions.specs.judged.Conversions.{converted, as_type}
use Rattle.spec_expressions.specs.judged.ImageLoads.{loaded_texel, image_load_type, extent, size_type, image_query_type}
use Rattle.spec_expressions.specs.judged.ImageSamples.{texel_scalar, texel, depth_sample, sample_of, image_sample_type}
use Rattle.spec_expressions.specs.judged.Operators.{truth_of, vector_times, matrix_times, other_times, product, binary_type}
use Rattle.spec_expressions.specs.judged.Selections.{relational_type}
use Rattle.spec_expressions.specs.declared.faults.TypingFault.TheVariants.{InvalidImage, InvalidScalar, InvalidVector, IncompatibleOperands}
use Rattle.typing_forms.specs.judged.Forms.{form_of}
use Rattle.typing_forms.specs.judged.Resolutions.{by_value}
use Rattle.typing_forms.specs.declared.form.Form.{Form}
use Rattle.typing_forms.specs.declared.form.Form.TheVariants as form

pub splat_made : (types : List PlainType) (size : VectorSize) (value : ℕ) (of : Form) → Gives types (splat_type size value of)
splat_made types size value (form.Scalar s) = gives types (form.Vector size s) tt
splat_made types size value _ = gives_none types (InvalidScalar value)

pub swizzle_made : (types : List PlainType) (size : VectorSize) (vector : ℕ) (of : Form) → Gives types (swizzle_type size vector of)
swizzle_made types size vector (form.Vector n s) = gives types (form.Vector size s) tt
swizzle_made types size vector _ = gives_none types (InvalidVector vector)

depth_made : (types : List PlainType) (gather : Option SwizzleComponent) → IsMadeOf types (depth_sample gather)
depth_made types None = tt
depth_made types (Some component) = tt

sample_made : (types : List PlainType) (image : ℕ) (gather : Option SwizzleComponent) (c : ImageClass) → Gives types (sample_of image gather c)
sample_made types image gather (class.Sampled kind multi) = gives types (texel (texel_scalar kind)) tt
sample_made types image gather (class.Depth multi) = gives types (depth_sample gather) (depth_made types gather)
sample_made types image gather class.External = gives types (texel (floating 4)) tt
sample_made types image gather (class.Storage format access) = gives_none types (InvalidImage image)

pub image_sample_made : (types : List PlainType) (image : ℕ) (gather : Option SwizzleComponent) (of : Form) → Gives types (image_sample_type image gather of)
image_sample_made types image gather (form.Image dim arrayed c) = sample_made types image gather c
image_sample_made types image gather _ = gives_none types (InvalidImage image)

texel_made : (types : List PlainType) (c : ImageClass) → IsMadeOf types (loaded_texel c)
texel_made types (class.Sampled kind multi) = tt
texel_made types (class.Depth multi) = tt
texel_made types class.External = tt
texel_made types (class.Storage format access) = tt

pub image_load_made : (types : List PlainType) (image : ℕ) (of : Form) → Gives types (image_load_type image of)
image_load_made types image (form.Image dim arrayed c) = gives types (loaded_texel c) (texel_made types c)
image_load_made types image _ = gives_none types (InvalidImage image)

extent_made : (types : List PlainType) (dim : ImageDimension) → IsMadeOf types (extent dim)
extent_made types dimension.D1 = tt
extent_made types dimension.D2 = tt
extent_made types dimension.D3 = tt
extent_made types dimension.Cube = tt

size_made : (types : List PlainType) (image : ℕ) (of : Form) → Gives types (size_type image of)
size_made types image (form.Image dim arrayed c) = gives types (extent dim) (extent_made types dim)
size_made types image _ = gives_none types (InvalidImage image)

pub query_made : (types : List PlainType) (image : ℕ) (asked : ImageQuery) (of : Form) → Gives types (image_query_type image asked of)
query_made types image (query.Size level) of = size_made types image of
query_made types image query.NumLevels of = gives types (form.Scalar (unsigned 4)) tt
query_made types image query.NumLayers of = gives types (form.Scalar (unsigned 4)) tt
query_made types image query.NumSamples of = gives types (form.Scalar (unsigned 4)) tt

truth_made : (types : List PlainType) (of : Form) → Gives types (truth_of of)
truth_made types (form.Scalar s) = gives types (form.Scalar boolean) tt
truth_made types (form.Vector n s) = gives types (form.Vector n boolean) tt
truth_made types _ = gives_none types IncompatibleOperands

vector_times_made : (types : List PlainType) (left right : Form) → IsMadeOf types left → Gives types (vector_times left right)
vector_times_made types left (form.Scalar s) known = gives types left known
vector_times_made types left (form.Vector n s) known = gives types left known
vector_times_made types left (form.Matrix columns rows s) known = gives types (form.Vector columns s) tt
vector_times_made types left _ known = gives_none types IncompatibleOperands

matrix_times_made : (types : List PlainType) (left : Form) (rows : VectorSize) (s : Scalar) (right : Form) → IsMadeOf types left → Gives types (matrix_times left rows s right)
matrix_times_made types left rows s (form.Scalar t) known = gives types left known
matrix_times_made types left rows s (form.Vector n t) known = gives types (form.Vector rows s) tt
matrix_times_made types left rows s (form.Matrix columns lines t) known = gives types (form.Matrix columns rows s) tt
matrix_times_made types left rows s _ known = gives_none types IncompatibleOperands

other_times_made : (types : List PlainType) (left right : Form) → IsMadeOf types left → Gives types (other_times left right)
other_times_made types left (form.Scalar s) known = gives types left known
other_times_made types left _ known = gives_none types IncompatibleOperands

product_made : (types : List PlainType) (left right : Form) → IsMadeOf types left → IsMadeOf types right → Gives types (product left right)
product_made types (form.Scalar s) right known other = gives types right other
product_made types (form.Vector n s) right known other = vector_times_made types (form.Vector n s) right known
product_made types (form.Matrix columns rows s) right known other = matrix_times_made types (form.Matrix columns rows s) rows s right known
product_made types left right known other = other_times_made types left right known

pub binary_made : (types : List PlainType) (op : BinaryOperator) (left right : Form) → IsMadeOf types left → IsMadeOf types right → Gives types (binary_type op left right)
binary_made types operator.Add left right known other = gives types left known
binary_made types operator.Subtract left right known other = gives types left known
binary_made types operator.Multiply left right known other = product_made types left right known other
binary_made types operator.Divide left right known other = gives types left known
binary_made types operator.Modulo left right known other = gives types left known
binary_made types operator.Equal left right known other = truth_made types left
binary_made types operator.NotEqual left right known other = truth_made types left
binary_made types operator.Less left right known other = truth_made types left
binary_made types operator.LessEqual left right known other = truth_made types left
binary_made types operator.Greater left right known other = truth_made types left
binary_made types operator.GreaterEqual left right known other = truth_made types left
binary_made types operator.And left right known other = gives types left known
binary_made types operator.ExclusiveOr left right known other = gives types left known
binary_made types operator.InclusiveOr left right known other = gives types left known
binary_made types operator.LogicalAnd left right known other = gives types left known
binary_made types operator.LogicalOr left right known other = gives types left known
binary_made types operator.ShiftLeft left right known other = gives types left known
binary_made types operator.ShiftRight left right known other = gives types left known

pub relational_made : (types : List PlainType) (fun : RelationalFunction) (of : Form) → Gives types (relational_type fun of)
relational_made types relational.All of = gives types (form.Scalar boolean) tt
relational_made types relational.Any of = gives types (form.Scalar boolean) tt
relational_made types relational.IsNan of = truth_made types of
relational_made types relational.IsInf of = truth_made types of

pub as_made : (types : List PlainType) (kind : ScalarKind) (convert : Option ℕ) (of : Form) → Gives types (as_type kind convert of)
as_made types kind convert (form.Scalar s) = gives types (form.Scalar (converted kind convert s)) tt
as_made types kind convert (form.Vector n s) = gives types (form.Vector n (converted kind convert s)) tt
as_made types kind convert (form.Matrix columns rows s) = gives types (form.Matrix columns rows (converted kind convert s)) tt
as_made types kind convert _ = gives_none types IncompatibleOperands

pub matrix_loaded : (types : List PlainType) (columns rows : CooperativeSize) (role : CooperativeRole) (o : Option Scalar) → GivesIf types (option_map (λ s. form.CooperativeMatrix columns rows s role) o)
matrix_loaded types columns rows role None = no_form types
matrix_loaded types columns rows role (Some s) = some_form types (form.CooperativeMatrix columns rows s role) tt

pub value_size_made : (types : List PlainType) (size : ConstructorSize) (s : Scalar) → IsMadeOf types (form_of types (by_value (plain (inner_of size s))))
value_size_made types shape.Scalar s = tt
value_size_made types (shape.Vector n) s = tt
value_size_made types (shape.Matrix columns rows) s = tt
