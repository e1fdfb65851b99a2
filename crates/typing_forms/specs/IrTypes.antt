-- What is used above of `ir_types`, re-exported.
pub use Rattle.ir_types.specs.declared.expressions.Expression.{Expression}
pub use Rattle.ir_types.specs.declared.expressions.Expression.TheVariants.{Access, AccessIndex, FunctionArgument, GlobalVariable, ImageSample}
pub use Rattle.ir_types.specs.declared.expressions.Expression.TheVariants as expression
pub use Rattle.ir_types.specs.declared.expressions.ImageQuery.{ImageQuery}
pub use Rattle.ir_types.specs.declared.expressions.ImageQuery.TheVariants.{NumLayers, NumLevels, NumSamples, Size}
pub use Rattle.ir_types.specs.declared.expressions.SampleLevel.{SampleLevel}
pub use Rattle.ir_types.specs.declared.expressions.SampleLevel.TheVariants.{Auto, Bias, Exact, Gradient, Zero}
pub use Rattle.ir_types.specs.declared.refusal.Refusal.{Refusal}
pub use Rattle.ir_types.specs.declared.refusal.Refusal.TheVariants as refusal
pub use Rattle.ir_types.specs.declared.types.ArraySize.{ArraySize}
pub use Rattle.ir_types.specs.declared.types.ArraySize.TheVariants.{Constant, Dynamic, Pending}
pub use Rattle.ir_types.specs.declared.types.ArraySize.TheVariants as count
pub use Rattle.ir_types.specs.declared.types.IrType.{IrType}
pub use Rattle.ir_types.specs.declared.types.StructMember.{StructMember}
pub use Rattle.ir_types.specs.declared.types.TypeInner.{TypeInner}
pub use Rattle.ir_types.specs.declared.types.TypeInner.TheVariants.{Image}
pub use Rattle.ir_types.specs.declared.types.TypeInner.TheVariants as inner
pub use Rattle.ir_types.specs.found.Faults.{error_of, spans_of}
pub use Rattle.ir_types.specs.judged.ExpressionPlain.{PlainExpression, compose, expression_view, implicit_derivatives, plain as plain_expression}
pub use Rattle.ir_types.specs.judged.Plain.{PlainInner, PlainMember, PlainType, inner_view, member_view, plain, struct}
