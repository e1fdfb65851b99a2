-- What is used above of `ir_types`, re-exported.
pub use Rattle.ir_types.specs.declared.expressions.Expression.{Expression}
pub use Rattle.ir_types.specs.declared.expressions.Expression.TheVariants.{Access, AccessIndex, GlobalVariable, Splat}
pub use Rattle.ir_types.specs.declared.types.IrType.{IrType}
pub use Rattle.ir_types.specs.declared.types.TypeInner.TheVariants.{Vector}
pub use Rattle.ir_types.specs.judged.ExpressionPlain.{PlainExpression, compose, expression_view, plain as plain_expression}
pub use Rattle.ir_types.specs.judged.Plain.{PlainInner, PlainType, inner_view, plain, type_view}
