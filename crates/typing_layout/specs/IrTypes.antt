-- What is used above of `ir_types`, re-exported.
pub use Rattle.typing_forms.specs.IrTypes.{Expression, Access, AccessIndex, FunctionArgument, GlobalVariable, ImageSample, ImageQuery, NumLayers, NumLevels, NumSamples, Size, SampleLevel, Auto, Bias, Exact, Gradient, Zero, ArraySize, Constant, Dynamic, Pending, Image, PlainExpression, compose, implicit_derivatives, plain_expression, PlainInner, PlainMember, PlainType, plain, struct}
pub use Rattle.typing_forms.specs.IrTypes.expression as x
pub use Rattle.typing_forms.specs.IrTypes.count as count
pub use Rattle.typing_forms.specs.IrTypes.inner as inner
