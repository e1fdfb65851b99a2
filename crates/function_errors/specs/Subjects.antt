-- The subject of a function's error, a row per kind: an expression of the function, a local variable, or the function itself.
use Rattle.std.specs.Prelude.{ℕ, Option, Some, None}
use Rattle.typing_errors.specs.declared.atomics.AtomicError.{AtomicError}
use Rattle.typing_errors.specs.declared.atomics.AtomicError.TheVariants as atomic
use Rattle.typing_errors.specs.declared.calls.CallError.{CallError}
use Rattle.typing_errors.specs.declared.calls.CallError.TheVariants as call
use Rattle.typing_errors.specs.declared.error.FunctionError.{FunctionError}
use Rattle.typing_errors.specs.declared.error.FunctionError.TheVariants as error
use Rattle.typing_errors.specs.declared.expressions.ExpressionError.{ExpressionError}
use Rattle.typing_errors.specs.declared.expressions.ExpressionError.TheVariants as expression
use Rattle.typing_errors.specs.declared.subgroups.SubgroupError.{SubgroupError}
use Rattle.typing_errors.specs.declared.subgroups.SubgroupError.TheVariants as subgroup
use Rattle.function_errors.specs.declared.subjects.Subject.{Subject}
use Rattle.function_errors.specs.declared.subjects.Subject.TheVariants as subject

abbrev pub expression_if : Option ℕ → Subject
expression_if (Some handle) = subject.Expression handle
expression_if None = subject.Nothing

abbrev pub of_expression_error : ExpressionError → Subject
of_expression_error expression.NotInScope = subject.Nothing
of_expression_error (expression.Typing error) = subject.Nothing
of_expression_error (expression.Literal error) = subject.Nothing
of_expression_error (expression.Compose error) = subject.Nothing
of_expression_error expression.ExpectedGlobalOrArgument = subject.Nothing
of_expression_error expression.ExpectedGlobalVariable = subject.Nothing
of_expression_error (expression.ExpectedBindingArrayType ty) = subject.Nothing
of_expression_error (expression.ExpectedImageType ty) = subject.Nothing
of_expression_error (expression.InvalidImageClass class) = subject.Nothing
of_expression_error (expression.InvalidImageFormat format) = subject.Nothing
of_expression_error (expression.InvalidImageStorageAccess access) = subject.Nothing
of_expression_error expression.InvalidImageArrayIndex = subject.Nothing
of_expression_error (expression.InvalidImageArrayIndexType handle) = subject.Expression handle
of_expression_error (expression.InvalidImageCoordinateType dim handle) = subject.Expression handle
of_expression_error expression.Other = subject.Nothing

abbrev pub of_call_error : CallError → Subject
of_call_error (call.Argument index source) = of_expression_error source
of_call_error (call.ResultAlreadyInScope handle) = subject.Expression handle
of_call_error (call.ResultAlreadyPopulated handle) = subject.Expression handle
of_call_error (call.ArgumentCount required seen) = subject.Nothing
of_call_error (call.ArgumentType index required seen_expression) = subject.Expression seen_expression
of_call_error (call.ExpressionMismatch handle) = expression_if handle

abbrev pub of_atomic_error : AtomicError → Subject
of_atomic_error (atomic.InvalidPointer handle) = subject.Expression handle
of_atomic_error (atomic.InvalidAddressSpace space) = subject.Nothing
of_atomic_error (atomic.InvalidOperand handle) = subject.Expression handle
of_atomic_error (atomic.InvalidOperator fun) = subject.Nothing
of_atomic_error (atomic.InvalidResultExpression handle) = subject.Expression handle
of_atomic_error (atomic.ResultExpressionExchange handle) = subject.Expression handle
of_atomic_error (atomic.ResultExpressionNotExchange handle) = subject.Expression handle
of_atomic_error (atomic.ResultTypeMismatch handle) = subject.Expression handle
of_atomic_error atomic.MissingReturnValue = subject.Nothing
of_atomic_error (atomic.MissingCapability capabilities) = subject.Nothing
of_atomic_error (atomic.ResultAlreadyPopulated handle) = subject.Expression handle

abbrev pub of_subgroup_error : SubgroupError → Subject
of_subgroup_error (subgroup.InvalidOperand handle) = subject.Expression handle
of_subgroup_error (subgroup.ResultTypeMismatch handle) = subject.Expression handle
of_subgroup_error (subgroup.UnsupportedOperation operations) = subject.Nothing
of_subgroup_error subgroup.UnknownOperation = subject.Nothing
of_subgroup_error (subgroup.InvalidInvocationIdExprType handle) = subject.Expression handle

abbrev pub subject_of : FunctionError → Subject
subject_of (error.Expression handle source) = subject.Expression handle
subject_of (error.ExpressionAlreadyInScope handle) = subject.Expression handle
subject_of (error.LocalVariable handle name source) = subject.LocalVariable handle
subject_of (error.InvalidArgumentType index name) = subject.Nothing
subject_of error.NonConstructibleReturnType = subject.Nothing
subject_of (error.InvalidArgumentPointerSpace index name space) = subject.Nothing
subject_of error.BreakOutsideOfLoopOrSwitch = subject.Nothing
subject_of error.ContinueOutsideOfLoop = subject.Nothing
subject_of error.InvalidReturnSpot = subject.Nothing
subject_of (error.InvalidReturnType expression expected_ty) = expression_if expression
subject_of (error.InvalidIfType handle) = subject.Expression handle
subject_of (error.InvalidSwitchType handle) = subject.Expression handle
subject_of (error.ConflictingSwitchCase value) = subject.Nothing
subject_of error.ConflictingCaseType = subject.Nothing
subject_of error.MissingDefaultCase = subject.Nothing
subject_of error.MultipleDefaultCases = subject.Nothing
subject_of error.LastCaseFallTrough = subject.Nothing
subject_of (error.InvalidStorePointer handle) = subject.Expression handle
subject_of (error.InvalidStoreTexture actual actual_ty) = subject.Expression actual
subject_of (error.InvalidStoreValue actual actual_ty expected_ty) = subject.Expression actual
subject_of (error.InvalidStoreTypes pointer value) = subject.Expression value
subject_of (error.InvalidImageStore source) = of_expression_error source
subject_of (error.InvalidImageAtomic source) = of_expression_error source
subject_of (error.InvalidImageAtomicFunction fun) = subject.Nothing
subject_of (error.InvalidImageAtomicValue handle) = subject.Expression handle
subject_of (error.InvalidCall function error) = of_call_error error
subject_of (error.InvalidAtomic error) = of_atomic_error error
subject_of (error.InvalidRayQueryExpression handle) = subject.Expression handle
subject_of (error.InvalidAccelerationStructure handle) = subject.Expression handle
subject_of (error.MissingAccelerationStructureVertexReturn handle query) = subject.Expression handle
subject_of (error.MissingRayQueryVertexReturn handle) = subject.Expression handle
subject_of (error.InvalidRayDescriptor handle) = subject.Expression handle
subject_of (error.InvalidRayQueryType ty) = subject.Nothing
subject_of (error.InvalidHitDistanceType handle) = subject.Expression handle
subject_of (error.MissingCapability capabilities) = subject.Nothing
subject_of (error.NonUniformControlFlow requirements handle disruptor) = subject.Expression handle
subject_of (error.PipelineInputRegularFunction name) = subject.Nothing
subject_of error.PipelineOutputRegularFunction = subject.Nothing
subject_of (error.NonUniformWorkgroupUniformLoad disruptor) = subject.Nothing
subject_of (error.WorkgroupUniformLoadExpressionMismatch handle) = subject.Expression handle
subject_of (error.WorkgroupUniformLoadInvalidPointer handle) = subject.Expression handle
subject_of (error.InvalidSubgroup error) = of_subgroup_error error
subject_of (error.InvalidCooperativeStoreTarget handle) = subject.Expression handle
subject_of (error.InvalidCooperativeDataPointer handle) = subject.Expression handle
subject_of (error.EmitResult handle) = subject.Expression handle
subject_of (error.UnvisitedExpression handle) = subject.Expression handle
subject_of (error.InvalidMeshFunctionCall handle) = subject.Expression handle
subject_of (error.ConflictingMeshOutputTypes handle other) = subject.Expression handle
subject_of (error.ConflictingTaskPayloadVariables handle other) = subject.Expression handle
subject_of (error.InvalidMeshShaderOutputType handle) = subject.Expression handle
subject_of error.InvalidPayloadType = subject.Nothing
subject_of (error.InvalidPayloadAddressSpace space) = subject.Nothing
subject_of (error.MismatchedPayloadType ty earlier) = subject.Nothing
subject_of error.PayloadPointerNotGlobal = subject.Nothing
subject_of (error.StrictResultMismatch handle) = subject.Expression handle
