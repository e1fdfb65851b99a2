-- If handles are valid, the kinds of expressions follow from earlier ones.
use Rattle.std.proofs.Common.{◌≡◌, ℕ, ◌<◌, List, [], ◌∷◌, ◌++◌, map, Option, Some, None, option_map, option_to_list, All, refl, sym, ap, ◌∙◌, subst, slice_get}
use Rattle.std.proofs.lemmas.List.Elements.{All-nil}
use Rattle.std.proofs.lemmas.Option.{slice_get-map}
use Rattle.ir_arena.specs.found.Arenas.{value_of_entry}
use Rattle.ir_arena.specs.declared.span.Span.{Span}
use Rattle.ir_types.specs.judged.ExpressionPlain.{expression_view}
use Rattle.ir_types.specs.declared.expressions.Expression.{Expression}
use Rattle.ir_types.specs.declared.expressions.Expression.TheVariants as x
use Rattle.ir_items.specs.found.GlobalView.{values_of}
use Rattle.ir_items.specs.found.View.{function_view, entry_view, module_view}
use Rattle.typing_references.proofs.FaultLaws.{map_some}
use Rattle.module_handles.specs.Steps.{OrderGivesOrigins}
use Rattle.typing_handles.proofs.Ordered.{conditions}
use Rattle.spec_expressions.specs.judged.FunctionHandles.{OperandsPrecede}
use Rattle.spec_expressions.specs.judged.ExpressionNames.{expression_operands}
use Rattle.std.specs.List.{cons_option}
use Rattle.typing_layout.specs.judged.Constness.{OriginsPrecede, origin_of, operands_from}

-- optional arguments, in both representations
three_given : (a b c : Option ℕ) → cons_option a (cons_option b (cons_option c [])) ≡ option_to_list a ++ option_to_list b ++ option_to_list c
three_given None None None = refl
three_given None None (Some c) = refl
three_given None (Some b) None = refl
three_given None (Some b) (Some c) = refl
three_given (Some a) None None = refl
three_given (Some a) None (Some c) = refl
three_given (Some a) (Some b) None = refl
three_given (Some a) (Some b) (Some c) = refl

-- the kind of an expression follows from its operands
kind_operands : (P : ℕ → Type 0) (e : Expression) → All P (expression_operands (expression_view e)) → All P (operands_from (origin_of (expression_view e)))
kind_operands P (x.Literal value) all = All-nil P
kind_operands P (x.Constant handle) all = All-nil P
kind_operands P (x.Override handle) all = All-nil P
kind_operands P (x.ZeroValue type) all = All-nil P
kind_operands P (x.Compose type components) all = all
kind_operands P (x.Access base index) all = all
kind_operands P (x.AccessIndex base index) all = all
kind_operands P (x.Splat size value) all = all
kind_operands P (x.Swizzle size vector pattern) all = all
kind_operands P (x.FunctionArgument number) all = All-nil P
kind_operands P (x.GlobalVariable handle) all = All-nil P
kind_operands P (x.LocalVariable handle) all = All-nil P
kind_operands P (x.Load pointer) all = All-nil P
kind_operands P (x.ImageSample image sampler gathers coordinate array_index offset level depth_ref clamp_to_edge) all = All-nil P
kind_operands P (x.ImageLoad image coordinate array_index sample level) all = All-nil P
kind_operands P (x.ImageQuery image query) all = All-nil P
kind_operands P (x.Unary op expr) all = all
kind_operands P (x.Binary op left right) all = all
kind_operands P (x.Select condition accept reject) all = all
kind_operands P (x.Derivative axis ctrl expr) all = All-nil P
kind_operands P (x.Relational fun argument) all = all
kind_operands P (x.Math fun arg arg1 arg2 arg3) all = subst (λ l. All P (arg ∷ l)) (three_given arg1 arg2 arg3) all
kind_operands P (x.As expr kind convert) all = all
kind_operands P (x.CallResult handle) all = All-nil P
kind_operands P (x.AtomicResult type comparison) all = All-nil P
kind_operands P (x.WorkGroupUniformLoadResult type) all = All-nil P
kind_operands P (x.ArrayLength array) all = All-nil P
kind_operands P (x.RayQueryVertexPositions query committed) all = All-nil P
kind_operands P x.RayQueryProceedResult all = All-nil P
kind_operands P (x.RayQueryGetIntersection query committed) all = All-nil P
kind_operands P x.SubgroupBallotResult all = All-nil P
kind_operands P (x.SubgroupOperationResult type) all = All-nil P
kind_operands P (x.CooperativeLoad columns rows role place) all = All-nil P
kind_operands P (x.CooperativeMultiplyAdd p q r) all = All-nil P

-- if operands precede, the kinds of expressions follow from earlier ones
pub origins : (entries : List (Expression × Span)) → OperandsPrecede (map expression_view (values_of entries)) → OriginsPrecede (map expression_view (map value_of_entry entries))
origins entries precede place e at =
    let r = map_some expression_view (slice_get (values_of entries) place) e (sym (slice_get-map expression_view (values_of entries) place) ∙ at) in
    subst (λ y. All (λ operand. operand < place) (operands_from (origin_of y))) (sym r.2)
    (kind_operands (λ operand. operand < place) r.0 (subst (λ y. All (λ operand. operand < place) (expression_operands y)) r.2 (precede place e at)))

pub order_gives_origins : OrderGivesOrigins
order_gives_origins m ok =
    let given_by = conditions (module_view m) ok in
    record {
      globals = origins m.global_expressions given_by.global_expressions;
      functions = λ i f at. origins f.expressions (given_by.functions i (function_view f) (slice_get-map function_view (values_of m.functions) i ∙ ap (option_map function_view) at)).operands;
      entries = λ k x at. origins x.function.expressions (given_by.entries k (entry_view x) (slice_get-map entry_view m.entry_points.items k ∙ ap (option_map entry_view) at)).operands;
    }
