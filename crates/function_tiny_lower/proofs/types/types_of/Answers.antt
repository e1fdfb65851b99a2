use Rattle.std.proofs.Common.{◌≡◌, ◌+◌, [], ◌∷◌, ◌++◌, Some, None, map, sym, subst}
use Rattle.ir_types.specs.judged.ExpressionPlain.{expression_view}
use Rattle.ir_items.specs.found.View.{function_view, module_view}
use Rattle.function_tiny_lower.proofs.Typed.{occurs_at, AreFound, found_more, found_untyped}
use Rattle.function_tiny_lower.specs.Typing.{expression_type, IsUntyped}
use Rattle.function_tiny_lower.proofs.types.types_of.Goals as goal

pub refused-requires : goal.refused-requires
refused-requires c =
    let m = module_view c.args.«module».now in
    let f = function_view c.args.function.now in
    let expression = c.index-expression.result.now in
    let at = occurs_at c.args.function.now.expressions c.at-handle.result c.loop-index.index expression c.index-expression.ensures c.at-handle.ensures in
    let none = subst (λ past. expression_type m f (map Some past) (expression_view expression) ≡ None) c.as_slice.ensures.value (sym c.in-None.ensures) in
    subst (IsUntyped m f) (sym c.at-handle.ensures) (found_untyped m f c.loop-index.types.items c.loop-index.index c.loop-index.invariant (expression_view expression) at none)

pub loop-index-preserved : goal.loop-index-preserved
loop-index-preserved c =
    let m = module_view c.args.«module».now in
    let f = function_view c.args.function.now in
    let expression = c.index-expression.result.now in
    let at = occurs_at c.args.function.now.expressions c.at-handle.result c.loop-index.index expression c.index-expression.ensures c.at-handle.ensures in
    let typed = subst (λ past. expression_type m f (map Some past) (expression_view expression) ≡ Some c.in-Some.ty) c.as_slice.ensures.value (sym c.in-Some.ensures) in
    let pushed : c.push.new.self.items ≡ c.loop-index.types.items ++ c.in-Some.ty ∷ [] = c.in_ok-push-in-Some.ensures.items in
    subst (λ types. AreFound m f types (c.loop-index.index + 1)) (sym pushed)
    (found_more m f c.loop-index.types.items c.loop-index.index c.loop-index.invariant (expression_view expression) c.in-Some.ty at typed)
