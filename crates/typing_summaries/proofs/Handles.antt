-- Expressions with and without their handles.
use Rattle.std.proofs.Common.{◌≡◌, ℕ, ◌+◌, List, [], ◌∷◌, map, refl}
use Rattle.ir_arena.specs.judged.Handles.{handles_from}
use Rattle.ir_arena.specs.declared.span.Span.{Span}
use Rattle.ir_types.specs.judged.ExpressionPlain.{expression_view}
use Rattle.ir_types.specs.declared.expressions.Expression.{Expression}
use Rattle.ir_items.specs.found.GlobalView.{values_of}
use Rattle.spec_expressions.specs.declared.global_use.GlobalUse.{GlobalUse}
use Rattle.typing_summaries.specs.Tallies.{Known, Tallied, expression_done, expressions_done, expressions_done_with, name_one, name_all, name_all_with}

pub expressions_with : (k : Known) (place : ℕ) (entries : List (Expression × Span)) (t : Tallied) → expressions_done_with k (handles_from place entries) t ≡ expressions_done k place (map expression_view (values_of entries)) t
expressions_with k place [] t = refl
expressions_with k place (e ∷ rest) t = expressions_with k (place + 1) rest (expression_done k place (expression_view e.0) t)

pub names_with : (place : ℕ) (entries : List (Expression × Span)) (uses : List GlobalUse) → name_all_with (handles_from place entries) uses ≡ name_all (map expression_view (values_of entries)) uses
names_with place [] uses = refl
names_with place (e ∷ rest) uses = names_with (place + 1) rest (name_one (expression_view e.0) uses)
