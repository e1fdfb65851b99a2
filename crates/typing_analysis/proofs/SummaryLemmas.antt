-- The tally of a function of the module.
use Rattle.std.proofs.Common.{◌≡◌, ℕ, Option, List, length, map, sym, ap, ◌∙◌, subst}
use Rattle.std.proofs.lemmas.List.{length-map}
use Rattle.ir_blocks.specs.found.View.{block_view}
use Rattle.ir_types.specs.judged.ExpressionPlain.{expression_view}
use Rattle.ir_items.specs.found.GlobalView.{values_of, global_view}
use Rattle.ir_items.specs.found.View.{function_view, module_view}
use Rattle.ir_items.specs.declared.functions.Function.{Function}
use Rattle.ir_items.specs.declared.module.Module.{Module}
use Rattle.spec_expressions.specs.judged.Values.{AreStarts}
use Rattle.spec_expressions.specs.judged.Summaries.{Summary}
use Rattle.typing_summaries.specs.Tallies.{Tallied, whole_tally}
use Rattle.typing_summaries.specs.Tallied.{IsTally}
use Rattle.typing_summaries.proofs.TallyLaws.{tally_is}
use Rattle.typing_infos.proofs.TypeLemmas.{length_views}

pub whole_is : (f : Function) (globals : List (Option ℕ)) (summaries : List Summary) (n : ℕ) (t : Tallied) → AreStarts (function_view f).expressions globals
    → t ≡ whole_tally (record { expressions = map expression_view (values_of f.expressions); globals = globals; summaries = summaries }) (length f.expressions) n (block_view f.body)
    → IsTally n (function_view f) summaries t
whole_is f globals summaries n t starts is =
    let same = is ∙ ap (λ z. whole_tally (record { expressions = map expression_view (values_of f.expressions); globals = globals; summaries = summaries }) z n (block_view f.body)) (sym (length_views f.expressions)) in
    subst (IsTally n (function_view f) summaries) (sym same) (tally_is (function_view f) globals summaries n starts)

pub global_count : (m : Module) → length m.global_variables ≡ length (module_view m).globals
global_count m = sym (length-map (values_of m.global_variables) global_view ∙ length-map m.global_variables (λ e. e.0))
