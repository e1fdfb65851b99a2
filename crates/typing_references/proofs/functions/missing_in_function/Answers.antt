use Rattle.std.proofs.Common.{sym, ◌∙◌, ap, subst}
use Rattle.std.specs.Option.{MatchOption}
use Rattle.ir_items.specs.found.View.{function_view, module_view}
use Rattle.typing_references.specs.Faults.{function_missing, IsMissingFault}
use Rattle.typing_references.proofs.FaultLaws.{missing_told}
use Rattle.spec_expressions.specs.judged.FunctionHandles.{HandlesInRange}
use Rattle.typing_references.proofs.functions.missing_in_function.Goals as goal

pub returns : goal.returns
returns c =
    let m = module_view c.args.«module».now in
    let f = function_view c.args.function.now in
    let same = c.function_missing.ensures ∙ ap (λ b. function_missing b f) c.of.ensures in
    subst (λ o. MatchOption o (HandlesInRange m f) (IsMissingFault m f)) (sym same) (missing_told m f)
