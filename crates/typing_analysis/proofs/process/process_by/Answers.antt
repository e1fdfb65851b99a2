use Rattle.std.proofs.Common.{map}
use Rattle.ir_items.specs.found.View.{function_view, module_view}
use Rattle.typing_infos.specs.Infos.{summary_of}
use Rattle.spec_expressions.proofs.SummaryLaws.{summary_of_joined}
use Rattle.typing_handles.proofs.SameLemmas.{same_order}
use Rattle.typing_analysis.proofs.Joined.{is_analysed, analysed_agrees, refusal_agrees}
use Rattle.typing_analysis.proofs.Named.{items_named}
use Rattle.typing_analysis.proofs.process.process_by.Goals as goal

pub summarize-requires-clause-precede : goal.summarize-requires-clause-precede
summarize-requires-clause-precede c = (same_order (function_view c.args.function.now).expressions).0 c.requires.precede

pub summarize-requires-clause-named : goal.summarize-requires-clause-named
summarize-requires-clause-named c = items_named (module_view c.args.«module».now) (function_view c.args.function.now) c.requires.handles

pub returns-in-Err-clause-exact : goal.returns-in-Err-clause-exact
returns-in-Err-clause-exact c =
    c.refused.ensures c.args.flags (module_view c.args.«module».now) (function_view c.args.function.now) (map summary_of c.args.infos.now) c.in-Err.ensures.fault

pub returns-in-Err-clause-callees_alone : goal.returns-in-Err-clause-callees_alone
returns-in-Err-clause-callees_alone c = λ others agree.
    let m = module_view c.args.«module».now in
    let f = function_view c.args.function.now in
    let summaries = map summary_of c.args.infos.now in
    refusal_agrees c.args.flags m f summaries others agree c.refused.result (c.refused.ensures c.args.flags m f summaries c.in-Err.ensures.fault)

pub returns-in-Err-check_uniformity-clause-exact : goal.returns-in-Err-check_uniformity-clause-exact
returns-in-Err-check_uniformity-clause-exact c = c.in-Err-check_uniformity.ensures.fault (map summary_of c.args.infos.now)

pub returns-in-Err-check_uniformity-clause-callees_alone : goal.returns-in-Err-check_uniformity-clause-callees_alone
returns-in-Err-check_uniformity-clause-callees_alone c = λ others agree. c.in-Err-check_uniformity.ensures.fault others

pub returns-in-Ok-into_info-clause-exact : goal.returns-in-Ok-into_info-clause-exact
returns-in-Ok-into_info-clause-exact c =
    let m = module_view c.args.«module».now in
    let f = function_view c.args.function.now in
    let summaries = map summary_of c.args.infos.now in
    is_analysed c.args.flags m f summaries c.in-Ok-into_info.info (c.in-Ok-into_info.ensures m f summaries c.in-Ok.ensures.ok) c.in-Ok.ensures.ok.clear c.in-Ok-check_uniformity.ensures.clear

pub returns-in-Ok-into_info-clause-callees_alone : goal.returns-in-Ok-into_info-clause-callees_alone
returns-in-Ok-into_info-clause-callees_alone c = λ others agree.
    let m = module_view c.args.«module».now in
    let f = function_view c.args.function.now in
    let summaries = map summary_of c.args.infos.now in
    let info = c.in-Ok-into_info.info in
    analysed_agrees c.args.flags m f summaries others agree info
    (is_analysed c.args.flags m f summaries info (c.in-Ok-into_info.ensures m f summaries c.in-Ok.ensures.ok) c.in-Ok.ensures.ok.clear c.in-Ok-check_uniformity.ensures.clear)

pub returns-in-Ok-into_info-clause-chains : goal.returns-in-Ok-into_info-clause-chains
returns-in-Ok-into_info-clause-chains c = λ known.
    let m = module_view c.args.«module».now in
    let f = function_view c.args.function.now in
    let summaries = map summary_of c.args.infos.now in
    summary_of_joined m f summaries known (summary_of c.in-Ok-into_info.info) (c.in-Ok-into_info.ensures m f summaries c.in-Ok.ensures.ok).joined
