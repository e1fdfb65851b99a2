use Rattle.std.proofs.Common.{◌∙◌, ◌||◌, false, map, length, sym, ap}
use Rattle.std.proofs.lemmas.List.{length-map}
use Rattle.function_interface.proofs.RefusedAs.{refused_as, refused_at, refused_somewhere}
use Rattle.function_interface.specs.Analysis.{IsFaultBefore}
use Rattle.function_whole.proofs.PartLaws.{before_function}
use Rattle.function_whole.proofs.Refuted.{function_refuted}
use Rattle.function_whole.proofs.Whole.{accepted, stages_noted, joined_noted}
use Rattle.function_whole.specs.Faults.{IsFaultAfter, IsFunctionFault, IsFunctionFaultAt, behind}
use Rattle.function_interface.specs.Question.{question}
use Rattle.ir_items.specs.found.View.{function_view, module_view}
use Rattle.spec_expressions.proofs.SummaryLaws.{summary_of_joined}
use Rattle.spec_statements.specs.judged.Functions.{FunctionOK, block_context}
use Rattle.typing_errors.specs.Answers.{form_given}
use Rattle.function_whole.proofs.validate.validate_function_with.Goals as goal

pub returns-in-Err-clause-refused : goal.returns-in-Err-clause-refused
returns-in-Err-clause-refused g c =
    let m = module_view c.args.«module».now in
    let f = function_view c.args.function.now in
    let s = c.args.settings in
    let entry = c.args.entry_point in
    let before = c.args.held in
    let summaries = map (g.L.Lower.summary c.args.lower.now) c.args.callees.now in
    let stages = map (g.L.Lower.noted c.args.lower.now) c.args.callees.now in
    let q = question m f summaries stages in
    let reading = g.L.Lower.reading c.args.lower.now q in
    let faults = g.L.Lower.faults c.args.lower.now q in
    let t = c.analyse_function.new.trail in
    refused_as (IsFunctionFault reading faults s entry before m f) (λ e. FunctionOK reading s entry before m f → ⊥)
    (λ e w. function_refuted reading faults s entry before m f e (g.met.L.Lower.one_form c.args.lower.now q) (g.met.L.Lower.fault_refutes c.args.lower.now q) (g.met.L.Lower.expression_refuted c.args.lower.now q) w)
    c.in-Err.refusal (refused_somewhere t (IsFunctionFaultAt reading faults s entry before m f) c.in-Err.refusal
    (refused_at t (IsFaultBefore faults s.flags m f) (IsFunctionFaultAt reading faults s entry before m f) (before_function reading faults s entry before m f) c.in-Err.refusal c.in-Err.ensures.fault))

pub returns-in-Err-clause-fault : goal.returns-in-Err-clause-fault
returns-in-Err-clause-fault g c =
    let m = module_view c.args.«module».now in
    let f = function_view c.args.function.now in
    let s = c.args.settings in
    let entry = c.args.entry_point in
    let before = c.args.held in
    let summaries = map (g.L.Lower.summary c.args.lower.now) c.args.callees.now in
    let stages = map (g.L.Lower.noted c.args.lower.now) c.args.callees.now in
    let q = question m f summaries stages in
    let reading = g.L.Lower.reading c.args.lower.now q in
    let faults = g.L.Lower.faults c.args.lower.now q in
    let t = c.analyse_function.new.trail in
    refused_somewhere t (IsFunctionFaultAt reading faults s entry before m f) c.in-Err.refusal
    (refused_at t (IsFaultBefore faults s.flags m f) (IsFunctionFaultAt reading faults s entry before m f) (before_function reading faults s entry before m f) c.in-Err.refusal c.in-Err.ensures.fault)

pub returns-in-Err-clause-placed : goal.returns-in-Err-clause-placed
returns-in-Err-clause-placed g c =
    let m = module_view c.args.«module».now in
    let f = function_view c.args.function.now in
    let s = c.args.settings in
    let entry = c.args.entry_point in
    let before = c.args.held in
    let summaries = map (g.L.Lower.summary c.args.lower.now) c.args.callees.now in
    let stages = map (g.L.Lower.noted c.args.lower.now) c.args.callees.now in
    let q = question m f summaries stages in
    let reading = g.L.Lower.reading c.args.lower.now q in
    let faults = g.L.Lower.faults c.args.lower.now q in
    refused_at c.analyse_function.new.trail (IsFaultBefore faults s.flags m f) (IsFunctionFaultAt reading faults s entry before m f) (before_function reading faults s entry before m f) c.in-Err.refusal c.in-Err.ensures.fault

pub judge-requires-clause-many : goal.judge-requires-clause-many
judge-requires-clause-many g c =
    let m = module_view c.args.«module».now in
    let f = function_view c.args.function.now in
    let s = c.args.settings in
    let entry = c.args.entry_point in
    let before = c.args.held in
    let summaries = map (g.L.Lower.summary c.args.lower.now) c.args.callees.now in
    let stages = map (g.L.Lower.noted c.args.lower.now) c.args.callees.now in
    let q = question m f summaries stages in
    let reading = g.L.Lower.reading c.args.lower.now q in
    let faults = g.L.Lower.faults c.args.lower.now q in
    let kept = c.in-Ok.ensures.kept in
    let forms = map (form_given m.types) (g.L.Lower.types c.args.lower.now c.in-Ok.info) in
    sym kept.typed.many ∙ length-map (g.L.Lower.types c.args.lower.now c.in-Ok.info) (form_given m.types)

pub returns-in-Ok-judge-clause-accepted : goal.returns-in-Ok-judge-clause-accepted
returns-in-Ok-judge-clause-accepted g c =
    let m = module_view c.args.«module».now in
    let f = function_view c.args.function.now in
    let s = c.args.settings in
    let entry = c.args.entry_point in
    let before = c.args.held in
    let summaries = map (g.L.Lower.summary c.args.lower.now) c.args.callees.now in
    let stages = map (g.L.Lower.noted c.args.lower.now) c.args.callees.now in
    let q = question m f summaries stages in
    let reading = g.L.Lower.reading c.args.lower.now q in
    let faults = g.L.Lower.faults c.args.lower.now q in
    let kept = c.in-Ok.ensures.kept in
    let forms = map (form_given m.types) (g.L.Lower.types c.args.lower.now c.in-Ok.info) in
    accepted reading s entry before m f forms stages c.in-Ok-judge.met.stages c.in-Ok-judge.met.held c.in-Ok.ensures.arities kept.analysed kept.typed c.in-Ok-judge.ensures

pub returns-in-Ok-judge-clause-stages : goal.returns-in-Ok-judge-clause-stages
returns-in-Ok-judge-clause-stages g c =
    let m = module_view c.args.«module».now in
    let f = function_view c.args.function.now in
    let s = c.args.settings in
    let entry = c.args.entry_point in
    let before = c.args.held in
    let summaries = map (g.L.Lower.summary c.args.lower.now) c.args.callees.now in
    let stages = map (g.L.Lower.noted c.args.lower.now) c.args.callees.now in
    let q = question m f summaries stages in
    let reading = g.L.Lower.reading c.args.lower.now q in
    let faults = g.L.Lower.faults c.args.lower.now q in
    let kept = c.in-Ok.ensures.kept in
    let forms = map (form_given m.types) (g.L.Lower.types c.args.lower.now c.in-Ok.info) in
    stages_noted reading s entry before (block_context s m f forms) stages c.in-Ok-judge.met.stages c.in-Ok-judge.met.held (g.L.Lower.noted c.args.lower.now c.in-Ok.info) (g.L.Lower.noted c.args.lower.now c.noted.result.info)
    kept.all_run c.noted.ensures.stages c.in-Ok-judge.ensures

pub returns-in-Ok-judge-clause-joined : goal.returns-in-Ok-judge-clause-joined
returns-in-Ok-judge-clause-joined g c =
    let m = module_view c.args.«module».now in
    let f = function_view c.args.function.now in
    let s = c.args.settings in
    let entry = c.args.entry_point in
    let before = c.args.held in
    let summaries = map (g.L.Lower.summary c.args.lower.now) c.args.callees.now in
    let stages = map (g.L.Lower.noted c.args.lower.now) c.args.callees.now in
    let q = question m f summaries stages in
    let reading = g.L.Lower.reading c.args.lower.now q in
    let faults = g.L.Lower.faults c.args.lower.now q in
    let kept = c.in-Ok.ensures.kept in
    let forms = map (form_given m.types) (g.L.Lower.types c.args.lower.now c.in-Ok.info) in
    joined_noted (length m.globals) f summaries (g.L.Lower.summary c.args.lower.now c.in-Ok.info) (g.L.Lower.summary c.args.lower.now c.noted.result.info)
    c.noted.ensures.uses c.noted.ensures.pairs c.noted.ensures.may_kill kept.joined

pub returns-in-Ok-judge-clause-chains : goal.returns-in-Ok-judge-clause-chains
returns-in-Ok-judge-clause-chains g c =
    let m = module_view c.args.«module».now in
    let f = function_view c.args.function.now in
    let s = c.args.settings in
    let entry = c.args.entry_point in
    let before = c.args.held in
    let summaries = map (g.L.Lower.summary c.args.lower.now) c.args.callees.now in
    let stages = map (g.L.Lower.noted c.args.lower.now) c.args.callees.now in
    let q = question m f summaries stages in
    let reading = g.L.Lower.reading c.args.lower.now q in
    let faults = g.L.Lower.faults c.args.lower.now q in
    let kept = c.in-Ok.ensures.kept in
    let forms = map (form_given m.types) (g.L.Lower.types c.args.lower.now c.in-Ok.info) in
    λ known. summary_of_joined m f summaries known (g.L.Lower.summary c.args.lower.now c.noted.result.info)
    (joined_noted (length m.globals) f summaries (g.L.Lower.summary c.args.lower.now c.in-Ok.info) (g.L.Lower.summary c.args.lower.now c.noted.result.info)
    c.noted.ensures.uses c.noted.ensures.pairs c.noted.ensures.may_kill kept.joined)

pub returns-in-Err-judge-clause-refused : goal.returns-in-Err-judge-clause-refused
returns-in-Err-judge-clause-refused g c =
    let m = module_view c.args.«module».now in
    let f = function_view c.args.function.now in
    let s = c.args.settings in
    let entry = c.args.entry_point in
    let before = c.args.held in
    let summaries = map (g.L.Lower.summary c.args.lower.now) c.args.callees.now in
    let stages = map (g.L.Lower.noted c.args.lower.now) c.args.callees.now in
    let q = question m f summaries stages in
    let reading = g.L.Lower.reading c.args.lower.now q in
    let faults = g.L.Lower.faults c.args.lower.now q in
    let kept = c.in-Ok.ensures.kept in
    let forms = map (form_given m.types) (g.L.Lower.types c.args.lower.now c.in-Ok.info) in
    let t = c.judge.new.trail in
    refused_as (IsFunctionFault reading faults s entry before m f) (λ e. FunctionOK reading s entry before m f → ⊥)
    (λ e w. function_refuted reading faults s entry before m f e (g.met.L.Lower.one_form c.args.lower.now q) (g.met.L.Lower.fault_refutes c.args.lower.now q) (g.met.L.Lower.expression_refuted c.args.lower.now q) w)
    c.in-Err-judge.refusal (refused_somewhere t (IsFunctionFaultAt reading faults s entry before m f) c.in-Err-judge.refusal (
    refused_at t (IsFaultAfter reading faults s entry before (block_context s m f forms)) (IsFunctionFaultAt reading faults s entry before m f)
    (λ e p w. behind c.in-Ok.ensures.arities kept.analysed forms kept.typed w) c.in-Err-judge.refusal c.in-Err-judge.ensures))

pub returns-in-Err-judge-clause-fault : goal.returns-in-Err-judge-clause-fault
returns-in-Err-judge-clause-fault g c =
    let m = module_view c.args.«module».now in
    let f = function_view c.args.function.now in
    let s = c.args.settings in
    let entry = c.args.entry_point in
    let before = c.args.held in
    let summaries = map (g.L.Lower.summary c.args.lower.now) c.args.callees.now in
    let stages = map (g.L.Lower.noted c.args.lower.now) c.args.callees.now in
    let q = question m f summaries stages in
    let reading = g.L.Lower.reading c.args.lower.now q in
    let faults = g.L.Lower.faults c.args.lower.now q in
    let kept = c.in-Ok.ensures.kept in
    let forms = map (form_given m.types) (g.L.Lower.types c.args.lower.now c.in-Ok.info) in
    let t = c.judge.new.trail in
    refused_somewhere t (IsFunctionFaultAt reading faults s entry before m f) c.in-Err-judge.refusal (
    refused_at t (IsFaultAfter reading faults s entry before (block_context s m f forms)) (IsFunctionFaultAt reading faults s entry before m f)
    (λ e p w. behind c.in-Ok.ensures.arities kept.analysed forms kept.typed w) c.in-Err-judge.refusal c.in-Err-judge.ensures)

pub returns-in-Err-judge-clause-placed : goal.returns-in-Err-judge-clause-placed
returns-in-Err-judge-clause-placed g c =
    let m = module_view c.args.«module».now in
    let f = function_view c.args.function.now in
    let s = c.args.settings in
    let entry = c.args.entry_point in
    let before = c.args.held in
    let summaries = map (g.L.Lower.summary c.args.lower.now) c.args.callees.now in
    let stages = map (g.L.Lower.noted c.args.lower.now) c.args.callees.now in
    let q = question m f summaries stages in
    let reading = g.L.Lower.reading c.args.lower.now q in
    let faults = g.L.Lower.faults c.args.lower.now q in
    let kept = c.in-Ok.ensures.kept in
    let forms = map (form_given m.types) (g.L.Lower.types c.args.lower.now c.in-Ok.info) in
    let t = c.judge.new.trail in
    refused_at t (IsFaultAfter reading faults s entry before (block_context s m f forms)) (IsFunctionFaultAt reading faults s entry before m f)
    (λ e p w. behind c.in-Ok.ensures.arities kept.analysed forms kept.typed w) c.in-Err-judge.refusal c.in-Err-judge.ensures

pub returns-in-Ok-judge-clause-globals : goal.returns-in-Ok-judge-clause-globals
returns-in-Ok-judge-clause-globals g c =
    let summaries = map (g.L.Lower.summary c.args.lower.now) c.args.callees.now in
    let kept = c.in-Ok.ensures.kept in
    c.noted.ensures.globals ∙ kept.globals

pub returns-in-Ok-judge-clause-unblended : goal.returns-in-Ok-judge-clause-unblended
returns-in-Ok-judge-clause-unblended g c =
    let summaries = map (g.L.Lower.summary c.args.lower.now) c.args.callees.now in
    let kept = c.in-Ok.ensures.kept in
    c.noted.ensures.blending ∙ ap (λ b. b || false) kept.unblended

pub returns-in-Ok-judge-clause-own : goal.returns-in-Ok-judge-clause-own
returns-in-Ok-judge-clause-own g c = c.noted.ensures.own (module_view c.args.«module».now) (function_view c.args.function.now) c.in-Ok.ensures.own
