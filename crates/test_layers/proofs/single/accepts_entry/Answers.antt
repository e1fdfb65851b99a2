use Rattle.std.proofs.Common.{◌≡◌, ap, ◌∙◌, List, Some, false, length, map, option_map, refl, slice_get, subst, sym}
use Rattle.std.proofs.lemmas.Option.{slice_get-map, slice_get_read}
use Rattle.shader_ir.specs.View.{entry_view, module_view}
use Rattle.spec_expressions.specs.judged.Summaries.{CalleesKnown}
use Rattle.typing_infos.specs.Infos.{summary_of}
use Rattle.typing_infos.specs.declared.function_info.FunctionInfo.{FunctionInfo}
use Rattle.test_layers.proofs.single.accepts_entry.Goals as goal

pub validate_functions-requires-clause-made : goal.validate_functions-requires-clause-made
validate_functions-requires-clause-made c =
    let validator = c.new-validator.ensures in
    c.made_for_accepted.ensures _ false (module_view c.args.«module».now) c.in-Ok.info c.new-validator.result.lower c.in-Ok.ensures.accepted c.in-Ok.ensures.told
    (ap (λ v. v.lower.info) validator ∙ c.new-lower.ensures.info) (ap (λ v. v.lower.severities) validator ∙ c.new-lower.ensures.severities)

-- the layer is the same after the functions
pub validate_entry_point-answer-requires-clause-made : goal.validate_entry_point-answer-requires-clause-made
validate_entry_point-answer-requires-clause-made c =
    let validator = c.new-validator.ensures in
    let kept = c.in-Ok-validate_functions.ensures.settings in
    c.made_for_accepted.ensures _ false (module_view c.args.«module».now) c.in-Ok.info c.validate_functions.new.self.lower c.in-Ok.ensures.accepted c.in-Ok.ensures.told
    (ap (λ v. v.lower.info) kept ∙ (ap (λ v. v.lower.info) validator ∙ c.new-lower.ensures.info))
    (ap (λ v. v.lower.severities) kept ∙ (ap (λ v. v.lower.severities) validator ∙ c.new-lower.ensures.severities))

-- the entry point is one of the module's, whose functions are judged
pub validate_entry_point-answer-requires-clause-handles : goal.validate_entry_point-answer-requires-clause-handles
validate_entry_point-answer-requires-clause-handles c =
    let l = c.in-Some.ensures.lookup in
    let judged = c.in-Ok-validate_functions.ensures.judged.judged in
    let items = c.args.«module».now.entry_points.items in
    let at = slice_get_read c.deref.result.now (length c.deref.result.now) c.args.index c.in-Some.entry.now refl l.3.0 l.1 in
    (c.entries_are_ready.ensures (module_view c.args.«module».now) _ c.in-Ok.ensures.accepted.handles judged.many judged.known c.args.index _
    (slice_get-map entry_view items c.args.index ∙ ap (option_map entry_view) (ap (λ xs. slice_get xs c.args.index) (sym c.deref.ensures.value) ∙ at))).in_range

pub validate_entry_point-answer-requires-clause-precede : goal.validate_entry_point-answer-requires-clause-precede
validate_entry_point-answer-requires-clause-precede c =
    let l = c.in-Some.ensures.lookup in
    let judged = c.in-Ok-validate_functions.ensures.judged.judged in
    let items = c.args.«module».now.entry_points.items in
    let at = slice_get_read c.deref.result.now (length c.deref.result.now) c.args.index c.in-Some.entry.now refl l.3.0 l.1 in
    (c.entries_are_ready.ensures (module_view c.args.«module».now) _ c.in-Ok.ensures.accepted.handles judged.many judged.known c.args.index _
    (slice_get-map entry_view items c.args.index ∙ ap (option_map entry_view) (ap (λ xs. slice_get xs c.args.index) (sym c.deref.ensures.value) ∙ at))).operands

pub validate_entry_point-answer-requires-clause-payload : goal.validate_entry_point-answer-requires-clause-payload
validate_entry_point-answer-requires-clause-payload c =
    let l = c.in-Some.ensures.lookup in
    let judged = c.in-Ok-validate_functions.ensures.judged.judged in
    let items = c.args.«module».now.entry_points.items in
    let at = slice_get_read c.deref.result.now (length c.deref.result.now) c.args.index c.in-Some.entry.now refl l.3.0 l.1 in
    (c.entries_are_ready.ensures (module_view c.args.«module».now) _ c.in-Ok.ensures.accepted.handles judged.many judged.known c.args.index _
    (slice_get-map entry_view items c.args.index ∙ ap (option_map entry_view) (ap (λ xs. slice_get xs c.args.index) (sym c.deref.ensures.value) ∙ at))).payload

pub validate_entry_point-answer-requires-clause-output : goal.validate_entry_point-answer-requires-clause-output
validate_entry_point-answer-requires-clause-output c =
    let l = c.in-Some.ensures.lookup in
    let judged = c.in-Ok-validate_functions.ensures.judged.judged in
    let items = c.args.«module».now.entry_points.items in
    let at = slice_get_read c.deref.result.now (length c.deref.result.now) c.args.index c.in-Some.entry.now refl l.3.0 l.1 in
    (c.entries_are_ready.ensures (module_view c.args.«module».now) _ c.in-Ok.ensures.accepted.handles judged.many judged.known c.args.index _
    (slice_get-map entry_view items c.args.index ∙ ap (option_map entry_view) (ap (λ xs. slice_get xs c.args.index) (sym c.deref.ensures.value) ∙ at))).output

pub validate_entry_point-answer-requires-clause-known : goal.validate_entry_point-answer-requires-clause-known
validate_entry_point-answer-requires-clause-known c =
    let l = c.in-Some.ensures.lookup in
    let judged = c.in-Ok-validate_functions.ensures.judged.judged in
    let items = c.args.«module».now.entry_points.items in
    let at = slice_get_read c.deref.result.now (length c.deref.result.now) c.args.index c.in-Some.entry.now refl l.3.0 l.1 in
    let ready =
    c.entries_are_ready.ensures (module_view c.args.«module».now) _ c.in-Ok.ensures.accepted.handles judged.many judged.known c.args.index _
    (slice_get-map entry_view items c.args.index ∙ ap (option_map entry_view) (ap (λ xs. slice_get xs c.args.index) (sym c.deref.ensures.value) ∙ at))
    in
    subst (λ (infos : List FunctionInfo). CalleesKnown (module_view c.args.«module».now) (entry_view c.in-Some.entry.now).function (map summary_of infos)) (sym c.deref-in-Some.ensures.value) ready.known
