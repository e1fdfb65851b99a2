use Rattle.function_whole.proofs.EntryWhole.{adds_still, blending_is, refused_as, uses_added, unconnected_to}
use Rattle.function_whole.specs.EntryFaults.{IsUnconnected}
use Rattle.ir_items.specs.found.View.{entry_view, module_view}
use Rattle.spec_expressions.specs.judged.Summaries.{HasUseBit}
use Rattle.spec_interface.specs.judged.Uses.{EntryUses}
use Rattle.spec_interface.specs.judged.Varyings.{HasBlendSources, result_varyings}
use Rattle.function_whole.proofs.connect.connect.Goals as goal

pub returns-in-Ok-clause-judged : goal.returns-in-Ok-clause-judged
returns-in-Ok-clause-judged g c =
    let s = c.args.settings in
    let m = module_view c.args.«module».now in
    let e = entry_view c.args.entry.now in
    let before = g.L.Lower.summary c.args.lower.now c.args.info in
    let noted = g.L.Lower.summary c.args.lower.now c.with_own-info.result in
    let last = g.L.Lower.summary c.args.lower.now c.with_blending.result in (
      uses_added m e before noted c.with_own-info.ensures.added s.flags s.capabilities c.in-Ok.ensures.judged.0,
      adds_still m e before noted last c.with_own-info.ensures.added c.with_blending.ensures.same,
    )

pub returns-in-Ok-clause-blended : goal.returns-in-Ok-clause-blended
returns-in-Ok-clause-blended g c =
    let b = g.L.Lower.blending c.args.lower.now in
    blending_is (HasBlendSources (result_varyings (module_view c.args.«module».now).types (entry_view c.args.entry.now).function.result)) (b c.args.info) (b c.with_own-info.result) c.in-Ok.blended (b c.with_blending.result)
    c.requires.unblended c.with_own-info.ensures.blending c.with_blending.ensures.blending c.in-Ok.ensures.judged.1

pub returns-in-Err-clause-judged : goal.returns-in-Err-clause-judged
returns-in-Err-clause-judged g c =
    let s = c.args.settings in
    let m = module_view c.args.«module».now in
    let e = entry_view c.args.entry.now in
    let before = g.L.Lower.summary c.args.lower.now c.args.info in
    let noted = g.L.Lower.summary c.args.lower.now c.with_own-info.result in
    let From = HasUseBit noted.uses in
    let To = EntryUses e (HasUseBit before.uses) in
    refused_as (IsUnconnected s.flags s.capabilities m e From) (IsUnconnected s.flags s.capabilities m e To) (λ x u. unconnected_to m e From To (λ v k lt. c.with_own-info.ensures.added.uses v k) s.flags s.capabilities x u)
    c.in-Err.refusal c.in-Err.ensures.judged

pub returns-in-Ok-clause-own : goal.returns-in-Ok-clause-own
returns-in-Ok-clause-own g c = λ m f h. c.with_blending.ensures.own m f (c.with_own-info.ensures.own m f h)
