use Rattle.std.proofs.Common.{◌≡◌, ◌∙◌, length, sym, ap, subst}
use Rattle.std.proofs.lemmas.List.{length-map}
use Rattle.function_entry_checks.specs.Faults.{IsRefusedFor}
use Rattle.function_entries.specs.ConnectionFaults.{IsConnectionFault}
use Rattle.function_whole.proofs.EntryWhole.{refused_as, unconnected}
use Rattle.function_whole.specs.EntryFaults.{IsUnconnected}
use Rattle.ir_arena.specs.found.Arenas.{value_of_entry}
use Rattle.ir_items.specs.found.GlobalView.{global_view, values_of}
use Rattle.ir_items.specs.found.View.{entry_view, module_view}
use Rattle.spec_expressions.specs.judged.Summaries.{HasUseBit}
use Rattle.spec_interface.specs.judged.Entries.{ConnectionsOK}
use Rattle.module_type_checks.specs.Known.{AreInfos}
use Rattle.function_whole.proofs.connect.judge.Goals as goal

pub uses_of-requires-clause-many : goal.uses_of-requires-clause-many
uses_of-requires-clause-many g c =
    let m = c.args.«module».now in
    let seen : length (module_view m).globals ≡ length m.global_variables = length-map (values_of m.global_variables) global_view ∙ length-map m.global_variables value_of_entry in
    c.len.ensures.value ∙ (sym seen ∙ sym c.requires.many)

pub check_connections_with-requires-clause-told : goal.check_connections_with-requires-clause-told
check_connections_with-requires-clause-told g c =
    let m = module_view c.args.«module».now in
    let told = g.met.L.Lower.told_of_all c.args.lower.now m c.requires.made in
    record { told = subst (AreInfos m.types) (sym c.type_infos.ensures) told.told; many = ap length c.type_infos.ensures ∙ told.many }

pub check_connections_with-requires-clause-many : goal.check_connections_with-requires-clause-many
check_connections_with-requires-clause-many g c = ap length (c.deref.ensures.value ∙ c.in-Ok.ensures) ∙ c.requires.many

pub returns-in-Ok-check_connections_with-clause-judged : goal.returns-in-Ok-check_connections_with-clause-judged
returns-in-Ok-check_connections_with-clause-judged g c =
    let s = c.args.settings in
    let m = module_view c.args.«module».now in
    let e = entry_view c.args.entry.now in
    let same = c.deref.ensures.value ∙ c.in-Ok.ensures in
    (subst (λ us. ConnectionsOK s.flags s.capabilities m e (HasUseBit us)) same c.in-Ok-check_connections_with.ensures.judged.0, c.in-Ok-check_connections_with.ensures.judged.1)

pub returns-clause-judged : goal.returns-clause-judged
returns-clause-judged g c =
    let s = c.args.settings in
    let m = module_view c.args.«module».now in
    let e = entry_view c.args.entry.now in
    let Uses = HasUseBit (g.L.Lower.summary c.args.lower.now c.args.info.now).uses in
    let same = c.deref.ensures.value ∙ c.in-Ok.ensures in
    refused_as (IsConnectionFault s.flags s.capabilities m e Uses) (IsUnconnected s.flags s.capabilities m e Uses) (λ x fault. unconnected s.flags s.capabilities m e Uses x fault) c.in-Err-check_connections_with.refusal
    (subst (λ us. IsRefusedFor (IsConnectionFault s.flags s.capabilities m e (HasUseBit us)) c.in-Err-check_connections_with.refusal) same c.in-Err-check_connections_with.ensures.judged)
