use Rattle.std.proofs.Common.{subst}
use Rattle.std.specs.Option.{MatchOption}
use Rattle.ir_items.specs.found.View.{entry_view, module_view}
use Rattle.module_handles.proofs.FunctionFaults.{whole_entry_fault}
use Rattle.module_handles.proofs.Viewed.{reported_viewed}
use Rattle.module_handles.specs.InOrder.{IsFaultIn, EntryOK, IsEntryFault}
use Rattle.module_handles.specs.Lists.{AllPass, SomeFails}
use Rattle.module_handles.proofs.entries.fault_of_entries.Goals as goal

pub returns : goal.returns
returns c =
    let m = module_view c.args.«module».now in
    reported_viewed entry_view (λ k x. EntryOK m x) (λ k x h. IsEntryFault m x h) (IsFaultIn m) c.args.«module».now.entry_points.items (whole_entry_fault m) c.fault_of_items.result
    (subst (λ xs. MatchOption c.fault_of_items.result (AllPass (λ k x. EntryOK m (entry_view x)) xs) (SomeFails (λ k x h. IsEntryFault m (entry_view x) h) xs)) c.deref.ensures.value c.fault_of_items.ensures)
