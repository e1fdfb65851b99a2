use Rattle.std.proofs.Common.{refl, ap}
use Rattle.ir_items.specs.found.Copies.{SpannedModule}
use Rattle.ir_items.proofs.Returned.{is_returned, keeps_module_spans}
use Rattle.ir_items.proofs.ReturnLemmas.{on_err, module_stays, returned_after}
use Rattle.ir_items.proofs.module.Module.ensure_block_returns.Goals as goal

pub returns-in_err-reserve_in_functions-clause-err : goal.returns-in_err-reserve_in_functions-clause-err
returns-in_err-reserve_in_functions-clause-err c =
    on_err _ (module_stays c.args.self.now c.reserve_in_functions.new.functions c.args.self.now.entry_points c.reserve_in_functions.ensures.same refl)

pub returns-in_err-reserve_in_entries-clause-err : goal.returns-in_err-reserve_in_entries-clause-err
returns-in_err-reserve_in_entries-clause-err c =
    on_err _ (module_stays c.args.self.now c.reserve_in_functions.new.functions c.reserve_in_entries.new.entries c.reserve_in_functions.ensures.same c.reserve_in_entries.ensures.same)

pub returns-clause-found_spans : goal.returns-clause-found_spans
returns-clause-found_spans c =
    returned_after c.args.self.now c.reserve_in_functions.new.functions c.put_into_functions.new.functions c.reserve_in_entries.new.entries c.put_into_entries.new.entries
    c.reserve_in_functions.ensures.same c.reserve_in_entries.ensures.same c.put_into_functions.ensures c.put_into_entries.ensures

pub returns-clause-found : goal.returns-clause-found
returns-clause-found c =
    ap (λ (s : SpannedModule). s.plain) (returned_after c.args.self.now c.reserve_in_functions.new.functions c.put_into_functions.new.functions c.reserve_in_entries.new.entries c.put_into_entries.new.entries
    c.reserve_in_functions.ensures.same c.reserve_in_entries.ensures.same c.put_into_functions.ensures c.put_into_entries.ensures)

pub returns-clause-spans : goal.returns-clause-spans
returns-clause-spans c =
    keeps_module_spans c.args.self.now _ (returned_after c.args.self.now c.reserve_in_functions.new.functions c.put_into_functions.new.functions c.reserve_in_entries.new.entries c.put_into_entries.new.entries
    c.reserve_in_functions.ensures.same c.reserve_in_entries.ensures.same c.put_into_functions.ensures c.put_into_entries.ensures)

pub returns-clause-ok : goal.returns-clause-ok
returns-clause-ok c =
    is_returned _ _ (ap (λ (s : SpannedModule). s.plain) (returned_after c.args.self.now c.reserve_in_functions.new.functions c.put_into_functions.new.functions c.reserve_in_entries.new.entries c.put_into_entries.new.entries
    c.reserve_in_functions.ensures.same c.reserve_in_entries.ensures.same c.put_into_functions.ensures c.put_into_entries.ensures))
