use Rattle.std.proofs.lemmas.Option.{MatchOption-at_some, MatchOption-at_none}
use Rattle.ir_items.specs.found.View.{module_view}
use Rattle.module_handles.proofs.ItemLemmas.{special_told, leaf_told, constants_told, overrides_told, variables_reported}
use Rattle.module_handles.proofs.PassLemmas.{weaker}
use Rattle.module_handles.proofs.items.fault_of_items.Goals as goal

pub returns-in-Some : goal.returns-in-Some
returns-in-Some c = MatchOption-at_some _ _ _ c.in-Some.is (special_told (module_view c.args.«module».now) c.outside_functions.result c.outside_functions.ensures c.special_missing.result c.special_missing.ensures)

pub returns-in-Some-leaf_missing : goal.returns-in-Some-leaf_missing
returns-in-Some-leaf_missing c =
    MatchOption-at_some _ _ _ c.in-Some-leaf_missing.is (leaf_told (module_view c.args.«module».now) c.outside_functions.result c.outside_functions.ensures c.leaf_missing.result c.leaf_missing.ensures)

pub returns-in-Some-fault_of_values : goal.returns-in-Some-fault_of_values
returns-in-Some-fault_of_values c =
    MatchOption-at_some _ _ _ c.in-Some-fault_of_values.is (constants_told c.args.«module».now c.outside_functions.result c.outside_functions.ensures c.fault_of_values.result c.fault_of_values.ensures)

pub returns-in-Some-fault_of_values-2 : goal.returns-in-Some-fault_of_values-2
returns-in-Some-fault_of_values-2 c =
    MatchOption-at_some _ _ _ c.in-Some-fault_of_values-2.is (overrides_told c.args.«module».now c.outside_functions.result c.outside_functions.ensures c.fault_of_values-2.result c.fault_of_values-2.ensures)

pub returns : goal.returns
returns c =
    let m = module_view c.args.«module».now in
    let b = c.outside_functions.result in
    let same = c.outside_functions.ensures in
    weaker c.fault_of_values-3.result
    (λ variables. record {
      special = MatchOption-at_none _ _ c.in_default.is (special_told m b same c.special_missing.result c.special_missing.ensures);
      leaf = MatchOption-at_none _ _ c.in_default-leaf_missing.is (leaf_told m b same c.leaf_missing.result c.leaf_missing.ensures);
      constants = MatchOption-at_none _ _ c.in_default-fault_of_values.is (constants_told c.args.«module».now b same c.fault_of_values.result c.fault_of_values.ensures);
      overrides = MatchOption-at_none _ _ c.in_default-fault_of_values-2.is (overrides_told c.args.«module».now b same c.fault_of_values-2.result c.fault_of_values-2.ensures);
      variables = variables;
    })
    (λ h stands. stands)
    (variables_reported c.args.«module».now b same c.fault_of_values-3.result c.fault_of_values-3.ensures)
