use Rattle.std.proofs.Common.{◌≡◌, Some, sym, subst, ◌∙◌}
use Rattle.module_globals.proofs.Whole.{global_found, at_handle, variable_by}
use Rattle.module_globals.proofs.Begins.{one_form}
use Rattle.module_globals.specs.There.{IsPlaced}
use Rattle.ir_items.specs.judged.GlobalPlain.{PlainGlobal}
use Rattle.ir_items.specs.found.GlobalView.{global_view}
use Rattle.module_constants.specs.Known.{module_in}
use Rattle.spec_expressions.specs.judged.Typing.{HasGlobalType}
use Rattle.module_globals.proofs.known.validate_global_var.Goals as goal

same : (v w : PlainGlobal) → Some v ≡ Some w → v ≡ w
same v w e = cc

pub initializer_of-initializer-requires-clause-placed : goal.initializer_of-initializer-requires-clause-placed
initializer_of-initializer-requires-clause-placed c =
    let m = module_in c.args.context.now in
    let at = global_found global_view c.args.context.now.«module».now.global_variables c.args.global c.index-variable.result.now c.index-variable.ensures in
    subst (IsPlaced m) (same c.requires.there.variable (global_view c.index-variable.result.now) (sym c.requires.there.at ∙ at)) c.requires.there.placed

pub validate_variable-requires-clause-placed : goal.validate_variable-requires-clause-placed
validate_variable-requires-clause-placed c =
    let m = module_in c.args.context.now in
    let at = global_found global_view c.args.context.now.«module».now.global_variables c.args.global c.index-variable.result.now c.index-variable.ensures in
    subst (IsPlaced m) (same c.requires.there.variable (global_view c.index-variable.result.now) (sym c.requires.there.at ∙ at)) c.requires.there.placed

pub returns : goal.returns
returns c =
    let m = module_in c.args.context.now in
    let at = global_found global_view c.args.context.now.«module».now.global_variables c.args.global c.index-variable.result.now c.index-variable.ensures in
    at_handle c.args.flags c.args.context.now.capabilities m (global_view c.index-variable.result.now) c.args.global at c.validate_variable.result (variable_by (HasGlobalType m) (one_form m) m c.args.flags c.args.context.now.capabilities (global_view c.index-variable.result.now) c.initializer_of-initializer.result c.initializer_of-initializer.ensures.there c.initializer_of-initializer.ensures.typed c.validate_variable.result c.validate_variable.ensures)
