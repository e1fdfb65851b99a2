use Rattle.std.proofs.Common.{arith}
use Rattle.ir_items.specs.found.GlobalView.{constant_view}
use Rattle.module_constants.proofs.Reported.{constant_told}
use Rattle.module_constants.specs.Known.{module_in}
use Rattle.ir_items.proofs.Lookups.{found}
use Rattle.module_constants.proofs.constants.validate_constant.Goals as goal

pub check_constant-requires-clause-ty : goal.check_constant-requires-clause-ty
check_constant-requires-clause-ty c =
    let at = found constant_view c.args.context.now.module.now.constants c.args.handle c.index.result.now c.index.ensures in
    let below = c.requires.known.there.constant_types c.args.handle (constant_view c.index.result.now) at in
    omega (arith, below, c.requires.known.many)

pub check_constant-requires-clause-init : goal.check_constant-requires-clause-init
check_constant-requires-clause-init c =
    let at = found constant_view c.args.context.now.module.now.constants c.args.handle c.index.result.now c.index.ensures in
    let below = c.requires.known.there.constant_values c.args.handle (constant_view c.index.result.now) at in
    omega (arith, below, c.requires.known.kinds.many)

pub check_constant-requires-clause-typed : goal.check_constant-requires-clause-typed
check_constant-requires-clause-typed c =
    let at = found constant_view c.args.context.now.module.now.constants c.args.handle c.index.result.now c.index.ensures in
    let below = c.requires.known.there.constant_values c.args.handle (constant_view c.index.result.now) at in
    omega (arith, below, c.requires.known.typed.many)

pub returns : goal.returns
returns c =
    constant_told (module_in c.args.context.now) c.args.handle (constant_view c.index.result.now) c.check_constant.result
    (found constant_view c.args.context.now.module.now.constants c.args.handle c.index.result.now c.index.ensures) c.check_constant.ensures
