use Rattle.std.proofs.Common.{Some, sym, subst, arith}
use Rattle.module_globals.proofs.Begins.{known_by}
use Rattle.module_globals.specs.Initializers.{IsInitializer, IsTypedBy}
use Rattle.module_globals.specs.declared.context.Initializer.{Initializer}
use Rattle.ir_items.specs.found.GlobalView.{global_view}
use Rattle.ir_items.specs.found.View.{module_view}
use Rattle.module_handles.proofs.Origins.{order_gives_origins}
use Rattle.typing_layout.specs.declared.constness.ExpressionKind.TheVariants.{Const}
use Rattle.function_whole.proofs.GlobalLemmas.{value_there}
use Rattle.function_whole.proofs.globals.initializer_of.Goals as goal

pub from_arena-requires : goal.from_arena-requires
from_arena-requires g c = (order_gives_origins c.args.«module».now c.requires.handles).globals

pub is_const_or_override-requires : goal.is_const_or_override-requires
is_const_or_override-requires g c =
    let m = module_view c.args.«module».now in
    let within = value_there m c.requires.handles c.requires.part.0 (global_view c.args.variable.now) c.requires.part.1 c.in-Some.init c.in-Some.is in
    omega (arith, c.in_ok-kinds.ensures.many, within)

pub global_resolution-requires : goal.global_resolution-requires
global_resolution-requires g c =
    g.met.L.Lower.initializers_typed c.args.lower.now (module_view c.args.«module».now) c.requires.made c.requires.part.0 (global_view c.args.variable.now) c.in-Some.init c.requires.part.1 c.in-Some.is

pub returns-clause-there : goal.returns-clause-there
returns-clause-there g c =
    let m = module_view c.args.«module».now in
    let k = c.in_ok-kinds.ensures in
    let within = value_there m c.requires.handles c.requires.part.0 (global_view c.args.variable.now) c.requires.part.1 c.in-Some.init c.in-Some.is in
    let given : Initializer = record { is_known = c.is_const_or_override.result; form = c.form_of.result } in
    subst (λ o. IsInitializer m o (Some given)) (sym c.in-Some.is)
    (known_by m c.in_ok-kinds.kinds k c.in-Some.init c.is_const_or_override.result c.is_const_or_override.ensures Const (omega (arith, k.many, within)))

pub returns-clause-typed : goal.returns-clause-typed
returns-clause-typed g c =
    let m = module_view c.args.«module».now in
    let H = g.L.Lower.has_global_form c.args.lower.now m in
    let given : Initializer = record { is_known = c.is_const_or_override.result; form = c.form_of.result } in
    subst (λ o. IsTypedBy H o (Some given)) (sym c.in-Some.is)
    (subst (H c.in-Some.init) (sym c.form_of.ensures)
    (g.met.L.Lower.global_typed c.args.lower.now m c.requires.made c.in-Some.init c.global_resolution.result.now c.global_resolution.ensures))
