use Rattle.std.proofs.Common.{◌<◌, length, IfSome, MatchResult, Some, sym, subst}
use Rattle.module_globals.proofs.Whole.{counted_there, begun, there_is, there_is_none}
use Rattle.module_globals.specs.Contexts.{module_of}
use Rattle.module_globals.specs.Faults.{IsWrongBy}
use Rattle.module_globals.specs.Initializers.{HasFormOf, IsInitializer}
use Rattle.ir_items.specs.found.GlobalView.{global_view}
use Rattle.spec_interface.specs.judged.Globals.{BeginsBy, VariableBy}
use Rattle.module_globals.proofs.globals.validate_variable.Goals as goal

pub check_lies-requires-clause-counts : goal.check_lies-requires-clause-counts
check_lies-requires-clause-counts c = (c.in-Ok.ensures c.args.initializer c.args.flags).0

pub check_lies-requires-clause-within : goal.check_lies-requires-clause-within
check_lies-requires-clause-within c =
    let types = (module_of c.args.context.now).types in
    subst (λ k. k < length types) (sym (c.in-Ok.ensures c.args.initializer c.args.flags).0) (counted_there types c.requires.back c.args.variable.now.ty c.requires.placed.typed)

pub check_needs-requires-clause-counts : goal.check_needs-requires-clause-counts
check_needs-requires-clause-counts c = (c.in-Ok.ensures c.args.initializer c.args.flags).0

pub check_needs-requires-clause-within : goal.check_needs-requires-clause-within
check_needs-requires-clause-within c =
    let types = (module_of c.args.context.now).types in
    subst (λ k. k < length types) (sym (c.in-Ok.ensures c.args.initializer c.args.flags).0) (counted_there types c.requires.back c.args.variable.now.ty c.requires.placed.typed)

pub returns-in-None : goal.returns-in-None
returns-in-None c =
    let m = module_of c.args.context.now in
    let v = global_view c.args.variable.now in
    let needs = c.in-Ok-check_needs.ensures c.args.initializer c.args.flags in
    let none = there_is_none m c.args.variable.now.init (subst (λ i. IsInitializer m c.args.variable.now.init i) c.in-None.is c.requires.initialized) in
    record {
      arrays = (c.in-Ok.ensures c.args.initializer c.args.flags).1;
      needed = needs.0;
      lies = c.in-Ok-check_lies.ensures c.args.initializer;
      used = needs.1;
      bound = c.in-Ok-check_binding.ensures;
      decorated = c.in-Ok-check_decorations.ensures;
      begins = subst (λ o. IfSome o (BeginsBy (HasFormOf c.args.initializer) m v.space v.ty)) (sym none) tt;
    }

pub returns-in-Some : goal.returns-in-Some
returns-in-Some c =
    let m = module_of c.args.context.now in
    let v = global_view c.args.variable.now in
    let given = Some c.in-Some.initializer in
    let needs = c.in-Ok-check_needs.ensures given c.args.flags in
    let there = subst (λ i. IsInitializer m c.args.variable.now.init i) c.in-Some.is c.requires.initialized in
    let some = there_is m c.args.variable.now.init c.in-Some.initializer there in
    let whole = begun (HasFormOf given) c.args.flags c.args.context.now.capabilities m v some.0 some.1
    (λ b. record {
      arrays = (c.in-Ok.ensures given c.args.flags).1;
      needed = needs.0;
      lies = c.in-Ok-check_lies.ensures given;
      used = needs.1;
      bound = c.in-Ok-check_binding.ensures;
      decorated = c.in-Ok-check_decorations.ensures;
      begins = b;
    }) c.check_begin.result (c.check_begin.ensures some.0 (subst (λ o. IsInitializer m o given) some.1 there)) in
    subst (λ i. MatchResult c.check_begin.result (λ _. VariableBy (HasFormOf i) c.args.flags c.args.context.now.capabilities m v) (IsWrongBy (HasFormOf i) c.args.flags c.args.context.now.capabilities m v)) (sym c.in-Some.is) whole
