use Rattle.std.proofs.Common.{◌<◌, Some, IfSome, length, slice_index_or, sym, subst, arith}
use Rattle.module_globals.proofs.Begins.{known_by, typed_at}
use Rattle.module_globals.specs.Initializers.{IsInitializer, IsTypedBy}
use Rattle.module_globals.specs.declared.context.Initializer.{Initializer}
use Rattle.module_constants.specs.Known.{module_in}
use Rattle.spec_expressions.specs.judged.Typing.{HasGlobalType}
use Rattle.typing_layout.specs.declared.constness.ExpressionKind.TheVariants.{Const}
use Rattle.module_globals.proofs.known.initializer_of.Goals as goal

pub returns-in-Some-clause-there : goal.returns-in-Some-clause-there
returns-in-Some-clause-there c =
    let m = module_in c.args.context.now in
    let k = c.requires.known.kinds in
    let within : c.in-Some.init < length m.global_expressions = subst (λ o. IfSome o (λ e. e < length m.global_expressions)) c.in-Some.is c.requires.placed.begins in
    let given : Initializer = record { is_known = c.is_const_or_override.result; form = slice_index_or c.args.context.now.forms.now c.index.result c.index-context-index.result } in
    subst (λ o. IsInitializer m o (Some given)) (sym c.in-Some.is) (known_by m c.args.context.now.kinds.now k c.in-Some.init c.is_const_or_override.result c.is_const_or_override.ensures Const (omega (arith, k.many, within)))

pub returns-in-Some-clause-typed : goal.returns-in-Some-clause-typed
returns-in-Some-clause-typed c =
    let m = module_in c.args.context.now in
    let typed = c.requires.known.typed in
    let within : c.in-Some.init < length m.global_expressions = subst (λ o. IfSome o (λ e. e < length m.global_expressions)) c.in-Some.is c.requires.placed.begins in
    let given : Initializer = record { is_known = c.is_const_or_override.result; form = slice_index_or c.args.context.now.forms.now c.index.result c.index-context-index.result } in
    subst (λ o. IsTypedBy (HasGlobalType m) o (Some given)) (sym c.in-Some.is)
    (typed_at m c.args.context.now.forms.now typed c.in-Some.init c.index.result c.index-context-index.result (omega (arith, typed.many, within)) c.index.ensures.value)
