use Rattle.std.proofs.Common.{◌≡◌, ◌+◌, ◌<◌, ◌++◌, ◌∷◌, [], ◌∙◌, length, map, take, sym, ap, subst, arith}
use Rattle.std.proofs.lemmas.List.{map-append, take_more}
use Rattle.ir_items.specs.found.View.{argument_view}
use Rattle.ir_items.specs.declared.functions.FunctionArgument.{FunctionArgument}
use Rattle.spec_interface.specs.judged.Varyings.{VaryingsOK, argument_varyings}
use Rattle.function_varying_checks.specs.View.{context_view}
use Rattle.function_varyings.proofs.ArgumentLaws.{fine_more, taken_more}
use Rattle.function_varyings.specs.Marks.{AreTaken}
use Rattle.function_varyings.proofs.known.KnownTypes.are_apart.Goals as goal

pub loop-index-preserved : goal.loop-index-preserved
loop-index-preserved c =
    let v = context_view c.args.context.now in
    let all = c.args.arguments.now in
    let index = c.loop-index.index in
    let within : index < length all = omega (arith, c.loop-index-test.true) in
    let this = c.index-arguments-index.result in
    let done = map argument_view (take index all) in
    let more : map argument_view (take (index + 1) all) ≡ done ++ argument_view this ∷ [] =
    ap (map argument_view) (take_more all index this within ∙ ap (λ (x : FunctionArgument). take index all ++ x ∷ []) (sym c.index-arguments-index.is)) ∙ map-append argument_view (take index all) (this ∷ []) in
    let before = c.loop-index.self.marks.numbers in
    let after_ = c.take_argument.new.self.marks.numbers in
    let old = c.loop-index.taken.items in
    let new = c.take_argument.new.taken.items in
    let kept = c.in-Ok-true.ensures.kept in
    let still = c.in-Ok-true.ensures.still in
    let given = c.in-Ok-true.ensures.free c.in-Ok-true.field-0-test in (
      c.in-Ok-true.ensures.known,
      subst (λ xs. VaryingsOK v (argument_varyings v.types xs)) (sym more) (fine_more v done (argument_view this) before after_ old new kept still c.loop-index.invariant.1 c.loop-index.invariant.2 given),
      subst (λ xs. AreTaken v.flags after_ new (argument_varyings v.types xs)) (sym more) (taken_more v done (argument_view this) before after_ old new kept still c.loop-index.invariant.1 c.loop-index.invariant.2 given),
    )
