use Rattle.std.proofs.Common.{◌≡◌, ◌++◌, ◌∙◌, List, Contains, length, ap, sym, subst, arith}
use Rattle.spec_interface.specs.judged.Varyings.{mesh_varyings}
use Rattle.spec_interface.specs.declared.varyings.Varying.{Varying}
use Rattle.typing_forms.specs.judged.Resolutions.{types_view}
use Rattle.function_varyings.proofs.MarkLaws.{part_made}
use Rattle.function_varyings.specs.Marks.{IsPartOf}
use Rattle.function_varyings.proofs.marks.add_part.Goals as goal

pub returns-clause-part : goal.returns-clause-part
returns-clause-part c =
    let vs = mesh_varyings (types_view c.args.types.now) c.args.ty in
    let words = c.add_words.new.words.items in
    let numbers = c.numbers_of.new.numbers in
    let same : c.deref.result.now ≡ vs = c.deref.ensures.value ∙ (c.in_ok-add_value.ensures ∙ ap (λ (xs : List Varying). xs ++ vs) c.new-varyings.ensures.items) in
    subst (λ xs. IsPartOf c.args.flags numbers words xs (record { from = c.len-from.result; end = c.len.result })) same
    (part_made c.args.flags numbers words c.deref.result.now (record { from = c.len-from.result; end = c.len.result }) (length c.args.words.now.items) c.deref-2.result.now (omega (arith, c.len-from.ensures)) (omega (arith, c.len.ensures))
    (λ place mark takes. (let at = c.in_ok-found.ensures.all place mark takes in (at.0, at.1, subst (λ ns. Contains ns at.0) (sym c.deref-2.ensures.value) at.2))) c.in_ok-add_words.ensures.added)
