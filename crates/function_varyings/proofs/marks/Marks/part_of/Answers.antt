use Rattle.std.proofs.Common.{sym, subst}
use Rattle.spec_interface.specs.judged.Varyings.{mesh_varyings}
use Rattle.typing_forms.specs.judged.Resolutions.{types_view}
use Rattle.function_varyings.proofs.MarkLaws.{marks_still, one_more}
use Rattle.function_varyings.specs.Marks.{IsPartOf}
use Rattle.function_varyings.proofs.marks.Marks.part_of.Goals as goal

pub returns-in-Some-clause-part : goal.returns-in-Some-clause-part
returns-in-Some-clause-part c =
    let m = c.args.self.now in
    let types = types_view c.args.types.now in
    subst (λ t. IsPartOf c.args.flags m.numbers m.words.items (mesh_varyings types t) c.in-Some.part.now) c.index.ensures.value (c.requires c.index.result c.in-Some.part.now (sym c.in-Some.ensures.value))

pub returns-in-Ok-clause-known : goal.returns-in-Ok-clause-known
returns-in-Ok-clause-known c =
    let m = c.args.self.now in
    let types = types_view c.args.types.now in
    let numbers = c.add_part.new.numbers in
    let words = c.add_part.new.words.items in
    let part = c.in_ok-part.part in
    let made = c.in_ok-part.ensures in
    one_more c.index.result part m.parts c.insert.new.self c.in-Ok.ensures.updates.0 (λ t p. IsPartOf c.args.flags numbers words (mesh_varyings types t) p)
    (subst (λ t. IsPartOf c.args.flags numbers words (mesh_varyings types t) part) (sym c.index.ensures.value) made.part)
    (marks_still c.args.flags types m.parts m.numbers numbers m.words.items words made.kept made.kept_words made.longer c.requires)
