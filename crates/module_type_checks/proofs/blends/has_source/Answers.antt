use Rattle.std.proofs.Common.{◌≡◌, ◌≢◌, None, map, refl, sym, ◌∙◌, true≢false, arith, rules}
use Rattle.ir_types.specs.judged.Plain.{member_view}
use Rattle.module_type_checks.proofs.Sources.{source_got, none_more, none_at_all, some_or_none}
use Rattle.module_type_checks.proofs.blends.has_source.Goals as goal

pub returns-then-is_some : goal.returns-then-is_some
returns-then-is_some c =
    let some : c.source_of.result ≢ None = search rules in
    let found = some_or_none c.source_of.result some in
    ((λ e. (c.loop-place.place, found.0, source_got c.args.members.now c.loop-place.place c.index-members-place.result c.loop-place-test.true ∙ sym c.source_of.ensures ∙ found.1)), (λ h. refl))

pub loop-place-preserved : goal.loop-place-preserved
loop-place-preserved c =
    let none : c.source_of.result ≡ None = search rules in
    none_more (map member_view c.args.members.now) c.loop-place.place c.loop-place.invariant
    (source_got c.args.members.now c.loop-place.place c.index-members-place.result c.loop-place-test.true ∙ sym c.source_of.ensures ∙ none)

pub returns : goal.returns
returns c = ((λ e. absurd (true≢false (sym e))), (λ h. absurd (none_at_all c.args.members.now c.loop-place.place c.loop-place.invariant (omega arith) h)))
