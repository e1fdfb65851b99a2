use Rattle.std.proofs.Common.{◌≡◌, ◌≢◌, Some, None, get_or, map, refl, sym, ◌∙◌, rules, true≢false}
use Rattle.ir_types.specs.judged.Plain.{member_view}
use Rattle.typing_layout.specs.judged.Blends.{source_at}
use Rattle.typing_layout.specs.judged.Flags.{blend_source}
use Rattle.module_type_checks.proofs.Sources.{source_got, sole_skip, sole_here, twice}
use Rattle.module_type_checks.proofs.blends.sole_with.Goals as goal

pub returns-then-not-is_source : goal.returns-then-not-is_source
returns-then-not-is_source c =
    let here : source_at (map member_view c.args.members.now) c.args.place ≡ blend_source (get_or c.args.members.now c.args.place c.index-members-place.result).binding = source_got c.args.members.now c.args.place c.index-members-place.result c.requires.within in
    sole_skip (map member_view c.args.members.now) c.args.blend_src c.args.found c.args.place c.requires.sole (λ e. true≢false (sym (c.is_source.ensures.1 (sym here ∙ e)) ∙ c.if-not-is_source.true))

pub returns-then-is_some : goal.returns-then-is_some
returns-then-is_some c =
    let here : source_at (map member_view c.args.members.now) c.args.place ≡ blend_source (get_or c.args.members.now c.args.place c.index-members-place.result).binding = source_got c.args.members.now c.args.place c.index-members-place.result c.requires.within in
    let some : c.args.found ≢ None = search rules in
    (refl, twice (map member_view c.args.members.now) c.args.blend_src c.args.found c.args.place c.requires.sole some (here ∙ c.is_source.ensures.0 c.if-not-is_source.false))

pub returns : goal.returns
returns c =
    let here : source_at (map member_view c.args.members.now) c.args.place ≡ blend_source (get_or c.args.members.now c.args.place c.index-members-place.result).binding = source_got c.args.members.now c.args.place c.index-members-place.result c.requires.within in
    let none : c.args.found ≡ None = search rules in
    sole_here (map member_view c.args.members.now) c.args.blend_src c.args.found (Some c.args.place) c.args.place c.requires.sole none (here ∙ c.is_source.ensures.0 c.if-not-is_source.false) refl
