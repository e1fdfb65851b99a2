use Rattle.std.proofs.Common.{◌≡◌, ◌<◌, get_or, IfSome, refl, sym, ap, subst, ◌∙◌}
use borrow.Author.Tests.{eqb-true, eq-eqb}
use Rattle.module_globals.proofs.Needs.{all_asked, none_missing, capability_met, none_needed}
use Rattle.ir_flags.specs.Sets.{Has}
use Rattle.ir_items.specs.found.GlobalView.{global_view}
use Rattle.module_constants.proofs.FlagLemmas.{info_at}
use Rattle.module_globals.specs.Contexts.{module_of}
use Rattle.spec_interface.specs.judged.Spaces.{space_capability, space_row}
use Rattle.spec_interface.specs.found.Variables.{HasAll}
use Rattle.typing_layout.specs.judged.View.{type_tree}
use Rattle.typing_layout.specs.found.Infos.{AreFlags}
use Rattle.typing_forms.specs.judged.Resolutions.{inner_at}
use Rattle.module_globals.proofs.globals.check_needs.Goals.{in-Some+else-not-contains, in_default}
use Rattle.module_globals.proofs.globals.check_needs.Goals as goal

pub returns-then-contains : goal.returns-then-contains
returns-then-contains c =
    let m = module_of c.args.context.now in
    let v = global_view c.args.variable.now in
    let needed : c.space_capability.result ≡ space_capability v.space (inner_at m.types c.args.ty) = c.space_capability.ensures ∙ ap (space_capability v.space) (sym c.inner_of-inner.ensures) in
    let met : IfSome (space_capability v.space (inner_at m.types c.args.ty)) (λ x. Has c.args.context.now.capabilities.0 x.0) =
    elim c.match-space_capability.branch [
      | in-Some+else-not-contains w ↦ capability_met c.args.context.now.capabilities c.space_capability.result (space_capability v.space (inner_at m.types c.args.ty)) w.in-Some.capability needed w.in-Some.is (eqb-true _ _ (sym (w.contains.ensures tt) ∙ w.if-not-contains.false))
      | in_default w ↦ none_needed c.args.context.now.capabilities c.space_capability.result (space_capability v.space (inner_at m.types c.args.ty)) needed w.in_default.is
    ] in
    let info = get_or c.args.context.now.infos.now c.index.result c.index-context-index.result in
    let told = info_at m.types c.args.context.now.infos.now c.args.ty c.index.result c.index-context-index.result c.requires.known.told (subst (λ n. c.args.ty < n) (sym c.requires.known.many) c.requires.within) c.index.ensures.value in
    λ given flags. (
      subst (λ k. IfSome (space_capability v.space (inner_at m.types k)) (λ x. Has c.args.context.now.capabilities.0 x.0)) c.requires.counts met,
      subst (λ k. HasAll (space_row v.space).flags (type_tree m.types k)) c.requires.counts
          (all_asked v.space info.flags.0 c.required-required.result.0 (type_tree m.types c.args.ty) info.flags c.required-required.ensures refl told.flags (eqb-true _ _ (sym (c.contains-2.ensures tt) ∙ c.if-contains.true))),
    )

pub returns-else-contains : goal.returns-else-contains
returns-else-contains c =
    let m = module_of c.args.context.now in
    let v = global_view c.args.variable.now in
    let info = get_or c.args.context.now.infos.now c.index.result c.index-context-index.result in
    let told = info_at m.types c.args.context.now.infos.now c.args.ty c.index.result c.index-context-index.result c.requires.known.told (subst (λ n. c.args.ty < n) (sym c.requires.known.many) c.requires.within) c.index.ensures.value in
    λ given flags. (
      c.required-required.ensures,
      subst (λ k. AreFlags info.flags (type_tree m.types k)) c.requires.counts told.flags,
      λ all. (let has = eq-eqb _ _
          (none_missing v.space info.flags.0 c.required-required.result.0 (type_tree m.types c.args.ty) info.flags c.required-required.ensures refl told.flags (subst (λ k. HasAll (space_row v.space).flags (type_tree m.types k)) (sym c.requires.counts) all)) in
          let not = sym (c.contains-2.ensures tt) ∙ c.if-contains.false in cc),
    )
