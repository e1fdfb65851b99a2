use Rattle.std.proofs.Common.{◌≡◌, ◌<◌, Some, MatchResult, IsOk, get_or, sym, subst, rules}
use Rattle.module_globals.proofs.Lies.{storage_told, uniform_told, immediate_ok, immediate_wrong, bytes_told}
use Rattle.module_globals.specs.Faults.{IsLayoutFault}
use Rattle.module_globals.specs.Initializers.{HasFormOf}
use Rattle.ir_flags.specs.Sets.{Has}
use Rattle.ir_flags.specs.declared.settings.TheConstants.ValidationFlags.{STRUCT_LAYOUTS}
use Rattle.ir_items.specs.found.GlobalView.{global_view}
use Rattle.ir_types.specs.judged.Plain.{inner_view}
use Rattle.module_constants.proofs.FlagLemmas.{info_at}
use Rattle.module_globals.specs.Contexts.{module_of}
use Rattle.typing_layout.specs.judged.View.{type_tree}
use Rattle.typing_layout.specs.found.Infos.{HasInfo}
use Rattle.typing_forms.specs.judged.Resolutions.{inner_at}
use Rattle.module_globals.proofs.globals.check_lies.Goals as goal

pub returns-in-Uniform : goal.returns-in-Uniform
returns-in-Uniform c =
    let m = module_of c.args.context.now in
    let v = global_view c.args.variable.now in
    let told = info_at m.types c.args.context.now.infos.now c.args.ty c.index.result c.index-context-index.result c.requires.known.told (subst (λ n. c.args.ty < n) (sym c.requires.known.many) c.requires.within) c.index.ensures.value in
    let info = get_or c.args.context.now.infos.now c.index.result c.index-context-index.result in
    λ given. uniform_told (HasFormOf given) c.args.flags c.args.context.now.capabilities m v info (subst (λ k. HasInfo m.types (type_tree m.types k) info) c.requires.counts told) c.in-Uniform.is c.check_layout-in-Uniform.result c.check_layout-in-Uniform.ensures

pub returns-else-eq : goal.returns-else-eq
returns-else-eq c =
    let m = module_of c.args.context.now in
    let v = global_view c.args.variable.now in
    let told = info_at m.types c.args.context.now.infos.now c.args.ty c.index.result c.index-context-index.result c.requires.known.told (subst (λ n. c.args.ty < n) (sym c.requires.known.many) c.requires.within) c.index.ensures.value in
    let info = get_or c.args.context.now.infos.now c.index.result c.index-context-index.result in
    λ given. storage_told (HasFormOf given) c.args.flags c.args.context.now.capabilities m v info (subst (λ k. HasInfo m.types (type_tree m.types k) info) c.requires.counts told) c.in-Storage.access c.in-Storage.is (λ e. let same = c.eq.ensures in let not = c.if-eq.false in search rules) c.check_layout.result
    (subst (λ s. MatchResult c.check_layout.result (λ _. Has c.args.flags.0 STRUCT_LAYOUTS.0 → IsOk info.storage_layout) (IsLayoutFault c.args.flags s info.storage_layout)) (sym c.in-Storage.is) c.check_layout.ensures)

pub returns-in-Ok : goal.returns-in-Ok
returns-in-Ok c =
    let m = module_of c.args.context.now in
    let v = global_view c.args.variable.now in
    let info = get_or c.args.context.now.infos.now c.index.result c.index-context-index.result in
    let told = info_at m.types c.args.context.now.infos.now c.args.ty c.index.result c.index-context-index.result c.requires.known.told (subst (λ n. c.args.ty < n) (sym c.requires.known.many) c.requires.within) c.index.ensures.value in
    let counts = subst (λ k. HasInfo m.types (type_tree m.types k) info) c.requires.counts told in
    λ given. immediate_ok (HasFormOf given) c.args.flags c.args.context.now.capabilities m v info counts c.in-Immediate.is c.in-Ok.field-0 c.in-Ok.is

pub returns-in-Err : goal.returns-in-Err
returns-in-Err c =
    let m = module_of c.args.context.now in
    let v = global_view c.args.variable.now in
    let info = get_or c.args.context.now.infos.now c.index.result c.index-context-index.result in
    let told = info_at m.types c.args.context.now.infos.now c.args.ty c.index.result c.index-context-index.result c.requires.known.told (subst (λ n. c.args.ty < n) (sym c.requires.known.many) c.requires.within) c.index.ensures.value in
    let counts = subst (λ k. HasInfo m.types (type_tree m.types k) info) c.requires.counts told in
    λ given. (c.in-Immediate.is, immediate_wrong (HasFormOf given) c.args.flags c.args.context.now.capabilities m v info counts c.in-Err.error c.in-Err.is)

pub returns-in-TaskPayload : goal.returns-in-TaskPayload
returns-in-TaskPayload c =
    let m = module_of c.args.context.now in
    let v = global_view c.args.variable.now in
    let info = get_or c.args.context.now.infos.now c.index.result c.index-context-index.result in
    let told = info_at m.types c.args.context.now.infos.now c.args.ty c.index.result c.index-context-index.result c.requires.known.told (subst (λ n. c.args.ty < n) (sym c.requires.known.many) c.requires.within) c.index.ensures.value in
    let counts = subst (λ k. HasInfo m.types (type_tree m.types k) info) c.requires.counts told in
    λ given. bytes_told (HasFormOf given) c.args.flags c.args.context.now.capabilities m v info counts c.in-TaskPayload.is (inner_view c.inner_of-inner.result.now) (subst (λ k. inner_at m.types k ≡ Some (inner_view c.inner_of-inner.result.now)) c.requires.counts c.inner_of-inner.ensures) c.check_bytes.result c.check_bytes.ensures
