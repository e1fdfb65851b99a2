use Rattle.std.proofs.Common.{◌≡◌, Some, None, map, sym, subst}
use Rattle.std.specs.Prelude.{MatchOption, option_and_then}
use Rattle.spec_interface.proofs.Places.{found}
use Rattle.ir_items.specs.judged.GlobalPlain.{PlainGlobal}
use Rattle.ir_items.specs.found.GlobalView.{global_view}
use Rattle.ir_items.specs.found.View.{module_view}
use Rattle.ir_types.specs.judged.Plain.{member_view}
use Rattle.spec_interface.specs.judged.Members.{members_at}
use Rattle.function_entries.proofs.meshes.variable_members.Goals as goal

pub returns : goal.returns
returns c =
    let types = (module_view c.args.«module».now).types in
    let at = found global_view c.args.«module».now.global_variables c.args.variable c.index.result.now c.index.ensures in
    subst (λ o. MatchOption c.members_at.result (option_and_then (λ (v : PlainGlobal). members_at types v.ty) o ≡ None) (λ members. option_and_then (λ (v : PlainGlobal). members_at types v.ty) o ≡ Some (map member_view members.now)))
    (sym at) c.members_at.ensures
