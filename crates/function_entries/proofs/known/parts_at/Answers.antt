use Rattle.std.proofs.Common.{◌∙◌, map, sym, subst}
use Rattle.std.proofs.lemmas.Option.{same_Some}
use Rattle.ir_types.specs.judged.Plain.{member_view}
use Rattle.spec_interface.proofs.Places.{none_some}
use Rattle.spec_interface.specs.judged.Meshes.{AreParts}
use Rattle.function_entries.proofs.known.parts_at.Goals as goal

pub returns-in-Some-parts_of : goal.returns-in-Some-parts_of
returns-in-Some-parts_of c = record { members = map member_view c.in-Some.members.now; struct = c.in-Some.ensures; parts = c.in-Some-parts_of.ensures }

pub returns-in-None-parts_of : goal.returns-in-None-parts_of
returns-in-None-parts_of c = λ t a. c.in-None-parts_of.ensures t (subst (λ ms. AreParts ms t) (same_Some _ _ (sym a.struct ∙ c.in-Some.ensures)) a.parts)

pub returns-in-None : goal.returns-in-None
returns-in-None c = λ t a. none_some _ a.members c.in-None.ensures a.struct
