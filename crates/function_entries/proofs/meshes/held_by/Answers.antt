use Rattle.std.proofs.Common.{◌≡◌, ℕ, sym, ap, ◌∙◌}
use Rattle.std.proofs.lemmas.Option.{same_Some}
use Rattle.spec_interface.proofs.Places.{none_some}
use Rattle.ir_types.specs.declared.types.ArraySize.{ArraySize}
use Rattle.spec_interface.specs.judged.Meshes.{most}
use Rattle.function_entries.proofs.meshes.held_by.Goals as goal

pub returns-in-None : goal.returns-in-None
returns-in-None c = λ element n by held. none_some _ _ (sym c.in-None.ensures) held.array

pub returns-in-None-most : goal.returns-in-None-most
returns-in-None-most c = λ element n by held.
    let same : held.size ≡ c.in-Some.array.1 = ap (λ (p : ℕ × ArraySize). p.1) (same_Some _ _ (sym held.array ∙ sym c.in-Some.ensures)) in
    none_some (most held.size) (n, by) (ap most same ∙ sym c.in-None-most.ensures) held.counted

pub returns-in-Some-most : goal.returns-in-Some-most
returns-in-Some-most c = record { size = c.in-Some.array.1; array = sym c.in-Some.ensures; counted = sym c.in-Some-most.ensures }
