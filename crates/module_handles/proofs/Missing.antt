-- Handles out of bounds in concatenated lists.
use Rattle.std.proofs.Common.{◌≡◌, ℕ, List, [], ◌∷◌, ◌++◌, true, false, if◌then◌else◌, Option, Some, None, option_map, option_to_list, nat_lt, refl, ap}
use Rattle.std.specs.Option.{option_or}
use Rattle.ir_items.specs.declared.entries.MeshStageInfo.{MeshStageInfo}
use Rattle.typing_references.specs.First.{first_past}
use Rattle.typing_references.specs.declared.fault.HandleFault.TheVariants as fault
use Rattle.module_handles.specs.Found.{first_missing}
use Rattle.spec_expressions.specs.judged.Operands.{given}
use Rattle.spec_expressions.specs.found.Meshes.{mesh_variables}
use Rattle.spec_expressions.specs.declared.item.ItemKind.{ItemKind}

pub missing_among : (k : ItemKind) (there : ℕ) (xs ys : List ℕ) → first_missing k there (xs ++ ys) ≡ option_or (first_missing k there xs) (first_missing k there ys)
missing_among k there [] ys = refl
missing_among k there (x ∷ xs) ys =
    elim (nat_lt x there) as (λ b. option_map (λ place. fault.Missing k place) (if b then first_past there (xs ++ ys) else Some x) ≡ option_or (option_map (λ place. fault.Missing k place) (if b then first_past there xs else Some x)) (first_missing k there ys)) [
      | true ↦ missing_among k there xs ys
      | false ↦ refl
    ]

-- the payload first, and then the mesh output variable
pub payload_first : (payload output : Option ℕ) (mesh : Option MeshStageInfo) → given (output ∷ []) ≡ mesh_variables mesh → given (payload ∷ output ∷ []) ≡ option_to_list payload ++ mesh_variables mesh
payload_first None output mesh e = e
payload_first (Some p) output mesh e = ap (λ l. p ∷ l) e
