-- The names of entry points so far, each with its stage.
use Rattle.std.specs.Prelude.{◌≡◌, ◌++◌, ◌<◌, ℕ, IsTrue, List, Some, codes, slice_get}
use Rattle.std.specs.BTreeSet.{contains_text}
use Rattle.function_whole.specs.declared.entry_names.SeenNames.{SeenNames}
use Rattle.ir_items.specs.judged.Plain.{PlainEntry, PlainModule}
use Rattle.ir_kinds.specs.declared.stages.ShaderStage.{ShaderStage}
use Rattle.ir_kinds.specs.declared.stages.ShaderStage.TheVariants.{Vertex, Fragment, Compute, Mesh, Task, RayGeneration, AnyHit, ClosestHit, Miss}

-- a letter for each stage, all distinct
abbrev pub stage_letter : ShaderStage → List ℕ
stage_letter Vertex = codes "v"
stage_letter Fragment = codes "f"
stage_letter Compute = codes "c"
stage_letter Mesh = codes "m"
stage_letter Task = codes "t"
stage_letter RayGeneration = codes "r"
stage_letter AnyHit = codes "a"
stage_letter ClosestHit = codes "h"
stage_letter Miss = codes "s"

-- a string of the stage and the name
abbrev pub key_of : ShaderStage → (name : List ℕ) → List ℕ
key_of stage name = stage_letter stage ++ name

-- an entry point of this stage with this name was seen
abbrev pub IsSeen : SeenNames → ShaderStage → (name : List ℕ) → Type 0
IsSeen names stage name = IsTrue (contains_text names.keys (key_of stage name))

-- one of the first entry points has this stage and this name
pub record IsNamedBelow (m : PlainModule) (count : ℕ) (stage : ShaderStage) (name : List ℕ) : Type 0 where
  pub index : ℕ
  pub entry : PlainEntry
  pub before : index < count
  pub at : slice_get m.entries index ≡ Some entry
  pub stage_is : entry.stage ≡ stage
  pub name_is : entry.name ≡ name

-- the names are those of the first entry points
pub record AreNamesBelow (m : PlainModule) (count : ℕ) (names : SeenNames) : Type 0 where
  pub seen : (stage : ShaderStage) (name : List ℕ) → IsSeen names stage name → IsNamedBelow m count stage name
  pub noted : (stage : ShaderStage) (name : List ℕ) → IsNamedBelow m count stage name → IsSeen names stage name
