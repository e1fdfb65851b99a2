-- The path in a document of a position in a body, from the array of the body's statements on.
use Rattle.std.specs.Prelude.{◌≡◌, Bool, true, false, ℕ, List, [], ◌∷◌, ◌++◌, Option, Some}
use Rattle.serde_json.specs.Data.{Data}
use Rattle.check_faults.specs.Parts.{along}
use Rattle.document_forms.specs.judged.Form.{AnArray}
use Rattle.ir_blocks.specs.judged.Places.{OccursAt}
use Rattle.ir_blocks.specs.judged.Plain.{PlainStatement, PlainBlock}
use Rattle.ir_places.specs.declared.step.Part.{Part}
use Rattle.ir_places.specs.declared.step.Part.TheVariants as part
use Rattle.ir_places.specs.declared.step.Step.{Step}
use Rattle.ir_places.specs.declared.trail.Trail.{Trail}
use Rattle.ir_places.specs.Paths.{place_of}
use Rattle.document_reader.specs.judged.StatementForm.{AStatement, TheStatements}

-- the path from a statement's array to the statements of one of its blocks
abbrev pub part_path : Part → List ℕ
part_path part.Inner = 1 ∷ []
part_path part.Accepting = 2 ∷ []
part_path part.Rejecting = 3 ∷ []
part_path (part.Case k) = 2 ∷ k ∷ 1 ∷ []
part_path part.LoopBody = 1 ∷ []
part_path part.LoopContinuing = 2 ∷ []

abbrev pub step_path : Step → List ℕ
step_path s = s.index ∷ part_path s.part

-- the steps in reverse order, followed by this path
abbrev pub path_along : List Step → List ℕ → List ℕ
path_along [] path = path
path_along (s ∷ rest) path = path_along rest (step_path s ++ path)

abbrev pub last_path : (condition : Bool) → List ℕ
last_path true = 3 ∷ []
last_path false = []

abbrev pub json_path : Trail → List ℕ
json_path b = path_along b.steps.items (b.index ∷ last_path b.condition)

-- In the array of a body, the path of a trail leads to the array of the statement there.
abbrev pub PathsLead : Type 0
PathsLead = (place : Trail) (b : PlainBlock) (s : PlainStatement) (d : Data) → OccursAt b (place_of place) s → AnArray (TheStatements b) d
    → (w : Data) × (along (json_path place) d ≡ Some w) × AStatement s w
