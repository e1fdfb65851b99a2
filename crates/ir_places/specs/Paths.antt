-- The place of a trail.
use Rattle.std.specs.Prelude.{◌≡◌, Bool, true, false, ℕ, zero, suc, List, [], ◌∷◌}
use Rattle.ir_blocks.specs.judged.Places.{Place, here, later, condition}
use Rattle.ir_blocks.specs.judged.Places as at
use Rattle.ir_blocks.specs.judged.Shapes as shape
use Rattle.ir_places.specs.declared.step.Part.{Part}
use Rattle.ir_places.specs.declared.step.Part.TheVariants as part
use Rattle.ir_places.specs.declared.step.Step.{Step}
use Rattle.ir_places.specs.declared.trail.Trail.{Trail}

abbrev pub part_view : Part → shape.Part
part_view part.Inner = shape.inner
part_view part.Accepting = shape.accepting
part_view part.Rejecting = shape.rejecting
part_view (part.Case k) = shape.case_at k
part_view part.LoopBody = shape.loop_body
part_view part.LoopContinuing = shape.loop_continuing

-- the place that many statements later
abbrev pub later_by : ℕ → Place → Place
later_by zero p = p
later_by (suc k) p = later (later_by k p)

-- the place p relative to the enclosing block, through the step
abbrev pub stepped : Step → Place → Place
stepped s p = later_by s.index (at.inside (part_view s.part) p)

-- the place at the end of the steps, the last of them first
abbrev pub place_along : List Step → Place → Place
place_along [] p = p
place_along (s ∷ rest) p = place_along rest (stepped s p)

abbrev pub last_place : (is_condition : Bool) → Place
last_place true = condition
last_place false = here

abbrev pub place_of : Trail → Place
place_of t = place_along t.steps.items (later_by t.index (last_place t.condition))

-- the trail has this place, unless it is lost
abbrev pub LeadsTo : Trail → Place → Type 0
LeadsTo t p = t.lost ≡ false → place_of t ≡ p

-- the property holds of a place, which is the trail's, unless that is lost
abbrev pub IsPlaced : Trail → (Place → Type 0) → Type 0
IsPlaced t P = (p : Place) × LeadsTo t p × P p
