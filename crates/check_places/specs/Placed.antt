-- The path of a position in a body.
use Rattle.std.specs.Prelude.{ℕ, Bool, true, false, List, [], ◌∷◌, ◌++◌, Option, Some, None, map, nat_le, if◌then◌else◌}
use Rattle.check_paths.specs.Json.{json_path}
use Rattle.check_places.specs.declared.body_place.BodyPlace.{BodyPlace}
use Rattle.check_places.specs.declared.subject.Site.{Site}
use Rattle.check_places.specs.declared.subject.Site.TheVariants as site

-- the maximum index of a path
abbrev pub greatest : ℕ
greatest = 4294967295

-- an index as a step of a path
abbrev pub clamped : ℕ → ℕ
clamped n = if nat_le n greatest then n else greatest

-- the array of the statements of a function's body, or of an entry point's
abbrev pub body_path : (of_entry : Bool) → (index : ℕ) → List ℕ
body_path false index = 12 ∷ index ∷ 5 ∷ []
body_path true index = 13 ∷ index ∷ 6 ∷ 5 ∷ []

abbrev pub path_to : BodyPlace → List ℕ
path_to place = map clamped (body_path place.of_entry place.index ++ json_path place.trail.now)

-- the path to an error's location; that of an invalid handle or of an evaluating statement is searched for
abbrev pub site_path : Site → Option (List ℕ)
site_path (site.Body place) = Some (path_to place)
site_path (site.Part indexes) = Some (map clamped indexes.now)
site_path (site.Brought expression) = None
site_path (site.Handle target) = None
site_path (site.Range first end) = None
