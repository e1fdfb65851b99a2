-- The arguments of a call that are marked.
use Rattle.std.specs.Prelude.{◌≡◌, ℕ, Bool, true, false, List, [], ◌∷◌, Option, Some, None, slice_get}
use Rattle.spec_expressions.specs.declared.sampling.GlobalOrArgument.{GlobalOrArgument}

-- the denotation of an argument, if it is marked
abbrev pub part_if : Bool → Option GlobalOrArgument → Option GlobalOrArgument
part_if true part = part
part_if false part = None

-- the denotations of all marked arguments, up to the shorter length
abbrev pub parts_of : (meaning : ℕ → Option GlobalOrArgument) → (marks : List Bool) → (arguments : List ℕ) → List (Option GlobalOrArgument)
parts_of meaning [] arguments = []
parts_of meaning (mark ∷ marks) [] = []
parts_of meaning (mark ∷ marks) (argument ∷ arguments) = part_if mark (meaning argument) ∷ parts_of meaning marks arguments

-- each marked argument has a denotation
abbrev pub Stands : List Bool → List (Option GlobalOrArgument) → ℕ → Type 0
Stands marks parts number = slice_get marks number ≡ Some true → (part : GlobalOrArgument) × (slice_get parts number ≡ Some (Some part))

abbrev pub AllStand : List Bool → List (Option GlobalOrArgument) → Type 0
AllStand marks parts = (number : ℕ) → Stands marks parts number
