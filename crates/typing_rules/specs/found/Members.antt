-- The members of bit sets.
use Rattle.std.specs.Prelude.{ℕ, List, [], ◌∷◌, Option, Some, None, map}
use Rattle.ir_kinds.specs.judged.Scalars.{signed, unsigned, floating, boolean, abstract_int, abstract_float}
use Rattle.ir_kinds.specs.declared.scalars.Scalar.{Scalar}
use Rattle.ir_kinds.specs.declared.scalars.VectorSize.TheVariants.{Bi, Tri, Quad}
use Rattle.typing_rules.specs.declared.rules.ConstructorSize.{ConstructorSize}
use Rattle.typing_rules.specs.declared.rules.ConstructorSize.TheVariants as size
use Rattle.typing_rules.specs.declared.rules.ValueType.{ValueType}
use Rattle.typing_rules.specs.found.Bits.{chosen, powers}
use Rattle.typing_rules.specs.declared.constructor_set.ConstructorSet.{ConstructorSet}
use Rattle.typing_rules.specs.declared.scalar_set.ScalarSet.{ScalarSet}

-- the twelve scalars, the lowest bit first
abbrev pub scalars : List Scalar
scalars =
    abstract_int ∷ signed 4 ∷ unsigned 4 ∷ signed 2 ∷ unsigned 2 ∷ signed 8 ∷ unsigned 8 ∷ abstract_float ∷ floating 4 ∷ floating 2 ∷ floating 8 ∷ boolean ∷ []

-- the scalars in a set
abbrev pub scalars_in : ℕ → List Scalar
scalars_in set = chosen set scalars

-- the singleton sets of its scalars
abbrev pub single_scalars : List ScalarSet
single_scalars = map (λ n. record { 0 = n }) (powers 1 12)

-- the thirteen constructors, the lowest bit first
abbrev pub sizes : List ConstructorSize
sizes =
    size.Scalar ∷ size.Vector Bi ∷ size.Vector Tri ∷ size.Vector Quad ∷ size.Matrix Bi Bi ∷ size.Matrix Bi Tri ∷ size.Matrix Bi Quad
    ∷ size.Matrix Tri Bi ∷ size.Matrix Tri Tri ∷ size.Matrix Tri Quad ∷ size.Matrix Quad Bi ∷ size.Matrix Quad Tri ∷ size.Matrix Quad Quad ∷ []

-- the constructors in a set
abbrev pub sizes_in : ℕ → List ConstructorSize
sizes_in set = chosen set sizes

-- the singleton sets of its constructors
abbrev pub single_sizes : List ConstructorSet
single_sizes = map (λ n. record { 0 = n }) (powers 1 13)

-- the constructor of a type, if it is a scalar, a vector or a matrix
abbrev pub size_of : Option ValueType → List ConstructorSize
size_of (Some given) = given.size ∷ []
size_of None = []
