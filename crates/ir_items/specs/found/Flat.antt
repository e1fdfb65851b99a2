-- The flattened components of a vector composition.
use Rattle.std.specs.Prelude.{◌≡◌, ℕ, ◌<◌, List, [], ◌∷◌, ◌++◌, map, take, replicate, Option, Some, None, slice_get, MatchOption}
use Rattle.std.specs.List.{All}
use Rattle.std.specs.Option.{option_and_then}
use Rattle.ir_blocks.specs.IrArena.{Span}
use Rattle.ir_kinds.specs.judged.Scalars.{component_count}
use Rattle.ir_blocks.specs.IrTypes.{IrType, Vector, PlainType, PlainInner, plain as other, type_view, Splat, PlainExpression, compose, plain_expression as plain}
use Rattle.ir_items.specs.found.GlobalView.{values_of}

-- the types of an arena
abbrev pub types_of : List (IrType × Span) → List PlainType
types_of entries = map type_view (values_of entries)

-- the operands of a composition (its components) and of a splat (its scalar, repeated)
abbrev pub parts_of : PlainExpression → Option (List ℕ)
parts_of (compose type components) = Some components
parts_of (plain (Splat size value)) = Some (replicate (component_count size) value)
parts_of _ = None

-- the operands of each expression precede it
abbrev pub PartsPrecede : List PlainExpression → Type 0
PartsPrecede expressions = (handle : ℕ) (e : PlainExpression) (parts : List ℕ) → slice_get expressions handle ≡ Some e → parts_of e ≡ Some parts → All (λ part. part < handle) parts

-- The leaves of the expressions at these handles, concatenated: an expression without operands is a leaf itself, and
-- the leaves of any other are those of its operands.
pub data AreLeaves (expressions : List PlainExpression) : List ℕ → List ℕ → Type 0 where
  none : AreLeaves expressions [] []
  leaf : {handle : ℕ} {rest leaves : List ℕ} {e : PlainExpression}
      → slice_get expressions handle ≡ Some e → parts_of e ≡ None → AreLeaves expressions rest leaves → AreLeaves expressions (handle ∷ rest) (handle ∷ leaves)
  taken_apart : {handle : ℕ} {rest parts inside leaves : List ℕ} {e : PlainExpression}
      → slice_get expressions handle ≡ Some e → parts_of e ≡ Some parts → AreLeaves expressions parts inside → AreLeaves expressions rest leaves → AreLeaves expressions (handle ∷ rest) (inside ++ leaves)

-- the number of components of a vector
abbrev pub vector_size : PlainInner → Option ℕ
vector_size (other (Vector size scalar)) = Some (component_count size)
vector_size _ = None

-- the number of components of the type at a handle, if that is a vector
abbrev pub size_at : List PlainType → ℕ → Option ℕ
size_at types handle = option_and_then (λ (t : PlainType). vector_size t.inner) (slice_get types handle)

-- the flattened components: for a vector the leaves, at most as many as it has components, and otherwise the
-- components unchanged
abbrev pub IsFlattened : List PlainExpression → Option ℕ → List ℕ → List ℕ → Type 0
IsFlattened expressions size components flat =
    MatchOption size (flat ≡ components) (λ n. (leaves : List ℕ) × AreLeaves expressions components leaves × (flat ≡ take n leaves))

-- a composition has at most one flattened list
abbrev pub OneFlattening : Type 0
OneFlattening = (expressions : List PlainExpression) (size : Option ℕ) (components a b : List ℕ) → IsFlattened expressions size components a → IsFlattened expressions size components b → a ≡ b
