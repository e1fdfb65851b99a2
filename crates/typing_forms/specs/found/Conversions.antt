-- Implicit conversions between types.
use Rattle.std.specs.Prelude.{◌≡◌, ℕ, List, Option, Some, None, Bool, true, false, ◌==◌, ◌&&◌, if◌then◌else◌, IsSome}
use Rattle.ir_kinds.specs.judged.Scalars.{component_count}
use Rattle.ir_kinds.specs.declared.scalars.Scalar.{Scalar}
use Rattle.ir_kinds.specs.declared.scalars.VectorSize.{VectorSize}
use Rattle.ir_types.specs.judged.Plain.{PlainInner, plain, PlainType}
use Rattle.ir_types.specs.declared.types.ArraySize.{ArraySize}
use Rattle.ir_types.specs.declared.types.ArraySize.TheVariants as count
use Rattle.ir_types.specs.declared.types.TypeInner.TheVariants as inner
use Rattle.typing_forms.specs.judged.Ranks.{conversion}
use Rattle.typing_forms.specs.judged.Resolutions.{inner_at}

abbrev pub same_size : VectorSize → VectorSize → Bool
same_size n m = component_count n == component_count m

abbrev pub same_count : ArraySize → ArraySize → Bool
same_count (count.Constant n) (count.Constant m) = n == m
same_count (count.Pending o) (count.Pending p) = o == p
same_count count.Dynamic count.Dynamic = true
same_count _ _ = false

-- the scalars of two scalars, of two vectors of one size, or of two matrices of one size
abbrev pub scalars_of : PlainInner → PlainInner → Option (Scalar × Scalar)
scalars_of (plain (inner.Scalar s)) (plain (inner.Scalar t)) = Some (s, t)
scalars_of (plain (inner.Vector n s)) (plain (inner.Vector m t)) = if same_size n m then Some (s, t) else None
scalars_of (plain (inner.Matrix columns rows s)) (plain (inner.Matrix others lines t)) =
    if same_size columns others && same_size rows lines then Some (s, t) else None
scalars_of _ _ = None

-- the element types of two arrays of one length
abbrev pub bases_of : PlainInner → PlainInner → Option (ℕ × ℕ)
bases_of (plain (inner.Array base size stride)) (plain (inner.Array other length step)) =
    if same_count size length then Some (base, other) else None
bases_of _ _ = None

-- Two types differ in these scalars only, and in array strides.
pub data SameShape (types : List PlainType) : PlainInner → PlainInner → Scalar → Scalar → Type 0 where
  alike : {i j : PlainInner} {s t : Scalar} → scalars_of i j ≡ Some (s, t) → SameShape types i j s t
  elements : {i j k l : PlainInner} {s t : Scalar} {base other : ℕ} → bases_of i j ≡ Some (base, other)
      → inner_at types base ≡ Some k → inner_at types other ≡ Some l → SameShape types k l s t → SameShape types i j s t

-- the element types of two arrays at two handles
abbrev pub SameShapeAt : List PlainType → ℕ → ℕ → Scalar → Scalar → Type 0
SameShapeAt types left right s t =
    (i : PlainInner) × (inner_at types left ≡ Some i) × (j : PlainInner) × (inner_at types right ≡ Some j) × SameShape types i j s t

-- the value for the types at two handles, if both exist
abbrev pub both_found : {A : Type 0} → (PlainInner → PlainInner → Option A) → Option PlainInner → Option PlainInner → Option A
both_found f (Some i) (Some j) = f i j
both_found f (Some i) None = None
both_found f None other = None

abbrev pub both_at : {A : Type 0} → (PlainInner → PlainInner → Option A) → List PlainType → ℕ → ℕ → Option A
both_at f types left right = both_found f (inner_at types left) (inner_at types right)

-- the one type converts to the other by converting these scalars
abbrev pub Converts : List PlainType → PlainInner → PlainInner → Scalar → Scalar → Type 0
Converts types i j s t = SameShape types i j s t × IsSome (conversion s t)
