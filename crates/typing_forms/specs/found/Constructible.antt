-- Constructible types.
use Rattle.std.specs.Prelude.{◌≡◌, ◌↔◌, ◌<◌, ℕ, List, [], ◌∷◌, Option, Some, None, Bool, true, false, map, IsTrue, length, slice_get, unwrap_or}
use Rattle.std.specs.List.{list_all}
use Rattle.ir_types.specs.judged.Plain.{PlainInner, struct, plain, PlainType}
use Rattle.ir_types.specs.declared.types.ArraySize.TheVariants as count
use Rattle.ir_types.specs.declared.types.TypeInner.TheVariants as inner
use Rattle.typing_forms.specs.judged.Resolutions.{inner_at}

-- constructible whatever its parts
abbrev pub is_constructible_alone : PlainInner → Bool
is_constructible_alone (plain (inner.Scalar s)) = true
is_constructible_alone (plain (inner.Vector n s)) = true
is_constructible_alone (plain (inner.Matrix columns rows s)) = true
is_constructible_alone (plain (inner.CooperativeMatrix columns rows s role)) = true
is_constructible_alone (plain (inner.RayQuery vertex_return)) = true
is_constructible_alone _ = false

-- the types of the parts of an array of fixed length, or of a struct
abbrev pub parts_of : PlainInner → Option (List ℕ)
parts_of (struct members span) = Some (map (λ m. m.ty) members)
parts_of (plain (inner.Array base (count.Constant n) stride)) = Some (base ∷ [])
parts_of _ = None

-- A type is constructible itself, or all its parts are.
pub data IsConstructible (types : List PlainType) : PlainInner → Type 0 where
  alone : {i : PlainInner} → is_constructible_alone i ≡ true → IsConstructible types i
  composed : {i : PlainInner} {parts : List ℕ} (made_of : ℕ → PlainInner) → parts_of i ≡ Some parts
      → ((place handle : ℕ) → slice_get parts place ≡ Some handle → inner_at types handle ≡ Some (made_of handle))
      → ((place handle : ℕ) → slice_get parts place ≡ Some handle → IsConstructible types (made_of handle)) → IsConstructible types i

-- the type at a handle is constructible
abbrev pub IsConstructibleAt : List PlainType → ℕ → Type 0
IsConstructibleAt types handle = (i : PlainInner) × (inner_at types handle ≡ Some i) × IsConstructible types i

-- ---- the entries of some types, by index

abbrev pub known_at : List Bool → ℕ → Bool
known_at known handle = unwrap_or (slice_get known handle) false

-- whether a type is constructible by the entries of its parts
abbrev pub composed_by : List Bool → Option (List ℕ) → PlainInner → Bool
composed_by known (Some parts) i = list_all (known_at known) parts
composed_by known None i = is_constructible_alone i

abbrev pub composed_of : List Bool → PlainInner → Bool
composed_of known i = composed_by known (parts_of i) i

-- the entries are those of the first types, and no others
pub record AreFoundBelow (types : List PlainType) (known : List Bool) (place : ℕ) : Type 0 where
  pub many : length known ≡ place
  pub each : (handle : ℕ) → handle < place → IsTrue (known_at known handle) ↔ IsConstructibleAt types handle

abbrev pub AreFound : List PlainType → List Bool → Type 0
AreFound types known = AreFoundBelow types known (length types)
