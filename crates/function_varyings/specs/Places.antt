-- The requirements on the varying at an index, given those before it.
use Rattle.std.specs.Prelude.{◌≡◌, ◌<◌, ◌⊎◌, ◌↔◌, ℕ, List, IsTrue, Option, Some, slice_get}
use Rattle.std.specs.Ordering.{nat_cmp}
use Rattle.std.specs.BTreeSet.{BTreeSet, contains}
use Rattle.ir_flags.specs.Sets.{Has}
use Rattle.ir_flags.specs.declared.settings.TheConstants.ValidationFlags.{BINDINGS}
use Rattle.ir_kinds.specs.declared.bindings.BuiltIn.{BuiltIn}
use Rattle.spec_interface.specs.judged.Contexts.{VaryingContext}
use Rattle.spec_interface.specs.judged.Varyings.{BoundOK, ShowsAt, built_in_of, canonical, location_of}
use Rattle.spec_interface.specs.declared.varyings.Bound.{Bound}
use Rattle.spec_interface.specs.declared.varyings.Varying.{Varying}
use Rattle.function_varying_checks.specs.Faults.{IsBuiltIn, IsOwnFault, IsRepeated, ShowsBefore}
use Rattle.function_varying_checks.specs.declared.error.VaryingError.{VaryingError}

-- nothing before has a fact of the varying at the index
abbrev pub IsNew : {A : Type 0} → (Bound → Option A) → List Varying → (place : ℕ) → Type 0
IsNew {A} shown vs place = (earlier : ℕ) (x : A) → earlier < place → ShowsAt shown vs earlier x → ¬ ShowsAt shown vs place x

-- it is a built-in that occurs before
abbrev pub IsBuiltInAgain : List Varying → (place : ℕ) → BuiltIn → Type 0
IsBuiltInAgain vs place b = ((v : Varying) × (slice_get vs place ≡ Some v) × IsBuiltIn v.bound b) × ShowsBefore built_in_of vs place (canonical b)

-- its location is taken before
abbrev pub IsTakenAgain : List Varying → (place n : ℕ) → Type 0
IsTakenAgain vs place n = ShowsAt location_of vs place n × ShowsBefore location_of vs place n

-- the numbers are the locations taken before an index
abbrev pub AreNoted : BTreeSet ℕ → List Varying → (place : ℕ) → Type 0
AreNoted noted vs place = (n : ℕ) → IsTrue (contains nat_cmp noted n) ↔ ShowsBefore location_of vs place n

pub record IsFine (c : VaryingContext) (vs : List Varying) (place : ℕ) : Type 0 where
  pub own : (v : Varying) → slice_get vs place ≡ Some v → BoundOK c v.bound
  pub once : IsNew built_in_of vs place
  pub apart : Has c.flags.0 BINDINGS.0 → IsNew location_of vs place

-- it has an error
abbrev pub IsFaultAt : VaryingContext → List Varying → (place : ℕ) → VaryingError → Type 0
IsFaultAt c vs place e = (v : Varying) × (slice_get vs place ≡ Some v) × (IsOwnFault c v.bound e ⊎ IsRepeated c vs place v.bound e)
