-- Why a value can't be the built-in of a row.
use Rattle.std.specs.Prelude.{◌≡◌, ℕ, List, Some, None}
use Rattle.ir_kinds.specs.declared.bindings.BuiltIn.{BuiltIn}
use Rattle.ir_types.specs.judged.Plain.{PlainType, inner_view}
use Rattle.spec_interface.specs.judged.BuiltIns.{IsOfType}
use Rattle.spec_interface.specs.found.BuiltIns.{IsLinearWorkgroup, HasNoTaskPayload}
use Rattle.spec_interface.specs.judged.Contexts.{VaryingContext}
use Rattle.spec_interface.specs.declared.rows.BuiltInRow.{BuiltInRow}
use Rattle.spec_interface.specs.declared.rows.Exception.{Exception}
use Rattle.spec_interface.specs.declared.rows.Exception.TheVariants.{NotAfterTasks, RowsOnly}
use Rattle.function_varying_checks.specs.Faults.{IsAstray, Misses}
use Rattle.typing_forms.specs.judged.Resolutions.{inner_at}
use Rattle.function_varying_checks.specs.declared.error.VaryingError.{VaryingError}
use Rattle.function_varying_checks.specs.declared.error.VaryingError.TheVariants as error
use Rattle.function_varying_checks.specs.declared.built_ins.RowFault.{RowFault}
use Rattle.function_varying_checks.specs.declared.built_ins.RowFault.TheVariants as fault

-- the additional condition of a row does not hold
abbrev pub IsExcepted : VaryingContext → Exception → RowFault → Type 0
IsExcepted c e (fault.Capability x) = ⊥
IsExcepted c e fault.Rows = (e ≡ RowsOnly) × ¬ IsLinearWorkgroup c.sizes
IsExcepted c e fault.Stage = (e ≡ NotAfterTasks) × ¬ HasNoTaskPayload c
IsExcepted c e fault.Type = ⊥

abbrev pub IsRowFault : VaryingContext → (type : ℕ) → BuiltInRow → RowFault → Type 0
IsRowFault c type r (fault.Capability x) = Misses c r x
IsRowFault c type r fault.Rows = (r.exception ≡ RowsOnly) × ¬ IsLinearWorkgroup c.sizes
IsRowFault c type r fault.Stage = IsAstray c r
IsRowFault c type r fault.Type = ¬ IsOfType c.types r.ty type

-- the error has the inner type, or the handle if the type does not exist
abbrev pub IsTypeError : List PlainType → (type : ℕ) → BuiltIn → VaryingError → Type 0
IsTypeError types type b (error.InvalidBuiltInType d i) = (d ≡ b) × (inner_at types type ≡ Some (inner_view i))
IsTypeError types type b (error.InvalidType t) = (t ≡ type) × (inner_at types type ≡ None)
IsTypeError types type b _ = ⊥
