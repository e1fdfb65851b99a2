-- The broken rules of statements.
use Rattle.std.specs.Prelude.{◌≡◌, ◌≢◌, ℕ, List, Option, Some, None, IsSomeAnd}
use Rattle.ir_flags.specs.Sets.{Has}
use Rattle.ir_flags.specs.declared.memory.TheConstants.StorageAccess.{STORE}
use Rattle.ir_kinds.specs.judged.Spaces.{access_of}
use Rattle.ir_types.specs.judged.Plain.{PlainType}
use Rattle.typing_forms.specs.declared.form.Form.{Form}
use Rattle.typing_forms.specs.declared.form.Form.TheVariants as form
use Rattle.typing_forms.specs.judged.Forms.{form_of_type}
use Rattle.typing_forms.specs.judged.Resolutions.{inner_at}
use Rattle.spec_expressions.specs.judged.Loads.{loaded, loaded_value}
use Rattle.spec_statements.specs.judged.Scene.{form_among}
use Rattle.spec_statements.specs.judged.Stores.{pointer_space}
use Rattle.check_causes.specs.declared.bodies.ReturnCause.{ReturnCause}
use Rattle.check_causes.specs.declared.bodies.ReturnCause.TheVariants as returns
use Rattle.check_causes.specs.declared.bodies.StoreCause.{StoreCause}
use Rattle.check_causes.specs.declared.bodies.StoreCause.TheVariants as store

-- ---- returns

-- a value exactly if the function has a result, and of its type
abbrev pub IsReturned : List PlainType → (declared : Option ℕ) → (forms : List Form) → (value : Option ℕ) → Type 0
IsReturned types declared forms o = elim o [ None ↦ declared ≡ None | Some value ↦ IsSomeAnd declared (λ type. form_among forms value ≡ form_of_type types type) ]

abbrev pub BrokenValue : (given wanted : Form) → ReturnCause → Type 0
BrokenValue given wanted (returns.NoResult one) = ⊥
BrokenValue given wanted (returns.Nothing one) = ⊥
BrokenValue given wanted (returns.Differ one other) = (one ≡ given) × (other ≡ wanted) × (given ≢ wanted)

abbrev pub BrokenReturn : List PlainType → (declared : Option ℕ) → (forms : List Form) → (value : Option ℕ) → ReturnCause → Type 0
BrokenReturn types declared forms value (returns.NoResult given) = (declared ≡ None) × IsSomeAnd value (λ e. given ≡ form_among forms e)
BrokenReturn types declared forms value (returns.Nothing wanted) = (value ≡ None) × IsSomeAnd declared (λ type. wanted ≡ form_of_type types type)
BrokenReturn types declared forms value (returns.Differ given wanted) =
    IsSomeAnd value (λ e. IsSomeAnd declared (λ type. BrokenValue (form_among forms e) (form_of_type types type) (returns.Differ given wanted)))

-- ---- stores

-- the base type of a pointer
abbrev pub pointed_value : List PlainType → (pointer : Form) → Option Form
pointed_value types t = elim t [ form.Pointer base space ↦ Some (loaded types base (inner_at types base)) | form.ValuePointer n s space ↦ Some (loaded_value n s) | _ ↦ None ]

abbrev pub BrokenStore : List PlainType → (pointer value : Form) → StoreCause → Type 0
BrokenStore types pointer value (store.NoPointer given) = (given ≡ pointer) × (pointer_space pointer ≡ None)
BrokenStore types pointer value (store.Space space) = (pointer_space pointer ≡ Some space) × ¬ Has (access_of space).0 STORE.0
BrokenStore types pointer value (store.Value given wanted) = (given ≡ value) × (pointed_value types pointer ≡ Some wanted) × (value ≢ wanted)
