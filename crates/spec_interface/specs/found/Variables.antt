-- Global variables, given the types of the module's global expressions, and their rules, one by one.
use Rattle.std.specs.Prelude.{ℕ, List, IfSome, IsTrue}
use Rattle.ir_flags.specs.declared.settings.Capabilities.{Capabilities}
use Rattle.ir_flags.specs.declared.settings.ValidationFlags.{ValidationFlags}
use Rattle.ir_items.specs.judged.GlobalPlain.{PlainGlobal}
use Rattle.ir_items.specs.judged.Plain.{PlainModule}
use Rattle.ir_kinds.specs.declared.spaces.AddressSpace.{AddressSpace}
use Rattle.spec_statements.specs.SpecExpressions.{HasGlobalType}
use Rattle.spec_interface.specs.judged.Globals.{BeginsBy, VariableBy}
use Rattle.spec_interface.specs.judged.Spaces.{array_base, HasArrayCapability}
use Rattle.ir_types.specs.judged.Plain.{PlainType}
use Rattle.typing_forms.specs.judged.Resolutions.{inner_at}
use Rattle.typing_layout.specs.judged.Flags.{TypeFlag, HasFlag, among}
use Rattle.typing_layout.specs.judged.Tree.{Tree}

-- the initializer is valid for a variable of a type in a space
abbrev pub BeginsOK : PlainModule → AddressSpace → (type init : ℕ) → Type 0
BeginsOK m = BeginsBy (HasGlobalType m) m

-- the global variable is valid
abbrev pub VariableOK : ValidationFlags → Capabilities → PlainModule → PlainGlobal → Type 0
VariableOK flags capabilities m = VariableBy (HasGlobalType m) flags capabilities m

-- it is a valid binding array, if it is one
abbrev pub ArraysOK : Capabilities → AddressSpace → List PlainType → (type : ℕ) → Type 0
ArraysOK capabilities space types type = IfSome (array_base (inner_at types type)) (λ base. HasArrayCapability capabilities space (inner_at types base))

-- the type has all of these flags
abbrev pub HasAll : List TypeFlag → Tree → Type 0
HasAll flags t = (f : TypeFlag) → IsTrue (among flags f) → HasFlag f t
