-- Errors of arguments.
use Rattle.std.specs.Prelude.{◌≡◌, ℕ, Bool, false, Some, None, string_bytes}
use Rattle.typing_errors.specs.declared.error.FunctionError.{FunctionError}
use Rattle.typing_errors.specs.declared.error.FunctionError.TheVariants as error
use Rattle.function_interface.specs.Items.{IsFirstAt}
use Rattle.function_interface.specs.Named.{name_of}
use Rattle.function_interface.specs.declared.arguments.ArgumentFault.{ArgumentFault}
use Rattle.function_interface.specs.declared.arguments.ArgumentFault.TheVariants as fault
use Rattle.ir_items.specs.judged.Plain.{PlainArgument, PlainModule}
use Rattle.ir_kinds.specs.declared.spaces.AddressSpace.{AddressSpace}
use Rattle.typing_layout.specs.judged.Flags.{HasFlag, Argument}
use Rattle.spec_statements.specs.judged.BlockContext.{BlockContext}
use Rattle.spec_statements.specs.judged.Interfaces.{ArgumentOK, IsGiven}
use Rattle.spec_statements.specs.judged.Stores.{pointer_space}
use Rattle.typing_layout.specs.judged.View.{type_tree}
use Rattle.typing_forms.specs.judged.Forms.{form_of_type}

-- a pointer into an address space that arguments can't point into
abbrev pub IsFarPointer : PlainModule → PlainArgument → AddressSpace → Type 0
IsFarPointer m a space = (pointer_space (form_of_type m.types a.ty) ≡ Some space) × ¬ IsGiven space

-- a type that arguments can't have
abbrev pub IsNotTaken : PlainModule → PlainArgument → Type 0
IsNotTaken m a = ¬ HasFlag Argument (type_tree m.types a.ty)

-- a binding in a function that is not an entry point's
abbrev pub IsBoundHere : (entry : Bool) → PlainArgument → Type 0
IsBoundHere entry a = (entry ≡ false) × ¬ (a.binding ≡ None)

abbrev pub IsArgumentFault : PlainModule → (entry : Bool) → PlainArgument → ArgumentFault → Type 0
IsArgumentFault m entry a (fault.Space space) = IsFarPointer m a space
IsArgumentFault m entry a fault.Type = IsNotTaken m a
IsArgumentFault m entry a fault.Binding = IsBoundHere entry a

-- the error has the name of the argument at an index, and this cause
abbrev pub IsNamed : (index : ℕ) → PlainArgument → ArgumentFault → FunctionError → Type 0
IsNamed index a (fault.Space space) (error.InvalidArgumentPointerSpace i name told) = (i ≡ index) × (string_bytes name ≡ name_of a.name) × (told ≡ space)
IsNamed index a fault.Type (error.InvalidArgumentType i name) = (i ≡ index) × (string_bytes name ≡ name_of a.name)
IsNamed index a fault.Binding (error.PipelineInputRegularFunction name) = string_bytes name ≡ name_of a.name
IsNamed index a _ _ = ⊥

-- it is the first invalid one
abbrev pub IsArgumentsFault : BlockContext → (entry : Bool) → FunctionError → Type 0
IsArgumentsFault c entry (error.InvalidArgumentPointerSpace index name space) =
    IsFirstAt (ArgumentOK c.m entry) (λ a. (string_bytes name ≡ name_of a.name) × IsFarPointer c.m a space) c.f.arguments index
IsArgumentsFault c entry (error.InvalidArgumentType index name) =
    IsFirstAt (ArgumentOK c.m entry) (λ a. (string_bytes name ≡ name_of a.name) × IsNotTaken c.m a) c.f.arguments index
IsArgumentsFault c entry (error.PipelineInputRegularFunction name) =
    (index : ℕ) × IsFirstAt (ArgumentOK c.m entry) (λ a. (string_bytes name ≡ name_of a.name) × IsBoundHere entry a) c.f.arguments index
IsArgumentsFault c entry _ = ⊥
