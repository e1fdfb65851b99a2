-- Math functions, resolved by their tables of rules.
use Rattle.std.specs.Prelude.{ℕ, suc, ◌==◌, List, [], ◌∷◌, Option, Some, None, Result, Err, option_map, ok_or, filter, length, slice_get, if◌then◌else◌}
use Rattle.ir_kinds.specs.judged.Maths.{argument_count}
use Rattle.ir_kinds.specs.declared.maths.MathFunction.{MathFunction}
use Rattle.typing_layout.specs.TypingForms.{Form, form_of}
use Rattle.typing_layout.specs.TypingForms.form as form
use Rattle.typing_rules.specs.declared.rules.ConstructorSize.TheVariants as size
use Rattle.typing_rules.specs.declared.rules.Rule.{Rule}
use Rattle.typing_rules.specs.declared.rules.ValueType.{ValueType}
use Rattle.typing_rules.specs.judged.Ranks.{accepts_if}
use Rattle.typing_rules.specs.judged.MathTable.{math_overloads}
use Rattle.typing_rules.specs.judged.Types.{value_type}
use Rattle.spec_expressions.specs.judged.Given.{given_type}
use Rattle.spec_expressions.specs.judged.Context.{Context}
use Rattle.spec_expressions.specs.declared.faults.TypingFault.{TypingFault}
use Rattle.spec_expressions.specs.declared.faults.TypingFault.TheVariants.{BuiltinArgumentsInvalid, MissingSpecialType}

-- the value type of a form that is a scalar, a vector or a matrix
abbrev pub value_of : Form → Option ValueType
value_of (form.Scalar s) = Some (value_type size.Scalar s)
value_of (form.Vector n s) = Some (value_type (size.Vector n) s)
value_of (form.Matrix columns rows s) = Some (value_type (size.Matrix columns rows) s)
value_of _ = None

-- the rules that accept these arguments, the first of which has this index
abbrev pub matching_rules : (place : ℕ) → List Form → List Rule → List Rule
matching_rules place [] rules = rules
matching_rules place (given ∷ more) rules = matching_rules (suc place) more (filter (accepts_if place (value_of given)) rules)

-- the result of the preferred rule: the first remaining one
abbrev pub concluded : Context → Option Rule → Result Form TypingFault
concluded c (Some rule) = ok_or (option_map (form_of c.types) (given_type rule.conclusion c.special.predeclared)) MissingSpecialType
concluded c None = Err BuiltinArgumentsInvalid

-- the arguments in order, if there is no gap between them
abbrev pub arguments : (second third fourth : Option ℕ) → (a b c d : Form) → Option (List Form)
arguments None None None a b c d = Some (a ∷ [])
arguments (Some second) None None a b c d = Some (a ∷ b ∷ [])
arguments (Some second) (Some third) None a b c d = Some (a ∷ b ∷ c ∷ [])
arguments (Some second) (Some third) (Some fourth) a b c d = Some (a ∷ b ∷ c ∷ d ∷ [])
arguments _ _ _ a b c d = None

-- a function takes exactly its number of arguments
abbrev pub math_of : Context → MathFunction → Option (List Form) → Result Form TypingFault
math_of c fun (Some given) =
    if length given == argument_count fun then concluded c (slice_get (matching_rules 0 given (math_overloads fun)) 0) else Err BuiltinArgumentsInvalid
math_of c fun None = Err BuiltinArgumentsInvalid

-- the arguments whose types determine the result: none, if there is a gap
abbrev pub math_operands : (first : ℕ) → (second third fourth : Option ℕ) → List ℕ
math_operands first None None None = first ∷ []
math_operands first (Some second) None None = first ∷ second ∷ []
math_operands first (Some second) (Some third) None = first ∷ second ∷ third ∷ []
math_operands first (Some second) (Some third) (Some fourth) = first ∷ second ∷ third ∷ fourth ∷ []
math_operands first _ _ _ = []

abbrev pub math_type : Context → MathFunction → (second third fourth : Option ℕ) → (a b c d : Form) → Result Form TypingFault
math_type context fun second third fourth a b c d = math_of context fun (arguments second third fourth a b c d)
