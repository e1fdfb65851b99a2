-- Laws of the rules that remain of a function's table.
use Rattle.std.specs.Prelude.{◌≡◌, ◌≤◌, ◌⊎◌, ℕ, List, [], ◌∷◌, Some, Bool, All, filter, length, slice_get}
use Rattle.ir_kinds.specs.judged.Maths.{argument_count}
use Rattle.ir_kinds.specs.declared.maths.MathFunction.{MathFunction}
use Rattle.typing_forms.specs.IrTypes.{PlainInner}
use Rattle.typing_rules.specs.declared.rules.Rule.{Rule}
use Rattle.typing_rules.specs.declared.rules.ValueType.{ValueType}
use Rattle.typing_rules.specs.judged.Types.{value_type_of, argument_list}
use Rattle.typing_rules.specs.judged.Ranks.{rank_at, accepts_inner, is_concrete}
use Rattle.typing_rules.specs.judged.MathTable.{math_overloads}

-- a filter on rules: they accept an argument of this type at an index, or they have no abstract argument
pub data Demand : Type 0 where
  supplied : (place : ℕ) → (given : PlainInner) → Demand
  concrete : Demand

abbrev pub meets : Demand → Rule → Bool
meets (supplied place given) rule = accepts_inner place given rule
meets concrete rule = is_concrete rule

-- the rules that remain after the filters, one after another
abbrev pub left_by : List Demand → List Rule → List Rule
left_by [] rules = rules
left_by (demand ∷ more) rules = left_by more (filter (meets demand) rules)

abbrev pub IsAmong : {A : Type 0} → A → List A → Type 0
IsAmong x [] = ⊥
IsAmong x (y ∷ ys) = (y ≡ x) ⊎ IsAmong x ys

-- after any filters on the rules of a function: at no supplied argument a remaining rule has a smaller rank than the first one
abbrev pub PreferredIsBest : Type 0
PreferredIsBest = (function : MathFunction) (demands : List Demand) (preferred other : Rule)
    → slice_get (left_by demands (math_overloads function)) 0 ≡ Some preferred → IsAmong other (left_by demands (math_overloads function))
    → (place : ℕ) (given : PlainInner) → IsAmong (supplied place given) demands
    → (type : ValueType) (x y : ℕ) → value_type_of given ≡ Some type → rank_at place type preferred ≡ Some x → rank_at place type other ≡ Some y → x ≤ y

-- two filters leave the same rules in either order
abbrev pub DemandsCommute : Type 0
DemandsCommute = (a b : Demand) (rules : List Rule) → filter (meets b) (filter (meets a) rules) ≡ filter (meets a) (filter (meets b) rules)

-- a repeated filter changes nothing
abbrev pub DemandsRepeat : Type 0
DemandsRepeat = (a : Demand) (rules : List Rule) → filter (meets a) (filter (meets a) rules) ≡ filter (meets a) rules

-- the number of arguments of a rule
abbrev pub arity : Rule → ℕ
arity rule = length (argument_list rule.arguments)

-- each rule of a function has as many arguments as the function
abbrev pub ArgumentCounts : Type 0
ArgumentCounts = (function : MathFunction) → All (λ rule. arity rule ≡ argument_count function) (math_overloads function)
