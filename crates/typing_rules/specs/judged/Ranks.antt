-- Which arguments a rule accepts, and with which conversion rank.
use Rattle.std.specs.Prelude.{ℕ, List, [], ◌∷◌, Option, Some, None, Bool, true, false, ◌&&◌, not, ◌==◌, is_some, option_and_then, slice_get, if◌then◌else◌}
use Rattle.ir_kinds.specs.declared.scalars.ScalarKind.{ScalarKind}
use Rattle.ir_kinds.specs.declared.scalars.ScalarKind.TheVariants as kind
use Rattle.typing_forms.specs.IrTypes.{PlainInner}
use Rattle.typing_forms.specs.judged.Ranks.{rank}
use Rattle.typing_rules.specs.declared.rules.ValueType.{ValueType}
use Rattle.typing_rules.specs.declared.rules.Rule.{Rule}
use Rattle.typing_rules.specs.judged.Types.{constructor_place, value_type_of, argument_list}

-- ---- acceptance

-- from a type to another of the same shape
abbrev pub type_rank : ValueType → ValueType → Option ℕ
type_rank given wanted = if constructor_place given.size == constructor_place wanted.size then rank given.scalar wanted.scalar else None

-- from the argument at an index to the type that the rule requires there, if it has such an argument
abbrev pub rank_at : ℕ → ValueType → Rule → Option ℕ
rank_at place given rule = option_and_then (type_rank given) (slice_get (argument_list rule.arguments) place)

-- a rule accepts an argument if there is a conversion rank
abbrev pub accepts_if : ℕ → Option ValueType → Rule → Bool
accepts_if place o rule = elim o [ Some given ↦ is_some (rank_at place given rule) | None ↦ false ]

-- no rule accepts a type that is neither a scalar nor a vector nor a matrix
abbrev pub accepts_inner : ℕ → PlainInner → Rule → Bool
accepts_inner place given rule = accepts_if place (value_type_of given) rule

-- ---- rules without abstract arguments

abbrev pub is_abstract_kind : ScalarKind → Bool
is_abstract_kind kind.AbstractInt = true
is_abstract_kind kind.AbstractFloat = true
is_abstract_kind _ = false

abbrev pub no_abstract : List ValueType → Bool
no_abstract [] = true
no_abstract (a ∷ more) = not (is_abstract_kind a.scalar.kind) && no_abstract more

abbrev pub is_concrete : Rule → Bool
is_concrete rule = no_abstract (argument_list rule.arguments)
