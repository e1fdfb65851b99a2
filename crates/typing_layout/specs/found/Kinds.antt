-- The kind of an expression, given those of the earlier expressions.
use Rattle.std.specs.Prelude.{ℕ, List, map, slice_get, unwrap_or}
use Rattle.typing_layout.specs.judged.Constness.{Origin, own, latest_of, latest}
use Rattle.typing_layout.specs.declared.constness.ExpressionKind.{ExpressionKind}
use Rattle.typing_layout.specs.declared.constness.ExpressionKind.TheVariants.{Runtime}

-- the tracked kind of an expression
abbrev pub known_kind : List ExpressionKind → ℕ → ExpressionKind
known_kind kinds handle = unwrap_or (slice_get kinds handle) Runtime

abbrev pub kind_by : List ExpressionKind → Origin → ExpressionKind
kind_by kinds (own k) = k
kind_by kinds (latest_of operands) = latest (map (known_kind kinds) operands)
