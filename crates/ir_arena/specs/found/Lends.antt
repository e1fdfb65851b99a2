-- An arena after a mutable borrow of its values.
use Rattle.std.specs.Prelude.{◌≡◌, ℕ, List, map}
use Rattle.std.specs.Borrow.{Lends, follows, MutBor, GName, Fml, RattleType, Array}
use Rattle.ir_arena.specs.declared.span.Span.{Span}
use Rattle.ir_arena.specs.found.Arenas.{span_of_entry, with_value, with_values}
use Rattle.ir_arena.specs.contracts.arena.Arena.{the_row}
use Rattle.ir_arena.specs.contracts.spanned.Spanned as spanned

-- once the borrow r ends, the handle has the value last written through r
abbrev pub LendsValue : (T K : RattleType) → MutBor (List (T.Denot × Span)) → ℕ → MutBor T.Denot → Fml
LendsValue T K a handle r = Lends (the_row T K) T a r (with_value a.now handle)

-- once the loan with this identifier ends, the arena has the values last written through it
abbrev pub LendsValues : (T K : RattleType) → MutBor (List (T.Denot × Span)) → GName → Fml
LendsValues T K a name = follows (the_row T K) (Array T 0) a.ghost_name name (with_values a.now)

-- writes to the values keep the number of spans, and the spans
abbrev pub KeepsSpans : {T : Type 0} → List (T × Span) → Type 0
KeepsSpans {T} entries = (values : List T) → map span_of_entry (with_values entries values) ≡ map span_of_entry entries

-- the same for values with their spans
abbrev pub LendsOne : (T : RattleType) → MutBor (List (T.Denot × Span)) → ℕ → MutBor T.Denot → Fml
LendsOne T s place r = Lends (spanned.the_row T) T s r (with_value s.now place)

-- once the borrow r ends, the values are those last written through r
abbrev pub LendsAll : (T : RattleType) → MutBor (List (T.Denot × Span)) → MutBor (List T.Denot) → Fml
LendsAll T s r = Lends (spanned.the_row T) (Array T 0) s r (with_values s.now)
