-- Reads of ray queries.
use Rattle.std.specs.Prelude.{◌≡◌, List, Option, Some, None, Bool, true, IsSome, IsSomeAnd}
use Rattle.ir_types.specs.judged.Plain.{PlainInner, plain, PlainType}
use Rattle.ir_types.specs.declared.types.TypeInner.TheVariants as inner
use Rattle.spec_expressions.specs.TypingForms.{Form}
use Rattle.spec_statements.specs.judged.Shapes.{pointed_in}

-- whether a ray query has `vertex_return`
abbrev pub query_of : Option PlainInner → Option Bool
query_of o = elim o [ Some (plain (inner.RayQuery vertex_return)) ↦ Some vertex_return | _ ↦ None ]

-- a pointer to a ray query with `vertex_return`
abbrev pub VertexPositionsOK : List PlainType → (query : Form) → Type 0
VertexPositionsOK types query = IsSomeAnd (query_of (pointed_in types query)) (λ vertex_return. vertex_return ≡ true)

-- a pointer to any ray query
abbrev pub IntersectionOK : List PlainType → (query : Form) → Type 0
IntersectionOK types query = IsSome (query_of (pointed_in types query))
