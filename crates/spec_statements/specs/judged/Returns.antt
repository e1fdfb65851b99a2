-- Return values.
use Rattle.std.specs.Prelude.{◌≡◌, ℕ, Option, Some, None, IsSomeAnd}
use Rattle.spec_expressions.specs.TypingForms.{form_of_type}
use Rattle.spec_statements.specs.judged.BlockContext.{BlockContext, form_at}

-- a value exactly if the function has a result, and of its type
abbrev pub ReturnOK : BlockContext → (value : Option ℕ) → Type 0
ReturnOK c o = elim o [ None ↦ c.f.result ≡ None | Some value ↦ IsSomeAnd c.f.result (λ r. form_at c value ≡ form_of_type c.m.types r.ty) ]
