-- Uniform loads from workgroup memory.
use Rattle.std.specs.Prelude.{◌≡◌, ◌⊎◌, ℕ, List, Option, Some, None, IsSomeAnd, option_and_then, slice_get}
use Rattle.ir_types.specs.judged.ExpressionPlain.{PlainExpression, plain}
use Rattle.ir_types.specs.declared.expressions.Expression.TheVariants as x
use Rattle.ir_kinds.specs.declared.spaces.AddressSpace.TheVariants.{WorkGroup}
use Rattle.ir_types.specs.judged.Plain.{PlainType}
use Rattle.spec_expressions.specs.TypingForms.{form_of_type, Form}
use Rattle.spec_expressions.specs.TypingForms.form as form
use Rattle.spec_expressions.specs.judged.Access.{pointer_to}
use Rattle.spec_statements.specs.judged.Atomics.{changed_scalar}
use Rattle.spec_statements.specs.judged.BlockContext.{BlockContext, form_at}
use Rattle.spec_statements.specs.judged.Stores.{pointer_space}

-- the type that a `WorkGroupUniformLoadResult` declares
abbrev pub loaded_type : PlainExpression → Option ℕ
loaded_type e = elim e [ plain (x.WorkGroupUniformLoadResult type) ↦ Some type | _ ↦ None ]

-- a pointer to the result type, or to an atomic of it, because WGSL's `workgroupUniformLoad` of an atomic gives its value
abbrev pub LeadsTo : List PlainType → (pointer : Form) → (type : ℕ) → Type 0
LeadsTo types pointer type =
    (pointer ≡ pointer_to types type WorkGroup) ⊎ IsSomeAnd (changed_scalar types pointer) (λ s. form_of_type types type ≡ form.Scalar s)

-- The pointer points to workgroup memory of the result type.
pub record UniformLoadStatementOK (c : BlockContext) (pointer result : ℕ) : Type 0 where
  pub space : pointer_space (form_at c pointer) ≡ Some WorkGroup
  pub answered : IsSomeAnd (option_and_then loaded_type (slice_get c.f.expressions result)) (LeadsTo c.m.types (form_at c pointer))
