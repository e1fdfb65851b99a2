-- When the handles of a function are valid. That filters come after their parents is `ParentsPrecede` of `ir_items`.
use Rattle.std.specs.Prelude.{◌≡◌, ℕ, ◌<◌, List, Some, All, slice_get}
use Rattle.typing_layout.specs.IrTypes.{PlainExpression}
use Rattle.ir_items.specs.judged.Plain.{PlainFunction, PlainModule}
use Rattle.spec_expressions.specs.judged.ExpressionNames.{expression_operands}
use Rattle.spec_expressions.specs.judged.References.{Site, Named, item, Names, IsThere}
use Rattle.spec_expressions.specs.declared.target.Target.TheVariants.{Function}

-- each item that a part of the function refers to exists
abbrev pub HandlesInRange : PlainModule → PlainFunction → Type 0
HandlesInRange m f = (site : Site) (named : Named) → Names f site named → IsThere m f named

-- the operands of each of these expressions precede it
abbrev pub OperandsPrecede : List PlainExpression → Type 0
OperandsPrecede expressions =
    (place : ℕ) (x : PlainExpression) → slice_get expressions place ≡ Some x → All (λ operand. operand < place) (expression_operands x)

-- Each function that a part of the function refers to, by a call or by a call result, is one of this many first functions of the
-- module.
abbrev pub CalleesPrecede : (before : ℕ) → PlainFunction → Type 0
CalleesPrecede before f = (site : Site) (callee : ℕ) → Names f site (item (Function callee)) → callee < before
