-- The operand types that are available.
use Rattle.std.specs.Prelude.{List, Option, Some, None, Result}
use Rattle.std.specs.Borrow.{Bor}
use Rattle.ir_types.specs.judged.Plain.{PlainType}
use Rattle.spec_expressions.specs.TypingForms.{Form, TypeResolution}
use Rattle.spec_expressions.specs.TypingForms.form as form
use Rattle.ir_types.specs.judged.ExpressionPlain.{PlainExpression}
use Rattle.spec_expressions.specs.judged.Context.{Context}
use Rattle.spec_expressions.specs.judged.Typing.{expression_rule}
use Rattle.spec_expressions.specs.declared.faults.TypingFault.{TypingFault}
use Rattle.typing_errors.specs.declared.operands.Given.{Given}
use Rattle.typing_errors.specs.Answers.{form_given}

-- the form of an operand's type, if the operand exists
abbrev pub given_form : List PlainType → Option (Bor TypeResolution) → Form
given_form types (Some r) = form_given types r.now
given_form types None = form.Nothing

-- the result of the typing rule for the expression's kind on the given operand types
abbrev pub rule_given : Context → PlainExpression → Given → Result Form TypingFault
rule_given context expression given =
    expression_rule context expression (given_form context.types given.first) (given_form context.types given.second)
    (given_form context.types given.third) (given_form context.types given.fourth)
