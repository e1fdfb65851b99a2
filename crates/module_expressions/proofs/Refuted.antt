-- An expression with an error is rejected.
use Rattle.std.proofs.Common.{◌≡◌, Option, Some, None, refl, subst}
use Rattle.module_constants.proofs.Compositions.{composition_refuted}
use Rattle.module_constants.proofs.Literals.{literal_refuted}
use Rattle.typing_errors.specs.declared.expressions.ExpressionError.{ExpressionError}
use Rattle.typing_errors.specs.declared.expressions.ExpressionError.TheVariants as error
use Rattle.module_expressions.specs.Faults.{IsPlainFault, IsFaultOf}
use Rattle.module_expressions.specs.Laws.{ExpressionRefuted}
use Rattle.ir_types.specs.judged.ExpressionPlain.{PlainExpression, compose, plain}
use Rattle.ir_types.specs.declared.expressions.Expression.{Expression}
use Rattle.ir_types.specs.declared.expressions.Expression.TheVariants as x
use Rattle.ir_kinds.specs.declared.values.Literal.{Literal}
use Rattle.spec_statements.specs.judged.Access.{literal_of}
use Rattle.spec_statements.specs.judged.Checks.{CheckOf}
use Rattle.spec_statements.specs.judged.Expressions.{RequiredOf}
use Rattle.spec_statements.specs.judged.Scene.{Scene}
use Rattle.spec_expressions.specs.judged.LiteralScalars.{LiteralOK}

-- the requirement of a literal
asked_literal : (s : Scene) (e : Expression) (value : Literal) → literal_of (plain e) ≡ Some value → CheckOf s e → LiteralOK s.capabilities value
asked_literal s (x.Literal own) value is ok = let same : own ≡ value = cc in subst (LiteralOK s.capabilities) same ok
asked_literal s _ value is ok = cc

literal_or : (s : Scene) (e : Expression) (found : Option Literal) (error : ExpressionError) → literal_of (plain e) ≡ found → IsPlainFault s e found error → CheckOf s e → ⊥
literal_or s e None error is fault ok = fault.1 ok
literal_or s e (Some value) (error.Literal f) is fault ok = literal_refuted s.capabilities value f fault (asked_literal s e value is ok)
literal_or s e (Some value) _ is fault ok = fault

fault_refuted : (s : Scene) (p : PlainExpression) (e : ExpressionError) → IsFaultOf s p e → RequiredOf s p → ⊥
fault_refuted s (plain e) error fault ok = literal_or s e (literal_of (plain e)) error refl fault ok
fault_refuted s (compose type components) (error.Compose f) fault ok = composition_refuted s.types type _ f fault ok
fault_refuted s (compose type components) _ fault ok = fault

pub expression_refuted : ExpressionRefuted
expression_refuted s handle e fault ok =
    let same : fault.expression ≡ ok.expression = (let a = fault.at in let b = ok.at in cc) in
    fault_refuted s ok.expression e (subst (λ p. IsFaultOf s p e) same fault.fault) ok.met
