use Rattle.std.proofs.Common.{◌≡◌, ◌↔◌, Bool, IsTrue, subst}
use Rattle.module_context.proofs.Refusals.{by_test}
use Rattle.spec_statements.specs.judged.CooperativeMatrices.{MultiplyAddOK}
use Rattle.typing_forms.specs.declared.form.Form.{Form}
use Rattle.module_expression_checks.proofs.cooperative_matrices.check_multiply_add.Goals as goal

product_of : (a b c x y z : Form) (r : Bool) → a ≡ x → b ≡ y → c ≡ z → IsTrue r ↔ MultiplyAddOK a b c → IsTrue r ↔ MultiplyAddOK x y z
product_of a b c x y z r p q s is =
    subst (λ t. IsTrue r ↔ MultiplyAddOK x y t) s (subst (λ t. IsTrue r ↔ MultiplyAddOK x t c) q (subst (λ t. IsTrue r ↔ MultiplyAddOK t b c) p is))

pub returns : goal.returns
returns c =
    by_test _ c.is_product.result c.refused_unless.result (product_of _ _ _ _ _ _ _ c.form_at-a.ensures c.form_at-b.ensures c.form_at-c.ensures c.is_product.ensures) c.refused_unless.ensures
