-- A global expression with an error is rejected.
use Rattle.std.proofs.Common.{◌≡◌, Bool, ap, subst, ◌∙◌}
use Rattle.module_constants.proofs.Compositions.{components_refuted}
use Rattle.module_constants.proofs.Literals.{literal_refuted}
use Rattle.module_constants.specs.Laws.{ExpressionRefuted}
use Rattle.typing_errors.specs.declared.const_expressions.ConstExpressionError.TheVariants as error
use Rattle.ir_types.specs.judged.ExpressionPlain.{PlainExpression}
use Rattle.ir_flags.specs.declared.settings.Capabilities.{Capabilities}
use Rattle.ir_items.specs.judged.Plain.{PlainModule}
use Rattle.spec_expressions.specs.judged.GlobalExpressions.{GlobalRequirement, of_literal, of_composition, must_be_folded, required_of, IsMet, MayWait}
use Rattle.spec_expressions.specs.judged.Context.{outside}
use Rattle.typing_layout.proofs.Latest.{one_kind}
use Rattle.typing_layout.specs.declared.constness.ExpressionKind.{ExpressionKind}
use Rattle.typing_layout.specs.declared.constness.ExpressionKind.TheVariants.{Runtime}

met_as : (capabilities : Capabilities) (resolved : Bool) (m : PlainModule) (kind : ExpressionKind) (e d : PlainExpression) (a : GlobalRequirement) → e ≡ d → required_of d ≡ a → IsMet capabilities resolved m kind (required_of e) → IsMet capabilities resolved m kind a
met_as capabilities resolved m kind e d a same is met = subst (IsMet capabilities resolved m kind) (ap required_of same ∙ is) met

pub expression_refuted : ExpressionRefuted
expression_refuted capabilities resolved m handle error.NonConstOrOverride wrong ok =
    ok.known (one_kind m.global_expressions handle ok.kind Runtime ok.of_kind wrong)
expression_refuted capabilities resolved m handle error.NonFullyEvaluatedConst wrong ok =
    let same : ok.expression ≡ wrong.expression = (let a = ok.at in let b = wrong.at in cc) in
    let kinds : ok.kind ≡ wrong.kind = one_kind m.global_expressions handle ok.kind wrong.kind ok.of_kind wrong.of_kind in
    wrong.due (subst (MayWait resolved) kinds (met_as capabilities resolved m ok.kind ok.expression wrong.expression must_be_folded same wrong.is ok.met))
expression_refuted capabilities resolved m handle (error.Compose e) wrong ok =
    let same : ok.expression ≡ wrong.expression = (let a = ok.at in let b = wrong.at in cc) in
    components_refuted (outside m) m.global_expressions wrong.type wrong.components e wrong.fault
    (met_as capabilities resolved m ok.kind ok.expression wrong.expression (of_composition wrong.type wrong.components) same wrong.is ok.met)
expression_refuted capabilities resolved m handle (error.Literal e) wrong ok =
    let same : ok.expression ≡ wrong.expression = (let a = ok.at in let b = wrong.at in cc) in
    literal_refuted capabilities wrong.value e wrong.fault (met_as capabilities resolved m ok.kind ok.expression wrong.expression (of_literal wrong.value) same wrong.is ok.met)
expression_refuted capabilities resolved m handle (error.Typing e) wrong ok = wrong
expression_refuted capabilities resolved m handle error.Other wrong ok = wrong
