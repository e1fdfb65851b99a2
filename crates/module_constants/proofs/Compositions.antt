-- Component types with an error don't compose a value.
use Rattle.std.proofs.Common.{◌≡◌, inl, inr, ℕ, List, [], ◌∷◌, None, map, refl, subst}
use Rattle.module_constants.specs.Laws.{CompositionRefuted, ComponentsRefuted}
use Rattle.typing_errors.specs.declared.compose.ComposeError.TheVariants as compose
use Rattle.typing_rules.specs.judged.Laws.{IsAmong}
use Rattle.spec_expressions.specs.judged.Compose.{IsComposedOf, ComposeOK}
use Rattle.spec_expressions.proofs.TypingLaws.{one_type}
use Rattle.typing_forms.specs.declared.form.Form.{Form}
use Rattle.typing_forms.specs.judged.Parts.{components_of}

pub composition_refuted : CompositionRefuted
composition_refuted types type forms (compose.Typing ty) wrong ok =
    let none : components_of ok.i ≡ None = wrong.1 ok.i ok.at in let whole = ok.made.whole in cc
composition_refuted types type forms (compose.ComponentCount given expected) wrong ok =
    let same : ok.i ≡ wrong.i = (let a = ok.at in let b = wrong.at in cc) in
    let made : IsComposedOf types wrong.i forms = subst (λ i. IsComposedOf types i forms) same ok.made in
    wrong.other (let a = made.whole in let b = wrong.has in cc)
composition_refuted types type forms (compose.ComponentType index) wrong ok =
    let same : ok.i ≡ wrong.i = (let a = ok.at in let b = wrong.at in cc) in
    let made : IsComposedOf types wrong.i forms = subst (λ i. IsComposedOf types i forms) same ok.made in
    wrong.unfit (made.fit wrong.place wrong.f wrong.stands)

same_forms : (p q : ℕ → Form) (components : List ℕ) → ((c : ℕ) → IsAmong c components → p c ≡ q c) → map p components ≡ map q components
same_forms p q [] same = refl
same_forms p q (c ∷ cs) same = let here : p c ≡ q c = same c (inl refl) in let rest : map p cs ≡ map q cs = same_forms p q cs (λ d h. same d (inr h)) in cc

pub components_refuted : ComponentsRefuted
components_refuted context expressions type components e wrong ok =
    let same : map ok.form components ≡ map wrong.form components =
    same_forms ok.form wrong.form components (λ c among. one_type context expressions c (ok.form c) (wrong.form c) (ok.typed c among) (wrong.typed c among)) in
    composition_refuted context.types type (map wrong.form components) e wrong.fault (subst (ComposeOK context.types type) same ok.made)
