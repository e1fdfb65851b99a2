-- A constant or an override with an error is rejected.
use Rattle.std.proofs.Common.{◌≡◌, ◌⊎◌, inl, inr, ℕ, List, Option, Some, None, IsSome, IsTrue, Bool, false, true≢false, refl, sym, ap, subst, ◌∙◌}
use Rattle.module_constants.specs.Constants.{IsFaultOf}
use Rattle.module_constants.specs.Overrides.{IsFaultOf as IsOverrideFaultOf}
use Rattle.module_constants.specs.Laws.{ConstantRefuted, OverrideRefuted}
use Rattle.module_constants.specs.declared.constant_error.ConstantError.{ConstantError}
use Rattle.module_constants.specs.declared.constant_error.ConstantError.TheVariants as constant_error
use Rattle.module_constants.specs.declared.override_error.OverrideError.{OverrideError}
use Rattle.module_constants.specs.declared.override_error.OverrideError.TheVariants as override_error
use Rattle.ir_items.specs.judged.GlobalPlain.{PlainConstant, PlainOverride}
use Rattle.ir_items.specs.judged.Plain.{PlainModule}
use Rattle.ir_kinds.specs.declared.scalars.Scalar.{Scalar}
use Rattle.ir_kinds.specs.declared.scalars.ScalarKind.{ScalarKind}
use Rattle.ir_kinds.specs.declared.scalars.ScalarKind.TheVariants as scalar_kind
use Rattle.ir_types.specs.judged.Plain.{PlainType, plain}
use Rattle.ir_types.specs.declared.types.TypeInner.TheVariants as inner
use Rattle.spec_expressions.specs.judged.Constants.{ConstantOK}
use Rattle.spec_expressions.specs.judged.Overrides.{DefaultOK, IsOverrideType, IsTaken, IsKnownByOverrides}
use Rattle.spec_expressions.proofs.TypingLaws.{one_type}
use Rattle.spec_expressions.specs.judged.Context.{outside}
use Rattle.spec_expressions.specs.judged.Typing.{HasGlobalType}
use Rattle.typing_layout.specs.judged.Flags.{HasFlag, Constructible, among, scalar_flags}
use Rattle.typing_layout.specs.judged.Tree.{scalar}
use Rattle.typing_layout.specs.judged.View.{type_tree, tree_along, tree_found}
use Rattle.typing_forms.specs.judged.Forms.{form_of_type}
use Rattle.typing_forms.specs.judged.Resolutions.{inner_at}
use Rattle.typing_layout.proofs.Latest.{one_kind}
use Rattle.typing_layout.specs.judged.Constness.{IsOfKind}
use Rattle.typing_layout.specs.declared.constness.ExpressionKind.TheVariants as kind

constant_wrong : (m : PlainModule) (handle : ℕ) (c : PlainConstant) (e : ConstantError) → IsFaultOf m c e → (ok : ConstantOK m handle) → ok.constant ≡ c → ⊥
constant_wrong m handle c constant_error.InitializerExprType wrong ok same =
    wrong.2 (one_kind m.global_expressions c.init wrong.0 kind.Const wrong.1 (subst (λ (x : PlainConstant). IsOfKind m.global_expressions x.init kind.Const) same ok.known))
constant_wrong m handle c constant_error.InvalidType wrong ok same =
    wrong.2 (one_type (outside m) m.global_expressions ok.constant.init wrong.0 (form_of_type m.types ok.constant.ty)
    (subst (λ (x : PlainConstant). HasGlobalType m x.init wrong.0) (sym same) wrong.1) ok.typed ∙ ap (λ (x : PlainConstant). form_of_type m.types x.ty) same)
constant_wrong m handle c constant_error.NonConstructibleType wrong ok same =
    wrong (subst (λ (x : PlainConstant). HasFlag Constructible (type_tree m.types x.ty)) same ok.composed)

pub constant_refuted : ConstantRefuted
constant_refuted m handle e wrong ok = constant_wrong m handle wrong.constant e wrong.fault ok (let a = ok.at in let b = wrong.at in cc)

-- ---- overrides

-- requirements of an override
abbrev Fine : (resolved : Bool) → PlainModule → (handle : ℕ) → PlainOverride → Type 0
Fine resolved m handle o = (IsSome o.name ⊎ IsSome o.id) × ((id : ℕ) → o.id ≡ Some id → ¬ IsTaken m.overrides handle id) × IsOverrideType m.types o.ty × DefaultOK resolved m o.ty o.init

none_is_some : {A : Type 0} (x : Option A) → x ≡ None → IsSome x → ⊥
none_is_some None e h = true≢false (sym h)
none_is_some (Some a) e h = cc

composed : (k : ScalarKind) → IsTrue (among (scalar_flags k) Constructible)
composed scalar_kind.Sint = refl
composed scalar_kind.Uint = refl
composed scalar_kind.Float = refl
composed scalar_kind.Bool = refl
composed scalar_kind.AbstractInt = refl
composed scalar_kind.AbstractFloat = refl

scalar_tree : (types : List PlainType) (handle : ℕ) (s : Scalar) → inner_at types handle ≡ Some (plain (inner.Scalar s)) → type_tree types handle ≡ scalar s
unfolding type_tree tree_along
scalar_tree types handle s at = ap (tree_found (tree_along types handle)) at

given_default : (resolved : Bool) (m : PlainModule) (ty init : ℕ) (o : Option ℕ) → o ≡ Some init → DefaultOK resolved m ty o → IsKnownByOverrides m init × HasGlobalType m init (form_of_type m.types ty)
given_default resolved m ty init o is ok = subst (DefaultOK resolved m ty) is ok

no_default : (resolved : Bool) (m : PlainModule) (ty : ℕ) (o : Option ℕ) → o ≡ None → DefaultOK resolved m ty o → resolved ≡ false
no_default resolved m ty o is ok = subst (DefaultOK resolved m ty) is ok

not_runtime : (m : PlainModule) (init : ℕ) → IsOfKind m.global_expressions init kind.Runtime → IsKnownByOverrides m init → ⊥
not_runtime m init wrong (inl h) = let e : kind.Runtime ≡ kind.Const = one_kind m.global_expressions init kind.Runtime kind.Const wrong h in cc
not_runtime m init wrong (inr h) = let e : kind.Runtime ≡ kind.Override = one_kind m.global_expressions init kind.Runtime kind.Override wrong h in cc

override_wrong : (resolved : Bool) (m : PlainModule) (handle : ℕ) (o : PlainOverride) (e : OverrideError) → IsOverrideFaultOf resolved m handle o e → Fine resolved m handle o → ⊥
override_wrong resolved m handle o override_error.MissingNameAndID wrong fine =
    elim fine.0 [ inl h ↦ none_is_some o.name wrong.0 h | inr h ↦ none_is_some o.id wrong.1 h ]
override_wrong resolved m handle o override_error.DuplicateID wrong fine = fine.1 wrong.0 wrong.1 wrong.2
override_wrong resolved m handle o override_error.InitializerExprType wrong fine = not_runtime m wrong.0 wrong.2 (given_default resolved m o.ty wrong.0 o.init wrong.1 fine.3).0
override_wrong resolved m handle o override_error.InvalidType wrong fine =
    wrong.4 (one_type (outside m) m.global_expressions wrong.0 wrong.2 (form_of_type m.types o.ty) wrong.3 (given_default resolved m o.ty wrong.0 o.init wrong.1 fine.3).1)
override_wrong resolved m handle o override_error.NonConstructibleType wrong fine =
    wrong (subst (HasFlag Constructible) (sym (scalar_tree m.types o.ty fine.2.scalar fine.2.at)) (composed fine.2.scalar.kind))
override_wrong resolved m handle o override_error.TypeNotScalar wrong fine = wrong fine.2
override_wrong resolved m handle o override_error.UninitializedOverride wrong fine =
    true≢false (sym wrong.0 ∙ no_default resolved m o.ty o.init wrong.1 fine.3)

pub override_refuted : OverrideRefuted
override_refuted resolved m handle e wrong ok =
    let same : ok.override ≡ wrong.override = (let a = ok.at in let b = wrong.at in cc) in
    override_wrong resolved m handle wrong.override e wrong.fault (subst (Fine resolved m handle) same (ok.named, ok.own, ok.scalar, ok.default))
