-- From the results of the parts of a check to its steps.
use Rattle.std.proofs.Common.{◌≡◌, ◌<◌, ℕ, Bool, zero, suc, List, [], ◌∷◌, Option, Some, None, length, slice_get, refl, arith}
use Rattle.ir_flags.specs.declared.settings.Settings.{Settings}
use Rattle.ir_items.specs.judged.Plain.{PlainModule}
use Rattle.module_context.specs.AcceptedTypes.{AreAccepted}
use Rattle.module_steps.specs.Validated.{IsFirstRefused as IsTypeRefused}
use Rattle.module_steps.specs.declared.validate.InvalidType.{InvalidType}
use Rattle.spec_expressions.specs.judged.Context.{outside}
use Rattle.judgement.specs.judged.ModuleSteps.{layout, type, typing, item_count, StepOK, StepPasses}
use Rattle.typing_layout.specs.judged.Layout.{LayoutOK}
use Rattle.typing_layout.specs.judged.Tree.{Tree}
use Rattle.typing_layout.specs.judged.View.{type_tree}
use Rattle.typing_infos.specs.Types.{AreTypes, IsUntypedFirst}
use Rattle.typing_forms.specs.declared.resolution.TypeResolution.{TypeResolution}
use Rattle.typing_layout.specs.found.Held.{AreLayouts, IsFaultOf, IsRefused}
use Rattle.typing_layout.specs.declared.error.LayoutError.{LayoutError}
use Rattle.typing_layout.specs.declared.error.LayoutErrorInner.{LayoutErrorInner}
use Rattle.typing_layout.specs.declared.error.LayoutErrorInner.TheVariants.{NonPowerOfTwoWidth, TooLarge}
use Rattle.typing_layout.specs.declared.layout.TypeLayout.{TypeLayout}
use Rattle.typing_errors.specs.Answers.{ReportsFault, fault_of, form_given}
use Rattle.typing_errors.specs.declared.resolve_error.ResolveError.{ResolveError}
use Rattle.spec_expressions.specs.declared.faults.TypingFault.{TypingFault}
use Rattle.spec_expressions.specs.judged.Typing.{HasTypeAmong}
use Rattle.typing_layout.specs.declared.info.TypeInfo.{TypeInfo}
use Rattle.typing_forms.specs.declared.form.Form.{Form}
use Rattle.spec_expressions.specs.judged.Firsts.{FailsFirst}

-- the element at an index of a list
pub there : {A : Type 0} (xs : List A) (k : ℕ) → k < length xs → (x : A) × (slice_get xs k ≡ Some x)
there [] k lt = absurd (omega (arith, lt))
there (x ∷ xs) zero lt = (x, refl)
there (x ∷ xs) (suc k) lt = there xs k (omega (arith, lt))

within : {A : Type 0} (xs : List A) (k : ℕ) (x : A) → slice_get xs k ≡ Some x → k < length xs
within [] k x e = cc (e)
within (y ∷ ys) zero x e = omega arith
within (y ∷ ys) (suc k) x e = let less = within ys k x e in omega (arith, less)

-- ---- layouts

laid_at : (m : PlainModule) (layouts : List TypeLayout) (index : ℕ) → AreLayouts m.types layouts → index < length layouts → LayoutOK (type_tree m.types index)
laid_at m layouts index held lt = let here = there layouts index lt in (held.each index here.0 here.1).ok

pub laid : (s : Settings) (resolved : Bool) (m : PlainModule) (layouts : List TypeLayout) → AreLayouts m.types layouts → length layouts ≡ length m.types → StepPasses s resolved m layout
laid s resolved m layouts held all = record { each = λ index lt. laid_at m layouts index held (omega (arith, lt, all)) }

unlaid : (t : Tree) (inner : LayoutErrorInner) → IsFaultOf t inner → LayoutOK t → ⊥
unlaid t NonPowerOfTwoWidth fault ok = fault ok.width
unlaid t TooLarge fault ok = let most = ok.in_range in absurd (omega (arith, fault, most))

pub not_laid : (s : Settings) (resolved : Bool) (m : PlainModule) (layouts : List TypeLayout) (e : LayoutError) → AreLayouts m.types layouts → IsRefused m.types layouts e → FailsFirst (item_count m layout) (StepOK s resolved m layout) e.ty
not_laid s resolved m layouts e held refused = record {
  within = refused.within;
  before = λ other lt. let next = refused.next in laid_at m layouts other held (omega (arith, lt, next));
  fails = λ ok. unlaid (type_tree m.types e.ty) e.inner refused.fault ok;
}

-- ---- types

pub told : (s : Settings) (resolved : Bool) (m : PlainModule) (infos : List TypeInfo) → AreAccepted s.capabilities resolved m.types infos → StepPasses s resolved m type
told s resolved m infos accepted = record {
  each = λ index lt. let many = accepted.many in let here = there infos index (omega (arith, lt, many)) in (accepted.each index here.0 here.1).ok;
}

pub not_told : (s : Settings) (resolved : Bool) (m : PlainModule) (e : InvalidType) → IsTypeRefused s.capabilities resolved m.types e → FailsFirst (item_count m type) (StepOK s resolved m type) e.ty
not_told s resolved m e refused = record {
  within = refused.within;
  before = refused.before;
  fails = refused.fault.not;
}

-- ---- the types of global expressions

pub typed : (s : Settings) (resolved : Bool) (m : PlainModule) (types : List TypeResolution) → AreTypes (outside m) m.global_expressions types → StepPasses s resolved m typing
typed s resolved m types are = record {
  each = λ index lt. let len = are.len in let here = there types index (omega (arith, lt, len)) in (form_given m.types here.0, are.each index here.0 here.1);
}

faulty_within : (m : PlainModule) (place : ℕ) (f : Option TypingFault) → ReportsFault (outside m) m.global_expressions place f → place < length m.global_expressions
faulty_within m place (Some f) tells = within m.global_expressions place tells.faulty.expression tells.faulty.stands
faulty_within m place None tells = absurd tells

faulty_has_none : (m : PlainModule) (place : ℕ) (f : Option TypingFault) → ReportsFault (outside m) m.global_expressions place f → (t : Form) → HasTypeAmong (outside m) m.global_expressions place t → ⊥
faulty_has_none m place (Some f) tells t typed = tells.none t typed
faulty_has_none m place None tells t typed = absurd tells

pub not_typed : (s : Settings) (resolved : Bool) (m : PlainModule) (place : ℕ) (error : ResolveError) → IsUntypedFirst (outside m) m.global_expressions place error → FailsFirst (item_count m typing) (StepOK s resolved m typing) place
not_typed s resolved m place error untyped = record {
  within = faulty_within m place (fault_of error) untyped.tells;
  before = untyped.before;
  fails = λ ok. faulty_has_none m place (fault_of error) untyped.tells ok.0 ok.1;
}
