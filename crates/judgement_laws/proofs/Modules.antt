-- The steps before the check of functions have the same results if functions have other bodies.
use Rattle.std.proofs.Common.{◌≡◌, ℕ, Bool, Option, Some, None, List, refl, sym, subst}
use Rattle.std.specs.Prelude.{◌<◌, length}
use Rattle.ir_flags.specs.declared.settings.Capabilities.{Capabilities}
use Rattle.ir_flags.specs.declared.settings.ValidationFlags.{ValidationFlags}
use Rattle.ir_flags.specs.declared.settings.Settings.{Settings}
use Rattle.ir_items.specs.judged.GlobalPlain.{PlainGlobal}
use Rattle.ir_items.specs.judged.Plain.{PlainFunction, PlainEntry, PlainModule}
use Rattle.typing_forms.specs.declared.form.Form.{Form}
use Rattle.typing_layout.specs.declared.constness.ExpressionKind.{ExpressionKind}
use Rattle.spec_expressions.specs.judged.Compose.{ComponentsOK}
use Rattle.spec_expressions.specs.judged.Constants.{ConstantOK}
use Rattle.spec_expressions.specs.judged.Context.{outside}
use Rattle.spec_expressions.specs.judged.GlobalExpressions.{GlobalRequirement, of_literal, of_composition, of_value, must_be_folded, required_of, IsMet, GlobalExpressionOK}
use Rattle.spec_expressions.specs.judged.Overrides.{DefaultOK, OverrideOK}
use Rattle.spec_expressions.specs.judged.Typing.{HasGlobalType}
use Rattle.spec_interface.specs.judged.Globals.{GlobalOK, GlobalsOK}
use Rattle.spec_interface.specs.found.Variables.{BeginsOK, VariableOK}
use Rattle.judgement.specs.judged.ModuleSteps.{ModuleStep, layout, type, typing, expression, constant, override, item_count, StepOK, StepPasses, ModuleOK, IsFirstFailing}
use Rattle.judgement_laws.specs.judged.Like.{LikeModule}
use Rattle.judgement_laws.proofs.Handles.{handles_move}
use Rattle.judgement_laws.proofs.Likeness.{module_back}
use Rattle.judgement_laws.proofs.Shared.{if_some_moves}
use Rattle.judgement_laws.proofs.Typing.{SameResults, same_results, typed_moves}
use Rattle.spec_expressions.specs.judged.Firsts.{FailsFirst}

module _ (m : PlainModule) (functions : List PlainFunction) (entries : List PlainEntry) (same : SameResults m.functions functions) where
  abbrev n : PlainModule
  n = record m { functions = functions; entries = entries }

  global_typed : (e : ℕ) (t : Form) → HasGlobalType m e t → HasGlobalType n e t
  global_typed e t h = typed_moves (outside m) functions same m.global_expressions e t h

  -- ---- global expressions, constants and overrides

  components : (t : ℕ) (parts : List ℕ) → ComponentsOK (outside m) m.global_expressions t parts → ComponentsOK (outside n) n.global_expressions t parts
  components t parts h = record { form = h.form; typed = λ e among. global_typed e (h.form e) (h.typed e among); made = h.made }

  met : (capabilities : Capabilities) (resolved : Bool) (kind : ExpressionKind) (a : GlobalRequirement) → IsMet capabilities resolved m kind a → IsMet capabilities resolved n kind a
  met capabilities resolved kind (of_literal value) h = h
  met capabilities resolved kind (of_composition t parts) h = components t parts h
  met capabilities resolved kind of_value h = h
  met capabilities resolved kind must_be_folded h = h

  expression_ok : (capabilities : Capabilities) (resolved : Bool) (i : ℕ) → GlobalExpressionOK capabilities resolved m i → GlobalExpressionOK capabilities resolved n i
  expression_ok capabilities resolved i h =
      record { expression = h.expression; at = h.at; kind = h.kind; of_kind = h.of_kind; known = h.known; met = met capabilities resolved h.kind (required_of h.expression) h.met }

  constant_ok : (i : ℕ) → ConstantOK m i → ConstantOK n i
  constant_ok i h = record { constant = h.constant; at = h.at; composed = h.composed; known = h.known; typed = global_typed _ _ h.typed }

  default_ok : (resolved : Bool) (t : ℕ) (o : Option ℕ) → DefaultOK resolved m t o → DefaultOK resolved n t o
  default_ok resolved t None h = h
  default_ok resolved t (Some init) h = (h.0, global_typed init _ h.1)

  override_ok : (resolved : Bool) (i : ℕ) → OverrideOK resolved m i → OverrideOK resolved n i
  override_ok resolved i h = record {
    override = h.override;
    at = h.at;
    named = h.named;
    own = h.own;
    scalar = h.scalar;
    default = default_ok resolved h.override.ty h.override.init h.default;
  }

  step_ok : (s : Settings) (resolved : Bool) (step : ModuleStep) (i : ℕ) → StepOK s resolved m step i → StepOK s resolved n step i
  step_ok s resolved layout i h = h
  step_ok s resolved type i h = h
  step_ok s resolved typing i h = (h.0, global_typed i h.0 h.1)
  step_ok s resolved expression i h = λ flag. expression_ok s.capabilities resolved i (h flag)
  step_ok s resolved constant i h = λ flag. constant_ok i (h flag)
  step_ok s resolved override i h = λ flag. override_ok resolved i (h flag)

  count_is : (step : ModuleStep) → item_count n step ≡ item_count m step
  count_is layout = refl
  count_is type = refl
  count_is typing = refl
  count_is expression = refl
  count_is constant = refl
  count_is override = refl

  -- ---- global variables

  begins : (v : PlainGlobal) (init : ℕ) → BeginsOK m v.space v.ty init → BeginsOK n v.space v.ty init
  begins v init h = record { own = h.own; known = h.known; typed = global_typed init _ h.typed }

  variable_ok : (flags : ValidationFlags) (capabilities : Capabilities) (v : PlainGlobal) → VariableOK flags capabilities m v → VariableOK flags capabilities n v
  variable_ok flags capabilities v h = record {
    arrays = h.arrays;
    needed = h.needed;
    lies = h.lies;
    used = h.used;
    bound = h.bound;
    decorated = h.decorated;
    begins = if_some_moves (BeginsOK m v.space v.ty) (BeginsOK n v.space v.ty) v.init (begins v) h.begins;
  }

  global_ok : (flags : ValidationFlags) (capabilities : Capabilities) (i : ℕ) → GlobalOK flags capabilities m i → GlobalOK flags capabilities n i
  global_ok flags capabilities i h = record { variable = h.variable; at = h.at; ok = variable_ok flags capabilities h.variable h.ok }

-- ---- over the relation

module _ (m n : PlainModule) (l : LikeModule m n) where
  same : SameResults m.functions n.functions
  same = same_results m.functions n.functions l.functions

  step_move : (s : Settings) (resolved : Bool) (step : ModuleStep) (i : ℕ) → StepOK s resolved m step i → StepOK s resolved n step i
  step_move s resolved step i h = subst (λ z. StepOK s resolved z step i) (sym l.rest) (step_ok m n.functions n.entries same s resolved step i h)

  within_move : (step : ModuleStep) (i : ℕ) → i < item_count m step → i < item_count n step
  within_move step i h = subst (λ z. i < item_count z step) (sym l.rest) (subst (λ k. i < k) (sym (count_is m n.functions n.entries same step)) h)

  global_move : (flags : ValidationFlags) (capabilities : Capabilities) (i : ℕ) → GlobalOK flags capabilities m i → GlobalOK flags capabilities n i
  global_move flags capabilities i h = subst (λ z. GlobalOK flags capabilities z i) (sym l.rest) (global_ok m n.functions n.entries same flags capabilities i h)

passes_move : (m n : PlainModule) → LikeModule m n → (s : Settings) (resolved : Bool) (step : ModuleStep) → StepPasses s resolved m step → StepPasses s resolved n step
passes_move m n l s resolved step h = record { each = λ i within. step_move m n l s resolved step i (h.each i (within_move n m (module_back l) step i within)) }

pub module_move : (m n : PlainModule) → LikeModule m n → (s : Settings) (resolved : Bool) → ModuleOK s resolved m → ModuleOK s resolved n
module_move m n l s resolved h = record { handles = handles_move m n l h.handles; steps = λ step. passes_move m n l s resolved step (h.steps step) }

pub first_move : (m n : PlainModule) → LikeModule m n → (s : Settings) (resolved : Bool) (step : ModuleStep) (i : ℕ) → IsFirstFailing s resolved m step i → IsFirstFailing s resolved n step i
first_move m n l s resolved step i h = record {
  reached = record { handles = handles_move m n l h.reached.handles; earlier = λ other before. passes_move m n l s resolved other (h.reached.earlier other before) };
  item = record {
    within = within_move m n l step i h.item.within;
    before = λ other less. step_move m n l s resolved step other (h.item.before other less);
    fails = λ ok. h.item.fails (step_move n m (module_back l) s resolved step i ok);
  };
}

pub globals_move : (m n : PlainModule) → LikeModule m n → (flags : ValidationFlags) (capabilities : Capabilities) → GlobalsOK flags capabilities m → GlobalsOK flags capabilities n
globals_move m n l flags capabilities h i within = global_move m n l flags capabilities i (h i (subst (λ z. i < length z.globals) l.rest within))

pub first_global_move : (m n : PlainModule) → LikeModule m n → (flags : ValidationFlags) (capabilities : Capabilities) (i : ℕ)
    → FailsFirst (length m.globals) (GlobalOK flags capabilities m) i → FailsFirst (length n.globals) (GlobalOK flags capabilities n) i
first_global_move m n l flags capabilities i h = record {
  within = subst (λ z. i < length z.globals) (sym l.rest) h.within;
  before = λ other less. global_move m n l flags capabilities other (h.before other less);
  fails = λ ok. h.fails (global_move n m (module_back l) flags capabilities i ok);
}
