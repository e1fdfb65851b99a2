-- The check of a global variable, from those of its parts.
use Rattle.std.proofs.Common.{◌≡◌, ◌<◌, ℕ, List, map, length, Option, Some, None, option_map, unwrap_or, IfSome, Result, Ok, Err, MatchResult, refl, sym, ap, subst, ◌∙◌, slice_get}
use Rattle.std.proofs.lemmas.Option.{slice_get-map}
use Rattle.module_globals.proofs.Arrays.{base_there}
use Rattle.module_globals.specs.Faults.{IsBeginFault, IsWrong, IsWrongBy, IsGlobalFault}
use Rattle.module_globals.specs.Initializers.{HasFormOf, IsInitializer, IsTypedBy}
use Rattle.module_globals.specs.declared.context.Initializer.{Initializer}
use Rattle.module_globals.specs.declared.error.GlobalVariableError.{GlobalVariableError}
use Rattle.module_globals.specs.declared.error.GlobalVariableError.TheVariants as error
use Rattle.ir_arena.specs.found.Arenas.{value_at, value_of_entry}
use Rattle.ir_arena.specs.declared.span.Span.{Span}
use Rattle.ir_flags.specs.declared.settings.Capabilities.{Capabilities}
use Rattle.ir_flags.specs.declared.settings.ValidationFlags.{ValidationFlags}
use Rattle.ir_items.specs.judged.GlobalPlain.{PlainGlobal}
use Rattle.ir_items.specs.found.GlobalView.{values_of}
use Rattle.ir_items.specs.judged.Plain.{PlainModule}
use Rattle.ir_kinds.specs.declared.spaces.AddressSpace.{AddressSpace}
use Rattle.ir_types.specs.judged.Plain.{PlainType}
use Rattle.spec_interface.specs.judged.Globals.{BeginsBy, VariableBy, GlobalOK}
use Rattle.spec_interface.specs.found.Variables.{VariableOK}
use Rattle.spec_interface.specs.judged.Spaces.{array_base, effective_type}
use Rattle.typing_forms.specs.judged.Forms.{form_of_type}
use Rattle.typing_forms.specs.judged.Order.{TypesGoBack}
use Rattle.typing_forms.specs.judged.Resolutions.{inner_at}
use Rattle.typing_forms.specs.declared.form.Form.{Form}

counted_by : (types : List PlainType) → TypesGoBack types → (type : ℕ) → type < length types → (o : Option ℕ) → array_base (inner_at types type) ≡ o → unwrap_or o type < length types
counted_by types back type within None e = within
counted_by types back type within (Some base) e = base_there types back type base within e

pub counted_there : (types : List PlainType) → TypesGoBack types → (type : ℕ) → type < length types → effective_type types type < length types
counted_there types back type within = counted_by types back type within (array_base (inner_at types type)) refl

pub global_found : {T View : Type 0} (view : T → View) (entries : List (T × Span)) (h : ℕ) (v : T) → Some v ≡ value_at entries h → slice_get (map view (values_of entries)) h ≡ Some (view v)
global_found view entries h v at = slice_get-map view (values_of entries) h ∙ ap (option_map view) (slice_get-map value_of_entry entries h ∙ sym at)

module _ (HasForm : (expression : ℕ) → Form → Type 0) (flags : ValidationFlags) (capabilities : Capabilities) (m : PlainModule) (v : PlainGlobal) where
  begin_wrong : (e : ℕ) → v.init ≡ Some e → (x : GlobalVariableError) → IsBeginFault HasForm m v.space v.ty e x → IsWrongBy HasForm flags capabilities m v x
  begin_wrong e is error.InitializerExprType f = (e, is, f)
  begin_wrong e is error.InitializerType f = (e, is, f)
  begin_wrong e is (error.InitializerNotAllowed s) f = (e, is, f)
  begin_wrong e is _ f = absurd f

  pub begun : (e : ℕ) → v.init ≡ Some e → (IfSome v.init (BeginsBy HasForm m v.space v.ty) → VariableBy HasForm flags capabilities m v) → (r : Result (Unit {0}) GlobalVariableError)
      → MatchResult r (λ _. BeginsBy HasForm m v.space v.ty e) (IsBeginFault HasForm m v.space v.ty e) → MatchResult r (λ _. VariableBy HasForm flags capabilities m v) (IsWrongBy HasForm flags capabilities m v)
  begun e is ok (Ok u) h = ok (subst (λ o. IfSome o (BeginsBy HasForm m v.space v.ty)) (sym is) h)
  begun e is ok (Err x) h = begin_wrong e is x h

-- the initializer, if the variable has one
pub there_is : (m : PlainModule) (init : Option ℕ) (i : Initializer) → IsInitializer m init (Some i) → (e : ℕ) × (init ≡ Some e)
there_is m (Some e) i given = (e, refl)
there_is m None i given = absurd given

pub there_is_none : (m : PlainModule) (init : Option ℕ) → IsInitializer m init None → init ≡ None
there_is_none m None given = refl
there_is_none m (Some e) given = absurd given

-- ---- from the form of the initializer to a typing that gives it this form

module _ (HasForm : (expression : ℕ) → Form → Type 0) (one : (e : ℕ) (s t : Form) → HasForm e s → HasForm e t → s ≡ t) (m : PlainModule) where
  begins_by : (space : AddressSpace) (type e : ℕ) (given : Option Initializer) → IsTypedBy HasForm (Some e) given → BeginsBy (HasFormOf given) m space type e → BeginsBy HasForm m space type e
  begins_by space type e (Some i) typed b = record { own = b.own; known = b.known; typed = subst (HasForm e) b.typed typed }
  begins_by space type e None typed b = absurd b.typed

  begins_if : (space : AddressSpace) (type : ℕ) (init : Option ℕ) (given : Option Initializer) → IsTypedBy HasForm init given → IfSome init (BeginsBy (HasFormOf given) m space type) → IfSome init (BeginsBy HasForm m space type)
  begins_if space type (Some e) given typed b = begins_by space type e given typed b
  begins_if space type None given typed b = tt

  untyped_by : (e : ℕ) (t : Form) (given : Option Initializer) → IsInitializer m (Some e) given → IsTypedBy HasForm (Some e) given → ¬ HasFormOf given e t → ¬ HasForm e t
  untyped_by e t (Some i) there typed not h = not (one e i.form t typed h)
  untyped_by e t None there typed not h = absurd there

  module _ (flags : ValidationFlags) (capabilities : Capabilities) (v : PlainGlobal) (given : Option Initializer) (there : IsInitializer m v.init given) (typed : IsTypedBy HasForm v.init given) where
    wrong_by : (x : GlobalVariableError) → IsWrongBy (HasFormOf given) flags capabilities m v x → IsWrongBy HasForm flags capabilities m v x
    wrong_by (error.InvalidUsage s) w = w
    wrong_by (error.InvalidType s) w = w
    wrong_by (error.InvalidBindingArray base) w = w
    wrong_by (error.MissingTypeFlags asked seen) w = w
    wrong_by (error.UnsupportedCapability c) w = w
    wrong_by error.InvalidBinding w = w
    wrong_by (error.Alignment s type d) w = w
    wrong_by error.InitializerExprType w = w
    wrong_by error.InitializerType w =
        (w.0, w.1, untyped_by w.0 (form_of_type m.types v.ty) given (subst (λ o. IsInitializer m o given) w.1 there) (subst (λ o. IsTypedBy HasForm o given) w.1 typed) w.2)
    wrong_by (error.InitializerNotAllowed s) w = w
    wrong_by error.StorageAddressSpaceWriteOnlyNotSupported w = w
    wrong_by (error.InvalidImmediateType e) w = w
    wrong_by error.ZeroSizedTaskPayload w = w
    wrong_by error.InvalidMemoryDecorationsAddressSpace w = w
    wrong_by error.CoherentNotSupported w = w
    wrong_by error.VolatileNotSupported w = w

    pub variable_by : (r : Result (Unit {0}) GlobalVariableError) → MatchResult r (λ _. VariableBy (HasFormOf given) flags capabilities m v) (IsWrongBy (HasFormOf given) flags capabilities m v)
        → MatchResult r (λ _. VariableBy HasForm flags capabilities m v) (IsWrongBy HasForm flags capabilities m v)
    variable_by (Ok u) h = record {
      arrays = h.arrays;
      needed = h.needed;
      lies = h.lies;
      used = h.used;
      bound = h.bound;
      decorated = h.decorated;
      begins = begins_if v.space v.ty v.init given typed h.begins;
    }
    variable_by (Err x) h = wrong_by x h

module _ (flags : ValidationFlags) (capabilities : Capabilities) (m : PlainModule) (v : PlainGlobal) where
  pub at_handle : (handle : ℕ) → slice_get m.globals handle ≡ Some v → (r : Result (Unit {0}) GlobalVariableError)
      → MatchResult r (λ _. VariableOK flags capabilities m v) (IsWrong flags capabilities m v) → MatchResult r (λ _. GlobalOK flags capabilities m handle) (IsGlobalFault flags capabilities m handle)
  at_handle handle at (Ok u) h = record { variable = v; at = at; ok = h }
  at_handle handle at (Err x) h = record { variable = v; at = at; wrong = h }
