-- The kind and form of a global variable's initializer.
use Rattle.std.specs.Prelude.{◌≡◌, ◌↔◌, ℕ, IsTrue, Option, Some, None}
use Rattle.module_globals.specs.declared.context.Initializer.{Initializer}
use Rattle.ir_items.specs.judged.Plain.{PlainModule}
use Rattle.spec_expressions.specs.judged.Overrides.{IsKnownByOverrides}
use Rattle.typing_forms.specs.declared.form.Form.{Form}

-- the typing that gives every expression the form of this initializer's type
abbrev pub HasFormOf : Option Initializer → (expression : ℕ) → Form → Type 0
HasFormOf (Some i) expression form = i.form ≡ form
HasFormOf None expression form = ⊥

-- it is present if the variable has an initializer, and its kind is correct
abbrev pub IsInitializer : PlainModule → Option ℕ → Option Initializer → Type 0
IsInitializer m None None = Unit {0}
IsInitializer m (Some e) (Some i) = IsTrue i.is_known ↔ IsKnownByOverrides m e
IsInitializer m None (Some i) = ⊥
IsInitializer m (Some e) None = ⊥

-- it has a form of the initializer's type, under a typing of global expressions
abbrev pub IsTypedBy : (HasForm : (expression : ℕ) → Form → Type 0) → Option ℕ → Option Initializer → Type 0
IsTypedBy HasForm (Some e) (Some i) = HasForm e i.form
IsTypedBy HasForm (Some e) None = Unit {0}
IsTypedBy HasForm None given = Unit {0}
