use Rattle.std.proofs.Common.{ℕ, ◌≡◌, ◌∷◌, [], zero, suc, Option, Some, None, refl, sym, ap, subst, slice_get}
use Rattle.ir_items.specs.judged.Plain.{PlainArgument, PlainFunction}
use Rattle.ir_kinds.specs.judged.Scalars.{unsigned}
use Rattle.spec_statements.specs.judged.Shapes.{IsIntegerScalar}
use Rattle.judgement_laws.proofs.statement_examples.statements.Goals as goal
use Rattle.spec_statements.specs.judged.BlockContext.{form_at}
use Rattle.spec_statements.specs.judged.Stores.{itself}
use Rattle.judgement_laws.specs.found.Worked.{calling, given_first}
use Rattle.typing_forms.specs.judged.Forms.{form_of_type}
use Rattle.typing_forms.specs.declared.form.Form.TheVariants as form

pub returns-clause-stored : goal.returns-clause-stored
returns-clause-stored c = record { place = (0, itself refl, tt); storable = tt; fits = refl; writable = refl }

pub returns-clause-called : goal.returns-clause-called
returns-clause-called c = record { callee = _; called = refl; passed = passed; answered = (refl, refl) }
  where
    passed : (i e : ℕ) (a : PlainArgument) → slice_get (0 ∷ []) i ≡ Some e → slice_get (given_first ∷ []) i ≡ Some a
        → form_at (calling (form.Scalar (unsigned 4))) e ≡ form_of_type (calling (form.Scalar (unsigned 4))).m.types a.ty
    passed zero e a at declared = let x = at in let y = declared in cc
    passed (suc i) e a at declared = let x = at in absurd (cc)

-- the argument of the function that is called
abbrev arguments_of : Option PlainFunction → Option PlainArgument
arguments_of None = None
arguments_of (Some f) = slice_get f.arguments 0

pub returns-clause-called_with_a_float : goal.returns-clause-called_with_a_float
returns-clause-called_with_a_float c ok = (subst IsIntegerScalar (sym (ok.passed 0 0 given_first refl (sym (ap arguments_of ok.called)))) (tt, tt)).1
