-- If missing returns are inserted, a function with a result falls off its end only by a break out of a final switch.
use Rattle.std.proofs.Common.{◌≡◌, ◌∙◌, ℕ, List, Option, Some, None, slice_get, refl, sym, subst}
use Rattle.std.specs.Prelude.{IsSomeAnd}
use Rattle.std.proofs.lemmas.Option.{same_Some, slice_get_within}
use Rattle.ir_flags.specs.declared.settings.Settings.{Settings}
use Rattle.ir_blocks.specs.judged.Places.{Place, nothing, statement, spot_at, OccursAt}
use Rattle.ir_blocks.specs.judged.Plain.{PlainStatement, switch, return, PlainBlock}
use Rattle.ir_blocks.specs.judged.Tails.{IsOpenEnd, empty, after_last, further, in_tail, completed}
use Rattle.ir_blocks.proofs.OneCompleted.{one_completed}
use Rattle.ir_blocks.proofs.TailLaws.{added, completed_once}
use Rattle.ir_items.specs.judged.Plain.{PlainFunction, PlainModule}
use Rattle.typing_forms.specs.declared.form.Form.{Form}
use Rattle.spec_statements.specs.judged.Functions.{BodyOK, block_context}
use Rattle.spec_statements.specs.judged.Shapes.{IsInteger, shaped_of}
use Rattle.spec_statements.specs.judged.Switches.{CasesOK, SwitchOK}
use Rattle.spec_statements.specs.declared.shapes.Shaped.{Shaped}
use Rattle.spec_runs.specs.found.Ended.{HasNoOpenEnd}
use Rattle.judgement_laws.specs.found.Accepted.{HasReturns, RunsFallByBreaks}
use Rattle.spec_runs.proofs.Falls.{Closed, CasesEnd, SwitchesEnd, falls_by_breaks}

-- no statement is at an open end
open_nothing : {b : PlainBlock} {p : Place} → IsOpenEnd b p → spot_at p b ≡ nothing
open_nothing empty = refl
open_nothing (after_last goes) = refl
open_nothing (further e) = open_nothing e
open_nothing (in_tail part tail e) = open_nothing e

completed_closed : (b : PlainBlock) → HasNoOpenEnd (completed b)
completed_closed b p e = nothing_stands (sym (open_nothing e) ∙ subst (λ c. OccursAt c p (return None)) (completed_once b) (added (completed b) p e))
  where
    nothing_stands : {s : PlainStatement} → nothing ≡ statement s → ⊥
    nothing_stands h = cc (h)

returned_closed : (f : PlainFunction) → HasReturns f → HasNoOpenEnd f.body
returned_closed f has = subst HasNoOpenEnd (sym (one_completed has.0 f.body has.1)) (completed_closed has.0)

module _ (s : Settings) (m : PlainModule) (f : PlainFunction) (forms : List Form) {held : Option ℕ} (body : BodyOK s held (block_context s m f forms)) where
  switches_end : SwitchesEnd f.body
  switches_end p selector cases stands = from_rule _ (body.statements p (switch selector cases) stands)
    where
      from_rule : (t : Form) → SwitchOK t cases → CasesEnd cases
      from_rule t ok = by_shape (shaped_of t) ok
        where
          by_shape : (o : Option Shaped) → IsSomeAnd o (λ x. IsInteger x.scalar.kind × CasesOK x.scalar.kind cases) → CasesEnd cases
          by_shape None h = absurd h
          by_shape (Some x) h = record { default = h.1.default; ends = h.1.ends }

pub runs_fall_by_breaks : RunsFallByBreaks
runs_fall_by_breaks s m number a returns u answers n = falls_by_breaks u m function_closed a.entry.entry.function entry_closed answers n
  where
    function_closed : (index : ℕ) (f : PlainFunction) → slice_get m.functions index ≡ Some f → Closed f
    function_closed index f at =
        let here = a.functions index (slice_get_within m.functions index f at) in
        let same : here.function ≡ f = same_Some _ _ (sym here.at ∙ at) in
        let ok = here.ok a.entry.stages in
        let ends : SwitchesEnd here.function.body = switches_end s m here.function ok.forms (ok.body a.blocks) in
        record { no_open = returned_closed f (returns.functions index f at); switches = subst (λ g. SwitchesEnd g.body) same ends }

    entry_closed : Closed a.entry.entry.function
    entry_closed = record {
      no_open = returned_closed a.entry.entry.function (returns.entries number a.entry.entry a.entry.at);
      switches = switches_end s m a.entry.entry.function a.entry.ok.function.forms (a.entry.ok.function.body a.blocks);
    }
