-- The text for a document without results is the same with and without missing returns inserted.
use Rattle.std.proofs.Common.{ℕ, Bool, true, false, List, refl, subst}
use Rattle.ir_items.specs.judged.Plain.{PlainModule}
use Rattle.ir_items.specs.judged.Returned.{returned_module}
use Rattle.ir_items.proofs.Returned.{returned_by_bodies}
use Rattle.document_reader.specs.judged.Plain.{PlainDocument}
use Rattle.document_reader.proofs.Seam.{one_document_lem}
use Rattle.judgement.specs.judged.Steps.{IsPrepared}
use Rattle.judgement.specs.declared.finding.Finding.{Finding}
use Rattle.judgement.specs.declared.finding.Finding.TheVariants.{Accepted, RefusedDocument, RefusedHandles, Refused}
use Rattle.judgement_laws.specs.judged.Like.{HasNoResult}
use Rattle.judgement_laws.specs.found.ReturnLaws.{AreJudgedAlike}
use Rattle.judgement_laws.proofs.Finding.{returns_dont_matter}
use Rattle.shader_check.specs.judged.Theorem.{IsReportedIn, IsTextOn, of_document, no_document, with_returns, ReturnsDontShow}

-- there is a module that is validated, whether returns are inserted first or not
some_prepared : (returns : Bool) (m : PlainModule) → (n : PlainModule) × IsPrepared returns m n
some_prepared true m = (returned_module m, returned_by_bodies m)
some_prepared false m = (m, refl)

module _ (d : PlainDocument) (none : HasNoResult d.content) (returns : Bool) where
  other : PlainModule
  other = (some_prepared returns d.content).0

  other_prepared : IsPrepared returns d.content other
  unfolding other
  other_prepared = (some_prepared returns d.content).1

  alike : (m : PlainModule) → IsPrepared d.returns d.content m → AreJudgedAlike m other
  alike m prepared = returns_dont_matter d.content m other d.returns returns none prepared other_prepared

  reported_too : (m : PlainModule) → IsPrepared d.returns d.content m → (f : Finding) (behind : List ℕ) → IsReportedIn m f behind → IsReportedIn other f behind
  reported_too m prepared (Accepted strict) behind h = ((alike m prepared).report behind).0 h
  reported_too m prepared RefusedDocument behind h = h
  reported_too m prepared RefusedHandles behind h = h
  reported_too m prepared (Refused step index) behind h = h

  text_too : (text : List ℕ) → IsTextOn d text → IsTextOn (with_returns d returns) text
  text_too text t = record {
    judged = other;
    prepared = other_prepared;
    finding = t.finding;
    found = ((alike t.judged t.prepared).finding d.settings t.finding).0 t.found;
    behind = t.behind;
    reported = reported_too t.judged t.prepared t.finding t.behind t.reported;
    text_is = t.text_is;
  }

pub returns_dont_show_lem : ReturnsDontShow
returns_dont_show_lem bytes text (no_document spells is) d reads none returns = absurd (spells d reads)
returns_dont_show_lem bytes text (of_document e r t) d reads none returns = text_too d none returns text (subst (λ z. IsTextOn z text) (one_document_lem bytes e d r reads) t)
