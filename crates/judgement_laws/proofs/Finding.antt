-- The validation results of modules that differ only in returns are equal.
use Rattle.std.proofs.Common.{Bool, true, false, sym, subst}
use Rattle.ir_flags.specs.declared.settings.Settings.{Settings}
use Rattle.ir_items.specs.judged.Plain.{PlainModule}
use Rattle.judgement.specs.judged.Steps.{IsPrepared, IsFinding}
use Rattle.judgement.specs.declared.finding.Finding.{Finding}
use Rattle.judgement.specs.declared.finding.Finding.TheVariants.{Accepted, RefusedDocument, RefusedHandles, Refused}
use Rattle.judgement.specs.declared.finding.Step.TheVariants.{Layout, «Type», Typing, Expression, Constant, Override, Global, Function, Entry}
use Rattle.judgement.specs.judged.ModuleSteps as step
use Rattle.judgement_laws.specs.judged.Like.{HasNoResult, LikeModule}
use Rattle.judgement_laws.specs.found.ReturnLaws.{ReturnsKeepFinding, AreJudgedAlike, ReturnsDontMatter}
use Rattle.judgement_laws.proofs.Entries.{entries_move, first_entry_moves}
use Rattle.judgement_laws.proofs.Functions.{functions_move, first_function_moves}
use Rattle.judgement_laws.proofs.Handles.{handles_move}
use Rattle.judgement_laws.proofs.Likeness.{module_back, like_itself, like_returned}
use Rattle.judgement_laws.proofs.Modules.{module_move, first_move, globals_move, first_global_move}
use Rattle.judgement_laws.proofs.Reports.{report_moves}

finding_moves : (m n : PlainModule) → LikeModule m n → (s : Settings) (f : Finding) → IsFinding s m f → IsFinding s n f
finding_moves m n l s (Accepted strict) h =
    (module_move m n l s false h.0, globals_move m n l s.flags s.capabilities h.1, functions_move l s h.2, entries_move l s h.3, h.4)
finding_moves m n l s RefusedDocument h = h
finding_moves m n l s RefusedHandles h = λ ok. h (handles_move n m (module_back l) ok)
finding_moves m n l s (Refused Layout i) h = first_move m n l s false step.layout i h
finding_moves m n l s (Refused «Type» i) h = first_move m n l s false step.type i h
finding_moves m n l s (Refused Typing i) h = first_move m n l s false step.typing i h
finding_moves m n l s (Refused Expression i) h = first_move m n l s false step.expression i h
finding_moves m n l s (Refused Constant i) h = first_move m n l s false step.constant i h
finding_moves m n l s (Refused Override i) h = first_move m n l s false step.override i h
finding_moves m n l s (Refused Global i) h = (module_move m n l s false h.0, first_global_move m n l s.flags s.capabilities i h.1)
finding_moves m n l s (Refused Function i) h =
    (module_move m n l s false h.0, globals_move m n l s.flags s.capabilities h.1, first_function_moves l s i h.2)
finding_moves m n l s (Refused Entry i) h =
    (module_move m n l s false h.0, globals_move m n l s.flags s.capabilities h.1, functions_move l s h.2, first_entry_moves l s i h.3)

judged_alike : (m n : PlainModule) → LikeModule m n → AreJudgedAlike m n
judged_alike m n l = record {
  finding = λ s f. (finding_moves m n l s f, finding_moves n m (module_back l) s f);
  report = λ text. (report_moves m n l text, report_moves n m (module_back l) text);
}

pub returns_keep_finding : ReturnsKeepFinding
returns_keep_finding d m none r s f = (judged_alike d m (like_returned d m none r)).finding s f

-- ---- whether a document requests returns or not

like_prepared : (d p : PlainModule) (returns : Bool) → HasNoResult d → IsPrepared returns d p → LikeModule d p
like_prepared d p true none r = like_returned d p none r
like_prepared d p false none same = subst (LikeModule d) (sym same) (like_itself d none)

pub returns_dont_matter : ReturnsDontMatter
returns_dont_matter d p q returns other none first second =
    let a = judged_alike d p (like_prepared d p returns none first) in
    let b = judged_alike d q (like_prepared d q other none second) in
    record {
      finding = λ s f. (λ h. (b.finding s f).0 ((a.finding s f).1 h), λ h. (a.finding s f).0 ((b.finding s f).1 h));
      report = λ text. (λ h. (b.report text).0 ((a.report text).1 h), λ h. (a.report text).0 ((b.report text).1 h));
    }
