-- The requested rows of a module, and their lines.
use Rattle.std.specs.Prelude.{◌≡◌, ℕ, List, [], flat_map}
use Rattle.ir_items.specs.judged.Plain.{PlainModule}
use Rattle.judgement.specs.judged.Reports.{IsReport}
use Rattle.judgement_report.specs.Lines.{leaf_report, listing_lines, row_line}
use Rattle.judgement_report.specs.Reported.{IsReported}
use Rattle.judgement_report.specs.Rows.{AreLaid, AreLayoutsIn}
use Rattle.spec_expressions.specs.judged.ModuleHandles.{HandlesOK}
use Rattle.typing_infos.specs.declared.info.ModuleInfo.{ModuleInfo}
use Rattle.check_explanation.specs.declared.lines.Lines.{Lines}
use Rattle.check_explanation.specs.declared.lines.Requested.{Requested}
use Rattle.check_explanation.specs.declared.lines.Requested.TheVariants.{Nothing, Leaves, Report, ReportWithLeaves}

-- the `ModuleInfo` is enough to list the module's buffers and to report on it
pub record CanReport (m : PlainModule) (info : ModuleInfo) : Type 0 where
  pub handles : HandlesOK m
  pub laid : AreLaid m
  pub layouts : AreLayoutsIn m info
  pub reported : IsReported m info

-- the lines of the report, and those of buffers and their leaves
abbrev pub reported_of : Lines → List ℕ
reported_of l = flat_map row_line l.report.items

abbrev pub listed_of : Lines → List ℕ
listed_of l = listing_lines l.listing.items

-- those requested: none, those of its buffers and their leaves, its report, or both
abbrev pub ListsAsRequested : (requested : Requested) → PlainModule → Lines → Type 0
ListsAsRequested Nothing m l = (reported_of l ≡ []) × (listed_of l ≡ [])
ListsAsRequested Leaves m l = (reported_of l ≡ []) × (listed_of l ≡ leaf_report m)
ListsAsRequested Report m l = IsReport m (reported_of l) × (listed_of l ≡ [])
ListsAsRequested ReportWithLeaves m l = IsReport m (reported_of l) × (listed_of l ≡ leaf_report m)
