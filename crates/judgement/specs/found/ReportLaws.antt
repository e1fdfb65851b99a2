-- Laws of reports.
use Rattle.std.specs.Prelude.{◌≡◌, ◌↔◌, ◌<◌, ℕ, List, false, IsTrue, length, slice_index_or}
use Rattle.ir_items.specs.judged.Plain.{PlainEntry, PlainModule}
use Rattle.spec_expressions.specs.judged.CallChains.{NamesGlobal, Reaches}
use Rattle.spec_expressions.specs.judged.Summaries.{no_use}
use Rattle.spec_expressions.specs.judged.ModuleHandles.{HandlesOK}
use Rattle.judgement.specs.judged.Lines.{is_own, is_used}
use Rattle.judgement.specs.judged.Reports.{IsEntryReport, IsReport}

-- an entry point has at most one report
abbrev pub OneEntryReport : Type 0
OneEntryReport = (m : PlainModule) (number : ℕ) (e : PlainEntry) (a b : List ℕ) → IsEntryReport m number e a → IsEntryReport m number e b → a ≡ b

-- a module has at most one report
abbrev pub OneReport : Type 0
OneReport = (m : PlainModule) (a b : List ℕ) → IsReport m a → IsReport m b → a ≡ b

-- the global variables that an entry point's lines list, its own payload and mesh output aside, are those that a function reachable
-- from it references
abbrev pub NamedAreReported : Type 0
NamedAreReported =
    (m : PlainModule) (number : ℕ) (e : PlainEntry) (lines : List ℕ) (r : IsEntryReport m number e lines) (g : ℕ) → g < length m.globals → is_own e g ≡ false
    → IsTrue (is_used (slice_index_or r.uses g no_use)) ↔ Reaches m e.function (NamesGlobal g)

-- every module with valid handles has a report (as a double negation)
abbrev pub SomeReport : Type 0
SomeReport = (m : PlainModule) → HandlesOK m → ¬ ((text : List ℕ) → ¬ IsReport m text)
