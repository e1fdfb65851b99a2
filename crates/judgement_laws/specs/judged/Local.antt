-- An entry point's lines in a report depend only on what is reachable from it.
use Rattle.std.specs.Prelude.{◌≡◌, ℕ, List, Some, slice_get}
use Rattle.ir_items.specs.judged.Plain.{PlainEntry, PlainFunction, PlainModule}
use Rattle.spec_expressions.specs.judged.CallChains.{Step, IsChain, chain_end}
use Rattle.spec_expressions.specs.judged.Effects.{effects_of, runs}
use Rattle.judgement.specs.judged.Reports.{IsEntryReport, IsReport}
use Rattle.judgement_laws.specs.judged.Lines.{HasLines}

-- each function called at the end of a call chain from f is the same in both modules
abbrev pub AgreeFrom : PlainModule → PlainModule → PlainFunction → Type 0
AgreeFrom m n f =
    (chain : List Step) → IsChain m f chain → (at callee : ℕ) (arguments : List ℕ) → slice_get (effects_of (chain_end f chain)) at ≡ Some (runs callee arguments)
    → slice_get m.functions callee ≡ slice_get n.functions callee

-- The modules differ only in functions, and in none that is reachable from the entry point by calls. One may have more functions.
pub record DifferElsewhere (m n : PlainModule) (e : PlainEntry) : Type 0 where
  pub rest : n ≡ record m { functions = n.functions }
  pub reached : AgreeFrom m n e.function

-- These are the lines that the report of the module has for its entry point at this index.
pub record AreLinesOf (m : PlainModule) (report : List ℕ) (number : ℕ) (e : PlainEntry) (lines : List ℕ) : Type 0 where
  pub are : IsEntryReport m number e lines
  pub stand : HasLines lines report

-- the report of each module that differs elsewhere has the same lines for the entry point
abbrev pub EntryIsLocal : (m : PlainModule) (report : List ℕ) (number : ℕ) → PlainEntry → Type 0
EntryIsLocal m report number e =
    (n : PlainModule) (other : List ℕ) → DifferElsewhere m n e → IsReport n other → (lines : List ℕ) × AreLinesOf m report number e lines × AreLinesOf n other number e lines

abbrev pub ReportsAreLocal : Type 0
ReportsAreLocal = (m : PlainModule) (report : List ℕ) → IsReport m report → (number : ℕ) (e : PlainEntry) → slice_get m.entries number ≡ Some e → EntryIsLocal m report number e
