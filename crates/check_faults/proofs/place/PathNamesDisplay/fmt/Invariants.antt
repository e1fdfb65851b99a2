use Rattle.std.proofs.Common.{◌≡◌, ◌++◌, List, ℕ, codes, drop}
use Rattle.std.specs.Fmt.{HasWritten, IsPlainFormatter}
use denote.Shadow.{shadow}
use denote.Text.{Utf8}
use Rattle.check_faults.specs.Paths.{steps_text}
use Rattle.check_faults.specs.declared.parts.Part.TheVariants as parts
use Rattle.check_faults.specs.declared.parts.Row.TheVariants as rows
use Rattle.check_faults.proofs.place.PathNamesDisplay.fmt.Given as goal

-- the text so far, with that of the rest, is the whole
abbrev pub invariant-loop-index : goal.invariant-loop-index
invariant-loop-index g l =
    shadow (Utf8 l.dot) × (IsPlainFormatter l.fn.f → (done : List ℕ) × HasWritten g.W.Write.write_str_gives l.fn.f done l.f × (done ++ steps_text l.dot l.part (drop l.index-index l.self.0.now) ≡ steps_text (codes "") (parts.Row rows.Document) l.self.0.now))
