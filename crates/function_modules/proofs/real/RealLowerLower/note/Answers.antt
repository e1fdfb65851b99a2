use Rattle.function_modules.proofs.Kept.{own_noted}
use Rattle.function_modules.proofs.real.RealLowerLower.note.Goals as goal

pub returns-clause-own : goal.returns-clause-own
returns-clause-own c = λ m f h. own_noted m f _ _ c.note.ensures.expressions c.note.ensures.sampling_set c.note.ensures.sampling h
