use Rattle.std.proofs.Common.{rules, [], ◌+◌, drop}
use Rattle.check_faults.specs.declared.parts.Part.TheVariants as parts
use Rattle.check_faults.specs.declared.parts.Row.TheVariants as rows
use Rattle.check_faults.specs.Paths.{steps_text}
use Rattle.std.proofs.lemmas.List.{drop_more}
use Rattle.check_faults.proofs.Paths.{step_more}
use Rattle.check_faults.proofs.place.PathNamesDisplay.fmt.Goals as goal

pub loop-index-preserved : goal.loop-index-preserved
loop-index-preserved g c =
    (search rules, step_more g.W.Write.write_str_gives c.args.f.now c.loop-index.f c.write_step.new.f c.loop-index.dot.now (steps_text [] (parts.Row rows.Document) c.args.self.now.0.now) c.loop-index.part c.in_ok-part.part (drop c.loop-index.index-index c.args.self.now.0.now) _ (drop (c.loop-index.index-index + 1) c.args.self.now.0.now) (drop_more c.args.self.now.0.now c.loop-index.index-index 0 (search rules)) c.in_ok-part.ensures.inside c.loop-index.invariant.1 c.in_ok-part.ensures.text)
