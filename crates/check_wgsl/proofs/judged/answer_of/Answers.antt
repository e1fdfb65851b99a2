use Rattle.check_wgsl.proofs.AnsweredLaws.{answered}
use Rattle.check_wgsl.proofs.judged.answer_of.Goals as goal

pub returns : goal.returns
returns c = answered c.args.judgement.now _ _ c.requires c.verdict_of.ensures c.in_ok-text.ensures
