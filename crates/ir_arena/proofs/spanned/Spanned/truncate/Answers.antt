use Rattle.ir_arena.proofs.Zipped.{truncated}
use Rattle.ir_arena.proofs.spanned.Spanned.truncate.Goals as goal

pub returns : goal.returns
returns g c = truncated _ _ _ _ _ c.args.count c.self.view_is c.truncate.ensures.items c.truncate-2.ensures.items
