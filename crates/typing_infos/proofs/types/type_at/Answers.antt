use Rattle.typing_resolve.specs.View.{context_view}
use Rattle.typing_infos.proofs.types.type_at.Goals as goal

pub returns-in-Ok : goal.returns-in-Ok
returns-in-Ok c = λ xs stands typed. c.in-Ok.ensures xs c.args.handle stands typed

pub returns-in-Err : goal.returns-in-Err
returns-in-Err c = λ xs stands typed. c.refused_at.ensures (context_view c.args.context.now) xs (c.in-Err.ensures xs c.args.handle stands typed)
