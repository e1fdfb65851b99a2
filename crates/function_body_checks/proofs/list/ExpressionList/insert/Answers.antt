use Rattle.std.proofs.lemmas.Result.{IfOk-weaker}
use Rattle.function_body_checks.specs.Lists.{IsAdded}
use Rattle.function_body_checks.proofs.Ranges.{one_added}
use Rattle.function_body_checks.proofs.list.ExpressionList.insert.Goals as goal

pub returns : goal.returns
returns c =
    IfOk-weaker c.insert_range.result _ (IsAdded c.args.self.now c.insert_range.new.self c.args.handle)
    (λ b added. one_added c.args.self.now c.insert_range.new.self c.args.handle b (rw c.new_from_bounds.ensures at added)) c.insert_range.ensures
