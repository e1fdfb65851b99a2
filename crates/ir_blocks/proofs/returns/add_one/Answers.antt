use Rattle.std.proofs.Common.{refl}
use Rattle.ir_blocks.specs.found.View.{statement_view, statement_spans}
use Rattle.ir_blocks.proofs.Behind.{seen_behind_if, return_view, return_spans}
use Rattle.ir_blocks.proofs.returns.add_one.Goals as goal

pub returns-clause-statements : goal.returns-clause-statements
returns-clause-statements c = seen_behind_if statement_view c.push.result _ _ _ _ return_view c.push.ensures.statements

pub returns-clause-within : goal.returns-clause-within
returns-clause-within c = seen_behind_if statement_spans c.push.result _ _ _ _ return_spans c.push.ensures.statements

pub returns-clause-spans : goal.returns-clause-spans
returns-clause-spans c = c.push.ensures.spans

pub returns-clause-succeeds : goal.returns-clause-succeeds
returns-clause-succeeds c = λ room. c.push.ensures.succeeds room refl
