-- One more token in order.
use Rattle.std.proofs.Common.{rules, length}
use Rattle.wgsl_tokens.proofs.Joined.{covers_more}
use Rattle.wgsl_tokens.proofs.lexer.cut_tokens.Goals as goal

pub loop-at-preserved : goal.loop-at-preserved
loop-at-preserved c = record {
  covers = rw c.in_ok-push.ensures.items (covers_more 0 c.loop-at.at (length c.args.text.now) c.loop-at.tokens.items _ c.loop-at.invariant.covers (search rules) (search rules) (search rules));
  within = search rules;
}
