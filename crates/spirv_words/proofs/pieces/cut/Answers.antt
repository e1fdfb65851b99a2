-- One instruction more stands after those before.
use Rattle.std.proofs.Common.{rules, refl, arith}
use Rattle.spirv_words.proofs.Covered.{covers_more}
use Rattle.spirv_words.proofs.pieces.cut.Goals as goal

pub loop-start-preserved : goal.loop-start-preserved
loop-start-preserved c = record {
  covers = rw c.in_ok-push.ensures.items (covers_more c.args.words.now 5 c.loop-start.start c.loop-start.pieces.items _ c.loop-start.invariant.covers record {
    start = refl;
    opcode = refl;
    long = refl;
    some = search rules;
    within = search rules;
  });
  within = search rules;
}
