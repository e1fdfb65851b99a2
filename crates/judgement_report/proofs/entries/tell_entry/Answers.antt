use Rattle.std.proofs.Common.{ap, subst, ◌∙◌, filter_map}
use Rattle.std.proofs.lemmas.Result.{on_ok_weaker}
use Rattle.std.specs.Prelude.{◌≡◌, ◌↔◌, ◌++◌}
use Rattle.typing_rules.specs.judged.Laws.{IsAmong}
use Rattle.judgement.specs.judged.Lines.{variable_lines}
use Rattle.ir_items.specs.found.View.{entry_view}
use Rattle.judgement_report.specs.Reported.{numbers_of, Tells, ArePairLines}
use Rattle.judgement_report.proofs.Written.{further}
use Rattle.judgement_report.proofs.entries.tell_entry.Goals as goal

pub returns : goal.returns
returns g c =
    let first = variable_lines c.args.number (entry_view c.args.entry.now) c.args.info.now.uses.items in
    let written : g.S.RowSink.told c.tell_variables.new.out ≡ g.S.RowSink.told c.args.out.now ++ first = c.in_ok-tell_variables.ensures ∙ ap (λ us. g.S.RowSink.told c.args.out.now ++ variable_lines c.args.number (entry_view c.args.entry.now) us) c.uses.ensures in
    on_ok_weaker c.tell_samples.result
    (λ (t : Tells (ArePairLines c.pairs.result.now) (g.S.RowSink.told c.tell_variables.new.out) (g.S.RowSink.told c.tell_samples.new.out)). record {
      lines = first ++ t.lines;
      behind = further (g.S.RowSink.told c.args.out.now) (g.S.RowSink.told c.tell_variables.new.out) (g.S.RowSink.told c.tell_samples.new.out) first t.lines written t.behind;
      holds = record {
        pairs = t.holds.pairs;
        ordered = t.holds.ordered;
        same = λ p. subst (λ given. IsAmong p t.holds.pairs ↔ IsAmong p (filter_map numbers_of given)) c.pairs.ensures (t.holds.same p);
        told = ap (λ lines. first ++ lines) t.holds.told;
      };
    }) c.tell_samples.ensures
