use Rattle.std.proofs.Common.{◌∙◌, sym, rules}
use Rattle.module_globals.proofs.Begins.{is_and_is_not}
use Rattle.module_globals.proofs.globals.check_begin.Goals as goal

pub returns-then-not-initializer : goal.returns-then-not-initializer
returns-then-not-initializer c = λ init given known. is_and_is_not c.args.initializer.is_known (given.1 known) c.if-not-initializer.true

pub returns-then-not-form_equality : goal.returns-then-not-form_equality
returns-then-not-form_equality c = λ init given typed. (let same = c.form_equality.ensures.1 (typed ∙ sym c.form_of_type.ensures) in let not = c.if-not-form_equality.true in cc)

pub returns : goal.returns
returns c = λ init given.
    record {
      own = (let e = c.ne.ensures in let f = c.if-ne.false in search rules);
      known = given.0 (let f = c.if-not-initializer.false in search rules);
      typed = c.form_equality.ensures.0 c.if-not-form_equality.false ∙ c.form_of_type.ensures;
    }
