use Rattle.std.proofs.Common.{◌≡◌, ℕ, cond, true, subst}
use Rattle.std.specs.BTreeSet.{contains}
use Rattle.std.specs.Ordering.{is_eq}
use Rattle.spec_interface.specs.judged.Varyings.{VaryingsOK}
use Rattle.function_varying_checks.specs.View.{context_view}
use Rattle.function_varyings.proofs.KnownLaws.{noted_still, one_noted}
use Rattle.function_varyings.specs.Known.{IsShownBy, number_of, pair_cmp}
use Rattle.function_varyings.proofs.known.note.Goals as goal

pub returns-in-Ok-clause-known : goal.returns-in-Ok-clause-known
returns-in-Ok-clause-known c =
    let v = context_view c.args.context.now in
    one_noted v c.way_of.result c.args.ty c.shown_by-shown.result c.way_of.ensures (subst (VaryingsOK v) c.requires.these c.requires.fine)
    (subst (λ vs. IsShownBy vs c.shown_by-shown.result) c.requires.these c.shown_by-shown.ensures) c.args.seen.now c.insert.new.self
    (subst (λ t. (q : ℕ × ℕ) → contains pair_cmp c.insert.new.self q ≡ cond (is_eq (pair_cmp (t, number_of c.way_of.result c.shown_by-shown.result) q)) true (contains pair_cmp c.args.seen.now q)) c.index.ensures.value
    (subst (λ n. (q : ℕ × ℕ) → contains pair_cmp c.insert.new.self q ≡ cond (is_eq (pair_cmp (c.index.result, n) q)) true (contains pair_cmp c.args.seen.now q)) c.number_of.ensures c.in-Ok.ensures.updates.0))
    c.requires.known

pub returns-in-Err-clause-known : goal.returns-in-Err-clause-known
returns-in-Err-clause-known c = noted_still (context_view c.args.context.now) c.args.seen.now c.insert.new.self c.in-Err.ensures.err c.requires.known
