-- What a function references, it references with other returns too.
use Rattle.std.proofs.Common.{◌≡◌, Some, None, sym, subst}
use Rattle.std.specs.Prelude.{Contains}
use Rattle.ir_blocks.specs.judged.Plain.{PlainBlock}
use Rattle.ir_items.specs.judged.Plain.{PlainFunction}
use Rattle.spec_expressions.specs.judged.References.{Site, Named, Names, argument_type, answer_type, local_type, local_value, filter_leaf, expression_names, expression_reads, statement_reads, statement_answers, statement_emits, statement_calls}
use Rattle.spec_expressions.specs.judged.StatementNames.{statement_operands, statement_result, statement_range, statement_callee}
use Rattle.judgement_laws.specs.found.Alike.{IsCarried}
use Rattle.judgement_laws.specs.judged.Like.{LikeFunction}
use Rattle.judgement_laws.proofs.Bodies.{carry, looks, none_contained}
use Rattle.judgement_laws.proofs.Heads.{operands_head, result_head, range_head, callee_head}

no_some : {A : Type 0} (x : A) → None ≡ Some x → ⊥
no_some x e = absurd (cc (e))

names_in : (f : PlainFunction) (c : PlainBlock) → IsCarried f.body c → (site : Site) (named : Named) → Names f site named → Names (record f { body = c }) site named
names_in f c h _ _ (argument_type at) = argument_type at
names_in f c h _ _ (answer_type at) = answer_type at
names_in f c h _ _ (local_type at) = local_type at
names_in f c h _ _ (local_value at init) = local_value at init
names_in f c h _ _ (filter_leaf at) = filter_leaf at
names_in f c h _ _ (expression_names at item) = expression_names at item
names_in f c h _ _ (expression_reads at reads) = expression_reads at reads
names_in f c h _ _ (statement_reads {p = p} {o = o} {s = s} at reads) =
    let k = carry (λ u. Contains (statement_operands u) o) (looks statement_operands operands_head (λ xs. Contains xs o)) (none_contained o) h p s at reads in statement_reads k.1 k.2
names_in f c h _ _ (statement_answers {p = p} {e = e} {s = s} at is) =
    let k = carry (λ u. statement_result u ≡ Some e) (looks statement_result result_head (λ x. x ≡ Some e)) (no_some e) h p s at is in statement_answers k.1 k.2
names_in f c h _ _ (statement_emits {p = p} {r = r} {s = s} at is) =
    let k = carry (λ u. statement_range u ≡ Some r) (looks statement_range range_head (λ x. x ≡ Some r)) (no_some r) h p s at is in statement_emits k.1 k.2
names_in f c h _ _ (statement_calls {p = p} {c = e} {s = s} at is) =
    let k = carry (λ u. statement_callee u ≡ Some e) (looks statement_callee callee_head (λ x. x ≡ Some e)) (no_some e) h p s at is in statement_calls k.1 k.2

pub names_move : {f g : PlainFunction} → LikeFunction f g → (site : Site) (named : Named) → Names f site named → Names g site named
names_move {f} {g} l site named n = subst (λ x. Names x site named) (sym l.rest) (names_in f g.body l.body.there site named n)
