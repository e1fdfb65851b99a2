-- The head of a statement, which is all that most rules depend on.
use Rattle.std.proofs.Common.{◌≡◌, ℕ, Bool, false, List, ◌∷◌, refl, sym, ap, subst, ◌∙◌}
use Rattle.std.specs.Prelude.{Contains, ◌≢◌}
use Rattle.std.specs.List.{AllPairs}
use Rattle.ir_kinds.specs.declared.scalars.ScalarKind.{ScalarKind}
use Rattle.ir_kinds.specs.declared.values.SwitchValue.TheVariants.{Default}
use Rattle.ir_flags.specs.declared.stages.ShaderStages.{ShaderStages}
use Rattle.ir_blocks.specs.judged.Plain.{PlainStatement, block, if_, switch, loop, PlainCases, no_case, case}
use Rattle.ir_blocks.specs.judged.Shapes.{exit_of, shape_of}
use Rattle.ir_blocks.specs.judged.Tails.{case_heads, head_of}
use Rattle.ir_blocks.specs.found.View.{HoldsNoBlock}
use Rattle.spec_expressions.specs.judged.Disruption.{chosen_by, is_end}
use Rattle.spec_expressions.specs.judged.Uniformity.{Required, Requires}
use Rattle.ir_kinds.specs.declared.diagnostics.Severity.{Severity}
use Rattle.spec_expressions.specs.judged.StatementNames.{statement_operands, statement_result, statement_range, statement_callee}
use Rattle.spec_statements.specs.judged.BlockContext.{BlockContext, form_at}
use Rattle.spec_statements.specs.judged.Results.{answer_of}
use Rattle.spec_statements.specs.judged.Shapes.{shaped_of}
use Rattle.spec_statements.specs.judged.Stages.{statement_stages}
use Rattle.spec_statements.specs.judged.Statements.{StatementOK}
use Rattle.spec_statements.specs.judged.Strict.{statement_needed}
use Rattle.spec_statements.specs.judged.Switches.{case_values, falls_at_end, CasesOK}
use Rattle.spec_statements.specs.judged.Tables.{statement_checked, introduced}
use Rattle.judgement_laws.proofs.Shared.{some_and}

-- a statement without blocks is its head
pub simple_is : (t s : PlainStatement) → head_of t ≡ s → HoldsNoBlock s → t ≡ s
simple_is (block b) s e h = absurd (subst HoldsNoBlock (sym e) h)
simple_is (if_ test accept reject) s e h = absurd (subst HoldsNoBlock (sym e) h)
simple_is (switch selector cases) s e h = absurd (subst HoldsNoBlock (sym e) h)
simple_is (loop body continuing break_if) s e h = absurd (subst HoldsNoBlock (sym e) h)
simple_is u s e h = e

-- the rules of a function on a statement, if they depend on its head alone
pub by_head : {X : Type 0} (h : PlainStatement → X) → ((s : PlainStatement) → h (head_of s) ≡ h s) → (s t : PlainStatement) → head_of t ≡ head_of s → h s ≡ h t
by_head h same s t e = sym (same s) ∙ (sym (ap h e) ∙ same t)

pub operands_head : (s : PlainStatement) → statement_operands (head_of s) ≡ statement_operands s
operands_head (block b) = refl
operands_head s = refl

pub result_head : (s : PlainStatement) → statement_result (head_of s) ≡ statement_result s
result_head (block b) = refl
result_head s = refl

pub range_head : (s : PlainStatement) → statement_range (head_of s) ≡ statement_range s
range_head (block b) = refl
range_head s = refl

pub callee_head : (s : PlainStatement) → statement_callee (head_of s) ≡ statement_callee s
callee_head (block b) = refl
callee_head s = refl

pub checked_head : (s : PlainStatement) → statement_checked (head_of s) ≡ statement_checked s
checked_head (block b) = refl
checked_head s = refl

pub needed_head : (s : PlainStatement) → statement_needed (head_of s) ≡ statement_needed s
needed_head (block b) = refl
needed_head s = refl

pub introduced_head : (s : PlainStatement) → introduced (head_of s) ≡ introduced s
introduced_head (block b) = refl
introduced_head s = refl

pub answer_head : (s : PlainStatement) → answer_of (head_of s) ≡ answer_of s
answer_head (block b) = refl
answer_head s = refl

pub chosen_head : (s : PlainStatement) → chosen_by (head_of s) ≡ chosen_by s
chosen_head (block b) = refl
chosen_head s = refl

pub end_head : (s : PlainStatement) → is_end (head_of s) ≡ is_end s
end_head (block b) = refl
end_head s = refl

pub exit_head : (s : PlainStatement) → exit_of (shape_of (head_of s)) ≡ exit_of (shape_of s)
exit_head (block b) = refl
exit_head s = refl

pub stages_head : (subgroups : ShaderStages) (callees : List ShaderStages) (s : PlainStatement) → statement_stages subgroups callees (head_of s) ≡ statement_stages subgroups callees s
stages_head subgroups callees (block b) = refl
stages_head subgroups callees s = refl

asks_to_head : (severity : Severity) (required : ℕ → ℕ) (x : Required) (s : PlainStatement) → Requires severity required s x → Requires severity required (head_of s) x
asks_to_head severity required x (block b) h = h
asks_to_head severity required x s h = h

asks_from_head : (severity : Severity) (required : ℕ → ℕ) (x : Required) (s : PlainStatement) → Requires severity required (head_of s) x → Requires severity required s x
asks_from_head severity required x (block b) h = h
asks_from_head severity required x s h = h

pub asks_by_head : (severity : Severity) (required : ℕ → ℕ) (x : Required) (s t : PlainStatement) → head_of t ≡ head_of s → Requires severity required s x → Requires severity required t x
asks_by_head severity required x s t e h = asks_from_head severity required x t (subst (λ u. Requires severity required u x) (sym e) (asks_to_head severity required x s h))

values_head : (cs : PlainCases) → case_values (case_heads cs) ≡ case_values cs
values_head no_case = refl
values_head (case value body falls rest) = ap (λ xs. value ∷ xs) (values_head rest)

falls_head : (cs : PlainCases) (f : Bool) → falls_at_end f (case_heads cs) ≡ falls_at_end f cs
falls_head no_case f = refl
falls_head (case value body falls rest) f = falls_head rest falls

cases_to : (kind : ScalarKind) (cs : PlainCases) → CasesOK kind cs → CasesOK kind (case_heads cs)
cases_to kind cs h = record {
  fit = λ v c. h.fit v (subst (λ xs. Contains xs v) (values_head cs) c);
  differ = subst (λ xs. AllPairs (λ v w. v ≢ w) xs) (sym (values_head cs)) h.differ;
  default = subst (λ xs. Contains xs Default) (sym (values_head cs)) h.default;
  ends = falls_head cs false ∙ h.ends;
}

cases_from : (kind : ScalarKind) (cs : PlainCases) → CasesOK kind (case_heads cs) → CasesOK kind cs
cases_from kind cs h = record {
  fit = λ v c. h.fit v (subst (λ xs. Contains xs v) (sym (values_head cs)) c);
  differ = subst (λ xs. AllPairs (λ v w. v ≢ w) xs) (values_head cs) h.differ;
  default = subst (λ xs. Contains xs Default) (values_head cs) h.default;
  ends = sym (falls_head cs false) ∙ h.ends;
}

ok_to_head : (c : BlockContext) (s : PlainStatement) → StatementOK c s → StatementOK c (head_of s)
ok_to_head c (switch selector cases) h = some_and _ _ (shaped_of (form_at c selector)) (λ x y. (y.0, cases_to x.scalar.kind cases y.1)) h
ok_to_head c s h = h

ok_from_head : (c : BlockContext) (s : PlainStatement) → StatementOK c (head_of s) → StatementOK c s
ok_from_head c (switch selector cases) h = some_and _ _ (shaped_of (form_at c selector)) (λ x y. (y.0, cases_from x.scalar.kind cases y.1)) h
ok_from_head c s h = h

pub ok_by_head : (c : BlockContext) (s t : PlainStatement) → head_of t ≡ head_of s → StatementOK c s → StatementOK c t
ok_by_head c s t e h = ok_from_head c t (subst (StatementOK c) (sym e) (ok_to_head c s h))
