-- A switch with a fault does not meet its rule.
use Rattle.std.proofs.Common.{◌≡◌, ◌≢◌, inl, inr, ℕ, List, Some, Option, None, IsSomeAnd, true≢false, sym, subst, ◌∙◌}
use Rattle.std.specs.List.{AllPairs}
use Rattle.std.proofs.lemmas.Option.{get_or_from_slice_get, slice_get_within}
use Rattle.spec_statements.specs.judged.Shapes.{IsInteger, shaped_of}
use Rattle.spec_statements.specs.declared.shapes.Shaped.{Shaped}
use Rattle.typing_errors.specs.declared.error.FunctionError.{FunctionError}
use Rattle.typing_errors.specs.declared.error.FunctionError.TheVariants as error
use Rattle.ir_blocks.specs.judged.Plain.{PlainCases}
use Rattle.ir_kinds.specs.declared.scalars.ScalarKind.{ScalarKind}
use Rattle.ir_kinds.specs.declared.values.SwitchValue.{SwitchValue}
use Rattle.ir_kinds.specs.declared.values.SwitchValue.TheVariants.{Default}
use Rattle.spec_statements.specs.judged.BlockContext.{BlockContext, form_at}
use Rattle.spec_statements.specs.judged.Switches.{case_values, CasesOK, SwitchOK}
use Rattle.function_statements.specs.SwitchLaws.{FaultsRefute}
use Rattle.function_statement_checks.specs.Cases.{OccursTwice, IsValueFault, IsEndFault, IsCaseFault}
use Rattle.function_statements.specs.Switches.{IsSwitchFault}

twice_refuted : (values : List SwitchValue) (v : SwitchValue) → OccursTwice values v → AllPairs (λ x y. x ≢ y) values → ⊥
twice_refuted values v h apart =
    apart h.first h.again v h.behind (slice_get_within values h.again v h.stands_again)
    (get_or_from_slice_get values h.first v v h.stands ∙ sym (get_or_from_slice_get values h.again v v h.stands_again))

value_refuted : (kind : ScalarKind) (cases : PlainCases) (e : FunctionError) → IsValueFault kind (case_values cases) e → CasesOK kind cases → ⊥
value_refuted kind cases error.ConflictingCaseType fault ok = fault.2 (ok.fit fault.0 fault.1)
value_refuted kind cases (error.ConflictingSwitchCase v) fault ok = twice_refuted (case_values cases) v fault.0 ok.differ
value_refuted kind cases error.MultipleDefaultCases fault ok = twice_refuted (case_values cases) Default fault ok.differ
value_refuted kind cases _ fault ok = fault

end_refuted : (kind : ScalarKind) (cases : PlainCases) (e : FunctionError) → IsEndFault cases e → CasesOK kind cases → ⊥
end_refuted kind cases error.MissingDefaultCase fault ok = fault ok.default
end_refuted kind cases error.LastCaseFallTrough fault ok = true≢false (sym fault ∙ ok.ends)
end_refuted kind cases _ fault ok = fault

pub cases_refuted : (kind : ScalarKind) (cases : PlainCases) (e : FunctionError) → IsCaseFault kind cases e → CasesOK kind cases → ⊥
cases_refuted kind cases e (inl fault) ok = value_refuted kind cases e fault ok
cases_refuted kind cases e (inr fault) ok = end_refuted kind cases e fault ok

-- it is not made of integers
selector_refuted : (o : Option Shaped) (cases : PlainCases) → ¬ IsSomeAnd o (λ x. IsInteger x.scalar.kind)
    → IsSomeAnd o (λ x. IsInteger x.scalar.kind × CasesOK x.scalar.kind cases) → ⊥
selector_refuted None cases other ok = ok
selector_refuted (Some x) cases other ok = other ok.0

-- the cases of a selector of this kind are not as they should be
selected_refuted : (o : Option Shaped) (kind : ScalarKind) (cases : PlainCases) (e : FunctionError) → IsSomeAnd o (λ x. (x.scalar.kind ≡ kind) × IsInteger kind)
    → IsCaseFault kind cases e → IsSomeAnd o (λ x. IsInteger x.scalar.kind × CasesOK x.scalar.kind cases) → ⊥
selected_refuted None kind cases e selects fault ok = ok
selected_refuted (Some x) kind cases e selects fault ok = cases_refuted kind cases e fault (subst (λ k. CasesOK k cases) selects.0 ok.1)

switch_refuted : (c : BlockContext) (selector : ℕ) (cases : PlainCases) (e : FunctionError) → IsSwitchFault c selector cases e → SwitchOK (form_at c selector) cases → ⊥
switch_refuted c selector cases (error.InvalidSwitchType x) (inl fault) ok = selector_refuted (shaped_of (form_at c selector)) cases fault.1 ok
switch_refuted c selector cases _ (inl fault) ok = fault
switch_refuted c selector cases e (inr fault) ok = selected_refuted (shaped_of (form_at c selector)) fault.0 cases e fault.1 fault.2 ok

pub faults_refute_lem : FaultsRefute
faults_refute_lem c e = record {
  cases = λ kind cases. cases_refuted kind cases e;
  switch = λ selector cases. switch_refuted c selector cases e;
}
