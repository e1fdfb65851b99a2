-- The contents of a tally, and how each effect of a function changes them.
use Rattle.std.specs.Prelude.{◌≡◌, ℕ, ◌+◌, ◌-◌, ◌^◌, min, Bool, true, false, ◌||◌, List, [], ◌∷◌, ◌++◌, map, replicate, Option, Some, None, slice_get, slice_set, slice_index, slice_index_or, ◌==◌}
use Rattle.ir_types.specs.judged.ExpressionPlain.{PlainExpression, plain, expression_view}
use Rattle.ir_types.specs.declared.expressions.Expression.{Expression}
use Rattle.ir_types.specs.declared.expressions.Expression.TheVariants.{GlobalVariable}
use Rattle.ir_blocks.specs.judged.Plain.{PlainStatement, emit, block, if_, switch, loop, break, continue, return, kill, operation, call, PlainBlock, stop, next, PlainCases, no_case, case}
use Rattle.ir_items.specs.found.GlobalView.{values_of}
use Rattle.spec_expressions.specs.declared.global_use.GlobalUse.{GlobalUse}
use Rattle.spec_expressions.specs.declared.global_use.TheConstants.GlobalUse.{QUERY}
use Rattle.spec_expressions.specs.judged.OperandUses.{Operand, expression_uses, statement_uses}
use Rattle.spec_expressions.specs.judged.Values.{known_at}
use Rattle.spec_expressions.specs.judged.Summaries.{Summary, no_use}
use Rattle.typing_infos.specs.Infos.{marked, summary_of}
pub use Rattle.typing_summaries.specs.Pairings.{Paired, paired, with_pair, first_wrong, with_wrong, part_wrong, pair_one, passed_for, pass_up, pass_all_up, sample_one}
use Rattle.typing_summaries.specs.declared.tally.Context.{Context}
use Rattle.typing_summaries.specs.declared.tally.Tally.{Tally}
use Rattle.typing_summaries.specs.declared.counts.Counts.{Counts}

-- ---- counts and uses

pub record Counted : Type 0 where
  pub counts : List ℕ
  pub uses : List GlobalUse

abbrev pub counted : Counts → Counted
counted c = record { counts = c.counts.items; uses = c.uses.items }

abbrev pub bumped : List ℕ → ℕ → List ℕ
bumped counts h = slice_set counts h (min (slice_index counts h + 1) (2 ^ 64 - 1))

abbrev pub take_one : List (Option ℕ) → Operand → Counted → Counted
take_one globals o t = record { counts = bumped t.counts o.handle; uses = marked t.uses (known_at globals o.handle) o.use_bits }

abbrev pub take_all : List (Option ℕ) → List Operand → Counted → Counted
take_all globals [] t = t
take_all globals (o ∷ rest) t = take_all globals rest (take_one globals o t)

-- the uses from this index on, each joined with the other list's use of the same global variable
abbrev pub merged_from : ℕ → List GlobalUse → List GlobalUse → List GlobalUse
merged_from g uses [] = uses
merged_from g uses (other ∷ others) = merged_from (g + 1) (marked uses (Some g) other.0) others

abbrev pub merged : List GlobalUse → List GlobalUse → List GlobalUse
merged uses others = merged_from 0 uses others

-- QUERY is added to a global variable that has no use
abbrev pub queried : (unused : Bool) → List GlobalUse → ℕ → List GlobalUse
queried true uses g = marked uses (Some g) QUERY.0
queried false uses g = uses

-- ---- whole tallies

pub record Tallied : Type 0 where
  pub counted : Counted
  pub paired : Paired
  pub may_kill : Bool

abbrev pub tallied : Tally → Tallied
tallied t = record { counted = counted t.counts; paired = paired t.sampled; may_kill = t.may_kill }

-- the inputs
pub record Known : Type 0 where
  pub expressions : List PlainExpression
  pub globals : List (Option ℕ)
  pub summaries : List Summary

abbrev pub known : Context → Known
known c = record { expressions = map expression_view (values_of c.expressions.now); globals = c.globals.now; summaries = map summary_of c.callees.now }

-- operands of an expression or of a statement
abbrev pub count_all : Known → List Operand → Tallied → Tallied
count_all k operands t = record { counted = take_all k.globals operands t.counted; paired = t.paired; may_kill = t.may_kill }

abbrev pub expression_done : Known → ℕ → PlainExpression → Tallied → Tallied
expression_done k e expression t = record {
  counted = take_all k.globals (expression_uses expression) t.counted;
  paired = sample_one k.expressions e expression t.paired;
  may_kill = t.may_kill;
}

abbrev pub expressions_done : Known → ℕ → List PlainExpression → Tallied → Tallied
expressions_done k e [] t = t
expressions_done k e (expression ∷ rest) t = expressions_done k (e + 1) rest (expression_done k e expression t)

abbrev pub join_summary : Known → List ℕ → Option Summary → Tallied → Tallied
join_summary k arguments None t = t
join_summary k arguments (Some s) t = record {
  counted = record { counts = t.counted.counts; uses = merged t.counted.uses s.uses };
  paired = pass_all_up k.expressions arguments s.pairs t.paired;
  may_kill = t.may_kill || s.may_kill;
}

-- a discard or a call
abbrev pub leave : Known → PlainStatement → Tallied → Tallied
leave k (emit first end) t = t
leave k (block body) t = t
leave k (if_ condition accept reject) t = t
leave k (switch selector cases) t = t
leave k (loop body continuing break_if) t = t
leave k break t = t
leave k continue t = t
leave k (return value) t = t
leave k kill t = record { counted = t.counted; paired = t.paired; may_kill = true }
leave k (operation a) t = t
leave k (call function arguments result) t = join_summary k arguments (slice_get k.summaries function) t

abbrev pub statement_done : Known → PlainStatement → Tallied → Tallied
statement_done k s t = leave k s (count_all k (statement_uses s) t)

abbrev mutual
  pub done_in : Known → PlainBlock → Tallied → Tallied
  done_in k stop t = t
  done_in k (next s rest) t = done_in k rest (done_inside k s (statement_done k s t))

  pub done_inside : Known → PlainStatement → Tallied → Tallied
  done_inside k (emit first end) t = t
  done_inside k (block body) t = done_in k body t
  done_inside k (if_ condition accept reject) t = done_in k reject (done_in k accept t)
  done_inside k (switch selector cases) t = done_in_cases k cases t
  done_inside k (loop body continuing break_if) t = done_in k continuing (done_in k body t)
  done_inside k break t = t
  done_inside k continue t = t
  done_inside k (return value) t = t
  done_inside k kill t = t
  done_inside k (operation a) t = t
  done_inside k (call function arguments result) t = t

  pub done_in_cases : Known → PlainCases → Tallied → Tallied
  done_in_cases k no_case t = t
  done_in_cases k (case value body falls rest) t = done_in_cases k rest (done_in k body t)

-- QUERY is added to each global variable that an expression refers to and that has no use
abbrev pub name_one : PlainExpression → List GlobalUse → List GlobalUse
name_one (plain (GlobalVariable g)) uses = queried ((slice_index_or uses g no_use).0 == 0) uses g
name_one _ uses = uses

abbrev pub name_all : List PlainExpression → List GlobalUse → List GlobalUse
name_all [] uses = uses
name_all (expression ∷ rest) uses = name_all rest (name_one expression uses)

-- the tally and the uses after expressions that are given with their handles
abbrev pub expressions_done_with : Known → List (ℕ × Expression) → Tallied → Tallied
expressions_done_with k [] t = t
expressions_done_with k (h ∷ rest) t = expressions_done_with k rest (expression_done k h.0 (expression_view h.1) t)

abbrev pub name_all_with : List (ℕ × Expression) → List GlobalUse → List GlobalUse
name_all_with [] uses = uses
name_all_with (h ∷ rest) uses = name_all_with rest (name_one (expression_view h.1) uses)

-- zero counts, empty uses, no pairs
abbrev pub nothing_tallied : (expressions globals : ℕ) → Tallied
nothing_tallied expressions globals = record {
  counted = record { counts = replicate expressions 0; uses = replicate globals no_use };
  paired = record { pairs = []; wrong = None };
  may_kill = false;
}

abbrev pub named : Known → Tallied → Tallied
named k t = record {
  counted = record { counts = t.counted.counts; uses = name_all k.expressions t.counted.uses };
  paired = t.paired;
  may_kill = t.may_kill;
}

-- the tally of a function with this body, in a module with this many global variables
abbrev pub whole_tally : Known → (expressions globals : ℕ) → PlainBlock → Tallied
whole_tally k expressions globals body = named k (done_in k body (expressions_done k 0 k.expressions (nothing_tallied expressions globals)))
