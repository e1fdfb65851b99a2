-- A bit is left by a body exactly where it was there, and each statement has it.
use Rattle.std.proofs.Common.{◌≡◌, ◌↔◌, ℕ, zero, suc, List, refl, sym, subst}
use Rattle.std.specs.Int.RustNames.{bit_and}
use Rattle.ir_blocks.specs.judged.Places.{Place, here, later, inside, condition, OccursAt}
use Rattle.ir_blocks.specs.judged.Plain.{PlainStatement, emit, block, if_, switch, loop, break, continue, return, kill, operation, call, PlainBlock, stop, next, PlainCases, no_case, case}
use Rattle.ir_blocks.specs.judged.Shapes.{shape_of, Part, inner, accepting, rejecting, case_at, loop_body, loop_continuing, case_body, part_of}
use Rattle.ir_flags.proofs.SetLaws.{within-intersection, within-over, intersection-within_left, intersection-within_right}
use Rattle.ir_flags.specs.Sets.{Has}
use Rattle.ir_flags.specs.declared.stages.ShaderStages.{ShaderStages}
use Rattle.function_interface.specs.Bodies.{MayRun}
use Rattle.function_interface.specs.Left.{left_in, left_within, left_in_cases}
use Rattle.spec_statements.specs.judged.ExpressionStages.{all_stages}
use Rattle.spec_statements.specs.judged.Stages.{statement_stages}

left_has : (a b x : ℕ) → Has (bit_and a b) x → Has a x
left_has a b x h = within-over x (bit_and a b) a h (intersection-within_left a b)

right_has : (a b x : ℕ) → Has (bit_and a b) x → Has b x
right_has a b x h = within-over x (bit_and a b) b h (intersection-within_right a b)

both : (a b x : ℕ) → Has a x → Has b x → Has (bit_and a b) x
both a b x h g = within-intersection a b x h g

none_in_stop : (p : Place) (s : PlainStatement) → OccursAt stop p s → ⊥
none_in_stop here s e = let x = e in cc
none_in_stop (later p) s e = let x = e in cc
none_in_stop (inside part p) s e = let x = e in cc
none_in_stop condition s e = let x = e in cc

module _ (set : PlainStatement → ℕ) (x : ℕ) where
  abbrev EachHas : PlainBlock → Type 0
  EachHas b = (p : Place) (u : PlainStatement) → OccursAt b p u → Has (set u) x

  -- what is left was there
  mutual
    was_in : (left : ℕ) (b : PlainBlock) → Has (left_in set left b) x → Has left x
    was_in left stop h = h
    was_in left (next s rest) h = left_has left (set s) x (was_within _ s (was_in _ rest h))

    was_within : (left : ℕ) (s : PlainStatement) → Has (left_within set left s) x → Has left x
    was_within left (emit first end) h = h
    was_within left (block b) h = was_in _ b h
    was_within left (if_ test accept reject) h = was_in _ accept (was_in _ reject h)
    was_within left (switch selector cases) h = was_in_cases _ cases h
    was_within left (loop body continuing break_if) h = was_in _ body (was_in _ continuing h)
    was_within left break h = h
    was_within left continue h = h
    was_within left (return value) h = h
    was_within left kill h = h
    was_within left (operation a) h = h
    was_within left (call function arguments result) h = h

    was_in_cases : (left : ℕ) (cs : PlainCases) → Has (left_in_cases set left cs) x → Has left x
    was_in_cases left no_case h = h
    was_in_cases left (case value body falls rest) h = was_in left body (was_in_cases _ rest h)

  -- in a part of a statement it is left of what was there before it
  abbrev LeftOfSome : PlainBlock → Type 0
  LeftOfSome b = (before : ℕ) × Has (left_in set before b) x

  case_left : (cs : PlainCases) (k left : ℕ) → Has (left_in_cases set left cs) x → LeftOfSome (case_body cs k)
  case_left no_case k left h = (left, h)
  case_left (case value body falls rest) zero left h = (left, was_in_cases _ rest h)
  case_left (case value body falls rest) (suc k) left h = case_left rest k (left_in set left body) h

  part_left : (left : ℕ) (s : PlainStatement) (part : Part) → Has (left_within set left s) x → LeftOfSome (part_of (shape_of s) part)
  part_left left (emit first end) part h = (left, h)
  part_left left (block b) inner h = (left, h)
  part_left left (block b) _ h = (left_in set left b, h)
  part_left left (if_ test accept reject) accepting h = (left, was_in _ reject h)
  part_left left (if_ test accept reject) rejecting h = (left_in set left accept, h)
  part_left left (if_ test accept reject) _ h = (left_in set (left_in set left accept) reject, h)
  part_left left (switch selector cases) (case_at k) h = case_left cases k left h
  part_left left (switch selector cases) _ h = (left_in_cases set left cases, h)
  part_left left (loop body continuing break_if) loop_body h = (left, was_in _ continuing h)
  part_left left (loop body continuing break_if) loop_continuing h = (left_in set left body, h)
  part_left left (loop body continuing break_if) _ h = (left_in set (left_in set left body) continuing, h)
  part_left left break part h = (left, h)
  part_left left continue part h = (left, h)
  part_left left (return value) part h = (left, h)
  part_left left kill part h = (left, h)
  part_left left (operation a) part h = (left, h)
  part_left left (call function arguments result) part h = (left, h)

  each_has : (p : Place) (left : ℕ) (b : PlainBlock) → Has (left_in set left b) x → (u : PlainStatement) → OccursAt b p u → Has (set u) x
  each_has p left stop h u at = absurd (none_in_stop p u at)
  each_has here left (next s rest) h u at =
      let same : s ≡ u = (let e = at in cc) in
      subst (λ z. Has (set z) x) same (right_has left (set s) x (was_within _ s (was_in _ rest h)))
  each_has (later p) left (next s rest) h u at = each_has p _ rest h u at
  each_has (inside part p) left (next s rest) h u at =
      let before = part_left (bit_and left (set s)) s part (was_in _ rest h) in
      each_has p before.0 (part_of (shape_of s) part) before.1 u at
  each_has condition left (next s rest) h u at = let e = at in cc

  mutual
    stays_in : (left : ℕ) (b : PlainBlock) → Has left x → EachHas b → Has (left_in set left b) x
    stays_in left stop h each = h
    stays_in left (next s rest) h each =
        stays_in _ rest (stays_within _ s (both left (set s) x h (each here s refl)) (λ part p u at. each (inside part p) u at)) (λ p u at. each (later p) u at)

    stays_within : (left : ℕ) (s : PlainStatement) → Has left x → ((part : Part) → EachHas (part_of (shape_of s) part)) → Has (left_within set left s) x
    stays_within left (emit first end) h each = h
    stays_within left (block b) h each = stays_in left b h (each inner)
    stays_within left (if_ test accept reject) h each = stays_in _ reject (stays_in left accept h (each accepting)) (each rejecting)
    stays_within left (switch selector cases) h each = stays_in_cases left cases h (λ k. each (case_at k))
    stays_within left (loop body continuing break_if) h each = stays_in _ continuing (stays_in left body h (each loop_body)) (each loop_continuing)
    stays_within left break h each = h
    stays_within left continue h each = h
    stays_within left (return value) h each = h
    stays_within left kill h each = h
    stays_within left (operation a) h each = h
    stays_within left (call function arguments result) h each = h

    stays_in_cases : (left : ℕ) (cs : PlainCases) → Has left x → ((k : ℕ) → EachHas (case_body cs k)) → Has (left_in_cases set left cs) x
    stays_in_cases left no_case h each = h
    stays_in_cases left (case value body falls rest) h each = stays_in_cases _ rest (stays_in left body h (each zero)) (λ k. each (suc k))

  pub left_exactly : (left : ℕ) (b : PlainBlock) → Has (left_in set left b) x ↔ (Has left x × EachHas b)
  left_exactly left b = (
    (λ h. (was_in left b h, λ p u at. each_has p left b h u at)),
    (λ h. stays_in left b h.0 h.1),
  )

pub run_by : (subgroups : ShaderStages) (callees : List ShaderStages) (b : PlainBlock) (all answer stage : ℕ) → all ≡ all_stages.0 → answer ≡ left_in (λ u. (statement_stages subgroups callees u).0) all b
    → Has answer stage ↔ MayRun subgroups callees b stage
run_by subgroups callees b all answer stage begins is =
    let exactly = left_exactly (λ u. (statement_stages subgroups callees u).0) stage all b in (
      (λ h. let two = exactly.0 (subst (λ n. Has n stage) is h) in record { known = subst (λ n. Has n stage) begins two.0; each = two.1 }),
      (λ may. subst (λ n. Has n stage) (sym is) (exactly.1 (subst (λ n. Has n stage) (sym begins) may.known, may.each))),
    )
