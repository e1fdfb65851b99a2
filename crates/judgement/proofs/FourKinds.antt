-- The four flags of uses of global variables.
use Rattle.std.proofs.Common.{◌≡◌, ◌<◌, inl, inr, ℕ, ◌+◌, List, ◌∷◌, ◌++◌, map, Option, Some, None, option_map, subst, sym, ◌∙◌, arith, []}
use Rattle.std.proofs.lemmas.Bool.{cases_lt}
use Rattle.std.proofs.lemmas.Nat.Bits.{bit_at_above}
use Rattle.std.specs.Int.{bit_at}
use Rattle.std.specs.List.{cons_option}
use Rattle.spec_expressions.specs.declared.global_use.TheConstants.GlobalUse.{QUERY}
use Rattle.ir_blocks.specs.judged.Plain.{PlainStatement, emit, block, if_, switch, loop, break, continue, return, kill, operation, call, PlainBlock, stop, next, PlainCases, no_case, case}
use Rattle.ir_types.specs.judged.ExpressionPlain.{PlainExpression, plain}
use Rattle.ir_types.specs.declared.expressions.Expression.TheVariants as x
use Rattle.ir_items.specs.judged.Plain.{PlainFunction, PlainModule}
use Rattle.typing_rules.specs.judged.Laws.{IsAmong}
use Rattle.spec_expressions.specs.judged.CallChains.{chain_end, UsesDirectly, HasUse}
use Rattle.spec_expressions.specs.judged.Effects.{Effect, takes, samples, runs, discards, sampling_at, expression_effects, expressions_effects, leaving_effects, statement_effects, effects_in, effects_inside, effects_in_cases, effects_of}
use Rattle.spec_expressions.specs.judged.OperandUses.{Operand, bits_of, operand, operands_in, expression_uses, statement_uses}
use Rattle.spec_expressions.specs.judged.Operands.{Operands, these, each_of}
use Rattle.spec_expressions.specs.judged.Kinds.{expression_slots, statement_slots}
use Rattle.spec_expressions.specs.declared.operand.Slot.{Slot}
use Rattle.spec_expressions.specs.declared.operand.Usage.{Usage}
use Rattle.spec_expressions.specs.declared.operand.Usage.TheVariants.{Base, Read, Write, ReadWrite, Query, Atomic}

-- ---- operands

-- each makes a use with these flags alone
abbrev AreKinds : List Operand → Type 0
AreKinds [] = Unit {0}
AreKinds (o ∷ os) = (o.use_bits < 16) × AreKinds os

is_kind : (usage : Usage) → bits_of usage < 16
is_kind Base = omega arith
is_kind Read = omega arith
is_kind Write = omega arith
is_kind ReadWrite = (let lt : 3 < 16 = omega arith in lt)
is_kind Query = omega arith
is_kind Atomic = omega arith

one_given : (usage : Usage) (handle : Option ℕ) (os : List Operand) → AreKinds os → AreKinds (cons_option (option_map (operand usage) handle) os)
one_given usage None os are = are
one_given usage (Some h) os are = (is_kind usage, are)

all_given : (slots : List Slot) → AreKinds (operands_in (these slots))
all_given [] = tt
all_given (slot ∷ rest) = one_given slot.usage slot.handle (operands_in (these rest)) (all_given rest)

all_read : (hs : List ℕ) → AreKinds (map (operand Read) hs)
all_read [] = tt
all_read (h ∷ hs) = (is_kind Read, all_read hs)

of_operands : (operands : Operands) → AreKinds (operands_in operands)
of_operands (these slots) = all_given slots
of_operands (each_of when handles) = all_read handles

-- ---- effects

abbrev IsKind : Effect → Type 0
IsKind (takes o) = o.use_bits < 16
IsKind (samples expression image sampler) = Unit {0}
IsKind (runs function arguments) = Unit {0}
IsKind discards = Unit {0}

abbrev AllKinds : List Effect → Type 0
AllKinds [] = Unit {0}
AllKinds (e ∷ es) = IsKind e × AllKinds es

join : (es fs : List Effect) → AllKinds es → AllKinds fs → AllKinds (es ++ fs)
join [] fs a b = b
join (e ∷ es) fs a b = (a.0, join es fs a.1 b)

taken : (os : List Operand) → AreKinds os → AllKinds (map takes os)
taken [] a = tt
taken (o ∷ os) a = (a.0, taken os a.1)

of_sampling : (e : ℕ) (v : PlainExpression) → AllKinds (sampling_at e v)
of_sampling e (plain (x.ImageSample image sampler gathers coordinate array_index offset level depth_ref clamp_to_edge)) = (tt, tt)
of_sampling e _ = tt

in_expressions : (e : ℕ) (vs : List PlainExpression) → AllKinds (expressions_effects e vs)
in_expressions e [] = tt
in_expressions e (v ∷ vs) =
    join (expression_effects e v) (expressions_effects (e + 1) vs) (join (map takes (expression_uses v)) (sampling_at e v) (taken (expression_uses v) (of_operands (expression_slots v))) (of_sampling e v)) (in_expressions (e + 1) vs)

of_leaving : (s : PlainStatement) → AllKinds (leaving_effects s)
of_leaving (emit first end) = tt
of_leaving (block body) = tt
of_leaving (if_ condition accept reject) = tt
of_leaving (switch selector cases) = tt
of_leaving (loop body continuing break_if) = tt
of_leaving break = tt
of_leaving continue = tt
of_leaving (return value) = tt
of_leaving kill = (tt, tt)
of_leaving (operation a) = tt
of_leaving (call function arguments result) = (tt, tt)

of_own : (s : PlainStatement) → AllKinds (statement_effects s)
of_own s = join (map takes (statement_uses s)) (leaving_effects s) (taken (statement_uses s) (of_operands (statement_slots s))) (of_leaving s)

mutual
  in_block : (b : PlainBlock) → AllKinds (effects_in b)
  in_block stop = tt
  in_block (next s rest) = join (statement_effects s ++ effects_inside s) (effects_in rest) (join (statement_effects s) (effects_inside s) (of_own s) (inside s)) (in_block rest)

  inside : (s : PlainStatement) → AllKinds (effects_inside s)
  inside (emit first end) = tt
  inside (block body) = in_block body
  inside (if_ condition accept reject) = join (effects_in accept) (effects_in reject) (in_block accept) (in_block reject)
  inside (switch selector cases) = in_cases cases
  inside (loop body continuing break_if) = join (effects_in body) (effects_in continuing) (in_block body) (in_block continuing)
  inside break = tt
  inside continue = tt
  inside (return value) = tt
  inside kill = tt
  inside (operation a) = tt
  inside (call function arguments result) = tt

  in_cases : (cs : PlainCases) → AllKinds (effects_in_cases cs)
  in_cases no_case = tt
  in_cases (case value body falls rest) = join (effects_in body) (effects_in_cases rest) (in_block body) (in_cases rest)

in_function : (f : PlainFunction) → AllKinds (effects_of f)
in_function f = join (expressions_effects 0 f.expressions) (effects_in f.body) (in_expressions 0 f.expressions) (in_block f.body)

kind_among : (es : List Effect) (e : Effect) → AllKinds es → IsAmong e es → IsKind e
kind_among [] e all among = elim among [ ]
kind_among (d ∷ es) e all (inl is) = subst IsKind is all.0
kind_among (d ∷ es) e all (inr later) = kind_among es e all.1 later

-- ---- uses

bit_of_kind : (n k : ℕ) → n < 16 → bit_at n k ≡ 1 → k < 4
bit_of_kind n k lt bit = elim (cases_lt k 4) [
  | inl less ↦ less
  | inr le ↦ (let z : bit_at n k ≡ 0 = bit_at_above n 4 k lt (omega (arith, le)) in let one_is : 0 ≡ 1 = sym z ∙ bit in absurd (omega (arith, one_is)))
]

direct_kind : (g k : ℕ) (f : PlainFunction) → UsesDirectly g k f → k < 4
direct_kind g k f u = bit_of_kind u.operand.use_bits k (kind_among (effects_of f) (takes u.operand) (in_function f) u.taken) u.bit

-- a use of a global variable has one of four flags
pub use_kind : (m : PlainModule) (f : PlainFunction) (g k : ℕ) → HasUse m f g k → k < 4
use_kind m f g k (inl r) = direct_kind g k (chain_end f r.chain) r.holds
use_kind m f g k (inr q) = bit_of_kind QUERY.0 k (omega arith) q.0
