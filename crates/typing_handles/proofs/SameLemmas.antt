-- The operand lists with uses have the handles of the lists without.
use Rattle.std.proofs.Common.{◌≡◌, inl, inr, ℕ, ◌<◌, List, ◌∷◌, map, Option, Some, None, option_map, All, refl, sym, ap, subst, []}
use Rattle.std.specs.List.{cons_option}
use Rattle.std.proofs.lemmas.List.Elements.{All-cons, All-nil, All-head, All-tail}
use Rattle.typing_rules.specs.judged.Laws.{IsAmong}
use Rattle.spec_expressions.specs.judged.OperandUses.{Operand, operand, operands_in, expression_uses}
use Rattle.spec_expressions.specs.declared.operand.Usage.TheVariants.{Read}
use Rattle.spec_expressions.specs.judged.Operands.{Operands, these, each_of, handles_of as handles_in}
use Rattle.spec_expressions.specs.judged.Kinds.{expression_slots}
use Rattle.spec_expressions.specs.declared.operand.Slot.{Slot}
use Rattle.spec_expressions.specs.declared.operand.Usage.{Usage}
use Rattle.typing_handles.specs.SameOperands.{handles_of, SameOperands, SameOrder}

-- one optional operand, followed by others
by_one : (usage : Usage) (handle : Option ℕ) (rest : List Operand) (more : List ℕ) → handles_of rest ≡ more
    → handles_of (cons_option (option_map (operand usage) handle) rest) ≡ cons_option handle more
by_one usage None rest more e = e
by_one usage (Some h) rest more e = ap (λ l. h ∷ l) e

by_slots : (slots : List Slot) → handles_of (operands_in (these slots)) ≡ handles_in (these slots)
by_slots [] = refl
by_slots (slot ∷ rest) = by_one slot.usage slot.handle (operands_in (these rest)) (handles_in (these rest)) (by_slots rest)

all_read : (components : List ℕ) → handles_of (map (operand Read) components) ≡ components
all_read [] = refl
all_read (h ∷ rest) = ap (λ l. h ∷ l) (all_read rest)

same : (operands : Operands) → handles_of (operands_in operands) ≡ handles_in operands
same (these slots) = by_slots slots
same (each_of when handles) = all_read handles

pub same_operands : SameOperands
same_operands x = same (expression_slots x)

-- ---- membership in either form

among_all : (end : ℕ) (xs : List Operand) → All (λ o. o < end) (handles_of xs) → (operand : Operand) → IsAmong operand xs → operand.handle < end
among_all end (y ∷ ys) all operand (inl same) =
    subst (λ (o : Operand). o.handle < end) same (All-head (λ o. o < end) y.handle (handles_of ys) all)
among_all end (y ∷ ys) all operand (inr more) = among_all end ys (All-tail (λ o. o < end) y.handle (handles_of ys) all) operand more
among_all end [] all operand h = absurd h

all_among : (end : ℕ) (xs : List Operand) → ((operand : Operand) → IsAmong operand xs → operand.handle < end) → All (λ o. o < end) (handles_of xs)
all_among end [] h = All-nil (λ o. o < end)
all_among end (y ∷ ys) h = All-cons (λ o. o < end) y.handle (handles_of ys) (h y (inl refl)) (all_among end ys (λ operand more. h operand (inr more)))

pub same_order : SameOrder
same_order expressions = (
  (λ precede e expression operand at among.
      among_all e (expression_uses expression) (subst (λ l. All (λ o. o < e) l) (sym (same_operands expression)) (precede e expression at)) operand among),
  (λ precede e expression at.
      subst (λ l. All (λ o. o < e) l) (same_operands expression) (all_among e (expression_uses expression) (λ operand among. precede e expression operand at among))),
)
