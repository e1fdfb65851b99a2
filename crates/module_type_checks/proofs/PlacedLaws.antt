-- The errors of a member at its index.
use Rattle.std.proofs.Common.{◌≡◌, ◌≢◌, ◌<◌, ◌≤◌, ◌+◌, ◌-◌, ◌⊎◌, inl, inr, ℕ, suc, List, [], ◌∷◌, Option, Some, None, IfSome, map, length, slice_get, get_or, refl, sym, ap, subst, ◌∙◌, arith}
use Rattle.ir_types.specs.judged.Plain.{PlainMember, member_view}
use Rattle.ir_types.specs.declared.types.StructMember.{StructMember}
use Rattle.typing_layout.specs.judged.Flags.{HasFlag, Data, Sized}
use Rattle.typing_layout.specs.judged.Parts.{TreeMember, item_before, end_of}
use Rattle.typing_layout.specs.judged.Structs.{MemberOK}
use Rattle.typing_layout.specs.judged.Layout.{size}
use Rattle.module_type_checks.specs.Known.{tree_in, types_in, AreFacts}
use Rattle.module_type_checks.specs.Placed.{parts_in, part_of, IsPlaced, IsBefore, end_after, PlacedOK}
use Rattle.module_type_checks.specs.declared.context.TypeContext.{TypeContext}
use Rattle.module_type_checks.specs.declared.members.Placed.{Placed}
use Rattle.typing_layout.specs.found.MemberFaults.{EndsPast}
use Rattle.module_type_checks.proofs.Places.{plain_at, part_at, many_parts, many_plain, before_is}

pub placed_at : (c : TypeContext) (ms : List StructMember) (k : ℕ) (m : StructMember) (placed : Placed) → k < length ms → m ≡ get_or ms k m → placed.ty ≡ m.ty → placed.offset ≡ m.offset
    → AreFacts c (tree_in c m.ty) placed.facts → IsPlaced c (map member_view ms) k placed
placed_at c ms k m placed lt is of begins facts =
    let at : slice_get (map member_view ms) k ≡ Some (member_view m) = plain_at ms k m lt ∙ ap (λ x. Some (member_view x)) (sym is) in
    record { m = member_view m; at = at; part = part_at (tree_in c) (map member_view ms) k (member_view m) at; told = record { of = of; begins = begins; facts = facts } }

pub placed_before : (c : TypeContext) (ms : List PlainMember) (k : ℕ) (placed : Placed) → (k ≢ 0) → IsPlaced c ms (k - 1) placed → IsBefore c ms k placed
placed_before c ms k placed some at = record { m = at.m; at = before_is ms k some ∙ at.at; part = before_is (parts_in c ms) k some ∙ at.part; told = at.told }

-- there is no member before the first, and the facts about any other have its end offset
pub free_none : (c : TypeContext) (ms : List PlainMember) (k n : ℕ) → k ≡ 0 → end_after (item_before (parts_in c ms) k) ≤ n
free_none c ms k n none = subst (λ j. end_after (item_before (parts_in c ms) j) ≤ n) (sym none) (omega arith)

pub free_behind_it : (c : TypeContext) (ms : List PlainMember) (k n end : ℕ) (placed : Placed) → IsBefore c ms k placed → end ≡ placed.offset + placed.facts.size → end ≤ n
    → end_after (item_before (parts_in c ms) k) ≤ n
free_behind_it c ms k n end placed at is le =
    let same : end ≡ end_after (item_before (parts_in c ms) k) = is ∙ (λ i. at.told.begins i + at.told.facts.bytes i) ∙ ap end_after (sym at.part) in
    subst (λ e. e ≤ n) same le

pub overlaps : (c : TypeContext) (ms : List PlainMember) (k n end : ℕ) (placed : Placed) → IsBefore c ms k placed → end ≡ placed.offset + placed.facts.size → n < end
    → (a : PlainMember) × (item_before ms k ≡ Some a) × EndsPast (types_in c) a n
overlaps c ms k n end placed at is lt =
    (at.m, at.at, record { past = subst (λ e. n < e) (is ∙ (λ i. at.told.begins i + at.told.facts.bytes i)) lt })

-- the end offset is not past a bound
behind_ends : (o : Option TreeMember) (n : ℕ) → end_after o ≤ n → IfSome o (λ a. end_of a ≤ n)
behind_ends None n le = tt
behind_ends (Some a) n le = le

ordered_by : (o : Option TreeMember) (n : ℕ) → ((n ≡ 0) ⊎ (end_after o ≤ n)) → IfSome o (λ a. end_of a ≤ n) ⊎ (n ≡ 0)
ordered_by o n (inl none) = inr none
ordered_by o n (inr le) = inl (behind_ends o n le)

placed_fits : (c : TypeContext) (ms : List PlainMember) (span k : ℕ) (placed : Placed) → IsPlaced c ms k placed → HasFlag Data (tree_in c placed.ty)
    → (suc k < length (parts_in c ms) → HasFlag Sized (tree_in c placed.ty)) → ((placed.offset ≡ 0) ⊎ (end_after (item_before (parts_in c ms) k) ≤ placed.offset))
    → placed.offset + placed.facts.size ≤ span → PlacedOK c ms span k
placed_fits c ms span k placed at stored sized ordered within p e =
    subst (MemberOK (parts_in c ms) span k) same
    (record {
      stored = subst (λ h. HasFlag Data (tree_in c h)) at.told.of stored;
      sized = λ lt. subst (λ h. HasFlag Sized (tree_in c h)) at.told.of (sized lt);
      ordered = subst (λ n. IfSome (item_before (parts_in c ms) k) (λ a. end_of a ≤ n) ⊎ (n ≡ 0)) at.told.begins (ordered_by (item_before (parts_in c ms) k) placed.offset ordered);
      within = subst (λ n. n + size (tree_in c at.m.ty) ≤ span) at.told.begins (subst (λ n. placed.offset + n ≤ span) at.told.facts.bytes within);
    })
  where
    same : part_of (tree_in c) at.m ≡ p
    same = let a = at.part in let b = e in cc

pub placed_ok : (c : TypeContext) (ms : List StructMember) (span k : ℕ) (placed : Placed) → IsPlaced c (map member_view ms) k placed → HasFlag Data (tree_in c placed.ty)
    → (suc k < length ms → HasFlag Sized (tree_in c placed.ty)) → ((placed.offset ≡ 0) ⊎ (end_after (item_before (parts_in c (map member_view ms)) k) ≤ placed.offset))
    → placed.offset + placed.facts.size ≤ span → PlacedOK c (map member_view ms) span k
placed_ok c ms span k placed at stored sized ordered within =
    placed_fits c (map member_view ms) span k placed at stored
    (λ lt. sized (let many : length (parts_in c (map member_view ms)) ≡ length ms = many_parts (tree_in c) (map member_view ms) ∙ many_plain ms in omega (arith, lt, many))) ordered within

pub parts_some : (c : TypeContext) (ms : List StructMember) → (ms ≢ []) → parts_in c (map member_view ms) ≢ []
parts_some c [] some e = some refl
parts_some c (m ∷ ms) some e = cc
