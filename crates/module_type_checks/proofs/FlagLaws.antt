-- The flags of arrays and structs, from those of their parts.
use Rattle.std.proofs.Common.{◌≡◌, ◌↔◌, ◌≤◌, ◌+◌, ℕ, zero, suc, List, [], ◌∷◌, Option, Some, None, Bool, IsTrue, IsSome, IfSome, map, length, slice_get, refl, sym, subst, ◌∙◌, arith, bit_and, true≢false, inl, inr, nat_le}
use Rattle.std.proofs.lemmas.Bool.Decides.{leb_tells}
use Rattle.ir_flags.specs.Sets.{Has}
use Rattle.ir_types.specs.judged.Plain.{PlainMember, member_view}
use Rattle.ir_types.specs.declared.types.ArraySize.{ArraySize}
use Rattle.ir_types.specs.declared.types.StructMember.{StructMember}
use Rattle.module_type_checks.proofs.Sets.{by_flags, both_have}
use Rattle.module_type_checks.specs.Sets.{AreOf, HostIf, AreKept, IoIs, AreShared, AreCommon, CommonBelow, Follows}
use Rattle.typing_layout.specs.judged.Blends.{HasSource, source_at}
use Rattle.typing_layout.specs.judged.Flags.{TypeFlag, bit, array_flags, HasFlag, AllHave, StructHas, HasBlendSource, IsInOrder, blend_source, Data, Sized, Copy, IoShareable, HostShareable, CreationResolved, Argument, Constructible}
use Rattle.typing_layout.specs.judged.Parts.{TreeMember, member_list, item_before, end_of}
use Rattle.typing_layout.specs.judged.Tree.{Tree, Members, no_members, member, array, struct}
use Rattle.typing_layout.specs.judged.View.{members_by}
use Rattle.module_type_checks.proofs.Places.{part_at, below_none, below_more, below_all}
use Rattle.module_type_checks.specs.Known.{tree_in}
use Rattle.module_type_checks.specs.Placed.{parts_in, part_of, IsPlaced, IsBefore, AtPlace, Below}
use Rattle.module_type_checks.specs.declared.context.TypeContext.{TypeContext}
use Rattle.module_type_checks.specs.declared.members.Placed.{Placed}
use Rattle.typing_layout.specs.found.Infos.{AreFlags}
use Rattle.typing_layout.specs.declared.type_flags.TypeFlags.{TypeFlags}

pub array_are : (base new : TypeFlags) (mask : ℕ) (n : ArraySize) → new.0 ≡ bit_and base.0 mask → AreOf mask (array_flags n) → (t : Tree) (stride : ℕ) → AreFlags base t → AreFlags new (array t n stride)
array_are base new mask n is of t stride flags f =
    let two = both_have base.0 mask (bit f) in
    ((λ h. let hs = two.0 (subst (λ s. Has s (bit f)) is h) in ((flags f).0 hs.0, (of.each f).0 hs.1)), (λ h. subst (λ s. Has s (bit f)) (sym is) (two.1 ((flags f).1 h.0, (of.each f).1 h.1))))

-- ---- all members

have_each : (f : TypeFlag) (ms : Members) → AllHave f ms → (k : ℕ) → AtPlace (λ k p. HasFlag f p.of_type) (member_list ms) k
have_each f no_members h k p e = cc
have_each f (member t b o ms) h zero p e = let q : record { of_type = t; binding = b; offset = o } ≡ p = cc in subst (λ (x : TreeMember). HasFlag f x.of_type) q h.0
have_each f (member t b o ms) h (suc k) p e = have_each f ms h.1 k p e

each_have : (f : TypeFlag) (ms : Members) → ((k : ℕ) → AtPlace (λ k p. HasFlag f p.of_type) (member_list ms) k) → AllHave f ms
each_have f no_members h = tt
each_have f (member t b o ms) h = (let here : TreeMember = record { of_type = t; binding = b; offset = o } in h 0 here refl, each_have f ms (λ k. h (suc k)))

all_flags : (f : TypeFlag) → Has 255 (bit f)
all_flags = by_flags (λ f. Has 255 (bit f)) refl refl refl refl refl refl refl refl

pub common_none : (c : TypeContext) (ms : List PlainMember) (set : TypeFlags) (place : ℕ) → set.0 ≡ 255 → place ≡ 0 → CommonBelow c ms set place
common_none c ms set place is first = record { each = λ f. ((λ _. below_none (λ k p. HasFlag f p.of_type) (parts_in c ms) place first), (λ _. subst (λ s. Has s (bit f)) (sym is) (all_flags f))) }

-- the element before an index, if it is the one before the next
earlier : (P : ℕ → TreeMember → Type 0) (ps : List TreeMember) (place : ℕ) → Below P ps (place + 1) → Below P ps place
earlier P ps place b = record { each = λ k lt. b.each k (omega arith) }

pub common_more : (c : TypeContext) (ms : List PlainMember) (set new : TypeFlags) (place : ℕ) (placed : Placed) → CommonBelow c ms set place → IsPlaced c ms place placed
    → new.0 ≡ bit_and set.0 placed.facts.info.flags.0 → CommonBelow c ms new (place + 1)
common_more c ms set new place placed common at is = record {
  each = λ f.
      let two = both_have set.0 placed.facts.info.flags.0 (bit f) in
      let here = at.told.facts.info.flags f in (
        (λ h. let hs = two.0 (subst (λ s. Has s (bit f)) is h) in
            below_more (λ k p. HasFlag f p.of_type) (parts_in c ms) place ((common.each f).0 hs.0)
            (λ p e. let same : part_of (tree_in c) at.m ≡ p = (let a = at.part in let b = e in cc) in subst (λ (x : TreeMember). HasFlag f x.of_type) same (here.0 hs.1))),
        (λ b. subst (λ s. Has s (bit f)) (sym is)
            (two.1 ((common.each f).1 (earlier (λ k p. HasFlag f p.of_type) (parts_in c ms) place b), here.1 (b.each place (omega arith) (part_of (tree_in c) at.m) at.part)))),
      );
}

pub common_all : (c : TypeContext) (ms : List StructMember) (set : TypeFlags) (place : ℕ) → CommonBelow c (map member_view ms) set place → length ms ≤ place → AreCommon c (map member_view ms) set
common_all c ms set place common all = record {
  each = λ f. (
    (λ h. each_have f (members_by (tree_in c) (map member_view ms)) (below_all (λ k p. HasFlag f p.of_type) (tree_in c) ms place ((common.each f).0 h) all)),
    (λ h. (common.each f).1 (record { each = λ k lt. have_each f (members_by (tree_in c) (map member_view ms)) h k })),
  );
}

-- ---- order

pub follows_none : (c : TypeContext) (ms : List PlainMember) (place : ℕ) → place ≡ 0 → AtPlace (Follows (parts_in c ms)) (parts_in c ms) place
follows_none c ms place first p e = subst (λ k. IfSome (item_before (parts_in c ms) k) (λ a. end_of a ≤ p.offset)) (sym first) tt

pub follows_some : (c : TypeContext) (ms : List PlainMember) (place end : ℕ) (here last : Placed) (r : Bool) → IsPlaced c ms place here → IsBefore c ms place last
    → end ≡ last.offset + last.facts.size → IsTrue r ↔ (end ≤ here.offset) → IsTrue r ↔ AtPlace (Follows (parts_in c ms)) (parts_in c ms) place
follows_some c ms place end here last r at behind is tells =
    let ends : end ≡ end_of (part_of (tree_in c) behind.m) = is ∙ (λ i. behind.told.begins i + behind.told.facts.bytes i) in
    let q : TreeMember = part_of (tree_in c) at.m in (
      (λ h p e. let same : q ≡ p = (let a = at.part in let b = e in cc) in
          subst (λ (x : TreeMember). Follows (parts_in c ms) place x) same
          (subst (λ o. IfSome o (λ a. end_of a ≤ q.offset)) (sym behind.part) (subst (λ n. n ≤ q.offset) ends (subst (λ n. end ≤ n) at.told.begins (tells.0 h))))),
      (λ h. tells.1 (subst (λ n. end ≤ n) (sym at.told.begins) (subst (λ n. n ≤ q.offset) (sym ends) (subst (λ o. IfSome o (λ a. end_of a ≤ q.offset)) behind.part (h q at.part))))),
    )

-- ---- blend sources

to_blend : (tree : ℕ → Tree) (ms : List PlainMember) → HasSource ms → HasBlendSource (member_list (members_by tree ms))
to_blend tree ms has = let m = found ms has.0 has.1 has.2 in (has.0, part_of tree m.0, part_at tree ms has.0 m.0 m.1, subst IsSome (sym m.2) refl)
  where
    found : (ms : List PlainMember) (k source : ℕ) → source_at ms k ≡ Some source → (m : PlainMember) × (slice_get ms k ≡ Some m) × (blend_source m.binding ≡ Some source)
    found [] k source e = cc
    found (m ∷ ms) zero source e = (m, refl, e)
    found (m ∷ ms) (suc k) source e = found ms k source e

some_source : (o : Option ℕ) → IsSome o → (x : ℕ) × (o ≡ Some x)
some_source None h = absurd (true≢false (sym h))
some_source (Some x) h = (x, refl)

from_blend : (tree : ℕ → Tree) (ms : List PlainMember) → HasBlendSource (member_list (members_by tree ms)) → HasSource ms
from_blend tree ms has = let s = source ms has.0 has.1 has.2 has.3 in (has.0, s.0, s.1)
  where
    source : (ms : List PlainMember) (k : ℕ) (p : TreeMember) → slice_get (member_list (members_by tree ms)) k ≡ Some p → IsSome (blend_source p.binding) → (x : ℕ) × (source_at ms k ≡ Some x)
    source [] k p e h = cc
    source (m ∷ ms) zero p e h = let same : p ≡ part_of tree m = cc in some_source (blend_source m.binding) (subst (λ (x : TreeMember). IsSome (blend_source x.binding)) same h)
    source (m ∷ ms) (suc k) p e h = source ms k p e h

-- ---- structs

abbrev ForStruct : ℕ → (tree : ℕ → Tree) → List PlainMember → TypeFlag → Type 0
ForStruct set tree ms f = Has set (bit f) ↔ StructHas f (AllHave f (members_by tree ms)) (member_list (members_by tree ms))

pub struct_are : (c : TypeContext) (ms : List PlainMember) (common : TypeFlags) (kept : ℕ) (new : TypeFlags) (in_order blended : Bool) → AreCommon c ms common → IsTrue in_order ↔ IsInOrder (parts_in c ms)
    → AreKept common.0 in_order kept → IsTrue blended ↔ HasSource ms → AreShared kept blended new.0 → (span : ℕ) → AreFlags new (struct (members_by (tree_in c) ms) span)
struct_are c ms common kept new in_order blended has order keeps blends shares span =
    by_flags (ForStruct new.0 (tree_in c) ms) (same Data (λ h. h) (λ h. h) tt) (same Sized (λ h. h) (λ h. h) tt) (same Copy (λ h. h) (λ h. h) tt)
    ((λ h. to_blend (tree_in c) ms (blends.0 ((shares.each IoShareable).0 h))), (λ h. (shares.each IoShareable).1 (blends.1 (from_blend (tree_in c) ms h)))) (
      (λ h. let k = (keeps.each HostShareable).0 ((shares.each HostShareable).0 h) in ((has.each HostShareable).0 k.0, order.0 k.1)),
      (λ h. (shares.each HostShareable).1 ((keeps.each HostShareable).1 ((has.each HostShareable).1 h.0, order.1 h.1))),
    )
    (same CreationResolved (λ h. h) (λ h. h) tt) (same Argument (λ h. h) (λ h. h) tt) (same Constructible (λ h. h) (λ h. h) tt)
  where
    same : (f : TypeFlag) → (IoIs f (Has kept (bit f)) blended → Has kept (bit f)) → (Has kept (bit f) → IoIs f (Has kept (bit f)) blended) → HostIf f in_order
        → Has new.0 (bit f) ↔ AllHave f (members_by (tree_in c) ms)
    same f to from host =
        ((λ h. (has.each f).0 ((keeps.each f).0 (to ((shares.each f).0 h))).0), (λ h. (shares.each f).1 (from ((keeps.each f).1 ((has.each f).1 h, host)))))

-- the result of a comparison
pub le_tells : (a b n : ℕ) → b ≡ n → IsTrue (nat_le a b) ↔ (a ≤ n)
le_tells a b n same =
    subst (λ m. IsTrue (nat_le a b) ↔ (a ≤ m)) same
    (elim (leb_tells a b) [ inl y ↦ ((λ _. y.1), (λ _. y.0)) | inr n ↦ ((λ e. absurd (cc (e, n.0))), (λ le. absurd (omega (arith, n.1)))) ])
