-- From the check of a `TypeInner` to that of a type.
use Rattle.std.proofs.Common.{◌≡◌, ◌<◌, ◌≤◌, ℕ, zero, suc, List, [], ◌∷◌, Some, All, Result, Ok, Err, MatchResult, map, length, get_or, sym, subst, arith}
use Rattle.ir_types.specs.judged.Plain.{PlainInner, inner_view, member_view}
use Rattle.ir_types.specs.declared.types.StructMember.{StructMember}
use Rattle.ir_types.specs.declared.types.TypeInner.{TypeInner}
use Rattle.ir_types.specs.declared.types.TypeInner.TheVariants as inner
use Rattle.typing_layout.specs.judged.Blends.{BlendsOK}
use Rattle.typing_layout.specs.judged.Rules.{ShapeOK, TypeOK}
use Rattle.module_type_checks.proofs.Known.{tree_of}
use Rattle.module_type_checks.specs.Checked.{IsInnerOK, AreMembersOK, AreMembersRefused, IsTypeFault}
use Rattle.module_type_checks.specs.Known.{types_in, IsKnown}
use Rattle.module_type_checks.specs.declared.context.TypeContext.{TypeContext}
use Rattle.typing_layout.specs.found.Faults.{IsInnerFault}
use Rattle.typing_layout.specs.declared.type_error.TypeError.{TypeError}
use Rattle.typing_layout.specs.TypingForms.{named_types, inner_at}

all_members : (b : ℕ) (ms : List StructMember) → All (λ named. named < b) (map (λ m. m.ty) (map member_view ms)) → All (λ m. m.ty < b) ms
all_members b [] h k d lt = absurd (omega arith)
all_members b (m ∷ ms) h zero d lt = h zero 0 (omega arith)
all_members b (m ∷ ms) h (suc k) d lt = all_members b ms (λ j e l. h (suc j) e (omega arith)) k d (omega arith)

pub struct_named : (n : ℕ) (i : TypeInner) (members span : _) (ms : List StructMember) → i ≡ inner.Struct members span → ms ≡ members.items
    → All (λ named. named < n) (named_types (inner_view i)) → All (λ m. m.ty < n) ms
struct_named n i members span ms is same all =
    subst (λ xs. All (λ m. m.ty < n) xs) (sym same)
    (all_members n members.items (subst (λ x. All (λ named. named < n) (named_types (inner_view x))) is all))

pub struct_answer : (c : TypeContext) (handle : ℕ) (i : TypeInner) (members span : _) (ms : List StructMember) (r : Result (Unit {0}) TypeError) → i ≡ inner.Struct members span → ms ≡ members.items
    → MatchResult r (λ _. AreMembersOK c (map member_view ms) span) (AreMembersRefused c (map member_view ms) span)
    → MatchResult r (λ _. IsInnerOK c (inner_view i)) (IsInnerFault c.capabilities c.overrides_resolved (types_in c) handle (inner_view i))
struct_answer c handle i members span ms (Ok u) is same h = subst (λ x. IsInnerOK c (inner_view x)) (sym is) (subst (λ xs. AreMembersOK c (map member_view xs) span) same h)
struct_answer c handle i members span ms (Err e) is same h =
    subst (λ x. IsInnerFault c.capabilities c.overrides_resolved (types_in c) handle (inner_view x) e) (sym is) (subst (λ xs. AreMembersRefused c (map member_view xs) span e) same h)

pub names_within : (c : TypeContext) (handle : ℕ) (i : PlainInner) → IsKnown c → handle ≤ length c.infos.now → Some i ≡ inner_at (types_in c) handle
    → All (λ named. named < length c.infos.now) (named_types i)
names_within c handle i known le at k d lt = let h : get_or (named_types i) k d < handle = known.back.each handle i (sym at) k d lt in omega (arith, h, le)

pub type_answer : (c : TypeContext) (handle : ℕ) (i : PlainInner) (r : Result (Unit {0}) TypeError) → IsKnown c → Some i ≡ inner_at (types_in c) handle
    → MatchResult r (λ _. IsInnerOK c i) (IsInnerFault c.capabilities c.overrides_resolved (types_in c) handle i)
    → MatchResult r (λ _. TypeOK c.capabilities c.overrides_resolved (types_in c) handle) (IsTypeFault c handle)
type_answer c handle i (Ok u) known at h = record {
  shape = subst (ShapeOK c.capabilities c.overrides_resolved) (sym (tree_of c handle i known at)) h.0;
  blends = subst (BlendsOK c.capabilities (types_in c)) at h.1;
}
type_answer c handle i (Err e) known at h = record { i = i; at = sym at; fault = h }
