-- Types that are checked in order, and the global expressions that are checked for them.
use Rattle.std.proofs.Common.{◌≡◌, ◌⊎◌, inl, inr, rules, ℕ, ◌+◌, ◌<◌, ◌≤◌, max, min, List, [], ◌∷◌, map, true, false, if◌then◌else◌, Option, Some, None, option_and_then, nat_lt, refl, sym, ap, ◌∙◌, subst, slice_get, length, arith}
use Rattle.std.proofs.lemmas.List.{length-map}
use Rattle.std.proofs.lemmas.Option.{slice_get_within}
use Rattle.std.specs.Option.{option_or}
use borrow.Author.Tests.{ltb-false}
use Rattle.ir_arena.specs.declared.span.Span.{Span}
use Rattle.ir_types.specs.judged.ExpressionPlain.{PlainExpression, expression_view}
use Rattle.ir_types.specs.declared.expressions.Expression.{Expression}
use Rattle.ir_items.specs.found.GlobalView.{values_of}
use Rattle.ir_items.specs.judged.Plain.{PlainModule}
use Rattle.typing_references.proofs.FaultLaws.{map_some}
use Rattle.typing_references.proofs.FirstLaws.{or_none, or_some}
use Rattle.typing_references.specs.Faults.{outside_functions}
use Rattle.typing_references.specs.First.{first_past}
use Rattle.typing_references.specs.declared.fault.HandleFault.{HandleFault}
use Rattle.typing_references.specs.declared.fault.HandleFault.TheVariants as fault
use Rattle.ir_types.specs.judged.Plain.{PlainInner, PlainMember, PlainType, inner_view, member_view, type_view}
use Rattle.ir_types.specs.declared.types.IrType.{IrType}
use Rattle.ir_types.specs.declared.types.StructMember.{StructMember}
use Rattle.ir_types.specs.declared.types.TypeInner.{TypeInner}
use Rattle.ir_types.specs.declared.types.TypeInner.TheVariants as inner
use Rattle.module_handles.proofs.OutsideFaults.{forward_none, pending_fault, built_fault, counted_fault, looked_fault}
use Rattle.module_handles.proofs.PassLemmas.{below_or_same}
use Rattle.module_handles.specs.Found.{pending_missing, built_forward, named_forward, looked_through}
use Rattle.module_handles.specs.LookupFound.{forward, counted_forward}
use Rattle.module_handles.specs.InOrder.{IsFaultIn, NamesBefore, NamesForward, TypeOK, TypesBelow, TypesOK}
use Rattle.spec_expressions.specs.declared.item.ItemKind.TheVariants as kind
use Rattle.typing_forms.specs.judged.Order.{named_types}
use Rattle.typing_forms.specs.judged.Resolutions.{inner_at}

-- ---- member types

members_past : (end : ℕ) (ms : List StructMember) → first_past end (map (λ m. m.ty) ms) ≡ first_past end (map (λ m. m.ty) (map member_view ms))
members_past end [] = refl
members_past end (m ∷ ms) = ap (λ r. if nat_lt m.ty end then r else Some m.ty) (members_past end ms)

pub struct_past : (end : ℕ) (i : TypeInner) (members span : _) (ms : List StructMember) (r : Option ℕ) → i ≡ inner.Struct members span → ms ≡ members.items
    → r ≡ first_past end (map (λ m. m.ty) ms) → r ≡ first_past end (named_types (inner_view i))
struct_past end i members span ms r is same e =
    subst (λ x. r ≡ first_past end (named_types (inner_view x))) (sym is)
    (subst (λ xs. r ≡ first_past end (map (λ (m : PlainMember). m.ty) (map member_view xs))) same (e ∙ members_past end ms))

-- ---- global expressions

-- what precedes an index precedes the next
forward_later : (place : ℕ) (o : Option ℕ) → option_and_then (forward kind.Type place) o ≡ None → option_and_then (forward kind.Type (place + 1)) o ≡ None
forward_later place None e = refl
forward_later place (Some t) e =
    let before : t < place = forward_none kind.Type place t e in
    elim (nat_lt t (place + 1)) as (λ b. nat_lt t (place + 1) ≡ b → (if b then None else Some (fault.Forward kind.Type (place + 1) t)) ≡ None) [
      | true ↦ λ lt. refl
      | false ↦ λ lt. absurd (let past = ltb-false t (place + 1) lt in omega (arith, before, past))
    ] refl

module _ (m : PlainModule) where
  pub between_none : (place from : ℕ) → NamesBefore m place from from
  between_none place from e x behind before at = absurd (omega (arith, behind, before))

  pub between_more : (place from n : ℕ) (x : PlainExpression) → NamesBefore m place from n → slice_get m.global_expressions n ≡ Some x → named_forward m place x ≡ None → NamesBefore m place from (n + 1)
  between_more place from n x names at none e y behind lt there = elim (below_or_same e n lt) [
    | inl less ↦ names e y behind less there
    | inr same ↦ (let is : x ≡ y = (let a = at in let b = there in let c = same in cc) in subst (λ z. named_forward m place z ≡ None) is none)
  ]

  -- all expressions before the bound were checked
  pub between_all : (place from n end stop count : ℕ) → length m.global_expressions ≡ count → stop ≡ min end count → stop ≤ n → NamesBefore m place from n → NamesBefore m place from end
  between_all place from n end stop count long is le names e x behind lt at =
      names e x behind (let within = slice_get_within m.global_expressions e x at in omega (arith, within, long, is, le, lt)) at

  -- ---- types

  -- the type at an index
  type_there : (place : ℕ) (i : PlainInner) → Some i ≡ inner_at m.types place → (x : PlainType) × (slice_get m.types place ≡ Some x) × (i ≡ x.inner)
  type_there place i at = map_some (λ (t : PlainType). t.inner) (slice_get m.types place) i (sym at)

  -- the error of a type's own handles
  abbrev pub own_fault : ℕ → PlainInner → Option HandleFault
  own_fault place i = option_or (pending_missing (outside_functions m) i) (option_or (built_forward place i) (counted_forward m place i))

  pub own_fault_in : (place : ℕ) (i : PlainInner) (h : HandleFault) → Some i ≡ inner_at m.types place → own_fault place i ≡ Some h → IsFaultIn m h
  own_fault_in place i h there e =
      let x = type_there place i there in
      elim (or_some _ _ h (subst (λ j. own_fault place j ≡ Some h) x.2 e)) [
        | inl a ↦ pending_fault m place x.0 h x.1 a
        | inr b ↦ elim (or_some _ _ h b) [ inl c ↦ built_fault m place x.0 h x.1 c | inr d ↦ counted_fault m place x.0 h x.1 d ]
      ]

  pub looked_fault_in : (place from end : ℕ) (i : PlainInner) (h : HandleFault) → Some i ≡ inner_at m.types place → end ≡ looked_through m i → NamesForward m place from end h → IsFaultIn m h
  looked_fault_in place from end i h there is f =
      let x = type_there place i there in
      looked_fault m place from x.0 h x.1 (subst (λ n. NamesForward m place from n h) (is ∙ ap (looked_through m) x.2) f)

  -- The types before an index are valid, and the first global expressions reference types before it.
  abbrev pub KnownBelow : (place known : ℕ) → Type 0
  KnownBelow place known = TypesBelow m place × NamesBefore m place 0 known

  pub none_known : KnownBelow 0 0
  none_known = ((λ place x lt at. absurd (let no : place < 0 = lt in omega (arith, no))), between_none 0 0)

  both_between : (place from end next : ℕ) → next ≡ max from end → NamesBefore m place 0 from → NamesBefore m place from end → NamesBefore m place 0 next
  both_between place from end next is first second e x behind lt at = elim (below_or_not e from) [ inl less ↦ first e x behind less at | inr past ↦ second e x past (omega (arith, past, lt, is)) at ]
    where
      below_or_not : (a b : ℕ) → (a < b) ⊎ (b ≤ a)
      below_or_not a b = search rules

  pub one_known : (place known end next : ℕ) (i : PlainInner) → KnownBelow place known → Some i ≡ inner_at m.types place → own_fault place i ≡ None → end ≡ looked_through m i → NamesBefore m place known end
      → next ≡ max known end → KnownBelow (place + 1) next
  one_known place known end next i below there none looked names is =
      let all = both_between place known end next is below.1 names in
      let own : TypeOK m place i = record {
        there = (or_none _ _ none).0;
        built = (or_none _ _ (or_none _ _ none).1).0;
        counted = (or_none _ _ (or_none _ _ none).1).1;
        looked = λ e x behind lt at. all e x behind (let less : e < end = subst (λ n. e < n) (sym looked) lt in omega (arith, less, is)) at;
      } in
      ((λ p y lt at. elim (below_or_same p place lt) [ inl less ↦ below.0 p y less at | inr same ↦ here y p same own at ]), (λ e x behind lt at. forward_later place _ (all e x behind lt at)))
    where
      here : (y : PlainType) (p : ℕ) → p ≡ place → TypeOK m place i → slice_get m.types p ≡ Some y → TypeOK m p y.inner
      here y p same own at =
          let x = type_there place i there in
          let is_it : x.0 ≡ y = (let a = x.1 in let b = at in let c = same in cc) in
          subst (λ q. TypeOK m q y.inner) (sym same) (subst (TypeOK m place) (x.2 ∙ ap (λ (t : PlainType). t.inner) is_it) own)

  pub all_known : (count place known : ℕ) → length m.types ≡ count → count ≤ place → KnownBelow place known → TypesOK m
  all_known count place known long le below p x at = below.0 p x (let within = slice_get_within m.types p x at in omega (arith, within, long, le)) at

pub types_long : (entries : List (IrType × Span)) → length (map type_view (values_of entries)) ≡ length entries
types_long entries = length-map (values_of entries) type_view ∙ length-map entries (λ e. e.0)

pub expressions_long : (entries : List (Expression × Span)) → length (map expression_view (values_of entries)) ≡ length entries
expressions_long entries = length-map (values_of entries) expression_view ∙ length-map entries (λ e. e.0)
