-- What the handle errors of a function imply, and what their absence implies.
use Rattle.std.proofs.Common.{◌≡◌, inl, inr, ℕ, ◌<◌, ◌≤◌, List, map, true, false, ◌&&◌, if◌then◌else◌, Option, Some, None, option_map, option_and_then, nat_lt, nat_le, refl, sym, ap, subst, Contains, arith}
use Rattle.std.specs.Option.{option_or, MatchOption}
use Rattle.std.proofs.lemmas.Option.{same_Some}
use borrow.Author.Tests.{ltb-true, ltb-false, leb-true, leb-false}
use Rattle.ir_arena.specs.judged.Handles.{handles_from}
use Rattle.ir_arena.specs.declared.span.Span.{Span}
use Rattle.ir_blocks.specs.judged.Plain.{PlainStatement}
use Rattle.ir_blocks.specs.judged.Places.{Place, OccursAt}
use Rattle.ir_types.specs.judged.ExpressionPlain.{expression_view}
use Rattle.ir_types.specs.declared.expressions.Expression.{Expression}
use Rattle.ir_items.specs.found.GlobalView.{values_of, node_view}
use Rattle.ir_items.specs.declared.filters.DiagnosticFilterNode.{DiagnosticFilterNode}
use Rattle.ir_items.specs.judged.Plain.{PlainFunction, PlainModule}
use Rattle.ir_items.specs.declared.functions.FunctionResult.{FunctionResult}
use Rattle.ir_items.specs.found.Filters.{ParentsPrecede}
use Rattle.spec_expressions.specs.judged.FunctionHandles.{HandlesInRange, OperandsPrecede, CalleesPrecede}
use Rattle.spec_expressions.specs.judged.ExpressionNames.{expression_operands, expression_item}
use Rattle.spec_expressions.specs.judged.ModuleHandles.{named_at}
use Rattle.spec_expressions.specs.judged.References.{Site, Named, item, operand, range, Names, argument_type, answer_type, local_type, local_value, filter_leaf, expression_names, expression_reads, statement_reads, statement_answers, statement_emits, statement_calls, ItemExists, IsThere}
use Rattle.spec_expressions.specs.judged.StatementNames.{statement_operands, statement_result, statement_range, statement_callee}
use Rattle.spec_expressions.specs.judged.Kinds.{Emitted}
use Rattle.spec_expressions.specs.declared.item.ItemKind.{ItemKind}
use Rattle.spec_expressions.specs.declared.item.ItemKind.TheVariants as kind
use Rattle.spec_expressions.specs.declared.target.Target.{Target}
use Rattle.spec_expressions.specs.declared.target.Target.TheVariants as target
use Rattle.typing_references.specs.First.{first_past, first_of, first_in}
use Rattle.typing_references.specs.Faults.{bounds_of, missing, item_missing, absent, range_out, expression_missing, answer_missing, statement_missing, argument_missing, local_missing, signature_missing, function_missing, operand_forward, callee_forward, function_of, expression_forward, statement_forward, callees_forward, parent_forward, IsMissingFault, IsForwardOperand, IsForwardCallee, IsForwardParent}
use Rattle.typing_references.specs.declared.fault.HandleFault.{HandleFault}
use Rattle.typing_references.specs.declared.fault.HandleFault.TheVariants as fault
use Rattle.typing_references.proofs.FirstLaws.{or_none, or_some, below_each, below_all, past_one, none_each, one_found, none_in, found_in, none_at, place_found}

-- ---- one reference

pub missing_none : (k : ItemKind) (there place : ℕ) → missing k there place ≡ None → place < there
missing_none k there place e = elim (nat_lt place there) as (λ b. nat_lt place there ≡ b → (if b then None else Some (fault.Missing k place)) ≡ None → place < there) [
  | true ↦ λ lt g. ltb-true place there lt
  | false ↦ λ lt g. cc
] refl e

pub missing_some : (k : ItemKind) (there place : ℕ) (h : HandleFault) → missing k there place ≡ Some h → (h ≡ fault.Missing k place) × (there ≤ place)
missing_some k there place h e = elim (nat_lt place there) as (λ b. nat_lt place there ≡ b → (if b then None else Some (fault.Missing k place)) ≡ Some h → (h ≡ fault.Missing k place) × (there ≤ place)) [
  | true ↦ λ lt g. cc
  | false ↦ λ lt g. (sym (same_Some _ h g), ltb-false place there lt)
] refl e

not_below : (place there : ℕ) → there ≤ place → ¬ (place < there)
not_below place there le lt = omega (arith, le, lt)

-- the value found in an option
module _ {A B : Type 0} (look : A → Option B) where
  pub then_none : (o : Option A) → option_and_then look o ≡ None → (x : A) → o ≡ Some x → look x ≡ None
  then_none None e x is = cc
  then_none (Some y) e x is = subst (λ z. look z ≡ None) (same_Some y x is) e

  pub then_some : (o : Option A) (found : B) → option_and_then look o ≡ Some found → (x : A) × (o ≡ Some x) × (look x ≡ Some found)
  then_some None found e = cc
  then_some (Some y) found e = (y, refl, e)

pub map_none : {A B : Type 0} (f : A → B) (o : Option A) → option_map f o ≡ None → o ≡ None
map_none f None e = refl
map_none f (Some x) e = cc

pub map_some : {A B : Type 0} (f : A → B) (o : Option A) (y : B) → option_map f o ≡ Some y → (x : A) × (o ≡ Some x) × (y ≡ f x)
map_some f None y e = cc
map_some f (Some x) y e = (x, refl, sym (same_Some _ y e))

-- either there is none, or it is this
matched : {A P : Type 0} (Q : A → Type 0) (o : Option A) → (o ≡ None → P) → ((x : A) → o ≡ Some x → Q x) → MatchOption o P Q
matched Q None p q = p refl
matched Q (Some x) p q = q x refl

-- ---- items that don't exist

module _ (m : PlainModule) (f : PlainFunction) where
  -- the fault is that of a reference to an item that does not exist
  record Absent (named : Named) (h : HandleFault) : Type 0 where
    pub k : ItemKind
    pub place : ℕ
    pub is : h ≡ fault.Missing k place
    pub at : named_at named ≡ Some (k, place)
    pub not : ¬ IsThere m f named

  absent_fault : (site : Site) (named : Named) (h : HandleFault) → Names f site named → Absent named h → IsMissingFault m f h
  absent_fault site named h names a =
      subst (IsMissingFault m f) (sym a.is) (record { named = named; absent = record { site = site; names = names; absent = a.not }; at = a.at })

  item_there : (t : Target) → item_missing (bounds_of m f) t ≡ None → ItemExists m f t
  item_there (target.Type handle) e = missing_none _ _ _ e
  item_there (target.Constant handle) e = missing_none _ _ _ e
  item_there (target.Override handle) e = missing_none _ _ _ e
  item_there (target.GlobalVariable handle) e = missing_none _ _ _ e
  item_there (target.LocalVariable handle) e = missing_none _ _ _ e
  item_there (target.Function handle) e = missing_none _ _ _ e
  item_there (target.DiagnosticFilter handle) e = missing_none _ _ _ e

  item_absent : (t : Target) (h : HandleFault) → item_missing (bounds_of m f) t ≡ Some h → Absent (item t) h
  item_absent (target.Type handle) h e = let r = missing_some _ _ _ h e in record { k = kind.Type; place = handle; is = r.0; at = refl; not = not_below _ _ r.1 }
  item_absent (target.Constant handle) h e = let r = missing_some _ _ _ h e in record { k = kind.Constant; place = handle; is = r.0; at = refl; not = not_below _ _ r.1 }
  item_absent (target.Override handle) h e = let r = missing_some _ _ _ h e in record { k = kind.Override; place = handle; is = r.0; at = refl; not = not_below _ _ r.1 }
  item_absent (target.GlobalVariable handle) h e = let r = missing_some _ _ _ h e in record { k = kind.GlobalVariable; place = handle; is = r.0; at = refl; not = not_below _ _ r.1 }
  item_absent (target.LocalVariable handle) h e = let r = missing_some _ _ _ h e in record { k = kind.LocalVariable; place = handle; is = r.0; at = refl; not = not_below _ _ r.1 }
  item_absent (target.Function handle) h e = let r = missing_some _ _ _ h e in record { k = kind.Function; place = handle; is = r.0; at = refl; not = not_below _ _ r.1 }
  item_absent (target.DiagnosticFilter handle) h e = let r = missing_some _ _ _ h e in record { k = kind.DiagnosticFilter; place = handle; is = r.0; at = refl; not = not_below _ _ r.1 }

  expression_absent : (e : ℕ) (h : HandleFault) → missing kind.Expression (bounds_of m f).expressions e ≡ Some h → Absent (operand e) h
  expression_absent e h is = let r = missing_some _ _ _ h is in record { k = kind.Expression; place = e; is = r.0; at = refl; not = not_below _ _ r.1 }

  -- the operands of a list
  operand_absent : (operands : List ℕ) (h : HandleFault) → option_map absent (first_past (bounds_of m f).expressions operands) ≡ Some h → (o : ℕ) × Contains operands o × Absent (operand o) h
  operand_absent operands h e =
      let r = map_some absent _ h e in
      let p = past_one _ operands r.0 r.1 in
      (r.0, p.0, record { k = kind.Expression; place = r.0; is = r.2; at = refl; not = p.1 })

  operand_there : (operands : List ℕ) → option_map absent (first_past (bounds_of m f).expressions operands) ≡ None → (o : ℕ) → Contains operands o → o < (bounds_of m f).expressions
  operand_there operands e = below_each _ operands (map_none absent _ e)

  range_there : (r : Emitted) → range_out (bounds_of m f).expressions r ≡ None → IsThere m f (range r)
  range_there r e = elim (nat_le r.first r.end) as (λ a. nat_le r.first r.end ≡ a → (if a && nat_le r.end (bounds_of m f).expressions then None else Some (fault.Range r.first r.end)) ≡ None → IsThere m f (range r)) [
    | true ↦ λ first g. elim (nat_le r.end (bounds_of m f).expressions) as (λ b. nat_le r.end (bounds_of m f).expressions ≡ b → (if b then None else Some (fault.Range r.first r.end)) ≡ None → IsThere m f (range r)) [
      | true ↦ λ end i. (leb-true r.first r.end first, leb-true r.end _ end)
      | false ↦ λ end i. cc
    ] refl g
    | false ↦ λ first g. cc
  ] refl e

  range_absent : (r : Emitted) (h : HandleFault) → range_out (bounds_of m f).expressions r ≡ Some h → (h ≡ fault.Range r.first r.end) × ¬ IsThere m f (range r)
  range_absent r h e = elim (nat_le r.first r.end) as (λ a. nat_le r.first r.end ≡ a → (if a && nat_le r.end (bounds_of m f).expressions then None else Some (fault.Range r.first r.end)) ≡ Some h → (h ≡ fault.Range r.first r.end) × ¬ IsThere m f (range r)) [
    | true ↦ λ first g. elim (nat_le r.end (bounds_of m f).expressions) as (λ b. nat_le r.end (bounds_of m f).expressions ≡ b → (if b then None else Some (fault.Range r.first r.end)) ≡ Some h → (h ≡ fault.Range r.first r.end) × ¬ IsThere m f (range r)) [
      | true ↦ λ end i. cc
      | false ↦ λ end i. (sym (same_Some _ h i), λ there. let out = leb-false r.end _ end in omega (arith, out, there.1))
    ] refl g
    | false ↦ λ first g. (sym (same_Some _ h g), λ there. let out = leb-false r.first r.end first in omega (arith, out, there.0))
  ] refl e

  -- ---- if no fault is found, all items exist

  module _ (e : function_missing (bounds_of m f) f ≡ None) where
    signature : signature_missing (bounds_of m f) f ≡ None
    signature = (or_none _ _ e).0

    locals : first_of (local_missing (bounds_of m f)) f.locals ≡ None
    locals = (or_none _ _ (or_none _ _ e).1).0

    expressions : first_of (expression_missing (bounds_of m f)) f.expressions ≡ None
    expressions = (or_none _ _ (or_none _ _ (or_none _ _ e).1).1).0

    behind : option_or (first_of (local_missing (bounds_of m f)) f.locals) (option_or (first_of (expression_missing (bounds_of m f)) f.expressions) (first_in (statement_missing (bounds_of m f)) f.body)) ≡ None
    behind = (or_none (signature_missing (bounds_of m f) f) _ e).1

    last : option_or (first_of (expression_missing (bounds_of m f)) f.expressions) (first_in (statement_missing (bounds_of m f)) f.body) ≡ None
    last = (or_none (first_of (local_missing (bounds_of m f)) f.locals) _ behind).1

    at : (p : Place) (s : PlainStatement) → OccursAt f.body p s → statement_missing (bounds_of m f) s ≡ None
    at p s stands = none_at (statement_missing (bounds_of m f)) p f.body (or_none (first_of (expression_missing (bounds_of m f)) f.expressions) _ last).1 s stands

    calls : (p : Place) (s : PlainStatement) → OccursAt f.body p s → option_and_then (missing kind.Function (bounds_of m f).functions) (statement_callee s) ≡ None
    calls p s stands =
        let behind_answers = (or_none (answer_missing (bounds_of m f) s) _ (or_none (option_map absent (first_past (bounds_of m f).expressions (statement_operands s))) _ (at p s stands)).1).1 in
        (or_none (option_and_then (range_out (bounds_of m f).expressions) (statement_range s)) _ behind_answers).1

    names_there : (site : Site) (named : Named) → Names f site named → IsThere m f named
    names_there _ _ (argument_type {a = a} h) = missing_none kind.Type _ a.ty (none_each (argument_missing (bounds_of m f)) f.arguments (or_none _ _ signature).0 _ a h)
    names_there _ _ (answer_type {r = r} h) =
        missing_none kind.Type _ r.ty (then_none (λ (x : FunctionResult). missing kind.Type (bounds_of m f).types x.ty) f.result (or_none _ _ (or_none _ _ signature).1).0 r h)
    names_there _ _ (local_type {l = l} h) = missing_none kind.Type _ l.ty (or_none _ _ (none_each (local_missing (bounds_of m f)) f.locals locals _ l h)).0
    names_there _ _ (local_value {e = v} {l = l} h is) =
        missing_none kind.Expression _ v (then_none (missing kind.Expression (bounds_of m f).expressions) l.init (or_none _ _ (none_each (local_missing (bounds_of m f)) f.locals locals _ l h)).1 v is)
    names_there _ _ (filter_leaf {n = n} h) =
        missing_none kind.DiagnosticFilter _ n (then_none (missing kind.DiagnosticFilter (bounds_of m f).filters) f.leaf (or_none _ _ (or_none _ _ signature).1).1 n h)
    names_there _ _ (expression_names {x = x} {t = t} h is) =
        item_there t (then_none (item_missing (bounds_of m f)) (expression_item x) (or_none _ _ (none_each (expression_missing (bounds_of m f)) f.expressions expressions _ x h)).0 t is)
    names_there _ _ (expression_reads {o = o} {x = x} h c) =
        operand_there (expression_operands x) (or_none _ _ (none_each (expression_missing (bounds_of m f)) f.expressions expressions _ x h)).1 o c
    names_there _ _ (statement_reads {p = p} {o = o} {s = s} h c) = operand_there (statement_operands s) (or_none _ _ (at p s h)).0 o c
    names_there _ _ (statement_answers {p = p} {e = v} {s = s} h is) =
        missing_none kind.Expression _ v (then_none (missing kind.Expression (bounds_of m f).expressions) (statement_result s) (or_none _ _ (or_none _ _ (at p s h)).1).0 v is)
    names_there _ _ (statement_emits {p = p} {r = r} {s = s} h is) =
        range_there r (then_none (range_out (bounds_of m f).expressions) (statement_range s) (or_none _ _ (or_none _ _ (or_none _ _ (at p s h)).1).1).0 r is)
    names_there _ _ (statement_calls {p = p} {c = c} {s = s} h is) =
        missing_none kind.Function _ c (then_none (missing kind.Function (bounds_of m f).functions) (statement_callee s) (calls p s h) c is)

  -- ---- the item of a fault does not exist

  type_absent : (t : ℕ) (h : HandleFault) → missing kind.Type (bounds_of m f).types t ≡ Some h → Absent (item (target.Type t)) h
  type_absent t h e = item_absent (target.Type t) h e

  signature_fault : (h : HandleFault) → signature_missing (bounds_of m f) f ≡ Some h → IsMissingFault m f h
  signature_fault h e = elim (or_some _ _ h e) [
    | inl a ↦ (let r = one_found (argument_missing (bounds_of m f)) f.arguments h a in absent_fault _ _ h (argument_type r.2) (type_absent _ h r.3))
    | inr b ↦ elim (or_some _ _ h b) [
      | inl c ↦ (let r = then_some (λ (x : FunctionResult). missing kind.Type (bounds_of m f).types x.ty) f.result h c in absent_fault _ _ h (answer_type r.1) (type_absent _ h r.2))
      | inr d ↦ (let r = then_some (missing kind.DiagnosticFilter (bounds_of m f).filters) f.leaf h d in absent_fault _ _ h (filter_leaf r.1) (item_absent (target.DiagnosticFilter r.0) h r.2))
    ]
  ]

  local_fault : (h : HandleFault) → first_of (local_missing (bounds_of m f)) f.locals ≡ Some h → IsMissingFault m f h
  local_fault h e =
      let r = one_found (local_missing (bounds_of m f)) f.locals h e in
      elim (or_some _ _ h r.3) [
        | inl a ↦ absent_fault _ _ h (local_type r.2) (type_absent _ h a)
        | inr b ↦ (let s = then_some (missing kind.Expression (bounds_of m f).expressions) _ h b in absent_fault _ _ h (local_value r.2 s.1) (expression_absent s.0 h s.2))
      ]

  expression_fault : (h : HandleFault) → first_of (expression_missing (bounds_of m f)) f.expressions ≡ Some h → IsMissingFault m f h
  expression_fault h e =
      let r = one_found (expression_missing (bounds_of m f)) f.expressions h e in
      elim (or_some _ _ h r.3) [
        | inl a ↦ (let s = then_some (item_missing (bounds_of m f)) _ h a in absent_fault _ _ h (expression_names r.2 s.1) (item_absent s.0 h s.2))
        | inr b ↦ (let s = operand_absent _ h b in absent_fault _ _ h (expression_reads r.2 s.1) s.2)
      ]

  statement_fault : (p : Place) (s : PlainStatement) (h : HandleFault) → OccursAt f.body p s → statement_missing (bounds_of m f) s ≡ Some h → IsMissingFault m f h
  statement_fault p s h stands e = elim (or_some _ _ h e) [
    | inl a ↦ (let r = operand_absent _ h a in absent_fault _ _ h (statement_reads stands r.1) r.2)
    | inr b ↦ elim (or_some _ _ h b) [
      | inl c ↦ (let r = then_some (missing kind.Expression (bounds_of m f).expressions) _ h c in absent_fault _ _ h (statement_answers stands r.1) (expression_absent r.0 h r.2))
      | inr d ↦ elim (or_some _ _ h d) [
        | inl i ↦ (let r = then_some (range_out (bounds_of m f).expressions) _ h i in
            let out = range_absent r.0 h r.2 in
            subst (IsMissingFault m f) (sym out.0) (record { site = _; names = statement_emits stands r.1; absent = out.1 }))
        | inr j ↦ (let r = then_some (missing kind.Function (bounds_of m f).functions) _ h j in absent_fault _ _ h (statement_calls stands r.1) (item_absent (target.Function r.0) h r.2))
      ]
    ]
  ]

  function_fault : (h : HandleFault) → function_missing (bounds_of m f) f ≡ Some h → IsMissingFault m f h
  function_fault h e = elim (or_some _ _ h e) [
    | inl a ↦ signature_fault h a
    | inr b ↦ elim (or_some _ _ h b) [
      | inl c ↦ local_fault h c
      | inr d ↦ elim (or_some _ _ h d) [
        | inl i ↦ expression_fault h i
        | inr j ↦ (let r = place_found (statement_missing (bounds_of m f)) f.body h j in statement_fault r.0 r.1 h r.2 r.3)
      ]
    ]
  ]

  pub missing_told : MatchOption (function_missing (bounds_of m f) f) (HandlesInRange m f) (IsMissingFault m f)
  missing_told = matched (IsMissingFault m f) (function_missing (bounds_of m f) f) names_there function_fault

-- ---- forward dependencies

pub operands_told : (entries : List (Expression × Span))
    → MatchOption (first_of (λ h. operand_forward h.0 (expression_view h.1)) (handles_from 0 entries)) (OperandsPrecede (map expression_view (values_of entries))) (IsForwardOperand (map expression_view (values_of entries)))
operands_told entries =
    matched (IsForwardOperand (map expression_view (values_of entries))) _
    (λ e place x at. below_all place (expression_operands x) (map_none _ _ (none_in expression_view operand_forward entries e place x at)))
    (λ h e.
    let r = found_in expression_view operand_forward entries h e in
    let s = map_some (λ o. fault.Forward kind.Expression r.0 o) _ h r.3 in
    let p = past_one r.0 (expression_operands r.1) s.0 s.1 in
    subst (IsForwardOperand (map expression_view (values_of entries))) (sym s.2) (refl, (r.1, r.2, p.0, p.1)))

abbrev parent_look : ℕ → ℕ → Option HandleFault
parent_look n parent = if nat_lt parent n then None else Some (fault.Forward kind.DiagnosticFilter n parent)

parent_before : (n parent : ℕ) → parent_look n parent ≡ None → parent < n
parent_before n parent e = elim (nat_lt parent n) as (λ b. nat_lt parent n ≡ b → (if b then None else Some (fault.Forward kind.DiagnosticFilter n parent)) ≡ None → parent < n) [
  | true ↦ λ lt g. ltb-true parent n lt
  | false ↦ λ lt g. cc
] refl e

parent_after : (n parent : ℕ) (h : HandleFault) → parent_look n parent ≡ Some h → (h ≡ fault.Forward kind.DiagnosticFilter n parent) × ¬ (parent < n)
parent_after n parent h e = elim (nat_lt parent n) as (λ b. nat_lt parent n ≡ b → (if b then None else Some (fault.Forward kind.DiagnosticFilter n parent)) ≡ Some h → (h ≡ fault.Forward kind.DiagnosticFilter n parent) × ¬ (parent < n)) [
  | true ↦ λ lt g. cc
  | false ↦ λ lt g. (sym (same_Some _ h g), not_below parent n (ltb-false parent n lt))
] refl e

pub parents_told : (entries : List (DiagnosticFilterNode × Span))
    → MatchOption (first_of (λ h. parent_forward h.0 (node_view h.1)) (handles_from 0 entries)) (ParentsPrecede (map node_view (values_of entries))) (IsForwardParent (map node_view (values_of entries)))
parents_told entries =
    matched (IsForwardParent (map node_view (values_of entries))) _
    (λ e place parent node at is. parent_before place parent (then_none (parent_look place) node.parent (none_in node_view parent_forward entries e place node at) parent is))
    (λ h e.
    let r = found_in node_view parent_forward entries h e in
    let s = then_some (parent_look r.0) r.1.parent h r.3 in
    let t = parent_after r.0 s.0 h s.2 in
    subst (IsForwardParent (map node_view (values_of entries))) (sym t.0) (refl, (r.1, r.2, s.1, t.1)))

some_function : (t : Target) (c : ℕ) → function_of t ≡ Some c → t ≡ target.Function c
some_function (target.Type handle) c e = cc
some_function (target.Constant handle) c e = cc
some_function (target.Override handle) c e = cc
some_function (target.GlobalVariable handle) c e = cc
some_function (target.LocalVariable handle) c e = cc
some_function (target.Function handle) c e = cc
some_function (target.DiagnosticFilter handle) c e = cc

of_item : (o : Option Target) (c : ℕ) → option_and_then function_of o ≡ Some c → o ≡ Some (target.Function c)
of_item None c e = cc
of_item (Some t) c e = ap Some (some_function t c e)

module _ (caller : ℕ) (f : PlainFunction) where
  callee_before : (c : ℕ) → callee_forward caller c ≡ None → c < caller
  callee_before c e = elim (nat_lt c caller) as (λ b. nat_lt c caller ≡ b → (if b then None else Some (fault.Forward kind.Function caller c)) ≡ None → c < caller) [
    | true ↦ λ lt g. ltb-true c caller lt
    | false ↦ λ lt g. cc
  ] refl e

  callee_after : (c : ℕ) (h : HandleFault) → callee_forward caller c ≡ Some h → (h ≡ fault.Forward kind.Function caller c) × ¬ (c < caller)
  callee_after c h e = elim (nat_lt c caller) as (λ b. nat_lt c caller ≡ b → (if b then None else Some (fault.Forward kind.Function caller c)) ≡ Some h → (h ≡ fault.Forward kind.Function caller c) × ¬ (c < caller)) [
    | true ↦ λ lt g. cc
    | false ↦ λ lt g. (sym (same_Some _ h g), not_below c caller (ltb-false c caller lt))
  ] refl e

  callee_fault : (site : Site) (c : ℕ) (h : HandleFault) → Names f site (item (target.Function c)) → callee_forward caller c ≡ Some h → IsForwardCallee caller f h
  callee_fault site c h names e =
      let t = callee_after c h e in
      subst (IsForwardCallee caller f) (sym t.0) (refl, refl, (site, names, t.1))

  callees_before : callees_forward caller f ≡ None → CalleesPrecede caller f
  callees_before e _ c (expression_names {x = x} h is) =
      callee_before c (then_none (callee_forward caller) _ (none_each (expression_forward caller) f.expressions (or_none _ _ e).0 _ x h) c (ap (option_and_then function_of) is))
  callees_before e _ c (statement_calls {p = p} {s = s} h is) =
      callee_before c (then_none (callee_forward caller) _ (none_at (statement_forward caller) p f.body (or_none _ _ e).1 s h) c is)

  callees_fault : (h : HandleFault) → callees_forward caller f ≡ Some h → IsForwardCallee caller f h
  callees_fault h e = elim (or_some _ _ h e) [
    | inl a ↦ (let r = one_found (expression_forward caller) f.expressions h a in
        let s = then_some (callee_forward caller) _ h r.3 in
        callee_fault _ s.0 h (expression_names r.2 (of_item (expression_item r.1) s.0 s.1)) s.2)
    | inr b ↦ (let r = place_found (statement_forward caller) f.body h b in
        let s = then_some (callee_forward caller) _ h r.3 in
        callee_fault _ s.0 h (statement_calls r.2 s.1) s.2)
  ]

  pub callees_told : MatchOption (callees_forward caller f) (CalleesPrecede caller f) (IsForwardCallee caller f)
  callees_told = matched (IsForwardCallee caller f) (callees_forward caller f) callees_before callees_fault
