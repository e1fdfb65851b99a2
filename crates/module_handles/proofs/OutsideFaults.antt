-- What an error outside functions says, and what its absence says.
use Rattle.std.proofs.Common.{◌≡◌, inl, inr, ℕ, ◌+◌, ◌<◌, ◌≤◌, List, true, false, if◌then◌else◌, Option, Some, None, option_map, option_and_then, nat_lt, refl, sym, ap, ◌∙◌, subst, slice_get, length, Contains, arith}
use Rattle.std.proofs.lemmas.Option.{same_Some}
use borrow.Author.Tests.{ltb-true, ltb-false}
use Rattle.ir_types.specs.judged.ExpressionPlain.{PlainExpression}
use Rattle.ir_items.specs.judged.GlobalPlain.{PlainConstant, PlainOverride, PlainGlobal}
use Rattle.ir_items.specs.judged.Plain.{PlainEntry, PlainModule}
use Rattle.typing_references.proofs.FaultLaws.{missing_none, missing_some, then_some, map_none, map_some}
use Rattle.typing_references.proofs.FirstLaws.{or_some, below_each, past_one}
use Rattle.typing_references.specs.Faults.{outside_functions, missing, item_missing}
use Rattle.typing_references.specs.declared.fault.HandleFault.{HandleFault}
use Rattle.typing_references.specs.declared.fault.HandleFault.TheVariants as fault
use Rattle.ir_types.specs.judged.Plain.{PlainInner, PlainType}
use Rattle.module_handles.specs.Found.{first_missing, special_missing, leaf_missing, constant_missing, override_missing, variable_missing, entry_missing, pending_missing, built_forward, up_to, looked_through}
use Rattle.module_handles.specs.LookupFound.{type_of, init_of, forward, counted_by, counted_forward}
use Rattle.module_handles.specs.InOrder.{IsFaultIn, NamesForward, IsGlobalExpressionFault}
use Rattle.spec_expressions.specs.judged.ExpressionNames.{expression_item}
use Rattle.spec_expressions.specs.judged.ModuleHandles.{named_at, in_module}
use Rattle.spec_expressions.specs.judged.ItemNames.{pending_of, special_types, mesh_types, mesh_expressions, entry_variables}
use Rattle.spec_expressions.specs.judged.ModuleReferences.{ModulePart, a_type, special, leaf, constant, override, expression, variable, entry, NamesIn, type_counts, special_names, leaf_names, constant_type, constant_value, override_type, override_value, expression_names, variable_type, variable_value, entry_type, entry_expression, entry_variable, IsThereIn}
use Rattle.spec_expressions.specs.judged.Order.{Ordered, an_expression, NamesType, by_itself, by_constant, by_override, DependsOn, type_on_named, type_on_override, type_on_expression, expression_on_constant, expression_on_override, kind_of, place_of}
use Rattle.spec_expressions.specs.judged.Order.{a_type as type_before}
use Rattle.spec_expressions.specs.judged.References.{Named, item, operand}
use Rattle.spec_expressions.specs.declared.item.ItemKind.{ItemKind}
use Rattle.spec_expressions.specs.declared.item.ItemKind.TheVariants as kind
use Rattle.spec_expressions.specs.declared.target.Target.{Target}
use Rattle.spec_expressions.specs.declared.target.Target.TheVariants as target
use Rattle.typing_forms.specs.judged.Order.{named_types}

-- ---- one handle, and one dependency

pub forward_none : (k : ItemKind) (place depends_on : ℕ) → forward k place depends_on ≡ None → depends_on < place
forward_none k place depends_on e = elim (nat_lt depends_on place) as (λ b. nat_lt depends_on place ≡ b → (if b then None else Some (fault.Forward k place depends_on)) ≡ None → depends_on < place) [
  | true ↦ λ lt g. ltb-true depends_on place lt
  | false ↦ λ lt g. cc
] refl e

pub forward_some : (k : ItemKind) (place depends_on : ℕ) (h : HandleFault) → forward k place depends_on ≡ Some h → (h ≡ fault.Forward k place depends_on) × ¬ (depends_on < place)
forward_some k place depends_on h e = elim (nat_lt depends_on place) as (λ b. nat_lt depends_on place ≡ b → (if b then None else Some (fault.Forward k place depends_on)) ≡ Some h → (h ≡ fault.Forward k place depends_on) × ¬ (depends_on < place)) [
  | true ↦ λ lt g. cc
  | false ↦ λ lt g. (sym (same_Some _ h g), λ before. let past = ltb-false depends_on place lt in omega (arith, past, before))
] refl e

-- no handle is out of bounds, so each item exists
pub each_there : (k : ItemKind) (there : ℕ) (places : List ℕ) → first_missing k there places ≡ None → (p : ℕ) → Contains places p → p < there
each_there k there places e = below_each there places (map_none (λ place. fault.Missing k place) _ e)

-- a handle is out of bounds
pub one_missing : (k : ItemKind) (there : ℕ) (places : List ℕ) (h : HandleFault) → first_missing k there places ≡ Some h → (p : ℕ) × Contains places p × (h ≡ fault.Missing k p) × ¬ (p < there)
one_missing k there places h e =
    let r = map_some (λ place. fault.Missing k place) _ h e in
    let p = past_one there places r.0 r.1 in
    (r.0, p.0, r.2, p.1)

module _ (m : PlainModule) where
  -- the error is that of a handle which is out of bounds
  pub record Absent (named : Named) (h : HandleFault) : Type 0 where
    pub k : ItemKind
    pub place : ℕ
    pub is : h ≡ fault.Missing k place
    pub at : named_at named ≡ Some (k, place)
    pub not : ¬ IsThereIn m named

  pub absent_fault : (part : ModulePart) (named : Named) (h : HandleFault) → NamesIn m part named → Absent named h → IsFaultIn m h
  absent_fault part named h names a = subst (IsFaultIn m) (sym a.is) (record { named = named; absent = in_module names a.not; at = a.at })

  not_there : (place there : ℕ) → there ≤ place → ¬ (place < there)
  not_there place there le lt = omega (arith, le, lt)

  pub item_there : (t : Target) → item_missing (outside_functions m) t ≡ None → IsThereIn m (item t)
  item_there (target.Type handle) e = missing_none _ _ _ e
  item_there (target.Constant handle) e = missing_none _ _ _ e
  item_there (target.Override handle) e = missing_none _ _ _ e
  item_there (target.GlobalVariable handle) e = missing_none _ _ _ e
  item_there (target.LocalVariable handle) e = let lt : handle < 0 = missing_none kind.LocalVariable 0 handle e in omega (arith, lt)
  item_there (target.Function handle) e = missing_none _ _ _ e
  item_there (target.DiagnosticFilter handle) e = missing_none _ _ _ e

  pub item_absent : (t : Target) (h : HandleFault) → item_missing (outside_functions m) t ≡ Some h → Absent (item t) h
  item_absent (target.Type handle) h e = let r = missing_some _ _ _ h e in record { k = kind.Type; place = handle; is = r.0; at = refl; not = not_there _ _ r.1 }
  item_absent (target.Constant handle) h e = let r = missing_some _ _ _ h e in record { k = kind.Constant; place = handle; is = r.0; at = refl; not = not_there _ _ r.1 }
  item_absent (target.Override handle) h e = let r = missing_some _ _ _ h e in record { k = kind.Override; place = handle; is = r.0; at = refl; not = not_there _ _ r.1 }
  item_absent (target.GlobalVariable handle) h e = let r = missing_some _ _ _ h e in record { k = kind.GlobalVariable; place = handle; is = r.0; at = refl; not = not_there _ _ r.1 }
  item_absent (target.LocalVariable handle) h e = let r = missing_some _ _ _ h e in record { k = kind.LocalVariable; place = handle; is = r.0; at = refl; not = λ there. there }
  item_absent (target.Function handle) h e = let r = missing_some _ _ _ h e in record { k = kind.Function; place = handle; is = r.0; at = refl; not = not_there _ _ r.1 }
  item_absent (target.DiagnosticFilter handle) h e = let r = missing_some _ _ _ h e in record { k = kind.DiagnosticFilter; place = handle; is = r.0; at = refl; not = not_there _ _ r.1 }

  pub type_absent : (t : ℕ) (h : HandleFault) → missing kind.Type (length m.types) t ≡ Some h → Absent (item (target.Type t)) h
  type_absent t h e = item_absent (target.Type t) h e

  pub value_absent : (e : ℕ) (h : HandleFault) → missing kind.Expression (length m.global_expressions) e ≡ Some h → Absent (operand e) h
  value_absent e h is = let r = missing_some _ _ _ h is in record { k = kind.Expression; place = e; is = r.0; at = refl; not = not_there _ _ r.1 }

  -- a forward dependency of an item
  pub forward_fault : (h : HandleFault) (k : ItemKind) (first second : Ordered) → DependsOn m first second → kind_of first ≡ k → kind_of second ≡ k → h ≡ fault.Forward k (place_of first) (place_of second)
      → ¬ (place_of second < place_of first) → IsFaultIn m h
  forward_fault h k first second related of both is not =
      subst (IsFaultIn m) (sym is) (record { item = first; depends = second; related = related; forward = not; of_kind = of; both_of_kind = both; at = refl; depends_at = refl })

  -- ---- items

  pub special_fault : (h : HandleFault) → special_missing (outside_functions m) m.special ≡ Some h → IsFaultIn m h
  special_fault h e =
      let r = one_missing kind.Type _ (special_types m.special) h e in
      absent_fault special (item (target.Type r.0)) h (special_names r.1) (record { k = kind.Type; place = r.0; is = r.2; at = refl; not = r.3 })

  pub leaf_fault : (h : HandleFault) → leaf_missing (outside_functions m) m.leaf ≡ Some h → IsFaultIn m h
  leaf_fault h e =
      let r = then_some (missing kind.DiagnosticFilter (length m.filters)) m.leaf h e in
      absent_fault leaf (item (target.DiagnosticFilter r.0)) h (leaf_names r.1) (item_absent (target.DiagnosticFilter r.0) h r.2)

  pub constant_fault : (i : ℕ) (x : PlainConstant) (h : HandleFault) → slice_get m.constants i ≡ Some x → constant_missing (outside_functions m) x ≡ Some h → IsFaultIn m h
  constant_fault i x h at e = elim (or_some _ _ h e) [
    | inl a ↦ absent_fault (constant i) (item (target.Type x.ty)) h (constant_type at) (type_absent x.ty h a)
    | inr b ↦ absent_fault (constant i) (operand x.init) h (constant_value at) (value_absent x.init h b)
  ]

  pub override_fault : (i : ℕ) (x : PlainOverride) (h : HandleFault) → slice_get m.overrides i ≡ Some x → override_missing (outside_functions m) x ≡ Some h → IsFaultIn m h
  override_fault i x h at e = elim (or_some _ _ h e) [
    | inl a ↦ absent_fault (override i) (item (target.Type x.ty)) h (override_type at) (type_absent x.ty h a)
    | inr b ↦ (let r = then_some (missing kind.Expression (length m.global_expressions)) x.init h b in absent_fault (override i) (operand r.0) h (override_value at r.1) (value_absent r.0 h r.2))
  ]

  pub variable_fault : (i : ℕ) (x : PlainGlobal) (h : HandleFault) → slice_get m.globals i ≡ Some x → variable_missing (outside_functions m) x ≡ Some h → IsFaultIn m h
  variable_fault i x h at e = elim (or_some _ _ h e) [
    | inl a ↦ absent_fault (variable i) (item (target.Type x.ty)) h (variable_type at) (type_absent x.ty h a)
    | inr b ↦ (let r = then_some (missing kind.Expression (length m.global_expressions)) x.init h b in absent_fault (variable i) (operand r.0) h (variable_value at r.1) (value_absent r.0 h r.2))
  ]

  pub entry_fault : (k : ℕ) (x : PlainEntry) (h : HandleFault) → slice_get m.entries k ≡ Some x → entry_missing (outside_functions m) x ≡ Some h → IsFaultIn m h
  entry_fault k x h at e = elim (or_some _ _ h e) [
    | inl a ↦ (let r = one_missing kind.Type _ (mesh_types x.mesh) h a in
        absent_fault (entry k) (item (target.Type r.0)) h (entry_type at r.1) (record { k = kind.Type; place = r.0; is = r.2; at = refl; not = r.3 }))
    | inr b ↦ elim (or_some _ _ h b) [
      | inl c ↦ (let r = one_missing kind.Expression _ (mesh_expressions x.mesh) h c in
          absent_fault (entry k) (operand r.0) h (entry_expression at r.1) (record { k = kind.Expression; place = r.0; is = r.2; at = refl; not = r.3 }))
      | inr d ↦ (let r = one_missing kind.GlobalVariable _ (entry_variables x) h d in
          absent_fault (entry k) (item (target.GlobalVariable r.0)) h (entry_variable at r.1) (record { k = kind.GlobalVariable; place = r.0; is = r.2; at = refl; not = r.3 }))
    ]
  ]

  -- ---- types and initializers of referenced items

  pub type_found : (x : PlainExpression) (t : ℕ) → NamesType m x t → option_and_then (type_of m) (expression_item x) ≡ Some t
  type_found x _ (by_itself is) = ap (option_and_then (type_of m)) is
  type_found x _ (by_constant is at) = ap (option_and_then (type_of m)) is ∙ ap (option_map (λ (c : PlainConstant). c.ty)) at
  type_found x _ (by_override is at) = ap (option_and_then (type_of m)) is ∙ ap (option_map (λ (o : PlainOverride). o.ty)) at

  named_type : (x : PlainExpression) (t : ℕ) (u : Target) → expression_item x ≡ Some u → type_of m u ≡ Some t → NamesType m x t
  named_type x t (target.Type handle) is e = by_itself (is ∙ ap (λ (h : ℕ). Some (target.Type h)) (same_Some handle t e))
  named_type x t (target.Constant handle) is e = let r = map_some (λ (c : PlainConstant). c.ty) (slice_get m.constants handle) t e in subst (NamesType m x) (sym r.2) (by_constant is r.1)
  named_type x t (target.Override handle) is e = let r = map_some (λ (o : PlainOverride). o.ty) (slice_get m.overrides handle) t e in subst (NamesType m x) (sym r.2) (by_override is r.1)
  named_type x t (target.GlobalVariable handle) is e = cc
  named_type x t (target.LocalVariable handle) is e = cc
  named_type x t (target.Function handle) is e = cc
  named_type x t (target.DiagnosticFilter handle) is e = cc

  pub type_named : (x : PlainExpression) (t : ℕ) → option_and_then (type_of m) (expression_item x) ≡ Some t → NamesType m x t
  type_named x t e = let r = then_some (type_of m) (expression_item x) t e in named_type x t r.0 r.1 r.2

  -- ---- global expressions

  item_begins : (e : ℕ) (x : PlainExpression) (h : HandleFault) (init : ℕ) (u : Target) → slice_get m.global_expressions e ≡ Some x → expression_item x ≡ Some u → init_of m u ≡ Some init
      → forward kind.Expression e init ≡ Some h → IsFaultIn m h
  item_begins e x h init (target.Type handle) at is begins f = cc
  item_begins e x h init (target.Constant handle) at is begins f =
      let r = map_some (λ (c : PlainConstant). c.init) (slice_get m.constants handle) init begins in
      let t = forward_some kind.Expression e r.0.init h (subst (λ i. forward kind.Expression e i ≡ Some h) r.2 f) in
      forward_fault h kind.Expression (an_expression e) (an_expression r.0.init) (expression_on_constant at is r.1) refl refl t.0 t.1
  item_begins e x h init (target.Override handle) at is begins f =
      let r = then_some (λ (o : PlainOverride). o.init) (slice_get m.overrides handle) init begins in
      let t = forward_some kind.Expression e init h f in
      forward_fault h kind.Expression (an_expression e) (an_expression init) (expression_on_override at is r.1 r.2) refl refl t.0 t.1
  item_begins e x h init (target.GlobalVariable handle) at is begins f = cc
  item_begins e x h init (target.LocalVariable handle) at is begins f = cc
  item_begins e x h init (target.Function handle) at is begins f = cc
  item_begins e x h init (target.DiagnosticFilter handle) at is begins f = cc

  pub global_fault : (e : ℕ) (x : PlainExpression) (h : HandleFault) → slice_get m.global_expressions e ≡ Some x → IsGlobalExpressionFault m e x h → IsFaultIn m h
  global_fault e x h at (inl a) =
      let r = then_some (item_missing (outside_functions m)) (expression_item x) h a in
      absent_fault (expression e) (item r.0) h (expression_names at r.1) (item_absent r.0 h r.2)
  global_fault e x h at (inr b) =
      let r = then_some (forward kind.Expression e) _ h b in
      let u = then_some (init_of m) (expression_item x) r.0 r.1 in
      item_begins e x h r.0 u.0 at u.1 u.2 r.2

  -- ---- types

  -- the override that gives the length of a type
  counted_item : (i : PlainInner) (u : Target) → counted_by i ≡ Some u → (o : ℕ) × (pending_of i ≡ Some o) × (u ≡ target.Override o)
  counted_item i u e = map_some (λ (o : ℕ). target.Override o) (pending_of i) u e

  pub pending_fault : (place : ℕ) (x : PlainType) (h : HandleFault) → slice_get m.types place ≡ Some x → pending_missing (outside_functions m) x.inner ≡ Some h → IsFaultIn m h
  pending_fault place x h at e =
      let r = then_some (missing kind.Override (length m.overrides)) (pending_of x.inner) h e in
      absent_fault (a_type place) (item (target.Override r.0)) h (type_counts at r.1) (item_absent (target.Override r.0) h r.2)

  pub built_fault : (place : ℕ) (x : PlainType) (h : HandleFault) → slice_get m.types place ≡ Some x → built_forward place x.inner ≡ Some h → IsFaultIn m h
  built_fault place x h at e =
      let r = map_some (λ t. fault.Forward kind.Type place t) _ h e in
      let p = past_one place (named_types x.inner) r.0 r.1 in
      forward_fault h kind.Type (type_before place) (type_before r.0) (type_on_named at p.0) refl refl r.2 p.1

  pub counted_fault : (place : ℕ) (x : PlainType) (h : HandleFault) → slice_get m.types place ≡ Some x → counted_forward m place x.inner ≡ Some h → IsFaultIn m h
  counted_fault place x h at e =
      let r = then_some (forward kind.Type place) _ h e in
      let u = then_some (type_of m) (counted_by x.inner) r.0 r.1 in
      let c = counted_item x.inner u.0 u.1 in
      let o = map_some (λ (y : PlainOverride). y.ty) (slice_get m.overrides c.0) r.0 (subst (λ v. type_of m v ≡ Some r.0) c.2 u.2) in
      let t = forward_some kind.Type place o.0.ty h (subst (λ n. forward kind.Type place n ≡ Some h) o.2 r.2) in
      forward_fault h kind.Type (type_before place) (type_before o.0.ty) (type_on_override at c.1 o.1) refl refl t.0 t.1

  -- the global expressions checked for a type: all up to the initializer of the override that gives its length
  record Begins (i : PlainInner) (e : ℕ) : Type 0 where
    pub o : ℕ
    pub counts : pending_of i ≡ Some o
    pub override : PlainOverride
    pub at : slice_get m.overrides o ≡ Some override
    pub init : ℕ
    pub begins : override.init ≡ Some init
    pub up : e ≤ init

  begins_with : (i : PlainInner) (e : ℕ) (o : Option ℕ) → option_and_then (init_of m) (counted_by i) ≡ o → e < up_to o → Begins i e
  begins_with i e None is lt = absurd (let no : e < 0 = lt in omega (arith, no))
  begins_with i e (Some init) is lt =
      let u = then_some (init_of m) (counted_by i) init is in
      let c = counted_item i u.0 u.1 in
      let r = then_some (λ (y : PlainOverride). y.init) (slice_get m.overrides c.0) init (subst (λ v. init_of m v ≡ Some init) c.2 u.2) in
      record { o = c.0; counts = c.1; override = r.0; at = r.1; init = init; begins = r.2; up = (let below : e < init + 1 = lt in omega (arith, below)) }

  pub looked_fault : (place from : ℕ) (x : PlainType) (h : HandleFault) → slice_get m.types place ≡ Some x → NamesForward m place from (looked_through m x.inner) h → IsFaultIn m h
  looked_fault place from x h at f =
      let r = then_some (forward kind.Type place) _ h f.found in
      let b = begins_with x.inner f.e _ refl f.before in
      let t = forward_some kind.Type place r.0 h r.2 in
      forward_fault h kind.Type (type_before place) (type_before r.0) (type_on_expression at b.counts b.at b.begins b.up f.at (type_named f.x r.0 r.1)) refl refl t.0 t.1
