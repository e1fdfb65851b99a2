-- The computed requirement is one at a disrupted place, and if none is computed there is none.
use Rattle.std.proofs.Common.{◌≡◌, ◌⊎◌, inl, inr, ℕ, zero, suc, Bool, true, false, ◌||◌, IsTrue, Option, Some, None, refl, sym, ap, ◌∙◌, subst, ⊎_elim}
use Rattle.ir_flags.specs.declared.settings.ValidationFlags.{ValidationFlags}
use Rattle.ir_kinds.specs.declared.diagnostics.Severity.{Severity}
use Rattle.ir_items.specs.IrBlocks.{PlainOperation, control_barrier, memory_barrier, store, image_store, atomic, image_atomic, uniform_load, ray_query, ballot, collective, gather, cooperative_store, ray_pipeline, PlainStatement, emit, block, if_, switch, loop, break, continue, return, kill, operation, call, PlainBlock, stop, next, PlainCases, no_case, case, Part, inner, accepting, rejecting, case_at, loop_body, loop_continuing, shape_of, case_body, part_of, Place, here, later, inside, condition, statement, OccursAt}
use Rattle.spec_expressions.specs.judged.Kinds.{operation_row}
use Rattle.spec_expressions.specs.judged.Disruption.{ends_in, ends_at, enter, disrupted_at}
use Rattle.spec_expressions.specs.judged.Uniformity.{Required, WaitRequires, Requires, DisruptedRequirement, UniformityFault}
use Rattle.spec_expressions.specs.found.Found.{first_required, where_disrupted, operation_required, required_in, required_at, required_in_cases, IsLook}
use Rattle.spec_expressions.proofs.EverywhereLaws.{none_in_stop}
use Rattle.spec_expressions.proofs.DisruptionLaws.{found, from_found, disrupted_as}

first_cases : (a b : Option Required) (x : Required) → first_required a b ≡ Some x → (a ≡ Some x) ⊎ (b ≡ Some x)
first_cases None b x e = inr e
first_cases (Some y) b x e = inl e

none_first : (a b : Option Required) → first_required a b ≡ None → (a ≡ None) × (b ≡ None)
none_first None b e = (refl, e)
none_first (Some y) b e = cc

where_is : (d : Bool) (o : Option Required) (x : Required) → where_disrupted d o ≡ Some x → IsTrue d × (o ≡ Some x)
where_is true o x e = (refl, e)
where_is false o x e = cc

where_none : (d : Bool) (o : Option Required) → where_disrupted d o ≡ None → IsTrue d → o ≡ None
where_none true o e t = e
where_none false o e t = absurd (cc)

not_some : (x : Required) → None ≡ Some x → ⊥
not_some x e = cc

same_required : (x y : Required) → Some x ≡ Some y → x ≡ y
same_required x y e = cc

-- the requirement of an operation
abbrev OperationRequires : PlainOperation → Required → Type 0
OperationRequires a x = WaitRequires (operation_row a).waits x

operation_found : (a : PlainOperation) (x : Required) → operation_required a ≡ Some x → OperationRequires a x
operation_found (uniform_load pointer answer) x e =
    let same = same_required _ x e in
    (ap (λ (y : Required). y.requirement) (sym same), ap (λ (y : Required). y.expression) (sym same))
operation_found _ x e = absurd (not_some x e)

some_not : {A : Type 0} (x : A) → Some x ≡ None → ⊥
some_not x e = cc

operation_none : (a : PlainOperation) (x : Required) → operation_required a ≡ None → OperationRequires a x → ⊥
operation_none (uniform_load pointer answer) x e h = some_not _ e
operation_none (control_barrier barrier) x e h = h
operation_none (memory_barrier barrier) x e h = h
operation_none (store pointer value) x e h = h
operation_none (image_store image coordinate array_index value) x e h = h
operation_none (atomic pointer fun value answer) x e h = h
operation_none (image_atomic image coordinate array_index fun value) x e h = h
operation_none (ray_query query fun) x e h = h
operation_none (ballot answer predicate) x e h = h
operation_none (collective op collective_op argument answer) x e h = h
operation_none (gather mode argument answer) x e h = h
operation_none (cooperative_store target place) x e h = h
operation_none (ray_pipeline fun) x e h = h

module _ (severity : Severity) (required : ℕ → ℕ) (varies : ℕ → Bool) (look : ℕ → ℕ → Option Required) (is : IsLook severity required look) where
  -- a requirement at a place that is computed to be disrupted
  abbrev RequiredAt : Bool → PlainBlock → Required → Type 0
  RequiredAt d b x = (p : Place) × (s : PlainStatement) × OccursAt b p s × Requires severity required s x × IsTrue (disrupted_at varies d p b)

  -- the requirement of a statement itself, or in one of its parts
  abbrev RequiredBy : Bool → PlainStatement → Required → Type 0
  RequiredBy d s x = (Requires severity required s x × IsTrue d) ⊎ ((part : Part) × RequiredAt (enter varies d s part) (part_of (shape_of s) part) x)

  by_first : (d : Bool) (s : PlainStatement) (rest : PlainBlock) (x : Required) → RequiredBy d s x → RequiredAt d (next s rest) x
  by_first d s rest x (inl own) = (here, s, refl, own.0, own.1)
  by_first d s rest x (inr i) = let a = i.1 in (inside i.0 a.0, a.1, a.2, a.3, a.4)

  -- ---- a computed requirement exists

  mutual
    found_in : (b : PlainBlock) (d : Bool) (x : Required) → required_in varies look d b ≡ Some x → RequiredAt d b x
    found_in stop d x e = absurd (not_some x e)
    found_in (next s rest) d x e =
        ⊎_elim (λ l. by_first d s rest x (found_at s d x l))
        (λ r. let a = found_in rest (d || ends_at varies d s) x r in (later a.0, a.1, a.2, a.3, a.4))
        (first_cases _ _ x e)

    found_at : (s : PlainStatement) (d : Bool) (x : Required) → required_at varies look d s ≡ Some x → RequiredBy d s x
    found_at (emit first end) d x e = let w = where_is d (look first end) x e in inl (is.found first end x w.1, w.0)
    found_at (block b) d x e = inr (inner, found_in b d x e)
    found_at (if_ h a r) d x e =
        ⊎_elim (λ l. inr (accepting, found_in a (d || varies h) x l)) (λ l. inr (rejecting, found_in r (d || varies h) x l)) (first_cases _ _ x e)
    found_at (switch h cases) d x e = let k = found_case cases (d || varies h) x e in inr (case_at k.0, k.1)
    found_at (loop b r o) d x e =
        ⊎_elim (λ l. inr (loop_body, found_in b d x l)) (λ l. inr (loop_continuing, found_in r (d || ends_in varies d b) x l)) (first_cases _ _ x e)
    found_at (operation a) d x e = let w = where_is d (operation_required a) x e in inl (operation_found a x w.1, w.0)
    found_at break d x e = absurd (not_some x e)
    found_at continue d x e = absurd (not_some x e)
    found_at (return value) d x e = absurd (not_some x e)
    found_at kill d x e = absurd (not_some x e)
    found_at (call function arguments answer) d x e = absurd (not_some x e)

    found_case : (cases : PlainCases) (d : Bool) (x : Required) → required_in_cases varies look d cases ≡ Some x → (k : ℕ) × RequiredAt d (case_body cases k) x
    found_case no_case d x e = absurd (not_some x e)
    found_case (case value body falls rest) d x e =
        ⊎_elim (λ l. (zero, found_in body d x l)) (λ l. let k = found_case rest d x l in (suc k.0, k.1)) (first_cases _ _ x e)

  -- ---- if none is computed, none exists

  own_none : (s : PlainStatement) (d : Bool) (x : Required) → required_at varies look d s ≡ None → IsTrue d → Requires severity required s x → ⊥
  own_none (emit first end) d x e t h = is.none first end x (where_none d (look first end) e t) h
  own_none (operation a) d x e t h = operation_none a x (where_none d (operation_required a) e t) h
  own_none (block b) d x e t h = h
  own_none (if_ c a r) d x e t h = h
  own_none (switch c cases) d x e t h = h
  own_none (loop b r o) d x e t h = h
  own_none break d x e t h = h
  own_none continue d x e t h = h
  own_none (return value) d x e t h = h
  own_none kill d x e t h = h
  own_none (call function arguments answer) d x e t h = h

  case_none : (cases : PlainCases) (k : ℕ) (d : Bool) → required_in_cases varies look d cases ≡ None → required_in varies look d (case_body cases k) ≡ None
  case_none no_case k d e = refl
  case_none (case value body falls rest) zero d e = (none_first _ _ e).0
  case_none (case value body falls rest) (suc k) d e = case_none rest k d (none_first _ _ e).1

  part_none : (s : PlainStatement) (part : Part) (d : Bool) → required_at varies look d s ≡ None → required_in varies look (enter varies d s part) (part_of (shape_of s) part) ≡ None
  part_none (block b) inner d e = e
  part_none (if_ h a r) accepting d e = (none_first _ _ e).0
  part_none (if_ h a r) rejecting d e = (none_first _ _ e).1
  part_none (switch h cases) (case_at k) d e = case_none cases k (d || varies h) e
  part_none (loop b r o) loop_body d e = (none_first _ _ e).0
  part_none (loop b r o) loop_continuing d e = (none_first _ _ e).1
  part_none _ _ d e = refl

  none_at : (p : Place) (b : PlainBlock) (d : Bool) (s : PlainStatement) (x : Required) → required_in varies look d b ≡ None → OccursAt b p s → Requires severity required s x → IsTrue (disrupted_at varies d p b) → ⊥
  none_at p stop d s x e at h t = none_in_stop p s at
  none_at here (next u rest) d s x e at h t =
      let same : u ≡ s = (let y = at in cc) in
      own_none u d x (none_first _ _ e).0 t (subst (λ z. Requires severity required z x) (sym same) h)
  none_at (later p) (next u rest) d s x e at h t = none_at p rest (d || ends_at varies d u) s x (none_first _ _ e).1 at h t
  none_at (inside part p) (next u rest) d s x e at h t =
      none_at p (part_of (shape_of u) part) (enter varies d u part) s x (part_none u part d (none_first _ _ e).0) at h t
  none_at condition (next u rest) d s x e at h t = let y = at in cc

  -- ---- by places

  pub asked_sound : (b : PlainBlock) (x : Required) → required_in varies look false b ≡ Some x → DisruptedRequirement severity required (λ h. IsTrue (varies h)) b x
  asked_sound b x e =
      let a = found_in b false x e in
      record { place = a.0; statement = a.1; stands = a.2; asks = a.3; disrupted = from_found varies a.0 false b a.4 }

  pub asked_complete : (b : PlainBlock) → required_in varies look false b ≡ None → (x : Required) → DisruptedRequirement severity required (λ h. IsTrue (varies h)) b x → ⊥
  asked_complete b e x ask = none_at ask.place b false ask.statement x e ask.stands ask.asks (found varies false b ask.disrupted)

-- ---- for equivalent predicates of non-uniform values and requirements

asks_as : (severity : Severity) {required others : ℕ → ℕ} → ((h : ℕ) → required h ≡ others h) → (s : PlainStatement) (x : Required) → Requires severity required s x → Requires severity others s x
asks_as severity same (emit first end) x h = record { from_first = h.from_first; below_end = h.below_end; requirement = h.requirement ∙ same x.expression; counts = h.counts }
asks_as severity same (block b) x h = h
asks_as severity same (if_ c a r) x h = h
asks_as severity same (switch c cases) x h = h
asks_as severity same (loop b r o) x h = h
asks_as severity same break x h = h
asks_as severity same continue x h = h
asks_as severity same (return value) x h = h
asks_as severity same kill x h = h
asks_as severity same (operation a) x h = h
asks_as severity same (call function arguments answer) x h = h

pub fault_as : (flags : ValidationFlags) (severity : Severity) {required others : ℕ → ℕ} {V W : ℕ → Type 0} (b : PlainBlock) (x : Required) → ((h : ℕ) → required h ≡ others h) → ((h : ℕ) → V h → W h)
    → UniformityFault flags severity required V b x → UniformityFault flags severity others W b x
fault_as flags severity b x same more f =
    let a = f.fault in
    record {
      flag = f.flag;
      fault = record { place = a.place; statement = a.statement; stands = a.stands; asks = asks_as severity same a.statement x a.asks; disrupted = disrupted_as more a.place a.disrupted };
    }
