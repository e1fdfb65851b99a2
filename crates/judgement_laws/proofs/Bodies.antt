-- The requirements of a body hold of each body that is alike.
use native.Mathlib.Omega.{arith}
use Rattle.std.proofs.Common.{◌≡◌, ◌⊎◌, inl, inr, ℕ, Bool, false, Option, Some, None, [], refl, sym, ap, subst, ◌∙◌, IsTrue}
use Rattle.std.specs.Prelude.{Contains, ◌<◌}
use Rattle.ir_blocks.specs.judged.Plain.{PlainStatement, return, operation, PlainBlock}
use Rattle.ir_blocks.specs.judged.Shapes.{Exit, returns, exit_of, shape_of}
use Rattle.ir_blocks.specs.judged.Places.{Place, Spot, nothing, statement, loop_condition, spot_at, OccursAt}
use Rattle.ir_blocks.specs.judged.Control.{may_leave, parts_around, ControlOK}
use Rattle.ir_blocks.specs.judged.Tails.{head_of}
use Rattle.ir_blocks.specs.found.View.{HoldsNoBlock}
use Rattle.ir_flags.specs.declared.settings.ValidationFlags.{ValidationFlags}
use Rattle.ir_items.specs.judged.Plain.{PlainFunction, PlainModule}
use Rattle.ir_kinds.specs.declared.diagnostics.Severity.{Severity}
use Rattle.spec_expressions.specs.judged.Disruption.{chosen_by, is_end, Disrupted, already, chosen, after}
use Rattle.spec_expressions.specs.judged.Uniformity.{Required, Requires, DisruptedRequirement}
use Rattle.spec_statements.specs.judged.Payloads.{HasPayload}
use Rattle.spec_statements.specs.judged.Results.{answer_of, AnswersBy, AnsweredOnce}
use Rattle.spec_statements.specs.judged.Scope.{Introduces, Checks, InScope, ScopeOK}
use Rattle.spec_statements.specs.judged.Tables.{statement_checked, checked_at, introduced, introduced_at}
use Rattle.judgement_laws.specs.found.Alike.{Carried, kept, extra, IsCarried, Alike}
use Rattle.judgement_laws.proofs.Heads.{simple_is, by_head, checked_head, introduced_head, answer_head, chosen_head, end_head, exit_head, asks_by_head}

-- ---- properties of statements

-- the property depends only on a statement's head, its nested blocks aside
abbrev pub LooksAtHead : (PlainStatement → Type 0) → Type 0
LooksAtHead P = (s t : PlainStatement) → head_of t ≡ head_of s → P s → P t

-- a statement with such a property, which no return without a value has, is in the other body too
pub carry : {b c : PlainBlock} (P : PlainStatement → Type 0) → LooksAtHead P → (P (return None) → ⊥) → IsCarried b c
    → (p : Place) (s : PlainStatement) → OccursAt b p s → P s → (t : PlainStatement) × OccursAt c p t × P t
carry {b} {c} P looks none h p s e holds = by_kind (h.statements p s e)
  where
    by_kind : Carried b c p s → (t : PlainStatement) × OccursAt c p t × P t
    by_kind (kept t stands head) = (t, stands, looks s t head holds)
    by_kind (extra is rest r behind) = absurd (none (subst P is holds))

pub looks : {X : Type 0} (h : PlainStatement → X) → ((s : PlainStatement) → h (head_of s) ≡ h s) → (Q : X → Type 0) → LooksAtHead (λ s. Q (h s))
looks h same Q s t e holds = subst Q (by_head h same s t e) holds

-- to be one given statement without blocks is such a property
pub is_same : (u : PlainStatement) → HoldsNoBlock u → head_of u ≡ u → LooksAtHead (λ s. s ≡ u)
is_same u none own s t head is = simple_is t u (head ∙ (ap head_of is ∙ own)) none

pub none_contained : (e : ℕ) → Contains [] e → ⊥
none_contained e c = not_below c.0 c.1
  where
    not_below : (k : ℕ) → k < 0 → ⊥
    not_below k l = omega (arith, l)

-- ---- scope

pub introduces : {b c : PlainBlock} → IsCarried b c → (p : Place) (e : ℕ) → Introduces b p e → Introduces c p e
introduces {b} {c} h p e i = at (spot_at p b) refl i
  where
    at : (x : Spot) → spot_at p b ≡ x → Contains (introduced_at x) e → Introduces c p e
    at nothing is i = absurd (none_contained e i)
    at (loop_condition break_if) is i = absurd (none_contained e i)
    at (statement s) is i =
        let k = carry (λ u. Contains (introduced u) e) (looks introduced introduced_head (λ xs. Contains xs e)) (none_contained e) h p s is i in
        subst (λ x. Contains (introduced_at x) e) (sym k.1) k.2

pub checks : {b c : PlainBlock} → IsCarried b c → (p : Place) (e : ℕ) → Checks b p e → Checks c p e
checks {b} {c} h p e i = at (spot_at p b) refl i
  where
    in_condition : (break_if : Option ℕ) → (spot_at p c ≡ loop_condition break_if) ⊎ (break_if ≡ None) → Contains (checked_at (loop_condition break_if)) e → Checks c p e
    in_condition break_if (inl same) i = subst (λ x. Contains (checked_at x) e) (sym same) i
    in_condition break_if (inr none) i = absurd (none_contained e (subst (λ o. Contains (checked_at (loop_condition o)) e) none i))

    at : (x : Spot) → spot_at p b ≡ x → Contains (checked_at x) e → Checks c p e
    at nothing is i = absurd (none_contained e i)
    at (loop_condition break_if) is i = in_condition break_if (h.conditions p break_if is) i
    at (statement s) is i =
        let k = carry (λ u. Contains (statement_checked u) e) (looks statement_checked checked_head (λ xs. Contains xs e)) (none_contained e) h p s is i in
        subst (λ x. Contains (checked_at x) e) (sym k.1) k.2

in_scope : (f : PlainFunction) (c : PlainBlock) → IsCarried f.body c → (p : Place) (e : ℕ) → InScope f p e → InScope (record f { body = c }) p e
in_scope f c h p e (inl pre) = inl pre
in_scope f c h p e (inr x) = inr (x.0, x.1, introduces h x.0 e x.2)

pub scope_moves : (f : PlainFunction) (c : PlainBlock) → Alike f.body c → ScopeOK f → ScopeOK (record f { body = c })
scope_moves f c a ok = record {
  in_scope = λ p e h. in_scope f c a.there p e (ok.in_scope p e (checks a.back p e h));
  fresh = λ p e h s. ok.fresh p e (introduces a.back p e h) (in_scope (record f { body = c }) f.body a.back p e s);
}

-- ---- control

exit_is : (exit : Exit) → Some returns ≡ Some exit → returns ≡ exit
exit_is exit e = let x = e in cc

pub control_moves : (b c : PlainBlock) → IsCarried c b → ControlOK b → ControlOK c
control_moves b c h ok p s exit stands leaves = by_kind (h.statements p s stands)
  where
    by_kind : Carried c b p s → IsTrue (may_leave exit (parts_around [] p))
    by_kind (kept t at head) = ok p t exit at (sym (by_head (λ u. exit_of (shape_of u)) exit_head s t head) ∙ leaves)
    by_kind (extra is rest r behind) = subst (λ x. IsTrue (may_leave x (parts_around [] p))) (exit_is exit (sym (ap (λ u. exit_of (shape_of u)) is) ∙ leaves)) r

-- ---- results of statements

no_answer : (e : ℕ) → None ≡ Some e → ⊥
no_answer e h = let x = h in cc

pub answers : {b c : PlainBlock} → IsCarried b c → (p : Place) (e : ℕ) → AnswersBy b p e → AnswersBy c p e
answers h p e a = carry (λ u. answer_of u ≡ Some e) (looks answer_of answer_head (λ x. x ≡ Some e)) (no_answer e) h p a.0 a.1 a.2

pub answered_moves : (flags : ValidationFlags) (f : PlainFunction) (c : PlainBlock) → Alike f.body c → AnsweredOnce flags f → AnsweredOnce flags (record f { body = c })
answered_moves flags f c a ok = record {
  once = λ p q e x y. ok.once p q e (answers a.back p e x) (answers a.back q e y);
  asked = λ p e x. ok.asked p e (answers a.back p e x);
  each = λ flag e stands. (let x = ok.each flag e stands in (x.0, answers a.there x.0 e x.1));
}

-- ---- disruption

pub disrupted_moves : {b c : PlainBlock} (V W : ℕ → Type 0) → ((e : ℕ) → V e → W e) → (outer : Bool) → IsCarried b c
    → (p : Place) (s : PlainStatement) → OccursAt b p s → Disrupted V outer b p → Disrupted W outer c p
disrupted_moves V W map outer h p s stands (already o) = already o
disrupted_moves V W map outer h p s stands (chosen {a = a} u e lies at by v) =
    let k = carry (λ x. chosen_by x ≡ Some e) (looks chosen_by chosen_head (λ x. x ≡ Some e)) (no_answer e) h a u at by in
    chosen k.0 e lies k.1 k.2 (map e v)
disrupted_moves {b} {c} V W map outer h p s stands (after {r = r} i d) = by_kind (h.statements r i.end i.stands) (disrupted_moves V W map outer h r i.end i.stands d)
  where
    stands_not : spot_at p b ≡ nothing → Disrupted W outer c p
    stands_not is = absurd (let x = sym is ∙ stands in cc)

    by_kind : Carried b c r i.end → Disrupted W outer c r → Disrupted W outer c p
    by_kind (kept t stands_there head) there =
        after (record { end = t; stands = stands_there; ends = subst IsTrue (by_head is_end end_head i.end t head) i.ends; earlier = i.earlier; holds = i.holds; before = i.before }) there
    by_kind (extra is rest ret behind) there = stands_not (behind i.earlier p i.holds i.before)

no_ask : (severity : Severity) (required : ℕ → ℕ) (x : Required) → Requires severity required (return None) x → ⊥
no_ask severity required x h = h

pub asks_move : {b c : PlainBlock} (severity : Severity) (required : ℕ → ℕ) (V W : ℕ → Type 0) → ((e : ℕ) → V e → W e) → IsCarried b c
    → (x : Required) → DisruptedRequirement severity required V b x → DisruptedRequirement severity required W c x
asks_move severity required V W map h x d =
    let k = carry (λ u. Requires severity required u x) (asks_by_head severity required x) (no_ask severity required x) h d.place d.statement d.stands d.asks in
    record {
      place = d.place;
      statement = k.0;
      stands = k.1;
      asks = k.2;
      disrupted = disrupted_moves V W map false h d.place d.statement d.stands d.disrupted;
    }

-- ---- payloads

pub payload_moves : (m : PlainModule) (f : PlainFunction) (c : PlainBlock) → IsCarried f.body c → (type : ℕ) → HasPayload m f type → HasPayload m (record f { body = c }) type
payload_moves m f c h type x =
    let k = carry (λ s. s ≡ operation _) (is_same (operation _) tt refl) (λ is. (let y = is in cc)) h x.place _ x.stands refl in
    record {
      place = x.place;
      acceleration_structure = x.acceleration_structure;
      descriptor = x.descriptor;
      payload = x.payload;
      stands = k.1 ∙ ap statement k.2;
      declared = x.declared;
    }
