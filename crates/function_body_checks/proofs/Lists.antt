-- Whether an expression is one of a list.
use Rattle.std.proofs.Common.{◌≡◌, ℕ, zero, suc, List, [], ◌∷◌, Some, Contains, slice_get, Bool, true, false, ◌||◌, nat_eq, IsTrue, true≢false, refl, sym, ap, ◌∙◌, subst}
use Rattle.std.proofs.lemmas.Bool.{eqb-true, eq-eqb, or_right}
use Rattle.std.proofs.lemmas.List.Elements.{Contains-append_right}
use Rattle.std.proofs.lemmas.Option.{slice_get_within, slice_get-get_or, get_or_from_slice_get}
use Rattle.ir_types.specs.judged.ExpressionPlain.{expression_view, always_in_scope}
use Rattle.ir_types.specs.declared.expressions.Expression.{Expression}
use Rattle.ir_types.specs.declared.expressions.Expression.TheVariants.{Compose}
use Rattle.spec_statements.specs.judged.Scope.{is_pre_emitted}
use Rattle.function_body_checks.specs.Carried.{holds}

pub same_pre : (e : Expression) → always_in_scope e ≡ is_pre_emitted (expression_view e)
same_pre (Compose type components) = refl
same_pre other = refl

pub contains_at : (list : List ℕ) (k e : ℕ) → slice_get list k ≡ Some e → Contains list e
contains_at list k e at = (k, slice_get_within list k e at, get_or_from_slice_get list k e e at)

pub at_contains : (list : List ℕ) (e : ℕ) → Contains list e → (k : ℕ) × (slice_get list k ≡ Some e)
at_contains list e held = (held.0, slice_get-get_or list held.0 e held.1 ∙ ap Some held.2)

-- ---- whether one is there

is_same : (x e : ℕ) → nat_eq x e ≡ true → x ≡ e
is_same x e h = eqb-true x e h

holds_all : (xs : List ℕ) (e : ℕ) → (k : ℕ) × (slice_get xs k ≡ Some e) → holds xs e ≡ true
holds_all [] e at = let h = at.1 in absurd (cc)
holds_all (x ∷ xs) e (zero, at) = let same : x ≡ e = (let h = at in cc) in ap (λ b. b || holds xs e) (subst (λ y. nat_eq y e ≡ true) (sym same) (eq-eqb e e refl))
holds_all (x ∷ xs) e (suc k, at) = or_right (nat_eq x e) (holds xs e) (holds_all xs e (k, at))

pub holds_at : (xs : List ℕ) (e : ℕ) → Contains xs e → holds xs e ≡ true
holds_at xs e held = holds_all xs e (at_contains xs e held)

either_held : (x : ℕ) (xs : List ℕ) (e : ℕ) (b : Bool) → nat_eq x e ≡ b → (b || holds xs e) ≡ true → (holds xs e ≡ true → Contains xs e) → Contains (x ∷ xs) e
either_held x xs e true is h more = contains_at (x ∷ xs) 0 e (ap Some (is_same x e is))
either_held x xs e false is h more = Contains-append_right (x ∷ []) xs e (more h)

pub held_at : (xs : List ℕ) (e : ℕ) → holds xs e ≡ true → Contains xs e
held_at [] e h = absurd (true≢false (sym h))
held_at (x ∷ xs) e h = either_held x xs e (nat_eq x e) refl h (held_at xs e)

not_held : (xs : List ℕ) (e : ℕ) (b : Bool) → holds xs e ≡ b → (Contains xs e → IsTrue false) → false ≡ b
not_held xs e true is h = absurd (true≢false (sym (h (held_at xs e is))))
not_held xs e false is h = refl

pub by_holds : (xs : List ℕ) (e : ℕ) (b : Bool) → (IsTrue b → Contains xs e) × (Contains xs e → IsTrue b) → b ≡ holds xs e
by_holds xs e true h = sym (holds_at xs e (h.0 refl))
by_holds xs e false h = not_held xs e (holds xs e) refl h.1
