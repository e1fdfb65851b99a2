-- Kinds of expressions.
use Rattle.std.proofs.Common.{◌≡◌, ◌<◌, ◌+◌, ◌++◌, ℕ, zero, suc, List, [], ◌∷◌, Some, All, map, length, slice_get, get_or, refl, sym, ap, subst, ◌∙◌, inl, inr, arith, length-append}
use Rattle.std.proofs.lemmas.Option.{slice_get_within, get_or_from_slice_get}
use Rattle.typing_forms.specs.IrArena.{value_at, value_of_entry, Span}
use Rattle.typing_forms.specs.IrTypes.{PlainExpression, expression_view, Expression}
use Rattle.typing_layout.specs.declared.constness.ExpressionKind.{ExpressionKind}
use Rattle.typing_layout.specs.declared.constness.ExpressionKind.TheVariants.{Const, Override, Runtime}
use Rattle.typing_layout.specs.judged.Constness.{later, latest, Origin, own, latest_of, origin_of, IsOfKind, by_itself, by_operands, AreKinds, OriginsPrecede, operands_from, OneKind}
use Rattle.typing_layout.specs.found.Kinds.{known_kind, kind_by}
use Rattle.typing_layout.proofs.Held.{pushed}

-- ---- the latest

pub later_assoc : (a b c : ExpressionKind) → later (later a b) c ≡ later a (later b c)
later_assoc Const b c = refl
later_assoc Override Const c = refl
later_assoc Override Override Const = refl
later_assoc Override Override Override = refl
later_assoc Override Override Runtime = refl
later_assoc Override Runtime Const = refl
later_assoc Override Runtime Override = refl
later_assoc Override Runtime Runtime = refl
later_assoc Runtime b c = refl

pub latest_append : (xs ys : List ExpressionKind) → latest (xs ++ ys) ≡ later (latest xs) (latest ys)
latest_append [] ys = refl
latest_append (x ∷ xs) ys = ap (later x) (latest_append xs ys) ∙ sym (later_assoc x (latest xs) (latest ys))

map_append : (f : ℕ → ExpressionKind) (xs ys : List ℕ) → map f (xs ++ ys) ≡ map f xs ++ map f ys
map_append f [] ys = refl
map_append f (x ∷ xs) ys = ap (λ l. f x ∷ l) (map_append f xs ys)

-- the latest of the kinds of two lists of operands
pub latest_of_two : (f : ℕ → ExpressionKind) (xs ys : List ℕ) → latest (map f (xs ++ ys)) ≡ later (latest (map f xs)) (latest (map f ys))
latest_of_two f xs ys = ap latest (map_append f xs ys) ∙ latest_append (map f xs) (map f ys)

-- ---- operands before an expression

pub all_left : (n : ℕ) (xs ys : List ℕ) → All (λ operand. operand < n) (xs ++ ys) → All (λ operand. operand < n) xs
all_left n [] ys h k d lt = absurd (omega arith)
all_left n (x ∷ xs) ys h zero d lt = h 0 d (omega arith)
all_left n (x ∷ xs) ys h (suc k) d lt = all_left n xs ys (λ j e l. h (suc j) e (omega arith)) k d (omega arith)

pub all_right : (n : ℕ) (xs ys : List ℕ) → All (λ operand. operand < n) (xs ++ ys) → All (λ operand. operand < n) ys
all_right n [] ys h = h
all_right n (x ∷ xs) ys h = all_right n xs ys (λ j e l. h (suc j) e (omega arith))

-- ---- kinds are unique

-- the kinds of the same operands are equal, if each has one kind
same_kinds : (f g : ℕ → ExpressionKind) (operands : List ℕ) → ((place operand : ℕ) → slice_get operands place ≡ Some operand → f operand ≡ g operand) → map f operands ≡ map g operands
same_kinds f g [] h = refl
same_kinds f g (x ∷ xs) h =
    let first : f x ≡ g x = h 0 x refl in
    let rest : map f xs ≡ map g xs = same_kinds f g xs (λ k. h (suc k)) in
    λ i. first i ∷ rest i

-- the kind of an expression in the arena, by its definition
Comes : List PlainExpression → ExpressionKind → Origin → Type 0
Comes expressions k (own o) = k ≡ o
Comes expressions k (latest_of operands) =
    (kind : ℕ → ExpressionKind) × ((place operand : ℕ) → slice_get operands place ≡ Some operand → IsOfKind expressions operand (kind operand)) × (k ≡ latest (map kind operands))

comes : (expressions : List PlainExpression) (handle : ℕ) (k : ExpressionKind) → IsOfKind expressions handle k → (e : PlainExpression) → slice_get expressions handle ≡ Some e
    → Comes expressions k (origin_of e)
unfolding Comes
comes expressions _ _ (by_itself {e = d} {k = k} at is) e there =
    let same : d ≡ e = cc in subst (λ x. Comes expressions k (origin_of x)) same (subst (Comes expressions k) (sym is) refl)
comes expressions _ _ (by_operands {e = d} {operands = operands} kind at is each) e there =
    let same : d ≡ e = cc in
    subst (λ x. Comes expressions (latest (map kind operands)) (origin_of x)) same (subst (Comes expressions (latest (map kind operands))) (sym is) (kind, each, refl))

pub one_kind : OneKind
unfolding Comes
one_kind expressions _ _ right (by_itself {handle = handle} {e = e} {k = k} at is) b =
    sym (subst (Comes expressions right) is (comes expressions handle right b e at))
one_kind expressions _ _ right (by_operands {handle = handle} {e = e} {operands = operands} kind at is each) b =
    let other : Comes expressions right (latest_of operands) = subst (Comes expressions right) is (comes expressions handle right b e at) in
    ap latest (same_kinds kind other.0 operands (λ place operand s. one_kind expressions operand (kind operand) (other.0 operand) (each place operand s) (other.1 place operand s)))
    ∙ sym other.2

-- ---- expression by expression

-- each is the kind of the expression at its index, and there are this many
pub record AreFirstKinds (expressions : List PlainExpression) (kinds : List ExpressionKind) (place : ℕ) : Type 0 where
  pub next : length kinds ≡ place
  pub each : (handle : ℕ) (k : ExpressionKind) → slice_get kinds handle ≡ Some k → IsOfKind expressions handle k

pub no_kinds : (expressions : List PlainExpression) (kinds : List ExpressionKind) → kinds ≡ [] → AreFirstKinds expressions kinds 0
no_kinds expressions kinds none = subst (λ ks. AreFirstKinds expressions ks 0) (sym none) (record { next = refl; each = λ handle k at. cc })

known_at : (kinds : List ExpressionKind) (operand : ℕ) → operand < length kinds → slice_get kinds operand ≡ Some (known_kind kinds operand)
known_at [] operand lt = absurd (omega arith)
known_at (x ∷ xs) zero lt = refl
known_at (x ∷ xs) (suc k) lt = known_at xs k (omega arith)

below_at : (operands : List ℕ) (n place operand : ℕ) → All (λ o. o < n) operands → slice_get operands place ≡ Some operand → operand < n
below_at operands n place operand all at =
    let h : get_or operands place 0 < n = all place 0 (slice_get_within operands place operand at) in
    subst (λ o. o < n) (get_or_from_slice_get operands place operand 0 at) h

next_kind : (expressions : List PlainExpression) (kinds : List ExpressionKind) (place : ℕ) (e : PlainExpression) (o : Origin) → AreFirstKinds expressions kinds place
    → slice_get expressions place ≡ Some e → origin_of e ≡ o → All (λ operand. operand < length kinds) (operands_from o) → IsOfKind expressions place (kind_by kinds o)
next_kind expressions kinds place e (own k) first at is all = by_itself at is
next_kind expressions kinds place e (latest_of operands) first at is all =
    by_operands (known_kind kinds) at is (λ j operand s. first.each operand (known_kind kinds operand) (known_at kinds operand (below_at operands (length kinds) j operand all s)))

pub origins_below : (expressions : List PlainExpression) (kinds : List ExpressionKind) (place : ℕ) (e : PlainExpression) → OriginsPrecede expressions → AreFirstKinds expressions kinds place
    → slice_get expressions place ≡ Some e → All (λ operand. operand < length kinds) (operands_from (origin_of e))
origins_below expressions kinds place e precede first at = subst (λ n. All (λ operand. operand < n) (operands_from (origin_of e))) (sym first.next) (precede place e at)

pub one_kind_more : (expressions : List PlainExpression) (kinds : List ExpressionKind) (place : ℕ) (e : PlainExpression) (k : ExpressionKind) → OriginsPrecede expressions
    → AreFirstKinds expressions kinds place → slice_get expressions place ≡ Some e → k ≡ kind_by kinds (origin_of e) → AreFirstKinds expressions (kinds ++ k ∷ []) (place + 1)
one_kind_more expressions kinds place e k precede first at is = record {
  next = omega (arith, length-append kinds (k ∷ []), first.next);
  each = λ handle x s. elim (pushed kinds k handle x s) [
    | inl old ↦ first.each handle x old
    | inr new ↦
        subst (λ y. IsOfKind expressions handle y) new.1
        (subst (λ h. IsOfKind expressions h k) (sym (new.0 ∙ first.next))
        (subst (λ y. IsOfKind expressions place y) (sym is)
        (next_kind expressions kinds place e (origin_of e) first at refl (origins_below expressions kinds place e precede first at))))
  ];
}

-- the expression at an index of an arena
pub expression_at : (entries : List (Expression × Span)) (place : ℕ) (e : Expression) → Some e ≡ value_at entries place
    → slice_get (map expression_view (map value_of_entry entries)) place ≡ Some (expression_view e)
expression_at [] place e at = cc
expression_at (x ∷ xs) zero e at = let same : e ≡ x.0 = cc in ap (λ y. Some (expression_view y)) (sym same)
expression_at (x ∷ xs) (suc k) e at = expression_at xs k e at

pub many_expressions : (entries : List (Expression × Span)) → length (map expression_view (map value_of_entry entries)) ≡ length entries
many_expressions [] = refl
many_expressions (x ∷ xs) = ap suc (many_expressions xs)

pub all_kinds : (entries : List (Expression × Span)) (kinds : List ExpressionKind) (place : ℕ) → AreFirstKinds (map expression_view (map value_of_entry entries)) kinds place
    → place ≡ length entries → AreKinds (map expression_view (map value_of_entry entries)) kinds
all_kinds entries kinds place first end = record { many = first.next ∙ end ∙ sym (many_expressions entries); each = first.each }

-- ---- the same, in the form that the code proves

pub expression_here : (entries : List (Expression × Span)) (place handle : ℕ) (e : Expression) → handle ≡ place → Some e ≡ value_at entries handle
    → slice_get (map expression_view (map value_of_entry entries)) place ≡ Some (expression_view e)
expression_here entries place handle e same at = subst (λ h. slice_get (map expression_view (map value_of_entry entries)) h ≡ Some (expression_view e)) same (expression_at entries handle e at)

pub origins_below_at : (expressions : List PlainExpression) (kinds : List ExpressionKind) (place : ℕ) (e : PlainExpression) (slice : List ExpressionKind) → OriginsPrecede expressions
    → AreFirstKinds expressions kinds place → slice_get expressions place ≡ Some e → slice ≡ kinds → All (λ operand. operand < length slice) (operands_from (origin_of e))
origins_below_at expressions kinds place e slice precede first at same =
    subst (λ ks. All (λ operand. operand < length ks) (operands_from (origin_of e))) (sym same) (origins_below expressions kinds place e precede first at)

pub one_kind_more_at : (expressions : List PlainExpression) (kinds : List ExpressionKind) (place : ℕ) (e : PlainExpression) (slice : List ExpressionKind) (k : ExpressionKind) (new : List ExpressionKind)
    → OriginsPrecede expressions → AreFirstKinds expressions kinds place → slice_get expressions place ≡ Some e → slice ≡ kinds → k ≡ kind_by slice (origin_of e) → new ≡ kinds ++ k ∷ []
    → AreFirstKinds expressions new (place + 1)
one_kind_more_at expressions kinds place e slice k new precede first at same is grown =
    subst (λ ks. AreFirstKinds expressions ks (place + 1)) (sym grown)
    (one_kind_more expressions kinds place e k precede first at (subst (λ ks. k ≡ kind_by ks (origin_of e)) same is))
