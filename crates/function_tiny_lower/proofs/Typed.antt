-- The types of a function's expressions, found one after the other.
use Rattle.std.proofs.Common.{◌≡◌, ◌+◌, ◌≤◌, ℕ, zero, suc, Option, Some, None, List, [], ◌∷◌, ◌++◌, length, map, drop, slice_get, option_map, refl, sym, ap, subst, ◌∙◌, inl, inr, arith}
use Rattle.std.proofs.lemmas.List.{drop_all, length-append, length-map, map-append}
use Rattle.ir_arena.specs.found.Arenas.{value_at}
use Rattle.ir_arena.specs.declared.span.Span.{Span}
use Rattle.ir_types.specs.judged.ExpressionPlain.{PlainExpression, expression_view}
use Rattle.ir_types.specs.declared.expressions.Expression.{Expression}
use Rattle.ir_items.specs.found.GlobalView.{values_of}
use Rattle.ir_items.specs.judged.Plain.{PlainFunction, PlainModule}
use Rattle.typing_references.proofs.Entries.{slice_get-entries}
use Rattle.ir_types.specs.judged.Plain.{PlainType}
use Rattle.typing_rules.specs.judged.Laws.{IsAmong}
use Rattle.function_tiny_lower.specs.Typing.{earlier, expression_type, types_after, types_of, HasForm, IsUntyped}
use Rattle.function_tiny_lower.specs.Values.{form_of, resolution_of}
use Rattle.function_tiny_lower.specs.declared.value_type.ValueType.{ValueType}
use Rattle.typing_forms.specs.declared.form.Form.{Form}
use Rattle.typing_errors.specs.Answers.{form_given}

pub earlier_known : (past : List ValueType) (e : ℕ) → earlier (map Some past) e ≡ slice_get past e
earlier_known [] e = refl
earlier_known (t ∷ ts) zero = refl
earlier_known (t ∷ ts) (suc e) = earlier_known ts e

-- ---- places of a list

module _ {A : Type 0} where
  before_last : (xs : List A) (y : A) (e : ℕ) (x : A) → slice_get xs e ≡ Some x → slice_get (xs ++ y ∷ []) e ≡ Some x
  before_last [] y e x at = absurd (let h = at in cc)
  before_last (z ∷ zs) y zero x at = at
  before_last (z ∷ zs) y (suc e) x at = before_last zs y e x at

  at_last : (xs : List A) (y : A) → slice_get (xs ++ y ∷ []) (length xs) ≡ Some y
  at_last [] y = refl
  at_last (z ∷ zs) y = at_last zs y

  next_dropped : (xs : List A) (e : ℕ) (x : A) → slice_get xs e ≡ Some x → drop e xs ≡ x ∷ drop (suc e) xs
  next_dropped [] e x at = absurd (let h = at in cc)
  next_dropped (y ∷ ys) zero x at = ap (λ z. z ∷ ys) (let h = at in cc)
  next_dropped (y ∷ ys) (suc e) x at = next_dropped ys e x at

-- what is read at a handle stands at its place
pub occurs_at : (entries : List (Expression × Span)) (handle place : ℕ) (expression : Expression) → Some expression ≡ value_at entries handle → handle ≡ place → slice_get (map expression_view (values_of entries)) place ≡ Some (expression_view expression)
occurs_at entries handle place expression is at =
    subst (λ k. slice_get (map expression_view (values_of entries)) k ≡ Some (expression_view expression)) at
    (slice_get-entries expression_view entries handle ∙ sym (ap (option_map expression_view) is))

-- ---- one after the other

module _ (m : PlainModule) (f : PlainFunction) where
  abbrev Types : Type 0
  Types = List (Option ValueType)

  kept_after : (past : Types) (xs : List PlainExpression) (e : ℕ) (t : Option ValueType) → slice_get past e ≡ Some t → slice_get (types_after m f past xs) e ≡ Some t
  kept_after past [] e t at = at
  kept_after past (x ∷ rest) e t at = kept_after (past ++ expression_type m f past x ∷ []) rest e t (before_last past (expression_type m f past x) e t at)

  many_behind : (past : Types) (xs : List PlainExpression) → length (types_after m f past xs) ≡ length past + length xs
  many_behind past [] = omega arith
  many_behind past (x ∷ rest) =
      let more = length-append past (expression_type m f past x ∷ []) in
      let all = many_behind (past ++ expression_type m f past x ∷ []) rest in
      omega (arith, more, all)

  -- an expression among these has the type that those before it give
  pub typed_somewhere : (past : Types) (xs : List PlainExpression) (x : PlainExpression) → IsAmong x xs
      → (e : ℕ) × (before : Types) × (slice_get (types_after m f past xs) e ≡ Some (expression_type m f before x))
  typed_somewhere past [] x among = elim among [ ]
  typed_somewhere past (y ∷ rest) x (inl same) = (
    length past,
    past,
    kept_after (past ++ expression_type m f past y ∷ []) rest (length past) (expression_type m f past x)
        (subst (λ z. slice_get (past ++ expression_type m f past y ∷ []) (length past) ≡ Some (expression_type m f past z)) same (at_last past (expression_type m f past y))),
  )
  typed_somewhere past (y ∷ rest) x (inr among) = typed_somewhere (past ++ expression_type m f past y ∷ []) rest x among

  -- these are the types of the expressions before a place
  pub record AreFound (past : List ValueType) (place : ℕ) : Type 0 where
    pub many : length past ≡ place
    pub rest : types_after m f (map Some past) (drop place f.expressions) ≡ types_of m f

  module _ (past : List ValueType) (place : ℕ) (found : AreFound past place) where
    behind : (x : PlainExpression) → slice_get f.expressions place ≡ Some x
        → types_after m f (map Some past ++ expression_type m f (map Some past) x ∷ []) (drop (suc place) f.expressions) ≡ types_of m f
    behind x at = sym (ap (types_after m f (map Some past)) (next_dropped f.expressions place x at)) ∙ found.rest

    pub found_more : (x : PlainExpression) (t : ValueType) → slice_get f.expressions place ≡ Some x → expression_type m f (map Some past) x ≡ Some t → AreFound (past ++ t ∷ []) (place + 1)
    found_more x t at is = record {
      many = (let more = length-append past (t ∷ []) in omega (arith, more, found.many));
      rest =
          subst (λ n. types_after m f (map Some (past ++ t ∷ [])) (drop n f.expressions) ≡ types_of m f) (let e : suc place ≡ place + 1 = omega arith in e)
          (subst (λ ts. types_after m f ts (drop (suc place) f.expressions) ≡ types_of m f) (sym (map-append Some past (t ∷ [])))
          (subst (λ o. types_after m f (map Some past ++ o ∷ []) (drop (suc place) f.expressions) ≡ types_of m f) is (behind x at)));
    }

    pub found_untyped : (x : PlainExpression) → slice_get f.expressions place ≡ Some x → expression_type m f (map Some past) x ≡ None → IsUntyped m f place
    found_untyped x at is =
        let last : slice_get (map Some past ++ None ∷ []) (length (map Some past)) ≡ Some None = at_last (map Some past) None in
        let long : length (map Some past) ≡ place = length-map past Some ∙ found.many in
        let kept = kept_after (map Some past ++ None ∷ []) (drop (suc place) f.expressions) place None (subst (λ n. slice_get (map Some past ++ None ∷ []) n ≡ Some None) long last) in
        subst (λ ts. slice_get ts place ≡ Some None) (subst (λ o. types_after m f (map Some past ++ o ∷ []) (drop (suc place) f.expressions) ≡ types_of m f) is (behind x at)) kept

    pub found_all : length f.expressions ≤ place → map Some past ≡ types_of m f
    found_all past_all = sym (ap (types_after m f (map Some past)) (drop_all place f.expressions past_all)) ∙ found.rest

-- ---- all of them

every_typed : (types : List ValueType) (e : ℕ) → slice_get (map Some types) e ≡ Some None → ⊥
every_typed [] e at = let h = at in cc
every_typed (t ∷ ts) zero at = let h = at in cc
every_typed (t ∷ ts) (suc e) at = every_typed ts e at

form_told : (all : List PlainType) (types : List ValueType) (e : ℕ) (t : Form) → slice_get (map (form_given all) (map resolution_of types)) e ≡ Some t → option_map form_of (earlier (map Some types) e) ≡ Some t
form_told all [] e t at = absurd (let h = at in cc)
form_told all (k ∷ ks) zero t at = at
form_told all (k ∷ ks) (suc e) t at = form_told all ks e t at

module _ (m : PlainModule) (f : PlainFunction) (types : List ValueType) (are : map Some types ≡ types_of m f) where
  pub none_untyped : (e : ℕ) → IsUntyped m f e → ⊥
  none_untyped e none = every_typed types e (ap (λ ts. slice_get ts e) are ∙ none)

  many_of : length (types_of m f) ≡ length f.expressions
  many_of = let all = many_behind m f [] f.expressions in omega (arith, all)

  pub many_told : length (map (form_given m.types) (map resolution_of types)) ≡ length f.expressions
  many_told = length-map (map resolution_of types) (form_given m.types) ∙ length-map types resolution_of ∙ sym (length-map types Some) ∙ ap length are ∙ many_of

  pub has_form : (e : ℕ) (t : Form) → slice_get (map (form_given m.types) (map resolution_of types)) e ≡ Some t → HasForm m f e t
  has_form e t at = subst (λ ts. option_map form_of (earlier ts e) ≡ Some t) are (form_told m.types types e t at)
