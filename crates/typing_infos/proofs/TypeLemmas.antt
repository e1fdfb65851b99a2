-- Types of expressions, one after another.
use Rattle.std.proofs.Common.{◌≡◌, ◌⊎◌, ℕ, zero, suc, ◌+◌, ◌<◌, ◌≤◌, Some, None, Err, List, [], ◌∷◌, ◌++◌, length, map, refl, sym, ap, ◌∙◌, subst, inl, inr, arith, slice_get}
use Rattle.std.specs.Prelude.{slice_index_or}
use Rattle.std.proofs.lemmas.Bool.{cases_lt}
use Rattle.std.proofs.lemmas.Option.{same_Some}
use Rattle.typing_rules.specs.judged.Laws.{IsAmong}
use Rattle.ir_arena.specs.judged.Handles.{handles_from}
use Rattle.ir_arena.specs.declared.span.Span.{Span}
use Rattle.ir_types.specs.judged.ExpressionPlain.{PlainExpression, compose, plain, expression_view}
use Rattle.ir_types.specs.declared.expressions.Expression.{Expression}
use Rattle.ir_types.specs.declared.expressions.Expression.TheVariants as x
use Rattle.ir_items.specs.found.GlobalView.{values_of}
use Rattle.spec_expressions.specs.judged.OperandUses.{Operand, operand, expression_uses}
use Rattle.spec_expressions.specs.declared.operand.Usage.TheVariants.{Base, Query, Read}
use Rattle.spec_expressions.specs.judged.Values.{UsesPrecede}
use Rattle.spec_expressions.proofs.Members.{get-within}
use Rattle.spec_expressions.specs.judged.Context.{Context}
use Rattle.spec_expressions.specs.judged.Typing.{typing_operands, HasTypeAmong}
use Rattle.typing_forms.specs.declared.resolution.TypeResolution.{TypeResolution}
use Rattle.typing_errors.specs.Answers.{form_given}
use Rattle.typing_infos.specs.Types.{TypedSoFar, TypedBefore, IsFirstUntyped, OperandsBelow, IsTypedBy}
use Rattle.typing_infos.specs.declared.refusal.TypingRefusal.{TypingRefusal}
use Rattle.typing_infos.specs.declared.refusal.TypingRefusal.TheVariants.{Memory, Fault}

get_known : (types : List TypeResolution) (missing : TypeResolution) (o : ℕ) → o < length types → slice_get types o ≡ Some (slice_index_or types o missing)
get_known [] missing o lt = absurd (omega (arith, lt))
get_known (t ∷ ts) missing zero lt = refl
get_known (t ∷ ts) missing (suc o) lt = get_known ts missing o (omega (arith, lt))

-- the operand types read after the earlier expressions are typed
pub operands_typed : (c : Context) (xs : List PlainExpression) (types : List TypeResolution) (missing : TypeResolution) (y : PlainExpression) → OperandsBelow (length types) y → TypedSoFar c xs types
    → (o : ℕ) → IsAmong o (typing_operands y) → HasTypeAmong c xs o (form_given c.types (slice_index_or types o missing))
operands_typed c xs types missing y below typed o among = typed o (slice_index_or types o missing) (get_known types missing o (below o among))

-- ---- the operands whose types matter are operands

abbrev Takes : PlainExpression → ℕ → Type 0
Takes y o = (q : Operand) × IsAmong q (expression_uses y) × (q.handle ≡ o)

typing_taken : (y : PlainExpression) (o : ℕ) → IsAmong o (typing_operands y) → Takes y o
typing_taken (compose t cs) o h = elim h [ ]
typing_taken (plain (x.Literal v)) o h = elim h [ ]
typing_taken (plain (x.Constant v)) o h = elim h [ ]
typing_taken (plain (x.Override v)) o h = elim h [ ]
typing_taken (plain (x.ZeroValue v)) o h = elim h [ ]
typing_taken (plain (x.Compose t cs)) o h = elim h [ ]
typing_taken (plain (x.Access b i)) o h = elim h [ inl e ↦ (operand Base b, inl refl, e) | inr n ↦ elim n [ ] ]
typing_taken (plain (x.AccessIndex b i)) o h = elim h [ inl e ↦ (operand Base b, inl refl, e) | inr n ↦ elim n [ ] ]
typing_taken (plain (x.Splat s v)) o h = elim h [ inl e ↦ (operand Read v, inl refl, e) | inr n ↦ elim n [ ] ]
typing_taken (plain (x.Swizzle s v p)) o h = elim h [ inl e ↦ (operand Read v, inl refl, e) | inr n ↦ elim n [ ] ]
typing_taken (plain (x.FunctionArgument v)) o h = elim h [ ]
typing_taken (plain (x.GlobalVariable v)) o h = elim h [ ]
typing_taken (plain (x.LocalVariable v)) o h = elim h [ ]
typing_taken (plain (x.Load p)) o h = elim h [ inl e ↦ (operand Read p, inl refl, e) | inr n ↦ elim n [ ] ]
typing_taken (plain (x.ImageSample i s g co a of l d cl)) o h = elim h [ inl e ↦ (operand Read i, inl refl, e) | inr n ↦ elim n [ ] ]
typing_taken (plain (x.ImageLoad i co a s l)) o h = elim h [ inl e ↦ (operand Read i, inl refl, e) | inr n ↦ elim n [ ] ]
typing_taken (plain (x.ImageQuery i q)) o h = elim h [ inl e ↦ (operand Query i, inl refl, e) | inr n ↦ elim n [ ] ]
typing_taken (plain (x.Unary op v)) o h = elim h [ inl e ↦ (operand Read v, inl refl, e) | inr n ↦ elim n [ ] ]
typing_taken (plain (x.Binary op a b)) o h = elim h [ inl e ↦ (operand Read a, inl refl, e) | inr n ↦ elim n [ inl e ↦ (operand Read b, inr (inl refl), e) | inr m ↦ elim m [ ] ] ]
typing_taken (plain (x.Select c a r)) o h = elim h [ inl e ↦ (operand Read a, inr (inl refl), e) | inr n ↦ elim n [ ] ]
typing_taken (plain (x.Derivative a c v)) o h = elim h [ inl e ↦ (operand Read v, inl refl, e) | inr n ↦ elim n [ ] ]
typing_taken (plain (x.Relational f v)) o h = elim h [ inl e ↦ (operand Read v, inl refl, e) | inr n ↦ elim n [ ] ]
typing_taken (plain (x.Math f a None None None)) o h = elim h [ inl e ↦ (operand Read a, inl refl, e) | inr n ↦ elim n [ ] ]
typing_taken (plain (x.Math f a (Some b) None None)) o h = elim h [ inl e ↦ (operand Read a, inl refl, e) | inr n ↦ elim n [ inl e ↦ (operand Read b, inr (inl refl), e) | inr m ↦ elim m [ ] ] ]
typing_taken (plain (x.Math f a (Some b) (Some c) None)) o h = elim h [
  | inl e ↦ (operand Read a, inl refl, e)
  | inr n ↦ elim n [ inl e ↦ (operand Read b, inr (inl refl), e) | inr m ↦ elim m [ inl e ↦ (operand Read c, inr (inr (inl refl)), e) | inr l ↦ elim l [ ] ] ]
]
typing_taken (plain (x.Math f a (Some b) (Some c) (Some d))) o h = elim h [
  | inl e ↦ (operand Read a, inl refl, e)
  | inr n ↦ elim n [
    | inl e ↦ (operand Read b, inr (inl refl), e)
    | inr m ↦ elim m [ inl e ↦ (operand Read c, inr (inr (inl refl)), e) | inr l ↦ elim l [ inl e ↦ (operand Read d, inr (inr (inr (inl refl))), e) | inr k ↦ elim k [ ] ] ]
  ]
]
typing_taken (plain (x.Math f a None None (Some d))) o h = elim h [ ]
typing_taken (plain (x.Math f a None (Some c) None)) o h = elim h [ ]
typing_taken (plain (x.Math f a None (Some c) (Some d))) o h = elim h [ ]
typing_taken (plain (x.Math f a (Some b) None (Some d))) o h = elim h [ ]
typing_taken (plain (x.As v k c)) o h = elim h [ inl e ↦ (operand Read v, inl refl, e) | inr n ↦ elim n [ ] ]
typing_taken (plain (x.CallResult v)) o h = elim h [ ]
typing_taken (plain (x.AtomicResult t c)) o h = elim h [ ]
typing_taken (plain (x.WorkGroupUniformLoadResult t)) o h = elim h [ ]
typing_taken (plain (x.ArrayLength a)) o h = elim h [ ]
typing_taken (plain (x.RayQueryVertexPositions q c)) o h = elim h [ ]
typing_taken (plain x.RayQueryProceedResult) o h = elim h [ ]
typing_taken (plain (x.RayQueryGetIntersection q c)) o h = elim h [ ]
typing_taken (plain x.SubgroupBallotResult) o h = elim h [ ]
typing_taken (plain (x.SubgroupOperationResult t)) o h = elim h [ ]
typing_taken (plain (x.CooperativeLoad c r ro d)) o h = elim h [ inl e ↦ (operand Read d.pointer, inl refl, e) | inr n ↦ elim n [ ] ]
typing_taken (plain (x.CooperativeMultiplyAdd a b c)) o h = elim h [ inl e ↦ (operand Read c, inr (inr (inl refl)), e) | inr n ↦ elim n [ ] ]

pub operands_below : (xs : List PlainExpression) → UsesPrecede xs → (e : ℕ) (y : PlainExpression) → slice_get xs e ≡ Some y → OperandsBelow e y
operands_below xs precede e y at o among = let t = typing_taken y o among in subst (λ z. z < e) t.2 (precede e y t.0 at t.1)

-- ---- one after another

-- the rest of the expressions of a list, from an index on
abbrev pub Rest : List PlainExpression → ℕ → List (ℕ × Expression) → Type 0
Rest xs p left = (rest : List (Expression × Span)) × (left ≡ handles_from p rest) × ((i : ℕ) → slice_get xs (p + i) ≡ slice_get (map expression_view (values_of rest)) i) × (p + length rest ≡ length xs)

zero_plus : (i : ℕ) → 0 + i ≡ i
zero_plus i = omega arith

plus_more : (p i : ℕ) → (p + 1) + i ≡ p + suc i
plus_more p i = omega arith

pub length_views : (entries : List (Expression × Span)) → length (map expression_view (values_of entries)) ≡ length entries
length_views [] = refl
length_views (e ∷ rest) = ap suc (length_views rest)

pub rest_whole : (entries : List (Expression × Span)) → Rest (map expression_view (values_of entries)) 0 (handles_from 0 entries)
rest_whole entries = (entries, refl, λ i. ap (slice_get (map expression_view (values_of entries))) (zero_plus i), zero_plus (length entries) ∙ sym (length_views entries))

-- the first of the rest
pub record First (xs : List PlainExpression) (p : ℕ) (handle : ℕ) (expression : Expression) (left : List (ℕ × Expression)) : Type 0 where
  pub place : handle ≡ p
  pub stands : slice_get xs p ≡ Some (expression_view expression)
  pub after : Rest xs (p + 1) left

head_is : {X : Type 0} {a b : X} {xs ys : List X} → a ∷ xs ≡ b ∷ ys → a ≡ b
head_is e = cc (e)

tail_is : {X : Type 0} {a b : X} {xs ys : List X} → a ∷ xs ≡ b ∷ ys → xs ≡ ys
tail_is e = cc (e)

pub rest_first : (xs : List PlainExpression) (p : ℕ) (h : ℕ × Expression) (left : List (ℕ × Expression)) → Rest xs p (h ∷ left) → First xs p h.0 h.1 left
rest_first xs p h left ([], is, stands, len) = absurd (cc (is))
rest_first xs p h left (entry ∷ rest, is, stands, len) =
    let same : h ≡ (p, entry.0) = head_is is in
    record {
      place = ap (λ z. z.0) same;
      stands = ap (slice_get xs) (let q : p ≡ p + 0 = omega arith in q) ∙ (stands 0 ∙ ap (λ z. Some (expression_view z.1)) (sym same));
      after = (rest, tail_is is, λ i. ap (slice_get xs) (plus_more p i) ∙ stands (suc i), plus_more p (length rest) ∙ len);
    }

pub rest_end : (xs : List PlainExpression) (p : ℕ) → Rest xs p [] → p ≡ length xs
rest_end xs p ([], is, stands, len) = (let q : p ≡ p + 0 = omega arith in q) ∙ len
rest_end xs p (entry ∷ rest, is, stands, len) = absurd (cc (is))

length_more : {X : Type 0} (ys : List X) (y : X) → length (ys ++ y ∷ []) ≡ length ys + 1
length_more [] y = refl
length_more (z ∷ ys) y = let r = length_more ys y in omega (arith, r)

get_push : {X : Type 0} (ys : List X) (y : X) (i : ℕ) (z : X) → slice_get (ys ++ y ∷ []) i ≡ Some z → (slice_get ys i ≡ Some z) ⊎ ((i ≡ length ys) × (y ≡ z))
get_push [] y zero z h = inr (refl, same_Some _ _ h)
get_push [] y (suc i) z h = cc (h)
get_push (w ∷ ys) y zero z h = inl h
get_push (w ∷ ys) y (suc i) z h = elim (get_push ys y i z h) [ inl l ↦ inl l | inr r ↦ inr (ap suc r.0, r.1) ]

-- what holds after one more expression
abbrev pub Known : Context → List PlainExpression → List TypeResolution → List (ℕ × Expression) → Type 0
Known c xs types left = TypedSoFar c xs types × Rest xs (length types) left

pub typed_more : (c : Context) (xs : List PlainExpression) (types : List TypeResolution) (t : TypeResolution) → TypedSoFar c xs types → HasTypeAmong c xs (length types) (form_given c.types t) → TypedSoFar c xs (types ++ t ∷ [])
typed_more c xs types t typed having e r at = elim (get_push types t e r at) [
  | inl l ↦ typed e r l
  | inr s ↦ subst (λ z. HasTypeAmong c xs z (form_given c.types r)) (sym s.0) (subst (λ z. HasTypeAmong c xs (length types) (form_given c.types z)) s.1 having)
]

pub rest_more : (xs : List PlainExpression) (types : List TypeResolution) (t : TypeResolution) (left : List (ℕ × Expression)) → Rest xs (length types + 1) left → Rest xs (length (types ++ t ∷ [])) left
rest_more xs types t left r = subst (λ z. Rest xs z left) (sym (length_more types t)) r

-- one more expression after those that have types
pub one_more : (c : Context) (xs : List PlainExpression) (types lent types' : List TypeResolution) (h : ℕ) (expression : Expression) (t : TypeResolution) (before left : List (ℕ × Expression))
    → Known c xs types before → before ≡ (h, expression) ∷ left → lent ≡ types → types' ≡ types ++ t ∷ []
    → ((ys : List PlainExpression) → slice_get ys h ≡ Some (expression_view expression) → TypedSoFar c ys lent → HasTypeAmong c ys h (form_given c.types t))
    → Known c xs types' left
one_more c xs types lent types' h expression t before left known steps same is has =
    let f = rest_first xs (length types) (h, expression) left (subst (Rest xs (length types)) steps known.1) in
    let typed : HasTypeAmong c xs h (form_given c.types t) = has xs (ap (slice_get xs) f.place ∙ f.stands) (subst (TypedSoFar c xs) (sym same) known.0) in
    let more : Known c xs (types ++ t ∷ []) left = (typed_more c xs types t known.0 (subst (λ z. HasTypeAmong c xs z (form_given c.types t)) f.place typed), rest_more xs types t left f.after) in
    subst (λ z. Known c xs z left) (sym is) more

typed_before : (c : Context) (xs : List PlainExpression) (types : List TypeResolution) → TypedSoFar c xs types → TypedBefore c xs (length types)
typed_before c xs types typed e below = let w = get-within types e below in (form_given c.types w.0, typed e w.0 w.1)

-- an error at the expression at an index, after those that have types
abbrev pub RefusedAt : Context → List PlainExpression → ℕ → TypingRefusal → Type 0
RefusedAt c xs place refusal = IsTypedBy c xs place (Err refusal)

first_untyped : (c : Context) (xs : List PlainExpression) (place : ℕ) (refusal : TypingRefusal) → TypedBefore c xs place → RefusedAt c xs place refusal → IsFirstUntyped c xs refusal
first_untyped c xs place (Memory error) before at = tt
first_untyped c xs place (Fault expression error) before at = record { tells = at.1; before = subst (TypedBefore c xs) (sym at.0) before }

-- an error at that point is that of the expression there
pub refused : (c : Context) (xs : List PlainExpression) (types lent : List TypeResolution) (h : ℕ) (expression : Expression) (refusal : TypingRefusal) (before left : List (ℕ × Expression))
    → Known c xs types before → before ≡ (h, expression) ∷ left → lent ≡ types
    → ((ys : List PlainExpression) → slice_get ys h ≡ Some (expression_view expression) → TypedSoFar c ys lent → RefusedAt c ys h refusal)
    → IsFirstUntyped c xs refusal
refused c xs types lent h expression refusal before left known steps same has =
    let f = rest_first xs (length types) (h, expression) left (subst (Rest xs (length types)) steps known.1) in
    first_untyped c xs h refusal (subst (TypedBefore c xs) (sym f.place) (typed_before c xs types known.0))
    (has xs (ap (slice_get xs) f.place ∙ f.stands) (subst (TypedSoFar c xs) (sym same) known.0))
