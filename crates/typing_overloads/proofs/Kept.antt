-- Filtering a product by a test on shapes and a test on scalars is the product of the filtered shapes and scalars.
use Rattle.std.proofs.Common.{◌≡◌, ◌==◌, ◌∙◌, ◌++◌, ◌&&◌, ℕ, Bool, true, false, not, Option, Some, None, List, [], ◌∷◌, refl, ap, ap₂, sym, bit_and, cond, filter, is_some, map, slice_get, option_map, option_and_then}
use Rattle.std.proofs.lemmas.List.Elements.{filter-append}
use Rattle.std.proofs.lemmas.Option.{slice_get-map}
use Rattle.ir_kinds.specs.declared.scalars.Scalar.{Scalar}
use Rattle.ir_types.specs.judged.Plain.{PlainInner}
use Rattle.typing_forms.specs.judged.Ranks.{rank}
use Rattle.typing_rules.specs.declared.patterns.Pattern.{Pattern}
use Rattle.typing_rules.specs.declared.patterns.Pattern.TheVariants as pattern
use Rattle.typing_rules.specs.declared.rules.ConstructorSize.{ConstructorSize}
use Rattle.typing_rules.specs.declared.rules.Rule.{Rule}
use Rattle.typing_rules.specs.declared.rules.ValueType.{ValueType}
use Rattle.typing_rules.specs.judged.Ranks.{type_rank, rank_at, accepts_if, accepts_inner, is_abstract_kind, is_concrete}
use Rattle.typing_rules.specs.judged.MathTable.{math_rule, rules_over}
use Rattle.typing_rules.specs.judged.Types.{constructor_place, argument_list, value_type_of}
use Rattle.typing_rules.specs.found.Bits.{marks}
use Rattle.typing_rules.specs.found.Members.{scalars, scalars_in, sizes, sizes_in}
use Rattle.typing_overloads.specs.declared.required.Required.{Required}
use Rattle.typing_overloads.specs.Products.{row, required_size, required_scalar, required_type, required_by, all_concrete}
use Rattle.typing_overloads.proofs.Masks.{chosen_by_both}

-- ---- products

row_step : (q : Rule → Bool) (f : Scalar → Bool) (p : Pattern) (n : ConstructorSize) (s : Scalar) (ss : List Scalar) (b : Bool) → f s ≡ b → q (math_rule p n s) ≡ b
    → filter q (row p ss n) ≡ row p (filter f ss) n → filter q (row p (s ∷ ss) n) ≡ row p (filter f (s ∷ ss)) n
row_step q f p n s ss true e h again =
    ap (λ b. cond b (math_rule p n s ∷ filter q (row p ss n)) (filter q (row p ss n))) h ∙ ap (λ zs. math_rule p n s ∷ zs) again
    ∙ ap (λ b. row p (cond b (s ∷ filter f ss) (filter f ss)) n) (sym e)
row_step q f p n s ss false e h again =
    ap (λ b. cond b (math_rule p n s ∷ filter q (row p ss n)) (filter q (row p ss n))) h ∙ again ∙ ap (λ b. row p (cond b (s ∷ filter f ss) (filter f ss)) n) (sym e)

-- of a shape that passes, the scalars that pass remain
row_kept : (q : Rule → Bool) (f : Scalar → Bool) (p : Pattern) (n : ConstructorSize) → ((s : Scalar) → q (math_rule p n s) ≡ f s) → (ss : List Scalar)
    → filter q (row p ss n) ≡ row p (filter f ss) n
row_kept q f p n h [] = refl
row_kept q f p n h (s ∷ ss) = row_step q f p n s ss (f s) refl (h s) (row_kept q f p n h ss)

-- of another shape nothing remains
row_dropped : (q : Rule → Bool) (p : Pattern) (n : ConstructorSize) → ((s : Scalar) → q (math_rule p n s) ≡ false) → (ss : List Scalar) → filter q (row p ss n) ≡ []
row_dropped q p n h [] = refl
row_dropped q p n h (s ∷ ss) = ap (λ b. cond b (math_rule p n s ∷ filter q (row p ss n)) (filter q (row p ss n))) (h s) ∙ row_dropped q p n h ss

rows_step : (q : Rule → Bool) (f : Scalar → Bool) (g : ConstructorSize → Bool) (p : Pattern) (ss : List Scalar) (n : ConstructorSize) (ns : List ConstructorSize) (b : Bool) → g n ≡ b
    → ((s : Scalar) → q (math_rule p n s) ≡ b && f s) → filter q (rules_over p ss ns) ≡ rules_over p (filter f ss) (filter g ns)
    → filter q (row p ss n) ++ filter q (rules_over p ss ns) ≡ rules_over p (filter f ss) (filter g (n ∷ ns))
rows_step q f g p ss n ns true e h again =
    ap₂ (λ xs ys. xs ++ ys) (row_kept q f p n h ss) again ∙ ap (λ b. rules_over p (filter f ss) (cond b (n ∷ filter g ns) (filter g ns))) (sym e)
rows_step q f g p ss n ns false e h again =
    ap₂ (λ xs ys. xs ++ ys) (row_dropped q p n h ss) again ∙ ap (λ b. rules_over p (filter f ss) (cond b (n ∷ filter g ns) (filter g ns))) (sym e)

product_kept : (q : Rule → Bool) (f : Scalar → Bool) (g : ConstructorSize → Bool) (p : Pattern) → ((n : ConstructorSize) (s : Scalar) → q (math_rule p n s) ≡ g n && f s)
    → (ss : List Scalar) (ns : List ConstructorSize) → filter q (rules_over p ss ns) ≡ rules_over p (filter f ss) (filter g ns)
product_kept q f g p h ss [] = refl
product_kept q f g p h ss (n ∷ ns) =
    filter-append q (row p ss n) (rules_over p ss ns) ∙ rows_step q f g p ss n ns (g n) refl (h n) (product_kept q f g p h ss ns)

nothing_kept : (q : Rule → Bool) (p : Pattern) → ((n : ConstructorSize) (s : Scalar) → q (math_rule p n s) ≡ false) → (ss : List Scalar) (ns : List ConstructorSize)
    → filter q (rules_over p ss ns) ≡ []
nothing_kept q p h ss [] = refl
nothing_kept q p h ss (n ∷ ns) = filter-append q (row p ss n) (rules_over p ss ns) ∙ ap₂ (λ xs ys. xs ++ ys) (row_dropped q p n (h n) ss) (nothing_kept q p h ss ns)

-- ---- the required type at an index

pub required_are : (p : Pattern) (n : ConstructorSize) (s : Scalar) → argument_list (math_rule p n s).arguments ≡ map (required_type n s) (required_by p)
required_are pattern.Same n s = refl
required_are pattern.SameTwo n s = refl
required_are pattern.SameThree n s = refl
required_are pattern.ToScalar n s = refl
required_are pattern.TwoToScalar n s = refl
required_are pattern.WithScalar n s = refl
required_are pattern.WithExponent n s = refl
required_are pattern.WithRange n s = refl
required_are pattern.TwoWithRange n s = refl
required_are pattern.ToFraction n s = refl
required_are pattern.ToExponent n s = refl
required_are pattern.ToOuter n s = refl
required_are pattern.ToTransposed n s = refl
required_are pattern.ToWord n s = refl
required_are pattern.FromWord n s = refl
required_are pattern.FromTwoWords n s = refl

asked_there : (p : Pattern) (place : ℕ) (o : Option Required) → slice_get (required_by p) place ≡ o → (n : ConstructorSize) (s : Scalar)
    → slice_get (argument_list (math_rule p n s).arguments) place ≡ option_map (required_type n s) o
asked_there p place o e n s = ap (λ xs. slice_get xs place) (required_are p n s) ∙ slice_get-map (required_type n s) (required_by p) place ∙ ap (option_map (required_type n s)) e

some_rank : (b : Bool) (o : Option ℕ) → is_some (cond b o None) ≡ b && is_some o
some_rank true o = refl
some_rank false o = refl

-- a rule accepts a type at an index if there is a conversion rank
abbrev takes : ℕ → ValueType → Rule → Bool
takes place given rule = is_some (rank_at place given rule)

abbrev takes_size : ValueType → Required → ConstructorSize → Bool
takes_size given a n = constructor_place given.size == constructor_place (required_size a.size n)

abbrev takes_scalar : ValueType → Required → Scalar → Bool
takes_scalar given a s = is_some (rank given.scalar (required_scalar a.scalar s))

accepts_by : (place : ℕ) (given : ValueType) (p : Pattern) (a : Required) → slice_get (required_by p) place ≡ Some a → (n : ConstructorSize) (s : Scalar)
    → takes place given (math_rule p n s) ≡ takes_size given a n && takes_scalar given a s
accepts_by place given p a e n s =
    ap (λ o. is_some (option_and_then (type_rank given) o)) (asked_there p place (Some a) e n s) ∙ some_rank (takes_size given a n) (rank given.scalar (required_scalar a.scalar s))

-- the rules that accept an argument are a product of shapes and scalars
accepting_kept : (place : ℕ) (given : ValueType) (p : Pattern) (a : Required) → slice_get (required_by p) place ≡ Some a → (ss : List Scalar) (ns : List ConstructorSize)
    → filter (takes place given) (rules_over p ss ns) ≡ rules_over p (filter (takes_scalar given a) ss) (filter (takes_size given a) ns)
accepting_kept place given p a e ss ns = product_kept (takes place given) (takes_scalar given a) (takes_size given a) p (accepts_by place given p a e) ss ns

-- if a rule has no such argument, none remains
none_kept : (place : ℕ) (given : ValueType) (p : Pattern) → slice_get (required_by p) place ≡ None → (ss : List Scalar) (ns : List ConstructorSize)
    → filter (takes place given) (rules_over p ss ns) ≡ []
none_kept place given p e ss ns = nothing_kept (takes place given) p (λ n s. ap (λ o. is_some (option_and_then (type_rank given) o)) (asked_there p place None e n s)) ss ns

-- ---- abstract arguments

once : (b : Bool) → b && true ≡ b
once true = refl
once false = refl

twice : (b : Bool) → b && (b && true) ≡ b
twice true = refl
twice false = refl

thrice : (b : Bool) → b && (b && (b && true)) ≡ b
thrice true = refl
thrice false = refl

concrete_by : (p : Pattern) (n : ConstructorSize) (s : Scalar) → is_concrete (math_rule p n s) ≡ all_concrete p s
concrete_by pattern.Same n s = once (not (is_abstract_kind s.kind))
concrete_by pattern.SameTwo n s = twice (not (is_abstract_kind s.kind))
concrete_by pattern.SameThree n s = thrice (not (is_abstract_kind s.kind))
concrete_by pattern.ToScalar n s = once (not (is_abstract_kind s.kind))
concrete_by pattern.TwoToScalar n s = twice (not (is_abstract_kind s.kind))
concrete_by pattern.WithScalar n s = thrice (not (is_abstract_kind s.kind))
concrete_by pattern.WithExponent n s = once (not (is_abstract_kind s.kind))
concrete_by pattern.WithRange n s = once (not (is_abstract_kind s.kind))
concrete_by pattern.TwoWithRange n s = twice (not (is_abstract_kind s.kind))
concrete_by pattern.ToFraction n s = once (not (is_abstract_kind s.kind))
concrete_by pattern.ToExponent n s = once (not (is_abstract_kind s.kind))
concrete_by pattern.ToOuter n s = twice (not (is_abstract_kind s.kind))
concrete_by pattern.ToTransposed n s = once (not (is_abstract_kind s.kind))
concrete_by pattern.ToWord n s = once (not (is_abstract_kind s.kind))
concrete_by pattern.FromWord n s = refl
concrete_by pattern.FromTwoWords n s = refl

all_kept : {A : Type 0} (xs : List A) → filter (λ x. true) xs ≡ xs
all_kept [] = refl
all_kept (x ∷ xs) = ap (λ zs. x ∷ zs) (all_kept xs)

concrete_kept : (p : Pattern) (ss : List Scalar) (ns : List ConstructorSize) → filter is_concrete (rules_over p ss ns) ≡ rules_over p (filter (all_concrete p) ss) ns
concrete_kept p ss ns = product_kept is_concrete (all_concrete p) (λ n. true) p (concrete_by p) ss ns ∙ ap (rules_over p (filter (all_concrete p) ss)) (all_kept ns)

-- ---- sets of bits

-- a pattern with a required type here: both bit sets are intersected with those of its shapes and scalars
pub accepted : (place : ℕ) (inner : PlainInner) (given : ValueType) (p : Pattern) (a : Required) → Some given ≡ value_type_of inner → Some a ≡ slice_get (required_by p) place
    → (scalar_bits size_bits scalar_mask size_mask : ℕ) → marks scalar_mask scalars ≡ map (takes_scalar given a) scalars → marks size_mask sizes ≡ map (takes_size given a) sizes
    → rules_over p (scalars_in (bit_and scalar_bits scalar_mask)) (sizes_in (bit_and size_bits size_mask))
    ≡ filter (accepts_inner place inner) (rules_over p (scalars_in scalar_bits) (sizes_in size_bits))
accepted place inner given p a e h scalar_bits size_bits scalar_mask size_mask k l =
    ap₂ (rules_over p) (chosen_by_both (takes_scalar given a) scalar_bits scalar_mask scalars k) (chosen_by_both (takes_size given a) size_bits size_mask sizes l)
    ∙ sym (accepting_kept place given p a (sym h) (scalars_in scalar_bits) (sizes_in size_bits))
    ∙ ap (λ o. filter (accepts_if place o) (rules_over p (scalars_in scalar_bits) (sizes_in size_bits))) e

-- a pattern without one
pub no_argument : (place : ℕ) (inner : PlainInner) (given : ValueType) (p : Pattern) → Some given ≡ value_type_of inner → None ≡ slice_get (required_by p) place
    → (ss : List Scalar) (ns : List ConstructorSize) → [] ≡ filter (accepts_inner place inner) (rules_over p ss ns)
no_argument place inner given p e h ss ns = sym (none_kept place given p (sym h) ss ns) ∙ ap (λ o. filter (accepts_if place o) (rules_over p ss ns)) e

none_left : {A : Type 0} (xs : List A) → [] ≡ filter (λ x. false) xs
none_left [] = refl
none_left (x ∷ xs) = none_left xs

-- a type that is neither a scalar nor a vector nor a matrix
pub no_value : (place : ℕ) (inner : PlainInner) (rs : List Rule) → None ≡ value_type_of inner → [] ≡ filter (accepts_inner place inner) rs
no_value place inner rs e = none_left rs ∙ ap (λ o. filter (accepts_if place o) rs) e

pub concrete_left : (p : Pattern) (scalar_bits scalar_mask : ℕ) (ns : List ConstructorSize) → marks scalar_mask scalars ≡ map (all_concrete p) scalars
    → rules_over p (scalars_in (bit_and scalar_bits scalar_mask)) ns ≡ filter is_concrete (rules_over p (scalars_in scalar_bits) ns)
concrete_left p scalar_bits scalar_mask ns k =
    ap (λ ss. rules_over p ss ns) (chosen_by_both (all_concrete p) scalar_bits scalar_mask scalars k) ∙ sym (concrete_kept p (scalars_in scalar_bits) ns)

-- ---- no scalars

pub no_scalars : (p : Pattern) (ns : List ConstructorSize) → rules_over p [] ns ≡ []
no_scalars p [] = refl
no_scalars p (n ∷ ns) = no_scalars p ns
