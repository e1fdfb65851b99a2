-- A callee is merged each of whose pairs is the same pair in the caller.
use Rattle.std.proofs.Common.{◌≡◌, ◌⊎◌, ℕ, zero, suc, ◌<◌, ◌≤◌, Bool, true, false, true≢false, ◌||◌, List, [], ◌∷◌, ◌++◌, fold, inl, inr, length, drop, get_or, Option, Some, None, slice_get, refl, sym, ap, ◌∙◌, subst, arith, if◌then◌else◌}
use Rattle.std.specs.List.{list_any}
use Rattle.indexmap.specs.IndexSet.{insert_all, insert_key}
use Rattle.typing_rules.specs.judged.Laws.{IsAmong}
use Rattle.ir_types.specs.judged.ExpressionPlain.{PlainExpression}
use Rattle.spec_expressions.specs.declared.sampling.GlobalOrArgument.{GlobalOrArgument}
use Rattle.spec_expressions.specs.declared.sampling.GlobalOrArgument.TheVariants.{Global, Argument}
use Rattle.spec_expressions.specs.judged.Pairs.{SamplingPair, pair_eq}
use Rattle.typing_infos.specs.Marks.{EachOnce, marks_of}
use Rattle.spec_expressions.specs.judged.CallChains.{global_or_argument, seen_through}
use Rattle.typing_summaries.specs.Fronts.{BeginsWith}
use Rattle.typing_summaries.specs.Pairings.{Paired, pair_one, passed_for, pass_all_up}
use Rattle.typing_summaries.specs.Passed.{PassesOn, PassesAllOn}
use Rattle.typing_infos.proofs.Equal.{pair_same, pair_self}
use Rattle.typing_summaries.proofs.Marked.{HasArgument, is_marked}

-- ---- lists

module _ {T : Type 0} (eq : T → T → Bool) where
  abbrev kept : Bool → List T → T → List T
  kept b ks k = if b then ks else ks ++ k ∷ []

  already : (vals : List T) (k : T) → list_any (eq k) vals ≡ true → insert_key eq vals k ≡ vals
  already vals k e = ap (λ b. kept b vals k) e

  -- elements already in the list are not added
  all_there : (vals others : List T) → ((k : T) → IsAmong k others → list_any (eq k) vals ≡ true) → insert_all eq vals others ≡ vals
  all_there vals [] there = refl
  all_there vals (k ∷ others) there =
      ap (λ v. insert_all eq v others) (already vals k (there k (inl refl))) ∙ all_there vals others (λ z among. there z (inr among))

  any_first : (b : Bool) (c : Bool) → b ≡ true → (b || c) ≡ true
  any_first true c e = refl
  any_first false c e = absurd (true≢false (sym e))

  any_later : (b : Bool) (c : Bool) → c ≡ true → (b || c) ≡ true
  any_later true c e = refl
  any_later false c e = e

  begins_there : (vals others : List T) → BeginsWith eq vals others → (k : T) → IsAmong k others → list_any (eq k) vals ≡ true
  begins_there vals [] begins k among = elim among [ ]
  begins_there [] (o ∷ others) begins k among = elim begins [ ]
  begins_there (v ∷ vals) (o ∷ others) begins k (inl is) = subst (λ z. (eq z v || list_any (eq z) vals) ≡ true) is (any_first (eq o v) (list_any (eq o) vals) begins.0)
  begins_there (v ∷ vals) (o ∷ others) begins k (inr among) = any_later (eq k v) (list_any (eq k) vals) (begins_there vals others begins.1 k among)

  pub begins_longer : (vals more others : List T) → BeginsWith eq vals others → BeginsWith eq (vals ++ more) others
  begins_longer vals more [] begins = tt
  begins_longer [] more (o ∷ others) begins = elim begins [ ]
  begins_longer (v ∷ vals) more (o ∷ others) begins = (begins.0, begins_longer vals more others begins.1)

  -- two concatenations that begin with two lists, the first as long as the second
  pub begins_both : (front behind few more : List T) → length front ≡ length few → BeginsWith eq front few → BeginsWith eq behind more → BeginsWith eq (front ++ behind) (few ++ more)
  begins_both [] behind [] more same first rest = rest
  begins_both (v ∷ front) behind [] more same first rest = absurd (omega (arith, same))
  begins_both [] behind (o ∷ few) more same first rest = elim first [ ]
  begins_both (v ∷ front) behind (o ∷ few) more same first rest = (first.0, begins_both front behind few more (omega (arith, same)) first.1 rest)

  insert_append : (ks xs ys : List T) → insert_all eq ks (xs ++ ys) ≡ insert_all eq (insert_all eq ks xs) ys
  insert_append ks [] ys = refl
  insert_append ks (x ∷ xs) ys = insert_append (insert_key eq ks x) xs ys

  once_kept : (b : Bool) (xs : List T) (k : T) → insert_all eq [] xs ≡ xs → list_any (eq k) xs ≡ b → insert_all eq [] (kept b xs k) ≡ kept b xs k
  once_kept true xs k once e = once
  once_kept false xs k once e = insert_append [] xs (k ∷ []) ∙ ap (λ z. insert_key eq z k) once ∙ ap (λ b. kept b xs k) e

  once_insert : (xs : List T) (k : T) → insert_all eq [] xs ≡ xs → insert_all eq [] (insert_key eq xs k) ≡ insert_key eq xs k
  once_insert xs k once = once_kept (list_any (eq k) xs) xs k once refl

-- inserting a pair keeps the list distinct
pub once_more : (pairs : List SamplingPair) (p : SamplingPair) (added : List SamplingPair) → EachOnce pairs → added ≡ insert_key pair_eq pairs p → EachOnce added
once_more pairs p added once is = subst EachOnce (sym is) (once_insert pair_eq pairs p once)

-- ---- pairs that begin with other pairs

-- a list that begins with another is that list and a rest
front_is : (pairs front : List SamplingPair) → BeginsWith pair_eq pairs front → (rest : List SamplingPair) × (pairs ≡ front ++ rest)
front_is pairs [] begins = (pairs, refl)
front_is [] (p ∷ front) begins = elim begins [ ]
front_is (q ∷ pairs) (p ∷ front) begins = let r = front_is pairs front begins.1 in (r.0, λ i. sym (pair_same p q begins.0) i ∷ r.1 i)

begins_self : (pairs : List SamplingPair) → BeginsWith pair_eq pairs pairs
begins_self [] = tt
begins_self (p ∷ pairs) = (pair_self p, begins_self pairs)

-- inserting all pairs of a list that begins with the present ones gives that list
front_joined : (front rest : List SamplingPair) → EachOnce front → EachOnce (front ++ rest) → insert_all pair_eq front (front ++ rest) ≡ front ++ rest
front_joined front rest own all =
    insert_append pair_eq front front rest
    ∙ ap (λ z. insert_all pair_eq z rest) (all_there pair_eq front front (begins_there pair_eq front front (begins_self front)) ∙ sym own)
    ∙ (sym (insert_append pair_eq [] front rest) ∙ all)

-- ---- arguments that are passed on

part_same : (meaning : ℕ → Option GlobalOrArgument) (arguments : List ℕ) (part : GlobalOrArgument) → ((n : ℕ) → part ≡ Argument n → PassesOn meaning arguments n) → seen_through meaning arguments (Some part) ≡ Some part
part_same meaning arguments (Global g) passes = refl
part_same meaning arguments (Argument n) passes = passes n refl

pub all_same : (meaning : ℕ → Option GlobalOrArgument) (arguments : List ℕ) (pairs : List SamplingPair) (marks : List Bool) → marks ≡ marks_of pairs
    → ((n : ℕ) → slice_get marks n ≡ Some true → PassesOn meaning arguments n) → PassesAllOn meaning arguments pairs
all_same meaning arguments pairs marks are passes = λ p among.
    let at = λ (n : ℕ) (has : HasArgument p n). passes n (ap (λ ms. slice_get ms n) are ∙ is_marked pairs p n among has) in (
      part_same meaning arguments p.0 (λ n is. at n (inl is)),
      part_same meaning arguments p.1 (λ n is. at n (inr is)),
    )

module _ (expressions : List PlainExpression) (arguments : List ℕ) where
  -- each pair is the same in the caller
  as_they_are : (pairs : List SamplingPair) (t : Paired) → PassesAllOn (global_or_argument expressions) arguments pairs → pass_all_up expressions arguments pairs t ≡ record { pairs = insert_all pair_eq t.pairs pairs; wrong = t.wrong }
  as_they_are [] t same = refl
  as_they_are (p ∷ pairs) t same =
      let here = same p (inl refl) in
      ap (pass_all_up expressions arguments pairs) (λ i. pair_one (passed_for arguments p.0) (passed_for arguments p.1) (here.0 i) (here.1 i) t)
      ∙ as_they_are pairs (record { pairs = insert_key pair_eq t.pairs p; wrong = t.wrong }) (λ q among. same q (inr among))

  pub shared_is : (pairs : List SamplingPair) (t s : Paired) → PassesAllOn (global_or_argument expressions) arguments pairs → EachOnce pairs → EachOnce t.pairs → BeginsWith pair_eq pairs t.pairs → s.pairs ≡ pairs → s.wrong ≡ t.wrong
      → s ≡ pass_all_up expressions arguments pairs t
  shared_is pairs t s same once own begins are wrong =
      let front = front_is pairs t.pairs begins in
      let all : insert_all pair_eq t.pairs pairs ≡ pairs = ap (insert_all pair_eq t.pairs) front.1 ∙ front_joined t.pairs front.0 own (subst EachOnce front.1 once) ∙ sym front.1 in
      (λ i. record { pairs = (are ∙ sym all) i; wrong = wrong i }) ∙ sym (as_they_are pairs t same)

  pub there_is : (pairs : List SamplingPair) (t : Paired) → PassesAllOn (global_or_argument expressions) arguments pairs → BeginsWith pair_eq t.pairs pairs → t ≡ pass_all_up expressions arguments pairs t
  there_is pairs t same begins =
      let all : insert_all pair_eq t.pairs pairs ≡ t.pairs = all_there pair_eq t.pairs pairs (begins_there pair_eq t.pairs pairs begins) in
      sym (as_they_are pairs t same ∙ (λ i. record { pairs = all i; wrong = t.wrong }))

-- ---- beginnings, element by element

module _ {T : Type 0} (eq : T → T → Bool) where
  at_place : (vals others : List T) (i : ℕ) (v o : T) → i < length vals → i < length others → v ≡ get_or vals i v → o ≡ get_or others i o → eq o v ≡ true
      → BeginsWith eq (drop (suc i) vals) (drop (suc i) others) → BeginsWith eq (drop i vals) (drop i others)
  at_place [] others i v o lv lo ev eo same rest = absurd (omega (arith, lv))
  at_place (x ∷ xs) [] i v o lv lo ev eo same rest = absurd (omega (arith, lo))
  at_place (x ∷ xs) (y ∷ ys) zero v o lv lo ev eo same rest = ((λ j. eq (sym eo j) (sym ev j)) ∙ same, rest)
  at_place (x ∷ xs) (y ∷ ys) (suc i) v o lv lo ev eo same rest = at_place xs ys i v o (omega (arith, lv)) (omega (arith, lo)) ev eo same rest

  -- a list that begins so after an index, and is equal at it, begins so from it on
  pub front_step : (vals others : List T) (i j : ℕ) (v o : T) → j ≡ suc i → i < length vals → i < length others → v ≡ get_or vals i v → o ≡ get_or others i o → eq o v ≡ true
      → BeginsWith eq (drop j vals) (drop j others) → BeginsWith eq (drop i vals) (drop i others)
  front_step vals others i j v o next lv lo ev eo same rest =
      at_place vals others i v o lv lo ev eo same (subst (λ k. BeginsWith eq (drop k vals) (drop k others)) next rest)

  nothing : (n : ℕ) → drop n (let none : List T = [] in none) ≡ []
  nothing zero = refl
  nothing (suc n) = refl

  drop_all : (xs : List T) (n : ℕ) → length xs ≤ n → drop n xs ≡ []
  drop_all [] n h = nothing n
  drop_all (x ∷ xs) zero h = absurd (omega (arith, h))
  drop_all (x ∷ xs) (suc n) h = drop_all xs n (omega (arith, h))

  -- nothing remains at the end
  pub front_end : (vals others : List T) (i : ℕ) → length others ≤ i → BeginsWith eq (drop i vals) (drop i others)
  front_end vals others i le = subst (BeginsWith eq (drop i vals)) (sym (drop_all others i le)) tt
