-- Merging a callee again for the same parts adds nothing, and a merged callee's pairs are in the list.
use Rattle.std.proofs.Common.{◌≡◌, ◌⊎◌, ℕ, zero, suc, arith, ◌<◌, ◌≤◌, length, get_or, map, option_map, Option, Some, None, Bool, true, false, true≢false, ◌&&◌, ◌||◌, List, [], ◌∷◌, ◌++◌, refl, sym, ap, ◌∙◌, subst, inl, inr, slice_get}
use Rattle.std.specs.Prelude.{if◌then◌else◌}
use Rattle.std.specs.Cmp.Lexicographic.{pointwise}
use Rattle.std.specs.List.{list_any}
use Rattle.std.specs.Option.{option_eq}
use Rattle.std.proofs.lemmas.Option.{same_Some, slice_get-get_or, slice_get-map, slice_get_past}
use Rattle.indexmap.specs.IndexSet.{insert_key}
use Rattle.typing_rules.specs.judged.Laws.{IsAmong}
use Rattle.ir_types.specs.judged.ExpressionPlain.{PlainExpression}
use Rattle.spec_expressions.specs.declared.sampling.GlobalOrArgument.{GlobalOrArgument}
use Rattle.spec_expressions.specs.declared.sampling.GlobalOrArgument.TheVariants.{Global, Argument}
use Rattle.spec_expressions.specs.judged.Pairs.{SamplingPair, pair_eq}
use Rattle.typing_infos.proofs.Equal.{both, part_same, pair_same, pair_self}
use Rattle.typing_summaries.proofs.Marked.{is_marked}
use Rattle.typing_infos.specs.Infos.{summary_of}
use Rattle.typing_infos.specs.Marks.{marks_of}
use Rattle.typing_infos.specs.declared.function_info.FunctionInfo.{FunctionInfo}
use Rattle.spec_expressions.specs.judged.CallChains.{global_or_argument, seen_through}
use Rattle.spec_expressions.proofs.Members.{among-cases}
use Rattle.typing_summaries.specs.Joined.{Holds, IsJoined, IsKept, IsWrong, IsCovered, AreJoined}
use Rattle.typing_summaries.specs.Parts.{parts_of, AllStand}
use Rattle.typing_summaries.specs.Tallies.{Known, Paired, with_wrong, first_wrong, part_wrong, pair_one, passed_for, pass_up, pass_all_up}
use Rattle.typing_summaries.specs.declared.joined.Passed.{Passed}
use Rattle.spec_expressions.specs.contracts.sampling.GlobalOrArgumentPartialEq as each
use Rattle.typing_summaries.proofs.PairLemmas.{none_some}
use Rattle.typing_summaries.proofs.PartLemmas.{same_means, part_means}

abbrev HasPair : SamplingPair → List SamplingPair → Type 0
HasPair p held = list_any (pair_eq p) held ≡ true

-- ---- pairs in the list stay

or_left : (b c : Bool) → b ≡ true → (b || c) ≡ true
or_left true c e = refl
or_left false c e = absurd (true≢false (sym e))

or_right : (b c : Bool) → c ≡ true → (b || c) ≡ true
or_right true c e = refl
or_right false c e = e

any_append : (p : SamplingPair) (xs ys : List SamplingPair) → HasPair p xs → HasPair p (xs ++ ys)
any_append p [] ys e = absurd (true≢false (sym e))
any_append p (x ∷ xs) ys e = by (pair_eq p x) refl (λ h. any_append p xs ys h)
  where
    by : (b : Bool) → pair_eq p x ≡ b → (HasPair p xs → HasPair p (xs ++ ys)) → HasPair p (x ∷ (xs ++ ys))
    by true is more = or_left (pair_eq p x) (list_any (pair_eq p) (xs ++ ys)) is
    by false is more = or_right (pair_eq p x) (list_any (pair_eq p) (xs ++ ys)) (more (ap (λ b. b || list_any (pair_eq p) xs) (sym is) ∙ e))

last_has : (xs : List SamplingPair) (p : SamplingPair) → HasPair p (xs ++ p ∷ [])
last_has [] p = or_left (pair_eq p p) false (pair_self p)
last_has (x ∷ xs) p = or_right (pair_eq p x) (list_any (pair_eq p) (xs ++ p ∷ [])) (last_has xs p)

kept_has : (b : Bool) (held : List SamplingPair) (p q : SamplingPair) → HasPair p held → HasPair p (if b then held else held ++ q ∷ [])
kept_has true held p q e = e
kept_has false held p q e = any_append p held (q ∷ []) e

insert_has : (held : List SamplingPair) (p q : SamplingPair) → HasPair p held → HasPair p (insert_key pair_eq held q)
insert_has held p q e = kept_has (list_any (pair_eq q) held) held p q e

own_has : (b : Bool) (held : List SamplingPair) (p : SamplingPair) → list_any (pair_eq p) held ≡ b → HasPair p (if b then held else held ++ p ∷ [])
own_has true held p e = e
own_has false held p e = last_has held p

inserted_has : (held : List SamplingPair) (p : SamplingPair) → HasPair p (insert_key pair_eq held p)
inserted_has held p = own_has (list_any (pair_eq p) held) held p refl

part_has : (w : Option ℕ) (b : Option GlobalOrArgument) (t : Paired) (p : SamplingPair) → HasPair p t.pairs → HasPair p (part_wrong w b t).pairs
part_has w None t p e = e
part_has w (Some b) t p e = e

one_has : (wi ws : Option ℕ) (a b : Option GlobalOrArgument) (t : Paired) (p : SamplingPair) → HasPair p t.pairs → HasPair p (pair_one wi ws a b t).pairs
one_has wi ws (Some a) (Some b) t p e = insert_has t.pairs p (a, b) e
one_has wi ws (Some a) None t p e = e
one_has wi ws None b t p e = part_has ws b (with_wrong wi t) p e

one_holds : (wi ws : Option ℕ) (a b : Option GlobalOrArgument) (x y : GlobalOrArgument) (t : Paired) → a ≡ Some x → b ≡ Some y → HasPair (x, y) (pair_one wi ws a b t).pairs
one_holds wi ws a b x y t ea eb = subst (λ z. HasPair (x, y) (pair_one wi ws z b t).pairs) (sym ea) (subst (λ z. HasPair (x, y) (pair_one wi ws (Some x) z t).pairs) (sym eb) (inserted_has t.pairs (x, y)))

module _ (expressions : List PlainExpression) (arguments : List ℕ) where
  abbrev seen : GlobalOrArgument → Option GlobalOrArgument
  seen part = seen_through (global_or_argument expressions) arguments (Some part)

  all_have : (pairs : List SamplingPair) (t : Paired) (p : SamplingPair) → HasPair p t.pairs → HasPair p (pass_all_up expressions arguments pairs t).pairs
  all_have [] t p e = e
  all_have (q ∷ pairs) t p e = all_have pairs (pass_up expressions arguments q t) p (one_has (passed_for arguments q.0) (passed_for arguments q.1) (seen q.0) (seen q.1) t p e)

  covered : (pairs : List SamplingPair) (t : Paired) → IsCovered expressions arguments pairs (pass_all_up expressions arguments pairs t).pairs
  covered [] t q among image sampler ei es = elim among [ ]
  covered (r ∷ pairs) t q (inl is) image sampler ei es =
      all_have pairs (pass_up expressions arguments r t) (image, sampler)
      (one_holds (passed_for arguments r.0) (passed_for arguments r.1) (seen r.0) (seen r.1) image sampler t (ap (λ z. seen z.0) is ∙ ei) (ap (λ z. seen z.1) is ∙ es))
  covered (r ∷ pairs) t q (inr among) image sampler ei es = covered pairs (pass_up expressions arguments r t) q among image sampler ei es

-- ---- pairs in the list add nothing

already : (held : List SamplingPair) (p : SamplingPair) → HasPair p held → insert_key pair_eq held p ≡ held
already held p e = ap (λ b. if b then held else held ++ p ∷ []) e

wrong_kept : (o w : Option ℕ) (e : ℕ) → o ≡ Some e → first_wrong o w ≡ o
wrong_kept (Some x) w e is = refl
wrong_kept None w e is = none_some is

noted : (w : Option ℕ) (t : Paired) (e : ℕ) → t.wrong ≡ Some e → with_wrong w t ≡ t
noted w t e is = λ i. record { pairs = t.pairs; wrong = wrong_kept t.wrong w e is i }

part_noted : (w : Option ℕ) (b : Option GlobalOrArgument) (t : Paired) (e : ℕ) → t.wrong ≡ Some e → part_wrong w b t ≡ t
part_noted w None t e is = noted w t e is
part_noted w (Some b) t e is = refl

-- it has a denotation
abbrev pub Means : Option GlobalOrArgument → Type 0
Means a = (x : GlobalOrArgument) × (a ≡ Some x)

-- there is a fault, or both have denotations
abbrev pub Settled : Paired → Option GlobalOrArgument → Option GlobalOrArgument → Type 0
Settled t a b = ((e : ℕ) × (t.wrong ≡ Some e)) ⊎ (Means a × Means b)

one_stays : (wi ws : Option ℕ) (a b : Option GlobalOrArgument) (t : Paired) → ((x y : GlobalOrArgument) → a ≡ Some x → b ≡ Some y → HasPair (x, y) t.pairs) → Settled t a b → pair_one wi ws a b t ≡ t
one_stays wi ws (Some a) (Some b) t has settled = λ i. record { pairs = already t.pairs (a, b) (has a b refl refl) i; wrong = t.wrong }
one_stays wi ws (Some a) None t has (inl w) = noted ws t w.0 w.1
one_stays wi ws (Some a) None t has (inr means) = none_some means.1.1
one_stays wi ws None b t has (inl w) = ap (part_wrong ws b) (noted wi t w.0 w.1) ∙ part_noted ws b t w.0 w.1
one_stays wi ws None b t has (inr means) = none_some means.0.1

module _ (expressions : List PlainExpression) (arguments : List ℕ) where
  all_stay : (pairs : List SamplingPair) (t : Paired) → IsCovered expressions arguments pairs t.pairs
      → ((q : SamplingPair) → IsAmong q pairs → Settled t (seen expressions arguments q.0) (seen expressions arguments q.1)) → pass_all_up expressions arguments pairs t ≡ t
  all_stay [] t holds settled = refl
  all_stay (q ∷ pairs) t holds settled =
      ap (pass_all_up expressions arguments pairs) (one_stays (passed_for arguments q.0) (passed_for arguments q.1) (seen expressions arguments q.0) (seen expressions arguments q.1) t (holds q (inl refl)) (settled q (inl refl)))
      ∙ all_stay pairs t (λ r among. holds r (inr among)) (λ r among. settled r (inr among))

-- ---- equal parts

module _ (expressions : List PlainExpression) (pairs : List SamplingPair) where
  seen_same : (xs ys : List ℕ) → parts_of (global_or_argument expressions) (marks_of pairs) xs ≡ parts_of (global_or_argument expressions) (marks_of pairs) ys → (part : GlobalOrArgument) → ((n : ℕ) → part ≡ Argument n → slice_get (marks_of pairs) n ≡ Some true)
      → seen expressions xs part ≡ seen expressions ys part
  seen_same xs ys same (Global g) marked = refl
  seen_same xs ys same (Argument n) marked = same_means (global_or_argument expressions) (marks_of pairs) xs ys n same (marked n refl)

  covered_same : (xs ys : List ℕ) (held : List SamplingPair) → parts_of (global_or_argument expressions) (marks_of pairs) xs ≡ parts_of (global_or_argument expressions) (marks_of pairs) ys → IsCovered expressions xs pairs held → IsCovered expressions ys pairs held
  covered_same xs ys held same holds = λ q among image sampler ei es.
      holds q among image sampler (seen_same xs ys same q.0 (λ n is. is_marked pairs q n among (inl is)) ∙ ei) (seen_same xs ys same q.1 (λ n is. is_marked pairs q n among (inr is)) ∙ es)

  part_stands : (xs : List ℕ) (parts : List (Option GlobalOrArgument)) → parts ≡ parts_of (global_or_argument expressions) (marks_of pairs) xs → AllStand (marks_of pairs) parts → (part : GlobalOrArgument)
      → ((n : ℕ) → part ≡ Argument n → slice_get (marks_of pairs) n ≡ Some true) → Means (seen expressions xs part)
  part_stands xs parts are stand (Global g) marked = (Global g, refl)
  part_stands xs parts are stand (Argument n) marked =
      let s = stand n (marked n refl) in
      (s.0, part_means (global_or_argument expressions) (marks_of pairs) xs n s.0 (marked n refl) (ap (λ ps. slice_get ps n) (sym are) ∙ s.1))

-- ---- merged callees

same_parts : (a b : Option GlobalOrArgument) → option_eq each.TheImpl.ghosts.eq a b ≡ true → a ≡ b
same_parts None None e = refl
same_parts None (Some b) e = absurd (true≢false (sym e))
same_parts (Some a) None e = absurd (true≢false (sym e))
same_parts (Some a) (Some b) e = ap Some (part_same a b e)

same_lists : (xs ys : List (Option GlobalOrArgument)) → pointwise (option_eq each.TheImpl.ghosts.eq) xs ys ≡ true → xs ≡ ys
same_lists [] [] e = refl
same_lists [] (y ∷ ys) e = absurd (true≢false (sym e))
same_lists (x ∷ xs) [] e = absurd (true≢false (sym e))
same_lists (x ∷ xs) (y ∷ ys) e = let h = both (option_eq each.TheImpl.ghosts.eq x y) (pointwise (option_eq each.TheImpl.ghosts.eq) xs ys) e in λ i. same_parts x y h.0 i ∷ same_lists xs ys h.1 i

pub pairs_same : (xs ys : List SamplingPair) → pointwise pair_eq xs ys ≡ true → xs ≡ ys
pairs_same [] [] e = refl
pairs_same [] (y ∷ ys) e = absurd (true≢false (sym e))
pairs_same (x ∷ xs) [] e = absurd (true≢false (sym e))
pairs_same (x ∷ xs) (y ∷ ys) e = let h = both (pair_eq x y) (pointwise pair_eq xs ys) e in λ i. pair_same x y h.0 i ∷ pairs_same xs ys h.1 i

pub parts_same : (parts others : List (Option GlobalOrArgument)) → pointwise (option_eq each.TheImpl.ghosts.eq) parts others ≡ true → parts ≡ others
parts_same parts others e = same_lists parts others e

-- an entry at an index is one of all
pub at_place : (joined : List Passed) (i : ℕ) (p : Passed) → i < length joined → p ≡ get_or joined i p → IsAmong p joined
at_place [] i p lt is = absurd (omega (arith, lt))
at_place (q ∷ joined) zero p lt is = inl (sym is)
at_place (q ∷ joined) (suc i) p lt is = inr (at_place joined i p (omega (arith, lt)) is)

-- a callee's info has only its own pairs
one_kept : (k : Known) (callee other : ℕ) (pairs more : List SamplingPair) → IsKept k callee pairs → IsKept k other more → other ≡ callee → more ≡ pairs
one_kept k callee other pairs more kept held same =
    let s : held.summary ≡ kept.summary = same_Some _ _ (sym held.found ∙ (ap (slice_get k.summaries) same ∙ kept.found)) in
    sym held.same ∙ (ap (λ z. z.pairs) s ∙ kept.same)

-- what was merged is in any larger list
more_held : (k : Known) (held now : List SamplingPair) (p : Passed) → ((image sampler : GlobalOrArgument) → HasPair (image, sampler) held → HasPair (image, sampler) now) → IsJoined k held p → IsJoined k now p
more_held k held now p stay is = record { kept = is.kept; covered = λ others same r in_pairs image sampler ei es. stay image sampler (is.covered others same r in_pairs image sampler ei es) }

module _ (k : Known) (callee : ℕ) (pairs : List SamplingPair) (kept : IsKept k callee pairs) (arguments : List ℕ) (marks : List Bool) (marked : marks ≡ marks_of pairs)
    (parts : List (Option GlobalOrArgument)) (are : parts ≡ parts_of (global_or_argument k.expressions) marks arguments) where
  by_marks : parts ≡ parts_of (global_or_argument k.expressions) (marks_of pairs) arguments
  by_marks = are ∙ ap (λ ms. parts_of (global_or_argument k.expressions) ms arguments) marked

  module _ (joined : List Passed) (held : List SamplingPair) (all : AreJoined k joined held) (there : Holds joined callee pairs parts) where
    its_pairs : there.0.pairs.items ≡ pairs
    its_pairs = elim there.3 [ inl same ↦ one_kept k callee there.0.callee pairs there.0.pairs.items kept (all there.0 there.1).kept same | inr same ↦ same ]

    -- for any arguments with these parts
    covered_there : (others : List ℕ) → parts_of (global_or_argument k.expressions) (marks_of pairs) others ≡ parts → IsCovered k.expressions others pairs held
    covered_there others same =
        subst (λ z. IsCovered k.expressions others z held) its_pairs
        ((all there.0 there.1).covered others (ap (λ z. parts_of (global_or_argument k.expressions) (marks_of z) others) its_pairs ∙ (same ∙ sym there.2)))

  -- merging again for the same parts adds nothing
  pub adds_nothing : (joined : List Passed) (t : Paired) → AreJoined k joined t.pairs → Holds joined callee pairs parts → IsWrong t ⊎ AllStand marks parts
      → t ≡ pass_all_up k.expressions arguments pairs t
  adds_nothing joined t all there settled =
      sym (all_stay k.expressions arguments pairs t (covered_there joined t.pairs all there arguments (sym by_marks)) (λ q among. elim settled [
        | inl w ↦ inl w
        | inr stand ↦ let stand_too = subst (λ ms. AllStand ms parts) marked stand in inr (
          part_stands k.expressions pairs arguments parts by_marks stand_too q.0 (λ n is. is_marked pairs q n among (inl is)),
          part_stands k.expressions pairs arguments parts by_marks stand_too q.1 (λ n is. is_marked pairs q n among (inr is)),
        )
      ]))

  module _ (p : Passed) (of : p.callee ≡ callee) (is_pairs : p.pairs.items ≡ pairs) (is_parts : p.parts.items ≡ parts) where
    its_kept : IsKept k p.callee p.pairs.items
    its_kept = subst (λ c. IsKept k c p.pairs.items) (sym of) (subst (IsKept k callee) (sym is_pairs) kept)

    -- a callee is recorded beside the one that was merged before for it
    pub alike_joined : (joined : List Passed) (held : List SamplingPair) → AreJoined k joined held → Holds joined callee pairs parts → AreJoined k (joined ++ p ∷ []) held
    alike_joined joined held all there q among = elim (among-cases joined (p ∷ []) q among) [
      | inl before ↦ all q before
      | inr last ↦ elim last [
        | inl is ↦ subst (IsJoined k held) is (record {
          kept = its_kept;
          covered = λ others same. subst (λ z. IsCovered k.expressions others z held) (sym is_pairs)
              (covered_there joined held all there others (ap (λ z. parts_of (global_or_argument k.expressions) (marks_of z) others) (sym is_pairs) ∙ (same ∙ is_parts)));
        })
        | inr none ↦ elim none [ ]
      ]
    ]

    -- after merging it, it and all merged before are in the list
    pub one_joined : (joined : List Passed) (t : Paired) → AreJoined k joined t.pairs → AreJoined k (joined ++ p ∷ []) (pass_all_up k.expressions arguments pairs t).pairs
    one_joined joined t all q among =
        let now = (pass_all_up k.expressions arguments pairs t).pairs in
        elim (among-cases joined (p ∷ []) q among) [
          | inl before ↦ more_held k t.pairs now q (λ image sampler h. all_have k.expressions arguments pairs t (image, sampler) h) (all q before)
          | inr last ↦ elim last [
            | inl is ↦ subst (IsJoined k now) is (record {
              kept = its_kept;
              covered = λ others same.
                  let alike : parts_of (global_or_argument k.expressions) (marks_of pairs) arguments ≡ parts_of (global_or_argument k.expressions) (marks_of pairs) others =
                  sym by_marks ∙ (sym is_parts ∙ (sym same ∙ ap (λ z. parts_of (global_or_argument k.expressions) (marks_of z) others) is_pairs)) in
                  subst (λ z. IsCovered k.expressions others z now) (sym is_pairs)
                  (covered_same k.expressions pairs arguments others now alike (covered k.expressions arguments pairs t));
            })
            | inr none ↦ elim none [ ]
          ]
        ]

-- merging a few pairs keeps the callees merged before
pub few_joined : (k : Known) (joined : List Passed) (arguments : List ℕ) (pairs : List SamplingPair) (t : Paired) → AreJoined k joined t.pairs → AreJoined k joined (pass_all_up k.expressions arguments pairs t).pairs
few_joined k joined arguments pairs t are q among =
    more_held k t.pairs (pass_all_up k.expressions arguments pairs t).pairs q (λ image sampler h. all_have k.expressions arguments pairs t (image, sampler) h) (are q among)

-- ---- callee infos

pub callee_there : (infos : List FunctionInfo) (callee place : ℕ) (info : FunctionInfo) → place < length infos → info ≡ get_or infos place info → place ≡ callee → slice_get (map summary_of infos) callee ≡ Some (summary_of info)
callee_there infos callee place info lt at is =
    ap (slice_get (map summary_of infos)) (sym is) ∙ (slice_get-map summary_of infos place ∙ ap (option_map summary_of) (slice_get-get_or infos place info lt ∙ ap Some (sym at)))

pub callee_missing : (infos : List FunctionInfo) (callee place : ℕ) → length infos ≤ place → place ≡ callee → slice_get (map summary_of infos) callee ≡ None
callee_missing infos callee place le is = ap (slice_get (map summary_of infos)) (sym is) ∙ (slice_get-map summary_of infos place ∙ ap (option_map summary_of) (slice_get_past infos place le))
