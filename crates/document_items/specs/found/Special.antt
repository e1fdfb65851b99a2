-- Decoding functions of the special types, which agree with the encoding relations.
use Rattle.std.specs.Prelude.{codes}
use Rattle.std.proofs.Common.{◌≡◌, ◌≤◌, inl, inr, ◌++◌, ℕ, Bool, true, false, List, [], ◌∷◌, Option, Some, None, is_some, option_map, cond, if◌then◌else◌, refl, sym, ap, subst, ◌∙◌, rules}
use Rattle.std.specs.Bool.{Decides}
use Rattle.std.specs.List.{AllByRecursion, IsDistinct}
use Rattle.std.specs.Map.{keys_of, lookup}
use Rattle.std.proofs.lemmas.List.{append-nil, append_assoc}
use Rattle.std.proofs.lemmas.Map.Keys.{IsDistinct-push}
use Rattle.std.proofs.lemmas.Map.Made.{is_some-lookup, AllPairs-from_IsDistinct, IsDistinct-from_AllPairs}
use Rattle.std.proofs.lemmas.Option.{same_Some}
use Rattle.serde_json.specs.Data.{Data, array, Items, no_items, item, depth}
use Rattle.serde_json.specs.Find.{as_array}
use Rattle.ir_kinds.specs.declared.predeclared.PredeclaredType.{PredeclaredType}
use Rattle.ir_kinds.specs.declared.predeclared.PredeclaredType.TheVariants as predeclared_types
use Rattle.ir_kinds.specs.contracts.predeclared.PredeclaredTypePartialEq.TheImpl as same
use Rattle.ir_kinds.specs.contracts.predeclared.PredeclaredTypeEq.TheImpl.Laws as laws
use Rattle.ir_items.specs.judged.GlobalPlain.{PlainSpecialTypes}
use Rattle.document_words.specs.Tables.{scalars}
use Rattle.document_forms.specs.found.Exact.{deepest, IsExact, FormOf}
use Rattle.document_forms.specs.judged.Form.{AList}
use Rattle.document_forms.specs.found.Decide.{◌>>=◌, each, all_of, tagged_of}
use Rattle.document_forms.specs.found.Inverse.{bind_some, chosen}
use Rattle.document_forms.specs.found.ListLaws.{list_exact}
use Rattle.document_forms.specs.found.KindLaws.{AreSound, kind_sound, tagged_complete}
use Rattle.document_forms.specs.found.Forms.{a_handle, a_size, a_word, maybe, an_array, made, by_kind}
use Rattle.document_forms.specs.found.Rows.{row1, row2, row4}
use Rattle.document_items.specs.found.Kinds.{predeclared_kinds}
use Rattle.document_items.specs.judged.ItemForm.{APredeclared, APair, ThePairs, ASpecial}
use Rattle.document_items.specs.declared.kinds.PredeclaredKind.{PredeclaredKind}
use Rattle.document_items.specs.declared.kinds.PredeclaredKind.TheVariants as predeclared_kind

-- ---- predeclared types

unfoldable pub predeclared_with : PredeclaredKind → Items → Option PredeclaredType
predeclared_with predeclared_kind.AtomicCompareExchangeWeakResult ds = option_map predeclared_types.AtomicCompareExchangeWeakResult ((row1 (a_word scalars)).find ds)
predeclared_with predeclared_kind.ModfResult ds = option_map (λ t. predeclared_types.ModfResult t.0 t.1) ((row2 (maybe a_size) (a_word scalars)).find ds)
predeclared_with predeclared_kind.FrexpResult ds = option_map (λ t. predeclared_types.FrexpResult t.0 t.1) ((row2 (maybe a_size) (a_word scalars)).find ds)

pub predeclared_sound : AreSound predeclared_with (λ x ds. APredeclared x (array ds)) predeclared_kinds
unfolding predeclared_with APredeclared
predeclared_sound = (
  kind_sound (row1 (a_word scalars)) predeclared_types.AtomicCompareExchangeWeakResult (codes "AtomicCompareExchangeWeakResult") (λ x ds. APredeclared x (array ds)) (λ t ds h. (refl, h)),
  (
    kind_sound (row2 (maybe a_size) (a_word scalars)) (λ t. predeclared_types.ModfResult t.0 t.1) (codes "ModfResult") (λ x ds. APredeclared x (array ds)) (λ t ds h. (refl, h)),
    (
      kind_sound (row2 (maybe a_size) (a_word scalars)) (λ t. predeclared_types.FrexpResult t.0 t.1) (codes "FrexpResult") (λ x ds. APredeclared x (array ds)) (λ t ds h. (refl, h)),
      tt,
    ),
  ),
)

pub predeclared_complete : (x : PredeclaredType) → (d : Data) → APredeclared x d → depth d ≤ deepest → tagged_of predeclared_kinds predeclared_with d ≡ Some x
unfolding predeclared_with APredeclared
predeclared_complete (predeclared_types.AtomicCompareExchangeWeakResult scalar) = tagged_complete predeclared_kinds predeclared_with (row1 (a_word scalars)) predeclared_types.AtomicCompareExchangeWeakResult (codes "AtomicCompareExchangeWeakResult") predeclared_kind.AtomicCompareExchangeWeakResult refl (λ ds. refl) scalar
predeclared_complete (predeclared_types.ModfResult size scalar) = tagged_complete predeclared_kinds predeclared_with (row2 (maybe a_size) (a_word scalars)) (λ t. predeclared_types.ModfResult t.0 t.1) (codes "ModfResult") predeclared_kind.ModfResult refl (λ ds. refl) (size, scalar)
predeclared_complete (predeclared_types.FrexpResult size scalar) = tagged_complete predeclared_kinds predeclared_with (row2 (maybe a_size) (a_word scalars)) (λ t. predeclared_types.FrexpResult t.0 t.1) (codes "FrexpResult") predeclared_kind.FrexpResult refl (λ ds. refl) (size, scalar)

abbrev pub a_predeclared : FormOf PredeclaredType
a_predeclared = by_kind predeclared_kinds predeclared_with APredeclared predeclared_sound predeclared_complete

-- ---- pairs

abbrev pub a_pair : FormOf (PredeclaredType × ℕ)
a_pair = made (an_array (row2 a_predeclared a_handle)) (λ t. t) (λ t. t) APair (λ t. refl) (λ t d h. h) (λ t d h. h)

unfoldable pub pair_of : Data → Option (PredeclaredType × ℕ)
pair_of d = a_pair.find d

pair_exact : IsExact pair_of APair
unfolding pair_of
pair_exact = a_pair.exact

-- these pairs followed by those of the elements, unless an element's predeclared type has a pair already
abbrev pub pairs_with : List (PredeclaredType × ℕ) → Items → Option (List (PredeclaredType × ℕ))
pairs_with es no_items = Some es
pairs_with es (item d ds) = do
  e ← pair_of d
  if is_some (lookup (same.ghosts.eq e.0) es) then None else pairs_with (es ++ e ∷ []) ds

unfoldable pub pairs_of : Data → Option (List (PredeclaredType × ℕ))
pairs_of d = as_array d >>= pairs_with []

-- `==` of predeclared types is equality
same_decides : (a b : PredeclaredType) → Decides (same.ghosts.eq a b) (a ≡ b)
same_decides a b = (same_when a b, λ e. subst (λ c. same.ghosts.eq a c ≡ true) e (laws.laws-law.refl a))
  where
    same_when : (a b : PredeclaredType) → same.ghosts.eq a b ≡ true → a ≡ b
    same_when a b e = search rules

abbrev Pairs : Type 0
Pairs = List (PredeclaredType × ℕ)

abbrev AreDistinct : Pairs → Type 0
AreDistinct es = IsDistinct same.ghosts.eq (keys_of es)

abbrev has_key : PredeclaredType → Pairs → Bool
has_key k es = is_some (lookup (same.ghosts.eq k) es)

keys_push : (es : Pairs) (e : PredeclaredType × ℕ) → keys_of (es ++ e ∷ []) ≡ keys_of es ++ e.0 ∷ []
keys_push [] e = refl
keys_push (f ∷ fs) e = ap (λ ks. f.0 ∷ ks) (keys_push fs e)

distinct_push : (es : Pairs) (e : PredeclaredType × ℕ) → AreDistinct es → has_key e.0 es ≡ false → AreDistinct (es ++ e ∷ [])
distinct_push es e d h =
    subst (IsDistinct same.ghosts.eq) (sym (keys_push es e)) (IsDistinct-push laws.laws-law (keys_of es) e.0 d (sym (is_some-lookup (same.ghosts.eq e.0) es) ∙ h))

each_more : (d : Data) (ds : Items) (x : PredeclaredType × ℕ) (xs : Pairs) → pair_of d ≡ Some x → each pair_of ds ≡ Some xs → each pair_of (item d ds) ≡ Some (x ∷ xs)
each_more d ds x xs e f = rw e (rw f refl)

found_with : (es : Pairs) (ds : Items) (ys : Pairs) → AreDistinct es → pairs_with es ds ≡ Some ys
    → (xs : Pairs) × (each pair_of ds ≡ Some xs) × (es ++ xs ≡ ys) × AreDistinct ys
found_with es no_items ys d e = ([], refl, append-nil es ∙ same_Some es ys e, subst AreDistinct (same_Some es ys e) d)
found_with es (item x ds) ys d e =
    let a = bind_some _ (pair_of x) ys e in
    elim (chosen (has_key a.0.0 es) _ _ _ a.2) [
      | inl again ↦ let no = again.1 in cc
      | inr fresh ↦
          let more = found_with (es ++ a.0 ∷ []) ds ys (distinct_push es a.0 d fresh.0) fresh.1 in
          (a.0 ∷ more.0, each_more x ds a.0 more.0 a.1 more.1, sym (append_assoc es (a.0 ∷ []) more.0) ∙ more.2, more.3)
    ]

-- a key before a pair that differs from it
one_of : (p : PredeclaredType → Type 0) (fs : Pairs) (e : PredeclaredType × ℕ) (xs : Pairs) → AllByRecursion p (keys_of (fs ++ e ∷ xs)) → p e.0
one_of p [] e xs all = all.0
one_of p (f ∷ fs) e xs all = one_of p fs e xs all.1

apart : (es : Pairs) (e : PredeclaredType × ℕ) (xs : Pairs) → AreDistinct (es ++ e ∷ xs) → has_key e.0 es ≡ false
unfolding IsDistinct
apart [] e xs d = refl
apart (f ∷ fs) e xs d =
    let other : same.ghosts.eq e.0 f.0 ≡ false = laws.laws-law.symm e.0 f.0 ∙ one_of (λ k. same.ghosts.eq f.0 k ≡ false) fs e xs d.0 in
    ap (λ b. is_some (cond b (Some f.1) (lookup (same.ghosts.eq e.0) fs))) other ∙ apart fs e xs d.1

there_with : (es : Pairs) (ds : Items) (xs : Pairs) → each pair_of ds ≡ Some xs → AreDistinct (es ++ xs) → pairs_with es ds ≡ Some (es ++ xs)
there_with es no_items xs e d = ap Some (sym (append-nil es)) ∙ ap (λ l. Some (es ++ l)) (same_Some [] xs e)
there_with es (item x ds) xs e d =
    let a = bind_some _ (pair_of x) xs e in
    let b = bind_some _ (each pair_of ds) xs a.2 in
    let xs_is : (a.0 ∷ b.0) ≡ xs = same_Some _ _ b.2 in
    let d2 : AreDistinct (es ++ a.0 ∷ b.0) = subst (λ l. AreDistinct (es ++ l)) (sym xs_is) d in
    let more : pairs_with (es ++ a.0 ∷ []) ds ≡ Some ((es ++ a.0 ∷ []) ++ b.0) = there_with (es ++ a.0 ∷ []) ds b.0 b.1 (subst AreDistinct (sym (append_assoc es (a.0 ∷ []) b.0)) d2) in
    rw a.1 (rw (apart es a.0 b.0 d2) (more ∙ ap Some (append_assoc es (a.0 ∷ []) b.0) ∙ ap (λ l. Some (es ++ l)) xs_is))

pub pairs_exact : IsExact pairs_of ThePairs
unfolding pairs_of IsDistinct
pairs_exact = record { sound = found; complete = there }
  where
    listed : IsExact (all_of pair_of) (AList APair)
    listed = list_exact pair_of APair pair_exact

    found : (d : Data) (es : Pairs) → pairs_of d ≡ Some es → ThePairs es d
    found d es e =
        let a = bind_some (pairs_with []) (as_array d) es e in
        let f = found_with [] a.0 es tt a.2 in
        let all : all_of pair_of d ≡ Some es = rw a.1 (f.1 ∙ ap Some f.2) in
        (listed.sound d es all, AllPairs-from_IsDistinct same_decides (keys_of es) f.3)

    there : (d : Data) (es : Pairs) → ThePairs es d → depth d ≤ deepest → pairs_of d ≡ Some es
    there d es h le =
        let a = bind_some (each pair_of) (as_array d) es (listed.complete d es h.0 le) in
        rw a.1 (there_with [] a.0 es a.2 (IsDistinct-from_AllPairs same_decides (keys_of es) h.1))

abbrev pub the_pairs : FormOf (List (PredeclaredType × ℕ))
the_pairs = record { find = pairs_of; Written = ThePairs; exact = pairs_exact }

-- ---- the special types

abbrev pub the_special : FormOf PlainSpecialTypes
the_special = made (an_array (row4 (maybe a_handle) (maybe a_handle) (maybe a_handle) the_pairs)) (λ t. record { ray_desc = t.0; ray_intersection = t.1; ray_vertex_return = t.2; predeclared = t.3 }) (λ s. (s.ray_desc, s.ray_intersection, s.ray_vertex_return, s.predeclared)) ASpecial (λ s. refl) (λ t d h. h) (λ s d h. h)
