-- Constructibility is computed from the entries of earlier types.
use Rattle.std.proofs.Common.{◌≡◌, ◌↔◌, ◌<◌, ◌≤◌, ◌+◌, ◌⊎◌, inl, inr, ℕ, zero, suc, List, [], ◌∷◌, ◌++◌, Bool, true, false, true≢false, ◌&&◌, IsTrue, All, map, length, Option, Some, None, unwrap_or, option_map, slice_get, refl, sym, ap, subst, ◌∙◌, arith, rules}
use Rattle.std.specs.List.{list_all}
use Rattle.std.proofs.lemmas.List.Folds.{list_all-map}
use Rattle.std.proofs.lemmas.Option.{get_or_from_slice_get, same_Some, slice_get_past, slice_get_within}
use Rattle.ir_types.specs.judged.Plain.{PlainInner, struct, plain, PlainMember, PlainType, inner_view, member_view}
use Rattle.ir_types.specs.declared.types.ArraySize.TheVariants as count
use Rattle.ir_types.specs.declared.types.StructMember.{StructMember}
use Rattle.ir_types.specs.declared.types.TypeInner.{TypeInner}
use Rattle.ir_types.specs.declared.types.TypeInner.TheVariants as inner
use Rattle.typing_forms.specs.judged.Order.{named_types, TypesGoBack}
use Rattle.typing_forms.specs.judged.Resolutions.{inner_at}
use Rattle.typing_forms.specs.found.Constructible.{is_constructible_alone, parts_of, IsConstructible, alone, composed, IsConstructibleAt, known_at, composed_by, composed_of, AreFoundBelow}

both : (x y : Bool) → IsTrue (x && y) → IsTrue x × IsTrue y
both true true e = (refl, refl)
both true false e = let x = e in cc
both false y e = let x = e in cc

-- ---- a test of all members

each_passes : {A : Type 0} (p : A → Bool) (xs : List A) → list_all p xs ≡ true → (k : ℕ) (x : A) → slice_get xs k ≡ Some x → p x ≡ true
each_passes p [] h k x e = let g = e in cc
each_passes p (y ∷ ys) h zero x e = subst (λ z. p z ≡ true) (let g = e in cc) (both (p y) (list_all p ys) h).0
each_passes p (y ∷ ys) h (suc k) x e = each_passes p ys (both (p y) (list_all p ys) h).1 k x e

all_pass : {A : Type 0} (p : A → Bool) (xs : List A) → ((k : ℕ) (x : A) → slice_get xs k ≡ Some x → p x ≡ true) → list_all p xs ≡ true
all_pass p [] h = refl
all_pass p (y ∷ ys) h = λ i. h zero y refl i && all_pass p ys (λ k x e. h (suc k) x e) i

pub struct_composed : (known : List Bool) (i : TypeInner) (members span : _) (ms : List StructMember) (r : Bool) → i ≡ inner.Struct members span → ms ≡ members.items
    → r ≡ list_all (λ m. known_at known m.ty) ms → r ≡ composed_of known (inner_view i)
struct_composed known i members span ms r is same passes =
    subst (λ x. r ≡ composed_of known (inner_view x)) (sym is)
    (subst (λ xs. r ≡ list_all (known_at known) (map (λ (m : PlainMember). m.ty) (map member_view xs))) same
    (passes ∙ sym (list_all-map (known_at known) (λ (m : PlainMember). m.ty) (map member_view ms) ∙ list_all-map (λ (m : PlainMember). known_at known m.ty) member_view ms)))

pub array_composed : (b : Bool) → b ≡ (b && true)
array_composed true = refl
array_composed false = refl

-- ---- the parts

-- the element at a handle, if there is one
found_or : Option PlainInner → PlainInner
found_or (Some i) = i
found_or None = plain (inner.Sampler false)

found_is : (o : Option PlainInner) (i : PlainInner) → o ≡ Some i → o ≡ Some (found_or o)
unfolding found_or
found_is (Some j) i e = refl
found_is None i e = let h = e in cc

module _ (types : List PlainType) where
  from_parts : (i : PlainInner) (parts : List ℕ) → parts_of i ≡ Some parts → ((k h : ℕ) → slice_get parts k ≡ Some h → IsConstructibleAt types h) → IsConstructible types i
  from_parts i parts is each =
      composed (λ h. found_or (inner_at types h)) is
      (λ k h at. found_is (inner_at types h) (each k h at).0 (each k h at).1)
      (λ k h at. subst (IsConstructible types) (same_Some _ _ (sym (each k h at).1 ∙ found_is (inner_at types h) (each k h at).0 (each k h at).1)) (each k h at).2)

  to_parts : (i : PlainInner) → IsConstructible types i → (is_constructible_alone i ≡ true) ⊎ ((parts : List ℕ) × (parts_of i ≡ Some parts) × ((k h : ℕ) → slice_get parts k ≡ Some h → IsConstructibleAt types h))
  to_parts i (alone e) = inl e
  to_parts i (composed {parts = parts} made_of is at ok) = inr (parts, is, (λ k h e. (made_of h, at k h e, ok k h e)))

-- what is constructible itself has no parts
alone_whole : (i : PlainInner) → is_constructible_alone i ≡ true → parts_of i ≡ None
alone_whole (struct members span) e = let h = e in cc
alone_whole (plain (inner.Array base size stride)) e = let h = e in cc
alone_whole (plain i) e = search rules

parts_named : (i : PlainInner) (parts : List ℕ) → parts_of i ≡ Some parts → named_types i ≡ parts
parts_named (struct members span) parts e = same_Some _ _ e
parts_named (plain (inner.Array base (count.Constant n) stride)) parts e = same_Some _ _ e
parts_named (plain i) parts e = search rules

-- ---- the entries of the parts decide

module _ (types : List PlainType) (known : List Bool) (i : PlainInner) where
  abbrev Decided : Type 0
  Decided = (parts : List ℕ) → parts_of i ≡ Some parts → (k h : ℕ) → slice_get parts k ≡ Some h → IsTrue (known_at known h) ↔ IsConstructibleAt types h

  sound : (o : Option (List ℕ)) → parts_of i ≡ o → Decided → IsTrue (composed_by known o i) → IsConstructible types i
  sound (Some parts) is decided h = from_parts types i parts is (λ k x at. (decided parts is k x at).0 (each_passes (known_at known) parts h k x at))
  sound None is decided h = alone h

  complete : (o : Option (List ℕ)) → parts_of i ≡ o → Decided → IsConstructible types i → IsTrue (composed_by known o i)
  complete o is decided ok = elim (to_parts types i ok) [ inl e ↦ whole o is e | inr p ↦ partial o is decided p ] where
    whole : (o : Option (List ℕ)) → parts_of i ≡ o → is_constructible_alone i ≡ true → IsTrue (composed_by known o i)
    whole o is e = subst (λ x. IsTrue (composed_by known x i)) (sym (alone_whole i e) ∙ is) e

    partial : (o : Option (List ℕ)) → parts_of i ≡ o → Decided → ((parts : List ℕ) × (parts_of i ≡ Some parts) × ((k h : ℕ) → slice_get parts k ≡ Some h → IsConstructibleAt types h)) → IsTrue (composed_by known o i)
    partial o is decided p =
        subst (λ x. IsTrue (composed_by known x i)) (sym p.1 ∙ is)
        (all_pass (known_at known) p.0 (λ k x at. (decided p.0 p.1 k x at).1 (p.2 k x at)))

  decides : Decided → IsTrue (composed_of known i) ↔ IsConstructible types i
  decides decided = (sound (parts_of i) refl decided, complete (parts_of i) refl decided)

-- ---- one type after another

known_more : (known : List Bool) (b : Bool) (h : ℕ) → h < length known → known_at (known ++ b ∷ []) h ≡ known_at known h
known_more [] b h lt = absurd (omega arith)
known_more (x ∷ xs) b zero lt = refl
known_more (x ∷ xs) b (suc h) lt = known_more xs b h (omega arith)

known_last : (known : List Bool) (b : Bool) → known_at (known ++ b ∷ []) (length known) ≡ b
known_last [] b = refl
known_last (x ∷ xs) b = known_last xs b

length_more : (known : List Bool) (b : Bool) → length (known ++ b ∷ []) ≡ length known + 1
length_more [] b = refl
length_more (x ∷ xs) b = let rest : length (xs ++ b ∷ []) ≡ length xs + 1 = length_more xs b in omega arith

below_or_same : (h k : ℕ) → h < k + 1 → (h < k) ⊎ (h ≡ k)
below_or_same h k lt = search rules

one_below : (bound : ℕ) (xs : List ℕ) (k x : ℕ) → All (λ named. named < bound) xs → slice_get xs k ≡ Some x → x < bound
one_below bound xs k x all e = subst (λ y. y < bound) (get_or_from_slice_get xs k x 0 e) (all k 0 (slice_get_within xs k x e))

pub found_more : (types : List PlainType) (known slice after : List Bool) (place : ℕ) (i : PlainInner) (b : Bool) → TypesGoBack types → AreFoundBelow types known place
    → Some i ≡ inner_at types place → slice ≡ known → b ≡ composed_of slice i → after ≡ known ++ b ∷ [] → AreFoundBelow types after (place + 1)
found_more types known slice after place i b back found at is composed_is pushed =
    subst (λ x. AreFoundBelow types x (place + 1)) (sym pushed)
    (record {
      many = length_more known b ∙ ap (λ n. n + 1) found.many;
      each = λ h lt. elim (below_or_same h place lt) [ inl less ↦ earlier h less | inr same ↦ last h same ];
    }) where
      earlier : (h : ℕ) → h < place → IsTrue (known_at (known ++ b ∷ []) h) ↔ IsConstructibleAt types h
      earlier h less =
          let many : length known ≡ place = found.many in
          subst (λ x. IsTrue x ↔ IsConstructibleAt types h) (sym (known_more known b h (omega arith))) (found.each h less)

      decided : IsTrue b ↔ IsConstructible types i
      decided =
          subst (λ x. IsTrue x ↔ IsConstructible types i) (sym (composed_is ∙ ap (λ ks. composed_of ks i) is))
          (decides types known i (λ parts parts_is k h has.
          found.each h (one_below place parts k h (subst (All (λ named. named < place)) (parts_named i parts parts_is) (back.each place i (sym at))) has)))

      here_too : IsTrue b ↔ IsConstructibleAt types place
      here_too = (
        (λ t. (i, sym at, decided.0 t)),
        (λ x. decided.1 (subst (IsConstructible types) (same_Some _ _ (sym x.1 ∙ sym at)) x.2)),
      )

      last : (h : ℕ) → h ≡ place → IsTrue (known_at (known ++ b ∷ []) h) ↔ IsConstructibleAt types h
      last h same =
          subst (λ n. IsTrue (known_at (known ++ b ∷ []) n) ↔ IsConstructibleAt types n) (sym same)
          (subst (λ x. IsTrue x ↔ IsConstructibleAt types place) (sym (subst (λ n. known_at (known ++ b ∷ []) n ≡ b) found.many (known_last known b))) here_too)

none_past : (types : List PlainType) (h : ℕ) → length types ≤ h → inner_at types h ≡ None
none_past types h le = ap (option_map (λ (t : PlainType). t.inner)) (slice_get_past types h le)

pub whole_decides : (types : List PlainType) (known slice : List Bool) (i : PlainInner) (b : Bool) → AreFoundBelow types known (length types) → slice ≡ known
    → b ≡ composed_of slice i → IsTrue b ↔ IsConstructible types i
whole_decides types known slice i b found is composed_is =
    subst (λ x. IsTrue x ↔ IsConstructible types i) (sym (composed_is ∙ ap (λ ks. composed_of ks i) is))
    (decides types known i (λ parts parts_is k h has. elim (below_or_past h) [ inl less ↦ found.each h less | inr past ↦ lost h past ])) where
      below_or_past : (h : ℕ) → (h < length types) ⊎ (length types ≤ h)
      below_or_past h = search rules

      lost : (h : ℕ) → length types ≤ h → IsTrue (known_at known h) ↔ IsConstructibleAt types h
      lost h past =
          let many : length known ≡ length types = found.many in (
            (λ t. absurd (true≢false (sym t ∙ ap (λ o. unwrap_or o false) (slice_get_past known h (omega arith))))),
            (λ x. absurd (let a = x.1 in let none = none_past types h past in cc)),
          )
