-- The varyings of several arguments.
use Rattle.std.proofs.Common.{◌≡◌, ◌⊎◌, inl, inr, ◌+◌, zero, suc, ℕ, List, [], ◌∷◌, ◌++◌, map, Option, Some, length, slice_get, true≢false, refl, sym, ap, subst, ◌∙◌, arith}
use Rattle.std.specs.BTreeMap.{BTreeMap}
use Rattle.std.proofs.lemmas.List.{append-nil}
use Rattle.std.proofs.Common.{append_assoc}
use Rattle.std.proofs.lemmas.Option.{same_Some, slice_get_within}
use Rattle.ir_flags.specs.Sets.{Has}
use Rattle.ir_flags.specs.declared.settings.ValidationFlags.{ValidationFlags}
use Rattle.ir_flags.specs.declared.settings.TheConstants.ValidationFlags.{BINDINGS}
use Rattle.ir_items.specs.judged.Plain.{PlainArgument}
use Rattle.ir_kinds.specs.declared.bindings.BuiltIn.{BuiltIn}
use Rattle.ir_kinds.specs.declared.bindings.BuiltIn.TheVariants.{Position, Barycentric}
use Rattle.ir_sets.specs.Bits.{has_bit}
use Rattle.ir_types.specs.judged.Plain.{PlainType}
use Rattle.spec_interface.specs.judged.Contexts.{VaryingContext}
use Rattle.spec_interface.specs.judged.Varyings.{VaryingsApart, BoundOK, ShowsAt, VaryingsOK, argument_varyings, argument_varyings_from, bounds, built_in_of, canonical, location_of, varying, varyings_of}
use Rattle.spec_interface.specs.declared.varyings.Bound.{Bound}
use Rattle.spec_interface.specs.declared.varyings.Bound.TheVariants.{BuiltIn as built_in, Location as at_location, BlendSources, Nothing, NoMember}
use Rattle.spec_interface.specs.declared.varyings.Varying.{Varying}
use Rattle.function_varyings.proofs.MarkLaws.{none_some}
use Rattle.function_varyings.specs.Known.{IsNewlyGiven}
use Rattle.function_varyings.specs.Marks.{AreTaken, IsNumber, KeepsBits, KeepsNumbers, Takes, TakesAt, built_in_number}

-- ---- what is shown is taken

number_canonical : (b : BuiltIn) → built_in_number (canonical b) ≡ built_in_number b
number_canonical (Position invariant) = refl
number_canonical (Barycentric perspective) = refl
number_canonical other = refl

takes_built_in : (flags : ValidationFlags) (bound : Bound) (b : BuiltIn) → built_in_of bound ≡ Some b → Takes flags bound (built_in_number b)
takes_built_in flags (built_in type d) b e = sym (number_canonical d) ∙ ap built_in_number (same_Some (canonical d) b e)
takes_built_in flags (at_location type l) b e = absurd (none_some b e)
takes_built_in flags BlendSources b e = absurd (none_some b e)
takes_built_in flags Nothing b e = absurd (none_some b e)
takes_built_in flags (NoMember place) b e = absurd (none_some b e)

takes_location : (flags : ValidationFlags) → Has flags.0 BINDINGS.0 → (bound : Bound) (n : ℕ) → location_of bound ≡ Some n → Takes flags bound (64 + n)
takes_location flags is (built_in type d) n e = absurd (none_some n e)
takes_location flags is (at_location type l) n e = (is, ap (λ k. 64 + k) (same_Some l.location n e))
takes_location flags is BlendSources n e = (is, ap (λ k. 64 + k) (same_Some 0 n e))
takes_location flags is Nothing n e = absurd (none_some n e)
takes_location flags is (NoMember place) n e = absurd (none_some n e)

-- ---- one list and then another

after : {A : Type 0} (xs ys : List A) (k : ℕ) (x : A) → slice_get (xs ++ ys) k ≡ Some x → (slice_get xs k ≡ Some x) ⊎ ((j : ℕ) × (k ≡ length xs + j) × (slice_get ys j ≡ Some x))
after [] ys k x e = inr (k, omega arith, e)
after (y ∷ xs) ys zero x e = inl e
after (y ∷ xs) ys (suc k) x e = elim (after xs ys k x e) [
  | inl before ↦ inl before
  | inr rest ↦ inr (rest.0, omega (arith, rest.1), rest.2)
]

module _ (c : VaryingContext) (xs ys : List Varying) (left : VaryingsOK c xs) (right : VaryingsOK c ys) (apart : (i j mark : ℕ) → TakesAt c.flags xs i mark → TakesAt c.flags ys j mark → ⊥) where
  each_of : (place : ℕ) (v : Varying) → slice_get (xs ++ ys) place ≡ Some v → BoundOK c v.bound
  each_of place v at = elim (after xs ys place v at) [
    | inl before ↦ left.each place v before
    | inr rest ↦ right.each rest.0 v rest.2
  ]

  module _ {A : Type 0} (shown : Bound → Option A) (lefts : VaryingsApart shown xs) (rights : VaryingsApart shown ys) (cross : (i j : ℕ) (x : A) → ShowsAt shown xs i x → ShowsAt shown ys j x → ⊥) where
    apart_by : VaryingsApart shown (xs ++ ys)
    apart_by first second x lt p q =
        elim (after xs ys first p.0 p.1) [
          | inl one ↦
              elim (after xs ys second q.0 q.1) [
                | inl other ↦ lefts first second x lt (p.0, one, p.2) (q.0, other, q.2)
                | inr other ↦ cross first other.0 x (p.0, one, p.2) (q.0, other.2, q.2)
              ]
          | inr one ↦
              elim (after xs ys second q.0 q.1) [
                | inl other ↦ (let within = slice_get_within xs second q.0 other in omega (arith, within, lt, one.1))
                | inr other ↦ rights one.0 other.0 x (omega (arith, lt, one.1, other.1)) (p.0, one.2, p.2) (q.0, other.2, q.2)
              ]
        ]

  joined : VaryingsOK c (xs ++ ys)
  joined = record {
    each = each_of;
    once = apart_by built_in_of left.once right.once
        (λ i j b p q. apart i j (built_in_number b) (p.0, p.1, takes_built_in c.flags p.0.bound b p.2) (q.0, q.1, takes_built_in c.flags q.0.bound b q.2));
    apart = λ is. apart_by location_of (left.apart is) (right.apart is)
        (λ i j n p q. apart i j (64 + n) (p.0, p.1, takes_location c.flags is p.0.bound n p.2) (q.0, q.1, takes_location c.flags is q.0.bound n q.2));
  }

-- ---- the same of another argument

at_index : (i j : ℕ) (bs : List Bound) (k : ℕ) (v : Varying) → slice_get (map (varying i) bs) k ≡ Some v → slice_get (map (varying j) bs) k ≡ Some (varying j v.bound)
at_index i j [] k v e = absurd (none_some v e)
at_index i j (b ∷ bs) zero v e = ap (λ (w : Varying). Some (varying j w.bound)) (same_Some (varying i b) v e)
at_index i j (b ∷ bs) (suc k) v e = at_index i j bs k v e

of_index : (c : VaryingContext) (i j : ℕ) (bs : List Bound) → VaryingsOK c (map (varying i) bs) → VaryingsOK c (map (varying j) bs)
of_index c i j bs ok = record {
  each = λ place v at. ok.each place (varying i v.bound) (at_index j i bs place v at);
  once = λ first second x lt p q. ok.once first second x lt (varying i p.0.bound, at_index j i bs first p.0 p.1, p.2) (varying i q.0.bound, at_index j i bs second q.0 q.1, q.2);
  apart = λ is first second x lt p q. ok.apart is first second x lt (varying i p.0.bound, at_index j i bs first p.0 p.1, p.2) (varying i q.0.bound, at_index j i bs second q.0 q.1, q.2);
}

taken_at : (flags : ValidationFlags) (i j : ℕ) (bs : List Bound) (place mark : ℕ) → TakesAt flags (map (varying i) bs) place mark → TakesAt flags (map (varying j) bs) place mark
taken_at flags i j bs place mark p = (varying j p.0.bound, at_index i j bs place p.0 p.1, p.2)

-- ---- one argument more

more_varyings : (types : List PlainType) (index : ℕ) (done : List PlainArgument) (a : PlainArgument)
    → argument_varyings_from types index (done ++ a ∷ []) ≡ argument_varyings_from types index done ++ varyings_of types (index + length done) a.ty a.binding
more_varyings types index [] a =
    let same : index ≡ index + 0 = omega arith in
    append-nil (varyings_of types index a.ty a.binding) ∙ ap (λ n. varyings_of types n a.ty a.binding) same
more_varyings types index (b ∷ bs) a =
    let same : suc index + length bs ≡ index + length (b ∷ bs) = omega arith in
    ap (λ r. varyings_of types index b.ty b.binding ++ r) (more_varyings types (suc index) bs a)
    ∙ (sym (append_assoc (varyings_of types index b.ty b.binding) (argument_varyings_from types (suc index) bs) (varyings_of types (suc index + length bs) a.ty a.binding))
    ∙ ap (λ n. (varyings_of types index b.ty b.binding ++ argument_varyings_from types (suc index) bs) ++ varyings_of types n a.ty a.binding) same)

module _ (c : VaryingContext) (done : List PlainArgument) (a : PlainArgument) (before after_ : BTreeMap ℕ ℕ) (old new : List ℕ) (kept : KeepsNumbers before after_) (still : KeepsBits old new)
    (fine : VaryingsOK c (argument_varyings c.types done)) (taken : AreTaken c.flags before old (argument_varyings c.types done)) (given : IsNewlyGiven c after_ old new a.ty a.binding) where
  abbrev bs : List Bound
  bs = bounds c.types a.ty a.binding

  abbrev first : List Varying
  first = argument_varyings c.types done

  abbrev last : List Varying
  last = map (varying (0 + length done)) bs

  one_number : (n m mark : ℕ) → IsNumber after_ mark n → IsNumber after_ mark m → n ≡ m
  one_number n m mark p q = same_Some n m (sym p ∙ q)

  no_meeting : (i j mark : ℕ) → TakesAt c.flags first i mark → TakesAt c.flags last j mark → ⊥
  no_meeting i j mark p q =
      let was = taken i mark p in
      let is = given.taken j mark (taken_at c.flags (0 + length done) 0 bs j mark q) in
      let same = one_number was.0 is.0 mark (kept mark was.0 was.1) is.1 in
      true≢false (sym was.2 ∙ (ap (has_bit old) same ∙ is.3))

  pub fine_more : VaryingsOK c (argument_varyings c.types (done ++ a ∷ []))
  fine_more = subst (VaryingsOK c) (sym (more_varyings c.types 0 done a)) (joined c first last fine (of_index c 0 (0 + length done) bs given.fine) no_meeting)

  both_taken : AreTaken c.flags after_ new (first ++ last)
  both_taken place mark p = elim (after first last place p.0 p.1) [
    | inl one ↦ (let was = taken place mark (p.0, one, p.2) in (was.0, kept mark was.0 was.1, still was.0 was.2))
    | inr one ↦ (let is = given.taken one.0 mark (taken_at c.flags (0 + length done) 0 bs one.0 mark (p.0, one.2, p.2)) in (is.0, is.1, is.2))
  ]

  pub taken_more : AreTaken c.flags after_ new (argument_varyings c.types (done ++ a ∷ []))
  taken_more = subst (AreTaken c.flags after_ new) (sym (more_varyings c.types 0 done a)) both_taken
