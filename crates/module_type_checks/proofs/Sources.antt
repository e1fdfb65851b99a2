-- Blend sources, member by member.
use Rattle.std.proofs.Common.{◌≡◌, ◌≢◌, ◌<◌, ◌≤◌, ◌+◌, ◌⊎◌, inl, inr, ℕ, zero, suc, List, [], ◌∷◌, Option, Some, None, All, Result, Ok, Err, MatchOption, MatchResult, map, length, slice_get, get_or, option_and_then, refl, sym, ap, subst, ◌∙◌, arith, rules}
use Rattle.std.proofs.lemmas.Option.{same_Some}
use Rattle.ir_types.specs.judged.Plain.{PlainMember, member_view}
use Rattle.ir_types.specs.declared.types.StructMember.{StructMember}
use Rattle.typing_layout.specs.judged.Blends.{source_at, HasSource, BlendLocationOK, BlendOK}
use Rattle.typing_layout.specs.judged.Flags.{blend_source}
use Rattle.module_type_checks.specs.Blends.{AreLocated, IsLocationFaultIn, IsSoleBelow, IsSole, IsOnlyType, IsCollision, PairOK, IsPairFault, SourcesOK}
use Rattle.typing_layout.specs.found.BlendFaults.{IsTwice, IsAbsent, IsAlone, IsSource, IsVaryingFault}
use Rattle.ir_flags.specs.Sets.{Has}
use Rattle.ir_flags.specs.declared.settings.TheConstants.Capabilities.{DUAL_SOURCE_BLENDING}
use Rattle.typing_layout.specs.judged.Blends.{binding_location}
use Rattle.ir_kinds.specs.declared.bindings.Binding.{Binding}
use Rattle.ir_kinds.specs.declared.bindings.Binding.TheVariants as bound
use Rattle.module_type_checks.specs.Known.{types_in}
use Rattle.module_type_checks.specs.declared.context.TypeContext.{TypeContext}
use Rattle.typing_layout.specs.declared.type_error.VaryingError.{VaryingError}
use Rattle.typing_layout.specs.declared.type_error.VaryingError.TheVariants as varying
use Rattle.ir_types.specs.judged.Plain.{PlainType}
use Rattle.typing_layout.specs.TypingForms.{inner_at}
use Rattle.module_type_checks.proofs.Places.{plain_at, many_plain}

-- the blend source of the member at an index
pub source_here : (ms : List StructMember) (k : ℕ) (m : StructMember) → k < length ms → m ≡ get_or ms k m → source_at (map member_view ms) k ≡ blend_source m.binding
source_here ms k m lt is = ap (option_and_then (λ (x : PlainMember). blend_source x.binding)) (plain_at ms k m lt ∙ ap (λ x. Some (member_view x)) (sym is))

pub source_got : (ms : List StructMember) (k : ℕ) (d : StructMember) → k < length ms → source_at (map member_view ms) k ≡ blend_source (get_or ms k d).binding
source_got ms k d lt = ap (option_and_then (λ (x : PlainMember). blend_source x.binding)) (plain_at ms k d lt)

-- there is no blend source past the members
pub source_within : (ms : List PlainMember) (k source : ℕ) → source_at ms k ≡ Some source → k < length ms
source_within [] k source e = cc
source_within (m ∷ ms) zero source e = omega arith
source_within (m ∷ ms) (suc k) source e = let h : k < length ms = source_within ms k source e in omega (arith, h)

below_or_same : (h k : ℕ) → h < k + 1 → (h < k) ⊎ (h ≡ k)
below_or_same h k lt = search rules

-- ---- whether there is one

pub record NoneBelow (ms : List PlainMember) (place : ℕ) : Type 0 where
  pub each : (k : ℕ) → k < place → source_at ms k ≡ None

pub none_more : (ms : List PlainMember) (place : ℕ) → NoneBelow ms place → source_at ms place ≡ None → NoneBelow ms (place + 1)
none_more ms place before here =
    record { each = λ k lt. elim (below_or_same k place lt) [ inl less ↦ before.each k less | inr same ↦ ap (source_at ms) same ∙ here ] }

pub none_at_all : (ms : List StructMember) (place : ℕ) → NoneBelow (map member_view ms) place → length ms ≤ place → HasSource (map member_view ms) → ⊥
none_at_all ms place none all has =
    let lt : has.0 < length (map member_view ms) = source_within (map member_view ms) has.0 has.1 has.2 in
    let e : source_at (map member_view ms) has.0 ≡ None = none.each has.0 (omega (arith, lt, many_plain ms)) in
    let f : source_at (map member_view ms) has.0 ≡ Some has.1 = has.2 in cc

-- ---- the only one

pub sole_none : (ms : List PlainMember) (source : ℕ) (found : Option ℕ) (place : ℕ) → found ≡ None → place ≡ 0 → IsSoleBelow ms source found place
sole_none ms source None place e first = λ k lt. absurd (omega arith)
sole_none ms source (Some j) place e first = cc

pub sole_skip : (ms : List PlainMember) (source : ℕ) (found : Option ℕ) (place : ℕ) → IsSoleBelow ms source found place → (source_at ms place ≢ Some source) → IsSoleBelow ms source found (place + 1)
sole_skip ms source None place before other = λ k lt e. elim (below_or_same k place lt) [ inl less ↦ before k less e | inr same ↦ other (ap (source_at ms) (sym same) ∙ e) ]
sole_skip ms source (Some j) place before other = (
  omega (arith, before.0),
  before.1,
  (λ k lt e. elim (below_or_same k place lt) [ inl less ↦ before.2 k less e | inr same ↦ absurd (other (ap (source_at ms) (sym same) ∙ e)) ]),
)

pub sole_here : (ms : List PlainMember) (source : ℕ) (found new : Option ℕ) (place : ℕ) → IsSoleBelow ms source found place → found ≡ None → source_at ms place ≡ Some source → new ≡ Some place
    → IsSoleBelow ms source new (place + 1)
sole_here ms source (Some j) new place before none here is = cc
sole_here ms source None new place before none here is =
    subst (λ o. IsSoleBelow ms source o (place + 1)) (sym is)
    (omega arith, here, (λ k lt e. elim (below_or_same k place lt) [ inl less ↦ absurd (before k less e) | inr same ↦ same ]))

pub twice : (ms : List PlainMember) (source : ℕ) (found : Option ℕ) (place : ℕ) → IsSoleBelow ms source found place → (found ≢ None) → source_at ms place ≡ Some source → IsTwice ms source
twice ms source None place before some here = absurd (some refl)
twice ms source (Some j) place before some here = record { first = j; second = place; apart = λ e. (let lt = before.0 in omega arith); at_first = before.1; at_second = here }

pub sole_all : (ms : List StructMember) (source : ℕ) (found : Option ℕ) (place : ℕ) → IsSoleBelow (map member_view ms) source found place → length ms ≤ place → IsSole (map member_view ms) source found
sole_all ms source None place before all = λ k e. before k (let lt = source_within (map member_view ms) k source e in omega (arith, lt, many_plain ms)) e
sole_all ms source (Some j) place before all = (source_within (map member_view ms) j source before.1, before.1, (λ k e. before.2 k (let lt = source_within (map member_view ms) k source e in omega (arith, lt, many_plain ms)) e))

-- ---- the only one

pub record LocatedBelow (ms : List PlainMember) (place : ℕ) : Type 0 where
  pub each : (k : ℕ) (m : PlainMember) → k < place → slice_get ms k ≡ Some m → BlendLocationOK m

pub located_more : (ms : List PlainMember) (place : ℕ) (m : PlainMember) → LocatedBelow ms place → slice_get ms place ≡ Some m → BlendLocationOK m → LocatedBelow ms (place + 1)
located_more ms place m before at ok = record { each = λ k x lt e. elim (below_or_same k place lt) [ inl less ↦ before.each k x less e | inr same ↦ last k x same e ] }
  where
    last : (k : ℕ) (x : PlainMember) → k ≡ place → slice_get ms k ≡ Some x → BlendLocationOK x
    last k x same e = let q : m ≡ x = (let a = at in let b = e in let c = same in cc) in subst BlendLocationOK q ok

member_within : (ms : List PlainMember) (k : ℕ) (m : PlainMember) → slice_get ms k ≡ Some m → k < length ms
member_within [] k m e = cc
member_within (x ∷ xs) zero m e = omega arith
member_within (x ∷ xs) (suc k) m e = let h = member_within xs k m e in omega (arith, h)

pub located_all : (ms : List StructMember) (place : ℕ) → LocatedBelow (map member_view ms) place → length ms ≤ place → AreLocated (map member_view ms)
located_all ms place before all k m e = before.each k m (let lt = member_within (map member_view ms) k m e in omega (arith, lt, many_plain ms)) e

pub plain_here : (ms : List StructMember) (k : ℕ) (m : StructMember) → k < length ms → m ≡ get_or ms k m → slice_get (map member_view ms) k ≡ Some (member_view m)
plain_here ms k m lt is = plain_at ms k m lt ∙ ap (λ x. Some (member_view x)) (sym is)

-- ---- the whole

-- a member with a blend source has a location
located_source : (b : Option Binding) (source : ℕ) → blend_source b ≡ Some source → (location : ℕ) × (binding_location b ≡ Some location)
located_source None source e = cc
located_source (Some (bound.BuiltIn built_in)) source e = cc
located_source (Some (bound.Location location interpolation sampling s per_primitive)) source e = (location, refl)

one_of_two : (m : PlainMember) (source : ℕ) → BlendLocationOK m → blend_source m.binding ≡ Some source → (source ≡ 0) ⊎ (source ≡ 1)
one_of_two m source ok is =
    let at = located_source m.binding source is in
    elim ((ok at.0 at.1).1) [ inl e ↦ inl (same_Some source 0 (sym is ∙ e)) | inr e ↦ inr (same_Some source 1 (sym is ∙ e)) ]

-- the member with a blend source
member_of : (ms : List PlainMember) (k source : ℕ) → source_at ms k ≡ Some source → (m : PlainMember) × (slice_get ms k ≡ Some m) × (blend_source m.binding ≡ Some source)
member_of [] k source e = cc
member_of (m ∷ ms) zero source e = (m, refl, e)
member_of (m ∷ ms) (suc k) source e = member_of ms k source e

-- if the first blend source is absent, the second is present
pub other_present : (ms : List PlainMember) → AreLocated ms → HasSource ms → IsAbsent ms 0 → IsAlone ms 1
other_present ms located has absent =
    let at = member_of ms has.0 has.1 has.2 in
    elim (one_of_two at.0 has.1 (located has.0 at.0 at.1) at.2) [
      | inl e ↦ absurd (absent has.0 (has.2 ∙ ap Some e))
      | inr e ↦ ((has.0, has.2 ∙ ap Some e), inr (refl, absent))
    ]

pub location_fault : (types : List PlainType) (ms : List PlainMember) (e : VaryingError) → IsLocationFaultIn ms e → IsVaryingFault types ms e
location_fault types ms (varying.NotIOShareableType ty) f = absurd f.fault
location_fault types ms (varying.BindingCollisionBlendSrc source) f = absurd f.fault
location_fault types ms (varying.InvalidBlendSrcIndex location source) f = (f.m, record { place = f.place; at = f.at; is = f.fault.0 }, f.fault.1, f.fault.2)
location_fault types ms (varying.IncompleteBlendSrcUsage present) f = absurd f.fault
location_fault types ms (varying.InvalidBlendSrcWithOtherBindings location) f = (f.m, record { place = f.place; at = f.at; is = f.fault.0 }, f.fault.1)
location_fault types ms (varying.BlendSrcOutputTypeMismatch a b) f = absurd f.fault

pub collision_fault : (types : List PlainType) (ms : List PlainMember) (source : ℕ) (e : VaryingError) → IsCollision ms source e → IsVaryingFault types ms e
collision_fault types ms source e f = subst (IsVaryingFault types ms) (sym f.0) f.1

is_source : (ms : List PlainMember) (source ty : ℕ) → IsOnlyType ms source ty → IsSource ms source ty
is_source ms source ty only = record { place = only.place; m = only.m; at = only.is.at; is = only.is.is; of = only.of }

pub pair_fault : (c : TypeContext) (ms : List PlainMember) (a b : ℕ) (e : VaryingError) → IsOnlyType ms 0 a → IsOnlyType ms 1 b → IsPairFault c a b e → IsVaryingFault (types_in c) ms e
pair_fault c ms a b (varying.NotIOShareableType ty) first second f = (
  elim f.0 [
    | inl e ↦ (0, subst (IsSource ms 0) (sym e) (is_source ms 0 a first))
    | inr e ↦ (1, subst (IsSource ms 1) (sym e) (is_source ms 1 b second))
  ],
  f.1,
)
pair_fault c ms a b (varying.BindingCollisionBlendSrc source) first second f = absurd f
pair_fault c ms a b (varying.InvalidBlendSrcIndex location source) first second f = absurd f
pair_fault c ms a b (varying.IncompleteBlendSrcUsage present) first second f = absurd f
pair_fault c ms a b (varying.InvalidBlendSrcWithOtherBindings location) first second f = absurd f
pair_fault c ms a b (varying.BlendSrcOutputTypeMismatch x y) first second f = (
  subst (IsSource ms 0) (sym f.0) (is_source ms 0 a first),
  subst (IsSource ms 1) (sym f.1) (is_source ms 1 b second),
  (λ e. f.2 (ap (inner_at (types_in c)) (sym f.0) ∙ e ∙ ap (inner_at (types_in c)) f.1)),
)

pub sources_ok : (c : TypeContext) (ms : List PlainMember) (a b : ℕ) → AreLocated ms → IsOnlyType ms 0 a → IsOnlyType ms 1 b → PairOK c a b → SourcesOK c ms
sources_ok c ms a b located first second pair = record {
  located = located;
  first_place = first.place;
  second_place = second.place;
  first = first.m;
  second = second.m;
  is_first = first.is;
  is_second = second.is;
  pair = subst (λ y. PairOK c first.m.ty y) second.of (subst (λ x. PairOK c x b) first.of pair);
}

-- if only one blend source is present
pub alone : (ms : List PlainMember) (a : ℕ) → IsOnlyType ms 0 a → IsAbsent ms 1 → IsAlone ms 0
alone ms a first absent = ((first.place, ap (option_and_then (λ (x : PlainMember). blend_source x.binding)) first.is.at ∙ first.is.is), inl (refl, absent))

-- whatever the check of the two types returns
pub sources_answer : (c : TypeContext) (ms : List PlainMember) (a b : ℕ) (r : Result (Unit {0}) VaryingError) → AreLocated ms → IsOnlyType ms 0 a → IsOnlyType ms 1 b
    → MatchResult r (λ _. PairOK c a b) (IsPairFault c a b) → MatchResult r (λ _. SourcesOK c ms) (IsVaryingFault (types_in c) ms)
sources_answer c ms a b (Ok u) located first second h = sources_ok c ms a b located first second h
sources_answer c ms a b (Err e) located first second h = pair_fault c ms a b e first second h

pub named_within : (c : TypeContext) (ms : List StructMember) (n source ty : ℕ) → IsOnlyType (map member_view ms) source ty → All (λ m. m.ty < n) ms → ty < n
named_within c ms n source ty only all = subst (λ t. t < n) (sym only.of) (at ms only.place only.m only.is.at all)
  where
    at : (ms : List StructMember) (k : ℕ) (m : PlainMember) → slice_get (map member_view ms) k ≡ Some m → All (λ m. m.ty < n) ms → m.ty < n
    at [] k m e all = cc
    at (x ∷ xs) zero m e all = let q : member_view x ≡ m = cc in subst (λ (y : PlainMember). y.ty < n) q (all 0 x (omega arith))
    at (x ∷ xs) (suc k) m e all = at xs k m e (λ j d lt. all (suc j) d (omega arith))

pub sole_type_at : (ms : List StructMember) (k source : ℕ) (m : StructMember) → m ≡ get_or ms k m → IsSole (map member_view ms) source (Some k) → IsOnlyType (map member_view ms) source m.ty
sole_type_at ms k source m is sole =
    let lt : k < length ms = (let h = sole.0 in omega (arith, h, many_plain ms)) in
    record { place = k; m = member_view m; is = record { at = plain_here ms k m lt is; is = sym (source_here ms k m lt is) ∙ sole.1; only = sole.2 }; of = refl }

pub sole_within : (ms : List StructMember) (k source : ℕ) → IsSole (map member_view ms) source (Some k) → k < length ms
sole_within ms k source sole = let lt = sole.0 in omega (arith, lt, many_plain ms)

pub where_none : (ms : List PlainMember) (source : ℕ) (o : Option ℕ) → MatchOption o (IsAbsent ms source) (IsOnlyType ms source) → ((x : ℕ) → o ≡ Some x → ⊥) → IsAbsent ms source
where_none ms source None h not = h
where_none ms source (Some x) h not = absurd (not x refl)

pub some_or_none : (o : Option ℕ) → (o ≢ None) → (x : ℕ) × (o ≡ Some x)
some_or_none None some = absurd (some refl)
some_or_none (Some x) some = (x, refl)

pub blend_ok : (c : TypeContext) (ms : List PlainMember) → Has c.capabilities.0 DUAL_SOURCE_BLENDING.0 → SourcesOK c ms → BlendOK c.capabilities (types_in c) ms
blend_ok c ms has s = record {
  capability = has;
  located = s.located;
  first_place = s.first_place;
  second_place = s.second_place;
  first = s.first;
  second = s.second;
  is_first = s.is_first;
  is_second = s.is_second;
  equal = s.pair.equal;
  first_shared = s.pair.first_shared;
  second_shared = s.pair.second_shared;
}
