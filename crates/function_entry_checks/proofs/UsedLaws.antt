-- The variables that an entry point uses, one by one.
use Rattle.std.proofs.Common.{◌≡◌, ◌≢◌, ◌⊎◌, inl, inr, ◌<◌, ◌≤◌, ℕ, ◌+◌, List, length, Bool, Option, Some, None, slice_get, option_map, refl, sym, ap, subst, ◌∙◌, arith}
use Rattle.std.specs.Prelude.{◌↔◌, IsTrue, option_and_then, slice_index_or, unwrap_or}
use Rattle.std.specs.Int.{bit_at}
use Rattle.std.proofs.lemmas.Bool.{cases_eq, cases_lt}
use Rattle.std.proofs.lemmas.Option.{same_Some, slice_get_within, unwrap_or-slice_get}
use Rattle.spec_expressions.specs.declared.global_use.GlobalUse.{GlobalUse}
use Rattle.function_entry_checks.proofs.Bits.{all_within, no_bit, some_bit, within_all}
use Rattle.function_entry_checks.specs.Faults.{IsVariableFault, of_uses, SharesBinding, UsesTwoImmediates}
use Rattle.function_entry_checks.specs.declared.error.EntryPointError.TheVariants as error
use Rattle.ir_flags.specs.Sets.{Has}
use Rattle.ir_items.specs.judged.GlobalPlain.{PlainGlobal}
use Rattle.ir_items.specs.judged.Plain.{PlainEntry, PlainModule}
use Rattle.ir_kinds.specs.declared.bindings.ResourceBinding.{ResourceBinding}
use Rattle.ir_kinds.specs.declared.spaces.AddressSpace.{AddressSpace}
use Rattle.ir_kinds.specs.declared.spaces.AddressSpace.TheVariants.{Immediate, TaskPayload}
use Rattle.spec_expressions.specs.judged.Summaries.{HasUseBit, no_use}
use Rattle.typing_infos.specs.Infos.{IsFirstUsed, NoneUsed}
use Rattle.spec_interface.specs.judged.Payloads.{binding_at, space_at}
use Rattle.spec_interface.specs.judged.Spaces.{effective_type}
use Rattle.typing_forms.specs.judged.Resolutions.{inner_at}
use Rattle.spec_interface.specs.judged.Uses.{allowed_uses, is_reached}
use Rattle.spec_interface.specs.judged.UsedVariables.{IsUsed, OwnPayloadOK, UsedVariableOK}
use Rattle.spec_interface.specs.found.UsedVariables.{BindingsApart, EachOK, OneImmediate}

below_or_here : (j n : ℕ) → j < n + 1 → (j < n) ⊎ (j ≡ n)
below_or_here j n lt = elim (cases_eq j n) [ inl same ↦ inr same | inr differ ↦ inl (omega (arith, lt, differ)) ]

-- what is found through a place of a list is there
mapped_in : {A B : Type 0} (f : A → B) (o : Option A) (y : B) → option_map f o ≡ Some y → (x : A) × (o ≡ Some x)
mapped_in f (Some x) y e = (x, refl)
mapped_in f None y e = cc

mapped_within : {A B : Type 0} (f : A → B) (xs : List A) (i : ℕ) (y : B) → option_map f (slice_get xs i) ≡ Some y → i < length xs
mapped_within f xs i y e = let p = mapped_in f (slice_get xs i) y e in slice_get_within xs i p.0 p.1

-- a variable that lies somewhere, or is bound, is there
pub lies_within : (m : PlainModule) (g : ℕ) {s : AddressSpace} → space_at m g ≡ Some s → g < length m.globals
lies_within m g {s} lies = mapped_within (λ (v : PlainGlobal). v.space) m.globals g s lies

bound_in : (o : Option PlainGlobal) (b : ResourceBinding) → option_and_then (λ (v : PlainGlobal). v.binding) o ≡ Some b → (v : PlainGlobal) × (o ≡ Some v)
bound_in (Some v) b e = (v, refl)
bound_in None b e = cc

pub bound_within : (m : PlainModule) (g : ℕ) (b : ResourceBinding) → binding_at m g ≡ Some b → g < length m.globals
bound_within m g b at = let p = bound_in (slice_get m.globals g) b at in slice_get_within m.globals g p.0 p.1

-- ---- uses by their numbers

module _ (uses : List GlobalUse) (g : ℕ) (u : GlobalUse) (told : u ≡ unwrap_or (slice_get uses g) no_use) where
  at : slice_index_or uses g no_use ≡ u
  at = sym (told ∙ unwrap_or-slice_get uses g no_use)

  pub use_is : u ≡ slice_index_or uses g no_use
  use_is = sym at

  pub kinds_are : (k : ℕ) → (bit_at u.0 k ≡ 1) ↔ HasUseBit uses g k
  kinds_are k = (λ e. ap (λ (x : GlobalUse). bit_at x.0 k) at ∙ e, λ e. sym (ap (λ (x : GlobalUse). bit_at x.0 k) at) ∙ e)

pub immediate_told : (m : PlainModule) (g : ℕ) (s : AddressSpace) → space_at m g ≡ Some s → (b : Bool) → IsTrue b ↔ (s ≡ Immediate) → IsTrue b ↔ (space_at m g ≡ Some Immediate)
immediate_told m g s lies b is = (λ h. lies ∙ ap Some (is.0 h), λ at. is.1 (same_Some _ _ (sym lies ∙ at)))

-- no variable of a range is used
abbrev pub Unused : (ℕ → ℕ → Type 0) → (from end : ℕ) → Type 0
Unused Uses from end = (g : ℕ) → from ≤ g → g < end → IsUsed Uses g → ⊥

pub unused_in : (uses : List GlobalUse) (from end : ℕ) → NoneUsed uses from end → Unused (HasUseBit uses) from end
unused_in uses from end none g reached lt used = no_bit (slice_index_or uses g no_use).0 used.0 (none g reached lt) used.1

pub first_used : (uses : List GlobalUse) (from end g : ℕ) → IsFirstUsed uses from end g → IsUsed (HasUseBit uses) g
first_used uses from end g first = some_bit (slice_index_or uses g no_use).0 first.used

module _ (m : PlainModule) (uses : List GlobalUse) (from end index g : ℕ) (first : IsFirstUsed uses from end index) (same : g ≡ index) where
  used_here : IsUsed (HasUseBit uses) g
  used_here = subst (IsUsed (HasUseBit uses)) (sym same) (first_used uses from end index first)

  pub immediate_used : space_at m g ≡ Some Immediate → IsUsed (HasUseBit uses) g × (space_at m g ≡ Some Immediate)
  immediate_used lies = (used_here, lies)

  pub bound_used : (b : ResourceBinding) (o : Option ResourceBinding) → o ≡ binding_at m g → o ≡ Some b → IsUsed (HasUseBit uses) g × (binding_at m g ≡ Some b)
  bound_used b o is some = (used_here, sym is ∙ some)

pub unbound : (m : PlainModule) (Uses : ℕ → ℕ → Type 0) (g : ℕ) (o : Option ResourceBinding) → o ≡ binding_at m g → o ≡ None → IsUsed Uses g → (b : ResourceBinding) → binding_at m g ≡ Some b → ⊥
unbound m Uses g o is none used b at = let e = sym none ∙ (is ∙ at) in absurd (cc)

-- ---- one

module _ (m : PlainModule) (e : PlainEntry) (g : ℕ) (v : PlainGlobal) where
  pub variable_allowed : (kinds : ℕ) (allowed : GlobalUse) → (v.space ≡ TaskPayload → OwnPayloadOK m e g v) → IsTrue (is_reached e.stage v.space) → allowed ≡ allowed_uses e.stage v.space (inner_at m.types (effective_type m.types v.ty))
      → Has allowed.0 kinds → UsedVariableOK m e g v (λ k. bit_at kinds k ≡ 1)
  variable_allowed kinds allowed payload reached is has = record {
    payload = payload;
    reached = reached;
    allowed = λ k one. ap (λ (u : GlobalUse). bit_at u.0 k) (sym is) ∙ within_all allowed.0 kinds has k one;
  }

  pub variable_not_allowed : (kinds allowed : GlobalUse) → allowed ≡ allowed_uses e.stage v.space (inner_at m.types (effective_type m.types v.ty)) → (Has allowed.0 kinds.0 → ⊥) → IsVariableFault m e g v (λ k. bit_at kinds.0 k ≡ 1) (error.InvalidGlobalUsage g kinds)
  variable_not_allowed kinds allowed is has = of_uses (
    refl,
    (λ k. ((λ one. one), (λ one. one))),
    λ all. has (all_within allowed.0 kinds.0 (λ k one. ap (λ (u : GlobalUse). bit_at u.0 k) is ∙ all k one)),
  )

-- ---- each

-- those before an index are as they may be used
abbrev pub EachBelow : PlainModule → PlainEntry → (ℕ → ℕ → Type 0) → (n : ℕ) → Type 0
EachBelow m e Uses n = (g : ℕ) (v : PlainGlobal) → g < n → slice_get m.globals g ≡ Some v → IsUsed Uses g → UsedVariableOK m e g v (Uses g)

module _ (m : PlainModule) (e : PlainEntry) (Uses : ℕ → ℕ → Type 0) (n : ℕ) (below : EachBelow m e Uses n) where
  each_more : ((v : PlainGlobal) → slice_get m.globals n ≡ Some v → IsUsed Uses n → UsedVariableOK m e n v (Uses n)) → EachBelow m e Uses (n + 1)
  each_more here g v lt at used = elim (below_or_here g n lt) [
    | inl before ↦ below g v before at used
    | inr same ↦ subst (λ h. UsedVariableOK m e h v (Uses h)) (sym same) (here v (subst (λ h. slice_get m.globals h ≡ Some v) same at) (subst (λ h. IsUsed Uses h) same used))
  ]

  pub each_at : (h : ℕ) (w : PlainGlobal) → h ≡ n → slice_get m.globals h ≡ Some w → UsedVariableOK m e h w (Uses h) → EachBelow m e Uses (n + 1)
  each_at h w same there ok =
      each_more (λ v at used. subst (λ k. UsedVariableOK m e k v (Uses k)) same (subst (λ x. UsedVariableOK m e h x (Uses h)) (same_Some _ _ (sym there ∙ (ap (slice_get m.globals) same ∙ at))) ok))

  -- none is used from there to here
  pub each_to : (end : ℕ) → Unused Uses n end → EachBelow m e Uses end
  each_to end unused g v lt at used = elim (cases_lt g n) [ inl before ↦ below g v before at used | inr past ↦ absurd (unused g past lt used) ]

pub all_each : (m : PlainModule) (e : PlainEntry) (Uses : ℕ → ℕ → Type 0) (n : ℕ) → length m.globals ≤ n → EachBelow m e Uses n → EachOK m e Uses
all_each m e Uses n past below g v at used = let lt = slice_get_within m.globals g v at in below g v (omega (arith, past, lt)) at used

-- ---- immediates

-- the immediate that is used before an index, if one is
pub record IsFoundBelow (m : PlainModule) (Uses : ℕ → ℕ → Type 0) (n : ℕ) (found : Option ℕ) : Type 0 where
  pub is : (g : ℕ) → found ≡ Some g → (g < n) × IsUsed Uses g × (space_at m g ≡ Some Immediate)
  pub all : (g : ℕ) → g < n → IsUsed Uses g → space_at m g ≡ Some Immediate → found ≡ Some g

module _ (m : PlainModule) (Uses : ℕ → ℕ → Type 0) where
  pub none_found : IsFoundBelow m Uses 0 None
  none_found = record { is = λ g e. cc; all = λ g lt used lies. absurd (omega (arith, lt)) }

  module _ (n : ℕ) (found : Option ℕ) (below : IsFoundBelow m Uses n found) where
    -- the next is none
    pub found_kept : (IsUsed Uses n × (space_at m n ≡ Some Immediate) → ⊥) → IsFoundBelow m Uses (n + 1) found
    found_kept no_more = record {
      is = λ g e. (let h = below.is g e in let lt = h.0 in (omega (arith, lt), h.1, h.2));
      all = λ g lt used lies. elim (below_or_here g n lt) [
        | inl before ↦ below.all g before used lies
        | inr same ↦ absurd (no_more (subst (λ h. IsUsed Uses h) same used, subst (λ h. space_at m h ≡ Some Immediate) same lies))
      ];
    }

    -- the next is the first
    found_here : found ≡ None → IsUsed Uses n → space_at m n ≡ Some Immediate → IsFoundBelow m Uses (n + 1) (Some n)
    found_here none used lies = record {
      is = λ g e. subst (λ h. (h < n + 1) × IsUsed Uses h × (space_at m h ≡ Some Immediate)) (same_Some _ _ e) (omega arith, used, lies);
      all = λ g lt again lies_too. elim (below_or_here g n lt) [
        | inl before ↦ absurd (let e = below.all g before again lies_too in cc)
        | inr same ↦ ap Some (sym same)
      ];
    }

    pub found_first : (g : ℕ) → g ≡ n → found ≡ None → IsUsed Uses g × (space_at m g ≡ Some Immediate) → IsFoundBelow m Uses (n + 1) (Some g)
    found_first g same none is = subst (λ k. IsFoundBelow m Uses (n + 1) (Some k)) (sym same) (found_here none (subst (λ k. IsUsed Uses k) same is.0) (subst (λ k. space_at m k ≡ Some Immediate) same is.1))

    -- none is used from there to here
    pub found_to : (end : ℕ) → n ≤ end → Unused Uses n end → IsFoundBelow m Uses end found
    found_to end le unused = record {
      is = λ g e. (let h = below.is g e in let lt = h.0 in (omega (arith, lt, le), h.1, h.2));
      all = λ g lt used lies. elim (cases_lt g n) [ inl before ↦ below.all g before used lies | inr past ↦ absurd (unused g past lt used) ];
    }

    pub found_none : (g : ℕ) → g ≡ n → (IsUsed Uses g × (space_at m g ≡ Some Immediate) → ⊥) → IsFoundBelow m Uses (n + 1) found
    found_none g same no_more = found_kept (λ is. no_more (subst (λ k. IsUsed Uses k) (sym same) is.0, subst (λ k. space_at m k ≡ Some Immediate) (sym same) is.1))

    -- another one is found
    pub two_found : (first g : ℕ) → found ≡ Some first → g ≡ n → IsUsed Uses g × (space_at m g ≡ Some Immediate) → UsesTwoImmediates m Uses
    two_found first g is same here = let old = below.is first is in record {
      first = first;
      second = g;
      apart = (let lt = old.0 in λ e. absurd (omega (arith, lt, e, same)));
      first_used = old.1;
      second_used = here.0;
      first_lies = old.2;
      second_lies = here.1;
    }

  pub one_found : (n : ℕ) (found : Option ℕ) → length m.globals ≤ n → IsFoundBelow m Uses n found → OneImmediate m Uses
  one_found n found past below g h g_used h_used g_lies h_lies =
      let g_in = lies_within m g g_lies in
      let h_in = lies_within m h h_lies in
      let a = below.all g (omega (arith, past, g_in)) g_used g_lies in
      let b = below.all h (omega (arith, past, h_in)) h_used h_lies in
      same_Some _ _ (sym a ∙ b)

-- ---- bindings

-- the bindings of those that are used before an index are seen and no others, and no two of them are the same
pub record AreSeenBelow (m : PlainModule) (Uses : ℕ → ℕ → Type 0) (n : ℕ) (Seen : ResourceBinding → Type 0) : Type 0 where
  pub seen : (b : ResourceBinding) → Seen b → (h : ℕ) × (h < n) × IsUsed Uses h × (binding_at m h ≡ Some b)
  pub noted : (h : ℕ) (b : ResourceBinding) → h < n → IsUsed Uses h → binding_at m h ≡ Some b → Seen b
  pub apart : (g h : ℕ) (b : ResourceBinding) → g < n → h < n → IsUsed Uses g → IsUsed Uses h → binding_at m g ≡ Some b → binding_at m h ≡ Some b → g ≡ h

module _ (m : PlainModule) (Uses : ℕ → ℕ → Type 0) (n : ℕ) (Seen : ResourceBinding → Type 0) (below : AreSeenBelow m Uses n Seen) where
  -- the next is not used, or not bound
  pub seen_kept : (IsUsed Uses n → (b : ResourceBinding) → binding_at m n ≡ Some b → ⊥) → AreSeenBelow m Uses (n + 1) Seen
  seen_kept no_more = record {
    seen = λ b s. (let p = below.seen b s in let lt = p.1 in (p.0, omega (arith, lt), p.2, p.3));
    noted = λ h b lt used at. elim (below_or_here h n lt) [
      | inl before ↦ below.noted h b before used at
      | inr same ↦ absurd (no_more (subst (λ k. IsUsed Uses k) same used) b (subst (λ k. binding_at m k ≡ Some b) same at))
    ];
    apart = λ g h b g_lt h_lt g_used h_used g_at h_at. elim (below_or_here g n g_lt) [
      | inl g_before ↦ elim (below_or_here h n h_lt) [
        | inl h_before ↦ below.apart g h b g_before h_before g_used h_used g_at h_at
        | inr same ↦ absurd (no_more (subst (λ k. IsUsed Uses k) same h_used) b (subst (λ k. binding_at m k ≡ Some b) same h_at))
      ]
      | inr same ↦ absurd (no_more (subst (λ k. IsUsed Uses k) same g_used) b (subst (λ k. binding_at m k ≡ Some b) same g_at))
    ];
  }

  -- none is used from there to here
  pub seen_to : (end : ℕ) → n ≤ end → Unused Uses n end → AreSeenBelow m Uses end Seen
  seen_to end le unused = record {
    seen = λ b s. (let p = below.seen b s in let lt = p.1 in (p.0, omega (arith, lt, le), p.2, p.3));
    noted = λ h b lt used at. below.noted h b (before h lt used) used at;
    apart = λ g h b g_lt h_lt g_used h_used g_at h_at. below.apart g h b (before g g_lt g_used) (before h h_lt h_used) g_used h_used g_at h_at;
  } where
    before : (h : ℕ) → h < end → IsUsed Uses h → h < n
    before h lt used = elim (cases_lt h n) [ inl is ↦ is | inr past ↦ absurd (unused h past lt used) ]

  -- the next has a binding that is new
  module _ (d : ResourceBinding) (at_n : binding_at m n ≡ Some d) (used_n : IsUsed Uses n) (fresh : Seen d → ⊥) (Now : ResourceBinding → Type 0) (now : (b : ResourceBinding) → Now b ↔ (Seen b ⊎ (b ≡ d))) where
    its_binding : (h : ℕ) (b : ResourceBinding) → h ≡ n → binding_at m h ≡ Some b → b ≡ d
    its_binding h b same at = same_Some _ _ (sym at ∙ (ap (λ k. binding_at m k) same ∙ at_n))

    not_before : (h : ℕ) (b : ResourceBinding) → h < n → IsUsed Uses h → binding_at m h ≡ Some b → b ≡ d → ⊥
    not_before h b lt used at is = fresh (subst Seen is (below.noted h b lt used at))

    pub seen_more : AreSeenBelow m Uses (n + 1) Now
    seen_more = record {
      seen = λ b s. elim ((now b).0 s) [
        | inl old ↦ (let p = below.seen b old in let lt = p.1 in (p.0, omega (arith, lt), p.2, p.3))
        | inr same ↦ (n, omega arith, used_n, at_n ∙ ap Some (sym same))
      ];
      noted = λ h b lt used at. (now b).1 (elim (below_or_here h n lt) [
        | inl before ↦ inl (below.noted h b before used at)
        | inr same ↦ inr (its_binding h b same at)
      ]);
      apart = λ g h b g_lt h_lt g_used h_used g_at h_at. elim (below_or_here g n g_lt) [
        | inl g_before ↦ elim (below_or_here h n h_lt) [
          | inl h_before ↦ below.apart g h b g_before h_before g_used h_used g_at h_at
          | inr same ↦ absurd (not_before g b g_before g_used g_at (its_binding h b same h_at))
        ]
        | inr g_same ↦ elim (below_or_here h n h_lt) [
          | inl h_before ↦ absurd (not_before h b h_before h_used h_at (its_binding g b g_same g_at))
          | inr h_same ↦ g_same ∙ sym h_same
        ]
      ];
    }

module _ (m : PlainModule) (Uses : ℕ → ℕ → Type 0) (n : ℕ) (Seen : ResourceBinding → Type 0) (below : AreSeenBelow m Uses n Seen) (g : ℕ) (same : g ≡ n) where
  pub kept_at : (IsUsed Uses g → (b : ResourceBinding) → binding_at m g ≡ Some b → ⊥) → AreSeenBelow m Uses (n + 1) Seen
  kept_at no_more = seen_kept m Uses n Seen below (subst (λ k. IsUsed Uses k → (b : ResourceBinding) → binding_at m k ≡ Some b → ⊥) same no_more)

  pub more_at : (d : ResourceBinding) → IsUsed Uses g × (binding_at m g ≡ Some d) → (Seen d → ⊥) → (Now : ResourceBinding → Type 0) → ((b : ResourceBinding) → Now b ↔ (Seen b ⊎ (b ≡ d))) → AreSeenBelow m Uses (n + 1) Now
  more_at d here fresh Now now =
      seen_more m Uses n Seen below d (subst (λ k. binding_at m k ≡ Some d) same here.1) (subst (λ k. IsUsed Uses k) same here.0) fresh Now now

  pub shared_at : (d : ResourceBinding) → IsUsed Uses g × (binding_at m g ≡ Some d) → Seen d → SharesBinding m Uses g
  shared_at d here seen = let old = below.seen d seen in record {
    other = old.0;
    binding = d;
    apart = (let lt = old.1 in λ e. absurd (omega (arith, lt, e, same)));
    used = here.0;
    other_used = old.2;
    bound = here.1;
    other_bound = old.3;
  }

pub none_seen : (m : PlainModule) (Uses : ℕ → ℕ → Type 0) (Seen : ResourceBinding → Type 0) → ((b : ResourceBinding) → Seen b → ⊥) → AreSeenBelow m Uses 0 Seen
none_seen m Uses Seen none = record {
  seen = λ b s. absurd (none b s);
  noted = λ h b lt used at. absurd (omega (arith, lt));
  apart = λ g h b lt again used h_used at h_at. absurd (omega (arith, lt));
}

pub all_apart : (m : PlainModule) (Uses : ℕ → ℕ → Type 0) (n : ℕ) (Seen : ResourceBinding → Type 0) → length m.globals ≤ n → AreSeenBelow m Uses n Seen → BindingsApart m Uses
all_apart m Uses n Seen past below g h b g_used h_used g_at h_at =
    let g_in = bound_within m g b g_at in
    let h_in = bound_within m h b h_at in
    below.apart g h b (omega (arith, past, g_in)) (omega (arith, past, h_in)) g_used h_used g_at h_at
