-- Chains of types, step by step.
use Rattle.std.proofs.Common.{◌≡◌, ◌<◌, ◌-◌, ℕ, suc, List, [], ◌∷◌, map, length, All, Option, Some, None, slice_get, IfNone, refl, sym, ap, subst, ◌∙◌, arith, rules}
use Rattle.std.proofs.lemmas.Option.{get_or_from_slice_get, same_Some, slice_get-map, slice_get_within}
use Rattle.ir_kinds.specs.declared.scalars.Scalar.{Scalar}
use Rattle.ir_types.specs.judged.Plain.{PlainInner, struct, plain, PlainMember, PlainType}
use Rattle.ir_types.specs.declared.types.TypeInner.TheVariants as inner
use Rattle.typing_forms.specs.judged.Order.{named_types, TypesGoBack}
use Rattle.typing_forms.specs.judged.Resolutions.{inner_at}
use Rattle.typing_forms.specs.found.Elements.{LeadsTo, ends, goes, base_of, last_of, converted_scalar, ConvertsBy}

-- ---- a chain descends

-- the number of steps that a descending chain can still take
abbrev pub steps : Option ℕ → ℕ
steps (Some handle) = suc handle
steps None = 0

-- the next type of a chain is one that the type refers to
abbrev pub IsNamed : (PlainInner → Option ℕ) → Type 0
IsNamed next = (i : PlainInner) (handle bound : ℕ) → next i ≡ Some handle → All (λ named. named < bound) (named_types i) → handle < bound

pub one_below : (bound : ℕ) (xs : List ℕ) (k x : ℕ) → All (λ named. named < bound) xs → slice_get xs k ≡ Some x → x < bound
one_below bound xs k x all e = subst (λ y. y < bound) (get_or_from_slice_get xs k x 0 e) (all k 0 (slice_get_within xs k x e))

pub base_named : IsNamed base_of
base_named (plain (inner.Array base size stride)) handle bound e all = one_below bound (base ∷ []) 0 handle all e
base_named (plain i) handle bound e all = search rules
base_named (struct members span) handle bound e all = search rules

pub last_named : IsNamed last_of
last_named (plain i) handle bound e all = search rules
last_named (struct members span) handle bound e all =
    one_below bound (map (λ (m : PlainMember). m.ty) members) (length members - 1) handle all (slice_get-map (λ (m : PlainMember). m.ty) members (length members - 1) ∙ e)

module _ (next : PlainInner → Option ℕ) (types : List PlainType) where
  pub goes_down : TypesGoBack types → IsNamed next → (i j : PlainInner) (handle : ℕ) → next i ≡ Some handle → inner_at types handle ≡ Some j → steps (next j) < steps (next i)
  goes_down back named i j handle n at = subst (λ o. steps (next j) < steps o) (sym n) (lower (next j) refl) where
    lower : (o : Option ℕ) → next j ≡ o → steps o < suc handle
    lower (Some other) e = let lt : other < handle = named j other handle e (back.each handle j at) in omega arith
    lower None e = omega arith

  -- ---- a chain has a unique end

  -- both chains have the same end
  pub record SameEnds (i start : PlainInner) : Type 0 where
    pub from : (end : PlainInner) → LeadsTo next types i end → LeadsTo next types start end
    pub to : (end : PlainInner) → LeadsTo next types start end → LeadsTo next types i end

  -- a chain continues if its next type exists
  passes_on : (i j : PlainInner) (handle : ℕ) → next i ≡ Some handle → inner_at types handle ≡ Some j → (end : PlainInner) → LeadsTo next types i end → LeadsTo next types j end
  passes_on i j handle n at end (ends m) = absurd (let x = n in let y = m in cc)
  passes_on i j handle n at end (goes {j = k} {handle = other} m there rest) =
      subst (λ x. LeadsTo next types x end) (let a = n in let b = m in let c = at in let d = there in cc) rest

  -- and ends if there is no next type
  pub stops : (i : PlainInner) (handle : ℕ) → next i ≡ Some handle → inner_at types handle ≡ None → (end : PlainInner) → LeadsTo next types i end → ⊥
  stops i handle n at end (ends m) = let x = n in let y = m in cc
  stops i handle n at end (goes {handle = other} m there rest) = let a = n in let b = m in let c = at in let d = there in cc

  pub one_end : (i a b : PlainInner) → LeadsTo next types i a → LeadsTo next types i b → a ≡ b
  one_end i a b (ends n) (ends m) = refl
  one_end i a b (ends n) (goes m there rest) = absurd (let x = n in let y = m in cc)
  one_end i a b (goes n there rest) (ends m) = absurd (let x = n in let y = m in cc)
  one_end i a b (goes {j = j} {handle = h} n there rest) other = one_end j a b rest (passes_on i j h n there b other)

  pub same_ends_more : (i j start : PlainInner) (handle : ℕ) → SameEnds i start → next i ≡ Some handle → inner_at types handle ≡ Some j → SameEnds j start
  same_ends_more i j start handle same n at =
      record {
        from = λ end rest. same.from end (goes n at rest);
        to = λ end whole. passes_on i j handle n at end (same.to end whole);
      }

-- ---- the scalar that a conversion changes

pub no_scalar : (types : List PlainType) (i end : PlainInner) (r : Option Scalar) → LeadsTo base_of types i end → r ≡ converted_scalar end
    → IfNone r ((s : Scalar) → ConvertsBy types i s → ⊥)
no_scalar types i end (Some s) leads is = search rules
no_scalar types i end None leads is =
    λ s by. let same : end ≡ by.0 = one_end base_of types i end by.0 leads by.1 in let none = is in let some = by.2 in let there = ap converted_scalar same in cc
