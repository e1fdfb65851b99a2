-- A call chain by its first step: a function's summary is its own effects, joined with the summaries of its callees.
use Rattle.std.proofs.Common.{◌≡◌, ◌⊎◌, ℕ, Option, Some, None, List, [], ◌∷◌, ◌++◌, refl, ap, sym, subst, ◌∙◌, inl, inr, slice_get}
use Rattle.ir_items.specs.judged.Plain.{PlainFunction, PlainModule}
use Rattle.spec_expressions.specs.declared.sampling.GlobalOrArgument.{GlobalOrArgument}
use Rattle.spec_expressions.specs.declared.sampling.GlobalOrArgument.TheVariants.{Global, Argument}
use Rattle.spec_expressions.specs.judged.Pairs.{SamplingPair}
use Rattle.spec_expressions.specs.judged.CallChains.{global_or_argument, Step, Calls, IsChain, chain_end, meaning_at_start, seen_through, Reaches, UsesDirectly, NamesGlobal, IsUnusedFrom, HasUse, Samples, HasPair}
use Rattle.spec_expressions.specs.found.Arguments.{argument_means}
use Rattle.spec_expressions.specs.judged.Summaries.{ComesUp}

pub end_of-append : (f : PlainFunction) (s : Step) (rest : List Step) → chain_end f (rest ++ s ∷ []) ≡ chain_end s.function rest
end_of-append f s [] = refl
end_of-append f s (t ∷ rest) = refl

pub chain_first : (m : PlainModule) (f : PlainFunction) (s : Step) (rest : List Step) → IsChain m f (rest ++ s ∷ []) → Calls m f s × IsChain m s.function rest
chain_first m f s [] c = (c.0, tt)
chain_first m f s (t ∷ rest) c =
    let r = chain_first m f s rest c.1 in
    (r.0, (subst (λ h. Calls m h t) (end_of-append f s rest) c.0, r.1))

pub chain_from : (m : PlainModule) (f : PlainFunction) (s : Step) (rest : List Step) → Calls m f s → IsChain m s.function rest → IsChain m f (rest ++ s ∷ [])
chain_from m f s [] c r = (c, tt)
chain_from m f s (t ∷ rest) c r = (subst (λ h. Calls m h t) (sym (end_of-append f s rest)) r.0, chain_from m f s rest c r.1)

argument_through : (a b meaning : ℕ → Option GlobalOrArgument) (outer : List ℕ) → ((e : ℕ) → a e ≡ seen_through meaning outer (b e)) → (o : Option ℕ) → argument_means a o ≡ seen_through meaning outer (argument_means b o)
argument_through a b meaning outer h None = refl
argument_through a b meaning outer h (Some e) = h e

through_through : (a b meaning : ℕ → Option GlobalOrArgument) (inner outer : List ℕ) → ((e : ℕ) → a e ≡ seen_through meaning outer (b e)) → (o : Option GlobalOrArgument) → seen_through a inner o ≡ seen_through meaning outer (seen_through b inner o)
through_through a b meaning inner outer h None = refl
through_through a b meaning inner outer h (Some (Global g)) = refl
through_through a b meaning inner outer h (Some (Argument i)) = argument_through a b meaning outer h (slice_get inner i)

pub bound-append : (f : PlainFunction) (s : Step) (rest : List Step) (e : ℕ) → meaning_at_start f (rest ++ s ∷ []) e ≡ seen_through (global_or_argument f.expressions) s.arguments (meaning_at_start s.function rest e)
bound-append f s [] e = refl
bound-append f s (t ∷ rest) e = through_through (meaning_at_start f (rest ++ s ∷ [])) (meaning_at_start s.function rest) (global_or_argument f.expressions) t.arguments s.arguments (bound-append f s rest) (global_or_argument t.function.expressions e)

-- a call chain with a step has a first one
record HasFirst (chain : List Step) : Type 0 where
  first : Step
  rest : List Step
  is : chain ≡ rest ++ first ∷ []

first_of : (s : Step) (chain : List Step) → HasFirst (s ∷ chain)
first_of s [] = record { first = s; rest = []; is = refl }
first_of s (t ∷ chain) = let r = first_of t chain in record { first = r.first; rest = s ∷ r.rest; is = ap (λ xs. s ∷ xs) r.is }

-- what a callee reaches, the caller reaches
pub reaches-from_call : (m : PlainModule) (f : PlainFunction) (P : PlainFunction → Type 0) (s : Step) → Calls m f s → Reaches m s.function P → Reaches m f P
reaches-from_call m f P s c r = record {
  chain = r.chain ++ s ∷ [];
  is_chain = chain_from m f s r.chain c r.is_chain;
  holds = subst P (sym (end_of-append f s r.chain)) r.holds;
}

pub reaches-here : (m : PlainModule) (f : PlainFunction) (P : PlainFunction → Type 0) → P f → Reaches m f P
reaches-here m f P h = record { chain = []; is_chain = tt; holds = h }

pub record CalleeReaches (m : PlainModule) (f : PlainFunction) (P : PlainFunction → Type 0) : Type 0 where
  pub step : Step
  pub calls : Calls m f step
  pub reaches : Reaches m step.function P

reaches_by : (m : PlainModule) (f : PlainFunction) (P : PlainFunction → Type 0) (chain : List Step) → IsChain m f chain → P (chain_end f chain) → P f ⊎ CalleeReaches m f P
reaches_by m f P [] c h = inl h
reaches_by m f P (s ∷ chain) c h =
    let v = first_of s chain in
    let c' : IsChain m f (v.rest ++ v.first ∷ []) = subst (IsChain m f) v.is c in
    let h' : P (chain_end f (v.rest ++ v.first ∷ [])) = subst (λ xs. P (chain_end f xs)) v.is h in
    let parts = chain_first m f v.first v.rest c' in
    inr (record {
      step = v.first;
      calls = parts.0;
      reaches = record { chain = v.rest; is_chain = parts.1; holds = subst P (end_of-append f v.first v.rest) h' };
    })

-- a function that f reaches is f, or is reached by a callee of f
pub reaches-cases : (m : PlainModule) (f : PlainFunction) (P : PlainFunction → Type 0) → Reaches m f P → P f ⊎ CalleeReaches m f P
reaches-cases m f P r = reaches_by m f P r.chain r.is_chain r.holds

-- ---- uses

-- a callee's use is also the caller's
pub use-from_call : (m : PlainModule) (f : PlainFunction) (s : Step) (g k : ℕ) → Calls m f s → HasUse m s.function g k → HasUse m f g k
use-from_call m f s g k c (inl r) = inl (reaches-from_call m f (UsesDirectly g k) s c r)
use-from_call m f s g k c (inr r) = inr (r.0, reaches-from_call m f (λ h. NamesGlobal g h × IsUnusedFrom m g h) s c r.1)

-- ---- sampling pairs

-- if a callee's expression denotes something in the caller, it denotes something in the callee
seen : (meaning : ℕ → Option GlobalOrArgument) (arguments : List ℕ) (below : Option GlobalOrArgument) (above : GlobalOrArgument) → seen_through meaning arguments below ≡ Some above → (a : GlobalOrArgument) × (below ≡ Some a)
seen meaning arguments None above e = cc (e)
seen meaning arguments (Some a) above e = (a, refl)

-- a callee's pair, with the arguments substituted, is also the caller's
pub pair-from_call : (m : PlainModule) (f : PlainFunction) (s : Step) (q p : SamplingPair) → Calls m f s → HasPair m s.function q → ComesUp f.expressions s.arguments q p → HasPair m f p
pair-from_call m f s q p c r u =
    let means : (e : ℕ) (a b : GlobalOrArgument) → meaning_at_start s.function r.chain e ≡ Some a → seen_through (global_or_argument f.expressions) s.arguments (Some a) ≡ Some b → meaning_at_start f (r.chain ++ s ∷ []) e ≡ Some b =
    λ e a b is gives. bound-append f s r.chain e ∙ (ap (seen_through (global_or_argument f.expressions) s.arguments) is ∙ gives) in
    let sampled : Samples (meaning_at_start f (r.chain ++ s ∷ [])) (chain_end s.function r.chain) p = record {
      expression = r.sampled.expression;
      image = r.sampled.image;
      sampler = r.sampled.sampler;
      sampling = r.sampled.sampling;
      image_means = means r.sampled.image q.0 p.0 r.sampled.image_means u.image;
      sampler_means = means r.sampled.sampler q.1 p.1 r.sampled.sampler_means u.sampler;
    } in
    record {
      chain = r.chain ++ s ∷ [];
      is_chain = chain_from m f s r.chain c r.is_chain;
      sampled = subst (λ h. Samples (meaning_at_start f (r.chain ++ s ∷ [])) h p) (sym (end_of-append f s r.chain)) sampled;
    }

pub pair-here : (m : PlainModule) (f : PlainFunction) (p : SamplingPair) → Samples (global_or_argument f.expressions) f p → HasPair m f p
pair-here m f p h = record { chain = []; is_chain = tt; sampled = h }

pub record CalleePair (m : PlainModule) (f : PlainFunction) (p : SamplingPair) : Type 0 where
  pub step : Step
  pub calls : Calls m f step
  pub pair : SamplingPair
  pub below : HasPair m step.function pair
  pub gives : ComesUp f.expressions step.arguments pair p

-- a pair that is sampled after a call is the callee's
comes : (m : PlainModule) (f : PlainFunction) (s : Step) (rest : List Step) (p : SamplingPair) → Calls m f s → IsChain m s.function rest → Samples (meaning_at_start f (rest ++ s ∷ [])) (chain_end s.function rest) p → CalleePair m f p
comes m f s rest p c r h =
    let image : seen_through (global_or_argument f.expressions) s.arguments (meaning_at_start s.function rest h.image) ≡ Some p.0 = sym (bound-append f s rest h.image) ∙ h.image_means in
    let sampler : seen_through (global_or_argument f.expressions) s.arguments (meaning_at_start s.function rest h.sampler) ≡ Some p.1 = sym (bound-append f s rest h.sampler) ∙ h.sampler_means in
    let a = seen (global_or_argument f.expressions) s.arguments (meaning_at_start s.function rest h.image) p.0 image in
    let b = seen (global_or_argument f.expressions) s.arguments (meaning_at_start s.function rest h.sampler) p.1 sampler in
    record {
      step = s;
      calls = c;
      pair = (a.0, b.0);
      below = record {
        chain = rest;
        is_chain = r;
        sampled = record { expression = h.expression; image = h.image; sampler = h.sampler; sampling = h.sampling; image_means = a.1; sampler_means = b.1 };
      };
      gives = record {
        image = subst (λ o. seen_through (global_or_argument f.expressions) s.arguments o ≡ Some p.0) a.1 image;
        sampler = subst (λ o. seen_through (global_or_argument f.expressions) s.arguments o ≡ Some p.1) b.1 sampler;
      };
    }

pair_over : (m : PlainModule) (f : PlainFunction) (p : SamplingPair) (chain : List Step) → IsChain m f chain → Samples (meaning_at_start f chain) (chain_end f chain) p → Samples (global_or_argument f.expressions) f p ⊎ CalleePair m f p
pair_over m f p [] c h = inl h
pair_over m f p (s ∷ chain) c h =
    let v = first_of s chain in
    let c' : IsChain m f (v.rest ++ v.first ∷ []) = subst (IsChain m f) v.is c in
    let h' : Samples (meaning_at_start f (v.rest ++ v.first ∷ [])) (chain_end f (v.rest ++ v.first ∷ [])) p = subst (λ xs. Samples (meaning_at_start f xs) (chain_end f xs) p) v.is h in
    let h'' : Samples (meaning_at_start f (v.rest ++ v.first ∷ [])) (chain_end v.first.function v.rest) p = subst (λ g. Samples (meaning_at_start f (v.rest ++ v.first ∷ [])) g p) (end_of-append f v.first v.rest) h' in
    let parts = chain_first m f v.first v.rest c' in
    inr (comes m f v.first v.rest p parts.0 parts.1 h'')

-- a pair is the function's own, or a callee's
pub pair-cases : (m : PlainModule) (f : PlainFunction) (p : SamplingPair) → HasPair m f p → Samples (global_or_argument f.expressions) f p ⊎ CalleePair m f p
pair-cases m f p r = pair_over m f p r.chain r.is_chain r.sampled
