-- Call chains, and what a function has over all of them, are alike.
use Rattle.std.proofs.Common.{◌≡◌, inl, inr, ℕ, Option, Some, List, [], ◌∷◌, ◌++◌, slice_get, refl, sym, ap, subst, ◌∙◌}
use Rattle.ir_items.specs.judged.Plain.{PlainFunction, PlainModule}
use Rattle.ir_types.specs.judged.ExpressionPlain.{plain}
use Rattle.ir_types.specs.declared.expressions.Expression.TheVariants.{GlobalVariable}
use Rattle.typing_rules.specs.judged.Laws.{IsAmong}
use Rattle.spec_expressions.specs.judged.Pairs.{SamplingPair}
use Rattle.spec_expressions.specs.declared.sampling.GlobalOrArgument.{GlobalOrArgument}
use Rattle.spec_expressions.specs.judged.Effects.{takes, samples, runs, expressions_effects, effects_of}
use Rattle.spec_expressions.specs.judged.CallChains.{global_or_argument, Step, Calls, chain_end, IsChain, seen_through, meaning_at_start, Reaches, UsesDirectly, NamesGlobal, IsUnusedFrom, HasUse, HasPair}
use Rattle.spec_expressions.specs.judged.Values.{StartsAt}
use Rattle.judgement_laws.specs.judged.Like.{LikeFunction, LikeModule}
use Rattle.judgement_laws.proofs.Likeness.{function_back, module_back}

pub same_expressions : {f g : PlainFunction} → LikeFunction f g → f.expressions ≡ g.expressions
same_expressions l = sym (ap (λ x. x.expressions) l.rest)

pub same_effects : {f g : PlainFunction} → LikeFunction f g → effects_of f ≡ effects_of g
same_effects l = λ i. expressions_effects 0 (same_expressions l i) ++ l.body.effects i

-- the step in the other module
pub record StepMoves (n : PlainModule) (g : PlainFunction) (s : Step) : Type 0 where
  pub step : Step
  pub calls : Calls n g step
  pub arguments : step.arguments ≡ s.arguments
  pub function : LikeFunction s.function step.function

pub step_moves : {m n : PlainModule} {f g : PlainFunction} → LikeModule m n → LikeFunction f g → (s : Step) → Calls m f s → StepMoves n g s
step_moves {m} {n} {f} {g} l k s c =
    let found = l.functions.there c.callee s.function c.found in
    record {
      step = record { at = s.at; arguments = s.arguments; function = found.0 };
      calls = record { callee = c.callee; call = subst (λ xs. slice_get xs s.at ≡ Some (runs c.callee s.arguments)) (same_effects k) c.call; found = found.1 };
      arguments = refl;
      function = found.2;
    }

pub record ChainMoves (n : PlainModule) (f g : PlainFunction) (chain : List Step) : Type 0 where
  pub steps : List Step
  pub is_chain : IsChain n g steps
  pub ends : LikeFunction (chain_end f chain) (chain_end g steps)
  pub means : (e : ℕ) → meaning_at_start f chain e ≡ meaning_at_start g steps e

seen_alike : (a b : ℕ → Option GlobalOrArgument) → ((e : ℕ) → a e ≡ b e) → a ≡ b
seen_alike a b h = λ i e. h e i

pub chain_moves : {m n : PlainModule} {f g : PlainFunction} → LikeModule m n → LikeFunction f g → (chain : List Step) → IsChain m f chain → ChainMoves n f g chain
chain_moves l k [] c = record { steps = []; is_chain = tt; ends = k; means = λ e. ap (λ xs. global_or_argument xs e) (same_expressions k) }
chain_moves {f = f} {g = g} l k (s ∷ before) c =
    let first = chain_moves l k before c.1 in
    let one = step_moves l first.ends s c.0 in
    record {
      steps = one.step ∷ first.steps;
      is_chain = (one.calls, first.is_chain);
      ends = one.function;
      means = λ e i. seen_through (seen_alike (meaning_at_start f before) (meaning_at_start g first.steps) first.means i) (sym one.arguments i) (global_or_argument (same_expressions one.function i) e);
    }

pub reaches_moves : {m n : PlainModule} {f g : PlainFunction} → LikeModule m n → LikeFunction f g → (P Q : PlainFunction → Type 0)
    → ((a b : PlainFunction) → LikeFunction a b → P a → Q b) → Reaches m f P → Reaches n g Q
reaches_moves l k P Q moves r =
    let c = chain_moves l k r.chain r.is_chain in
    record { chain = c.steps; is_chain = c.is_chain; holds = moves _ _ c.ends r.holds }

uses_directly_moves : (g k : ℕ) (a b : PlainFunction) → LikeFunction a b → UsesDirectly g k a → UsesDirectly g k b
uses_directly_moves g k a b l u = record {
  operand = u.operand;
  taken = subst (λ xs. IsAmong (takes u.operand) xs) (same_effects l) u.taken;
  starts = subst (λ xs. StartsAt xs u.operand.handle g) (same_expressions l) u.starts;
  bit = u.bit;
}

pub names_moves : (g : ℕ) (a b : PlainFunction) → LikeFunction a b → NamesGlobal g a → NamesGlobal g b
names_moves g a b l x = (x.0, subst (λ xs. slice_get xs x.0 ≡ Some (plain (GlobalVariable g))) (same_expressions l) x.1)

unused_moves : {m n : PlainModule} → LikeModule m n → (g : ℕ) (a b : PlainFunction) → LikeFunction a b → IsUnusedFrom m g a → IsUnusedFrom n g b
unused_moves l g a b k none bit r = none bit (reaches_moves (module_back l) (function_back k) (UsesDirectly g bit) (UsesDirectly g bit) (uses_directly_moves g bit) r)

pub use_moves : {m n : PlainModule} {f h : PlainFunction} → LikeModule m n → LikeFunction f h → (g k : ℕ) → HasUse m f g k → HasUse n h g k
use_moves l k g bit (inl r) = inl (reaches_moves l k (UsesDirectly g bit) (UsesDirectly g bit) (uses_directly_moves g bit) r)
use_moves {m} {n} l k g bit (inr x) =
    inr (x.0, reaches_moves l k (λ h. NamesGlobal g h × IsUnusedFrom m g h) (λ h. NamesGlobal g h × IsUnusedFrom n g h) (λ a b like y. (names_moves g a b like y.0, unused_moves l g a b like y.1)) x.1)

pub pair_moves : {m n : PlainModule} {f g : PlainFunction} → LikeModule m n → LikeFunction f g → (p : SamplingPair) → HasPair m f p → HasPair n g p
pair_moves l k p h =
    let c = chain_moves l k h.chain h.is_chain in
    record {
      chain = c.steps;
      is_chain = c.is_chain;
      sampled = record {
        expression = h.sampled.expression;
        image = h.sampled.image;
        sampler = h.sampled.sampler;
        sampling = subst (λ xs. IsAmong (samples h.sampled.expression h.sampled.image h.sampled.sampler) xs) (same_effects c.ends) h.sampled.sampling;
        image_means = sym (c.means h.sampled.image) ∙ h.sampled.image_means;
        sampler_means = sym (c.means h.sampled.sampler) ∙ h.sampled.sampler_means;
      };
    }
