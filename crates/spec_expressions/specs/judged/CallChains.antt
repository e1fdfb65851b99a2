-- Call chains, what expressions denote through them, and a function's effects over all of them.
use Rattle.std.specs.Prelude.{◌≡◌, ◌⊎◌, ℕ, List, [], ◌∷◌, Option, Some, None, slice_get, ⊤, option_and_then}
use Rattle.std.specs.Int.{bit_at}
use Rattle.typing_layout.specs.IrTypes.{PlainExpression, plain_expression as plain, GlobalVariable, FunctionArgument, Access, AccessIndex}
use Rattle.ir_items.specs.judged.Plain.{PlainFunction, PlainModule}
use Rattle.typing_rules.specs.judged.Laws.{IsAmong}
use Rattle.spec_expressions.specs.declared.global_use.TheConstants.GlobalUse.{QUERY}
use Rattle.spec_expressions.specs.declared.sampling.GlobalOrArgument.{GlobalOrArgument}
use Rattle.spec_expressions.specs.declared.sampling.GlobalOrArgument.TheVariants.{Global, Argument}
use Rattle.spec_expressions.specs.judged.Pairs.{SamplingPair}
use Rattle.spec_expressions.specs.judged.OperandUses.{Operand}
use Rattle.spec_expressions.specs.judged.Effects.{takes, samples, runs, discards, effects_of}
use Rattle.spec_expressions.specs.judged.Values.{StartsAt}

-- ---- denotations of expressions

-- the denotation of the base of an access
abbrev pub base_denotes : Option PlainExpression → Option GlobalOrArgument
base_denotes o = elim o [ Some (plain (GlobalVariable g)) ↦ Some (Global g) | _ ↦ None ]

abbrev pub denotes : List PlainExpression → Option PlainExpression → Option GlobalOrArgument
denotes expressions (Some (plain (GlobalVariable g))) = Some (Global g)
denotes expressions (Some (plain (FunctionArgument number))) = Some (Argument number)
denotes expressions (Some (plain (Access base index))) = base_denotes (slice_get expressions base)
denotes expressions (Some (plain (AccessIndex base index))) = base_denotes (slice_get expressions base)
denotes expressions _ = None

-- what the expression at an index denotes in its function: a global variable, if it is one or an access directly on
-- one, or an argument
abbrev pub global_or_argument : List PlainExpression → ℕ → Option GlobalOrArgument
global_or_argument expressions e = denotes expressions (slice_get expressions e)

-- ---- call chains

-- A step of a call chain: which effect of the current function is the call, its arguments, and its callee.
pub record Step : Type 0 where
  pub at : ℕ
  pub arguments : List ℕ
  pub function : PlainFunction

-- the effect of f at that index is a call of that function with these arguments
pub record Calls (m : PlainModule) (f : PlainFunction) (s : Step) : Type 0 where
  pub callee : ℕ
  pub call : slice_get (effects_of f) s.at ≡ Some (runs callee s.arguments)
  pub found : slice_get m.functions callee ≡ Some s.function

-- the function that a call chain from f reaches; the last step is first in the list
abbrev pub chain_end : PlainFunction → List Step → PlainFunction
chain_end f [] = f
chain_end f (s ∷ before) = s.function

-- each step is a call statement of the function reached before it
abbrev pub IsChain : PlainModule → PlainFunction → List Step → Type 0
IsChain m f [] = ⊤
IsChain m f (s ∷ before) = Calls m (chain_end f before) s × IsChain m f before

-- the denotation of a callee's part in a caller, with these arguments
abbrev pub seen_through : (meaning : ℕ → Option GlobalOrArgument) → (arguments : List ℕ) → Option GlobalOrArgument → Option GlobalOrArgument
seen_through meaning arguments None = None
seen_through meaning arguments (Some (Global g)) = Some (Global g)
seen_through meaning arguments (Some (Argument number)) = option_and_then meaning (slice_get arguments number)

-- what expression e of the function reached denotes at the start of the chain
abbrev pub meaning_at_start : PlainFunction → List Step → ℕ → Option GlobalOrArgument
meaning_at_start f [] e = global_or_argument f.expressions e
meaning_at_start f (s ∷ before) e = seen_through (meaning_at_start f before) s.arguments (global_or_argument s.function.expressions e)

-- some function reachable from f satisfies it
pub record Reaches (m : PlainModule) (f : PlainFunction) (P : PlainFunction → Type 0) : Type 0 where
  pub chain : List Step
  pub is_chain : IsChain m f chain
  pub holds : P (chain_end f chain)

-- ---- uses

-- an operand of the function uses the global variable, with this flag
pub record UsesDirectly (g k : ℕ) (f : PlainFunction) : Type 0 where
  pub operand : Operand
  pub taken : IsAmong (takes operand) (effects_of f)
  pub starts : StartsAt f.expressions operand.handle g
  pub bit : bit_at operand.use_bits k ≡ 1

-- an expression of the function is the global variable
abbrev pub NamesGlobal : ℕ → PlainFunction → Type 0
NamesGlobal g f = (e : ℕ) × (slice_get f.expressions e ≡ Some (plain (GlobalVariable g)))

-- no function reachable from it uses the global variable directly
abbrev pub IsUnusedFrom : PlainModule → ℕ → PlainFunction → Type 0
IsUnusedFrom m g f = (k : ℕ) → Reaches m f (UsesDirectly g k) → ⊥

-- The function uses the global variable with this bit: a function reachable from it does so directly, or, for QUERY, one reachable
-- refers to it and no function reachable from that one uses it directly.
abbrev pub HasUse : PlainModule → PlainFunction → (g k : ℕ) → Type 0
HasUse m f g k = Reaches m f (UsesDirectly g k) ⊎ ((bit_at QUERY.0 k ≡ 1) × Reaches m f (λ h. NamesGlobal g h × IsUnusedFrom m g h))

-- ---- sampling pairs

-- an expression of the function samples an image with a sampler that denote these, given the denotations of its expressions
pub record Samples (meaning : ℕ → Option GlobalOrArgument) (f : PlainFunction) (p : SamplingPair) : Type 0 where
  pub expression : ℕ
  pub image : ℕ
  pub sampler : ℕ
  pub sampling : IsAmong (samples expression image sampler) (effects_of f)
  pub image_means : meaning image ≡ Some p.0
  pub sampler_means : meaning sampler ≡ Some p.1

-- the pair is sampled by a function at the end of a call chain from f
pub record HasPair (m : PlainModule) (f : PlainFunction) (p : SamplingPair) : Type 0 where
  pub chain : List Step
  pub is_chain : IsChain m f chain
  pub sampled : Samples (meaning_at_start f chain) (chain_end f chain) p

-- ---- discards

abbrev pub Discards : PlainFunction → Type 0
Discards f = IsAmong discards (effects_of f)

abbrev pub MayKill : PlainModule → PlainFunction → Type 0
MayKill m f = Reaches m f Discards
