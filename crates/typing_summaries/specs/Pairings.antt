-- Sampled pairs, and how each effect of a function changes them.
use Rattle.std.specs.Prelude.{ℕ, List, [], ◌∷◌, Option, Some, None, slice_get}
use Rattle.indexmap.specs.IndexSet.{insert_key}
use Rattle.ir_types.specs.judged.ExpressionPlain.{PlainExpression, plain}
use Rattle.ir_types.specs.declared.expressions.Expression.TheVariants.{ImageSample}
use Rattle.spec_expressions.specs.declared.sampling.GlobalOrArgument.{GlobalOrArgument}
use Rattle.spec_expressions.specs.declared.sampling.GlobalOrArgument.TheVariants.{Global, Argument}
use Rattle.spec_expressions.specs.judged.Pairs.{SamplingPair, pair_eq}
use Rattle.spec_expressions.specs.judged.CallChains.{global_or_argument, seen_through}
use Rattle.typing_summaries.specs.Listed.{listed}
use Rattle.typing_summaries.specs.declared.pairs.Sampled.{Sampled}

-- the pairs, and an image or sampler operand of a wrong form, if there is one
pub record Paired : Type 0 where
  pub pairs : List SamplingPair
  pub wrong : Option ℕ

abbrev pub paired : Sampled → Paired
paired s = record { pairs = listed s.pairs; wrong = s.wrong }

abbrev pub with_pair : SamplingPair → Paired → Paired
with_pair p t = record { pairs = insert_key pair_eq t.pairs p; wrong = t.wrong }

abbrev pub first_wrong : Option ℕ → Option ℕ → Option ℕ
first_wrong (Some e) other = Some e
first_wrong None other = other

abbrev pub with_wrong : Option ℕ → Paired → Paired
with_wrong e t = record { pairs = t.pairs; wrong = first_wrong t.wrong e }

-- an operand is at fault if it denotes nothing
abbrev pub part_wrong : Option ℕ → Option GlobalOrArgument → Paired → Paired
part_wrong wrong None t = with_wrong wrong t
part_wrong wrong (Some part) t = t

-- an image and a sampler with these denotations, and the operands at fault if they have none
abbrev pub pair_one : (wrong_image wrong_sampler : Option ℕ) → (image sampler : Option GlobalOrArgument) → Paired → Paired
pair_one wi ws (Some image) (Some sampler) t = with_pair (image, sampler) t
pair_one wi ws (Some image) None t = with_wrong ws t
pair_one wi ws None sampler t = part_wrong ws sampler (with_wrong wi t)

-- the expression passed for an argument
abbrev pub passed_for : List ℕ → GlobalOrArgument → Option ℕ
passed_for arguments (Global g) = None
passed_for arguments (Argument number) = slice_get arguments number

-- a callee's pair, with these arguments
abbrev pub pass_up : List PlainExpression → List ℕ → SamplingPair → Paired → Paired
pass_up expressions arguments p t =
    pair_one (passed_for arguments p.0) (passed_for arguments p.1)
    (seen_through (global_or_argument expressions) arguments (Some p.0)) (seen_through (global_or_argument expressions) arguments (Some p.1)) t

abbrev pub pass_all_up : List PlainExpression → List ℕ → List SamplingPair → Paired → Paired
pass_all_up expressions arguments [] t = t
pass_all_up expressions arguments (p ∷ rest) t = pass_all_up expressions arguments rest (pass_up expressions arguments p t)

-- the sample that the expression at an index is, if it is one
abbrev pub sample_one : List PlainExpression → ℕ → PlainExpression → Paired → Paired
sample_one expressions e (plain (ImageSample image sampler gathers coordinate array_index offset level depth_ref clamp_to_edge)) t =
    pair_one (Some e) (Some e) (global_or_argument expressions image) (global_or_argument expressions sampler) t
sample_one expressions e _ t = t
