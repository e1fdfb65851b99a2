-- When the events of a run are good.
use Rattle.std.specs.Prelude.{◌≡◌, ◌⊎◌, ◌<◌, ◌≤◌, ℕ, List, length, Option, Some, None, IsSome, IsSomeAnd, Contains, slice_get}
use Rattle.ir_flags.specs.Sets.{Has}
use Rattle.ir_flags.specs.declared.stages.ShaderStages.{ShaderStages}
use Rattle.ir_blocks.specs.judged.Places.{OccursAt}
use Rattle.ir_blocks.specs.judged.Plain.{PlainStatement}
use Rattle.ir_items.specs.judged.Plain.{PlainArgument, PlainFunction, PlainModule}
use Rattle.spec_expressions.specs.declared.sampling.GlobalOrArgument.TheVariants.{Global}
use Rattle.typing_forms.specs.judged.Forms.{form_of_type}
use Rattle.spec_expressions.specs.judged.CallChains.{Reaches, NamesGlobal, HasPair}
use Rattle.spec_expressions.specs.judged.Typing.{HasType}
use Rattle.spec_statements.specs.judged.ExpressionStages.{stages_of}
use Rattle.spec_statements.specs.judged.Scope.{PreEmitted}
use Rattle.spec_statements.specs.judged.Stages.{statement_stages}
use Rattle.spec_runs.specs.judged.Events.{Event, entered, executed, introduced_expression, named, sampled, used, passed, returned, fell_off, escaped}
use Rattle.spec_runs.specs.judged.FinalSwitches.{LeavesFinalSwitch}
use Rattle.spec_runs.specs.judged.Scoping.{Scoping, IsUsable}

-- ---- depth

-- no call depth is greater than this
abbrev pub DepthOK : (most : ℕ) → Event → Type 0
DepthOK most (entered depth) = depth ≤ most
DepthOK most _ = Unit {0}

-- ---- types

-- A call passes as many arguments as the callee declares, each of the declared type.
pub record ArgumentsOK (m : PlainModule) (caller callee : PlainFunction) (arguments : List ℕ) : Type 0 where
  pub many : length arguments ≡ length callee.arguments
  pub each : (i e : ℕ) (a : PlainArgument) → slice_get arguments i ≡ Some e → slice_get callee.arguments i ≡ Some a → HasType m caller e (form_of_type m.types a.ty)

-- a value of the declared type, or none if none is declared
abbrev pub ValueOK : PlainModule → PlainFunction → Option ℕ → Type 0
ValueOK m f None = f.result ≡ None
ValueOK m f (Some e) = IsSomeAnd f.result (λ r. HasType m f e (form_of_type m.types r.ty))

abbrev pub TypesOK : PlainModule → Event → Type 0
TypesOK m (passed caller callee arguments) = ArgumentsOK m caller callee arguments
TypesOK m (returned f value) = ValueOK m f value
TypesOK m _ = Unit {0}

-- ---- operands

-- An operand may be used where it is, under the given notion of scope; strict scope excludes what a continue skipped.
abbrev pub UsesOK : Scoping → Event → Type 0
UsesOK g (used f live skipped e) = IsUsable g f live skipped e
UsesOK g _ = Unit {0}

-- the operand is always in scope, live, or skipped by a `Continue`
abbrev pub LiveOK : Event → Type 0
LiveOK (used f live skipped e) = PreEmitted f e ⊎ (Contains live e ⊎ Contains skipped e)
LiveOK _ = Unit {0}

-- the operand is always in scope or live; skipped operands are not allowed
abbrev pub SurelyLiveOK : Event → Type 0
SurelyLiveOK (used f live skipped e) = PreEmitted f e ⊎ Contains live e
SurelyLiveOK _ = Unit {0}

-- ---- global variables

-- a global variable that is referred to is one of the module, and a function reachable from the run's start refers to it
abbrev pub NamedOK : PlainModule → PlainFunction → Event → Type 0
NamedOK m f (named g) = (g < length m.globals) × Reaches m f (NamesGlobal g)
NamedOK m f _ = Unit {0}

-- a sampled pair is one of that function's
abbrev pub SampledOK : PlainModule → PlainFunction → Event → Type 0
SampledOK m f (sampled image sampler) = HasPair m f (Global image, Global sampler)
SampledOK m f _ = Unit {0}

-- ---- stages

-- The statement or expression exists, and the stage may run it. `subgroups` are the stages that support subgroup operations, and
-- `functions` has, for each function of the module, the stages that may run it; `stage` is a singleton set.
abbrev pub StagesOK : (subgroups : ShaderStages) → (functions : List ShaderStages) → (stage : ℕ) → Event → Type 0
StagesOK subgroups functions stage (executed f p) = (s : PlainStatement) × OccursAt f.body p s × Has (statement_stages subgroups functions s).0 stage
StagesOK subgroups functions stage (introduced_expression f e) = IsSomeAnd (slice_get f.expressions e) (λ x. Has (stages_of functions x).0 stage)
StagesOK subgroups functions stage _ = Unit {0}

-- ---- ends of functions

-- a function with a result reaches its end only if the last executed statement is a break out of a final switch
abbrev pub FallsOK : Event → Type 0
FallsOK (fell_off f last) = IsSome f.result → IsSomeAnd last (LeavesFinalSwitch f.body)
FallsOK _ = Unit {0}

-- no escapes
abbrev pub NoEscape : Event → Type 0
NoEscape escaped = ⊥
NoEscape _ = Unit {0}
