-- Laws of every valid module.
use Rattle.std.specs.Prelude.{◌≡◌, ◌<◌, ◌++◌, ℕ, [], ◌∷◌, Bool, false, IsTrue, List, Option, Some, is_some, length, slice_get, slice_index_or}
use Rattle.ir_blocks.specs.judged.Places.{Place, OccursAt}
use Rattle.ir_blocks.specs.judged.Plain.{PlainBlock, PlainStatement, atomic, call, operation}
use Rattle.ir_blocks.specs.declared.operations.AtomicFunction.{AtomicFunction}
use Rattle.ir_types.specs.judged.ExpressionPlain.{plain}
use Rattle.ir_types.specs.declared.expressions.Expression.TheVariants as x
use Rattle.ir_flags.specs.Sets.{Has}
use Rattle.ir_flags.specs.declared.settings.TheConstants.ValidationFlags.{BINDINGS, BLOCKS, EXPRESSIONS}
use Rattle.ir_flags.specs.declared.settings.Settings.{Settings}
use Rattle.ir_items.specs.judged.Plain.{PlainEntry, PlainFunction, PlainModule}
use Rattle.ir_kinds.specs.declared.bindings.ResourceBinding.{ResourceBinding}
use Rattle.spec_expressions.specs.judged.CallChains.{Step, IsChain, chain_end}
use Rattle.spec_expressions.specs.judged.Effects.{runs, effects_of}
use Rattle.spec_expressions.specs.judged.Summaries.{no_use}
use Rattle.spec_interface.specs.judged.Modules.{EntriesOK}
use Rattle.spec_interface.specs.judged.Payloads.{binding_at}
use Rattle.spec_interface.specs.judged.Uses.{mesh_output}
use Rattle.spec_statements.specs.judged.ModuleFunctions.{FunctionsOK}
use Rattle.spec_expressions.specs.judged.ModuleHandles.{HandlesOK}
use Rattle.judgement.specs.judged.Lines.{is_own, is_used}
use Rattle.judgement.specs.judged.Reports.{IsEntryReport}
use Rattle.spec_expressions.specs.judged.Operands.{comparand}

-- ---- call chains

-- a chain may begin at this function, which has this index, or is an entry point's and comes after all functions
pub data BeginsAt (m : PlainModule) : PlainFunction → ℕ → Type 0 where
  at_function : {f : PlainFunction} {index : ℕ} → slice_get m.functions index ≡ Some f → BeginsAt m f index
  at_entry : (k : ℕ) {e : PlainEntry} → slice_get m.entries k ≡ Some e → BeginsAt m e.function (length m.functions)

-- the indices of the functions that a chain from f calls, the last one first
abbrev pub AreRun : PlainModule → PlainFunction → List Step → List ℕ → Type 0
AreRun m f [] [] = Unit {0}
AreRun m f [] (i ∷ earlier) = ⊥
AreRun m f (s ∷ before) [] = ⊥
AreRun m f (s ∷ before) (i ∷ earlier) = (slice_get (effects_of (chain_end f before)) s.at ≡ Some (runs i s.arguments)) × (slice_get m.functions i ≡ Some s.function) × AreRun m f before earlier

-- each is less than the next one in the list
abbrev pub Rise : List ℕ → Type 0
Rise [] = Unit {0}
Rise (i ∷ []) = Unit {0}
Rise (i ∷ j ∷ rest) = (i < j) × Rise (j ∷ rest)

-- the functions that a chain calls, followed by its first caller: from the last one back their indices increase
pub record Falls (m : PlainModule) (f : PlainFunction) (index : ℕ) (chain : List Step) : Type 0 where
  pub indexes : List ℕ
  pub are : AreRun m f chain indexes
  pub rise : Rise (indexes ++ index ∷ [])

abbrev pub CallsFall : Type 0
CallsFall = (m : PlainModule) → HandlesOK m → (f : PlainFunction) (index : ℕ) → BeginsAt m f index → (chain : List Step) → IsChain m f chain → Falls m f index chain

-- ---- bindings

-- the report of the entry point has a line for the variable: its payload, its mesh output or another one
pub data IsReported (m : PlainModule) (number : ℕ) (e : PlainEntry) (lines : List ℕ) (r : IsEntryReport m number e lines) (g : ℕ) : Type 0 where
  as_payload : e.payload ≡ Some g → IsReported m number e lines r g
  as_output : mesh_output e ≡ Some g → IsReported m number e lines r g
  as_other : is_own e g ≡ false → IsTrue (is_used (slice_index_or r.uses g no_use)) → IsReported m number e lines r g

abbrev pub BindingsDiffer : Type 0
BindingsDiffer =
    (s : Settings) (m : PlainModule) → EntriesOK s m → Has s.flags.0 BINDINGS.0 → (number : ℕ) (e : PlainEntry) → slice_get m.entries number ≡ Some e → (lines : List ℕ) (r : IsEntryReport m number e lines)
    → (g h : ℕ) (b : ResourceBinding) → IsReported m number e lines r g → IsReported m number e lines r h → binding_at m g ≡ Some b → binding_at m h ≡ Some b → g ≡ h

-- ---- results of statements

-- the statement is a call of this function whose result is the expression
abbrev pub IsCallOf : (function : ℕ) → (e : ℕ) → PlainStatement → Type 0
IsCallOf function e s = (arguments : List ℕ) × (s ≡ call function arguments (Some e))

-- it is an atomic operation whose result is the expression, and is a compare-exchange or not
abbrev pub IsAtomicOf : (comparison : Bool) → (e : ℕ) → PlainStatement → Type 0
IsAtomicOf comparison e s =
    (pointer : ℕ) × (done : AtomicFunction) × (value : ℕ) × (s ≡ operation (atomic pointer done value (Some e))) × (is_some (comparand done) ≡ comparison)

-- exactly one statement of the body is such
pub record OccursOnce (body : PlainBlock) (IsOne : PlainStatement → Type 0) : Type 0 where
  pub place : Place
  pub statement : PlainStatement
  pub stands : OccursAt body place statement
  pub is : IsOne statement
  pub alone : (other : Place) (s : PlainStatement) → OccursAt body other s → IsOne s → other ≡ place

pub record EachAnswered (f : PlainFunction) : Type 0 where
  pub calls : (e function : ℕ) → slice_get f.expressions e ≡ Some (plain (x.CallResult function)) → OccursOnce f.body (IsCallOf function e)
  pub atomics : (e type : ℕ) (comparison : Bool) → slice_get f.expressions e ≡ Some (plain (x.AtomicResult type comparison)) → OccursOnce f.body (IsAtomicOf comparison e)

abbrev pub AnsweredByOne : Type 0
AnsweredByOne =
    (s : Settings) (m : PlainModule) → FunctionsOK s m → Has s.flags.0 BLOCKS.0 → Has s.flags.0 EXPRESSIONS.0 → (index : ℕ) (f : PlainFunction) → slice_get m.functions index ≡ Some f → EachAnswered f

-- and for the functions of entry points
abbrev pub AnsweredByOneInEntries : Type 0
AnsweredByOneInEntries =
    (s : Settings) (m : PlainModule) → EntriesOK s m → Has s.flags.0 BLOCKS.0 → Has s.flags.0 EXPRESSIONS.0 → (number : ℕ) (e : PlainEntry) → slice_get m.entries number ≡ Some e → EachAnswered e.function
