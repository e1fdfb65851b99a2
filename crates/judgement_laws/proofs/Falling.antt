-- Call chains call functions of decreasing index.
use Rattle.std.proofs.Common.{◌≡◌, ◌<◌, ◌++◌, ℕ, List, [], ◌∷◌, Some, length, slice_get}
use Rattle.ir_items.specs.judged.Plain.{PlainFunction, PlainModule}
use Rattle.typing_handles.proofs.Ordered.{order_gives_conditions}
use Rattle.judgement_laws.specs.found.AcceptedLaws.{BeginsAt, at_function, at_entry, AreRun, Rise, CallsFall}
use Rattle.spec_expressions.proofs.Members.{among-get}
use Rattle.spec_expressions.specs.judged.CallChains.{Step, IsChain, chain_end}
use Rattle.spec_expressions.specs.judged.Effects.{runs, effects_of}
use Rattle.spec_statements.proofs.CallLaws.{calls_precede}
use Rattle.spec_expressions.specs.judged.FunctionHandles.{CalleesPrecede}
use Rattle.spec_expressions.specs.judged.ModuleHandles.{HandlesOK}

-- the last one, or the beginning of the chain
abbrev head_or : List ℕ → ℕ → ℕ
head_or [] index = index
head_or (i ∷ earlier) index = i

rise_more : (i index : ℕ) (earlier : List ℕ) → i < head_or earlier index → Rise (earlier ++ index ∷ []) → Rise (i ∷ (earlier ++ index ∷ []))
rise_more i index [] lt rise = (lt, tt)
rise_more i index (j ∷ rest) lt rise = (lt, rise)

module _ (m : PlainModule) (handles : HandlesOK m) where
  precede_at : (f : PlainFunction) (index : ℕ) → BeginsAt m f index → CalleesPrecede index f
  precede_at _ _ (at_function {f = f} {index = index} at) = ((order_gives_conditions m handles).functions index f at).callees
  precede_at _ _ (at_entry k {e = e} at) = ((order_gives_conditions m handles).entries k e at).callees

  module _ (f : PlainFunction) (index : ℕ) (begins : BeginsAt m f index) where
    -- the functions that a chain calls, and those that its last one references, which precede them
    record Along (chain : List Step) : Type 0 where
      indexes : List ℕ
      are : AreRun m f chain indexes
      rise : Rise (indexes ++ index ∷ [])
      precede : CalleesPrecede (head_or indexes index) (chain_end f chain)

    along : (chain : List Step) → IsChain m f chain → Along chain
    along [] is = record { indexes = []; are = tt; rise = tt; precede = precede_at f index begins }
    along (s ∷ before) is =
        let a = along before is.1 in
        let c = is.0 in
        let lt : c.callee < head_or a.indexes index = calls_precede (chain_end f before) (head_or a.indexes index) a.precede c.callee s.arguments (among-get (effects_of (chain_end f before)) s.at (runs c.callee s.arguments) c.call) in
        record {
          indexes = c.callee ∷ a.indexes;
          are = (c.call, c.found, a.are);
          rise = rise_more c.callee index a.indexes lt a.rise;
          precede = ((order_gives_conditions m handles).functions c.callee s.function c.found).callees;
        }

pub calls_fall : CallsFall
calls_fall m handles f index begins chain is =
    let a = along m handles f index begins chain is in
    record { indexes = a.indexes; are = a.are; rise = a.rise }
