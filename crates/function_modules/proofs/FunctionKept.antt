-- What is answered of functions with summaries of callees is answered by chains of calls.
use Rattle.std.proofs.Common.{ℕ, List, length, Option}
use Rattle.std.proofs.lemmas.Option.{slice_get_within}
use Rattle.function_modules.proofs.ByChains.{accepted_at, refused_at}
use Rattle.function_modules.specs.Chains.{AreKept, IsFunctionFault}
use Rattle.function_modules.specs.Judged.{AreJudged, IsFirstRefused, IsRefusal}
use Rattle.function_modules.specs.Validated.{IsRefusedWith}
use Rattle.function_errors.specs.declared.error.InvalidFunction.{InvalidFunction}
use Rattle.ir_types.specs.declared.refusal.Refusal.{Refusal}
use Rattle.ir_types.specs.declared.refusal.Refusal.TheVariants as refusal
use Rattle.ir_flags.specs.declared.stages.ShaderStages.{ShaderStages}
use Rattle.ir_flags.specs.declared.settings.Settings.{Settings}
use Rattle.ir_items.specs.judged.Plain.{PlainModule}
use Rattle.function_modules.specs.Readings.{reading_of, faults_of}
use Rattle.spec_expressions.specs.judged.Summaries.{Summary}

module _ (s : Settings) (m : PlainModule) where
  pub kept : (summaries : List Summary) (stages : List ShaderStages) (held : Option ℕ) → AreJudged reading_of s m (length m.functions) summaries stages held → AreKept s m summaries
  kept summaries stages held j = record { accepted = λ i lt. accepted_at s m i (j.accepted i lt); many = j.many; known = j.known }

  fault : (e : InvalidFunction) → IsFirstRefused reading_of faults_of s m e → IsFunctionFault s m e
  fault e r = record {
    first = record {
      within = slice_get_within m.functions e.function r.here.function r.here.at;
      before = λ i lt. accepted_at s m i (r.before i lt);
      fails = refused_at s m e.function e.trail e.error r.here;
    };
    fault = r.here;
  }

  pub refused_by : (r : Refusal InvalidFunction) → IsRefusal reading_of faults_of s m r → IsRefusedWith (IsFunctionFault s m) r
  refused_by (refusal.Memory e) h = tt
  refused_by (refusal.Fault e) h = (fault _ h.0, h.1)
