-- The analysis of a function returns the same errors with other returns.
use Rattle.std.proofs.Common.{◌≡◌, ◌⊎◌, inl, inr, ℕ, None, List, refl, sym, subst, IsTrue}
use Rattle.ir_flags.specs.declared.settings.ValidationFlags.{ValidationFlags}
use Rattle.ir_blocks.specs.judged.Plain.{PlainBlock}
use Rattle.ir_items.specs.judged.Plain.{PlainFunction, PlainEntry, PlainModule}
use Rattle.ir_types.specs.judged.ExpressionPlain.{PlainExpression, compose, plain}
use Rattle.typing_rules.specs.judged.Laws.{IsAmong}
use Rattle.spec_expressions.specs.judged.CallChains.{global_or_argument}
use Rattle.spec_expressions.specs.judged.Effects.{samples}
use Rattle.spec_expressions.specs.judged.Summaries.{IsWrongArgument}
use Rattle.spec_expressions.specs.judged.Values.{is_source, ComesFrom, itself, through, NonUniform}
use Rattle.spec_expressions.specs.judged.Uniformity.{Required}
use Rattle.spec_expressions.specs.judged.Faults.{requirement_at}
use Rattle.spec_expressions.specs.judged.Faults.{FunctionFault}
use Rattle.spec_statements.specs.judged.Analysis.{HasWrongForm, IsAnalysed}
use Rattle.judgement_laws.specs.found.Alike.{Alike}
use Rattle.judgement_laws.specs.judged.Like.{LikeFunction, LikeModule}
use Rattle.judgement_laws.proofs.Bodies.{asks_move}
use Rattle.judgement_laws.proofs.Calls.{same_effects, same_expressions, step_moves, pair_moves}
use Rattle.judgement_laws.proofs.Likeness.{function_back, module_back, over_like}

module _ (m : PlainModule) (functions : List PlainFunction) (entries : List PlainEntry) (f : PlainFunction) (b : PlainBlock) where
  abbrev n : PlainModule
  n = record m { functions = functions; entries = entries }

  abbrev g : PlainFunction
  g = record f { body = b }

  source_same : (x : PlainExpression) → is_source n g x ≡ is_source m f x
  source_same (compose type components) = refl
  source_same (plain x) = refl

  comes_from : {e s : ℕ} → ComesFrom m f e s → ComesFrom n g e s
  comes_from (itself x at source) = itself x at (subst IsTrue (sym (source_same x)) source)
  comes_from (through x operand at among more) = through x operand at among (comes_from more)

  fault_with : (flags : ValidationFlags) (x : Required) → Alike f.body b → FunctionFault flags m f x → FunctionFault flags n g x
  fault_with flags x alike h = record {
    severity = h.severity;
    severe = h.severe;
    fault = record {
      flag = h.fault.flag;
      fault = asks_move h.severity (requirement_at f.expressions) (NonUniform m f) (NonUniform n g) (λ e v. (v.0, comes_from v.1)) alike.there x h.fault.fault;
    };
  }

fault_moves : {m n : PlainModule} {f g : PlainFunction} → LikeModule m n → LikeFunction f g → (flags : ValidationFlags) (x : Required) → FunctionFault flags m f x → FunctionFault flags n g x
fault_moves {m} {n} {f} {g} l k flags x h = over_like (λ a b. FunctionFault flags a b x) l k (fault_with m n.functions n.entries f g.body flags x k.body h)

wrong_form_moves : {m n : PlainModule} {f g : PlainFunction} → LikeModule m n → LikeFunction f g → (e : ℕ) → HasWrongForm m f e → HasWrongForm n g e
wrong_form_moves l k e (inl h) = inl (record {
  image = h.image;
  sampler = h.sampler;
  sampling = subst (λ xs. IsAmong (samples e h.image h.sampler) xs) (same_effects k) h.sampling;
  wrong = subst (λ xs. (global_or_argument xs h.image ≡ None) ⊎ (global_or_argument xs h.sampler ≡ None)) (same_expressions k) h.wrong;
})
wrong_form_moves {f = f} l k e (inr h) =
    let moved = step_moves l k h.step h.calls in
    inr (record {
      step = moved.step;
      pair = h.pair;
      calls = moved.calls;
      sampled = pair_moves l moved.function h.pair h.sampled;
      wrong = subst (λ xs. IsWrongArgument xs moved.step.arguments h.pair.0 e ⊎ IsWrongArgument xs moved.step.arguments h.pair.1 e) (same_expressions k)
          (subst (λ passed. IsWrongArgument f.expressions passed h.pair.0 e ⊎ IsWrongArgument f.expressions passed h.pair.1 e) (sym moved.arguments) h.wrong);
    })

pub analysed_moves : {m n : PlainModule} {f g : PlainFunction} → LikeModule m n → LikeFunction f g → (flags : ValidationFlags) → IsAnalysed flags m f → IsAnalysed flags n g
analysed_moves l k flags h = record {
  formed = λ e wrong. h.formed e (wrong_form_moves (module_back l) (function_back k) e wrong);
  uniform = λ x fault. h.uniform x (fault_moves (module_back l) (function_back k) flags x fault);
}
