-- A function is valid alike with other returns.
use Rattle.std.proofs.Common.{◌≡◌, ℕ, Bool, false, Option, None, List, refl, sym, ap, subst, ◌∙◌}
use Rattle.std.specs.Prelude.{◌<◌, length}
use Rattle.ir_blocks.specs.judged.Places.{Place, OccursAt}
use Rattle.ir_blocks.specs.judged.Plain.{PlainStatement, return, call}
use Rattle.ir_flags.specs.Sets.{Has}
use Rattle.ir_flags.specs.declared.settings.ValidationFlags.{ValidationFlags}
use Rattle.ir_flags.specs.declared.stages.ShaderStages.{ShaderStages}
use Rattle.ir_flags.specs.declared.settings.Settings.{Settings}
use Rattle.ir_items.specs.judged.Plain.{PlainFunction, PlainModule}
use Rattle.typing_forms.specs.declared.form.Form.{Form}
use Rattle.spec_expressions.specs.judged.Context.{inside}
use Rattle.spec_expressions.specs.judged.CallArities.{AritiesMatch}
use Rattle.spec_statements.specs.judged.ExpressionStages.{all_stages}
use Rattle.spec_statements.specs.judged.Functions.{AreFormsBy, block_context, BodyOK, FunctionOK, AllowsStage}
use Rattle.spec_statements.specs.judged.Payloads.{HasPayload}
use Rattle.spec_statements.specs.judged.Stages.{statement_stages}
use Rattle.spec_statements.specs.judged.Statements.{StatementOK}
use Rattle.spec_statements.specs.judged.ModuleFunctions.{reading_over, FunctionAtOK, FunctionsOK}
use Rattle.spec_statements.specs.judged.EarlierPayloads.{HasPayloadBefore, IsPayloadBefore}
use Rattle.judgement_laws.specs.found.Alike.{Carried, kept, extra}
use Rattle.judgement_laws.specs.judged.Like.{LikeFunction, LikeModule}
use Rattle.judgement_laws.proofs.Analysis.{analysed_moves}
use Rattle.judgement_laws.proofs.Strict.{strict_moves}
use Rattle.judgement_laws.proofs.Bodies.{is_same, carry, scope_moves, control_moves, answered_moves, payload_moves}
use Rattle.judgement_laws.proofs.Heads.{by_head, stages_head, ok_by_head}
use Rattle.judgement_laws.proofs.Likeness.{function_back, module_back, over_like}
use Rattle.judgement_laws.proofs.Rules.{rule_moves, interface_moves}
use Rattle.judgement_laws.proofs.Typing.{same_results, typed_moves}
use Rattle.spec_expressions.specs.judged.Firsts.{FailsFirst}

-- ---- the number of arguments of calls

no_call : (callee : ℕ) (arguments : List ℕ) (result : Option ℕ) → return None ≡ call callee arguments result → ⊥
no_call callee arguments result is = let x = is in cc

arity_moves : {m n : PlainModule} {f g : PlainFunction} → LikeModule m n → LikeFunction f g → AritiesMatch m f → AritiesMatch n g
arity_moves l k h p callee arguments result stands =
    let at = carry (λ s. s ≡ call callee arguments result) (is_same (call callee arguments result) tt refl) (no_call callee arguments result) k.body.back p _ stands refl in
    let found = h p callee arguments result (subst (OccursAt _ p) at.2 at.1) in
    let moved = l.functions.there callee found.0 found.1 in
    (moved.0, moved.1, found.2 ∙ sym (ap (λ (z : PlainFunction). length z.arguments) moved.2.rest))

-- ---- payloads

pub payload_like : {m n : PlainModule} {f g : PlainFunction} → LikeModule m n → LikeFunction f g → (type : ℕ) → HasPayload m f type → HasPayload n g type
payload_like {m} {n} {f} {g} l k type h =
    let x = payload_moves m f g.body k.body.there type h in
    over_like (λ a b. HasPayload a b type) l k (record {
      place = x.place;
      acceleration_structure = x.acceleration_structure;
      descriptor = x.descriptor;
      payload = x.payload;
      stands = x.stands;
      declared = x.declared;
    })

-- ---- the function

module _ {m n : PlainModule} {f g : PlainFunction} (l : LikeModule m n) (k : LikeFunction f g) (s : Settings) where
  abbrev other : PlainModule
  other = record m { functions = n.functions; entries = n.entries }

  abbrev changed : PlainFunction
  changed = record f { body = g.body }

  module_like : LikeModule m other
  module_like = record { functions = l.functions; entries = l.entries; rest = refl }

  function_like : LikeFunction f changed
  function_like = record { no_result = k.no_result; body = k.body; rest = refl }

  forms_typed : (stages : List ShaderStages) (forms : List Form) → AreFormsBy (reading_over stages m f) f forms → AreFormsBy (reading_over stages other changed) changed forms
  forms_typed stages forms h = record {
    many = h.many;
    each = λ e t at. typed_moves (inside m f) n.functions (same_results m.functions n.functions l.functions) f.expressions e t (h.each e t at);
  }

  statement_moves : (forms : List Form) → ((p : Place) (u : PlainStatement) → OccursAt f.body p u → StatementOK (block_context s m f forms) u)
      → (p : Place) (u : PlainStatement) → Carried g.body f.body p u → StatementOK (block_context s other changed forms) u
  statement_moves forms h p u (kept t at head) =
      rule_moves (block_context s m f forms) n.functions n.entries g.body l.functions u (ok_by_head (block_context s m f forms) t u (sym head) (h p t at))
  statement_moves forms h p u (extra is rest may_return behind) = subst (StatementOK (block_context s other changed forms)) (sym is) k.no_result

  body_moves : (held : Option ℕ) (forms : List Form) → BodyOK s held (block_context s m f forms) → BodyOK s held (block_context s other changed forms)
  body_moves held forms h = record {
    statements = λ p u stands. statement_moves forms h.statements p u (k.body.back.statements p u stands);
    scope = scope_moves f g.body k.body h.scope;
    control = control_moves f.body g.body k.body.back h.control;
    answered = answered_moves s.flags f g.body k.body h.answered;
    payloads = record {
      as_before = λ type before x. h.payloads.as_before type before (payload_like (module_back module_like) (function_back function_like) type x);
      one = λ type second x y. h.payloads.one type second (payload_like (module_back module_like) (function_back function_like) type x) (payload_like (module_back module_like) (function_back function_like) second y);
    };
    strict = λ asked. strict_moves f g.body k.body (h.strict asked);
  }

  pub function_moves : (by_entry : Bool) (held : Option ℕ) (stages : List ShaderStages) → FunctionOK (reading_over stages m f) s by_entry held m f → FunctionOK (reading_over stages n g) s by_entry held n g
  function_moves by_entry held stages h = over_like (λ a b. FunctionOK (reading_over stages a b) s by_entry held a b) l k (record {
    arity = arity_moves module_like function_like h.arity;
    analysed = analysed_moves module_like function_like s.flags h.analysed;
    forms = h.forms;
    typed = forms_typed stages h.forms h.typed;
    interface = interface_moves (block_context s m f h.forms) n.functions n.entries g.body l.functions by_entry h.interface;
    expressions = h.expressions;
    body = λ flag. body_moves held h.forms (h.body flag);
  })

  -- ---- which stages may run it

  stage_runs : (callees : List ShaderStages) (stage : ℕ) → Has all_stages.0 stage → ((p : Place) (u : PlainStatement) → OccursAt f.body p u → Has (statement_stages s.subgroup_stages callees u).0 stage)
      → (p : Place) (u : PlainStatement) → Carried g.body f.body p u → Has (statement_stages s.subgroup_stages callees u).0 stage
  stage_runs callees stage among h p u (kept t at head) =
      subst (λ (z : ShaderStages). Has z.0 stage) (sym (by_head (statement_stages s.subgroup_stages callees) (stages_head s.subgroup_stages callees) u t head)) (h p t at)
  stage_runs callees stage among h p u (extra is rest may_return behind) = subst (λ z. Has (statement_stages s.subgroup_stages callees z).0 stage) (sym is) among

  pub stage_moves : (stages callees : List ShaderStages) (stage : ℕ) → Has all_stages.0 stage
      → AllowsStage (reading_over stages m f) s callees f stage → AllowsStage (reading_over stages n g) s callees g stage
  stage_moves stages callees stage among h = over_like (λ a b. AllowsStage (reading_over stages a b) s callees b stage) l k (record {
    statements = λ flag p u stands. stage_runs callees stage among (h.statements flag) p u (k.body.back.statements p u stands);
    expressions = h.expressions;
  })

-- ---- all functions of a module

pub payload_before : {m n : PlainModule} → LikeModule m n → (count type : ℕ) → HasPayloadBefore m count type → HasPayloadBefore n count type
payload_before l count type h =
    let g = l.functions.there h.index h.function h.at in
    record { index = h.index; function = g.0; before = h.before; at = g.1; traced = payload_like l g.2 type h.traced }

held_moves : {m n : PlainModule} → LikeModule m n → (flags : ValidationFlags) (count : ℕ) (held : Option ℕ) → IsPayloadBefore flags m count held → IsPayloadBefore flags n count held
held_moves l flags count held h = record {
  some = λ type flag x. h.some type flag (payload_before (module_back l) count type x);
  none = λ no. h.none (λ type flag x. no type flag (payload_before l count type x));
}

function_at_moves : {m n : PlainModule} → LikeModule m n → (s : Settings) (i : ℕ) → FunctionAtOK s m i → FunctionAtOK s n i
function_at_moves l s i h =
    let g = l.functions.there i h.function h.at in
    record {
      function = g.0;
      at = g.1;
      held = h.held;
      before = held_moves l s.flags i h.held h.before;
      ok = λ callees. function_moves l g.2 s false h.held callees (h.ok callees);
    }

pub functions_move : {m n : PlainModule} → LikeModule m n → (s : Settings) → FunctionsOK s m → FunctionsOK s n
functions_move l s h i within = function_at_moves l s i (h i (subst (λ k. i < k) (sym l.functions.many) within))

pub first_function_moves : {m n : PlainModule} → LikeModule m n → (s : Settings) (i : ℕ) → FailsFirst (length m.functions) (FunctionAtOK s m) i → FailsFirst (length n.functions) (FunctionAtOK s n) i
first_function_moves l s i h = record {
  within = subst (λ k. i < k) l.functions.many h.within;
  before = λ earlier less. function_at_moves l s earlier (h.before earlier less);
  fails = λ ok. h.fails (function_at_moves (module_back l) s i ok);
}
