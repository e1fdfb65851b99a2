-- Runs of a valid entry point: their call depth, and what they pass, use and execute.
use Rattle.std.proofs.Common.{◌≡◌, ◌∙◌, ◌⊎◌, inl, inr, ℕ, zero, suc, ℤ, false, ◌+◌, ◌-◌, ◌<◌, ◌≤◌, length, List, [], ◌∷◌, Option, Some, None, Contains, slice_get, get_or, refl, sym, ap, subst, arith, ⊎_elim}
use Rattle.std.specs.Prelude.{IsSomeAnd, option_to_list}
use Rattle.std.specs.List.{AllByRecursion, range_with_len}
use Rattle.std.proofs.lemmas.List.Elements.{Contains-append_left, Contains-append_right, Contains-append_cases, Contains-push}
use Rattle.std.proofs.lemmas.Option.{same_Some, slice_get-get_or, slice_get_cases, slice_get_within, unwrap_or-slice_get}
use Rattle.ir_flags.specs.Sets.{Has}
use Rattle.ir_flags.specs.declared.settings.TheConstants.ValidationFlags.{STRICT_SCOPE}
use Rattle.ir_flags.specs.declared.stages.ShaderStages.{ShaderStages}
use Rattle.ir_flags.specs.declared.settings.Settings.{Settings}
use Rattle.ir_blocks.specs.judged.Control.{ControlOK}
use Rattle.ir_arena.specs.judged.Handles.{handles_between}
use Rattle.ir_blocks.specs.judged.Places.{Place, Spot, nothing, statement, loop_condition, spot_at, OccursAt}
use Rattle.ir_blocks.specs.judged.Plain.{PlainStatement, emit, block, if_, switch, loop, break, continue, return, kill, operation, call}
use Rattle.ir_items.specs.judged.Plain.{PlainFunction, PlainModule}
use Rattle.ir_types.specs.judged.ExpressionPlain.{PlainExpression, plain}
use Rattle.ir_types.specs.declared.expressions.Expression.TheVariants.{GlobalVariable, ImageSample}
use Rattle.typing_forms.specs.declared.form.Form.{Form}
use Rattle.typing_forms.specs.declared.form.Form.TheVariants as form
use Rattle.typing_forms.specs.judged.Forms.{form_of_type}
use Rattle.spec_expressions.specs.judged.Kinds.{operation_row}
use Rattle.spec_expressions.specs.judged.Typing.{HasType}
use Rattle.spec_expressions.specs.judged.FunctionHandles.{HandlesInRange}
use Rattle.spec_expressions.specs.judged.CallArities.{AritiesMatch}
use Rattle.spec_expressions.specs.judged.Order.{a_function, function_on_callee}
use Rattle.spec_expressions.specs.judged.References.{done, operand, item, range, statement_reads, statement_answers, statement_emits, statement_calls}
use Rattle.spec_expressions.specs.judged.StatementNames.{statement_result, statement_range}
use Rattle.spec_expressions.specs.declared.target.Target.TheVariants as target
use Rattle.spec_statements.specs.judged.BlockContext.{form_at}
use Rattle.spec_statements.specs.judged.ExpressionStages.{all_stages, callee_stages, stages_of, IsRunBy}
use Rattle.spec_statements.specs.judged.Functions.{Reading, FunctionOK, BodyOK, AllowsStage, block_context}
use Rattle.spec_statements.proofs.ScopeLaws.{none_held}
use Rattle.spec_statements.specs.judged.Scope.{Introduces, ScopeOK}
use Rattle.spec_statements.specs.judged.Tables.{introduced, introduced_at}
use Rattle.spec_statements.specs.judged.Stages.{statement_stages}
use Rattle.spec_statements.specs.judged.ModuleFunctions.{reading_over}
use Rattle.spec_interface.specs.judged.Contexts.{stage_set}
use Rattle.spec_runs.specs.judged.Events.{Event, entered, executed, introduced_expression, named, sampled, used, passed, returned, fell_off, escaped}
use Rattle.spec_runs.specs.judged.Good.{ArgumentsOK, ValueOK, DepthOK, TypesOK, UsesOK, LiveOK, SurelyLiveOK, StagesOK, NoEscape}
use Rattle.spec_runs.specs.found.Invariants.{IsInvariant}
use Rattle.spec_runs.specs.judged.Scoping.{UsedOperands, checked_operands, all_operands, Scoping, with_skipped, without_skipped, IsLawful, IsScoped}
use Rattle.spec_runs.specs.judged.Laws.{AnswersNameNothing}
use Rattle.spec_statements.specs.judged.Strict.{StrictOK}
use Rattle.judgement_laws.proofs.AnswerKinds.{answers_name_nothing}
use Rattle.judgement_laws.specs.found.Accepted.{IsAcceptedEntry, RunsNest, RunsPassTypes, RunsUseLive, StrictRunsUseLive, RunsKeepStage, RunsNeverEscape}
use Rattle.spec_runs.specs.judged.Machine.{Frame, global_denoted, pair_of, mentioned_at, callee_frame, entry_frame, trace}
use Rattle.spec_runs.proofs.Invariance.{invariants_hold}
use Rattle.spec_runs.proofs.Strict.{strict_is_lawful, strict_suffices}
use Rattle.spec_runs.proofs.Scopes.{skipped_is_lawful, scope_suffices, known, introduced_known}

first_held : (e : ℕ) (es : List ℕ) → Contains (e ∷ es) e
first_held e es = Contains-append_left (e ∷ []) es e (Contains-push [] e)

get_held : (xs : List ℕ) (i e : ℕ) → slice_get xs i ≡ Some e → Contains xs e
get_held [] i e at = absurd (cc (at))
get_held (x ∷ xs) zero e at = subst (λ y. Contains (y ∷ xs) e) (sym (same_Some _ _ at)) (first_held e xs)
get_held (x ∷ xs) (suc i) e at = Contains-append_right (x ∷ []) xs e (get_held xs i e at)

one_payload : (e x : ℕ) → Contains (x ∷ []) e → e ≡ x
one_payload e x (zero, lt, is) = sym is
one_payload e x (suc k, lt, is) = absurd (omega (arith, lt))

in_range : (a n x : ℕ) → Contains (range_with_len a n) x → x < a + n
in_range a zero x held = none_held x held
in_range a (suc n) x held =
    ⊎_elim (λ own. (let is = one_payload x a own in omega (arith, is))) (λ more. (let below = in_range (a + 1) n x more in omega (arith, below))) (Contains-append_cases (a ∷ []) (range_with_len (a + 1) n) x held)

-- a handle of a range is below its end
between_below : (first end e : ℕ) → first ≤ end → Contains (handles_between (first, end)) e → e < end
between_below first end e le held = (let below = in_range first (end - first) e held in omega (arith, below, le))

some_and_map : {A : Type 0} (P Q : A → Type 0) → ((a : A) → P a → Q a) → (o : Option A) → IsSomeAnd o P → IsSomeAnd o Q
some_and_map P Q g None h = h
some_and_map P Q g (Some a) h = g a h

pub all_weaken : {A : Type 0} (P Q : A → Type 0) → ((a : A) → P a → Q a) → (xs : List A) → AllByRecursion P xs → AllByRecursion Q xs
all_weaken P Q g [] h = tt
all_weaken P Q g (x ∷ xs) h = (g x h.0, all_weaken P Q g xs h.1)

-- an expression that a statement emits or returns is one of the function
module _ (m : PlainModule) (f : PlainFunction) (handles : HandlesInRange m f) (p : Place) (e : ℕ) where
  answer_there : (s : PlainStatement) → OccursAt f.body p s → (o : Option ℕ) → statement_result s ≡ o → Contains (option_to_list o) e → e < length f.expressions
  answer_there s stands None is held = none_held e held
  answer_there s stands (Some x) is held = handles (done p) (operand e) (statement_answers stands (is ∙ ap Some (sym (one_payload e x held))))

  range_there : (s : PlainStatement) → OccursAt f.body p s → (first end : ℕ) → statement_range s ≡ Some (record { first = first; end = end }) → Contains (handles_between (first, end)) e → e < length f.expressions
  range_there s stands first end is held =
      let there = handles (done p) (range (record { first = first; end = end })) (statement_emits stands is) in
      let below = between_below first end e there.0 held in
      let le = there.1 in
      omega (arith, below, le)

  statement_there : (s : PlainStatement) → OccursAt f.body p s → Contains (introduced s) e → e < length f.expressions
  statement_there (emit first end) stands held = range_there (emit first end) stands first end refl held
  statement_there (block b) stands held = none_held e held
  statement_there (if_ test accept reject) stands held = none_held e held
  statement_there (switch selector cases) stands held = none_held e held
  statement_there (loop body continuing break_if) stands held = none_held e held
  statement_there break stands held = none_held e held
  statement_there continue stands held = none_held e held
  statement_there (return value) stands held = none_held e held
  statement_there kill stands held = none_held e held
  statement_there (operation x) stands held = answer_there (operation x) stands (operation_row x).result refl held
  statement_there (call function arguments result) stands held = answer_there (call function arguments result) stands result refl held

  introduced_there : Introduces f.body p e → e < length f.expressions
  introduced_there brought = by_spot (spot_at p f.body) refl brought
    where
      by_spot : (spot : Spot) → spot_at p f.body ≡ spot → Contains (introduced_at spot) e → e < length f.expressions
      by_spot nothing is held = none_held e held
      by_spot (statement s) is held = statement_there s is held
      by_spot (loop_condition o) is held = none_held e held

-- ---- what the rules of functions imply at the positions of a body

-- The strict scope is valid, and expressions that denote results have no operands.
pub record IsStrict (f : PlainFunction) : Type 0 where
  pub scope : StrictOK f
  pub answers : AnswersNameNothing f

-- In a function at index k, for a stage that may run each of these functions.
pub record Fits (strictly : Type 0) (m : PlainModule) (subgroups : ShaderStages) (stages : List ShaderStages) (stage : ℕ) (k : ℕ) (f : PlainFunction) : Type 0 where
  pub scope : ScopeOK f
  pub strict : strictly → IsStrict f
  pub control : ControlOK f.body
  pub below : (p : Place) (function : ℕ) (arguments : List ℕ) (result : Option ℕ) → OccursAt f.body p (call function arguments result) → function < k
  pub passes : (p : Place) (function : ℕ) (arguments : List ℕ) (result : Option ℕ) (callee : PlainFunction) → OccursAt f.body p (call function arguments result) → slice_get m.functions function ≡ Some callee → ArgumentsOK m f callee arguments
  pub returns : (p : Place) (value : Option ℕ) → OccursAt f.body p (return value) → ValueOK m f value
  pub executes : (p : Place) (s : PlainStatement) → OccursAt f.body p s → Has (statement_stages subgroups stages s).0 stage
  pub introduces : (p : Place) (e : ℕ) → Introduces f.body p e → IsSomeAnd (slice_get f.expressions e) (λ x. Has (stages_of stages x).0 stage)

module _ (s : Settings) (m : PlainModule) (f : PlainFunction) (forms : List Form) (many : length forms ≡ length f.expressions)
    (typed : (e : ℕ) (t : Form) → slice_get forms e ≡ Some t → HasType m f e t) {held : Option ℕ} (body : BodyOK s held (block_context s m f forms)) (handles : HandlesInRange m f) (arity : AritiesMatch m f) where
  has_form : (e : ℕ) → e < length f.expressions → HasType m f e (form_at (block_context s m f forms) e)
  has_form e lt =
      let inside : e < length forms = subst (λ n. e < n) (sym many) lt in
      subst (HasType m f e) (sym (unwrap_or-slice_get forms e form.Nothing)) (typed e (get_or forms e form.Nothing) (slice_get-get_or forms e form.Nothing inside))

  has_this : (e : ℕ) (t : Form) → e < length f.expressions → form_at (block_context s m f forms) e ≡ t → HasType m f e t
  has_this e t lt is = subst (HasType m f e) is (has_form e lt)

  passes_types : (p : Place) (function : ℕ) (arguments : List ℕ) (result : Option ℕ) (callee : PlainFunction) → OccursAt f.body p (call function arguments result) → slice_get m.functions function ≡ Some callee → ArgumentsOK m f callee arguments
  passes_types p function arguments result callee stands found =
      let ok = body.statements p (call function arguments result) stands in
      let fits = arity p function arguments result stands in
      let same : ok.callee ≡ callee = same_Some _ _ (sym ok.called ∙ found) in
      let matching : fits.0 ≡ callee = same_Some _ _ (sym fits.1 ∙ found) in
      record {
        many = subst (λ g. length arguments ≡ length g.arguments) matching fits.2;
        each = λ i e a at declared.
            has_this e (form_of_type m.types a.ty) (handles (done p) (operand e) (statement_reads stands (get_held arguments i e at)))
            (ok.passed i e a at (subst (λ g. slice_get g.arguments i ≡ Some a) (sym same) declared));
      }

  returns_type : (p : Place) (value : Option ℕ) → OccursAt f.body p (return value) → ValueOK m f value
  returns_type p None stands = body.statements p (return None) stands
  returns_type p (Some e) stands =
      some_and_map _ _ (λ r is. has_this e (form_of_type m.types r.ty) (handles (done p) (operand e) (statement_reads stands (first_held e []))) is) f.result (body.statements p (return (Some e)) stands)

  fits_in : (subgroups : ShaderStages) (stages : List ShaderStages) (stage k : ℕ)
      → ((p : Place) (function : ℕ) (arguments : List ℕ) (result : Option ℕ) → OccursAt f.body p (call function arguments result) → function < k)
      → ((p : Place) (u : PlainStatement) → OccursAt f.body p u → Has (statement_stages subgroups stages u).0 stage)
      → ((e : ℕ) (own : ShaderStages) → e < length f.expressions → IsRunBy stages f.expressions e own → Has own.0 stage)
      → Fits (Has s.flags.0 STRICT_SCOPE.0) m subgroups stages stage k f
  fits_in subgroups stages stage k below statements expressions = record {
    scope = body.scope;
    strict = λ asked. record { scope = body.strict asked; answers = answers_name_nothing (block_context s m f forms) body.statements (body.strict asked) };
    control = body.control;
    below = below;
    passes = passes_types;
    returns = returns_type;
    executes = statements;
    introduces = λ p e brought. (let there = introduced_there m f handles p e brought in by_get e there (slice_get_cases f.expressions e).1);
  }
    where
      by_get : (e : ℕ) → e < length f.expressions → ((x : PlainExpression) × (e < length f.expressions) × (slice_get f.expressions e ≡ Some x) × (get_or f.expressions e x ≡ x)) ⊎ ((length f.expressions ≤ e) × (slice_get f.expressions e ≡ None))
          → IsSomeAnd (slice_get f.expressions e) (λ x. Has (stages_of stages x).0 stage)
      by_get e lt (inl h) = subst (λ o. IsSomeAnd o (λ x. Has (stages_of stages x).0 stage)) (sym h.2) (expressions e (stages_of stages h.0) lt (record { expression = h.0; at = h.2; run_by = refl }))
      by_get e lt (inr h) = (let le = h.0 in absurd (omega (arith, lt, le)))

-- ---- the module

module _ (s : Settings) (m : PlainModule) (number : ℕ) (a : IsAcceptedEntry s m number) where
  abbrev pub stages : List ShaderStages
  stages = a.entry.stages

  abbrev pub stage : ℕ
  stage = (stage_set a.entry.entry.stage).0

  abbrev pub FitsAt : ℕ → PlainFunction → Type 0
  FitsAt = Fits (Has s.flags.0 STRICT_SCOPE.0) m s.subgroup_stages stages stage

  function_fits : (index : ℕ) (f : PlainFunction) → slice_get m.functions index ≡ Some f → AllowsStage (reading_over stages m f) s stages f stage → FitsAt index f
  function_fits index f at allows =
      let here = a.functions index (slice_get_within m.functions index f at) in
      let same : here.function ≡ f = same_Some _ _ (sym here.at ∙ at) in
      let ok : FunctionOK _ s false here.held m f = subst (λ g. FunctionOK (reading_of g) s false here.held m g) same (here.ok stages) in
      fits_in s m f ok.forms ok.typed.many ok.typed.each (ok.body a.blocks) (a.handles.functions index f at) ok.arity s.subgroup_stages stages stage index
      (λ p function arguments result stands. a.handles.back (a_function index) (a_function function) (function_on_callee at (statement_calls stands refl)))
      (allows.statements a.blocks) (allows.expressions a.expressions)
    where
      reading_of : PlainFunction → Reading
      reading_of g = reading_over stages m g

  pub entry_fits : FitsAt (length m.functions) a.entry.entry.function
  entry_fits =
      let e = a.entry.entry in
      let ok = a.entry.ok.function in
      fits_in s m e.function ok.forms ok.typed.many ok.typed.each (ok.body a.blocks) (a.handles.entries number e a.entry.at) ok.arity s.subgroup_stages stages stage (length m.functions)
      (λ p function arguments result stands. a.handles.entries number e a.entry.at (done p) (item (target.Function function)) (statement_calls stands refl))
      (a.entry.ok.runs.statements a.blocks) (a.entry.ok.runs.expressions a.expressions)

  -- a frame of such a function, within the call depth
  pub record Fine (frame : Frame) : Type 0 where
    pub index : ℕ
    pub deep : frame.depth + index ≤ length m.functions
    pub fits : FitsAt index frame.function

  pub callee_fine : (frame : Frame) → Fine frame → (p : Place) (function : ℕ) (arguments : List ℕ) (result : Option ℕ) (callee : PlainFunction) → OccursAt frame.function.body p (call function arguments result) → slice_get m.functions function ≡ Some callee → Fine (callee_frame frame callee arguments)
  callee_fine frame fine p function arguments result callee stands found =
      let lt : function < fine.index = fine.fits.below p function arguments result stands in
      let there : function < length m.functions = slice_get_within m.functions function callee found in
      let inside : function < length stages = subst (λ n. function < n) (sym a.entry.run.many) there in
      let own : ShaderStages = get_or stages function all_stages in
      let known : slice_get stages function ≡ Some own = slice_get-get_or stages function all_stages inside in
      let may : Has (callee_stages stages function).0 stage = fine.fits.executes p (call function arguments result) stands in
      let may_own : Has own.0 stage = subst (λ x. Has x.0 stage) (unwrap_or-slice_get stages function all_stages) may in
      let allowed = (a.entry.run.each function callee own found known stage).0 may_own in
      record { index = function; deep = not_deeper frame.depth fine.index function (length m.functions) fine.deep lt; fits = function_fits function callee found allowed.1 }
    where
      not_deeper : (d i j n : ℕ) → d + i ≤ n → j < i → (d + 1) + j ≤ n
      not_deeper d i j n le lt = omega (arith, le, lt)

  -- laws of the events of its runs, whatever is used, except for global variables and falling off the end
  abbrev Holds : Event → Type 0
  Holds (entered depth) = depth ≤ length m.functions
  Holds (executed f p) = (v : PlainStatement) × OccursAt f.body p v × Has (statement_stages s.subgroup_stages stages v).0 stage
  Holds (introduced_expression f e) = IsSomeAnd (slice_get f.expressions e) (λ x. Has (stages_of stages x).0 stage)
  Holds (named g) = Unit {0}
  Holds (sampled image sampler) = Unit {0}
  Holds (used f live skipped o) = Unit {0}
  Holds (passed caller callee arguments) = ArgumentsOK m caller callee arguments
  Holds (returned f value) = ValueOK m f value
  Holds (fell_off f last) = Unit {0}
  Holds escaped = ⊥

  any_pair : (image sampler : Option ℕ) → AllByRecursion Holds (pair_of image sampler)
  any_pair (Some image) (Some sampler) = (tt, tt)
  any_pair (Some image) None = tt
  any_pair None sampler = tt

  any_mentioned : (frame : Frame) (o : Option PlainExpression) → AllByRecursion Holds (mentioned_at frame o)
  any_mentioned frame (Some (plain (GlobalVariable g))) = (tt, tt)
  any_mentioned frame (Some (plain (ImageSample image sampler gathers coordinate array_index offset level depth_ref clamp_to_edge))) = any_pair (global_denoted frame image) (global_denoted frame sampler)
  any_mentioned frame _ = tt

  pub entry_fine : Fine (entry_frame a.entry.entry.function)
  entry_fine = record { index = length m.functions; deep = nothing_deeper; fits = entry_fits }
    where
      nothing_deeper : 0 + length m.functions ≤ length m.functions
      nothing_deeper = omega arith

  module _ (u : UsedOperands) where
    holds_kept : IsInvariant u with_skipped m Fine Holds
    holds_kept = record {
      control = λ frame fine. fine.fits.control;
      calls = λ frame fine p function arguments result callee stands found.
          (callee_fine frame fine p function arguments result callee stands found, fine.fits.passes p function arguments result callee stands found);
      enters = λ frame fine. (let le = fine.deep in omega (arith, le));
      executes = λ frame fine p v stands. (v, stands, fine.fits.executes p v stands);
      introduces = λ frame fine p e brought. fine.fits.introduces p e brought;
      mentions = λ frame fine e. any_mentioned frame (slice_get frame.function.expressions e);
      uses = λ frame fine p live skipped there o held. tt;
      uses_of_introduced = λ frame fine p v stands before e after is live skipped there o held. tt;
      returns = λ frame fine p value stands. fine.fits.returns p value stands;
      falls = λ frame fine last. tt;
    }

    all_hold : (answers : List ℤ) (n : ℕ) → AllByRecursion Holds (trace u m a.entry.entry answers n)
    all_hold = invariants_hold u with_skipped skipped_is_lawful m Fine Holds holds_kept a.entry.entry.function entry_fine

  each_depth : (x : Event) → Holds x → DepthOK (length m.functions) x
  each_depth (entered depth) h = h
  each_depth (executed f p) h = tt
  each_depth (introduced_expression f e) h = tt
  each_depth (named g) h = tt
  each_depth (sampled image sampler) h = tt
  each_depth (used f live skipped o) h = tt
  each_depth (passed caller callee arguments) h = tt
  each_depth (returned f value) h = tt
  each_depth (fell_off f last) h = tt
  each_depth escaped h = tt

  each_typed : (x : Event) → Holds x → TypesOK m x
  each_typed (entered depth) h = tt
  each_typed (executed f p) h = tt
  each_typed (introduced_expression f e) h = tt
  each_typed (named g) h = tt
  each_typed (sampled image sampler) h = tt
  each_typed (used f live skipped o) h = tt
  each_typed (passed caller callee arguments) h = h
  each_typed (returned f value) h = h
  each_typed (fell_off f last) h = tt
  each_typed escaped h = tt

  each_stage : (x : Event) → Holds x → StagesOK s.subgroup_stages stages stage x
  each_stage (entered depth) h = tt
  each_stage (executed f p) h = h
  each_stage (introduced_expression f e) h = h
  each_stage (named g) h = tt
  each_stage (sampled image sampler) h = tt
  each_stage (used f live skipped o) h = tt
  each_stage (passed caller callee arguments) h = tt
  each_stage (returned f value) h = tt
  each_stage (fell_off f last) h = tt
  each_stage escaped h = tt

  no_escape : (x : Event) → Holds x → NoEscape x
  no_escape (entered depth) h = tt
  no_escape (executed f p) h = tt
  no_escape (introduced_expression f e) h = tt
  no_escape (named g) h = tt
  no_escape (sampled image sampler) h = tt
  no_escape (used f live skipped o) h = tt
  no_escape (passed caller callee arguments) h = tt
  no_escape (returned f value) h = tt
  no_escape (fell_off f last) h = tt
  no_escape escaped h = h

  -- ---- what is used

  module _ (u : UsedOperands) (g : Scoping) (scoped : (f : PlainFunction) (index : ℕ) → FitsAt index f → IsScoped u g f) where
    any_used_pair : (image sampler : Option ℕ) → AllByRecursion (UsesOK g) (pair_of image sampler)
    any_used_pair (Some image) (Some sampler) = (tt, tt)
    any_used_pair (Some image) None = tt
    any_used_pair None sampler = tt

    any_used_mention : (frame : Frame) (o : Option PlainExpression) → AllByRecursion (UsesOK g) (mentioned_at frame o)
    any_used_mention frame (Some (plain (GlobalVariable h))) = (tt, tt)
    any_used_mention frame (Some (plain (ImageSample image sampler gathers coordinate array_index offset level depth_ref clamp_to_edge))) = any_used_pair (global_denoted frame image) (global_denoted frame sampler)
    any_used_mention frame _ = tt

    uses_kept : IsInvariant u g m Fine (UsesOK g)
    uses_kept = record {
      control = λ frame fine. fine.fits.control;
      calls = λ frame fine p function arguments result callee stands found. (callee_fine frame fine p function arguments result callee stands found, tt);
      enters = λ frame fine. tt;
      executes = λ frame fine p v stands. tt;
      introduces = λ frame fine p e brought. tt;
      mentions = λ frame fine e. any_used_mention frame (slice_get frame.function.expressions e);
      uses = λ frame fine p live skipped there o held. known u g frame.function (scoped frame.function fine.index fine.fits) live skipped _ o there ((scoped frame.function fine.index fine.fits).at_spots p o held);
      uses_of_introduced = λ frame fine p v stands before e after is live skipped there o held. introduced_known u g frame.function (scoped frame.function fine.index fine.fits) p v stands before e after is live skipped there o held;
      returns = λ frame fine p value stands. tt;
      falls = λ frame fine last. tt;
    }

    uses_hold : IsLawful g → (answers : List ℤ) (n : ℕ) → AllByRecursion (UsesOK g) (trace u m a.entry.entry answers n)
    uses_hold lawful = invariants_hold u g lawful m Fine (UsesOK g) uses_kept a.entry.entry.function entry_fine

each_live : (x : Event) → UsesOK with_skipped x → LiveOK x
each_live (entered depth) h = tt
each_live (executed f p) h = tt
each_live (introduced_expression f e) h = tt
each_live (named g) h = tt
each_live (sampled image sampler) h = tt
each_live (used f live skipped o) h = ⊎_elim (λ pre. inl pre) (λ k. inr (⊎_elim (λ l. inl l) (λ n. inr n.1) k)) h
each_live (passed caller callee arguments) h = tt
each_live (returned f value) h = tt
each_live (fell_off f last) h = tt
each_live escaped h = tt

pub runs_nest : RunsNest
runs_nest s m number a u answers n = all_weaken _ _ (each_depth s m number a) _ (all_hold s m number a u answers n)

pub runs_pass_types : RunsPassTypes
runs_pass_types s m number a u answers n = all_weaken _ _ (each_typed s m number a) _ (all_hold s m number a u answers n)

pub runs_use_live : RunsUseLive
runs_use_live s m number a answers n =
    all_weaken _ _ each_live _ (uses_hold s m number a checked_operands with_skipped (λ f index fits. scope_suffices f fits.scope) skipped_is_lawful answers n)

each_surely_live : (x : Event) → UsesOK without_skipped x → SurelyLiveOK x
each_surely_live (entered depth) h = tt
each_surely_live (executed f p) h = tt
each_surely_live (introduced_expression f e) h = tt
each_surely_live (named g) h = tt
each_surely_live (sampled image sampler) h = tt
each_surely_live (used f live skipped o) h = ⊎_elim (λ pre. inl pre) (λ k. inr (⊎_elim (λ l. l) (λ n. absurd (cc (n.0))) k)) h
each_surely_live (passed caller callee arguments) h = tt
each_surely_live (returned f value) h = tt
each_surely_live (fell_off f last) h = tt
each_surely_live escaped h = tt

pub strict_runs_use_live : StrictRunsUseLive
strict_runs_use_live s m number a strict = (
  λ answers n. all_weaken _ _ each_surely_live _ (uses_hold s m number a all_operands without_skipped (λ f index fits. (strict_suffices f (fits.strict strict).scope (fits.strict strict).answers).0) strict_is_lawful answers n),
  λ answers n. all_weaken _ _ each_surely_live _ (uses_hold s m number a checked_operands without_skipped (λ f index fits. (strict_suffices f (fits.strict strict).scope (fits.strict strict).answers).1) strict_is_lawful answers n),
)

pub runs_keep_stage : RunsKeepStage
runs_keep_stage s m number a u answers n = all_weaken _ _ (each_stage s m number a) _ (all_hold s m number a u answers n)

pub runs_never_escape : RunsNeverEscape
runs_never_escape s m number a u answers n = all_weaken _ _ (no_escape s m number a) _ (all_hold s m number a u answers n)
