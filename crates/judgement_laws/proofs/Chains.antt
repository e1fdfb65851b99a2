-- The frames of a run are at the ends of call chains, so what is referenced and sampled there is reported by the chains.
use Rattle.std.proofs.Common.{◌≡◌, ◌∙◌, ℕ, zero, suc, ℤ, ◌+◌, ◌<◌, length, List, [], ◌∷◌, ◌++◌, inl, map, Option, Some, None, slice_get, option_map, refl, sym, ap, subst, arith}
use Rattle.std.specs.Prelude.{unwrap_or}
use Rattle.std.specs.List.{AllByRecursion}
use Rattle.std.proofs.lemmas.Option.{same_Some, slice_get-map}
use Rattle.ir_flags.specs.declared.settings.Settings.{Settings}
use Rattle.spec_expressions.specs.declared.sampling.GlobalOrArgument.{GlobalOrArgument}
use Rattle.spec_expressions.specs.declared.sampling.GlobalOrArgument.TheVariants.{Global, Argument}
use Rattle.ir_blocks.specs.judged.Places.{Place, here, later, inside, condition, OccursAt}
use Rattle.ir_blocks.specs.judged.Plain.{PlainStatement, block, if_, switch, loop, call, PlainBlock, stop, next, PlainCases, no_case, case}
use Rattle.ir_blocks.specs.judged.Shapes.{Part, inner, accepting, rejecting, case_at, loop_body, loop_continuing, shape_of, part_of, case_body}
use Rattle.ir_types.specs.judged.ExpressionPlain.{PlainExpression, plain}
use Rattle.ir_types.specs.declared.expressions.Expression.TheVariants.{GlobalVariable, ImageSample}
use Rattle.ir_items.specs.judged.Plain.{PlainFunction, PlainModule}
use Rattle.typing_rules.specs.judged.Laws.{IsAmong}
use Rattle.spec_expressions.proofs.Members.{among-left, among-right, get-among}
use Rattle.spec_expressions.specs.judged.CallChains.{global_or_argument, Step, Calls, IsChain, chain_end, seen_through, meaning_at_start, Reaches, NamesGlobal, HasPair}
use Rattle.spec_expressions.specs.found.Arguments.{argument_means}
use Rattle.spec_expressions.specs.judged.Effects.{Effect, takes, samples as sampling, runs, sampling_at, expression_effects, expressions_effects, statement_effects, effects_in, effects_inside, effects_in_cases, effects_of}
use Rattle.spec_expressions.specs.judged.OperandUses.{expression_uses, statement_uses}
use Rattle.spec_expressions.specs.judged.FunctionHandles.{HandlesInRange}
use Rattle.spec_expressions.specs.judged.References.{computed as computed_site, expression_names}
use Rattle.spec_runs.specs.judged.Events.{Event, entered, executed, introduced_expression, named, sampled, used, passed, returned, fell_off, escaped}
use Rattle.spec_runs.specs.judged.Good.{NamedOK, SampledOK}
use Rattle.spec_runs.specs.found.Invariants.{IsInvariant}
use Rattle.spec_runs.specs.judged.Scoping.{UsedOperands, with_skipped}
use Rattle.judgement_laws.specs.found.Accepted.{IsAcceptedEntry, RunsNameReached, RunsSamplePairs}
use Rattle.spec_runs.specs.judged.Machine.{Frame, global_meant, global_denoted, pair_of, mentioned_at, callee_frame, entry_frame, trace}
use Rattle.judgement_laws.proofs.Accepted.{Fine, callee_fine, entry_fine, all_weaken}
use Rattle.spec_runs.proofs.Invariance.{invariants_hold}
use Rattle.spec_runs.proofs.Scopes.{skipped_is_lawful}

-- ---- a call in a body is one of its effects

case_among : (cases : PlainCases) (k : ℕ) (x : Effect) → IsAmong x (effects_in (case_body cases k)) → IsAmong x (effects_in_cases cases)
case_among no_case k x h = elim h [ ]
case_among (case value body falls rest) zero x h = among-left (effects_in body) (effects_in_cases rest) x h
case_among (case value body falls rest) (suc k) x h = among-right (effects_in body) (effects_in_cases rest) x (case_among rest k x h)

part_among : (s : PlainStatement) (part : Part) (x : Effect) → IsAmong x (effects_in (part_of (shape_of s) part)) → IsAmong x (effects_inside s)
part_among (block b) inner x h = h
part_among (if_ test accept reject) accepting x h = among-left (effects_in accept) (effects_in reject) x h
part_among (if_ test accept reject) rejecting x h = among-right (effects_in accept) (effects_in reject) x h
part_among (switch selector cases) (case_at k) x h = case_among cases k x h
part_among (loop body continuing break_if) loop_body x h = among-left (effects_in body) (effects_in continuing) x h
part_among (loop body continuing break_if) loop_continuing x h = among-right (effects_in body) (effects_in continuing) x h
part_among _ _ x h = elim h [ ]

occurs_among : (p : Place) (b : PlainBlock) (s : PlainStatement) (x : Effect) → OccursAt b p s → IsAmong x (statement_effects s) → IsAmong x (effects_in b)
occurs_among here stop s x stands h = absurd (cc (stands))
occurs_among here (next t rest) s x stands h =
    let same : s ≡ t = cc (stands) in
    among-left (statement_effects t ++ effects_inside t) (effects_in rest) x (among-left (statement_effects t) (effects_inside t) x (subst (λ u. IsAmong x (statement_effects u)) same h))
occurs_among (later p) stop s x stands h = absurd (cc (stands))
occurs_among (later p) (next t rest) s x stands h = among-right (statement_effects t ++ effects_inside t) (effects_in rest) x (occurs_among p rest s x stands h)
occurs_among (inside part p) stop s x stands h = absurd (cc (stands))
occurs_among (inside part p) (next t rest) s x stands h =
    among-left (statement_effects t ++ effects_inside t) (effects_in rest) x (among-right (statement_effects t) (effects_inside t) x (part_among t part x (occurs_among p (part_of (shape_of t) part) s x stands h)))
occurs_among condition stop s x stands h = absurd (cc (stands))
occurs_among condition (next t rest) s x stands h = absurd (cc (stands))

call_among : (f : PlainFunction) (p : Place) (function : ℕ) (arguments : List ℕ) (result : Option ℕ) → OccursAt f.body p (call function arguments result) → IsAmong (runs function arguments) (effects_of f)
call_among f p function arguments result stands =
    among-right (expressions_effects 0 f.expressions) (effects_in f.body) _
    (occurs_among p f.body (call function arguments result) (runs function arguments) stands
    (among-right (map takes (statement_uses (call function arguments result))) (runs function arguments ∷ []) _ (inl refl)))

-- ---- so is a sampling in an expression

expression_among : (first e : ℕ) (xs : List PlainExpression) (x : PlainExpression) (y : Effect) → slice_get xs e ≡ Some x → IsAmong y (sampling_at (first + e) x) → IsAmong y (expressions_effects first xs)
expression_among first e [] x y at h = absurd (cc (at))
expression_among first zero (z ∷ xs) x y at h =
    let same : x ≡ z = same_Some _ _ (sym at) in
    let number : first + 0 ≡ first = omega arith in
    among-left (expression_effects first z) (expressions_effects (first + 1) xs) y
    (among-right (map takes (expression_uses z)) (sampling_at first z) y (subst (λ n. IsAmong y (sampling_at n z)) number (subst (λ w. IsAmong y (sampling_at (first + 0) w)) same h)))
expression_among first (suc e) (z ∷ xs) x y at h =
    let number : first + suc e ≡ (first + 1) + e = omega arith in
    among-right (expression_effects first z) (expressions_effects (first + 1) xs) y (expression_among (first + 1) e xs x y at (subst (λ n. IsAmong y (sampling_at n x)) number h))

sampling_among : (f : PlainFunction) (e : ℕ) (x : PlainExpression) (image sampler : ℕ) → slice_get f.expressions e ≡ Some x → sampling_at e x ≡ sampling e image sampler ∷ [] → IsAmong (sampling e image sampler) (effects_of f)
sampling_among f e x image sampler at is =
    let number : 0 + e ≡ e = omega arith in
    among-left (expressions_effects 0 f.expressions) (effects_in f.body) _
    (expression_among 0 e f.expressions x _ at (subst (λ n. IsAmong (sampling e image sampler) (sampling_at n x)) (sym number) (subst (IsAmong (sampling e image sampler)) (sym is) (inl refl))))

-- ---- frames at the ends of chains

record InChain (m : PlainModule) (f : PlainFunction) (frame : Frame) : Type 0 where
  pub chain : List Step
  pub is_chain : IsChain m f chain
  pub ends : chain_end f chain ≡ frame.function
  pub means : (e g : ℕ) → global_denoted frame e ≡ Some g → meaning_at_start f chain e ≡ Some (Global g)

entry_chain : (m : PlainModule) (f : PlainFunction) → InChain m f (entry_frame f)
entry_chain m f = record { chain = []; is_chain = tt; ends = refl; means = λ e g is. by_place (global_or_argument f.expressions e) g is }
  where
    by_place : (o : Option GlobalOrArgument) (g : ℕ) → global_meant [] o ≡ Some g → o ≡ Some (Global g)
    by_place (Some (Global h)) g is = ap (λ x. Some (Global x)) (same_Some _ _ is)
    by_place (Some (Argument n)) g is = absurd (cc (is))
    by_place None g is = absurd (cc (is))

callee_chain : (m : PlainModule) (f : PlainFunction) (frame : Frame) → InChain m f frame → (p : Place) (function : ℕ) (arguments : List ℕ) (result : Option ℕ) (callee : PlainFunction) → OccursAt frame.function.body p (call function arguments result) → slice_get m.functions function ≡ Some callee → InChain m f (callee_frame frame callee arguments)
callee_chain m f frame c p function arguments result callee stands found =
    let called = get-among (effects_of frame.function) (runs function arguments) (call_among frame.function p function arguments result stands) in
    let calls : Calls m (chain_end f c.chain) (record { at = called.0; arguments = arguments; function = callee }) =
    record { callee = function; call = subst (λ h. slice_get (effects_of h) called.0 ≡ Some (runs function arguments)) (sym c.ends) called.1; found = found } in
    record { chain = record { at = called.0; arguments = arguments; function = callee } ∷ c.chain; is_chain = (calls, c.is_chain); ends = refl; means = λ e g is. by_place (global_or_argument callee.expressions e) g is }
  where
    by_argument : (o : Option ℕ) (g : ℕ) → unwrap_or (option_map (global_denoted frame) o) None ≡ Some g → argument_means (meaning_at_start f c.chain) o ≡ Some (Global g)
    by_argument (Some e) g is = c.means e g is
    by_argument None g is = absurd (cc (is))

    by_place : (o : Option GlobalOrArgument) (g : ℕ) → global_meant (map (global_denoted frame) arguments) o ≡ Some g → seen_through (meaning_at_start f c.chain) arguments o ≡ Some (Global g)
    by_place (Some (Global h)) g is = ap (λ x. Some (Global x)) (same_Some _ _ is)
    by_place (Some (Argument n)) g is = by_argument (slice_get arguments n) g (sym (ap (λ (o : Option (Option ℕ)). unwrap_or o None) (slice_get-map (global_denoted frame) arguments n)) ∙ is)
    by_place None g is = absurd (cc (is))

-- ---- runs

module _ (s : Settings) (m : PlainModule) (number : ℕ) (a : IsAcceptedEntry s m number) where
  abbrev f : PlainFunction
  f = a.entry.entry.function

  -- the frames of its runs, with what they reference in range
  record Reported (frame : Frame) : Type 0 where
    pub fine : Fine s m number a frame
    pub within : InChain m f frame
    pub handles : HandlesInRange m frame.function

  abbrev Holds : Event → Type 0
  Holds (entered depth) = Unit {0}
  Holds (executed g p) = Unit {0}
  Holds (introduced_expression g e) = Unit {0}
  Holds (named g) = (g < length m.globals) × Reaches m f (NamesGlobal g)
  Holds (sampled image sampler) = HasPair m f (Global image, Global sampler)
  Holds (used g live skipped o) = Unit {0}
  Holds (passed caller callee arguments) = Unit {0}
  Holds (returned g value) = Unit {0}
  Holds (fell_off g last) = Unit {0}
  Holds escaped = Unit {0}

  names_hold : (frame : Frame) → Reported frame → (e g : ℕ) → slice_get frame.function.expressions e ≡ Some (plain (GlobalVariable g)) → Holds (named g)
  names_hold frame t e g at = (
    t.handles (computed_site e) _ (expression_names at refl),
    record { chain = t.within.chain; is_chain = t.within.is_chain; holds = subst (NamesGlobal g) (sym t.within.ends) (e, at) },
  )

  -- what an expression samples, if its image and its sampler denote global variables
  samples_hold : (frame : Frame) → Reported frame → (e : ℕ) (x : PlainExpression) (image sampler : ℕ) → slice_get frame.function.expressions e ≡ Some x → sampling_at e x ≡ sampling e image sampler ∷ [] → AllByRecursion Holds (pair_of (global_denoted frame image) (global_denoted frame sampler))
  samples_hold frame t e x image sampler at is = by_pair (global_denoted frame image) (global_denoted frame sampler) refl refl
    where
      by_pair : (i j : Option ℕ) → global_denoted frame image ≡ i → global_denoted frame sampler ≡ j → AllByRecursion Holds (pair_of i j)
      by_pair (Some i) (Some j) image_is sampler_is = (
        record {
          chain = t.within.chain;
          is_chain = t.within.is_chain;
          sampled = record {
            expression = e;
            image = image;
            sampler = sampler;
            sampling = subst (λ h. IsAmong (sampling e image sampler) (effects_of h)) (sym t.within.ends) (sampling_among frame.function e x image sampler at is);
            image_means = t.within.means image i image_is;
            sampler_means = t.within.means sampler j sampler_is;
          };
        },
        tt,
      )
      by_pair (Some i) None image_is sampler_is = tt
      by_pair None j image_is sampler_is = tt

  mentions_hold : (frame : Frame) → Reported frame → (e : ℕ) (o : Option PlainExpression) → slice_get frame.function.expressions e ≡ o → AllByRecursion Holds (mentioned_at frame o)
  mentions_hold frame t e (Some (plain (GlobalVariable g))) at = (names_hold frame t e g at, tt)
  mentions_hold frame t e (Some (plain (ImageSample image sampler gathers coordinate array_index offset level depth_ref clamp_to_edge))) at = samples_hold frame t e _ image sampler at refl
  mentions_hold frame t e _ at = tt

  module _ (u : UsedOperands) where
    told_kept : IsInvariant u with_skipped m Reported Holds
    told_kept = record {
      control = λ frame t. t.fine.fits.control;
      calls = λ frame t p function arguments result callee stands found. (
        record {
          fine = callee_fine s m number a frame t.fine p function arguments result callee stands found;
          within = callee_chain m f frame t.within p function arguments result callee stands found;
          handles = a.handles.functions function callee found;
        },
        tt,
      );
      enters = λ frame t. tt;
      executes = λ frame t p v stands. tt;
      introduces = λ frame t p e brought. tt;
      mentions = λ frame t e. mentions_hold frame t e (slice_get frame.function.expressions e) refl;
      uses = λ frame t p live skipped there o held. tt;
      uses_of_introduced = λ frame t p v stands before e after is live skipped there o held. tt;
      returns = λ frame t p value stands. tt;
      falls = λ frame t last. tt;
    }

    all_reported : (answers : List ℤ) (n : ℕ) → AllByRecursion Holds (trace u m a.entry.entry answers n)
    all_reported = invariants_hold u with_skipped skipped_is_lawful m Reported Holds told_kept f (record { fine = entry_fine s m number a; within = entry_chain m f; handles = a.handles.entries number a.entry.entry a.entry.at })

  each_named : (x : Event) → Holds x → NamedOK m f x
  each_named (entered depth) h = tt
  each_named (executed g p) h = tt
  each_named (introduced_expression g e) h = tt
  each_named (named g) h = h
  each_named (sampled image sampler) h = tt
  each_named (used g live skipped o) h = tt
  each_named (passed caller callee arguments) h = tt
  each_named (returned g value) h = tt
  each_named (fell_off g last) h = tt
  each_named escaped h = tt

  each_sampled : (x : Event) → Holds x → SampledOK m f x
  each_sampled (entered depth) h = tt
  each_sampled (executed g p) h = tt
  each_sampled (introduced_expression g e) h = tt
  each_sampled (named g) h = tt
  each_sampled (sampled image sampler) h = h
  each_sampled (used g live skipped o) h = tt
  each_sampled (passed caller callee arguments) h = tt
  each_sampled (returned g value) h = tt
  each_sampled (fell_off g last) h = tt
  each_sampled escaped h = tt

pub runs_name_reached : RunsNameReached
runs_name_reached s m number a u answers n = all_weaken _ _ (each_named s m number a) _ (all_reported s m number a u answers n)

pub runs_sample_pairs : RunsSamplePairs
runs_sample_pairs s m number a u answers n = all_weaken _ _ (each_sampled s m number a) _ (all_reported s m number a u answers n)
