-- What is known of types, and what is noted besides.
use Rattle.std.proofs.Common.{◌≡◌, ◌⊎◌, inl, inr, ◌<◌, ◌+◌, ◌*◌, zero, suc, ℕ, Bool, true, false, cond, List, [], true≢false, refl, sym, ap, subst, ◌∙◌, arith}
use Rattle.std.specs.BTreeSet.{BTreeSet, contains}
use Rattle.std.specs.Ordering.{is_eq, nat_cmp}
use Rattle.std.specs.declared.cmp.Ordering.{Ordering}
use Rattle.std.specs.declared.cmp.Ordering.TheVariants.{Less, Equal, Greater}
use Rattle.std.proofs.lemmas.Map.Lookups.{exact_pairs, exact_unsigned}
use Rattle.ir_flags.specs.declared.settings.Capabilities.{Capabilities}
use Rattle.ir_flags.specs.declared.settings.ValidationFlags.{ValidationFlags}
use Rattle.ir_kinds.specs.declared.stages.ShaderStage.{ShaderStage}
use Rattle.ir_kinds.specs.declared.stages.ShaderStage.TheVariants.{Vertex, Fragment, Compute, Mesh, Task, RayGeneration, AnyHit, ClosestHit, Miss}
use Rattle.ir_types.specs.judged.Plain.{PlainType}
use Rattle.spec_interface.specs.judged.BuiltIns.{ExceptionOK}
use Rattle.spec_interface.specs.found.BuiltIns.{IsLinearWorkgroup, HasNoTaskPayload}
use Rattle.spec_interface.specs.judged.Contexts.{VaryingContext}
use Rattle.spec_interface.specs.judged.BuiltInRows.{built_in_row}
use Rattle.spec_interface.specs.judged.Varyings.{BoundOK, VaryingsOK, mesh_varyings}
use Rattle.spec_interface.specs.declared.rows.Exception.{Exception}
use Rattle.spec_interface.specs.declared.rows.Exception.TheVariants as exception
use Rattle.spec_interface.specs.declared.varyings.Bound.{Bound}
use Rattle.spec_interface.specs.declared.varyings.Bound.TheVariants.{BuiltIn as built_in, Location as location, BlendSources, Nothing, NoMember}
use Rattle.spec_interface.specs.declared.varyings.Direction.{Direction}
use Rattle.spec_interface.specs.declared.varyings.Direction.TheVariants.{Input, Output, VertexOutput, PrimitiveOutput}
use Rattle.spec_interface.specs.declared.varyings.Varying.{Varying}
use Rattle.function_varyings.specs.Known.{AreNotedFor, IsShownBy, IsWayOf, digit, direction_number, number_of, pair_cmp, stage_number}
use Rattle.function_varyings.specs.declared.known.Shown.{Shown}
use Rattle.function_varyings.specs.declared.known.Way.{Way}

-- ---- a number tells the way and what is shown

abbrev stage_at : ℕ → ShaderStage
stage_at zero = Vertex
stage_at (suc zero) = Fragment
stage_at (suc (suc zero)) = Compute
stage_at (suc (suc (suc zero))) = Mesh
stage_at (suc (suc (suc (suc zero)))) = Task
stage_at (suc (suc (suc (suc (suc zero))))) = RayGeneration
stage_at (suc (suc (suc (suc (suc (suc zero)))))) = AnyHit
stage_at (suc (suc (suc (suc (suc (suc (suc zero))))))) = ClosestHit
stage_at (suc (suc (suc (suc (suc (suc (suc (suc _)))))))) = Miss

stage_back : (s : ShaderStage) → stage_at (stage_number s) ≡ s
stage_back Vertex = refl
stage_back Fragment = refl
stage_back Compute = refl
stage_back Mesh = refl
stage_back Task = refl
stage_back RayGeneration = refl
stage_back AnyHit = refl
stage_back ClosestHit = refl
stage_back Miss = refl

one_stage : (s t : ShaderStage) → stage_number s ≡ stage_number t → s ≡ t
one_stage s t e = sym (stage_back s) ∙ (ap stage_at e ∙ stage_back t)

abbrev direction_at : ℕ → Direction
direction_at zero = Input
direction_at (suc zero) = Output
direction_at (suc (suc zero)) = VertexOutput
direction_at (suc (suc (suc _))) = PrimitiveOutput

direction_back : (d : Direction) → direction_at (direction_number d) ≡ d
direction_back Input = refl
direction_back Output = refl
direction_back VertexOutput = refl
direction_back PrimitiveOutput = refl

one_direction : (d e : Direction) → direction_number d ≡ direction_number e → d ≡ e
one_direction d e same = sym (direction_back d) ∙ (ap direction_at same ∙ direction_back e)

direction_small : (d : Direction) → direction_number d < 4
direction_small Input = omega (arith)
direction_small Output = omega (arith)
direction_small VertexOutput = omega (arith)
direction_small PrimitiveOutput = omega (arith)

one_digit : (a b : Bool) → digit a ≡ digit b → a ≡ b
one_digit false false e = refl
one_digit true true e = refl
one_digit false true e = absurd (omega (arith, e))
one_digit true false e = absurd (omega (arith, e))

digit_small : (b : Bool) → digit b < 2
digit_small false = omega (arith)
digit_small true = omega (arith)

last_of_two : (a b m n : ℕ) → a < 2 → b < 2 → a + 2 * m ≡ b + 2 * n → a ≡ b
last_of_two a b m n a_small b_small e = omega (arith, a_small, b_small, e)

rest_of_two : (a b m n : ℕ) → a < 2 → b < 2 → a + 2 * m ≡ b + 2 * n → m ≡ n
rest_of_two a b m n a_small b_small e = omega (arith, a_small, b_small, e)

last_of_four : (a b m n : ℕ) → a < 4 → b < 4 → a + 4 * m ≡ b + 4 * n → a ≡ b
last_of_four a b m n a_small b_small e = omega (arith, a_small, b_small, e)

rest_of_four : (a b m n : ℕ) → a < 4 → b < 4 → a + 4 * m ≡ b + 4 * n → m ≡ n
rest_of_four a b m n a_small b_small e = omega (arith, a_small, b_small, e)

record AreOne (w v : Way) (s t : Shown) : Type 0 where
  ways : w ≡ v
  shown : s ≡ t

bits_apart : (a b : Bool) (m n : ℕ) → digit a + 2 * m ≡ digit b + 2 * n → (a ≡ b) × (m ≡ n)
bits_apart a b m n e = (
  one_digit a b (last_of_two _ _ m n (digit_small a) (digit_small b) e),
  rest_of_two _ _ m n (digit_small a) (digit_small b) e,
)

same_numbers : (w v : Way) (s t : Shown) → number_of w s ≡ number_of v t → AreOne w v s t
same_numbers w v s t e =
    let blended = bits_apart s.blended t.blended _ _ e in
    let positioned = bits_apart s.positioned t.positioned _ _ blended.1 in
    let rows = bits_apart w.rows v.rows _ _ positioned.1 in
    let ahead = bits_apart w.ahead v.ahead _ _ rows.1 in
    let direction = one_direction w.direction v.direction (last_of_four _ _ (stage_number w.stage) (stage_number v.stage) (direction_small w.direction) (direction_small v.direction) ahead.1) in
    let stage = one_stage w.stage v.stage (rest_of_four (direction_number w.direction) (direction_number v.direction) _ _ (direction_small w.direction) (direction_small v.direction) ahead.1) in
    record {
      ways = λ i. record { stage = stage i; direction = direction i; ahead = ahead.0 i; rows = rows.0 i };
      shown = λ i. record { positioned = positioned.0 i; blended = blended.0 i };
    }

-- ---- varyings that go one way

-- the rules look at the stage, the direction, and what the way says besides
module _ (c d : VaryingContext) (ahead : HasNoTaskPayload c → HasNoTaskPayload d) (rows : IsLinearWorkgroup c.sizes → IsLinearWorkgroup d.sizes) (flags : c.flags ≡ d.flags) (capabilities : c.capabilities ≡ d.capabilities)
    (types : c.types ≡ d.types) (stage : c.stage ≡ d.stage) (direction : c.direction ≡ d.direction) where
  -- c, with what d has of all but the sizes and the payload
  abbrev between : VaryingContext
  between = record { flags = d.flags; capabilities = d.capabilities; types = d.types; stage = d.stage; sizes = c.sizes; payload = c.payload; direction = d.direction }

  to_between : c ≡ between
  to_between = λ i. record { flags = flags i; capabilities = capabilities i; types = types i; stage = stage i; sizes = c.sizes; payload = c.payload; direction = direction i }

  ahead_between : HasNoTaskPayload between → HasNoTaskPayload d
  ahead_between h = ahead (subst HasNoTaskPayload (sym to_between) h)

  besides : (x : Exception) → ExceptionOK between x → ExceptionOK d x
  besides exception.None h = tt
  besides exception.FreeAtHits h = tt
  besides exception.NotAfterTasks h = ahead_between h
  besides exception.RowsOnly h = rows h

  bound_between : (b : Bound) → BoundOK between b → BoundOK d b
  bound_between (built_in type b) h = record {
    capable = h.capable;
    stands = h.stands;
    besides = besides (built_in_row b).exception h.besides;
    typed = h.typed;
  }
  bound_between (location type l) h = record {
    capable = h.capable;
    primitive = h.primitive;
    vertices = λ is. record { fragment = (h.vertices is).fragment; capable = (h.vertices is).capable };
    element = h.element;
    counts = h.counts;
    shared = h.shared;
    value = h.value;
    alone = h.alone;
    sampled = h.sampled;
    multisampled = h.multisampled;
  }
  bound_between BlendSources h = h
  bound_between Nothing h = h
  bound_between (NoMember place) h = h

  pub varyings_move : (vs : List Varying) → VaryingsOK c vs → VaryingsOK d vs
  varyings_move vs ok = (let moved : VaryingsOK between vs = subst (λ (x : VaryingContext). VaryingsOK x vs) to_between ok in record {
    each = λ place v at. bound_between v.bound (moved.each place v at);
    once = moved.once;
    apart = moved.apart;
  })

one_way : (c d : VaryingContext) (w : Way) → IsWayOf c w → IsWayOf d w → c.flags ≡ d.flags → c.capabilities ≡ d.capabilities → c.types ≡ d.types → (vs : List Varying) → VaryingsOK c vs → VaryingsOK d vs
one_way c d w of_c of_d flags capabilities types =
    varyings_move c d (λ h. of_d.ahead.0 (of_c.ahead.1 h)) (λ h. of_d.rows.0 (of_c.rows.1 h)) flags capabilities types (sym of_c.stage ∙ of_d.stage) (sym of_c.direction ∙ of_d.direction)

-- ---- one more is noted

equal_by : (o : Ordering) → is_eq o ≡ true → o ≡ Equal
equal_by Less e = absurd (true≢false (sym e))
equal_by Equal e = refl
equal_by Greater e = absurd (true≢false (sym e))

same_by : (p q : ℕ × ℕ) → is_eq (pair_cmp p q) ≡ true → p ≡ q
same_by p q e = exact_pairs nat_cmp nat_cmp exact_unsigned exact_unsigned p q (equal_by (pair_cmp p q) e)

added : (p q : ℕ × ℕ) (old new is : Bool) → is_eq (pair_cmp p q) ≡ is → new ≡ cond is true old → new ≡ true → (old ≡ true) ⊎ (p ≡ q)
added p q old new true e told seen = inr (same_by p q e)
added p q old new false e told seen = inl (sym told ∙ seen)

module _ (c : VaryingContext) (w : Way) (type : ℕ) (s : Shown) (way : IsWayOf c w) (fine : VaryingsOK c (mesh_varyings c.types type)) (shown : IsShownBy (mesh_varyings c.types type) s)
    (old new : BTreeSet (ℕ × ℕ)) (told : (q : ℕ × ℕ) → contains pair_cmp new q ≡ cond (is_eq (pair_cmp (type, number_of w s) q)) true (contains pair_cmp old q)) where
  this : (d : VaryingContext) (v : Way) (other : ℕ) (t : Shown) → d.flags ≡ c.flags → d.capabilities ≡ c.capabilities → d.types ≡ c.types → IsWayOf d v
      → AreOne w v s t → type ≡ other → VaryingsOK d (mesh_varyings c.types other) × IsShownBy (mesh_varyings c.types other) t
  this d v other t flags capabilities types of_d one same = (
    subst (λ k. VaryingsOK d (mesh_varyings c.types k)) same (one_way c d v (subst (IsWayOf c) one.ways way) of_d (sym flags) (sym capabilities) (sym types) (mesh_varyings c.types type) fine),
    subst (λ k. IsShownBy (mesh_varyings c.types k) t) same (subst (IsShownBy (mesh_varyings c.types type)) one.shown shown),
  )

  pub one_noted : AreNotedFor c.flags c.capabilities c.types old → AreNotedFor c.flags c.capabilities c.types new
  one_noted before d v other t flags capabilities types of_d noted =
      elim (added (type, number_of w s) (other, number_of v t) (contains pair_cmp old (other, number_of v t)) (contains pair_cmp new (other, number_of v t)) (is_eq (pair_cmp (type, number_of w s) (other, number_of v t))) refl (told (other, number_of v t)) noted) [
        | inl earlier ↦ before d v other t flags capabilities types of_d earlier
        | inr same ↦ this d v other t flags capabilities types of_d (same_numbers w v s t (ap (λ (p : ℕ × ℕ). p.1) same)) (ap (λ (p : ℕ × ℕ). p.0) same)
      ]

-- the same where the set has the same keys
pub noted_still : (c : VaryingContext) (old new : BTreeSet (ℕ × ℕ)) → new.keys ≡ old.keys → AreNotedFor c.flags c.capabilities c.types old → AreNotedFor c.flags c.capabilities c.types new
noted_still c old new same before d v other t flags capabilities types of_d noted =
    before d v other t flags capabilities types of_d (subst (λ (ks : List (ℕ × ℕ)). contains pair_cmp (record { keys = ks }) (other, number_of v t) ≡ true) same noted)

-- of an empty set
pub none_noted : (flags : ValidationFlags) (capabilities : Capabilities) (types : List PlainType) (seen : BTreeSet (ℕ × ℕ)) → seen.keys ≡ [] → AreNotedFor flags capabilities types seen
none_noted flags capabilities types seen empty d v other t same_flags same_capabilities same_types of_d noted =
    absurd (true≢false (sym (subst (λ (ks : List (ℕ × ℕ)). contains pair_cmp (record { keys = ks }) (other, number_of v t) ≡ true) empty noted)))
