-- What walks find of the payloads of a function.
use Rattle.std.proofs.Common.{◌≡◌, ◌≢◌, ◌⊎◌, ℕ, Bool, true, false, true≢false, ◌==◌, Option, Some, None, inl, inr, if◌then◌else◌, refl, sym, subst, ◌∙◌}
use Rattle.std.specs.Prelude.{option_map}
use Rattle.std.specs.Option.{MatchOption}
use Rattle.std.proofs.lemmas.Bool.{eq-eqb, eqb-true}
use Rattle.typing_errors.specs.declared.error.FunctionError.TheVariants as error
use Rattle.ir_blocks.specs.judged.Places.{Place, OccursAt}
use Rattle.ir_blocks.specs.judged.Plain.{PlainStatement, PlainBlock, operation, ray_pipeline}
use Rattle.ir_blocks.specs.declared.operations.RayPipelineFunction.TheVariants.{TraceRay}
use Rattle.ir_flags.specs.declared.settings.ValidationFlags.{ValidationFlags}
use Rattle.ir_items.specs.judged.Plain.{PlainFunction, PlainModule}
use Rattle.ir_places.proofs.TrailLaws.{placed_then}
use Rattle.ir_places.specs.Paths.{IsPlaced}
use Rattle.ir_places.specs.declared.trail.Trail.{Trail}
use Rattle.typing_references.specs.First.{first_in}
use Rattle.typing_references.proofs.FirstLaws.{none_at, place_found}
use Rattle.function_statements.specs.Payloads.{payload_type, unlike, AreOfOneType, IsPayloadsFaultAt, TracesAt}
use Rattle.spec_statements.specs.judged.BlockContext.{BlockContext}
use Rattle.spec_statements.specs.judged.Payloads.{HasPayload}
use Rattle.spec_statements.specs.judged.Variables.{variable_at}

-- ---- one payload

-- A statement traces a ray with a payload of the type.
pub record Traces (c : BlockContext) (s : PlainStatement) (type : ℕ) : Type 0 where
  pub structure : ℕ
  pub descriptor : ℕ
  pub payload : ℕ
  pub is : s ≡ operation (ray_pipeline (TraceRay structure descriptor payload))
  pub declared : option_map (λ g. g.ty) (variable_at c.m c.f payload) ≡ Some type

traces : (c : BlockContext) (s : PlainStatement) (type : ℕ) → payload_type c s ≡ Some type → Traces c s type
traces c (operation (ray_pipeline (TraceRay structure descriptor payload))) type e =
    record { structure = structure; descriptor = descriptor; payload = payload; is = refl; declared = e }
traces c _ type e = absurd (let x = e in cc)

-- another type is found
other_one : (held : ℕ) (o : Option ℕ) (type : ℕ) → unlike held o ≡ Some type → (o ≡ Some type) × (type ≢ held)
other_one held None type e = absurd (let x = e in cc)
other_one held (Some own) type e = by_test (own == held) refl e
  where
    by_test : (b : Bool) → (own == held) ≡ b → (if b then None else Some own) ≡ Some type → (Some own ≡ Some type) × (type ≢ held)
    by_test true is e = absurd (let x = e in cc)
    by_test false is e = (e, λ same. true≢false (sym (eq-eqb own held (let own_is : own ≡ type = (let x = e in cc) in own_is ∙ same)) ∙ is))

-- and none is
same_one : (held : ℕ) (o : Option ℕ) (type : ℕ) → unlike held o ≡ None → o ≡ Some type → type ≡ held
same_one held None type e is = absurd (let x = is in cc)
same_one held (Some own) type e is = by_test (own == held) refl e
  where
    by_test : (b : Bool) → (own == held) ≡ b → (if b then None else Some own) ≡ None → type ≡ held
    by_test true test e = let own_is : own ≡ type = (let x = is in cc) in sym own_is ∙ eqb-true own held test
    by_test false test e = absurd (let x = e in cc)

-- ---- all of them

pub first_found : (c : BlockContext) (type : ℕ) → first_in (payload_type c) c.f.body ≡ Some type → HasPayload c.m c.f type
first_found c type e =
    let found = place_found (payload_type c) c.f.body type e in
    let ray = traces c found.1 type found.3 in
    record {
      place = found.0;
      acceleration_structure = ray.structure;
      descriptor = ray.descriptor;
      payload = ray.payload;
      stands = subst (OccursAt c.f.body found.0) ray.is found.2;
      declared = ray.declared;
    }

pub none_found : (c : BlockContext) → first_in (payload_type c) c.f.body ≡ None → (type : ℕ) → HasPayload c.m c.f type → ⊥
none_found c e type h = let none = none_at (payload_type c) h.place c.f.body e _ h.stands in let some = h.declared in cc

pub traced_has : (m : PlainModule) (f : PlainFunction) (p : Place) (type : ℕ) → TracesAt m f p type → HasPayload m f type
traced_has m f p type t = record { place = p; acceleration_structure = t.acceleration_structure; descriptor = t.descriptor; payload = t.payload; stands = t.stands; declared = t.declared }

-- one of another type, where it stands
other_at : (c : BlockContext) (held type : ℕ) (b : PlainBlock) → b ≡ c.f.body → (p : Place) → (s : PlainStatement) × OccursAt b p s × (unlike held (payload_type c s) ≡ Some type) → TracesAt c.m c.f p type × (type ≢ held)
other_at c held type b is p found =
    let one = other_one held (payload_type c found.0) type found.2 in
    let ray = traces c found.0 type one.0 in (
      record {
        acceleration_structure = ray.structure;
        descriptor = ray.descriptor;
        payload = ray.payload;
        stands = subst (λ x. OccursAt x p (operation (ray_pipeline (TraceRay ray.structure ray.descriptor ray.payload)))) is (subst (OccursAt b p) ray.is found.1);
        declared = ray.declared;
      },
      one.1,
    )

no_other_found : (c : BlockContext) (held : ℕ) (b : PlainBlock) → b ≡ c.f.body → ((p : Place) (s : PlainStatement) → OccursAt b p s → unlike held (payload_type c s) ≡ None) → (type : ℕ) → HasPayload c.m c.f type → type ≡ held
no_other_found c held b is none type h =
    let s : PlainStatement = operation (ray_pipeline (TraceRay h.acceleration_structure h.descriptor h.payload)) in
    same_one held (payload_type c s) type (none h.place s (subst (λ x. OccursAt x h.place s) (sym is) h.stands)) h.declared

-- ---- what is kept

-- all are of the type from before
pub before_held : (m : PlainModule) (f : PlainFunction) (before : ℕ) → ((type : ℕ) → HasPayload m f type → type ≡ before) → AreOfOneType m f (Some before) (Some before)
before_held m f before all = record {
  payloads = record {
    as_before = λ type other h is. all type h ∙ (let x = is in cc);
    one = λ type other h g. all type h ∙ sym (all other g);
  };
  held_after = λ flags has. record {
    kept = λ other is. is;
    found = λ blocks type h none. absurd (let x = none in cc);
    none = λ none never. absurd (let x = none in cc);
    unasked = λ never. refl;
  };
}

-- all are of the type of one of them
pub found_held : (m : PlainModule) (f : PlainFunction) (first : ℕ) → HasPayload m f first → ((type : ℕ) → HasPayload m f type → type ≡ first) → AreOfOneType m f None (Some first)
found_held m f first own all = record {
  payloads = record {
    as_before = λ type other h is. absurd (let x = is in cc);
    one = λ type other h g. all type h ∙ sym (all other g);
  };
  held_after = λ flags has. record {
    kept = λ other is. absurd (let x = is in cc);
    found = λ blocks type h none. let same = all type h in cc;
    none = λ none never. absurd (never first own);
    unasked = λ never. absurd (never has);
  };
}

-- there is none
pub none_held : (m : PlainModule) (f : PlainFunction) → ((type : ℕ) → HasPayload m f type → ⊥) → AreOfOneType m f None None
none_held m f never = record {
  payloads = record {
    as_before = λ type other h is. absurd (never type h);
    one = λ type other h g. absurd (never type h);
  };
  held_after = λ flags has. record {
    kept = λ other is. is;
    found = λ blocks type h none. absurd (never type h);
    none = λ none absent. refl;
    unasked = λ none. refl;
  };
}

-- ---- what is reported

pub first_reported : (c : BlockContext) (found : Option ℕ) → found ≡ first_in (payload_type c) c.f.body
    → MatchOption found ((type : ℕ) → HasPayload c.m c.f type → ⊥) (HasPayload c.m c.f)
first_reported c None e = none_found c (sym e)
first_reported c (Some type) e = first_found c type (sym e)

pub other_told : (t : Trail) (c : BlockContext) (held : ℕ) (b : PlainBlock) (found : Option ℕ) → b ≡ c.f.body
    → MatchOption found ((p : Place) (s : PlainStatement) → OccursAt b p s → unlike held (payload_type c s) ≡ None)
    (λ type. IsPlaced t (λ p. (s : PlainStatement) × OccursAt b p s × (unlike held (payload_type c s) ≡ Some type)))
    → MatchOption found ((type : ℕ) → HasPayload c.m c.f type → type ≡ held) (λ type. IsPlaced t (λ p. TracesAt c.m c.f p type × (type ≢ held)))
other_told t c held b None is none = no_other_found c held b is none
other_told t c held b (Some type) is found =
    placed_then t (λ p. (s : PlainStatement) × OccursAt b p s × (unlike held (payload_type c s) ≡ Some type)) (λ p. TracesAt c.m c.f p type × (type ≢ held)) (other_at c held type b is) found

pub other_refused : (t : Trail) (m : PlainModule) (f : PlainFunction) (held : Option ℕ) (type before : ℕ) → (held ≡ Some before) ⊎ ((held ≡ None) × HasPayload m f before)
    → IsPlaced t (λ p. TracesAt m f p type × (type ≢ before)) → IsPlaced t (IsPayloadsFaultAt m f held (error.MismatchedPayloadType type before))
other_refused t m f held type before earlier =
    placed_then t (λ p. TracesAt m f p type × (type ≢ before)) (IsPayloadsFaultAt m f held (error.MismatchedPayloadType type before)) (λ p found. record { traced = found.0; earlier = earlier; differs = found.1 })

pub none_told : (m : PlainModule) (f : PlainFunction) (held : Option ℕ) → held ≡ None → ((type : ℕ) → HasPayload m f type → ⊥) → AreOfOneType m f held None
none_told m f held is never = subst (λ h. AreOfOneType m f h None) (sym is) (none_held m f never)
