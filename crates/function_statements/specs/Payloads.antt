-- Errors of the payloads of a function.
use Rattle.std.specs.Prelude.{◌≡◌, ◌≢◌, ◌⊎◌, ℕ, ◌==◌, Option, Some, None, if◌then◌else◌, option_map}
use Rattle.typing_errors.specs.declared.error.FunctionError.{FunctionError}
use Rattle.typing_errors.specs.declared.error.FunctionError.TheVariants as error
use Rattle.ir_blocks.specs.judged.Places.{Place, OccursAt}
use Rattle.ir_blocks.specs.judged.Plain.{PlainStatement, operation, ray_pipeline}
use Rattle.ir_blocks.specs.declared.operations.RayPipelineFunction.TheVariants.{TraceRay}
use Rattle.ir_flags.specs.Sets.{Has}
use Rattle.ir_flags.specs.declared.settings.ValidationFlags.{ValidationFlags}
use Rattle.ir_flags.specs.declared.settings.TheConstants.ValidationFlags.{BLOCKS}
use Rattle.ir_items.specs.judged.Plain.{PlainFunction, PlainModule}
use Rattle.spec_statements.specs.judged.BlockContext.{BlockContext}
use Rattle.spec_statements.specs.judged.Payloads.{HasPayload, PayloadsOK, IsPayloadAfter}
use Rattle.spec_statements.specs.judged.Variables.{variable_at}

-- ---- one payload

-- the payload type of a ray traced by a statement
abbrev pub payload_type : BlockContext → PlainStatement → Option ℕ
payload_type c (operation (ray_pipeline (TraceRay acceleration_structure descriptor payload))) = option_map (λ g. g.ty) (variable_at c.m c.f payload)
payload_type c _ = None

-- a type, if it is another one
abbrev pub unlike : (held : ℕ) → Option ℕ → Option ℕ
unlike held None = None
unlike held (Some type) = if type == held then None else Some type

-- ---- all of them

-- The statement at the place traces a ray with this payload type.
pub record TracesAt (m : PlainModule) (f : PlainFunction) (place : Place) (type : ℕ) : Type 0 where
  pub acceleration_structure : ℕ
  pub descriptor : ℕ
  pub payload : ℕ
  pub stands : OccursAt f.body place (operation (ray_pipeline (TraceRay acceleration_structure descriptor payload)))
  pub declared : option_map (λ g. g.ty) (variable_at m f payload) ≡ Some type

-- The payload at the place has another type than the one kept from before, or than another payload if none is kept.
pub record IsOtherPayload (m : PlainModule) (f : PlainFunction) (held : Option ℕ) (place : Place) (type before : ℕ) : Type 0 where
  pub traced : TracesAt m f place type
  pub earlier : (held ≡ Some before) ⊎ ((held ≡ None) × HasPayload m f before)
  pub differs : type ≢ before

abbrev pub IsPayloadsFaultAt : PlainModule → PlainFunction → (held : Option ℕ) → FunctionError → Place → Type 0
IsPayloadsFaultAt m f held (error.MismatchedPayloadType type before) p = IsOtherPayload m f held p type before
IsPayloadsFaultAt m f held _ p = ⊥

-- at some place
abbrev pub IsPayloadsFault : PlainModule → PlainFunction → (held : Option ℕ) → FunctionError → Type 0
IsPayloadsFault m f held e = (p : Place) × IsPayloadsFaultAt m f held e p

-- The payloads have one type, which is kept afterwards under BLOCKS.
pub record AreOfOneType (m : PlainModule) (f : PlainFunction) (held after : Option ℕ) : Type 0 where
  pub payloads : PayloadsOK m f held
  pub held_after : (flags : ValidationFlags) → Has flags.0 BLOCKS.0 → IsPayloadAfter flags m f held after
