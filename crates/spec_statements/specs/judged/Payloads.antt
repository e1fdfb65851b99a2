-- The ray payloads of a module have the same type.
use Rattle.std.specs.Prelude.{◌≡◌, ℕ, Option, Some, None, option_map}
use Rattle.ir_blocks.specs.judged.Places.{Place, OccursAt}
use Rattle.ir_blocks.specs.judged.Plain.{ray_pipeline, operation}
use Rattle.ir_blocks.specs.declared.operations.RayPipelineFunction.TheVariants.{TraceRay}
use Rattle.ir_flags.specs.Sets.{Has}
use Rattle.ir_flags.specs.declared.settings.ValidationFlags.{ValidationFlags}
use Rattle.ir_flags.specs.declared.settings.TheConstants.ValidationFlags.{BLOCKS}
use Rattle.spec_expressions.specs.IrItems.{PlainFunction, PlainModule}
use Rattle.spec_statements.specs.judged.Variables.{variable_at}

-- the function traces a ray with a payload of this type: that of a global variable
pub record HasPayload (m : PlainModule) (f : PlainFunction) (type : ℕ) : Type 0 where
  pub place : Place
  pub acceleration_structure : ℕ
  pub descriptor : ℕ
  pub payload : ℕ
  pub stands : OccursAt f.body place (operation (ray_pipeline (TraceRay acceleration_structure descriptor payload)))
  pub declared : option_map (λ g. g.ty) (variable_at m f payload) ≡ Some type

-- The payloads of a function have the type kept from before, if there is one, and the same type.
pub record PayloadsOK (m : PlainModule) (f : PlainFunction) (held : Option ℕ) : Type 0 where
  pub as_before : (type before : ℕ) → HasPayload m f type → held ≡ Some before → type ≡ before
  pub one : (type other : ℕ) → HasPayload m f type → HasPayload m f other → type ≡ other

-- The payload type kept after a function: under BLOCKS the type from before, or else that of its payloads; and without BLOCKS the
-- type from before.
pub record IsPayloadAfter (flags : ValidationFlags) (m : PlainModule) (f : PlainFunction) (held after : Option ℕ) : Type 0 where
  pub kept : (before : ℕ) → held ≡ Some before → after ≡ Some before
  pub found : Has flags.0 BLOCKS.0 → (type : ℕ) → HasPayload m f type → held ≡ None → after ≡ Some type
  pub none : held ≡ None → ((type : ℕ) → HasPayload m f type → ⊥) → after ≡ None
  pub unasked : (Has flags.0 BLOCKS.0 → ⊥) → after ≡ held
