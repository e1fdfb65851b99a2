-- The view of the context.
use Rattle.std.specs.Prelude.{◌≡◌, length}
use Rattle.spec_interface.specs.judged.Contexts.{VaryingContext as PlainContext}
use Rattle.module_type_checks.specs.Known.{AreInfos}
use Rattle.typing_forms.specs.judged.Resolutions.{types_view}
use Rattle.function_varying_checks.specs.declared.context.VaryingContext.{VaryingContext}

abbrev pub context_view : VaryingContext → PlainContext
context_view c = record {
  flags = c.flags;
  capabilities = c.capabilities;
  types = types_view c.types.now;
  stage = c.stage;
  sizes = c.workgroup_size;
  payload = c.task_payload;
  direction = c.direction;
}

-- the `TypeInfo`s are those of all types of the module
pub record IsReported (c : VaryingContext) : Type 0 where
  pub told : AreInfos (types_view c.types.now) c.infos.now
  pub many : length c.infos.now ≡ length (types_view c.types.now)
