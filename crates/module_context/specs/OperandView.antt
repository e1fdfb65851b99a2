-- The context of a check, as plain data.
use Rattle.std.specs.Prelude.{◌≡◌, List, length, map}
use Rattle.ir_types.specs.judged.ExpressionPlain.{PlainExpression, expression_view}
use Rattle.ir_items.specs.found.GlobalView.{values_of}
use Rattle.ir_types.specs.judged.Plain.{PlainType}
use Rattle.spec_statements.specs.judged.Scene.{Scene}
use Rattle.module_type_checks.specs.Known.{AreInfos}
use Rattle.typing_forms.specs.judged.Resolutions.{types_view}
use Rattle.typing_layout.specs.judged.Constness.{AreKinds}
use Rattle.module_context.specs.declared.check_context.CheckContext.{CheckContext}

abbrev pub types_in : CheckContext → List PlainType
types_in c = types_view c.types.now

abbrev pub expressions_in : CheckContext → List PlainExpression
expressions_in c = map expression_view (values_of c.expressions.now)

abbrev pub scene_in : CheckContext → Scene
scene_in c = record {
  capabilities = c.capabilities;
  types = types_in c;
  expressions = expressions_in c;
  forms = c.forms.now;
}

-- there is a `TypeInfo` for every type and a kind for every expression
pub record IsKnown (c : CheckContext) : Type 0 where
  pub told : AreInfos (types_in c) c.infos.now
  pub many : length c.infos.now ≡ length (types_in c)
  pub kinds : AreKinds (expressions_in c) c.kinds.now
