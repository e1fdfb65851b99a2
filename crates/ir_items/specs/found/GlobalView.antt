-- The plain data of a module's items other than functions.
use Rattle.std.specs.Prelude.{List, [], None, option_map, string_bytes, map}
use Rattle.ir_blocks.specs.IrArena.{Span}
use Rattle.ir_items.specs.judged.GlobalPlain.{PlainConstant, PlainOverride, PlainGlobal, PlainRule, standard, unknown, user, PlainFilterNode, PlainSpecialTypes}
use Rattle.ir_items.specs.declared.globals.Constant.{Constant}
use Rattle.ir_items.specs.declared.globals.Override.{Override}
use Rattle.ir_items.specs.declared.globals.GlobalVariable.{GlobalVariable}
use Rattle.ir_items.specs.declared.filters.FilterableTriggeringRule.{FilterableTriggeringRule}
use Rattle.ir_items.specs.declared.filters.FilterableTriggeringRule.TheVariants as rule
use Rattle.ir_items.specs.declared.filters.DiagnosticFilterNode.{DiagnosticFilterNode}
use Rattle.ir_items.specs.declared.special.SpecialTypes.{SpecialTypes}

-- the values of an arena, without their spans
abbrev pub values_of : {T : Type 0} → List (T × Span) → List T
values_of entries = map (λ e. e.0) entries

abbrev pub constant_view : Constant → PlainConstant
constant_view c = record { name = option_map string_bytes c.name; ty = c.ty; init = c.init }

abbrev pub override_view : Override → PlainOverride
override_view o = record { name = option_map string_bytes o.name; id = o.id; ty = o.ty; init = o.init }

abbrev pub global_view : GlobalVariable → PlainGlobal
global_view g = record {
  name = option_map string_bytes g.name;
  space = g.space;
  binding = g.binding;
  ty = g.ty;
  init = g.init;
  decorations = g.memory_decorations;
}

abbrev pub rule_view : FilterableTriggeringRule → PlainRule
rule_view (rule.Standard r) = standard r
rule_view (rule.Unknown name) = unknown (string_bytes name)
rule_view (rule.User tool name) = user (string_bytes tool) (string_bytes name)

abbrev pub node_view : DiagnosticFilterNode → PlainFilterNode
node_view n = record { severity = n.inner.new_severity; rule = rule_view n.inner.triggering_rule; parent = n.parent }

abbrev pub special_view : SpecialTypes → PlainSpecialTypes
special_view s = record {
  ray_desc = s.ray_desc;
  ray_intersection = s.ray_intersection;
  ray_vertex_return = s.ray_vertex_return;
  predeclared = s.predeclared_types.entries;
}

abbrev pub no_special : PlainSpecialTypes
no_special = record { ray_desc = None; ray_intersection = None; ray_vertex_return = None; predeclared = [] }
