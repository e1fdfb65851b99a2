use Rattle.std.proofs.Common.{sym, subst}
use Rattle.spec_interface.proofs.Places.{found}
use Rattle.ir_items.specs.found.GlobalView.{global_view}
use Rattle.ir_items.specs.found.View.{module_view}
use Rattle.function_entries.proofs.MeshLaws.{no_parts, variable_parts}
use Rattle.function_entries.specs.MeshFaults.{IsImpliedFault}
use Rattle.function_entries.proofs.meshes.fields_with.Goals as goal

pub returns-in-Ok-None-clause-fine : goal.returns-in-Ok-None-clause-fine
returns-in-Ok-None-clause-fine c =
    let m = module_view c.args.«module».now in
    let at = found global_view c.args.«module».now.global_variables c.args.variable c.index.result.now c.index.ensures in
    (subst (IsImpliedFault m c.args.variable) (sym c.new.ensures.error) (no_parts m c.args.variable (global_view c.index.result.now) at (rw c.in-Ok-None.field-0-is at c.in-Ok-None.ensures.found)), c.new.ensures.spans)

pub returns-in-Some-clause-fine : goal.returns-in-Some-clause-fine
returns-in-Some-clause-fine c =
    let m = module_view c.args.«module».now in
    let at = found global_view c.args.«module».now.global_variables c.args.variable c.index.result.now c.index.ensures in
    let f = c.in-Some.ensures in
    record {
      types = c.in-Ok-Some.parts;
      parts = variable_parts m c.args.variable (global_view c.index.result.now) at c.in-Ok-Some.parts (rw c.in-Ok-Some.field-0-is at c.in-Ok-Some.ensures.found);
      vertex_count = f.0;
      primitive_count = f.1;
      vertices = f.2;
      primitives = f.3;
    }

pub returns-in-None-clause-fine : goal.returns-in-None-clause-fine
returns-in-None-clause-fine c =
    let m = module_view c.args.«module».now in
    let at = found global_view c.args.«module».now.global_variables c.args.variable c.index.result.now c.index.ensures in (
      subst (IsImpliedFault m c.args.variable) (sym c.new-in-None.ensures.error)
          (record {
            types = c.in-Ok-Some.parts;
            parts = variable_parts m c.args.variable (global_view c.index.result.now) at c.in-Ok-Some.parts (rw c.in-Ok-Some.field-0-is at c.in-Ok-Some.ensures.found);
            bad = c.in-None.ensures;
          }),
      c.new-in-None.ensures.spans,
    )
