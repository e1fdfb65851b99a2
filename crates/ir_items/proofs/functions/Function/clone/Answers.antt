use Rattle.std.proofs.Common.{map, refl, ap, ◌∙◌}
use Rattle.ir_items.specs.found.View.{argument_view}
use Rattle.ir_items.specs.declared.functions.Function.{Function}
use Rattle.ir_items.proofs.CopyLemmas.{same_function}
use Rattle.ir_items.proofs.functions.Function.clone.Goals as goal

pub returns : goal.returns
returns c =
    let copy : Function = record {
      name = c.in_ok-clone_name.field-0;
      arguments = c.in_ok-copy_list.field-0;
      result = c.args.self.now.result;
      local_variables = c.in_ok-clone.field-0;
      expressions = c.in_ok-clone-2.field-0;
      body = c.in_ok-clone-3.field-0;
      diagnostic_filter_leaf = c.args.self.now.diagnostic_filter_leaf;
    } in
    same_function copy c.args.self.now c.in_ok-clone_name.ensures (c.in_ok-copy_list.ensures ∙ ap (map argument_view) c.deref.ensures.value) refl c.in_ok-clone.ensures c.in_ok-clone-2.ensures c.in_ok-clone-3.ensures.statements c.in_ok-clone-3.ensures.spans refl
