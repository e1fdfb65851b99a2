use Rattle.std.proofs.Common.{refl, ap, ◌∙◌}
use Rattle.ir_items.specs.found.Copies.{spanned_module}
use Rattle.ir_items.specs.found.Lists.{module_of}
use Rattle.ir_items.proofs.CopyLemmas.{same_module}
use Rattle.ir_items.proofs.module.Module.clone.Goals as goal

pub returns : goal.returns
returns c =
    let source = c.args.self.now in
    let types = c.in_ok-types.types in
    let globals = c.in_ok-globals.globals in
    let code = c.in_ok-code.code in
    ap spanned_module c.of_lists.ensures
    ∙ same_module (module_of types globals code source.diagnostic_filter_leaf) source c.in_ok-types.ensures.types c.in_ok-types.ensures.special
    c.in_ok-globals.ensures.constants c.in_ok-globals.ensures.overrides c.in_ok-globals.ensures.variables c.in_ok-globals.ensures.expressions
    c.in_ok-code.ensures.functions c.in_ok-code.ensures.entries c.in_ok-code.ensures.filters refl
