use Rattle.std.proofs.Common.{◌≡◌, rules, Some, ap, ◌∙◌}
use Rattle.serde_json.specs.Find.{as_array}
use Rattle.serde_json.specs.declared.value.Value.{the_lemmas}
use Rattle.serde_json.specs.View.{view, items_view}
use Rattle.document_reader.proofs.Seam.{err_if, document_refused}
use Rattle.document_reader.proofs.document.read_value.Goals as goal

pub returns-in_err-module-clause-refused : goal.returns-in_err-module-clause-refused
returns-in_err-module-clause-refused c =
    let array : Some (items_view c.in-Array.items.items) ≡ as_array (view c.args.value) = let is = c.in-Array.is in search (rules, the_lemmas) in
    err_if _ _ _ c.from_residual-in_err-module.ensures
    (λ e gives other.
    document_refused _ _ _ _ _ _ _ _ _ _ _ (ap (λ xs. Some (items_view xs)) c.deref_mut.ensures.value ∙ array) c.in_ok-parts.ensures c.in_ok-flags.ensures c.in_ok-capabilities.ensures c.in_ok-subgroup_stages.ensures c.in_ok-returns.ensures
    (c.in_err-module.ensures.refused (λ lack. other (let g = gives in let l = lack in cc))))
