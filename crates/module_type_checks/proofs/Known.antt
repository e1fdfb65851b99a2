-- The facts about an earlier type, from its `TypeInner`.
use Rattle.std.proofs.Common.{◌≡◌, ◌<◌, ◌↔◌, ℕ, Some, Bool, IsTrue, length, slice_get, get_or, sym, ap, subst, ◌∙◌, if◌then◌else◌}
use Rattle.std.proofs.lemmas.Option.{slice_get-get_or}
use Rattle.ir_types.specs.judged.Plain.{PlainInner}
use Rattle.typing_layout.specs.judged.Buffers.{uniform_alignment, free_after}
use Rattle.typing_layout.specs.judged.Parts.{TreeMember, end_of}
use Rattle.typing_layout.specs.judged.Rules.{IsBindingArrayBase}
use Rattle.typing_layout.proofs.Trees.{tree_by_trees}
use Rattle.typing_layout.specs.judged.Layout.{alignment}
use Rattle.typing_layout.specs.judged.Tree.{Tree}
use Rattle.typing_layout.specs.judged.View.{tree_by}
use Rattle.module_type_checks.specs.Known.{types_in, tree_in, IsKnown, AreFacts}
use Rattle.module_type_checks.specs.declared.context.TypeContext.{TypeContext}
use Rattle.module_type_checks.specs.declared.facts.Facts.{Facts}
use Rattle.typing_layout.specs.declared.info.TypeInfo.{TypeInfo}
use Rattle.typing_layout.specs.TypingForms.{inner_at, rounded_up}
use Rattle.typing_layout.specs.found.Held.{IsLayoutOf}
use Rattle.typing_layout.specs.declared.layout.TypeLayout.{TypeLayout}

pub tree_of : (c : TypeContext) (handle : ℕ) (i : PlainInner) → IsKnown c → Some i ≡ inner_at (types_in c) handle → tree_in c handle ≡ tree_by (tree_in c) i
tree_of c handle i known at = tree_by_trees (types_in c) known.back handle i (sym at)

pub facts_from : (c : TypeContext) (handle : ℕ) (i : PlainInner) (l : TypeLayout) (k : ℕ) (info : TypeInfo) (f : Facts) → IsKnown c → handle < length c.infos.now → Some i ≡ inner_at (types_in c) handle
    → slice_get c.layouter.now handle ≡ Some l → k ≡ handle → f.info ≡ get_or c.infos.now k info → f.size ≡ l.size → f.alignment ≡ l.alignment
    → ((tree : ℕ → Tree) → l.alignment ≡ alignment (tree_by tree i) → f.uniform_alignment ≡ uniform_alignment (tree_by tree i))
    → ((tree : ℕ → Tree) (p : TreeMember) → free_after p (tree_by tree i) ≡ (if f.is_struct then rounded_up 16 (end_of p) else 0)) → AreFacts c (tree_in c handle) f
facts_from c handle i l k info f known lt at laid index told bytes aligned uniform behind =
    let step : tree_in c handle ≡ tree_by (tree_in c) i = tree_of c handle i known at in
    let has : IsLayoutOf (tree_in c handle) l = known.held.each handle l laid in
    let here : f.info ≡ get_or c.infos.now handle info = told ∙ ap (λ n. get_or c.infos.now n info) index in
    record {
      bytes = bytes ∙ has.size;
      aligned = aligned ∙ has.alignment;
      uniform = uniform (tree_in c) (has.alignment ∙ ap alignment step) ∙ ap uniform_alignment (sym step);
      behind = λ p. ap (free_after p) step ∙ behind (tree_in c) p;
      info = known.told.each handle f.info (slice_get-get_or c.infos.now handle info lt ∙ ap Some (sym here));
    }

pub bound_from : (c : TypeContext) (handle : ℕ) (i : PlainInner) (r : Bool) → IsKnown c → Some i ≡ inner_at (types_in c) handle → ((tree : ℕ → Tree) → IsTrue r ↔ IsBindingArrayBase (tree_by tree i))
    → IsTrue r ↔ IsBindingArrayBase (tree_in c handle)
bound_from c handle i r known at is = subst (λ t. IsTrue r ↔ IsBindingArrayBase t) (sym (tree_of c handle i known at)) (is (tree_in c))
