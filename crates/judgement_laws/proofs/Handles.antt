-- Valid handles stay valid.
use Rattle.std.proofs.Common.{◌≡◌, ℕ, Some, List, slice_get, sym, subst}
use Rattle.std.specs.Prelude.{◌<◌, Contains}
use Rattle.ir_blocks.specs.judged.Plain.{PlainBlock}
use Rattle.ir_items.specs.judged.Plain.{PlainFunction, PlainEntry, PlainModule}
use Rattle.spec_expressions.specs.declared.target.Target.TheVariants as target
use Rattle.spec_expressions.specs.judged.ItemNames.{mesh_types, mesh_expressions, entry_variables}
use Rattle.spec_expressions.specs.judged.References.{Named, item, operand, range, IsThere}
use Rattle.spec_expressions.specs.judged.FunctionHandles.{HandlesInRange}
use Rattle.spec_expressions.specs.judged.ModuleReferences as in_module
use Rattle.spec_expressions.specs.judged.ModuleReferences.{NamesIn, IsThereIn}
use Rattle.spec_expressions.specs.judged.Order as order
use Rattle.spec_expressions.specs.judged.Order.{Ordered, NamesType, DependsOn}
use Rattle.spec_expressions.specs.judged.ModuleHandles.{HandlesOK}
use Rattle.judgement_laws.specs.judged.Like.{Matched, LikeFunction, LikeEntry, LikeModule}
use Rattle.judgement_laws.specs.found.ReturnLaws.{ReturnsKeepHandles}
use Rattle.judgement_laws.proofs.Likeness.{function_back, module_back, over_like, like_returned}
use Rattle.judgement_laws.proofs.Named.{names_move}
use Rattle.judgement_laws.proofs.Calls.{same_expressions}

module _ (m : PlainModule) (functions : List PlainFunction) (entries : List PlainEntry) (like_functions : Matched LikeFunction m.functions functions) (like_entries : Matched LikeEntry m.entries entries) where
  abbrev n : PlainModule
  n = record m { functions = functions; entries = entries }

  names_in : (part : in_module.ModulePart) (named : Named) → NamesIn m part named → NamesIn n part named
  names_in _ _ (in_module.type_names a b) = in_module.type_names a b
  names_in _ _ (in_module.type_counts a b) = in_module.type_counts a b
  names_in _ _ (in_module.filter_names a b) = in_module.filter_names a b
  names_in _ _ (in_module.override_value a b) = in_module.override_value a b
  names_in _ _ (in_module.expression_names a b) = in_module.expression_names a b
  names_in _ _ (in_module.expression_reads a b) = in_module.expression_reads a b
  names_in _ _ (in_module.variable_value a b) = in_module.variable_value a b
  names_in _ _ (in_module.special_names a) = in_module.special_names a
  names_in _ _ (in_module.leaf_names a) = in_module.leaf_names a
  names_in _ _ (in_module.constant_type a) = in_module.constant_type a
  names_in _ _ (in_module.constant_value a) = in_module.constant_value a
  names_in _ _ (in_module.override_type a) = in_module.override_type a
  names_in _ _ (in_module.variable_type a) = in_module.variable_type a
  names_in _ _ (in_module.entry_type {k = k} {t = w} {x = x} a b) = let y = like_entries.there k x a in in_module.entry_type y.1 (subst (λ z. Contains (mesh_types z.mesh) w) (sym y.2.rest) b)
  names_in _ _ (in_module.entry_expression {k = k} {e = w} {x = x} a b) = let y = like_entries.there k x a in in_module.entry_expression y.1 (subst (λ z. Contains (mesh_expressions z.mesh) w) (sym y.2.rest) b)
  names_in _ _ (in_module.entry_variable {k = k} {v = w} {x = x} a b) = let y = like_entries.there k x a in in_module.entry_variable y.1 (subst (λ z. Contains (entry_variables z) w) (sym y.2.rest) b)

  depends : (a b : Ordered) → DependsOn m a b → DependsOn n a b
  depends _ _ (order.type_on_named a b) = order.type_on_named a b
  depends _ _ (order.type_on_override a b c) = order.type_on_override a b c
  depends _ _ (order.type_on_expression {t = t} {y = y} a b c d e f g) = order.type_on_expression a b c d e f (names_type y t g)
    where
      names_type : (x : _) (t : ℕ) → NamesType m x t → NamesType n x t
      names_type x _ (order.by_itself a) = order.by_itself a
      names_type x _ (order.by_constant a b) = order.by_constant a b
      names_type x _ (order.by_override a b) = order.by_override a b
  depends _ _ (order.filter_on_parent a b) = order.filter_on_parent a b
  depends _ _ (order.expression_on_operand a b) = order.expression_on_operand a b
  depends _ _ (order.expression_on_constant a b c) = order.expression_on_constant a b c
  depends _ _ (order.expression_on_override a b c d) = order.expression_on_override a b c d
  depends _ _ (order.function_on_callee {i = i} {f = f} {site = site} a b) = let y = like_functions.there i f a in order.function_on_callee y.1 (names_move y.2 site _ b)
  depends _ _ (order.inside_function {i = i} {e = e} {f = f} {x = x} a b c) = let y = like_functions.there i f a in order.inside_function y.1 (subst (λ xs. slice_get xs e ≡ Some x) (same_expressions y.2) b) c
  depends _ _ (order.inside_entry {k = k} {e = e} {entry = z} {x = x} a b c) = let y = like_entries.there k z a in order.inside_entry y.1 (subst (λ xs. slice_get xs e ≡ Some x) (same_expressions y.2.function) b) c

  there_in : (named : Named) → IsThereIn m named → IsThereIn n named
  there_in (item (target.Function h)) x = subst (λ k. h < k) like_functions.many x
  there_in (item t) x = x
  there_in (operand e) x = x
  there_in (range r) x = x

  there_inside : (f : PlainFunction) (body : PlainBlock) (named : Named) → IsThere m f named → IsThere n (record f { body = body }) named
  there_inside f body (item (target.Function h)) x = subst (λ k. h < k) like_functions.many x
  there_inside f body (item t) x = x
  there_inside f body (operand e) x = x
  there_inside f body (range r) x = x

-- ---- over the relation

names_in_move : (a b : PlainModule) → LikeModule a b → (part : in_module.ModulePart) (named : Named) → NamesIn a part named → NamesIn b part named
names_in_move a b l part named x = subst (λ z. NamesIn z part named) (sym l.rest) (names_in a b.functions b.entries l.functions l.entries part named x)

depends_move : (a b : PlainModule) → LikeModule a b → (x y : Ordered) → DependsOn a x y → DependsOn b x y
depends_move a b l x y d = subst (λ z. DependsOn z x y) (sym l.rest) (depends a b.functions b.entries l.functions l.entries x y d)

there_move : (a b : PlainModule) → LikeModule a b → (named : Named) → IsThereIn a named → IsThereIn b named
there_move a b l named x = subst (λ z. IsThereIn z named) (sym l.rest) (there_in a b.functions b.entries l.functions l.entries named x)

range_move : (a b : PlainModule) (f g : PlainFunction) → LikeModule a b → LikeFunction f g → HandlesInRange a f → HandlesInRange b g
range_move a b f g l k ok site named x =
    over_like (λ m h. IsThere m h named) l k (there_inside a b.functions b.entries l.functions l.entries f g.body named (ok site named (names_move (function_back k) site named x)))

pub handles_move : (a b : PlainModule) → LikeModule a b → HandlesOK a → HandlesOK b
handles_move a b l ok = record {
  there = λ part named x. there_move a b l named (ok.there part named (names_in_move b a (module_back l) part named x));
  functions = λ i g at. (let f = l.functions.back i g at in range_move a b f.0 g l f.2 (ok.functions i f.0 f.1));
  entries = λ k y at. (let x = l.entries.back k y at in range_move a b x.0.function y.function l x.2.function (ok.entries k x.0 x.1));
  back = λ x y d. ok.back x y (depends_move b a (module_back l) x y d);
}

pub returns_keep_handles : ReturnsKeepHandles
returns_keep_handles d m none r = let l = like_returned d m none r in (handles_move d m l, handles_move m d (module_back l))
