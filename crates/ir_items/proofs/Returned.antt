-- The module with missing returns added, and its spans.
use Rattle.std.proofs.Common.{◌≡◌, List, [], ◌∷◌, map, refl, sym, ap, subst, ◌∙◌}
use Rattle.std.specs.List.{AllZip}
use Rattle.ir_blocks.proofs.OneCompleted.{one_completed}
use Rattle.ir_blocks.proofs.InStepLaws.{always_in_step}
use Rattle.ir_blocks.proofs.SpanLaws.{spans_completed}
use Rattle.ir_blocks.proofs.TailLaws.{is_completed}
use Rattle.ir_blocks.specs.found.View.{block_view, block_spans}
use Rattle.ir_blocks.specs.IrArena.{entry_of}
use Rattle.ir_items.specs.found.Copies.{SpannedModule, spanned_function, spanned_entry, spanned_module}
use Rattle.ir_items.specs.judged.Plain.{PlainFunction, PlainEntry, PlainModule}
use Rattle.ir_items.specs.judged.Returned.{IsReturnedFunction, IsReturnedEntry, IsReturned, KeepsFunctionSpans, KeepsEntrySpans, KeepsSpansAt, KeepsModuleSpans, returned_function, returned_entry, returned_module, returned_function_spans, returned_entry_spans, returned_module_spans}
use Rattle.ir_items.specs.declared.functions.Function.{Function}
use Rattle.ir_items.specs.declared.entries.EntryPoint.{EntryPoint}
use Rattle.ir_items.specs.declared.module.Module.{Module}

-- ---- place by place

each_related : {A B : Type 0} (R : A → B → Type 0) (f : A → B) → ((x : A) → R x (f x)) → (xs : List A) → AllZip R xs (map f xs)
each_related R f one [] = tt
each_related R f one (x ∷ xs) = (one x, each_related R f one xs)

-- the same for the views
each_seen : {A B C : Type 0} (view : A → B) (R : B → C → Type 0) (f : B → C) → ((x : A) → R (view x) (f (view x))) → (xs : List A) → AllZip R (map view xs) (map f (map view xs))
each_seen view R f one [] = tt
each_seen view R f one (x ∷ xs) = (one x, each_seen view R f one xs)

each_is : {A B : Type 0} (R : A → B → Type 0) (f : A → B) → ((x : A) (y : B) → R x y → y ≡ f x) → (xs : List A) (ys : List B) → AllZip R xs ys → ys ≡ map f xs
each_is R f one [] [] h = refl
each_is R f one [] (y ∷ ys) h = absurd h
each_is R f one (x ∷ xs) [] h = absurd h
each_is R f one (x ∷ xs) (y ∷ ys) h = λ i. one x y h.0 i ∷ each_is R f one xs ys h.1 i

-- ---- the function satisfies the specification

function_returned : (f : PlainFunction) → IsReturnedFunction f (returned_function f)
function_returned f = record { body = is_completed f.body; rest = refl }

entry_returned : (e : PlainEntry) → IsReturnedEntry e (returned_entry e)
entry_returned e = record { function = function_returned e.function; rest = refl }

pub returned_by_bodies : (m : PlainModule) → IsReturned m (returned_module m)
returned_by_bodies m = record {
  functions = each_related IsReturnedFunction returned_function function_returned m.functions;
  entries = each_related IsReturnedEntry returned_entry entry_returned m.entries;
  rest = refl;
}

pub is_returned : (m n : PlainModule) → n ≡ returned_module m → IsReturned m n
is_returned m n e = subst (IsReturned m) (sym e) (returned_by_bodies m)

-- ---- uniqueness

one_function : (f g : PlainFunction) → IsReturnedFunction f g → g ≡ returned_function f
one_function f g h = h.rest ∙ ap (λ b. record f { body = b }) (one_completed f.body g.body h.body)

one_entry : (d e : PlainEntry) → IsReturnedEntry d e → e ≡ returned_entry d
one_entry d e h = h.rest ∙ ap (λ f. record d { function = f }) (one_function d.function e.function h.function)

pub one_returned : (m n : PlainModule) → IsReturned m n → n ≡ returned_module m
one_returned m n h =
    let functions = each_is IsReturnedFunction returned_function one_function m.functions n.functions h.functions in
    let entries = each_is IsReturnedEntry returned_entry one_entry m.entries n.entries h.entries in
    h.rest ∙ (λ i. record m { functions = functions i; entries = entries i })

-- ---- spans

function_keeps : (f : Function) → KeepsFunctionSpans (spanned_function f) (returned_function_spans (spanned_function f))
function_keeps f = record { body = spans_completed (block_view f.body) (block_spans f.body) (always_in_step f.body).1; rest = refl }

entry_keeps : (e : EntryPoint) → KeepsEntrySpans (spanned_entry e) (returned_entry_spans (spanned_entry e))
entry_keeps e = record { function = function_keeps e.function; rest = refl }

module_keeps : (m : Module) → KeepsModuleSpans (spanned_module m) (returned_module_spans (spanned_module m))
module_keeps m = record {
  functions = each_seen (entry_of spanned_function) KeepsSpansAt (entry_of returned_function_spans) (λ f. (function_keeps f.0, refl)) m.functions;
  entries = each_seen spanned_entry KeepsEntrySpans returned_entry_spans entry_keeps m.entry_points.items;
  rest = refl;
}

pub keeps_module_spans : (m : Module) (n : SpannedModule) → n ≡ returned_module_spans (spanned_module m) → KeepsModuleSpans (spanned_module m) n
keeps_module_spans m n e = subst (KeepsModuleSpans (spanned_module m)) (sym e) (module_keeps m)
