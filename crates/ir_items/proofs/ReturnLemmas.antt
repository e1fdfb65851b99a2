-- A module whose functions and entry points were replaced.
use Rattle.std.proofs.Common.{◌≡◌, List, [], ◌∷◌, Result, Ok, Err, OnErr, map, refl, sym, ap, ◌∙◌}
use Rattle.std.specs.Prelude.{Vec}
use Rattle.std.specs.declared.alloc.Global.{Global}
use Rattle.ir_blocks.specs.IrArena.{Span, entry_of}
use Rattle.ir_items.specs.found.GlobalView.{values_of}
use Rattle.ir_items.specs.found.Copies.{SpannedFunction, SpannedEntry, spanned_function, spanned_entry, spanned_module}
use Rattle.ir_items.specs.judged.Returned.{returned_function, returned_entry, returned_function_spans, returned_entry_spans, returned_module_spans}
use Rattle.ir_items.specs.found.View.{function_view, entry_view}
use Rattle.ir_items.specs.declared.entries.EntryPoint.{EntryPoint}
use Rattle.ir_items.specs.declared.functions.Function.{Function}
use Rattle.ir_items.specs.declared.module.Module.{Module}
use Rattle.ir_items.proofs.CopyLemmas.{plain_entries, same_module}

-- the module with its functions and entry points replaced
abbrev pub with_code : Module → List (Function × Span) → Vec EntryPoint Global → Module
with_code m functions entries = record m { functions = functions; entry_points = entries }

-- if they have the same views, so has the module
pub module_stays : (m : Module) (functions : List (Function × Span)) (entries : Vec EntryPoint Global)
    → map (entry_of spanned_function) functions ≡ map (entry_of spanned_function) m.functions → map spanned_entry entries.items ≡ map spanned_entry m.entry_points.items
    → spanned_module (with_code m functions entries) ≡ spanned_module m
module_stays m functions entries same same_entries =
    same_module (with_code m functions entries) m refl refl refl refl refl refl same same_entries refl refl

plain_functions : (fs : List (Function × Span)) → map function_view (values_of fs) ≡ map (λ (s : SpannedFunction × Span). s.0.plain) (map (entry_of spanned_function) fs)
plain_functions [] = refl
plain_functions (f ∷ fs) = ap (λ rest. function_view f.0 ∷ rest) (plain_functions fs)

plain_returned : (ss : List (SpannedFunction × Span)) → map (λ (s : SpannedFunction × Span). s.0.plain) (map (entry_of returned_function_spans) ss) ≡ map returned_function (map (λ (s : SpannedFunction × Span). s.0.plain) ss)
plain_returned [] = refl
plain_returned (s ∷ ss) = ap (λ rest. returned_function s.0.plain ∷ rest) (plain_returned ss)

plain_entries_returned : (ss : List SpannedEntry) → map (λ (s : SpannedEntry). s.plain) (map returned_entry_spans ss) ≡ map returned_entry (map (λ (s : SpannedEntry). s.plain) ss)
plain_entries_returned [] = refl
plain_entries_returned (s ∷ ss) = ap (λ rest. returned_entry s.plain ∷ rest) (plain_entries_returned ss)

-- if each body is completed, the module is completed
module_done : (m : Module) (functions : List (Function × Span)) (entries : Vec EntryPoint Global)
    → map (entry_of spanned_function) functions ≡ map (entry_of returned_function_spans) (map (entry_of spanned_function) m.functions)
    → map spanned_entry entries.items ≡ map returned_entry_spans (map spanned_entry m.entry_points.items)
    → spanned_module (with_code m functions entries) ≡ returned_module_spans (spanned_module m)
module_done m functions entries done entries_done =
    let before = spanned_module m in
    let plain : map function_view (values_of functions) ≡ map returned_function (map function_view (values_of m.functions)) =
    plain_functions functions ∙ (ap (map (λ (s : SpannedFunction × Span). s.0.plain)) done ∙ (plain_returned (map (entry_of spanned_function) m.functions) ∙ sym (ap (map returned_function) (plain_functions m.functions)))) in
    let plain_too : map entry_view entries.items ≡ map returned_entry (map entry_view m.entry_points.items) =
    plain_entries entries.items ∙ (ap (map (λ (s : SpannedEntry). s.plain)) entries_done ∙ (plain_entries_returned (map spanned_entry m.entry_points.items) ∙ sym (ap (map returned_entry) (plain_entries m.entry_points.items)))) in
    (λ i. record before {
      plain = record before.plain { functions = plain i; entries = plain_too i };
      functions = done i;
      entries = entries_done i;
    })

-- what always holds also holds on an error
pub on_err : {T E P : Type 0} (r : Result T E) → P → OnErr r P
on_err (Ok x) p = tt
on_err (Err e) p = p

-- the same if room was reserved before
pub returned_after : (m : Module) (roomy functions : List (Function × Span)) (roomy_entries entries : Vec EntryPoint Global)
    → map (entry_of spanned_function) roomy ≡ map (entry_of spanned_function) m.functions → map spanned_entry roomy_entries.items ≡ map spanned_entry m.entry_points.items
    → map (entry_of spanned_function) functions ≡ map (entry_of returned_function_spans) (map (entry_of spanned_function) roomy)
    → map spanned_entry entries.items ≡ map returned_entry_spans (map spanned_entry roomy_entries.items)
    → spanned_module (with_code m functions entries) ≡ returned_module_spans (spanned_module m)
returned_after m roomy functions roomy_entries entries same same_entries done entries_done =
    module_done m functions entries (done ∙ ap (map (entry_of returned_function_spans)) same) (entries_done ∙ ap (map returned_entry_spans) same_entries)
