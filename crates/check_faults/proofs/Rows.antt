-- The element at an index of a row, by the entry there.
use Rattle.std.proofs.Common.{◌≡◌, ◌∙◌, ◌<◌, ℕ, List, Some, ap, length, map, option_map, slice_get, slice_index_or, sym, Bor}
use Rattle.std.proofs.lemmas.Option.{slice_get-get_or, slice_get-map}
use Rattle.check_faults.specs.declared.parts.Part.{Part}
use Rattle.check_faults.specs.declared.parts.Part.TheVariants as parts
use Rattle.check_faults.specs.declared.parts.Row.{Row}
use Rattle.check_faults.specs.Tables.{part_inside, part_or_plain, row_parts, spelled}

pub entry_inside : (row : Row) (xs : List (Bor (List ℕ) × Part)) (i : ℕ) (e : Bor (List ℕ) × Part) → map spelled xs ≡ row_parts row → i < length xs → e ≡ slice_index_or xs i e → e.1 ≡ part_inside (parts.Row row) i
entry_inside row xs i e same within is =
    let found : slice_get xs i ≡ Some e = slice_get-get_or xs i e within ∙ ap Some (sym is) in
    sym (ap part_or_plain (ap (λ t. slice_get t i) (sym same) ∙ slice_get-map spelled xs i ∙ ap (option_map spelled) found))
