-- The line of a row of the report; the lines of buffers and of their leaves, each with a line feed: a line represents the leaves of its row (`stands_for`).
use Rattle.std.specs.Prelude.{ℕ, ◌+◌, List, [], ◌∷◌, ◌++◌, if◌then◌else◌, codes, decimal, flat_map, string_bytes}
use Rattle.ir_items.specs.judged.GlobalPlain.{PlainGlobal}
use Rattle.ir_items.specs.judged.Plain.{PlainModule}
use Rattle.ir_types.specs.judged.Plain.{PlainType}
use Rattle.judgement_rows.specs.declared.rows.Uses.{Uses}
use Rattle.judgement_rows.specs.declared.rows.ReportRow.{ReportRow}
use Rattle.judgement_rows.specs.declared.rows.ReportRow.TheVariants.{Buffer, Entry, Payload, Mesh, Global, Sample}
use Rattle.judgement_rows.specs.declared.rows.Repeat.{Repeat}
use Rattle.judgement_rows.specs.declared.rows.ListingRow.{ListingRow}
use Rattle.judgement_rows.specs.declared.rows.ListingRow.TheVariants.{Buffer as listed_buffer, Leaf as listed_leaf}
use Rattle.spec_expressions.specs.declared.global_use.GlobalUse.{GlobalUse}
use Rattle.spec_expressions.specs.declared.global_use.TheConstants.GlobalUse.{READ, WRITE, QUERY, ATOMIC}
use Rattle.judgement_report.specs.Paths.{path_along, parts_at, stride_words}
use Rattle.judgement_report.specs.Runs.{Step, Row, listed}
use Rattle.judgement.specs.judged.BufferLaws.{buffer_type}
use Rattle.spec_interface.specs.judged.Spaces.{effective_type}
use Rattle.judgement.specs.judged.Lines.{each_from, is_buffer, buffer_line, has, head_line, pair_line, word_if}
use Rattle.typing_layout.specs.judged.Layout.{size, alignment}

-- the uses of a global variable, by name
abbrev pub uses_of : GlobalUse → Uses
uses_of kinds = record { read = has kinds READ; write = has kinds WRITE; query = has kinds QUERY; atomic = has kinds ATOMIC }

abbrev pub row_words : Uses → List ℕ
row_words uses = word_if uses.read (codes "read") ++ word_if uses.write (codes "write") ++ word_if uses.query (codes "query") ++ word_if uses.atomic (codes "atomic")

-- the line of a row of the report
abbrev pub row_line : ReportRow → List ℕ
row_line (Buffer b) = buffer_line b.global b.size b.alignment
row_line (Entry number) = head_line number
row_line (Payload global) = codes "payload" ++ codes " " ++ decimal global ++ codes "\n"
row_line (Mesh global) = codes "mesh" ++ codes " " ++ decimal global ++ codes "\n"
row_line (Global global uses) = codes "global " ++ decimal global ++ row_words uses ++ codes "\n"
row_line (Sample image sampler) = pair_line (image, sampler)

-- a path without steps is written as a dot
abbrev pub path_word : (path : List ℕ) → List ℕ
path_word [] = codes "."
path_word (b ∷ bs) = b ∷ bs

-- a leaf by its path, its offset, its size and its alignment
abbrev pub leaf_place : (path : List ℕ) → (first length alignment : ℕ) → List ℕ
leaf_place path first length alignment = codes "leaf " ++ path_word path ++ codes " " ++ decimal first ++ codes " " ++ decimal length ++ codes " " ++ decimal alignment

-- the same, and the strides of repeated elements, outermost first
abbrev pub leaf_line : (path strides : List ℕ) → (first length alignment : ℕ) → List ℕ
leaf_line path strides first length alignment = leaf_place path first length alignment ++ strides ++ codes "\n"

-- the strides of the elements around a leaf
abbrev pub repeat_words : List Repeat → List ℕ
repeat_words repeats = flat_map (λ (r : Repeat). codes " stride " ++ decimal r.stride) repeats

-- the line of a row of a listing
abbrev pub listing_line : ListingRow → List ℕ
listing_line (listed_buffer b) = buffer_line b.global b.size b.alignment
listing_line (listed_leaf l) = leaf_line (string_bytes l.path) (repeat_words l.repeats.items) l.first l.len l.alignment

abbrev pub listing_lines : List ListingRow → List ℕ
listing_lines rows = flat_map listing_line rows

-- of the rows of a value at an offset, where `text` writes their paths, after the strides of its parents
abbrev pub row_lines : (text : List Step → List ℕ) → (strides : List ℕ) → (start : ℕ) → List Row → List ℕ
row_lines text strides start [] = []
row_lines text strides start (r ∷ rs) = leaf_line (text r.steps) (strides ++ stride_words r.steps) (start + r.first) r.length r.alignment ++ row_lines text strides start rs

-- of the rows of a global variable, with one element for a runtime-sized array
abbrev pub leaves_of : List PlainType → PlainGlobal → List ℕ
leaves_of types v = row_lines (path_along types [] (parts_at types (effective_type types v.ty))) [] 0 (listed (buffer_type types v))

-- of a global variable, if it is a buffer: its line of the report, followed by those of its leaves
abbrev pub described : List PlainType → (number : ℕ) → PlainGlobal → List ℕ
described types number v =
    if is_buffer v.space then buffer_line number (size (buffer_type types v)) (alignment (buffer_type types v)) ++ leaves_of types v else []

-- of all buffers of a module, in order
abbrev pub leaf_report : PlainModule → List ℕ
leaf_report m = each_from (described m.types) 0 m.globals
