-- The lines of a report, each with a line feed.
use Rattle.std.specs.Prelude.{ℕ, suc, List, [], ◌∷◌, ◌++◌, Bool, false, ◌||◌, ◌&&◌, not, ◌==◌, if◌then◌else◌, Option, Some, None, bit_and, flat_map, codes, decimal}
use Rattle.spec_expressions.specs.declared.global_use.GlobalUse.{GlobalUse}
use Rattle.spec_expressions.specs.declared.global_use.TheConstants.GlobalUse.{READ, WRITE, QUERY, ATOMIC}
use Rattle.ir_items.specs.judged.GlobalPlain.{PlainGlobal}
use Rattle.ir_items.specs.judged.Plain.{PlainEntry, PlainModule}
use Rattle.ir_kinds.specs.declared.spaces.AddressSpace.{AddressSpace}
use Rattle.ir_types.specs.judged.Plain.{PlainType}
use Rattle.spec_interface.specs.judged.Spaces.{effective_type, space_row}
use Rattle.spec_interface.specs.judged.Uses.{mesh_output}
use Rattle.typing_layout.specs.judged.Layout.{size, alignment}
use Rattle.typing_layout.specs.judged.View.{type_tree}

-- the text for each item, by its index, in order
abbrev pub each_from : {X : Type 0} → (told : ℕ → X → List ℕ) → (first : ℕ) → List X → List ℕ
each_from told first [] = []
each_from told first (x ∷ xs) = told first x ++ each_from told (suc first) xs

-- ---- buffers

-- the address space is that of a buffer
abbrev pub is_buffer : AddressSpace → Bool
is_buffer space = (space_row space).buffer

-- a buffer by its index, size and alignment
abbrev pub buffer_line : (number bytes step : ℕ) → List ℕ
buffer_line number bytes step = codes "buffer " ++ decimal number ++ codes " size " ++ decimal bytes ++ codes " alignment " ++ decimal step ++ codes "\n"

-- of a global variable, if it is a buffer; for a binding array the layout of one element
abbrev pub buffer_of : List PlainType → (number : ℕ) → PlainGlobal → List ℕ
buffer_of types number v = let t = type_tree types (effective_type types v.ty) in if is_buffer v.space then buffer_line number (size t) (alignment t) else []

abbrev pub buffers : PlainModule → List ℕ
buffers m = each_from (buffer_of m.types) 0 m.globals

-- ---- global variables of an entry point

abbrev pub is_at : Option ℕ → ℕ → Bool
is_at o g = elim o [ None ↦ false | Some own ↦ own == g ]

-- it is the entry point's payload or mesh output, which have their own lines
abbrev pub is_own : PlainEntry → ℕ → Bool
is_own e g = is_at e.payload g || is_at (mesh_output e) g

abbrev pub own_line : (word : List ℕ) → Option ℕ → List ℕ
own_line word o = elim o [ None ↦ [] | Some g ↦ word ++ codes " " ++ decimal g ++ codes "\n" ]

-- the uses contain this flag
abbrev pub has : GlobalUse → (kind : GlobalUse) → Bool
has kinds kind = bit_and kinds.0 kind.0 == kind.0

-- the uses contain some flag
abbrev pub is_used : GlobalUse → Bool
is_used kinds = not (kinds.0 == 0)

-- a word appended, if a condition holds
abbrev pub word_if : Bool → (word : List ℕ) → List ℕ
word_if holds word = if holds then codes " " ++ word else []

abbrev pub use_words : GlobalUse → List ℕ
use_words kinds = word_if (has kinds READ) (codes "read") ++ word_if (has kinds WRITE) (codes "write") ++ word_if (has kinds QUERY) (codes "query") ++ word_if (has kinds ATOMIC) (codes "atomic")

-- of a global variable that is used and is neither payload nor mesh output
abbrev pub global_line : PlainEntry → (number : ℕ) → GlobalUse → List ℕ
global_line e number kinds = if not (is_own e number) && is_used kinds then codes "global " ++ decimal number ++ use_words kinds ++ codes "\n" else []

-- ---- entry points

-- an image and the sampler it is sampled with
abbrev pub pair_line : ℕ × ℕ → List ℕ
pair_line p = codes "sample " ++ decimal p.0 ++ codes " " ++ decimal p.1 ++ codes "\n"

abbrev pub head_line : (number : ℕ) → List ℕ
head_line number = codes "entry " ++ decimal number ++ codes "\n"

-- of an entry point by its index, up to the lines of its global variables, given the uses of each global variable in order
abbrev pub variable_lines : (number : ℕ) → PlainEntry → List GlobalUse → List ℕ
variable_lines number e uses = head_line number ++ own_line (codes "payload") e.payload ++ own_line (codes "mesh") (mesh_output e) ++ each_from (global_line e) 0 uses

-- and all of its lines, with the sampled pairs in order
abbrev pub entry_lines : (number : ℕ) → PlainEntry → List GlobalUse → List (ℕ × ℕ) → List ℕ
entry_lines number e uses pairs = variable_lines number e uses ++ flat_map pair_line pairs
