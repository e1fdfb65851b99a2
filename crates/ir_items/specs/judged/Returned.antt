-- A module whose bodies are completed with returns.
use Rattle.std.specs.Prelude.{◌≡◌, List, map}
use Rattle.std.specs.List.{All, AllZip}
use Rattle.ir_blocks.specs.IrArena.{Span, entry_of}
use Rattle.ir_blocks.specs.judged.Tails.{IsCompleted, completed}
use Rattle.ir_blocks.specs.found.TailSpans.{SpansCompleted, completed_spans}
use Rattle.ir_blocks.specs.found.Room.{HasRoom}
use Rattle.ir_items.specs.judged.Plain.{PlainFunction, PlainEntry, PlainModule}
use Rattle.ir_items.specs.found.Copies.{SpannedFunction, SpannedEntry, SpannedModule}
use Rattle.ir_items.specs.declared.functions.Function.{Function}
use Rattle.ir_items.specs.declared.entries.EntryPoint.{EntryPoint}

-- The function g is f except for its body, which is f's completed with returns.
pub record IsReturnedFunction (f g : PlainFunction) : Type 0 where
  pub body : IsCompleted f.body g.body
  pub rest : g ≡ record f { body = g.body }

-- The entry point e is d except for the body of its function, in the same way.
pub record IsReturnedEntry (d e : PlainEntry) : Type 0 where
  pub function : IsReturnedFunction d.function e.function
  pub rest : e ≡ record d { function = e.function }

-- The module n is m with missing returns added: it has as many functions and entry points, each of them is m's at its place
-- except for its body, which is completed with returns, and all else is m's.
pub record IsReturned (m n : PlainModule) : Type 0 where
  pub functions : AllZip IsReturnedFunction m.functions n.functions
  pub entries : AllZip IsReturnedEntry m.entries n.entries
  pub rest : n ≡ record m { functions = n.functions; entries = n.entries }

-- ---- with spans

-- The spans of the body are those of the completed body, and the function's other spans stay.
pub record KeepsFunctionSpans (f g : SpannedFunction) : Type 0 where
  pub body : SpansCompleted f.plain.body g.plain.body f.body g.body
  pub rest : g ≡ record f { plain = g.plain; body = g.body }

-- the same for the function of an entry point
pub record KeepsEntrySpans (d e : SpannedEntry) : Type 0 where
  pub function : KeepsFunctionSpans d.function e.function
  pub rest : e ≡ record d { plain = e.plain; function = e.function }

-- the same for a function of the module, whose own span stays
abbrev pub KeepsSpansAt : SpannedFunction × Span → SpannedFunction × Span → Type 0
KeepsSpansAt f g = KeepsFunctionSpans f.0 g.0 × (g.1 ≡ f.1)

-- The spans of the module n, which is m with missing returns added: those of its bodies are those of the completed bodies, and
-- all others are m's.
pub record KeepsModuleSpans (m n : SpannedModule) : Type 0 where
  pub functions : AllZip KeepsSpansAt m.functions n.functions
  pub entries : AllZip KeepsEntrySpans m.entries n.entries
  pub rest : n ≡ record m { plain = n.plain; functions = n.functions; entries = n.entries }

-- ---- the module with missing returns added, as a function on each item

abbrev pub returned_function : PlainFunction → PlainFunction
returned_function f = record f { body = completed f.body }

abbrev pub returned_entry : PlainEntry → PlainEntry
returned_entry e = record e { function = returned_function e.function }

abbrev pub returned_module : PlainModule → PlainModule
returned_module m = record m { functions = map returned_function m.functions; entries = map returned_entry m.entries }

abbrev pub returned_function_spans : SpannedFunction → SpannedFunction
returned_function_spans f = record f { plain = returned_function f.plain; body = completed_spans f.plain.body f.body }

abbrev pub returned_entry_spans : SpannedEntry → SpannedEntry
returned_entry_spans e = record { plain = returned_entry e.plain; function = returned_function_spans e.function }

abbrev pub returned_module_spans : SpannedModule → SpannedModule
returned_module_spans m = record m {
  plain = returned_module m.plain;
  functions = map (entry_of returned_function_spans) m.functions;
  entries = map returned_entry_spans m.entries;
}

-- the function satisfies the specification
abbrev pub ReturnedByBodies : Type 0
ReturnedByBodies = (m : PlainModule) → IsReturned m (returned_module m)

-- a module has only one completion with returns
abbrev pub OneReturned : Type 0
OneReturned = (m n : PlainModule) → IsReturned m n → n ≡ returned_module m

-- ---- capacity for the returns

-- the body has room for its missing returns
abbrev pub FunctionHasRoom : Function → Type 0
FunctionHasRoom f = HasRoom f.body

abbrev pub EntryHasRoom : EntryPoint → Type 0
EntryHasRoom e = FunctionHasRoom e.function

-- each of these has room
abbrev pub FunctionsHaveRoom : List (Function × Span) → Type 0
FunctionsHaveRoom = All (λ f. FunctionHasRoom f.0)

abbrev pub EntriesHaveRoom : List EntryPoint → Type 0
EntriesHaveRoom = All EntryHasRoom
