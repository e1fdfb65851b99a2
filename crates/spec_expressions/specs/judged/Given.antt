-- The type of a conclusion in a module.
use Rattle.std.specs.Prelude.{ℕ, List, [], ◌∷◌, Option, Some, None, Bool, true, false, ◌&&◌, ◌==◌, option_map, if◌then◌else◌}
use Rattle.ir_kinds.specs.declared.predeclared.PredeclaredType.{PredeclaredType}
use Rattle.ir_kinds.specs.declared.predeclared.PredeclaredType.TheVariants.{AtomicCompareExchangeWeakResult, ModfResult, FrexpResult}
use Rattle.ir_kinds.specs.declared.scalars.VectorSize.{VectorSize}
use Rattle.ir_kinds.specs.judged.Scalars.{same_scalar, component_count}
use Rattle.typing_layout.specs.IrTypes.{plain}
use Rattle.typing_layout.specs.TypingForms.{PlainResolution, by_handle, by_value}
use Rattle.typing_rules.specs.declared.rules.Conclusion.{Conclusion}
use Rattle.typing_rules.specs.declared.rules.Conclusion.TheVariants.{Value, Predeclared}
use Rattle.typing_rules.specs.judged.Types.{inner_of}

abbrev pub is_size : Option VectorSize → Option VectorSize → Bool
is_size None None = true
is_size (Some n) (Some m) = component_count n == component_count m
is_size _ _ = false

-- whether two keys are equal
abbrev pub predeclared_matches : PredeclaredType → PredeclaredType → Bool
predeclared_matches (AtomicCompareExchangeWeakResult s) (AtomicCompareExchangeWeakResult t) = same_scalar s t
predeclared_matches (ModfResult n s) (ModfResult m t) = is_size n m && same_scalar s t
predeclared_matches (FrexpResult n s) (FrexpResult m t) = is_size n m && same_scalar s t
predeclared_matches _ _ = false

-- the module's handle of the type for a key
abbrev pub handle_for : PredeclaredType → List (PredeclaredType × ℕ) → Option ℕ
handle_for key [] = None
handle_for key (entry ∷ more) = if predeclared_matches key entry.0 then Some entry.1 else handle_for key more

-- an inner type for a value, and the module's handle for a predeclared struct, if it has one
abbrev pub given_type : Conclusion → List (PredeclaredType × ℕ) → Option PlainResolution
given_type (Value v) types = Some (by_value (plain (inner_of v.size v.scalar)))
given_type (Predeclared key) types = option_map by_handle (handle_for key types)
