-- The requirement of each item of a list, and the error of one of them.
use Rattle.std.specs.Prelude.{◌≡◌, ℕ, List, Some, slice_get}
use Rattle.typing_references.specs.declared.fault.HandleFault.{HandleFault}

-- each item is valid at its index
abbrev pub AllPass : {T : Type 0} → (ℕ → T → Type 0) → List T → Type 0
AllPass {T = T} passes items = (i : ℕ) (x : T) → slice_get items i ≡ Some x → passes i x

-- some item has this error at its index
abbrev pub SomeFails : {T : Type 0} → (ℕ → T → HandleFault → Type 0) → List T → HandleFault → Type 0
SomeFails {T = T} fails items h = (i : ℕ) × (x : T) × (slice_get items i ≡ Some x) × fails i x h
