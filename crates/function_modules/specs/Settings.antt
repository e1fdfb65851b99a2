-- What remains of a validator.
use Rattle.std.specs.Prelude.{◌≡◌}
use Rattle.function_modules.specs.declared.validator.Validator.{Validator}

-- a validator is unchanged, its layer and its settings, except for the payload type of the functions so far
abbrev pub KeepsSettings : {L : Type 0} → (old new : Validator L) → Type 0
KeepsSettings old new = new ≡ record old { held = new.held }
