-- The validation flags for a module read from WGSL.
use Rattle.std.specs.Prelude.{◌≡◌, ◌-◌, ◌^◌}
use Rattle.ir_flags.specs.declared.settings.ValidationFlags.{ValidationFlags}

-- the six flags that a validator has by default, without strict scope
abbrev pub MakesSixChecks : ValidationFlags → Type 0
MakesSixChecks flags = flags.0 ≡ 2 ^ 6 - 1
