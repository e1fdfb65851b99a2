-- The value of a case as a number, with its kind: no two values have the same.
use Rattle.std.specs.Prelude.{ℕ, ℤ, pos}
use Rattle.ir_kinds.specs.declared.values.SwitchValue.{SwitchValue}
use Rattle.ir_kinds.specs.declared.values.SwitchValue.TheVariants.{I32, U32, Default}

abbrev pub value_key : SwitchValue → ℕ × ℤ
value_key (I32 z) = (0, z)
value_key (U32 n) = (1, pos n)
value_key Default = (2, pos 0)
