-- From one condition on an optional value to another.
use Rattle.std.proofs.Common.{Option, Some, None}
use Rattle.std.specs.Prelude.{IfSome, IsSomeAnd}

pub some_and : {A : Type 0} (P Q : A → Type 0) (x : Option A) → ((a : A) → P a → Q a) → IsSomeAnd x P → IsSomeAnd x Q
some_and P Q None moves h = h
some_and P Q (Some a) moves h = moves a h

pub if_some_moves : {A : Type 0} (P Q : A → Type 0) (x : Option A) → ((a : A) → P a → Q a) → IfSome x P → IfSome x Q
if_some_moves P Q None moves h = h
if_some_moves P Q (Some a) moves h = moves a h
