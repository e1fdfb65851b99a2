-- Pairs of two lists.
use Rattle.std.proofs.Common.{◌≡◌, List, [], ◌∷◌, Option, Some, None, length, refl, ap, ◌∙◌}
use Rattle.std.specs.Borrow.{MutBor}
use Rattle.std.proofs.lemmas.List.{nil_from_length}
use Rattle.std.specs.Iterator.{YieldsFirstBy}
use Rattle.std.specs.Slice.Iter.{iter_mut_rest}
use Rattle.std.specs.List.{zip}
use Rattle.ir_types.specs.IrArena.{Span}
use Rattle.ir_blocks.specs.found.SpanIters.{pairs_to_come, with_span_to_change}
use Rattle.ir_blocks.specs.declared.span_iter.SpanIterMut.{SpanIterMut}
use Rattle.ir_blocks.specs.declared.statements.Statement.{Statement}

with_nothing : {X Y : Type 0} (xs : List X) → zip {K = X} {X = Y} xs [] ≡ []
with_nothing [] = refl
with_nothing (x ∷ xs) = refl

-- an empty second list has no pairs
no_pairs : {X Y : Type 0} (xs : List X) (ys : List Y) → ys ≡ [] → zip xs ys ≡ []
no_pairs xs ys e = ap (zip xs) e ∙ with_nothing xs

-- an iterator whose spans are exhausted
pub ended : (old new : SpanIterMut) (r : Option (MutBor Statement × MutBor Span)) → r ≡ None → length (iter_mut_rest old.spans) ≡ 0 → length (iter_mut_rest new.spans) ≡ 0 → YieldsFirstBy with_span_to_change pairs_to_come old r new
ended old new None e before after = (no_pairs (iter_mut_rest old.statements) (iter_mut_rest old.spans) (nil_from_length _ before), no_pairs (iter_mut_rest new.statements) (iter_mut_rest new.spans) (nil_from_length _ after))
ended old new (Some x) e before after = cc
