use Rattle.std.proofs.Common.{◌≡◌, drop, map}
use Rattle.typing_references.specs.First.{first_past}
use Rattle.module_handles.proofs.types.member_past.Given as goal

-- the first of the rest is the first of all
abbrev pub invariant-loop-member : goal.invariant-loop-member
invariant-loop-member l = first_past l.end (map (λ m. m.ty) (drop l.member-index l.members)) ≡ first_past l.end (map (λ m. m.ty) l.members)
