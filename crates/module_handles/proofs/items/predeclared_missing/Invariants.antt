use Rattle.std.proofs.Common.{◌≡◌, map}
use Rattle.module_handles.specs.Found.{first_missing}
use Rattle.spec_expressions.specs.declared.item.ItemKind.TheVariants as kind
use Rattle.module_handles.proofs.items.predeclared_missing.Given as goal

-- the first of the rest is the first of all
abbrev pub invariant-loop-ty : goal.invariant-loop-ty
invariant-loop-ty l = first_missing kind.Type l.there l.ty-iterator ≡ first_missing kind.Type l.there (map (λ p. p.1) l.predeclared.entries)
