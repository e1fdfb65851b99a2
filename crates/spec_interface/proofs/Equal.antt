-- `==` of built-ins is equality.
use Rattle.std.proofs.Common.{◌≡◌, ◌↔◌, IsTrue, subst}
use Rattle.ir_kinds.specs.contracts.bindings.BuiltInEq.TheImpl.Laws as equal_laws
use Rattle.ir_kinds.specs.contracts.bindings.BuiltInPartialEq.TheImpl as of_built_in
use Rattle.ir_kinds.specs.declared.bindings.BuiltIn.{BuiltIn}
use Rattle.ir_types.proofs.BuiltIns.{same_built_in}

pub one_built_in : (a b : BuiltIn) → IsTrue (of_built_in.ghosts.eq a b) ↔ (a ≡ b)
one_built_in a b = ((λ e. same_built_in a b e), (λ e. subst (λ c. IsTrue (of_built_in.ghosts.eq a c)) e (equal_laws.laws-law.refl a)))
