-- Looking up keys by `==` finds the type for the key.
use Rattle.std.proofs.Common.{◌≡◌, ◌∙◌, ℕ, Some, List, [], ◌∷◌, refl, ap, rules, cond}
use Rattle.std.specs.Map.{lookup}
use Rattle.ir_kinds.specs.declared.predeclared.PredeclaredType.{PredeclaredType}
use Rattle.ir_kinds.specs.declared.predeclared.PredeclaredType.TheVariants.{AtomicCompareExchangeWeakResult, ModfResult, FrexpResult}
use Rattle.ir_kinds.specs.contracts.predeclared.PredeclaredTypePartialEq.TheImpl.{ghosts}
use Rattle.spec_expressions.specs.judged.Given.{predeclared_matches, handle_for}

same_test : (a b : PredeclaredType) → ghosts.eq a b ≡ predeclared_matches a b
same_test (AtomicCompareExchangeWeakResult s) (AtomicCompareExchangeWeakResult t) = search rules
same_test (AtomicCompareExchangeWeakResult s) (ModfResult m t) = search rules
same_test (AtomicCompareExchangeWeakResult s) (FrexpResult m t) = search rules
same_test (ModfResult n s) (AtomicCompareExchangeWeakResult t) = search rules
same_test (ModfResult n s) (ModfResult m t) = search rules
same_test (ModfResult n s) (FrexpResult m t) = search rules
same_test (FrexpResult n s) (AtomicCompareExchangeWeakResult t) = search rules
same_test (FrexpResult n s) (ModfResult m t) = search rules
same_test (FrexpResult n s) (FrexpResult m t) = search rules

pub handle_found : (key : PredeclaredType) (types : List (PredeclaredType × ℕ)) → lookup (ghosts.eq key) types ≡ handle_for key types
handle_found key [] = refl
handle_found key (entry ∷ more) =
    ap (λ b. cond b (Some entry.1) (lookup (ghosts.eq key) more)) (same_test key entry.0) ∙ ap (λ o. cond (predeclared_matches key entry.0) (Some entry.1) o) (handle_found key more)
