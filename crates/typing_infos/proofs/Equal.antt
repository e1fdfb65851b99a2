-- `==` of pairs is equality.
use Rattle.std.proofs.Common.{◌≡◌, Bool, true, false, true≢false, ◌&&◌, refl, sym, ap}
use Rattle.std.specs.Prelude.{eqb}
use Rattle.std.proofs.lemmas.Bool.{eqb-true, eq-eqb}
use Rattle.spec_expressions.specs.declared.sampling.GlobalOrArgument.{GlobalOrArgument}
use Rattle.spec_expressions.specs.declared.sampling.GlobalOrArgument.TheVariants.{Global, Argument}
use Rattle.spec_expressions.specs.contracts.sampling.GlobalOrArgumentPartialEq as each
use Rattle.spec_expressions.specs.judged.Pairs.{SamplingPair, pair_eq}

pub both : (x y : Bool) → (x && y) ≡ true → (x ≡ true) × (y ≡ true)
both true y e = (refl, e)
both false y e = absurd (true≢false (sym e))

pub part_same : (a b : GlobalOrArgument) → each.TheImpl.ghosts.eq a b ≡ true → a ≡ b
part_same (Global x) (Global y) e = ap Global (eqb-true x y (both (eqb x y) true e).0)
part_same (Argument x) (Argument y) e = ap Argument (eqb-true x y e)
part_same (Global x) (Argument y) e = absurd (true≢false (sym e))
part_same (Argument x) (Global y) e = absurd (true≢false (sym e))

pub pair_same : (p q : SamplingPair) → pair_eq p q ≡ true → p ≡ q
pair_same p q e = let h = both (each.TheImpl.ghosts.eq p.0 q.0) (each.TheImpl.ghosts.eq p.1 q.1) e in λ i. (part_same p.0 q.0 h.0 i, part_same p.1 q.1 h.1 i)

part_self : (a : GlobalOrArgument) → each.TheImpl.ghosts.eq a a ≡ true
part_self (Global g) = ap (λ b. b && true) (eq-eqb g g refl)
part_self (Argument n) = eq-eqb n n refl

pub pair_self : (p : SamplingPair) → pair_eq p p ≡ true
pair_self p = λ i. part_self p.0 i && part_self p.1 i
