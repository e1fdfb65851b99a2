use Rattle.std.proofs.Common.{◌≡◌, ◌<◌, ◌↔◌, ◌*◌, ◌%◌, ◌-◌, ◌^◌, sym, subst, arith}
use Rattle.std.proofs.lemmas.Nat.{pow_below}
use Rattle.module_globals.proofs.Bits.{some_below}
use Rattle.module_globals.specs.Slots.{IsIn}
use Rattle.module_globals.proofs.slots.below.Goals as goal

pub returns : goal.returns
returns c = λ k in_range.
    let lt : 2 ^ c.args.bound < 2 ^ 64 = pow_below c.args.bound 64 (omega arith) in
    let e : 1 * 2 ^ c.args.bound % 18446744073709551616 - 1 ≡ 2 ^ c.args.bound - 1 = omega (arith, lt) in
    subst (λ n. IsIn n k ↔ (k < c.args.bound)) (sym e) (some_below c.args.bound k)
