-- A chain of bases has one end; and a step along a chain.
use Rattle.std.proofs.Common.{◌≡◌, ℕ, List, sym, ap, subst, ◌∙◌}
use Rattle.ir_blocks.specs.IrTypes.{PlainExpression}
use Rattle.ir_items.specs.judged.Bases.{StartsAt, itself, through, global_of, OneOrigin}

pub one_start : (expressions : List PlainExpression) (handle : ℕ) (s t : PlainExpression) → StartsAt expressions handle s → StartsAt expressions handle t → s ≡ t
one_start expressions handle s t (itself a n) (itself b m) = let x = a in let y = b in cc
one_start expressions handle s t (itself {e = e} a n) (through {e = d} b m rest) =
    absurd (let same : d ≡ e = (let x = a in let y = b in cc) in let x = n in let y = m in cc)
one_start expressions handle s t (through {e = d} b m rest) (itself {e = e} a n) =
    absurd (let same : d ≡ e = (let x = a in let y = b in cc) in let x = n in let y = m in cc)
one_start expressions handle s t (through {base = p} {e = d} a n rest) (through {base = q} {e = e} b m others) =
    let same : d ≡ e = (let x = a in let y = b in cc) in
    let base : q ≡ p = (let x = n in let y = m in cc) in
    one_start expressions p s t rest (subst (λ x. StartsAt expressions x t) base others)

pub one_origin : OneOrigin
one_origin expressions handle a b x y = x.2 ∙ ap global_of (one_start expressions handle x.0 y.0 x.1 y.1) ∙ sym y.2
