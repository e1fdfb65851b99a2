-- A scalar type with an error is invalid.
use Rattle.std.proofs.Common.{◌≡◌, ◌≢◌, ◌⊎◌, inl, inr, ℕ, sym, subst, arith}
use Rattle.ir_flags.specs.Sets.{Has}
use Rattle.ir_flags.specs.declared.settings.Capabilities.{Capabilities}
use Rattle.ir_kinds.specs.declared.scalars.Scalar.{Scalar}
use Rattle.ir_kinds.specs.declared.scalars.ScalarKind.{ScalarKind}
use Rattle.ir_kinds.specs.declared.scalars.ScalarKind.TheVariants.{Sint, Uint, Float, AbstractInt, AbstractFloat}
use Rattle.ir_kinds.specs.declared.scalars.ScalarKind.TheVariants as kind
use Rattle.typing_layout.specs.judged.Widths.{IsWidthAllowed, IsKindAllowed, IsAtomicInteger, IsAtomicKind}
use Rattle.typing_layout.specs.found.Faults.{IsNoWidth, IsNoScalar, RequiresFor, KindRequires, Lacks, IsWidthFault, IsNoAtomic, LacksAtomic, LacksWideAtomics, IsAtomicFault}
use Rattle.typing_layout.specs.declared.type_error.TypeError.{TypeError}
use Rattle.typing_layout.specs.declared.type_error.TypeError.TheVariants as error
use Rattle.typing_layout.specs.declared.type_error.WidthError.{WidthError}
use Rattle.typing_layout.specs.declared.type_error.WidthError.TheVariants as width

pub lacked : (k c d : Capabilities) → Lacks k c → c ≡ d → Has k.0 d.0 → ⊥
lacked k c d lacks same has = lacks (subst (λ (x : Capabilities). Has k.0 x.0) (sym same) has)

no_width : (k two eight : Capabilities) (w : ℕ) → IsNoWidth w → IsWidthAllowed k two eight w → ⊥
no_width k two eight w wrong (inl e) = wrong.1 e
no_width k two eight w wrong (inr (inl h)) = wrong.0 h.0
no_width k two eight w wrong (inr (inr h)) = wrong.2 h.0

lacks_width : (k two eight c : Capabilities) (w : ℕ) → RequiresFor two eight w c → Lacks k c → IsWidthAllowed k two eight w → ⊥
lacks_width k two eight c w (inl a) lacks (inl e) = absurd (omega (arith, a.0, e))
lacks_width k two eight c w (inl a) lacks (inr (inl h)) = lacked k c two lacks a.1 h.1
lacks_width k two eight c w (inl a) lacks (inr (inr h)) = absurd (omega (arith, a.0, h.0))
lacks_width k two eight c w (inr a) lacks (inl e) = absurd (omega (arith, a.0, e))
lacks_width k two eight c w (inr a) lacks (inr (inl h)) = absurd (omega (arith, a.0, h.0))
lacks_width k two eight c w (inr a) lacks (inr (inr h)) = lacked k c eight lacks a.1 h.1

no_scalar : (k : Capabilities) (s : ScalarKind) (w : ℕ) → IsNoScalar s w → IsKindAllowed k s w → ⊥
no_scalar k Sint w wrong ok = no_width k _ _ w wrong ok
no_scalar k Uint w wrong ok = no_width k _ _ w wrong ok
no_scalar k Float w wrong ok = no_width k _ _ w wrong ok
no_scalar k kind.Bool w wrong ok = wrong ok
no_scalar k AbstractInt w wrong ok = wrong
no_scalar k AbstractFloat w wrong ok = wrong

lacks_scalar : (k c : Capabilities) (s : ScalarKind) (w : ℕ) → KindRequires s w c → Lacks k c → IsKindAllowed k s w → ⊥
lacks_scalar k c Sint w asks lacks ok = lacks_width k _ _ c w asks lacks ok
lacks_scalar k c Uint w asks lacks ok = lacks_width k _ _ c w asks lacks ok
lacks_scalar k c Float w asks lacks ok = lacks_width k _ _ c w asks lacks ok
lacks_scalar k c kind.Bool w asks lacks ok = asks
lacks_scalar k c AbstractInt w asks lacks ok = asks
lacks_scalar k c AbstractFloat w asks lacks ok = asks

abstract_scalar : (k : Capabilities) (s : Scalar) → (s.kind ≡ AbstractInt) ⊎ (s.kind ≡ AbstractFloat) → IsKindAllowed k s.kind s.width → ⊥
abstract_scalar k s (inl e) ok = subst (λ x. IsKindAllowed k x s.width) e ok
abstract_scalar k s (inr e) ok = subst (λ x. IsKindAllowed k x s.width) e ok

pub width_refuted : (k : Capabilities) (s : Scalar) (e : WidthError) → IsWidthFault k s e → IsKindAllowed k s.kind s.width → ⊥
width_refuted k s (width.Invalid x y) f ok = no_scalar k s.kind s.width f.2 ok
width_refuted k s (width.MissingCapability c) f ok = lacks_scalar k c s.kind s.width f.0 f.1 ok
width_refuted k s width.Abstract f ok = abstract_scalar k s f ok

no_integer : (k : Capabilities) (w : ℕ) → (w ≢ 4) × (w ≢ 8) → IsAtomicInteger k w → ⊥
no_integer k w wrong (inl e) = wrong.0 e
no_integer k w wrong (inr h) = wrong.1 h.0

no_atomic : (k : Capabilities) (s : ScalarKind) (w : ℕ) → IsNoAtomic s w → IsAtomicKind k s w → ⊥
no_atomic k Sint w wrong ok = no_integer k w wrong ok
no_atomic k Uint w wrong ok = no_integer k w wrong ok
no_atomic k Float w wrong ok = wrong ok.0
no_atomic k kind.Bool w wrong ok = ok
no_atomic k AbstractInt w wrong ok = ok
no_atomic k AbstractFloat w wrong ok = ok

lacks_integer : (k c : Capabilities) (w : ℕ) → LacksWideAtomics k w c → IsAtomicInteger k w → ⊥
lacks_integer k c w f (inl e) = absurd (omega (arith, f.0, e))
lacks_integer k c w f (inr h) = elim h.1 [ inl a ↦ f.2 a | inr b ↦ f.3 b ]

lacks_atomic : (k c : Capabilities) (s : ScalarKind) (w : ℕ) → LacksAtomic k s w c → IsAtomicKind k s w → ⊥
lacks_atomic k c Sint w f ok = lacks_integer k c w f ok
lacks_atomic k c Uint w f ok = lacks_integer k c w f ok
lacks_atomic k c Float w f ok = f.2 ok.1
lacks_atomic k c kind.Bool w f ok = ok
lacks_atomic k c AbstractInt w f ok = ok
lacks_atomic k c AbstractFloat w f ok = ok

pub atomic_refuted : (k : Capabilities) (s : Scalar) (e : TypeError) → IsAtomicFault k s e → IsAtomicKind k s.kind s.width → ⊥
atomic_refuted k s (error.InvalidAtomicWidth x y) f ok = no_atomic k s.kind s.width f.2 ok
atomic_refuted k s (error.MissingCapability c) f ok = lacks_atomic k c s.kind s.width f ok
atomic_refuted k s _ f ok = f
