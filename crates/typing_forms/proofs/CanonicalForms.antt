-- A canonical form is its own canonical form.
use Rattle.std.proofs.Common.{◌≡◌, ℕ, List, Option, Some, None, refl, subst}
use Rattle.std.proofs.lemmas.Option.{same_Some}
use Rattle.ir_kinds.specs.declared.spaces.AddressSpace.{AddressSpace}
use Rattle.ir_types.specs.judged.Plain.{PlainInner, struct, plain, PlainType}
use Rattle.ir_types.specs.declared.types.TypeInner.TheVariants as inner
use Rattle.typing_forms.specs.judged.Forms.{form_in, pointing}
use Rattle.typing_forms.specs.judged.Resolutions.{inner_at}
use Rattle.typing_forms.specs.found.Canonical.{canonical, value_pointer, CanonicalOnce}

-- a value pointer has the form of the pointer, and is canonical
module _ (types : List PlainType) (base : ℕ) (space : AddressSpace) where
  abbrev Stands : Option PlainInner → PlainInner → Type 0
  Stands found c = (form_in types None c ≡ pointing base space found) × (canonical types c ≡ None)

  stands : (found : Option PlainInner) (c : PlainInner) → value_pointer space found ≡ Some c → Stands found c
  stands (Some (plain (inner.Scalar s))) c e = subst (Stands (Some (plain (inner.Scalar s)))) (same_Some _ _ e) (refl, refl)
  stands (Some (plain (inner.Vector n s))) c e = subst (Stands (Some (plain (inner.Vector n s)))) (same_Some _ _ e) (refl, refl)
  stands (Some (plain i)) c e = let h = e in cc
  stands (Some (struct members span)) c e = let h = e in cc
  stands None c e = let h = e in cc

pub canonical_once : CanonicalOnce
canonical_once types (plain (inner.Pointer base space)) c e = stands types base space (inner_at types base) c e
canonical_once types (plain i) c e = let h = e in cc
canonical_once types (struct members span) c e = let h = e in cc
