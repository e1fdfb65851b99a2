-- Types refer only to earlier types.
use Rattle.std.specs.Prelude.{◌≡◌, ℕ, ◌<◌, List, [], ◌∷◌, Option, Some, None, map, All}
use Rattle.ir_types.specs.judged.Plain.{PlainInner, struct, plain, PlainType}
use Rattle.ir_types.specs.declared.types.ArraySize.{ArraySize}
use Rattle.ir_types.specs.declared.types.TypeInner.TheVariants as inner
use Rattle.typing_forms.specs.judged.Resolutions.{inner_at}

-- what a type refers to: the types, and its number of elements if it has elements
abbrev pub made_of : PlainInner → List ℕ × Option ArraySize
made_of (struct members span) = (map (λ m. m.ty) members, None)
made_of (plain (inner.Scalar s)) = ([], None)
made_of (plain (inner.Vector n s)) = ([], None)
made_of (plain (inner.Matrix columns rows s)) = ([], None)
made_of (plain (inner.CooperativeMatrix columns rows s role)) = ([], None)
made_of (plain (inner.Atomic s)) = ([], None)
made_of (plain (inner.Pointer base space)) = (base ∷ [], None)
made_of (plain (inner.ValuePointer n s space)) = ([], None)
made_of (plain (inner.Array base size stride)) = (base ∷ [], Some size)
made_of (plain (inner.Struct members span)) = (map (λ m. m.ty) members.items, None)
made_of (plain (inner.Image dim arrayed class)) = ([], None)
made_of (plain (inner.Sampler comparison)) = ([], None)
made_of (plain (inner.AccelerationStructure vertex_return)) = ([], None)
made_of (plain (inner.RayQuery vertex_return)) = ([], None)
made_of (plain (inner.BindingArray base size)) = (base ∷ [], Some size)

-- the types that a type refers to
abbrev pub named_types : PlainInner → List ℕ
named_types i = (made_of i).0

-- the number of elements of a type, if it has elements
abbrev pub declared_size : PlainInner → Option ArraySize
declared_size i = (made_of i).1

-- each type refers only to earlier types
pub record TypesGoBack (types : List PlainType) : Type 0 where
  pub each : (handle : ℕ) (i : PlainInner) → inner_at types handle ≡ Some i → All (λ named. named < handle) (named_types i)
