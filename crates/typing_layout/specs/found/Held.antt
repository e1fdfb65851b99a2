-- The contents of a layouter, and layout errors.
use Rattle.std.specs.Prelude.{◌≡◌, ◌<◌, ◌≤◌, ◌++◌, ℕ, List, [], Some, length, slice_get}
use Rattle.typing_forms.specs.IrTypes.{Refusal, error_of, spans_of, PlainType}
use Rattle.typing_forms.specs.IrTypes.refusal as refusal
use Rattle.typing_forms.specs.judged.Order.{TypesGoBack}
use Rattle.typing_forms.specs.declared.sizes.TheConstants.{MAX_TYPE_SIZE}
use Rattle.typing_layout.specs.judged.Layout.{size, alignment, LayoutOK}
use Rattle.typing_layout.specs.found.Laid.{IsWidthOK}
use Rattle.typing_layout.specs.judged.Tree.{Tree}
use Rattle.typing_layout.specs.judged.View.{type_tree}
use Rattle.typing_layout.specs.declared.error.LayoutError.{LayoutError}
use Rattle.typing_layout.specs.declared.error.LayoutErrorInner.{LayoutErrorInner}
use Rattle.typing_layout.specs.declared.error.LayoutErrorInner.TheVariants.{NonPowerOfTwoWidth, TooLarge}
use Rattle.typing_layout.specs.declared.layout.TypeLayout.{TypeLayout}

-- a type has a layout, and this is it
pub record IsLayoutOf (t : Tree) (l : TypeLayout) : Type 0 where
  pub ok : LayoutOK t
  pub size : l.size ≡ size t
  pub alignment : l.alignment ≡ alignment t

-- each is the layout of the module's type at its index
pub record AreLayouts (types : List PlainType) (layouts : List TypeLayout) : Type 0 where
  pub within : length layouts ≤ length types
  pub each : (handle : ℕ) (l : TypeLayout) → slice_get layouts handle ≡ Some l → IsLayoutOf (type_tree types handle) l

-- a type has no layout, for this reason
abbrev pub IsFaultOf : Tree → LayoutErrorInner → Type 0
IsFaultOf t NonPowerOfTwoWidth = ¬ IsWidthOK t
IsFaultOf t TooLarge = MAX_TYPE_SIZE < size t

-- the type has no layout, and those of all earlier types are kept
pub record IsRefused (types : List PlainType) (layouts : List TypeLayout) (e : LayoutError) : Type 0 where
  pub next : length layouts ≡ e.ty
  pub within : e.ty < length types
  pub fault : IsFaultOf (type_tree types e.ty) e.inner

-- why not all types are laid out: a type has no layout, or out of memory
abbrev pub IsRefusal : List PlainType → List TypeLayout → Refusal LayoutError → Type 0
IsRefusal types layouts (refusal.Memory e) = length layouts < length types
IsRefusal types layouts (refusal.Fault f) = IsRefused types layouts (error_of f) × (spans_of f ≡ [])

-- ---- laws

-- two lists of layouts of one module's types that have the same length are equal
abbrev pub OneLayout : Type 0
OneLayout = (types : List PlainType) (left right : List TypeLayout) → AreLayouts types left → AreLayouts types right → length left ≡ length right → left ≡ right

-- appending types keeps the layouts
abbrev pub LayoutsStay : Type 0
LayoutsStay = (types more : List PlainType) (layouts : List TypeLayout) → TypesGoBack types → AreLayouts types layouts → AreLayouts (types ++ more) layouts
