-- The size of a module's immediate data.
use Rattle.std.specs.Prelude.{◌≡◌, ◌≤◌, ◌<◌, ◌⊎◌, ℕ, Some, slice_get}
use Rattle.ir_items.specs.judged.GlobalPlain.{PlainGlobal}
use Rattle.ir_items.specs.judged.Plain.{PlainModule}
use Rattle.ir_kinds.specs.declared.spaces.AddressSpace.TheVariants.{Immediate}
use Rattle.typing_layout.specs.judged.Layout.{size}
use Rattle.typing_layout.specs.judged.View.{type_tree}

-- the global variable at a handle is immediate data of this size
pub record TakesBytes (m : PlainModule) (handle bytes : ℕ) : Type 0 where
  pub g : PlainGlobal
  pub at : slice_get m.globals handle ≡ Some g
  pub immediate : g.space ≡ Immediate
  pub is : size (type_tree m.types g.ty) ≡ bytes

-- the maximum over the first `n`, and 0 if there is none
pub record AreGreatest (m : PlainModule) (many bytes : ℕ) : Type 0 where
  pub least : (handle other : ℕ) → handle < many → TakesBytes m handle other → other ≤ bytes
  pub is : (bytes ≡ 0) ⊎ ((handle : ℕ) × TakesBytes m handle bytes)
