-- Forms: a decoding function and an encoding relation that agree.
use Rattle.std.specs.Prelude.{◌≡◌, ℕ, ◌≤◌, Option, Some}
use Rattle.serde_json.specs.Data.{Data, Items, depth, items_depth}
use Rattle.document_forms.specs.declared.limits.TheConstants.{MAX_DEPTH}

-- the greatest nesting depth of the JSON reader
abbrev pub deepest : ℕ
deepest = MAX_DEPTH

-- f decodes x exactly if the value encodes x, up to the greatest nesting depth
pub record IsExact {A : Type 0} (f : Data → Option A) (P : A → Data → Type 0) : Type 0 where
  pub sound : (d : Data) (x : A) → f d ≡ Some x → P x d
  pub complete : (d : Data) (x : A) → P x d → depth d ≤ deepest → f d ≡ Some x

-- the same for the elements of an array
pub record IsExactRow {A : Type 0} (f : Items → Option A) (Q : A → Items → Type 0) : Type 0 where
  pub sound : (ds : Items) (x : A) → f ds ≡ Some x → Q x ds
  pub complete : (ds : Items) (x : A) → Q x ds → items_depth ds ≤ deepest → f ds ≡ Some x

-- a form of A: the decoding function, the encoding relation, and that they agree
pub record FormOf (A : Type 0) : Type 1 where
  pub find : Data → Option A
  pub Written : A → Data → Type 0
  pub exact : IsExact find Written

-- a row form of A, whose encoding is consecutive array elements
pub record RowOf (A : Type 0) : Type 1 where
  pub find : Items → Option A
  pub Written : A → Items → Type 0
  pub exact : IsExactRow find Written
