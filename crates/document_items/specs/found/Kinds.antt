-- The kinds of types, of their parts and of other items, with their tags.
use Rattle.std.specs.Prelude.{ℕ, List, [], ◌∷◌, codes}
use Rattle.document_items.specs.declared.kinds.StorageKind.{StorageKind}
use Rattle.document_items.specs.declared.kinds.StorageKind.TheVariants as storage_kind
use Rattle.document_items.specs.declared.kinds.SizeKind.{SizeKind}
use Rattle.document_items.specs.declared.kinds.SizeKind.TheVariants as size_kind
use Rattle.document_items.specs.declared.kinds.ClassKind.{ClassKind}
use Rattle.document_items.specs.declared.kinds.ClassKind.TheVariants as class_kind
use Rattle.document_items.specs.declared.kinds.BindingKind.{BindingKind}
use Rattle.document_items.specs.declared.kinds.BindingKind.TheVariants as binding_kind
use Rattle.document_items.specs.declared.kinds.InnerKind.{InnerKind}
use Rattle.document_items.specs.declared.kinds.InnerKind.TheVariants as inner_kind
use Rattle.document_items.specs.declared.kinds.RuleKind.{RuleKind}
use Rattle.document_items.specs.declared.kinds.RuleKind.TheVariants as rule_kind
use Rattle.document_items.specs.declared.kinds.PredeclaredKind.{PredeclaredKind}
use Rattle.document_items.specs.declared.kinds.PredeclaredKind.TheVariants as predeclared_kind
use Rattle.document_items.specs.declared.kinds.EarlyKind.{EarlyKind}
use Rattle.document_items.specs.declared.kinds.EarlyKind.TheVariants as early_kind

-- the address spaces with operands
abbrev pub storage_kinds : List (List ℕ × StorageKind)
storage_kinds = (codes "Storage", storage_kind.Storage) ∷ []

-- the kinds of array sizes
abbrev pub array_size_kinds : List (List ℕ × SizeKind)
array_size_kinds =
    (codes "Constant", size_kind.Constant) ∷
    (codes "Pending", size_kind.Pending) ∷
    (codes "Dynamic", size_kind.Dynamic) ∷
    []

-- the classes of images
abbrev pub class_kinds : List (List ℕ × ClassKind)
class_kinds =
    (codes "Sampled", class_kind.Sampled) ∷
    (codes "Depth", class_kind.Depth) ∷
    (codes "External", class_kind.External) ∷
    (codes "Storage", class_kind.Storage) ∷
    []

-- the kinds of bindings
abbrev pub binding_kinds : List (List ℕ × BindingKind)
binding_kinds =
    (codes "BuiltIn", binding_kind.BuiltIn) ∷
    (codes "Location", binding_kind.Location) ∷
    []

-- the kinds of types
abbrev pub inner_kinds : List (List ℕ × InnerKind)
inner_kinds =
    (codes "Scalar", inner_kind.Scalar) ∷
    (codes "Vector", inner_kind.Vector) ∷
    (codes "Matrix", inner_kind.Matrix) ∷
    (codes "CooperativeMatrix", inner_kind.CooperativeMatrix) ∷
    (codes "Atomic", inner_kind.Atomic) ∷
    (codes "Pointer", inner_kind.Pointer) ∷
    (codes "ValuePointer", inner_kind.ValuePointer) ∷
    (codes "Array", inner_kind.Array) ∷
    (codes "Struct", inner_kind.Struct) ∷
    (codes "Image", inner_kind.Image) ∷
    (codes "Sampler", inner_kind.Sampler) ∷
    (codes "AccelerationStructure", inner_kind.AccelerationStructure) ∷
    (codes "RayQuery", inner_kind.RayQuery) ∷
    (codes "BindingArray", inner_kind.BindingArray) ∷
    []

-- the kinds of triggering rules of filters
abbrev pub rule_kinds : List (List ℕ × RuleKind)
rule_kinds =
    (codes "Standard", rule_kind.Standard) ∷
    (codes "Unknown", rule_kind.Unknown) ∷
    (codes "User", rule_kind.User) ∷
    []

-- the kinds of predeclared types
abbrev pub predeclared_kinds : List (List ℕ × PredeclaredKind)
predeclared_kinds =
    (codes "AtomicCompareExchangeWeakResult", predeclared_kind.AtomicCompareExchangeWeakResult) ∷
    (codes "ModfResult", predeclared_kind.ModfResult) ∷
    (codes "FrexpResult", predeclared_kind.FrexpResult) ∷
    []

-- the kinds of early depth tests
abbrev pub early_kinds : List (List ℕ × EarlyKind)
early_kinds =
    (codes "Force", early_kind.Force) ∷
    (codes "Allow", early_kind.Allow) ∷
    []
