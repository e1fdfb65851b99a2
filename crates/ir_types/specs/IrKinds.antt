-- What is used above of `ir_kinds`, re-exported.
pub use Rattle.ir_kinds.specs.declared.images.ImageDimension.{ImageDimension}
pub use Rattle.ir_kinds.specs.declared.images.ImageDimension.TheVariants as dimension
pub use Rattle.ir_kinds.specs.declared.scalars.Scalar.{Scalar}
pub use Rattle.ir_kinds.specs.declared.scalars.ScalarKind.{ScalarKind}
pub use Rattle.ir_kinds.specs.declared.scalars.ScalarKind.TheVariants as kind
pub use Rattle.ir_kinds.specs.declared.scalars.VectorSize.{VectorSize}
pub use Rattle.ir_kinds.specs.declared.scalars.VectorSize.TheVariants.{Bi, Quad, Tri}
pub use Rattle.ir_kinds.specs.declared.spaces.AddressSpace.{AddressSpace}
pub use Rattle.ir_kinds.specs.declared.subgroups.CollectiveOperation.{CollectiveOperation}
pub use Rattle.ir_kinds.specs.declared.subgroups.SubgroupOperation.{SubgroupOperation}
pub use Rattle.ir_kinds.specs.declared.values.SwitchValue.{SwitchValue}
pub use Rattle.ir_kinds.specs.judged.Scalars.{abstract_float, abstract_int, component_count, cooperative_count, floating, same_scalar, signed, unsigned}
