-- What is used above of `ir_flags`, re-exported.
pub use Rattle.ir_flags.specs.contracts.memory.StorageAccessPartialEq.TheImpl as access
pub use Rattle.ir_flags.specs.declared.memory.StorageAccess.{StorageAccess}
