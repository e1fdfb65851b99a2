-- The results of walks along handles, re-exported.
pub use Rattle.ir_items.specs.judged.Bases.{HasOrigin, BasesPrecede, OneOrigin}
pub use Rattle.ir_items.specs.found.Filters.{HasSeverity, ParentsPrecede, OneSeverity}
pub use Rattle.ir_items.specs.found.Flat.{IsFlattened, AreLeaves, PartsPrecede, OneFlattening}
