-- What is used above of `function_entries`, re-exported.
pub use Rattle.function_entries.specs.Interfaces.{AreInterfacesKnown}
