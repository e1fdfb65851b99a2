-- What is used above of `ir_items`, re-exported.
pub use Rattle.ir_items.specs.declared.functions.FunctionResult.{FunctionResult}
pub use Rattle.ir_items.specs.judged.Bases.{base_of, global_of}
pub use Rattle.ir_items.specs.judged.GlobalPlain.{PlainGlobal}
pub use Rattle.ir_items.specs.judged.Plain.{PlainArgument, PlainFunction, PlainLocal, PlainModule}
