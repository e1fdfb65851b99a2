-- What is used above of `function_interface`, re-exported.
pub use Rattle.function_interface.specs.Analysis.{Faults, IsKept, IsRefusedAt, IsRefusedFor}
pub use Rattle.function_interface.specs.Question.{Question, question}
pub use Rattle.function_interface.specs.Reported.{AreReported}
