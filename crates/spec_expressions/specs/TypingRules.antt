-- What is used above of `typing_rules`, re-exported.
pub use Rattle.typing_rules.specs.judged.Laws.{IsAmong}
