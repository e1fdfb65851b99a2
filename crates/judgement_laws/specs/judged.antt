pub mod Like
pub mod Lines
pub mod Local
pub mod Sound
