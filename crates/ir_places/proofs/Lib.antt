pub mod TrailLaws
pub mod StandLaws
pub mod IndexLaws
pub mod EachLaws
