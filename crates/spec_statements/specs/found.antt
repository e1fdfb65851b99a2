pub mod SureLevel
pub mod Answered
pub mod Laws
pub mod FunctionLaws
pub mod Pointers
pub mod Sizes
