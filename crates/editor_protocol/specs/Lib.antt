pub mod Frames
pub mod Messages
pub mod Replies
pub mod Documents
pub mod Steps
