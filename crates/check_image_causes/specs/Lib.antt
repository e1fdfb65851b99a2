pub mod Numbers
pub mod ImageLevels
pub mod ImageLoads
pub mod ImageSamples
