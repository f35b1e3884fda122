pub mod LineBuffers
pub mod PrintedTexts
