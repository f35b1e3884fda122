pub mod LeadingLengths
pub mod LongestStrings
pub mod FirstTokens
pub mod TokenLists
pub mod PlacedTokens
pub mod WrittenTokens
