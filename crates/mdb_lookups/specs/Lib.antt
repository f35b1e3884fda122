pub mod Children
pub mod NameOrder
pub mod Lookups
pub mod SortedKeys
pub mod LabelOrder
pub mod PlacedConditions
pub mod NumberedChildren
