pub mod Formulas
pub mod FormulaCode
pub mod Truth
pub mod ConditionBounds
pub mod Laws
