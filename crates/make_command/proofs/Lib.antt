pub mod Created
pub mod LoadRuns
pub mod MadeLoads
pub mod MadeRuns
pub mod MakePlan
pub mod PlainFacts
pub mod SummaryRuns
pub mod SummaryTexts
