pub mod LookSteps
pub mod CoverStays
pub mod LookFindings
pub mod SurveyAsks
pub mod Watched
pub mod SafeByDown
