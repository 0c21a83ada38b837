mod BuiltRules
pub mod FirstReadings
mod ReadMaps
mod RightSets
mod RuleCodes
mod RulesCodes
mod SoundRules
