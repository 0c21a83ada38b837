pub mod Images
pub mod PlainRules
pub mod RuleFaults
pub mod RuleLists
pub mod RuleParts
pub mod Sets
