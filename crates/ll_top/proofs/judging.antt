pub mod PartsLemmas
pub mod FaultExamples
pub mod GrammarLemmas
pub mod PrepareLemmas
pub mod OutcomeLemmas
pub mod ToldLemmas
pub mod ConvertLemmas
