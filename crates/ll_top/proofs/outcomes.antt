-- Status and text of a call.
pub mod CallLemmas
pub mod DeepenLaws
pub mod LawLemmas
pub mod OneText
pub mod OutcomeLemmas
pub mod OwnLemmas
pub mod SessionLaws
pub mod ToldLemmas
