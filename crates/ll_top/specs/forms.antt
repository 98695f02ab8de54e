pub mod Begins
pub mod Making
pub mod Words
pub mod FormWords
pub mod SearchOptions
pub mod MakeForm
pub mod CommandKinds
