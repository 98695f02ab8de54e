-- Each text is that of one derivation, or has one fault.
pub mod OneFault
pub mod OneFault2
pub mod OneField
pub mod OneLine
pub mod OneSharing
pub mod OneStep
pub mod OneTable
pub mod OneTerm
pub mod OneText
pub mod OneText2
pub mod OneVerdict
pub mod OneVersion
