-- Substitutions and the laws of unification.
pub mod UnifyBest
pub mod UnifyLaws
pub mod UnifyOver
pub mod SubLaws
