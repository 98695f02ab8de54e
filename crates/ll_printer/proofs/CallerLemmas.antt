-- What the crates above may cite of the printed texts, beside the public contracts.

-- the text of a head with arguments that are not the two of a `::`
pub use Rattle.ll_printer.proofs.Printing.{app_text}
-- a term that gets arguments has their texts behind its own
pub use Rattle.ll_printer.proofs.Printing.{applied_text-apply}
-- the text of the form `X::L`
pub use Rattle.ll_printer.proofs.Printing.{cons_text}
-- an application is a list cell where it has two arguments and the head `::`
pub use Rattle.ll_printer.proofs.Printing.{is_cons-app}
-- an application has arguments where their list is not empty
pub use Rattle.ll_printer.proofs.Printing.{has_arguments-app}
-- a text begins as its own beginning does
pub use Rattle.ll_printer.proofs.AnswerLines.{begins_before}
-- a text of which nothing was written has begun
pub use Rattle.ll_printer.proofs.Printing.{begins_same}
