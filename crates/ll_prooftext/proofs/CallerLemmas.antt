-- What the crates above may cite of the texts of derivations, beside the public contracts.

-- the text of a derivation is its lines
pub use Rattle.ll_prooftext.proofs.writing.WholeText.{its_lines}
-- the text at a number is that of the list
pub use Rattle.ll_prooftext.proofs.spelling.Found.{text_is}
-- the nodes of a derivation make the trees with other numbers for their names
pub use Rattle.ll_prooftext.proofs.renaming.MovedTrees.{trees-moved}
