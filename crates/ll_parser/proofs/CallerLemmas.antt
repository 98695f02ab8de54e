-- What the crates above may cite of the grammar and its raw trees, beside the public contracts.

-- ---- how many nodes a raw tree has

-- a raw tree has at least one node
pub use Rattle.ll_parser.proofs.stored.Sizes.{weight_some}
-- a whole program has no more nodes than tokens
pub use Rattle.ll_parser.proofs.stored.Sizes.{few_nodes}
-- a whole program has no more clauses than tokens
pub use Rattle.ll_parser.proofs.stored.Counts.{few-clauses}
-- the raw tree can stand where a formula does; every other one is that of a term alone
pub use Rattle.ll_parser.proofs.stored.Sizes.{IsForm}
-- the raw tree of a formula with so many nodes at most
pub use Rattle.ll_parser.proofs.stored.Sizes.{IsSmall}
-- each clause is a formula with so many nodes at most
pub use Rattle.ll_parser.proofs.stored.Sizes.{AreSmall}
-- each clause of each module is a formula with so many nodes at most
pub use Rattle.ll_parser.proofs.stored.Sizes.{HaveSmall}
-- a whole query is the tree of a formula that is small
pub use Rattle.ll_parser.proofs.stored.Sizes.{small_query}
-- the clauses of a whole program are formulas that are small
pub use Rattle.ll_parser.proofs.stored.Sizes.{small_program}
-- ---- raw trees that can be printed

-- a name that can stand in a text
pub use Rattle.ll_parser.proofs.printing.Printable.{IsLower}
-- a variable that can stand in a text
pub use Rattle.ll_parser.proofs.printing.Printable.{IsUpper}
-- a name or a variable that can stand in a text
pub use Rattle.ll_parser.proofs.printing.Printable.{IsWord}
-- a word is spelled as a name or as a variable
pub use Rattle.ll_parser.proofs.printing.Printable.{word_spells}
-- a term that can stand in a text
pub use Rattle.ll_parser.proofs.printing.Printable.{IsTerm}
-- terms that can stand in a text
pub use Rattle.ll_parser.proofs.printing.Printable.{AreTerms}
-- a plain term, as it stands on the left of `is`, that can stand in a text
pub use Rattle.ll_parser.proofs.printing.Printable.{IsPlainTerm}
-- an expression that can stand in a text
pub use Rattle.ll_parser.proofs.printing.Printable.{IsExpr}
-- the left side of a comparison, which begins with no bracket, that can stand in a text
pub use Rattle.ll_parser.proofs.printing.Printable.{IsLead}
-- a formula that can stand in a text
pub use Rattle.ll_parser.proofs.printing.Printable.{IsFormula}
-- all tokens can stand in a text
pub use Rattle.ll_parser.proofs.printing.Printable.{Spelled}
-- where tokens can stand in a text, so can those of either part
pub use Rattle.ll_parser.proofs.printing.Printable.{spelled-split}
-- a token of the lexer without a flaw can stand in a text
pub use Rattle.ll_parser.proofs.spelling.Spelled.{kind-spelled}
-- the place of a token is the lexer's
pub use Rattle.ll_parser.proofs.machines.Running.{place-by}
-- what is read as a formula can be printed
pub use Rattle.ll_parser.proofs.printing.Printable.{formula-printable}
-- ---- quantifiers

-- what holds of both quantifiers holds of each
pub use Rattle.ll_parser.proofs.stored.QuantifierWords.{either_quantifier}
-- the token of a quantifier has the quantifier's place
pub use Rattle.ll_parser.proofs.stored.QuantifierWords.{quantifier_place}
-- what the tokens of a text are read as is whole
pub use Rattle.ll_parser.proofs.spelling.Spelled.{whole-read}
