-- What the crates above may cite of the tokens of a text, beside the public contracts.

-- ---- what a token is spelled as

-- a test that every fixed spelling, every name, every variable and every number passes is passed by every token
pub use Rattle.ll_lexer.proofs.Spelled.{kind-passes}
-- no token is spelled by nothing
pub use Rattle.ll_lexer.proofs.Longest.{nonempty}
-- a lower-case letter begins a word
pub use Rattle.ll_lexer.proofs.Longest.{lower-start}
-- the word is no keyword, and not `_`
pub use Rattle.ll_lexer.proofs.Longest.{NoKeyword}
-- a word that begins with a lower-case letter and is no keyword is spelled as a name
pub use Rattle.ll_lexer.proofs.Longest.{name-spelled}
-- each token of a text stands in the text as it is spelled
pub use Rattle.ll_lexer.proofs.OneReading.{token-found}
-- a name of at most 255 bytes has no flaw
pub use Rattle.ll_lexer.proofs.ReadBack.{sound-name}
-- a variable of at most 255 bytes has no flaw
pub use Rattle.ll_lexer.proofs.ReadBack.{sound-variable}
-- ---- the bytes of a token

-- a lower-case letter is ASCII
pub use Rattle.ll_lexer.proofs.Ascii.{lower-ascii}
-- a byte that goes on with a word is ASCII
pub use Rattle.ll_lexer.proofs.Ascii.{word-ascii}
-- digits, as the lexer tests them, are those of a decimal number
pub use Rattle.ll_lexer.proofs.Numerals.{digits-model}
-- a digit is no plus
pub use Rattle.ll_lexer.proofs.Numerals.{digit-no_plus}
-- ---- the longest token

-- the bytes that would go on with a token of this kind
pub use Rattle.ll_lexer.proofs.ReadBack.{goes_on}
-- the bytes do not begin with one that passes
pub use Rattle.ll_lexer.proofs.ReadBack.{Ends}
-- what is spelled as a token, with nothing behind it that goes on with it, is read as this token
pub use Rattle.ll_lexer.proofs.ReadBack.{spelled-read}
-- the digits from the first on are read as one number
pub use Rattle.ll_lexer.proofs.Longest.{number-longest}
-- a minus and the digits behind it are read as one number
pub use Rattle.ll_lexer.proofs.Longest.{negative-longest}
-- a text has no more tokens than bytes
pub use Rattle.ll_lexer.proofs.FewTokens.{few-tokens}
