use Rattle.std.proofs.Common.{◌≡◌}
use Rattle.ll_lexer.proofs.Numerals.{number-utf8, number-parsed, utf8-read}
use Rattle.ll_lexer.proofs.number.value_of.Goals as goal

pub unwrap-text-requires : goal.unwrap-text-requires
unwrap-text-requires c = utf8-read _ _ c.args.word.now c.from_utf8.result (number-utf8 c.args.word.now c.requires) c.from_utf8.ensures.cases

pub returns : goal.returns
returns c =
    let text : c.unwrap-text.result.now ≡ c.args.word.now = (rw c.unwrap-text.ensures at c.from_utf8.ensures.cases).0 in
    number-parsed c.args.word.now c.parse.result c.ok.result c.requires (rw text at c.parse.ensures.value.0) c.ok.ensures.value
