use Rattle.std.proofs.Common.{subst}
use Rattle.ll_lexer.specs.Reading.{IsLexed}
use Rattle.ll_lexer.proofs.FewTokens.{few-tokens}
use Rattle.ll_lexer.proofs.TokenList.len.Goals as goal

pub returns-clause-few : goal.returns-clause-few
returns-clause-few c = few-tokens c.args.self.now (subst IsLexed c.self.view_is c.self.invariant)
