use Rattle.std.proofs.Common.{◌≡◌, ap}
use Rattle.ll_lexer.specs.Reading.{bytes_of}
use Rattle.ll_lexer.proofs.Ascii.{spelled-ascii}
use Rattle.ll_lexer.proofs.TokenList.bytes.Goals as goal

pub returns-clause-ascii : goal.returns-clause-ascii
returns-clause-ascii c =
    let same : c.self.inside.text.now ≡ c.args.self.now.text = ap (λ v. v.text) c.self.view_is in
    rw same (spelled-ascii (bytes_of c.args.self.now.text c.get-token.result) c.get-token.result.kind c.get-token.ensures.stands.spells)
