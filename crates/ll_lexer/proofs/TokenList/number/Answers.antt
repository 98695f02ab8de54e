use Rattle.std.proofs.Common.{◌≡◌, ap}
use Rattle.ll_lexer.proofs.Listed.{number-token, number-fits}
use Rattle.ll_lexer.proofs.TokenList.number.Goals as goal

pub value_of-requires : goal.value_of-requires
value_of-requires c =
    let same : c.self.inside.text.now ≡ c.args.self.now.text = ap (λ v. v.text) c.self.view_is in
    rw same (number-token c.args.self.now.text c.args.self.now.tokens c.args.i c.get-token.result c.get-token.ensures.token c.get-token.ensures.stands
    c.requires)

pub unwrap-requires : goal.unwrap-requires
unwrap-requires c =
    let same : c.self.inside.text.now ≡ c.args.self.now.text = ap (λ v. v.text) c.self.view_is in
    number-fits c.args.self.now.text c.args.self.now.tokens c.args.i c.get-token.result c.value_of.result c.get-token.ensures.token c.get-token.ensures.stands
    c.requires (rw same at c.value_of.ensures)
