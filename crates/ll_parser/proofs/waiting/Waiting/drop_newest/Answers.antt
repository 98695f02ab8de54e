use Rattle.std.proofs.Common.{◌≡◌, length, refl, rules}
use Rattle.ll_parser.proofs.stored.Shown.{cut}
use Rattle.ll_parser.proofs.waiting.Waiting.drop_newest.Goals as goal

pub returns-clause-gives : goal.returns-clause-gives
returns-clause-gives c = λ rest f e.
    let n : c.len-n.result ≡ length c.args.self.now.frames.items = search rules in
    cut c.args.self.now (record { forms = c.args.self.now.forms; args = c.args.self.now.args; frames = c.truncate.new.self }) rest f e refl refl c.len-n.result
    n c.truncate.ensures.items
