use Rattle.std.proofs.Common.{ap}
use Rattle.ll_bank.proofs.BankLemmas.{kept_first, is_cut}
use Rattle.ll_bank.proofs.bank.Bank.cut.Goals as goal

pub invariant_of-self : goal.invariant_of-self
invariant_of-self c =
    kept_first c.self.inside.flat.nodes c.args.self.now c.self.view_is c.self.inside.flat.depths c.self.invariant c.cut.new.self.nodes c.args.size c.requires
    (ap (λ f. f.nodes) c.cut.ensures)
    c.cut.new.self.depths (ap (λ f. f.depths) c.cut.ensures)

pub returns : goal.returns
returns c =
    is_cut c.self.inside.flat.nodes c.args.self.now c.self.view_is c.self.inside.flat.depths c.self.invariant c.cut.new.self.nodes c.args.size c.requires
    (ap (λ f. f.nodes) c.cut.ensures)
