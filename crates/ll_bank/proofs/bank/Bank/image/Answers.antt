use Rattle.std.proofs.lemmas.Result.{IfOk-from_err}
use Rattle.std.proofs.Common.{ap}
use Rattle.ll_bank.proofs.BankLemmas.{kept_first, is_cut}
use Rattle.ll_bank.proofs.bank.Bank.image.Goals as goal

pub invariant_of-result : goal.invariant_of-result
invariant_of-result c =
    kept_first c.self.inside.flat.nodes c.args.self.now c.self.view_is c.self.inside.flat.depths c.self.invariant c.in_ok-flat.flat.nodes c.args.size c.requires
    (ap (λ f. f.nodes) c.in_ok-flat.ensures)
    c.in_ok-flat.flat.depths (ap (λ f. f.depths) c.in_ok-flat.ensures)

pub returns : goal.returns
returns c =
    is_cut c.self.inside.flat.nodes c.args.self.now c.self.view_is c.self.inside.flat.depths c.self.invariant c.in_ok-flat.flat.nodes c.args.size c.requires
    (ap (λ f. f.nodes) c.in_ok-flat.ensures)

pub returns-in_err-flat : goal.returns-in_err-flat
returns-in_err-flat c = IfOk-from_err c.from_residual.result _ c.from_residual.ensures.0
