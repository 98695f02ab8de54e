use Rattle.std.proofs.Common.{ap, ◌∙◌, arith, length}
use Rattle.ll_bank.specs.Term.{term_depth}
use Rattle.ll_bank.specs.Nodes.{term_tree}
use Rattle.ll_bank.proofs.BankLemmas.{depths_count, depth_at}
use Rattle.ll_bank.proofs.bank.Bank.depth.Goals as goal

pub depth-requires : goal.depth-requires
depth-requires c =
    let e = depths_count c.self.inside.flat.nodes c.self.inside.flat.depths c.self.invariant in let v = ap (λ n. length n.terms) c.self.view_is in
    omega arith

pub returns : goal.returns
returns c =
    let e = depths_count c.self.inside.flat.nodes c.self.inside.flat.depths c.self.invariant in let v = ap (λ n. length n.terms) c.self.view_is in
    c.depth.ensures
    ∙ (depth_at c.self.inside.flat.nodes c.self.inside.flat.depths c.self.invariant c.args.at.0 0 (omega arith)
    ∙ ap (λ n. term_depth (term_tree n c.args.at.0)) c.self.view_is)
