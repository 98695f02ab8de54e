use Rattle.std.proofs.Common.{length, ap, ◌∙◌, arith}
use Rattle.std.proofs.lemmas.List.{drop_all}
use Rattle.ll_resources.specs.Raw.{raw, shown}
use Rattle.ll_resources.specs.Changes.{before}
use Rattle.ll_resources.specs.History.{History}
use Rattle.ll_resources.proofs.ChangeLemmas.{length-states, mark-within, state-marked}
use Rattle.ll_resources.proofs.context.Context.mark.Goals as goal

pub returns-clause-good : goal.returns-clause-good
returns-clause-good g c =
    let n = length-states c.self.inside.changes.items (raw c.self.inside.state) in
    let m = ap (λ (k : History g.row.C.Denot). length k.past) c.self.view_is in
    omega (arith, n, m, c.len.ensures, c.self.inside.changes.ok)

pub returns-clause-state : goal.returns-clause-state
returns-clause-state g c =
    state-marked c.self.inside.changes.items (raw c.self.inside.state) c.args.self.now _ c.self.view_is
    ∙ (ap (λ ds. shown (before ds (raw c.self.inside.state))) (drop_all _ c.self.inside.changes.items (omega (arith, c.len.ensures, c.self.inside.changes.ok)))
    ∙ ap (λ (k : History g.row.C.Denot). k.present) c.self.view_is)

pub returns-clause-last : goal.returns-clause-last
returns-clause-last g c = λ mark good.
    let l = mark-within c.self.inside.changes.items (raw c.self.inside.state) c.args.self.now mark c.self.view_is good in
    omega (arith, l, c.len.ensures, c.self.inside.changes.ok)
