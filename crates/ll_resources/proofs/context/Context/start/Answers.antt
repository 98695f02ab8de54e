use Rattle.std.proofs.Common.{ap, ◌∙◌}
use Rattle.std.proofs.lemmas.Result.{IfOk-from_err}
use Rattle.ll_resources.specs.History.{begun}
use Rattle.ll_resources.specs.Resources.{Resources}
use Rattle.ll_resources.specs.Raw.{raw}
use Rattle.ll_resources.specs.Changes.{history}
use Rattle.ll_resources.proofs.ChangeLemmas.{sound-same, sound-none, sound-state}
use Rattle.ll_resources.proofs.ChainLemmas.{well-started}
use Rattle.ll_resources.proofs.context.Context.start.Goals as goal

pub invariant_of-result : goal.invariant_of-result
invariant_of-result g c =
    let s = c.in_ok-state.state in
    sound-same _ c.new.result.items (raw s) _ c.new.ensures.items (sound-none (raw s) _ (sound-state s
    (well-started c.args.clauses.now (raw s) (ap (λ (r : Resources g.row.C.Denot). r.keys) c.in_ok-state.ensures.state) c.in_ok-state.ensures.kept)))

pub returns : goal.returns
returns g c = ap (λ cs. history cs (raw c.in_ok-state.state)) c.new.ensures.items ∙ ap begun c.in_ok-state.ensures.state

pub returns-in_err-state : goal.returns-in_err-state
returns-in_err-state g c = IfOk-from_err c.from_residual.result _ c.from_residual.ensures.0
