use Rattle.std.proofs.Common.{refl}
use Rattle.std.proofs.lemmas.Result.{IfOk-from_err}
use Rattle.ll_list_laws.proofs.CallerLemmas.{OnErr-always}
use Rattle.ll_resources.specs.Raw.{raw}
use Rattle.ll_resources.proofs.ChainLemmas.{well-erased}
use Rattle.ll_resources.proofs.ChangeLemmas.{well-now, sound-same, sound-noted, marks-alike, marks-noted, history-alike}
use Rattle.ll_resources.proofs.context.Context.erase.Goals as goal

pub invariant_of-self : goal.invariant_of-self
invariant_of-self g c =
    sound-same c.self.inside.changes.items c.reserve.new.self.items (raw c.self.inside.state) _ c.reserve.ensures.items c.self.invariant

pub returns-in_err-reserve-clause-marks : goal.returns-in_err-reserve-clause-marks
returns-in_err-reserve-clause-marks g c =
    marks-alike c.self.inside.changes.items c.reserve.new.self.items (raw c.self.inside.state) (raw c.self.inside.state) c.args.self.now
    c.reserve.ensures.items refl c.self.view_is

pub invariant_of-self-2 : goal.invariant_of-self-2
invariant_of-self-2 g c =
    sound-noted c.self.inside.changes.items _ _ _ c.self.inside.state c.erase-change.new.self c.reserve.ensures.items c.push_reserved.ensures.items
    c.erase-change.ensures.leads
    (well-erased _ _ c.erase-change.ensures.erased (well-now c.self.inside.changes.items c.self.inside.state c.self.invariant)) c.self.invariant

pub returns-clause-marks : goal.returns-clause-marks
returns-clause-marks g c =
    marks-noted c.self.inside.changes.items _ _ _ c.self.inside.state c.erase-change.new.self _ c.reserve.ensures.items c.push_reserved.ensures.items
    c.erase-change.ensures.leads c.self.view_is

pub returns-in_err-reserve-clause-erased : goal.returns-in_err-reserve-clause-erased
returns-in_err-reserve-clause-erased g c = IfOk-from_err c.from_residual.result _ c.from_residual.ensures.0

pub returns-in_err-reserve-clause-refused : goal.returns-in_err-reserve-clause-refused
returns-in_err-reserve-clause-refused g c = OnErr-always c.from_residual.result
    (history-alike c.self.inside.changes.items c.reserve.new.self.items (raw c.self.inside.state) (raw c.self.inside.state) c.args.self.now
    c.reserve.ensures.items refl c.self.view_is)

pub returns-clause-refused : goal.returns-clause-refused
returns-clause-refused g c = _
