use Rattle.std.proofs.Common.{refl, ap, ◌∙◌}
use Rattle.std.proofs.lemmas.Result.{IfOk-from_err}
use Rattle.ll_list_laws.proofs.CallerLemmas.{OnErr-always}
use Rattle.ll_resources.specs.History.{History}
use Rattle.ll_resources.specs.Raw.{Raw, raw, shown}
use Rattle.ll_resources.specs.Resources.{after_bang}
use Rattle.ll_resources.proofs.RawLemmas.{shown-banged}
use Rattle.ll_resources.proofs.ChainLemmas.{well-banged}
use Rattle.ll_resources.proofs.ChangeLemmas.{well-now, sound-same, sound-alike, sound-noted, marks-alike, marks-noted, within-now, history-alike}
use Rattle.ll_resources.proofs.context.Context.bang.Goals as goal

pub invariant_of-self : goal.invariant_of-self
invariant_of-self g c =
    sound-same c.self.inside.changes.items c.reserve.new.self.items (raw c.self.inside.state) _ c.reserve.ensures.items c.self.invariant

pub returns-in_err-reserve-clause-marks : goal.returns-in_err-reserve-clause-marks
returns-in_err-reserve-clause-marks g c =
    marks-alike c.self.inside.changes.items c.reserve.new.self.items (raw c.self.inside.state) (raw c.self.inside.state) c.args.self.now
    c.reserve.ensures.items refl c.self.view_is

pub invariant_of-self-2 : goal.invariant_of-self-2
invariant_of-self-2 g c =
    sound-noted c.self.inside.changes.items _ _ _ c.self.inside.state c.bang.new.self c.reserve.ensures.items c.push_reserved.ensures.items
    c.in_ok-change.ensures.leads
    (well-banged _ _ c.in_ok-change.ensures.banged (well-now c.self.inside.changes.items c.self.inside.state c.self.invariant)) c.self.invariant

pub returns-clause-marks : goal.returns-clause-marks
returns-clause-marks g c =
    marks-noted c.self.inside.changes.items _ _ _ c.self.inside.state c.bang.new.self _ c.reserve.ensures.items c.push_reserved.ensures.items
    c.in_ok-change.ensures.leads c.self.view_is

pub returns-clause-banged : goal.returns-clause-banged
returns-clause-banged g c =
    ap (λ (r : Raw g.row.C.Denot). shown r) c.in_ok-change.ensures.banged
    ∙ (shown-banged (raw c.self.inside.state) (within-now c.self.inside.changes.items c.self.inside.state c.self.invariant)
    ∙ ap (λ (h : History g.row.C.Denot). after_bang h.present) c.self.view_is)

pub invariant_of-self-in_err-change : goal.invariant_of-self-in_err-change
invariant_of-self-in_err-change g c =
    sound-alike c.self.inside.changes.items c.reserve.new.self.items (raw c.self.inside.state) (raw c.bang.new.self) _ _ c.reserve.ensures.items
    c.in_err-change.ensures.refused c.in_err-change.ensures.room c.self.invariant

pub returns-in_err-change-clause-marks : goal.returns-in_err-change-clause-marks
returns-in_err-change-clause-marks g c =
    marks-alike c.self.inside.changes.items c.reserve.new.self.items (raw c.self.inside.state) (raw c.bang.new.self) c.args.self.now
    c.reserve.ensures.items c.in_err-change.ensures.refused c.self.view_is

pub returns-in_err-reserve-clause-banged : goal.returns-in_err-reserve-clause-banged
returns-in_err-reserve-clause-banged g c = IfOk-from_err c.from_residual.result _ c.from_residual.ensures.0

pub returns-in_err-reserve-clause-refused : goal.returns-in_err-reserve-clause-refused
returns-in_err-reserve-clause-refused g c = OnErr-always c.from_residual.result
    (history-alike c.self.inside.changes.items c.reserve.new.self.items (raw c.self.inside.state) (raw c.self.inside.state) c.args.self.now
    c.reserve.ensures.items refl c.self.view_is)

pub returns-in_err-change-clause-banged : goal.returns-in_err-change-clause-banged
returns-in_err-change-clause-banged g c = IfOk-from_err c.from_residual-in_err-change.result _ c.from_residual-in_err-change.ensures.0

pub returns-in_err-change-clause-refused : goal.returns-in_err-change-clause-refused
returns-in_err-change-clause-refused g c = OnErr-always c.from_residual-in_err-change.result
    (history-alike c.self.inside.changes.items c.reserve.new.self.items (raw c.self.inside.state) (raw c.bang.new.self) c.args.self.now
    c.reserve.ensures.items c.in_err-change.ensures.refused c.self.view_is)

pub returns-clause-refused : goal.returns-clause-refused
returns-clause-refused g c = _
