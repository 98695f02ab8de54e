use Rattle.std.proofs.Common.{refl, ap}
use Rattle.std.proofs.lemmas.Result.{IfOk-from_err}
use Rattle.ll_list_laws.proofs.CallerLemmas.{OnErr-always}
use Rattle.ll_resources.specs.Raw.{raw, shown}
use Rattle.ll_resources.specs.Resources.{saved_as}
use Rattle.ll_resources.proofs.RawLemmas.{save-keeps, save-last}
use Rattle.ll_resources.proofs.ChainLemmas.{well-kept}
use Rattle.ll_resources.proofs.ChangeLemmas.{well-now, sound-same, sound-alike, sound-noted, marks-alike, marks-noted, within-now, number-kept, seen-saved}
use Rattle.ll_resources.proofs.ChangeLemmas.{history-alike}
use Rattle.ll_resources.proofs.context.Context.save.Goals as goal

pub invariant_of-self : goal.invariant_of-self
invariant_of-self g c =
    sound-same c.self.inside.changes.items c.reserve.new.self.items (raw c.self.inside.state) _ c.reserve.ensures.items c.self.invariant

pub returns-in_err-reserve-clause-marks : goal.returns-in_err-reserve-clause-marks
returns-in_err-reserve-clause-marks g c =
    marks-alike c.self.inside.changes.items c.reserve.new.self.items (raw c.self.inside.state) (raw c.self.inside.state) c.args.self.now
    c.reserve.ensures.items refl c.self.view_is

pub invariant_of-self-2 : goal.invariant_of-self-2
invariant_of-self-2 g c =
    sound-noted c.self.inside.changes.items _ _ _ c.self.inside.state c.save.new.self c.reserve.ensures.items c.push_reserved.ensures.items
    c.in_ok-change.ensures.leads
    (well-kept _ _ c.in_ok-change.ensures.saved (well-now c.self.inside.changes.items c.self.inside.state c.self.invariant)) c.self.invariant

pub returns-clause-marks : goal.returns-clause-marks
returns-clause-marks g c =
    marks-noted c.self.inside.changes.items _ _ _ c.self.inside.state c.save.new.self _ c.reserve.ensures.items c.push_reserved.ensures.items
    c.in_ok-change.ensures.leads c.self.view_is

pub returns-clause-number : goal.returns-clause-number
returns-clause-number g c =
    ap saved_as (number-kept c.self.inside.changes.items (raw c.self.inside.state) c.args.self.now c.len-number.result c.self.view_is c.len-number.ensures)

pub returns-clause-saved : goal.returns-clause-saved
returns-clause-saved g c =
    seen-saved c.self.inside.changes.items (raw c.self.inside.state) (raw c.save.new.self) c.args.self.now c.self.view_is
    (within-now c.self.inside.changes.items c.self.inside.state c.self.invariant) c.in_ok-change.ensures.saved

pub returns-clause-kept : goal.returns-clause-kept
returns-clause-kept g c =
    save-last c.args.self.now.present (shown (raw c.save.new.self)) c.len-number.result
    (number-kept c.self.inside.changes.items (raw c.self.inside.state) c.args.self.now c.len-number.result c.self.view_is c.len-number.ensures)
    (seen-saved c.self.inside.changes.items (raw c.self.inside.state) (raw c.save.new.self) c.args.self.now c.self.view_is
    (within-now c.self.inside.changes.items c.self.inside.state c.self.invariant) c.in_ok-change.ensures.saved)

pub returns-clause-same : goal.returns-clause-same
returns-clause-same g c =
    save-keeps c.args.self.now.present (shown (raw c.save.new.self))
    (seen-saved c.self.inside.changes.items (raw c.self.inside.state) (raw c.save.new.self) c.args.self.now c.self.view_is
    (within-now c.self.inside.changes.items c.self.inside.state c.self.invariant) c.in_ok-change.ensures.saved)

pub invariant_of-self-in_err-change : goal.invariant_of-self-in_err-change
invariant_of-self-in_err-change g c =
    sound-alike c.self.inside.changes.items c.reserve.new.self.items (raw c.self.inside.state) (raw c.save.new.self) _ _ c.reserve.ensures.items
    c.in_err-change.ensures.refused c.in_err-change.ensures.room c.self.invariant

pub returns-in_err-change-clause-marks : goal.returns-in_err-change-clause-marks
returns-in_err-change-clause-marks g c =
    marks-alike c.self.inside.changes.items c.reserve.new.self.items (raw c.self.inside.state) (raw c.save.new.self) c.args.self.now
    c.reserve.ensures.items c.in_err-change.ensures.refused c.self.view_is

pub returns-in_err-reserve-clause-number : goal.returns-in_err-reserve-clause-number
returns-in_err-reserve-clause-number g c = IfOk-from_err c.from_residual.result _ c.from_residual.ensures.0

pub returns-in_err-reserve-clause-kept : goal.returns-in_err-reserve-clause-kept
returns-in_err-reserve-clause-kept g c = IfOk-from_err c.from_residual.result _ c.from_residual.ensures.0

pub returns-in_err-reserve-clause-saved : goal.returns-in_err-reserve-clause-saved
returns-in_err-reserve-clause-saved g c = IfOk-from_err c.from_residual.result _ c.from_residual.ensures.0

pub returns-in_err-reserve-clause-refused : goal.returns-in_err-reserve-clause-refused
returns-in_err-reserve-clause-refused g c = OnErr-always c.from_residual.result
    (history-alike c.self.inside.changes.items c.reserve.new.self.items (raw c.self.inside.state) (raw c.self.inside.state) c.args.self.now
    c.reserve.ensures.items refl c.self.view_is)

pub returns-in_err-change-clause-number : goal.returns-in_err-change-clause-number
returns-in_err-change-clause-number g c = IfOk-from_err c.from_residual-in_err-change.result _ c.from_residual-in_err-change.ensures.0

pub returns-in_err-change-clause-kept : goal.returns-in_err-change-clause-kept
returns-in_err-change-clause-kept g c = IfOk-from_err c.from_residual-in_err-change.result _ c.from_residual-in_err-change.ensures.0

pub returns-in_err-change-clause-saved : goal.returns-in_err-change-clause-saved
returns-in_err-change-clause-saved g c = IfOk-from_err c.from_residual-in_err-change.result _ c.from_residual-in_err-change.ensures.0

pub returns-in_err-change-clause-refused : goal.returns-in_err-change-clause-refused
returns-in_err-change-clause-refused g c = OnErr-always c.from_residual-in_err-change.result
    (history-alike c.self.inside.changes.items c.reserve.new.self.items (raw c.self.inside.state) (raw c.save.new.self) c.args.self.now
    c.reserve.ensures.items c.in_err-change.ensures.refused c.self.view_is)

pub returns-clause-refused : goal.returns-clause-refused
returns-clause-refused g c = _
