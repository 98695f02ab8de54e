use Rattle.std.proofs.Common.{refl, ap, sym, subst}
use Rattle.std.proofs.lemmas.Result.{IfOk-from_err}
use Rattle.ll_list_laws.proofs.CallerLemmas.{OnErr-always}
use Rattle.ll_resources.specs.History.{History}
use Rattle.ll_resources.specs.Raw.{raw, shown}
use Rattle.ll_resources.specs.Resources.{SavedFits, saved_as}
use Rattle.ll_resources.proofs.RawLemmas.{number-inside, mid-keeps, mid-settles}
use Rattle.ll_resources.proofs.ChainLemmas.{well-mid}
use Rattle.ll_resources.proofs.ChangeLemmas.{well-now, sound-same, sound-alike, sound-noted, marks-alike, marks-noted, within-now, number-kept, seen-mid}
use Rattle.ll_resources.proofs.ChangeLemmas.{history-alike}
use Rattle.ll_resources.proofs.context.Context.with_mid.Goals as goal

pub invariant_of-self : goal.invariant_of-self
invariant_of-self g c =
    sound-same c.self.inside.changes.items c.reserve.new.self.items (raw c.self.inside.state) _ c.reserve.ensures.items c.self.invariant

pub returns-in_err-reserve-clause-marks : goal.returns-in_err-reserve-clause-marks
returns-in_err-reserve-clause-marks g c =
    marks-alike c.self.inside.changes.items c.reserve.new.self.items (raw c.self.inside.state) (raw c.self.inside.state) c.args.self.now
    c.reserve.ensures.items refl c.self.view_is

pub with_mid-requires : goal.with_mid-requires
with_mid-requires g c = number-inside c.args.saved (raw c.self.inside.state)
    (subst (λ (h : History g.row.C.Denot). SavedFits c.args.saved h.present) (sym c.self.view_is) c.requires)

pub invariant_of-self-2 : goal.invariant_of-self-2
invariant_of-self-2 g c =
    sound-noted c.self.inside.changes.items _ _ _ c.self.inside.state c.with_mid.new.self c.reserve.ensures.items c.push_reserved.ensures.items
    c.in_ok-change.ensures.leads
    (well-mid c.args.saved.number _ _
    (number-inside c.args.saved (raw c.self.inside.state)
    (subst (λ (h : History g.row.C.Denot). SavedFits c.args.saved h.present) (sym c.self.view_is) c.requires))
    c.in_ok-change.ensures.middle (well-now c.self.inside.changes.items c.self.inside.state c.self.invariant)) c.self.invariant

pub returns-clause-marks : goal.returns-clause-marks
returns-clause-marks g c =
    marks-noted c.self.inside.changes.items _ _ _ c.self.inside.state c.with_mid.new.self _ c.reserve.ensures.items c.push_reserved.ensures.items
    c.in_ok-change.ensures.leads c.self.view_is

pub returns-clause-middle : goal.returns-clause-middle
returns-clause-middle g c =
    seen-mid c.args.saved c.self.inside.changes.items (raw c.self.inside.state) (raw c.with_mid.new.self) c.args.self.now c.self.view_is
    (within-now c.self.inside.changes.items c.self.inside.state c.self.invariant) c.requires c.in_ok-change.ensures.middle

pub invariant_of-self-in_err-change : goal.invariant_of-self-in_err-change
invariant_of-self-in_err-change g c =
    sound-alike c.self.inside.changes.items c.reserve.new.self.items (raw c.self.inside.state) (raw c.with_mid.new.self) _ _ c.reserve.ensures.items
    c.in_err-change.ensures.refused
    c.in_err-change.ensures.room c.self.invariant

pub returns-clause-number : goal.returns-clause-number
returns-clause-number g c =
    ap saved_as (number-kept c.self.inside.changes.items (raw c.self.inside.state) c.args.self.now c.len-number.result c.self.view_is c.len-number.ensures)

pub returns-clause-settles : goal.returns-clause-settles
returns-clause-settles g c =
    mid-settles c.args.saved c.args.self.now.present (shown (raw c.with_mid.new.self)) c.len-number.result
    (number-kept c.self.inside.changes.items (raw c.self.inside.state) c.args.self.now c.len-number.result c.self.view_is c.len-number.ensures)
    (seen-mid c.args.saved c.self.inside.changes.items (raw c.self.inside.state) (raw c.with_mid.new.self) c.args.self.now c.self.view_is
    (within-now c.self.inside.changes.items c.self.inside.state c.self.invariant) c.requires c.in_ok-change.ensures.middle)

pub returns-clause-same : goal.returns-clause-same
returns-clause-same g c =
    mid-keeps c.args.saved c.args.self.now.present (shown (raw c.with_mid.new.self))
    (seen-mid c.args.saved c.self.inside.changes.items (raw c.self.inside.state) (raw c.with_mid.new.self) c.args.self.now c.self.view_is
    (within-now c.self.inside.changes.items c.self.inside.state c.self.invariant) c.requires c.in_ok-change.ensures.middle)

pub returns-in_err-change-clause-marks : goal.returns-in_err-change-clause-marks
returns-in_err-change-clause-marks g c =
    marks-alike c.self.inside.changes.items c.reserve.new.self.items (raw c.self.inside.state) (raw c.with_mid.new.self) c.args.self.now
    c.reserve.ensures.items c.in_err-change.ensures.refused c.self.view_is

pub returns-in_err-reserve-clause-number : goal.returns-in_err-reserve-clause-number
returns-in_err-reserve-clause-number g c = IfOk-from_err c.from_residual.result _ c.from_residual.ensures.0

pub returns-in_err-reserve-clause-settles : goal.returns-in_err-reserve-clause-settles
returns-in_err-reserve-clause-settles g c = IfOk-from_err c.from_residual.result _ c.from_residual.ensures.0

pub returns-in_err-reserve-clause-middle : goal.returns-in_err-reserve-clause-middle
returns-in_err-reserve-clause-middle g c = IfOk-from_err c.from_residual.result _ c.from_residual.ensures.0

pub returns-in_err-reserve-clause-refused : goal.returns-in_err-reserve-clause-refused
returns-in_err-reserve-clause-refused g c = OnErr-always c.from_residual.result
    (history-alike c.self.inside.changes.items c.reserve.new.self.items (raw c.self.inside.state) (raw c.self.inside.state) c.args.self.now
    c.reserve.ensures.items refl c.self.view_is)

pub returns-in_err-change-clause-number : goal.returns-in_err-change-clause-number
returns-in_err-change-clause-number g c = IfOk-from_err c.from_residual-in_err-change.result _ c.from_residual-in_err-change.ensures.0

pub returns-in_err-change-clause-settles : goal.returns-in_err-change-clause-settles
returns-in_err-change-clause-settles g c = IfOk-from_err c.from_residual-in_err-change.result _ c.from_residual-in_err-change.ensures.0

pub returns-in_err-change-clause-middle : goal.returns-in_err-change-clause-middle
returns-in_err-change-clause-middle g c = IfOk-from_err c.from_residual-in_err-change.result _ c.from_residual-in_err-change.ensures.0

pub returns-in_err-change-clause-refused : goal.returns-in_err-change-clause-refused
returns-in_err-change-clause-refused g c = OnErr-always c.from_residual-in_err-change.result
    (history-alike c.self.inside.changes.items c.reserve.new.self.items (raw c.self.inside.state) (raw c.with_mid.new.self) c.args.self.now
    c.reserve.ensures.items c.in_err-change.ensures.refused c.self.view_is)

pub returns-clause-refused : goal.returns-clause-refused
returns-clause-refused g c = _
