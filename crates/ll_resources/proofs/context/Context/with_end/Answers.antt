use Rattle.std.proofs.Common.{◌≡◌, refl, ap, sym, subst, ◌∙◌, IfSome}
use Rattle.std.specs.Prelude.{is_some, true, false, IsNone}
use Rattle.std.proofs.lemmas.Result.{IfOk-from_err}
use Rattle.ll_list_laws.proofs.CallerLemmas.{OnErr-always}
use Rattle.ll_resources.specs.History.{History}
use Rattle.ll_resources.specs.Resources.{settled, with_end, SavedFits}
use Rattle.ll_resources.specs.Raw.{raw, Agrees, Joins}
use Rattle.ll_resources.specs.Changes.{Leads, history}
use Rattle.ll_resources.specs.declared.state.State.{State}
use Rattle.ll_resources.proofs.RawLemmas.{number-inside, shown-joined, shown-apart}
use Rattle.ll_resources.proofs.ChainLemmas.{well-joined}
use Rattle.ll_resources.proofs.ChangeLemmas.{well-now, sound-same, sound-alike, sound-noted, marks-alike, marks-noted, within-now, history-alike}
use Rattle.ll_resources.proofs.context.Context.with_end.Goals as goal

pub invariant_of-self : goal.invariant_of-self
invariant_of-self g c =
    sound-same c.self.inside.changes.items c.reserve.new.self.items (raw c.self.inside.state) _ c.reserve.ensures.items c.self.invariant

pub returns-in_err-reserve-clause-marks : goal.returns-in_err-reserve-clause-marks
returns-in_err-reserve-clause-marks g c =
    marks-alike c.self.inside.changes.items c.reserve.new.self.items (raw c.self.inside.state) (raw c.self.inside.state) c.args.self.now
    c.reserve.ensures.items refl c.self.view_is

pub with_end-requires-clause-saved : goal.with_end-requires-clause-saved
with_end-requires-clause-saved g c = number-inside c.args.saved (raw c.self.inside.state)
    (subst (λ (h : History g.row.C.Denot). SavedFits c.args.saved h.present) (sym c.self.view_is) c.requires.saved)

pub with_end-requires-clause-half : goal.with_end-requires-clause-half
with_end-requires-clause-half g c = number-inside c.args.half (raw c.self.inside.state)
    (subst (λ (h : History g.row.C.Denot). SavedFits c.args.half h.present) (sym c.self.view_is) c.requires.half)

pub invariant_of-self-2 : goal.invariant_of-self-2
invariant_of-self-2 g c =
    let j : Joins c.args.saved.number c.args.half.number (raw c.self.inside.state) (raw c.with_end.new.self) =
    subst (λ done. IfSome done (λ x. Joins c.args.saved.number c.args.half.number (raw c.self.inside.state) (raw c.with_end.new.self))) c.in-Some.is
    c.in_ok-change.ensures.joins in
    sound-noted c.self.inside.changes.items _ _ _ c.self.inside.state c.with_end.new.self c.reserve.ensures.items c.push_reserved.ensures.items
    (subst (λ done. IfSome done (λ change. Leads change c.self.inside.state c.with_end.new.self)) c.in-Some.is c.in_ok-change.ensures.leads)
    (well-joined c.args.saved.number c.args.half.number _ _ j (well-now c.self.inside.changes.items c.self.inside.state c.self.invariant)) c.self.invariant

pub returns-clause-marks : goal.returns-clause-marks
returns-clause-marks g c =
    marks-noted c.self.inside.changes.items _ _ _ c.self.inside.state c.with_end.new.self _ c.reserve.ensures.items c.push_reserved.ensures.items
    (subst (λ done. IfSome done (λ change. Leads change c.self.inside.state c.with_end.new.self)) c.in-Some.is c.in_ok-change.ensures.leads) c.self.view_is

pub returns-clause-settles : goal.returns-clause-settles
returns-clause-settles g c =
    let r = raw c.self.inside.state in
    let j : Joins c.args.saved.number c.args.half.number r (raw c.with_end.new.self) =
    subst (λ done. IfSome done (λ x. Joins c.args.saved.number c.args.half.number r (raw c.with_end.new.self))) c.in-Some.is c.in_ok-change.ensures.joins in
    let a : Agrees c.args.half.number r true = subst (λ done. Agrees c.args.half.number r (is_some done)) c.in-Some.is c.in_ok-change.ensures.agrees in
    ap (λ (h : History g.row.C.Denot). settled (with_end h.present.kept c.args.saved c.args.half) h.present) (sym c.self.view_is)
    ∙ shown-joined c.args.saved c.args.half r (raw c.with_end.new.self) (within-now c.self.inside.changes.items c.self.inside.state c.self.invariant)
    (subst (λ (h : History g.row.C.Denot). SavedFits c.args.saved h.present) (sym c.self.view_is) c.requires.saved)
    (subst (λ (h : History g.row.C.Denot). SavedFits c.args.half h.present) (sym c.self.view_is) c.requires.half) a j

pub returns-in_default-clause-settles : goal.returns-in_default-clause-settles
returns-in_default-clause-settles g c =
    let r = raw c.self.inside.state in
    let a : Agrees c.args.half.number r false = subst (λ done. Agrees c.args.half.number r (is_some done)) c.in_default.is c.in_ok-change.ensures.agrees in
    let same = subst (λ done. IsNone done → c.with_end.new.self ≡ c.self.inside.state) c.in_default.is c.in_ok-change.ensures.same in (
      ap (λ (h : History g.row.C.Denot). settled (with_end h.present.kept c.args.saved c.args.half) h.present) (sym c.self.view_is)
          ∙ shown-apart c.args.saved c.args.half r (within-now c.self.inside.changes.items c.self.inside.state c.self.invariant)
          (subst (λ (h : History g.row.C.Denot). SavedFits c.args.saved h.present) (sym c.self.view_is) c.requires.saved)
          (subst (λ (h : History g.row.C.Denot). SavedFits c.args.half h.present) (sym c.self.view_is) c.requires.half) a,
      ap (λ cs. history cs (raw c.with_end.new.self)) c.reserve.ensures.items
          ∙ (ap (λ (t : State g.row.C.Denot). history c.self.inside.changes.items (raw t)) (same refl) ∙ c.self.view_is),
    )

pub invariant_of-self-in_err-change : goal.invariant_of-self-in_err-change
invariant_of-self-in_err-change g c =
    sound-alike c.self.inside.changes.items c.reserve.new.self.items (raw c.self.inside.state) (raw c.with_end.new.self) _ _ c.reserve.ensures.items
    c.in_err-change.ensures.refused c.in_err-change.ensures.room c.self.invariant

pub returns-in_err-change-clause-marks : goal.returns-in_err-change-clause-marks
returns-in_err-change-clause-marks g c =
    marks-alike c.self.inside.changes.items c.reserve.new.self.items (raw c.self.inside.state) (raw c.with_end.new.self) c.args.self.now
    c.reserve.ensures.items c.in_err-change.ensures.refused c.self.view_is

pub invariant_of-self-in_default : goal.invariant_of-self-in_default
invariant_of-self-in_default g c =
    let same = subst (λ done. IsNone done → c.with_end.new.self ≡ c.self.inside.state) c.in_default.is c.in_ok-change.ensures.same in
    sound-alike c.self.inside.changes.items c.reserve.new.self.items (raw c.self.inside.state) (raw c.with_end.new.self) _ _ c.reserve.ensures.items
    (ap (λ (t : State g.row.C.Denot). raw t) (same refl)) c.in_ok-change.ensures.room c.self.invariant

pub returns-in_default-clause-marks : goal.returns-in_default-clause-marks
returns-in_default-clause-marks g c =
    let same = subst (λ done. IsNone done → c.with_end.new.self ≡ c.self.inside.state) c.in_default.is c.in_ok-change.ensures.same in
    marks-alike c.self.inside.changes.items c.reserve.new.self.items (raw c.self.inside.state) (raw c.with_end.new.self) c.args.self.now
    c.reserve.ensures.items (ap (λ (t : State g.row.C.Denot). raw t) (same refl)) c.self.view_is

pub returns-in_err-reserve-clause-settles : goal.returns-in_err-reserve-clause-settles
returns-in_err-reserve-clause-settles g c = IfOk-from_err c.from_residual.result _ c.from_residual.ensures.0

pub returns-in_err-reserve-clause-refused : goal.returns-in_err-reserve-clause-refused
returns-in_err-reserve-clause-refused g c = OnErr-always c.from_residual.result
    (history-alike c.self.inside.changes.items c.reserve.new.self.items (raw c.self.inside.state) (raw c.self.inside.state) c.args.self.now
    c.reserve.ensures.items refl c.self.view_is)

pub returns-in_err-change-clause-settles : goal.returns-in_err-change-clause-settles
returns-in_err-change-clause-settles g c = IfOk-from_err c.from_residual-in_err-change.result _ c.from_residual-in_err-change.ensures.0

pub returns-in_err-change-clause-refused : goal.returns-in_err-change-clause-refused
returns-in_err-change-clause-refused g c = OnErr-always c.from_residual-in_err-change.result
    (history-alike c.self.inside.changes.items c.reserve.new.self.items (raw c.self.inside.state) (raw c.with_end.new.self) c.args.self.now
    c.reserve.ensures.items c.in_err-change.ensures.refused c.self.view_is)

pub returns-in_default-clause-refused : goal.returns-in_default-clause-refused
returns-in_default-clause-refused g c = _

pub returns-clause-refused : goal.returns-clause-refused
returns-clause-refused g c = _
