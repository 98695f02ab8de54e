use Rattle.std.proofs.Common.{refl, length, ap, sym, ◌∙◌}
use Rattle.std.specs.Prelude.{reverse}
use Rattle.std.proofs.lemmas.Result.{IfOk-from_err}
use Rattle.ll_list_laws.proofs.CallerLemmas.{OnErr-always}
use Rattle.ll_resources.specs.History.{History}
use Rattle.ll_resources.specs.Resources.{after_pick}
use Rattle.ll_resources.specs.Places.{label_place}
use Rattle.ll_resources.specs.Raw.{Raw, raw, shown, raw_picked, mark_slot}
use Rattle.ll_resources.proofs.RawLemmas.{shown-picked}
use Rattle.ll_resources.proofs.PlaceLemmas.{place-seen}
use Rattle.ll_resources.proofs.ChainLemmas.{well-picked}
use Rattle.ll_resources.proofs.ChangeLemmas.{well-now, sound-same, sound-noted, marks-alike, marks-noted, history-alike}
use Rattle.ll_resources.proofs.context.Context.pick_at.Goals as goal

pub invariant_of-self : goal.invariant_of-self
invariant_of-self g c =
    sound-same c.self.inside.changes.items c.reserve.new.self.items (raw c.self.inside.state) _ c.reserve.ensures.items c.self.invariant

pub returns-in_err-reserve-clause-marks : goal.returns-in_err-reserve-clause-marks
returns-in_err-reserve-clause-marks g c =
    marks-alike c.self.inside.changes.items c.reserve.new.self.items (raw c.self.inside.state) (raw c.self.inside.state) c.args.self.now
    c.reserve.ensures.items refl c.self.view_is

pub invariant_of-self-2 : goal.invariant_of-self-2
invariant_of-self-2 g c =
    sound-noted c.self.inside.changes.items _ _ _ c.self.inside.state c.pick-change.new.self c.reserve.ensures.items c.push_reserved.ensures.items
    c.pick-change.ensures.leads
    (well-picked c.args.from_front _ _ c.pick-change.ensures.picked
    (well-now c.self.inside.changes.items c.self.inside.state c.self.invariant)) c.self.invariant

pub returns-clause-marks : goal.returns-clause-marks
returns-clause-marks g c =
    marks-noted c.self.inside.changes.items _ _ _ c.self.inside.state c.pick-change.new.self _ c.reserve.ensures.items c.push_reserved.ensures.items
    c.pick-change.ensures.leads c.self.view_is

pub returns-clause-picked : goal.returns-clause-picked
returns-clause-picked g c =
    ap (λ (r : Raw g.row.C.Denot). shown r) (c.pick-change.ensures.picked
    ∙ ap (λ f. raw_picked (mark_slot (length c.self.inside.state.live.items) f) (raw c.self.inside.state))
    (c.requires.place ∙ (sym (ap (λ (h : History g.row.C.Denot). label_place c.args.label h.present.entries) c.self.view_is)
    ∙ place-seen c.args.label (reverse c.self.inside.state.entries.items) (reverse c.self.inside.state.live.items))))
    ∙ (shown-picked c.args.label (raw c.self.inside.state) ∙ ap (λ (h : History g.row.C.Denot). after_pick c.args.label h.present) c.self.view_is)

pub returns-in_err-reserve-clause-picked : goal.returns-in_err-reserve-clause-picked
returns-in_err-reserve-clause-picked g c = IfOk-from_err c.from_residual.result _ c.from_residual.ensures.0

pub returns-in_err-reserve-clause-refused : goal.returns-in_err-reserve-clause-refused
returns-in_err-reserve-clause-refused g c = OnErr-always c.from_residual.result
    (history-alike c.self.inside.changes.items c.reserve.new.self.items (raw c.self.inside.state) (raw c.self.inside.state) c.args.self.now
    c.reserve.ensures.items refl c.self.view_is)

pub returns-clause-refused : goal.returns-clause-refused
returns-clause-refused g c = _
