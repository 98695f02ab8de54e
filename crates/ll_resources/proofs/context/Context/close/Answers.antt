use Rattle.std.proofs.Common.{◌≡◌, refl, ap, sym, subst, ◌∙◌}
use Rattle.std.proofs.lemmas.Result.{IfOk-from_err}
use Rattle.ll_list_laws.proofs.CallerLemmas.{OnErr-always}
use Rattle.ll_resources.specs.declared.state.State.{State}
use Rattle.ll_resources.specs.History.{History}
use Rattle.ll_resources.specs.Resources.{settled, load_end}
use Rattle.ll_resources.specs.Raw.{raw}
use Rattle.ll_resources.specs.Chains.{room_of}
use Rattle.ll_resources.specs.Changes.{AreSound}
use Rattle.ll_resources.proofs.RawLemmas.{shown-closed, shown-fails}
use Rattle.ll_resources.proofs.ChangeLemmas.{sound-same, sound-noted, history-alike, marks-alike, marks-noted, sound-own, well-now, entry-there}
use Rattle.ll_resources.proofs.ChainLemmas.{well-closed}
use Rattle.ll_resources.proofs.context.Context.close.Goals as goal

pub invariant_of-self : goal.invariant_of-self
invariant_of-self g c =
    sound-same c.self.inside.changes.items c.reserve.new.self.items (raw c.self.inside.state) _ c.reserve.ensures.items c.self.invariant

pub returns-in_err-reserve-clause-marks : goal.returns-in_err-reserve-clause-marks
returns-in_err-reserve-clause-marks g c =
    marks-alike c.self.inside.changes.items c.reserve.new.self.items (raw c.self.inside.state) (raw c.self.inside.state) c.args.self.now
    c.reserve.ensures.items refl c.self.view_is

pub close-requires : goal.close-requires
close-requires g c = record {
  some = entry-there c.self.inside.changes.items (raw c.self.inside.state) c.args.self.now c.self.view_is c.requires;
  sound = sound-own c.self.inside.changes.items c.self.inside.state c.self.invariant;
}

pub invariant_of-self-in_default : goal.invariant_of-self-in_default
invariant_of-self-in_default g c =
    let same : c.close.new.self ≡ c.self.inside.state = c.in_default.ensures.same refl in
    subst (λ (s : State g.row.C.Denot). AreSound c.reserve.new.self.items (raw s) (room_of s)) (sym same)
    (sound-same c.self.inside.changes.items c.reserve.new.self.items (raw c.self.inside.state) _ c.reserve.ensures.items c.self.invariant)

pub returns-in_default-clause-settles : goal.returns-in_default-clause-settles
returns-in_default-clause-settles g c = (
  ap (λ (h : History g.row.C.Denot). settled (load_end c.args.saved h.present.entries) h.present) (sym c.self.view_is)
      ∙ shown-fails c.args.saved (raw c.self.inside.state)
      (entry-there c.self.inside.changes.items (raw c.self.inside.state) c.args.self.now c.self.view_is c.requires)
      (c.in_default.ensures.fails refl),
  history-alike c.self.inside.changes.items c.reserve.new.self.items (raw c.self.inside.state) (raw c.close.new.self) c.args.self.now
      c.reserve.ensures.items (ap (λ (t : State g.row.C.Denot). raw t) (c.in_default.ensures.same refl)) c.self.view_is,
)

pub returns-in_default-clause-marks : goal.returns-in_default-clause-marks
returns-in_default-clause-marks g c =
    marks-alike c.self.inside.changes.items c.reserve.new.self.items (raw c.self.inside.state) (raw c.close.new.self) c.args.self.now
    c.reserve.ensures.items (ap (λ (t : State g.row.C.Denot). raw t) (c.in_default.ensures.same refl)) c.self.view_is

pub invariant_of-self-2 : goal.invariant_of-self-2
invariant_of-self-2 g c =
    sound-noted c.self.inside.changes.items _ _ _ c.self.inside.state c.close.new.self c.reserve.ensures.items c.push_reserved.ensures.items
    c.in-Some.ensures.leads
    (well-closed c.args.saved _ _ c.in-Some.ensures.closes
    (entry-there c.self.inside.changes.items (raw c.self.inside.state) c.args.self.now c.self.view_is c.requires)
    (well-now c.self.inside.changes.items c.self.inside.state c.self.invariant)) c.self.invariant

pub returns-clause-marks : goal.returns-clause-marks
returns-clause-marks g c =
    marks-noted c.self.inside.changes.items _ _ _ c.self.inside.state c.close.new.self _ c.reserve.ensures.items c.push_reserved.ensures.items
    c.in-Some.ensures.leads c.self.view_is

pub returns-clause-settles : goal.returns-clause-settles
returns-clause-settles g c =
    ap (λ (h : History g.row.C.Denot). settled (load_end c.args.saved h.present.entries) h.present) (sym c.self.view_is)
    ∙ shown-closed c.args.saved (raw c.self.inside.state) (raw c.close.new.self)
    (entry-there c.self.inside.changes.items (raw c.self.inside.state) c.args.self.now c.self.view_is c.requires)
    c.in-Some.ensures.closes

pub returns-in_err-reserve-clause-settles : goal.returns-in_err-reserve-clause-settles
returns-in_err-reserve-clause-settles g c = IfOk-from_err c.from_residual.result _ c.from_residual.ensures.0

pub returns-in_err-reserve-clause-refused : goal.returns-in_err-reserve-clause-refused
returns-in_err-reserve-clause-refused g c = OnErr-always c.from_residual.result
    (history-alike c.self.inside.changes.items c.reserve.new.self.items (raw c.self.inside.state) (raw c.self.inside.state) c.args.self.now
    c.reserve.ensures.items refl c.self.view_is)

pub returns-in_default-clause-refused : goal.returns-in_default-clause-refused
returns-in_default-clause-refused g c = _

pub returns-clause-refused : goal.returns-clause-refused
returns-clause-refused g c = _
