use Rattle.std.proofs.Common.{◌<◌, ◌^◌, refl, ap, sym, ◌∙◌, subst}
use Rattle.std.proofs.lemmas.Result.{IfOk-from_err}
use Rattle.ll_list_laws.proofs.CallerLemmas.{OnErr-always}
use Rattle.ll_resources.specs.History.{History}
use Rattle.ll_resources.specs.Raw.{raw}
use Rattle.ll_resources.specs.Resources.{after_load_keyed}
use Rattle.ll_resources.proofs.RawLemmas.{shown-loaded}
use Rattle.ll_resources.proofs.ChainLemmas.{well-loaded}
use Rattle.ll_resources.proofs.ChangeLemmas.{well-now, sound-same, sound-alike, sound-noted, marks-alike, marks-noted, history-alike}
use Rattle.ll_resources.proofs.RoomLemmas.{fits-32}
use Rattle.ll_resources.proofs.context.Context.load_keyed.Goals as goal

pub invariant_of-self : goal.invariant_of-self
invariant_of-self g c =
    sound-same c.self.inside.changes.items c.reserve.new.self.items (raw c.self.inside.state) _ c.reserve.ensures.items c.self.invariant

pub returns-in_err-reserve-clause-marks : goal.returns-in_err-reserve-clause-marks
returns-in_err-reserve-clause-marks g c =
    marks-alike c.self.inside.changes.items c.reserve.new.self.items (raw c.self.inside.state) (raw c.self.inside.state) c.args.self.now
    c.reserve.ensures.items refl c.self.view_is

pub invariant_of-self-2 : goal.invariant_of-self-2
invariant_of-self-2 g c =
    sound-noted c.self.inside.changes.items _ _ _ c.self.inside.state c.load.new.self c.reserve.ensures.items c.push_reserved.ensures.items
    c.in_ok-change.ensures.leads
    (well-loaded c.args.kind c.args.clause c.args.key _ _ c.in_ok-change.ensures.loaded
    (well-now c.self.inside.changes.items c.self.inside.state c.self.invariant)) c.self.invariant

pub returns-clause-marks : goal.returns-clause-marks
returns-clause-marks g c =
    marks-noted c.self.inside.changes.items _ _ _ c.self.inside.state c.load.new.self _ c.reserve.ensures.items c.push_reserved.ensures.items
    c.in_ok-change.ensures.leads c.self.view_is

pub invariant_of-self-in_err-change : goal.invariant_of-self-in_err-change
invariant_of-self-in_err-change g c =
    sound-alike c.self.inside.changes.items c.reserve.new.self.items (raw c.self.inside.state) (raw c.load.new.self) _ _ c.reserve.ensures.items
    c.in_err-change.ensures.refused c.in_err-change.ensures.room c.self.invariant

pub returns-in_err-change-clause-marks : goal.returns-in_err-change-clause-marks
returns-in_err-change-clause-marks g c =
    marks-alike c.self.inside.changes.items c.reserve.new.self.items (raw c.self.inside.state) (raw c.load.new.self) c.args.self.now
    c.reserve.ensures.items c.in_err-change.ensures.refused c.self.view_is

pub load-requires : goal.load-requires
load-requires g c = record {
  few = subst (λ (h : History g.row.C.Denot). h.present.next < 2 ^ 32) (sym c.self.view_is) c.requires;
  chained = let w = well-now c.self.inside.changes.items c.self.inside.state c.self.invariant in w.chained;
}

pub returns-clause-loaded : goal.returns-clause-loaded
returns-clause-loaded g c =
    shown-loaded c.args.kind c.args.clause c.args.key (raw c.self.inside.state) _ c.in_ok-change.ensures.loaded
    ∙ ap (λ (h : History g.row.C.Denot). after_load_keyed c.args.kind c.args.clause c.args.key h.present) c.self.view_is

pub returns-in_err-reserve-clause-label : goal.returns-in_err-reserve-clause-label
returns-in_err-reserve-clause-label g c = IfOk-from_err c.from_residual.result _ c.from_residual.ensures.0

pub returns-in_err-reserve-clause-loaded : goal.returns-in_err-reserve-clause-loaded
returns-in_err-reserve-clause-loaded g c = IfOk-from_err c.from_residual.result _ c.from_residual.ensures.0

pub returns-in_err-reserve-clause-refused : goal.returns-in_err-reserve-clause-refused
returns-in_err-reserve-clause-refused g c = OnErr-always c.from_residual.result
    (history-alike c.self.inside.changes.items c.reserve.new.self.items (raw c.self.inside.state) (raw c.self.inside.state) c.args.self.now
    c.reserve.ensures.items refl c.self.view_is)

pub returns-in_err-change-clause-label : goal.returns-in_err-change-clause-label
returns-in_err-change-clause-label g c = IfOk-from_err c.from_residual-in_err-change.result _ c.from_residual-in_err-change.ensures.0

pub returns-in_err-change-clause-loaded : goal.returns-in_err-change-clause-loaded
returns-in_err-change-clause-loaded g c = IfOk-from_err c.from_residual-in_err-change.result _ c.from_residual-in_err-change.ensures.0

pub returns-in_err-change-clause-refused : goal.returns-in_err-change-clause-refused
returns-in_err-change-clause-refused g c = OnErr-always c.from_residual-in_err-change.result
    (history-alike c.self.inside.changes.items c.reserve.new.self.items (raw c.self.inside.state) (raw c.load.new.self) c.args.self.now
    c.reserve.ensures.items c.in_err-change.ensures.refused c.self.view_is)

pub returns-clause-refused : goal.returns-clause-refused
returns-clause-refused g c = _

pub overflow_cast-label : goal.overflow_cast-label
overflow_cast-label g c = fits-32 (subst (λ (h : History g.row.C.Denot). h.present.next < 2 ^ 32) (sym c.self.view_is) c.requires)

pub returns-clause-label : goal.returns-clause-label
returns-clause-label g c = ap (λ (h : History g.row.C.Denot). h.present.next) c.self.view_is
