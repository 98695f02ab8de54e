use Rattle.std.proofs.Common.{◌≡◌, ◌+◌, ◌*◌, ◌≤◌}
use Rattle.ll_parser.specs.Nodes.{raw_at}
use Rattle.ll_parser.specs.Weights.{weight}
use Rattle.ll_polarity.specs.Built.{built_form}
use Rattle.ll_polarity.specs.Standing.{met_of, around, outermost}
use Rattle.ll_polarity.specs.Frames.{frames_left, step_left}
use Rattle.ll_polarity.specs.Grounds.{ground}
use Rattle.ll_polarity.proofs.putting.Framing.{IsComing}
use Rattle.ll_polarity.proofs.put_forms.form.Given as goal

abbrev pub invariant-steps : goal.invariant-steps
invariant-steps l =
    let g = ground l.text in
    let a = outermost l.fn.formula.quantified l.fn.binders.scope in
    let raw = raw_at g.texts g.forms l.fn.formula.at.0 in
    record {
      coming : IsComing g (built_form g.modules a (met_of g.texts l.fn.met) raw) a l.fn.bank l.bank l.fronts.frames.items l.step (met_of g.texts l.met)
          (around l.fronts.place l.binders.scope);
      texts : l.binders.texts ≡ g.texts;
      low : frames_left g l.fronts.frames.items + step_left g l.step ≤ 5 * weight raw;
    }

abbrev pub decreases-steps : goal.decreases-steps
decreases-steps l = frames_left (ground l.text) l.fronts.frames.items + step_left (ground l.text) l.step
