use Rattle.ll_agenda.specs.Frames.{items_at, Extends}
use Rattle.std.proofs.Common.{length}
use Rattle.ll_engine.specs.Opening.{Appends}
use Rattle.ll_engine.proofs.inferences.WayLemmas.{IsOnWay}
use Rattle.ll_engine.proofs.open.open_leaf.Given as goal

abbrev pub invariant-loop-atom : goal.invariant-loop-atom
invariant-loop-atom l = record {
  way : IsOnWay l.initial.bank (items_at l.initial.agenda l.fn.rest) (length l.initial.terms.items) l.fn.leaf.clause.0 l.fn.leaf.number
      l.bank l.agenda l.terms.items l.form.0 l.number l.top;
  frames : Extends l.initial.agenda l.agenda;
  more : Appends l.initial.terms.items l.terms.items;
}

abbrev pub decreases-loop-atom : goal.decreases-loop-atom
decreases-loop-atom l = l.form.0
