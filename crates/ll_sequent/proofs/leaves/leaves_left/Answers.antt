use Rattle.std.proofs.Common.{ap, ◌∙◌, length}
use Rattle.std.proofs.lemmas.Result.{IfOk-from_err}
use Rattle.ll_bank.specs.Form.{Form}
use Rattle.ll_bank.specs.Nodes.{form_tree}
use Rattle.ll_bank.specs.Opened.{form_size}
use Rattle.ll_laws.specs.Leaf.{ways}
use Rattle.ll_laws.proofs.CallerLemmas.{count_in, count_both, ways_quantified}
use Rattle.ll_sequent.proofs.LeafLemmas.{waiting_inside, waiting_both, waiting_last, waiting_rest, waiting_alone, count_alone, count_found}
use Rattle.ll_sequent.proofs.LeafLemmas.{count_past, count_other, smaller_without, smaller_part, smaller_body, smaller_both}
use Rattle.ll_sequent.proofs.leaves.leaves_left.Goals as goal

pub walk-preserved-in-Continue-branch-3 : goal.walk-preserved-in-Continue-branch-3
walk-preserved-in-Continue-branch-3 c = record {
  inside = waiting_both (length c.args.bank.now.forms) c.walk.waiting.items c.pop.new.self.items c.push-in-With.new.self.items c.push-in-With-2.new.self.items
      c.in-Some.form c.in-With.first c.in-With.second
      c.in-Some.ensures.items c.in_ok-push-in-With.ensures.items c.in_ok-push-in-With-2.ensures.items c.in-With.ensures.shown.parts.0
      c.in-With.ensures.shown.parts.1 c.walk.invariant.inside;
  so_far = count_both c.args.bank.now c.walk.waiting.items c.pop.new.self.items c.push-in-With.new.self.items c.push-in-With-2.new.self.items c.in-Some.form
      c.in-With.first c.in-With.second c.args.leaf _
      c.in-Some.ensures.items c.in_ok-push-in-With.ensures.items c.in_ok-push-in-With-2.ensures.items (ap ways c.in-With.ensures.shown.tree)
      c.walk.invariant.so_far;
}

pub walk-preserved-in-Continue-branch-4 : goal.walk-preserved-in-Continue-branch-4
walk-preserved-in-Continue-branch-4 c = record {
  inside = waiting_inside (length c.args.bank.now.forms) c.walk.waiting.items c.pop.new.self.items c.push-in-Lolli.new.self.items c.in-Some.form c.in-Lolli.rest
      c.in-Some.ensures.items c.in_ok-push-in-Lolli.ensures.items
      c.in-Lolli.ensures.shown.parts.1 c.walk.invariant.inside;
  so_far = count_in c.args.bank.now c.walk.waiting.items c.pop.new.self.items c.push-in-Lolli.new.self.items c.in-Some.form c.in-Lolli.rest c.args.leaf _
      c.in-Some.ensures.items c.in_ok-push-in-Lolli.ensures.items
      (ap (λ (t : Form). length (ways t)) c.in-Lolli.ensures.shown.tree) c.walk.invariant.so_far;
}

pub walk-preserved-in-Continue-branch-5 : goal.walk-preserved-in-Continue-branch-5
walk-preserved-in-Continue-branch-5 c = record {
  inside = waiting_inside (length c.args.bank.now.forms) c.walk.waiting.items c.pop.new.self.items c.push-in-Imp.new.self.items c.in-Some.form c.in-Imp.rest
      c.in-Some.ensures.items c.in_ok-push-in-Imp.ensures.items
      c.in-Imp.ensures.shown.parts.1 c.walk.invariant.inside;
  so_far = count_in c.args.bank.now c.walk.waiting.items c.pop.new.self.items c.push-in-Imp.new.self.items c.in-Some.form c.in-Imp.rest c.args.leaf _
      c.in-Some.ensures.items c.in_ok-push-in-Imp.ensures.items
      (ap (λ (t : Form). length (ways t)) c.in-Imp.ensures.shown.tree) c.walk.invariant.so_far;
}

pub walk-preserved-in-Continue-branch-6 : goal.walk-preserved-in-Continue-branch-6
walk-preserved-in-Continue-branch-6 c = record {
  inside = waiting_inside (length c.args.bank.now.forms) c.walk.waiting.items c.pop.new.self.items c.push-in-Forall.new.self.items c.in-Some.form
      c.in-Forall.rest c.in-Some.ensures.items c.in_ok-push-in-Forall.ensures.items
      c.in-Forall.ensures.shown.parts c.walk.invariant.inside;
  so_far = count_in c.args.bank.now c.walk.waiting.items c.pop.new.self.items c.push-in-Forall.new.self.items c.in-Some.form c.in-Forall.rest c.args.leaf _
      c.in-Some.ensures.items c.in_ok-push-in-Forall.ensures.items
      (ap (λ (t : Form). length (ways t)) c.in-Forall.ensures.shown.tree ∙ ways_quantified (form_tree c.args.bank.now c.in-Forall.rest.0))
      c.walk.invariant.so_far;
}

pub walk-init : goal.walk-init
walk-init c = record {
  inside = waiting_alone c.args.bank.now c.new-waiting.result.items c.push.new.self.items c.args.clause c.new-waiting.ensures.items
      c.in_ok-push.ensures.items c.requires;
  so_far = count_alone c.args.bank.now c.new-waiting.result.items c.push.new.self.items c.args.clause c.args.leaf c.new-waiting.ensures.items
      c.in_ok-push.ensures.items;
}

pub form_at-requires : goal.form_at-requires
form_at-requires c =
    waiting_last (length c.args.bank.now.forms) c.walk.waiting.items c.pop.new.self.items c.in-Some.form c.in-Some.ensures.items c.walk.invariant.inside

pub returns-then-left-eq0 : goal.returns-then-left-eq0
returns-then-left-eq0 c =
    count_found c.args.bank.now c.walk.waiting.items c.pop.new.self.items c.in-Some.form c.args.leaf (length (ways
    (form_tree c.args.bank.now c.args.clause.0))) c.walk.left
    c.in-Some.ensures.items c.walk.invariant.so_far _ c.in-Atom.ensures.shown.tree c.if-left-eq0.true

pub walk-preserved-in-Atom : goal.walk-preserved-in-Atom
walk-preserved-in-Atom c = record {
  inside = waiting_rest (length c.args.bank.now.forms) c.walk.waiting.items c.pop.new.self.items c.in-Some.form c.in-Some.ensures.items c.walk.invariant.inside;
  so_far = count_past c.args.bank.now c.walk.waiting.items c.pop.new.self.items c.in-Some.form c.args.leaf (length (ways
      (form_tree c.args.bank.now c.args.clause.0))) c.walk.left
      c.in-Some.ensures.items c.walk.invariant.so_far _ c.in-Atom.ensures.shown.tree c.if-left-eq0.false;
}

pub walk-smaller-in-Atom : goal.walk-smaller-in-Atom
walk-smaller-in-Atom c = smaller_without c.args.bank.now c.walk.waiting.items c.pop.new.self.items c.in-Some.form c.in-Some.ensures.items

pub walk-smaller : goal.walk-smaller
walk-smaller c = smaller_without c.args.bank.now c.walk.waiting.items c.pop.new.self.items c.in-Some.form c.in-Some.ensures.items

pub walk-preserved : goal.walk-preserved
walk-preserved c = record {
  inside = waiting_rest (length c.args.bank.now.forms) c.walk.waiting.items c.pop.new.self.items c.in-Some.form c.in-Some.ensures.items c.walk.invariant.inside;
  so_far = count_other c.args.bank.now c.walk.waiting.items c.pop.new.self.items c.in-Some.form c.args.leaf (length (ways
      (form_tree c.args.bank.now c.args.clause.0))) c.walk.left
      c.in-Some.ensures.items c.walk.invariant.so_far c.form_at.result c.form_at.ensures.shown.tree c.in_default-form_at.not-Atom
      c.in_default-form_at.not-With c.in_default-form_at.not-Lolli c.in_default-form_at.not-Imp c.in_default-form_at.not-Forall;
}

pub walk-smaller-in-Continue-branch-3 : goal.walk-smaller-in-Continue-branch-3
walk-smaller-in-Continue-branch-3 c =
    smaller_both c.args.bank.now c.walk.waiting.items c.pop.new.self.items c.in-Some.form c.in-Some.ensures.items c.push-in-With.new.self.items
    c.push-in-With-2.new.self.items c.in-With.first c.in-With.second c.in_ok-push-in-With.ensures.items c.in_ok-push-in-With-2.ensures.items
    (ap form_size c.in-With.ensures.shown.tree)

pub walk-smaller-in-Continue-branch-4 : goal.walk-smaller-in-Continue-branch-4
walk-smaller-in-Continue-branch-4 c =
    smaller_part c.args.bank.now c.walk.waiting.items c.pop.new.self.items c.in-Some.form c.in-Some.ensures.items c.push-in-Lolli.new.self.items
    c.in-Lolli.rest _ c.in_ok-push-in-Lolli.ensures.items (ap form_size c.in-Lolli.ensures.shown.tree)

pub walk-smaller-in-Continue-branch-5 : goal.walk-smaller-in-Continue-branch-5
walk-smaller-in-Continue-branch-5 c =
    smaller_part c.args.bank.now c.walk.waiting.items c.pop.new.self.items c.in-Some.form c.in-Some.ensures.items c.push-in-Imp.new.self.items
    c.in-Imp.rest _ c.in_ok-push-in-Imp.ensures.items (ap form_size c.in-Imp.ensures.shown.tree)

pub walk-smaller-in-Continue-branch-6 : goal.walk-smaller-in-Continue-branch-6
walk-smaller-in-Continue-branch-6 c =
    smaller_body c.args.bank.now c.walk.waiting.items c.pop.new.self.items c.in-Some.form c.in-Some.ensures.items c.push-in-Forall.new.self.items
    c.in-Forall.rest c.in_ok-push-in-Forall.ensures.items (ap form_size c.in-Forall.ensures.shown.tree)

pub returns-in_err-push : goal.returns-in_err-push
returns-in_err-push c = IfOk-from_err c.from_residual.result _ c.from_residual.ensures.0

pub returns-in_err-push-in-With : goal.returns-in_err-push-in-With
returns-in_err-push-in-With c = IfOk-from_err c.from_residual-in_err-push-in-With.result _ c.from_residual-in_err-push-in-With.ensures.0

pub returns-in_err-push-in-With-2 : goal.returns-in_err-push-in-With-2
returns-in_err-push-in-With-2 c = IfOk-from_err c.from_residual-in_err-push-in-With-2.result _ c.from_residual-in_err-push-in-With-2.ensures.0

pub returns-in_err-push-in-Lolli : goal.returns-in_err-push-in-Lolli
returns-in_err-push-in-Lolli c = IfOk-from_err c.from_residual-in_err-push-in-Lolli.result _ c.from_residual-in_err-push-in-Lolli.ensures.0

pub returns-in_err-push-in-Imp : goal.returns-in_err-push-in-Imp
returns-in_err-push-in-Imp c = IfOk-from_err c.from_residual-in_err-push-in-Imp.result _ c.from_residual-in_err-push-in-Imp.ensures.0

pub returns-in_err-push-in-Forall : goal.returns-in_err-push-in-Forall
returns-in_err-push-in-Forall c = IfOk-from_err c.from_residual-in_err-push-in-Forall.result _ c.from_residual-in_err-push-in-Forall.ensures.0
