use Rattle.std.proofs.lemmas.Result.{IfOk-from_err}
use Rattle.std.proofs.Common.{◌≡◌, ℕ, ◌+◌, List, ap, ◌∙◌, arith, length}
use Rattle.ll_bank.specs.Form.{Form}
use Rattle.ll_bank.specs.Nodes.{form_tree}
use Rattle.ll_laws.specs.Leaf.{ways}
use Rattle.ll_engine.specs.Leaves.{walk_size}
use Rattle.ll_laws.proofs.CallerLemmas.{count_in, count_both, ways_quantified}
use Rattle.ll_engine.proofs.matching.CandidateLemmas.{AreWaiting, are_waiting, part_waits}
use Rattle.ll_engine.proofs.matching.CandidateLemmas.{smaller_past, smaller_in, smaller_both, count_past}
use Rattle.ll_engine.proofs.inferences.WayLemmas.{no_ways}
use Rattle.ll_engine.proofs.candidates.count_all.Goals as goal
use Rattle.ll_engine.proofs.candidates.count_all.Goals.{In-Some}

add-zero : (n : ℕ) → n ≡ n + 0
add-zero n = omega arith

-- what is known of the clauses that wait
waiting : (c : In-Some) → AreWaiting c.args.bank.now c.pop.new.self.items c.in-Some.form
waiting c = are_waiting c.args.bank.now c.loop-form.waiting.items c.pop.new.self.items c.in-Some.form c.in-Some.ensures.items c.loop-form.invariant.inside

pub loop-form-preserved-in-Continue-branch-5 : goal.loop-form-preserved-in-Continue-branch-5
loop-form-preserved-in-Continue-branch-5 c = let w = waiting (goal.at.loop-form-preserved-in-Continue-branch-5 c).In-Some in record {
  inside = w.one_more c.in-Lolli.rest c.push-in-Lolli.new.self.items c.in_ok-push-in-Lolli.ensures.items
      (part_waits c.args.bank.now c.in-Some.form c.in-Lolli.rest w.last c.in-Lolli.ensures.shown.parts.1);
  so_far = count_in c.args.bank.now c.loop-form.waiting.items c.pop.new.self.items c.push-in-Lolli.new.self.items c.in-Some.form c.in-Lolli.rest
      c.loop-form.count _ c.in-Some.ensures.items c.in_ok-push-in-Lolli.ensures.items
      (ap (λ (t : Form). length (ways t)) c.in-Lolli.ensures.shown.tree) c.loop-form.invariant.so_far;
}

pub loop-form-preserved-in-Continue-branch-6 : goal.loop-form-preserved-in-Continue-branch-6
loop-form-preserved-in-Continue-branch-6 c = let w = waiting (goal.at.loop-form-preserved-in-Continue-branch-6 c).In-Some in record {
  inside = w.one_more c.in-Imp.rest c.push-in-Imp.new.self.items c.in_ok-push-in-Imp.ensures.items
      (part_waits c.args.bank.now c.in-Some.form c.in-Imp.rest w.last c.in-Imp.ensures.shown.parts.1);
  so_far = count_in c.args.bank.now c.loop-form.waiting.items c.pop.new.self.items c.push-in-Imp.new.self.items c.in-Some.form c.in-Imp.rest
      c.loop-form.count _
      c.in-Some.ensures.items c.in_ok-push-in-Imp.ensures.items
      (ap (λ (t : Form). length (ways t)) c.in-Imp.ensures.shown.tree) c.loop-form.invariant.so_far;
}

pub loop-form-preserved-in-Continue-branch-7 : goal.loop-form-preserved-in-Continue-branch-7
loop-form-preserved-in-Continue-branch-7 c = let w = waiting (goal.at.loop-form-preserved-in-Continue-branch-7 c).In-Some in record {
  inside = w.one_more c.in-Forall.rest c.push-in-Forall.new.self.items c.in_ok-push-in-Forall.ensures.items
      (part_waits c.args.bank.now c.in-Some.form c.in-Forall.rest w.last c.in-Forall.ensures.shown.parts);
  so_far = count_in c.args.bank.now c.loop-form.waiting.items c.pop.new.self.items c.push-in-Forall.new.self.items c.in-Some.form c.in-Forall.rest
      c.loop-form.count _ c.in-Some.ensures.items c.in_ok-push-in-Forall.ensures.items
      (ap (λ (t : Form). length (ways t)) c.in-Forall.ensures.shown.tree ∙ ways_quantified (form_tree c.args.bank.now c.in-Forall.rest.0))
      c.loop-form.invariant.so_far;
}

pub loop-form-preserved-in-Continue-branch-4 : goal.loop-form-preserved-in-Continue-branch-4
loop-form-preserved-in-Continue-branch-4 c =
    let w = waiting (goal.at.loop-form-preserved-in-Continue-branch-4 c).In-Some in
    let h = c.in-With.ensures.shown.parts in record {
      inside = w.two_more c.in-With.left c.in-With.right c.push-in-With.new.self.items c.push-in-With-2.new.self.items
          c.in_ok-push-in-With.ensures.items c.in_ok-push-in-With-2.ensures.items
          (part_waits c.args.bank.now c.in-Some.form c.in-With.left w.last h.0) (part_waits c.args.bank.now c.in-Some.form c.in-With.right w.last h.1);
      so_far = count_both c.args.bank.now c.loop-form.waiting.items c.pop.new.self.items c.push-in-With.new.self.items c.push-in-With-2.new.self.items
          c.in-Some.form c.in-With.left c.in-With.right c.loop-form.count _
          c.in-Some.ensures.items c.in_ok-push-in-With.ensures.items c.in_ok-push-in-With-2.ensures.items (ap ways c.in-With.ensures.shown.tree)
          c.loop-form.invariant.so_far;
    }

pub loop-form-smaller-in-Continue-branch-4 : goal.loop-form-smaller-in-Continue-branch-4
loop-form-smaller-in-Continue-branch-4 c =
    smaller_both c.args.bank.now c.loop-form.waiting.items c.pop.new.self.items c.in-Some.form c.in-Some.ensures.items
    c.in-With.left c.in-With.right c.push-in-With.new.self.items c.push-in-With-2.new.self.items c.in_ok-push-in-With.ensures.items
    c.in_ok-push-in-With-2.ensures.items (ap walk_size c.in-With.ensures.shown.tree)

pub loop-form-smaller-in-Continue-branch-5 : goal.loop-form-smaller-in-Continue-branch-5
loop-form-smaller-in-Continue-branch-5 c =
    smaller_in c.args.bank.now c.loop-form.waiting.items c.pop.new.self.items c.in-Some.form c.in-Some.ensures.items
    c.in-Lolli.rest c.push-in-Lolli.new.self.items c.in_ok-push-in-Lolli.ensures.items (ap walk_size c.in-Lolli.ensures.shown.tree)

pub loop-form-smaller-in-Continue-branch-6 : goal.loop-form-smaller-in-Continue-branch-6
loop-form-smaller-in-Continue-branch-6 c =
    smaller_in c.args.bank.now c.loop-form.waiting.items c.pop.new.self.items c.in-Some.form c.in-Some.ensures.items
    c.in-Imp.rest c.push-in-Imp.new.self.items c.in_ok-push-in-Imp.ensures.items (ap walk_size c.in-Imp.ensures.shown.tree)

pub loop-form-smaller-in-Continue-branch-7 : goal.loop-form-smaller-in-Continue-branch-7
loop-form-smaller-in-Continue-branch-7 c =
    smaller_in c.args.bank.now c.loop-form.waiting.items c.pop.new.self.items c.in-Some.form c.in-Some.ensures.items
    c.in-Forall.rest c.push-in-Forall.new.self.items c.in_ok-push-in-Forall.ensures.items (ap walk_size c.in-Forall.ensures.shown.tree)

pub loop-form-smaller-in-Atom : goal.loop-form-smaller-in-Atom
loop-form-smaller-in-Atom c = smaller_past c.args.bank.now c.loop-form.waiting.items c.pop.new.self.items c.in-Some.form c.in-Some.ensures.items

pub loop-form-smaller : goal.loop-form-smaller
loop-form-smaller c = smaller_past c.args.bank.now c.loop-form.waiting.items c.pop.new.self.items c.in-Some.form c.in-Some.ensures.items

pub loop-form-preserved-in-Atom : goal.loop-form-preserved-in-Atom
loop-form-preserved-in-Atom c = record {
  inside = (waiting (goal.at.loop-form-preserved-in-Atom c).In-Some).others;
  so_far = count_past c.args.bank.now c.loop-form.waiting.items c.pop.new.self.items c.in-Some.form c.loop-form.count c.in_ok-count-in-Atom.count _ 1
      c.in-Some.ensures.items (ap (λ (t : Form). length (ways t)) c.in-Atom.ensures.shown.tree) c.in_ok-count-in-Atom.ensures
      c.loop-form.invariant.so_far;
}

pub loop-form-preserved : goal.loop-form-preserved
loop-form-preserved c = let d = c.in_default-form_at in record {
  inside = (waiting (goal.at.loop-form-preserved c).In-Some).others;
  so_far = count_past c.args.bank.now c.loop-form.waiting.items c.pop.new.self.items c.in-Some.form c.loop-form.count c.loop-form.count _ 0
      c.in-Some.ensures.items (ap (λ (t : Form). length (ways t)) c.form_at.ensures.shown.tree
      ∙ ap (λ (ws : List ℕ). length ws) (no_ways c.args.bank.now c.form_at.result d.not-Atom d.not-With d.not-Lolli d.not-Imp d.not-Forall))
      (add-zero c.loop-form.count) c.loop-form.invariant.so_far;
}

pub returns-in_err-push : goal.returns-in_err-push
returns-in_err-push c = IfOk-from_err c.from_residual.result _ c.from_residual.ensures.0

pub returns-in_err-count-in-Atom : goal.returns-in_err-count-in-Atom
returns-in_err-count-in-Atom c = IfOk-from_err c.from_residual-in_err-count-in-Atom.result _ c.from_residual-in_err-count-in-Atom.ensures.0

pub returns-in_err-push-in-With : goal.returns-in_err-push-in-With
returns-in_err-push-in-With c = IfOk-from_err c.from_residual-in_err-push-in-With.result _ c.from_residual-in_err-push-in-With.ensures.0

pub returns-in_err-push-in-With-2 : goal.returns-in_err-push-in-With-2
returns-in_err-push-in-With-2 c = IfOk-from_err c.from_residual-in_err-push-in-With-2.result _ c.from_residual-in_err-push-in-With-2.ensures.0

pub returns-in_err-push-in-Lolli : goal.returns-in_err-push-in-Lolli
returns-in_err-push-in-Lolli c = IfOk-from_err c.from_residual-in_err-push-in-Lolli.result _ c.from_residual-in_err-push-in-Lolli.ensures.0

pub returns-in_err-push-in-Imp : goal.returns-in_err-push-in-Imp
returns-in_err-push-in-Imp c = IfOk-from_err c.from_residual-in_err-push-in-Imp.result _ c.from_residual-in_err-push-in-Imp.ensures.0

pub returns-in_err-push-in-Forall : goal.returns-in_err-push-in-Forall
returns-in_err-push-in-Forall c = IfOk-from_err c.from_residual-in_err-push-in-Forall.result _ c.from_residual-in_err-push-in-Forall.ensures.0
