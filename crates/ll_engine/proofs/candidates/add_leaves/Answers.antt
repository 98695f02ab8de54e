use Rattle.std.proofs.Common.{◌++◌, ap, sym, ◌∙◌, rules}
use Rattle.std.proofs.lemmas.Result.{IfOk-from_err}
use Rattle.ll_bank.specs.Nodes.{term_tree}
use Rattle.ll_engine.specs.Leaves.{heads, head_tries, waiting_heads, walk_size}
use Rattle.ll_engine.specs.Matches.{HasCellsIn, head_fits, all_found}
use Rattle.ll_engine.proofs.matching.CandidateLemmas.{each_past, each_in, each_both, each_leaf, each_behind, heads_seen, no_heads, walk_past, walk_in}
use Rattle.ll_engine.proofs.matching.CandidateLemmas.{walk_both, leaf_found, leaf_passed, AreWaiting, are_waiting, part_waits}
use Rattle.ll_engine.proofs.matching.CandidateLemmas.{smaller_past, smaller_in, smaller_both}
use Rattle.ll_engine.proofs.candidates.add_leaves.Goals as goal
use Rattle.ll_engine.proofs.candidates.add_leaves.Goals.{In-Some, then-branch+in_ok-push-in-Atom, else-branch}

-- what is known of the clauses that wait
waiting : (c : In-Some) → AreWaiting c.args.store.now.bank c.pop.new.self.items c.in-Some.form
waiting c =
    are_waiting c.args.store.now.bank c.loop-form.waiting.items c.pop.new.self.items c.in-Some.form c.in-Some.ensures.items c.loop-form.invariant.inside

pub loop-form-preserved : goal.loop-form-preserved
loop-form-preserved c = record {
  inside = (waiting (goal.at.loop-form-preserved c).In-Some).others;
  cells = each_past (HasCellsIn c.args.store.now) c.args.store.now.bank c.loop-form.waiting.items c.pop.new.self.items c.in-Some.form c.in-Some.ensures.items
      c.loop-form.invariant.cells
      (heads_seen c.args.store.now.bank c.in-Some.form c.form_at.result c.form_at.ensures.shown.tree
      ∙ no_heads c.args.store.now.bank c.form_at.result c.in_default-form_at.not-Atom c.in_default-form_at.not-With c.in_default-form_at.not-Lolli
      c.in_default-form_at.not-Imp c.in_default-form_at.not-Forall);
  so_far = walk_past c.args.store.now.bank (head_fits c.args.store.now c.args.asked) c.args.label c.loop-form.leaf _ (all_found c.loop-form.found)
      c.loop-form.waiting.items c.pop.new.self.items c.in-Some.form c.in-Some.ensures.items c.loop-form.invariant.so_far
      (heads_seen c.args.store.now.bank c.in-Some.form c.form_at.result c.form_at.ensures.shown.tree
      ∙ no_heads c.args.store.now.bank c.form_at.result c.in_default-form_at.not-Atom c.in_default-form_at.not-With c.in_default-form_at.not-Lolli
      c.in_default-form_at.not-Imp c.in_default-form_at.not-Forall);
}

pub loop-form-preserved-in-Continue-branch-7 : goal.loop-form-preserved-in-Continue-branch-7
loop-form-preserved-in-Continue-branch-7 c = let w = waiting (goal.at.loop-form-preserved-in-Continue-branch-7 c).In-Some in record {
  inside = w.one_more c.in-Lolli.rest c.push-in-Lolli.new.self.items c.in_ok-push-in-Lolli.ensures.items
      (part_waits c.args.store.now.bank c.in-Some.form c.in-Lolli.rest w.last c.in-Lolli.ensures.shown.parts.1);
  cells = each_in (HasCellsIn c.args.store.now) c.args.store.now.bank c.loop-form.waiting.items c.pop.new.self.items c.in-Some.form c.in-Some.ensures.items
      c.loop-form.invariant.cells c.in-Lolli.rest c.push-in-Lolli.new.self.items c.in_ok-push-in-Lolli.ensures.items
      (ap (λ t. heads t) c.in-Lolli.ensures.shown.tree);
  so_far = walk_in c.args.store.now.bank (head_fits c.args.store.now c.args.asked) c.args.label c.loop-form.leaf _ (all_found c.loop-form.found)
      c.loop-form.waiting.items c.pop.new.self.items c.in-Some.form c.in-Some.ensures.items c.loop-form.invariant.so_far c.in-Lolli.rest
      c.push-in-Lolli.new.self.items c.in_ok-push-in-Lolli.ensures.items (ap (λ t. heads t) c.in-Lolli.ensures.shown.tree);
}

pub loop-form-preserved-in-Continue-branch-8 : goal.loop-form-preserved-in-Continue-branch-8
loop-form-preserved-in-Continue-branch-8 c = let w = waiting (goal.at.loop-form-preserved-in-Continue-branch-8 c).In-Some in record {
  inside = w.one_more c.in-Imp.rest c.push-in-Imp.new.self.items c.in_ok-push-in-Imp.ensures.items
      (part_waits c.args.store.now.bank c.in-Some.form c.in-Imp.rest w.last c.in-Imp.ensures.shown.parts.1);
  cells = each_in (HasCellsIn c.args.store.now) c.args.store.now.bank c.loop-form.waiting.items c.pop.new.self.items c.in-Some.form c.in-Some.ensures.items
      c.loop-form.invariant.cells c.in-Imp.rest c.push-in-Imp.new.self.items c.in_ok-push-in-Imp.ensures.items
      (ap (λ t. heads t) c.in-Imp.ensures.shown.tree);
  so_far = walk_in c.args.store.now.bank (head_fits c.args.store.now c.args.asked) c.args.label c.loop-form.leaf _ (all_found c.loop-form.found)
      c.loop-form.waiting.items c.pop.new.self.items c.in-Some.form c.in-Some.ensures.items c.loop-form.invariant.so_far c.in-Imp.rest
      c.push-in-Imp.new.self.items c.in_ok-push-in-Imp.ensures.items (ap (λ t. heads t) c.in-Imp.ensures.shown.tree);
}

pub loop-form-preserved-in-Continue-branch-9 : goal.loop-form-preserved-in-Continue-branch-9
loop-form-preserved-in-Continue-branch-9 c = let w = waiting (goal.at.loop-form-preserved-in-Continue-branch-9 c).In-Some in record {
  inside = w.one_more c.in-Forall.rest c.push-in-Forall.new.self.items c.in_ok-push-in-Forall.ensures.items
      (part_waits c.args.store.now.bank c.in-Some.form c.in-Forall.rest w.last c.in-Forall.ensures.shown.parts);
  cells = each_in (HasCellsIn c.args.store.now) c.args.store.now.bank c.loop-form.waiting.items c.pop.new.self.items c.in-Some.form c.in-Some.ensures.items
      c.loop-form.invariant.cells c.in-Forall.rest c.push-in-Forall.new.self.items c.in_ok-push-in-Forall.ensures.items
      (ap (λ t. heads t) c.in-Forall.ensures.shown.tree);
  so_far = walk_in c.args.store.now.bank (head_fits c.args.store.now c.args.asked) c.args.label c.loop-form.leaf _ (all_found c.loop-form.found)
      c.loop-form.waiting.items c.pop.new.self.items c.in-Some.form c.in-Some.ensures.items c.loop-form.invariant.so_far c.in-Forall.rest
      c.push-in-Forall.new.self.items c.in_ok-push-in-Forall.ensures.items (ap (λ t. heads t) c.in-Forall.ensures.shown.tree);
}

pub loop-form-preserved-in-Continue-branch-6 : goal.loop-form-preserved-in-Continue-branch-6
loop-form-preserved-in-Continue-branch-6 c =
    let w = waiting (goal.at.loop-form-preserved-in-Continue-branch-6 c).In-Some in
    let h = c.in-With.ensures.shown.parts in
    record {
      inside = w.two_more c.in-With.left c.in-With.right c.push-in-With.new.self.items c.push-in-With-2.new.self.items
          c.in_ok-push-in-With.ensures.items c.in_ok-push-in-With-2.ensures.items
          (part_waits c.args.store.now.bank c.in-Some.form c.in-With.left w.last h.0)
          (part_waits c.args.store.now.bank c.in-Some.form c.in-With.right w.last h.1);
      cells = each_both (HasCellsIn c.args.store.now) c.args.store.now.bank c.loop-form.waiting.items c.pop.new.self.items c.in-Some.form
          c.in-Some.ensures.items c.loop-form.invariant.cells c.in-With.left c.in-With.right c.push-in-With.new.self.items c.push-in-With-2.new.self.items
          c.in_ok-push-in-With.ensures.items c.in_ok-push-in-With-2.ensures.items (ap (λ t. heads t) c.in-With.ensures.shown.tree);
      so_far = walk_both c.args.store.now.bank (head_fits c.args.store.now c.args.asked) c.args.label c.loop-form.leaf _ (all_found c.loop-form.found)
          c.loop-form.waiting.items c.pop.new.self.items c.in-Some.form c.in-Some.ensures.items c.loop-form.invariant.so_far c.in-With.left c.in-With.right
          c.push-in-With.new.self.items c.push-in-With-2.new.self.items c.in_ok-push-in-With.ensures.items c.in_ok-push-in-With-2.ensures.items
          (ap (λ t. heads t) c.in-With.ensures.shown.tree);
    }

pub loop-form-preserved-in-Atom : goal.loop-form-preserved-in-Atom
loop-form-preserved-in-Atom c = record {
  inside = (waiting (goal.at.loop-form-preserved-in-Atom c).In-Some).others;
  cells = each_behind (HasCellsIn c.args.store.now) c.args.store.now.bank c.loop-form.waiting.items c.pop.new.self.items c.in-Some.form c.in-Some.ensures.items
      c.loop-form.invariant.cells (term_tree c.args.store.now.bank c.in-Atom.head.0) (ap (λ t. heads t) c.in-Atom.ensures.shown.tree);
  so_far = elim c.if-branch.branch [
    | then-branch+in_ok-push-in-Atom w ↦ leaf_found c.args.store.now.bank (head_fits c.args.store.now c.args.asked) c.args.label c.loop-form.leaf _
        (all_found c.loop-form.found) c.loop-form.waiting.items c.pop.new.self.items c.in-Some.form c.in-Some.ensures.items c.loop-form.invariant.so_far
        (term_tree c.args.store.now.bank c.in-Atom.head.0) (all_found c.if-branch.found) c.in_ok-leaf-in-Atom.leaf
        (ap (λ t. heads t) c.in-Atom.ensures.shown.tree) (sym c.in_ok-can_match-in-Atom.ensures ∙ w.if-branch.true)
        (ap all_found w.found-is ∙ w.in_ok-push-in-Atom.ensures) c.in_ok-leaf-in-Atom.ensures
    | else-branch w ↦ ap (λ v. all_found v ++ head_tries (head_fits c.args.store.now c.args.asked) c.args.label c.in_ok-leaf-in-Atom.leaf
        (waiting_heads c.args.store.now.bank c.pop.new.self.items)) w.found-is
        ∙ leaf_passed c.args.store.now.bank (head_fits c.args.store.now c.args.asked) c.args.label c.loop-form.leaf _ (all_found c.loop-form.found)
        c.loop-form.waiting.items c.pop.new.self.items c.in-Some.form c.in-Some.ensures.items c.loop-form.invariant.so_far
        (term_tree c.args.store.now.bank c.in-Atom.head.0) c.in_ok-leaf-in-Atom.leaf
        (ap (λ t. heads t) c.in-Atom.ensures.shown.tree) (sym c.in_ok-can_match-in-Atom.ensures ∙ w.if-branch.false) c.in_ok-leaf-in-Atom.ensures
  ];
}

pub can_match-requires-clause-cells : goal.can_match-requires-clause-cells
can_match-requires-clause-cells c =
    each_leaf (HasCellsIn c.args.store.now) c.args.store.now.bank c.loop-form.waiting.items c.pop.new.self.items c.in-Some.form c.in-Some.ensures.items
    c.loop-form.invariant.cells (term_tree c.args.store.now.bank c.in-Atom.head.0)
    (ap (λ t. heads t) c.in-Atom.ensures.shown.tree)

pub loop-form-smaller-in-Continue-branch-6 : goal.loop-form-smaller-in-Continue-branch-6
loop-form-smaller-in-Continue-branch-6 c =
    smaller_both c.args.store.now.bank c.loop-form.waiting.items c.pop.new.self.items c.in-Some.form c.in-Some.ensures.items
    c.in-With.left c.in-With.right c.push-in-With.new.self.items c.push-in-With-2.new.self.items c.in_ok-push-in-With.ensures.items
    c.in_ok-push-in-With-2.ensures.items (ap walk_size c.in-With.ensures.shown.tree)

pub loop-form-smaller-in-Continue-branch-7 : goal.loop-form-smaller-in-Continue-branch-7
loop-form-smaller-in-Continue-branch-7 c =
    smaller_in c.args.store.now.bank c.loop-form.waiting.items c.pop.new.self.items c.in-Some.form c.in-Some.ensures.items
    c.in-Lolli.rest c.push-in-Lolli.new.self.items c.in_ok-push-in-Lolli.ensures.items (ap walk_size c.in-Lolli.ensures.shown.tree)

pub loop-form-smaller-in-Continue-branch-8 : goal.loop-form-smaller-in-Continue-branch-8
loop-form-smaller-in-Continue-branch-8 c =
    smaller_in c.args.store.now.bank c.loop-form.waiting.items c.pop.new.self.items c.in-Some.form c.in-Some.ensures.items
    c.in-Imp.rest c.push-in-Imp.new.self.items c.in_ok-push-in-Imp.ensures.items (ap walk_size c.in-Imp.ensures.shown.tree)

pub loop-form-smaller-in-Continue-branch-9 : goal.loop-form-smaller-in-Continue-branch-9
loop-form-smaller-in-Continue-branch-9 c =
    smaller_in c.args.store.now.bank c.loop-form.waiting.items c.pop.new.self.items c.in-Some.form c.in-Some.ensures.items
    c.in-Forall.rest c.push-in-Forall.new.self.items c.in_ok-push-in-Forall.ensures.items (ap walk_size c.in-Forall.ensures.shown.tree)

pub loop-form-smaller-in-Atom : goal.loop-form-smaller-in-Atom
loop-form-smaller-in-Atom c = smaller_past c.args.store.now.bank c.loop-form.waiting.items c.pop.new.self.items c.in-Some.form c.in-Some.ensures.items

pub loop-form-smaller : goal.loop-form-smaller
loop-form-smaller c = smaller_past c.args.store.now.bank c.loop-form.waiting.items c.pop.new.self.items c.in-Some.form c.in-Some.ensures.items

pub can_match-requires-clause-table : goal.can_match-requires-clause-table
can_match-requires-clause-table c = c.requires.table

pub can_match-requires-clause-inside : goal.can_match-requires-clause-inside
can_match-requires-clause-inside c = c.in-Atom.ensures.shown.parts

pub form_at-requires : goal.form_at-requires
form_at-requires c = (waiting (goal.at.form_at-requires c).In-Some).last

pub returns-in_err-can_match-in-Atom-clause-found : goal.returns-in_err-can_match-in-Atom-clause-found
returns-in_err-can_match-in-Atom-clause-found c =
    IfOk-from_err c.from_residual-in_err-can_match-in-Atom.result _ c.from_residual-in_err-can_match-in-Atom.ensures.0

pub returns-in_err-can_match-in-Atom-clause-none : goal.returns-in_err-can_match-in-Atom-clause-none
returns-in_err-can_match-in-Atom-clause-none c =
    IfOk-from_err c.from_residual-in_err-can_match-in-Atom.result _ c.from_residual-in_err-can_match-in-Atom.ensures.0

pub returns-in_err-push-in-Atom-clause-found : goal.returns-in_err-push-in-Atom-clause-found
returns-in_err-push-in-Atom-clause-found c = IfOk-from_err c.from_residual-in_err-push-in-Atom.result _ c.from_residual-in_err-push-in-Atom.ensures.0

pub returns-in_err-push-in-Atom-clause-none : goal.returns-in_err-push-in-Atom-clause-none
returns-in_err-push-in-Atom-clause-none c = IfOk-from_err c.from_residual-in_err-push-in-Atom.result _ c.from_residual-in_err-push-in-Atom.ensures.0

pub returns-in_err-leaf-in-Atom-clause-found : goal.returns-in_err-leaf-in-Atom-clause-found
returns-in_err-leaf-in-Atom-clause-found c = IfOk-from_err c.from_residual-in_err-leaf-in-Atom.result _ c.from_residual-in_err-leaf-in-Atom.ensures.0

pub returns-in_err-leaf-in-Atom-clause-none : goal.returns-in_err-leaf-in-Atom-clause-none
returns-in_err-leaf-in-Atom-clause-none c = IfOk-from_err c.from_residual-in_err-leaf-in-Atom.result _ c.from_residual-in_err-leaf-in-Atom.ensures.0

pub returns-in_err-push-in-With-clause-found : goal.returns-in_err-push-in-With-clause-found
returns-in_err-push-in-With-clause-found c = IfOk-from_err c.from_residual-in_err-push-in-With.result _ c.from_residual-in_err-push-in-With.ensures.0

pub returns-in_err-push-in-With-clause-none : goal.returns-in_err-push-in-With-clause-none
returns-in_err-push-in-With-clause-none c = IfOk-from_err c.from_residual-in_err-push-in-With.result _ c.from_residual-in_err-push-in-With.ensures.0

pub returns-in_err-push-in-With-2-clause-found : goal.returns-in_err-push-in-With-2-clause-found
returns-in_err-push-in-With-2-clause-found c = IfOk-from_err c.from_residual-in_err-push-in-With-2.result _ c.from_residual-in_err-push-in-With-2.ensures.0

pub returns-in_err-push-in-With-2-clause-none : goal.returns-in_err-push-in-With-2-clause-none
returns-in_err-push-in-With-2-clause-none c = IfOk-from_err c.from_residual-in_err-push-in-With-2.result _ c.from_residual-in_err-push-in-With-2.ensures.0

pub returns-in_err-push-in-Lolli-clause-found : goal.returns-in_err-push-in-Lolli-clause-found
returns-in_err-push-in-Lolli-clause-found c = IfOk-from_err c.from_residual-in_err-push-in-Lolli.result _ c.from_residual-in_err-push-in-Lolli.ensures.0

pub returns-in_err-push-in-Lolli-clause-none : goal.returns-in_err-push-in-Lolli-clause-none
returns-in_err-push-in-Lolli-clause-none c = IfOk-from_err c.from_residual-in_err-push-in-Lolli.result _ c.from_residual-in_err-push-in-Lolli.ensures.0

pub returns-in_err-push-in-Imp-clause-found : goal.returns-in_err-push-in-Imp-clause-found
returns-in_err-push-in-Imp-clause-found c = IfOk-from_err c.from_residual-in_err-push-in-Imp.result _ c.from_residual-in_err-push-in-Imp.ensures.0

pub returns-in_err-push-in-Imp-clause-none : goal.returns-in_err-push-in-Imp-clause-none
returns-in_err-push-in-Imp-clause-none c = IfOk-from_err c.from_residual-in_err-push-in-Imp.result _ c.from_residual-in_err-push-in-Imp.ensures.0

pub returns-in_err-push-in-Forall-clause-found : goal.returns-in_err-push-in-Forall-clause-found
returns-in_err-push-in-Forall-clause-found c = IfOk-from_err c.from_residual-in_err-push-in-Forall.result _ c.from_residual-in_err-push-in-Forall.ensures.0

pub returns-in_err-push-in-Forall-clause-none : goal.returns-in_err-push-in-Forall-clause-none
returns-in_err-push-in-Forall-clause-none c = IfOk-from_err c.from_residual-in_err-push-in-Forall.result _ c.from_residual-in_err-push-in-Forall.ensures.0

pub returns-in_err-push-clause-found : goal.returns-in_err-push-clause-found
returns-in_err-push-clause-found c = IfOk-from_err c.from_residual.result _ c.from_residual.ensures.0

pub returns-in_err-push-clause-none : goal.returns-in_err-push-clause-none
returns-in_err-push-clause-none c = IfOk-from_err c.from_residual.result _ c.from_residual.ensures.0

pub loop-form-init : goal.loop-form-init
loop-form-init c = search rules

pub returns-clause-found : goal.returns-clause-found
returns-clause-found c = search rules

pub returns-clause-none : goal.returns-clause-none
returns-clause-none c = search rules
