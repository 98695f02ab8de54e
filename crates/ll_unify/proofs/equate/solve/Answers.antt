use Rattle.std.proofs.lemmas.Result.{IfOk-from_err}
use Rattle.std.proofs.Common.{◌≡◌, ℕ, add-one, sym, ◌<◌, ◌≤◌, ◌+◌, ◌∙◌, suc, List, [], ◌∷◌, length, drop, get_or, refl, subst, arith}
use Rattle.std.proofs.lemmas.List.{get_or_default}
use Rattle.ll_bank.specs.declared.At.{At}
use Rattle.ll_bank.specs.Term.{Term}
use Rattle.ll_bank.specs.Nodes.{Nodes, term_tree, term_trees}
use Rattle.ll_unify.specs.Bindings.{Table, IsPlaceOf, KeepsCells}
use Rattle.ll_unify.specs.Fresh.{AreFresh}
use Rattle.ll_unify.specs.Solving.{Solves, Settles, wanted, spare}
use Rattle.ll_unify.proofs.Settling.{keeps-same, keeps-then, next-refused, next-settled, trees-drop, trees-none}
use Rattle.ll_unify.proofs.FreshLemmas.{fresh-first}
use Rattle.ll_unify.proofs.Solving.{solves-start, solves-none}
use Rattle.ll_unify.proofs.equate.solve.Goals as goal

across : (i n m : ℕ) → i < n → n ≡ m → i < m
across i n m l e = omega arith

past : (i n m : ℕ) → n ≤ i → n ≡ m → m ≤ i
past i n m l e = omega arith

place_now : (nodes : Nodes) (old new : Table) (at : ℕ) → KeepsCells nodes old new → IsPlaceOf nodes old at → IsPlaceOf nodes new at
place_now nodes old new at k p = record { inside = p.inside; vars = k.terms (term_tree nodes at) p.vars }

pub loop-index-init : goal.loop-index-init
loop-index-init g c = record {
  table = c.requires.table;
  count = refl;
  cells = keeps-same c.args.bank.now (g.T.Bindings.table c.args.table.now);
  classes = c.new-2.ensures c.args.bank.now (g.T.Bindings.table c.args.table.now);
  fresh = c.requires.fresh;
  grows = g.met.T.Bindings.stays c.args.table.now;
  solves = solves-start c.args.bank.now (g.T.Bindings.table c.args.table.now) (term_trees c.args.bank.now c.args.left.now)
      (term_trees c.args.bank.now c.args.right.now) c.requires.table;
}

pub returns-then-not-branch-clause-solved : goal.returns-then-not-branch-clause-solved
returns-then-not-branch-clause-solved g c =
    let old = g.T.Bindings.table c.args.table.now in
    let none : At = record { 0 = 0 } in
    let a = get_or c.args.left.now c.loop-index.index none in
    let b = get_or c.args.right.now c.loop-index.index none in
    let below : c.loop-index.index < length c.args.left.now = c.loop-index-test.true in
    next-refused c.args.bank.now old (g.T.Bindings.table c.loop-index.table) (g.T.Bindings.table c.make_equal.new.table) (spare old)
    (wanted c.args.bank.now old (term_trees c.args.bank.now c.args.left.now) (term_trees c.args.bank.now c.args.right.now)) c.args.left.now c.args.right.now
    c.loop-index.index a b
    below c.requires.pairs (get_or_default c.args.left.now c.loop-index.index none a below)
    (get_or_default c.args.right.now c.loop-index.index none b (across c.loop-index.index _ _ below c.requires.pairs)) c.loop-index.invariant.solves
    (subst (Settles c.args.bank.now (g.T.Bindings.table c.loop-index.table) (g.T.Bindings.table c.make_equal.new.table) (term_tree c.args.bank.now a.0 ∷ [])
    (term_tree c.args.bank.now b.0 ∷ [])) c.if-not-branch.true
    c.in_ok-make_equal.ensures.settles)

pub loop-index-preserved : goal.loop-index-preserved
loop-index-preserved g c =
    let old = g.T.Bindings.table c.args.table.now in
    let none : At = record { 0 = 0 } in
    let a = get_or c.args.left.now c.loop-index.index none in
    let b = get_or c.args.right.now c.loop-index.index none in
    let below : c.loop-index.index < length c.args.left.now = c.loop-index-test.true in
    let next = add-one c.loop-index.index in
    let h = subst (Settles c.args.bank.now (g.T.Bindings.table c.loop-index.table) (g.T.Bindings.table c.make_equal.new.table)
    (term_tree c.args.bank.now a.0 ∷ []) (term_tree c.args.bank.now b.0 ∷ [])) c.if-not-branch.false
    c.in_ok-make_equal.ensures.settles in
    record {
      table = h.table;
      count = h.count ∙ c.loop-index.invariant.count;
      cells = keeps-then c.args.bank.now old (g.T.Bindings.table c.loop-index.table) (g.T.Bindings.table c.make_equal.new.table) c.loop-index.invariant.cells
          h.cells;
      classes = c.in_ok-make_equal.ensures.classes c.if-not-branch.false;
      fresh = subst (λ (m : ℕ). AreFresh c.args.bank.now (g.T.Bindings.table c.make_equal.new.table) c.make_equal.new.work.fresh
          (drop m (term_trees c.args.bank.now c.args.left.now))) (sym next)
          (c.in_ok-make_equal.ensures.fresh c.if-not-branch.false (drop (suc c.loop-index.index) (term_trees c.args.bank.now c.args.left.now))
          (subst (λ (us : List Term). AreFresh c.args.bank.now (g.T.Bindings.table c.loop-index.table) c.loop-index.work.fresh us)
          (trees-drop c.args.bank.now c.args.left.now c.loop-index.index a below (get_or_default c.args.left.now c.loop-index.index none a below))
          c.loop-index.invariant.fresh));
      grows = g.met.T.Bindings.again c.args.table.now c.loop-index.table c.make_equal.new.table c.loop-index.invariant.grows c.make_equal.ensures.grows;
      solves = next-settled c.args.bank.now old (g.T.Bindings.table c.loop-index.table) (g.T.Bindings.table c.make_equal.new.table) (spare old)
          (wanted c.args.bank.now old (term_trees c.args.bank.now c.args.left.now) (term_trees c.args.bank.now c.args.right.now)) c.args.left.now
          c.args.right.now c.loop-index.index (c.loop-index.index + 1)
          a b below c.requires.pairs (get_or_default c.args.left.now c.loop-index.index none a below)
          (get_or_default c.args.right.now c.loop-index.index none b (across c.loop-index.index _ _ below c.requires.pairs))
          next c.loop-index.invariant.solves h;
    }

pub returns-clause-solved : goal.returns-clause-solved
returns-clause-solved g c =
    let old = g.T.Bindings.table c.args.table.now in
    let end : length c.args.left.now ≤ c.loop-index.index = c.loop-index-test.false in
    record {
      is = solves-none c.args.bank.now (g.T.Bindings.table c.loop-index.table) (spare old)
          (wanted c.args.bank.now old (term_trees c.args.bank.now c.args.left.now) (term_trees c.args.bank.now c.args.right.now))
          (subst (λ (us : List Term). Solves c.args.bank.now (g.T.Bindings.table c.loop-index.table) (spare old)
          (wanted c.args.bank.now old (term_trees c.args.bank.now c.args.left.now) (term_trees c.args.bank.now c.args.right.now)) us [])
          (trees-none c.args.bank.now c.args.left.now c.loop-index.index end)
          (subst (λ (us : List Term). Solves c.args.bank.now (g.T.Bindings.table c.loop-index.table) (spare old)
          (wanted c.args.bank.now old (term_trees c.args.bank.now c.args.left.now) (term_trees c.args.bank.now c.args.right.now))
          (drop c.loop-index.index (term_trees c.args.bank.now c.args.left.now)) us)
          (trees-none c.args.bank.now c.args.right.now c.loop-index.index (past c.loop-index.index _ _ end c.requires.pairs)) c.loop-index.invariant.solves));
      table = c.loop-index.invariant.table;
      same_count = c.loop-index.invariant.count;
    }

pub make_equal-requires-clause-fresh : goal.make_equal-requires-clause-fresh
make_equal-requires-clause-fresh g c =
    let none : At = record { 0 = 0 } in
    let a = get_or c.args.left.now c.loop-index.index none in
    let below : c.loop-index.index < length c.args.left.now = c.loop-index-test.true in
    fresh-first c.args.bank.now (g.T.Bindings.table c.loop-index.table) c.loop-index.work.fresh (term_tree c.args.bank.now a.0)
    (drop (suc c.loop-index.index) (term_trees c.args.bank.now c.args.left.now))
    (subst (λ (us : List Term). AreFresh c.args.bank.now (g.T.Bindings.table c.loop-index.table) c.loop-index.work.fresh us)
    (trees-drop c.args.bank.now c.args.left.now c.loop-index.index a below (get_or_default c.args.left.now c.loop-index.index none a below))
    c.loop-index.invariant.fresh)

pub bounds-left-index : goal.bounds-left-index
bounds-left-index g c =
    c.loop-index-test.true

pub bounds-right-index : goal.bounds-right-index
bounds-right-index g c =
    across c.loop-index.index _ _ c.loop-index-test.true c.requires.pairs

pub make_equal-requires-clause-table : goal.make_equal-requires-clause-table
make_equal-requires-clause-table g c =
    c.loop-index.invariant.table

pub make_equal-requires-clause-classes : goal.make_equal-requires-clause-classes
make_equal-requires-clause-classes g c =
    c.loop-index.invariant.classes

pub make_equal-requires-clause-left : goal.make_equal-requires-clause-left
make_equal-requires-clause-left g c =
    place_now c.args.bank.now (g.T.Bindings.table c.args.table.now) (g.T.Bindings.table c.loop-index.table) _ c.loop-index.invariant.cells
    (c.requires.left c.loop-index.index (record { 0 = 0 }) c.loop-index-test.true)

pub make_equal-requires-clause-right : goal.make_equal-requires-clause-right
make_equal-requires-clause-right g c =
    place_now c.args.bank.now (g.T.Bindings.table c.args.table.now) (g.T.Bindings.table c.loop-index.table) _ c.loop-index.invariant.cells
    (c.requires.right c.loop-index.index (record { 0 = 0 }) (across c.loop-index.index _ _ c.loop-index-test.true c.requires.pairs))

pub returns-clause-grows : goal.returns-clause-grows
returns-clause-grows g c =
    c.loop-index.invariant.grows

pub returns-clause-cells : goal.returns-clause-cells
returns-clause-cells g c =
    λ _. c.loop-index.invariant.cells

pub returns-in_err-make_equal-clause-grows : goal.returns-in_err-make_equal-clause-grows
returns-in_err-make_equal-clause-grows g c =
    g.met.T.Bindings.again c.args.table.now c.loop-index.table c.make_equal.new.table c.loop-index.invariant.grows c.make_equal.ensures.grows

pub returns-then-not-branch-clause-grows : goal.returns-then-not-branch-clause-grows
returns-then-not-branch-clause-grows g c =
    g.met.T.Bindings.again c.args.table.now c.loop-index.table c.make_equal.new.table c.loop-index.invariant.grows c.make_equal.ensures.grows

pub returns-in_err-make_equal-clause-cells : goal.returns-in_err-make_equal-clause-cells
returns-in_err-make_equal-clause-cells g c = IfOk-from_err c.from_residual.result _ c.from_residual.ensures.0

pub returns-in_err-make_equal-clause-solved : goal.returns-in_err-make_equal-clause-solved
returns-in_err-make_equal-clause-solved g c = IfOk-from_err c.from_residual.result _ c.from_residual.ensures.0
