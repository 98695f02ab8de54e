use Rattle.std.proofs.Common.{[], arith, sym, ◌∙◌}
use Rattle.std.proofs.Common.{rules}
use Rattle.std.specs.Prelude.{FitsSigned}
use Rattle.std.specs.Int.{w64}
use Rattle.std.proofs.lemmas.Int.{to_z-of_z}
use Rattle.ll_bank.specs.Nodes.{term_tree, term_trees}
use Rattle.ll_unify.proofs.Binding.{no-var-app, no-var-int}
use Rattle.ll_unify.proofs.Pairs.{compare-int, compare-meet, meet-left, meet-right, compare-clash, clash-ints, clash-int-app, clash-app-int, spine-place}
use Rattle.ll_unify.proofs.Pairs.{compare-classes}
use Rattle.ll_unify.proofs.meet.compare.Goals as goal

pub find-right-requires : goal.find-right-requires
find-right-requires g c =
    λ at l. ((c.find-left.ensures.classes c.args.bank.now (g.T.Bindings.table c.args.table.now) c.requires.classes) at l).below

pub compare_applied-requires-clause-right : goal.compare_applied-requires-clause-right
compare_applied-requires-clause-right g c =
    let k = (c.find-right.ensures.class c.args.bank.now (g.T.Bindings.table c.args.table.now)
    (c.find-left.ensures.classes c.args.bank.now (g.T.Bindings.table c.args.table.now) c.requires.classes)).below in let i =
    c.walk-right.ensures.end.place.inside in omega arith

pub compare_applied-requires-clause-left_spine : goal.compare_applied-requires-clause-left_spine
compare_applied-requires-clause-left_spine g c =
    (c.find-left.ensures.class c.args.bank.now (g.T.Bindings.table c.args.table.now) c.requires.classes).spine
    (spine-place (term_tree c.args.bank.now c.walk-left.result.0) c.in-App.field-0 (term_trees c.args.bank.now c.in-App.field-1.now)
    c.in-App.ensures.shown.0)

pub compare_applied-requires-clause-right_spine : goal.compare_applied-requires-clause-right_spine
compare_applied-requires-clause-right_spine g c =
    (c.find-right.ensures.class c.args.bank.now (g.T.Bindings.table c.args.table.now)
    (c.find-left.ensures.classes c.args.bank.now (g.T.Bindings.table c.args.table.now) c.requires.classes)).spine
    (spine-place (term_tree c.args.bank.now c.walk-right.result.0) c.in-App-term_at-3.field-0 (term_trees c.args.bank.now c.in-App-term_at-3.field-1.now)
    c.in-App-term_at-3.ensures.shown.0)

pub returns-in-App-term_at-clause-compared : goal.returns-in-App-term_at-clause-compared
returns-in-App-term_at-clause-compared g c =
    compare-meet c.args.bank.now (g.T.Bindings.table c.args.table.now) (term_tree c.args.bank.now c.args.left.0) (term_tree c.args.bank.now c.args.right.0)
    c.walk-left.result c.walk-right.result (record {
      left_end = c.walk-left.ensures.end;
      right_end = c.walk-right.ensures.end;
      left =
          c.walk-left.ensures.same;
      right = c.walk-right.ensures.same;
    })
    (meet-left c.args.bank.now c.walk-left.result c.walk-right.result c.in-Var.x c.in-Var.ensures.shown)
    (λ x e f. no-var-app (term_tree c.args.bank.now c.walk-right.result.0) c.in-App-term_at.field-0
    (term_trees c.args.bank.now c.in-App-term_at.field-1.now) c.in-App-term_at.ensures.shown.0 x f)

pub returns-then-is_same_int-clause-compared : goal.returns-then-is_same_int-clause-compared
returns-then-is_same_int-clause-compared g c =
    let fm : FitsSigned w64 c.in-Int.m = search rules in
    let fn : FitsSigned w64 c.in-Int-term_at-2.n = search rules in
    compare-int c.args.bank.now (g.T.Bindings.table c.args.table.now) (term_tree c.args.bank.now c.args.left.0) (term_tree c.args.bank.now c.args.right.0)
    c.walk-left.result c.walk-right.result c.in-Int.m c.in-Int-term_at-2.n
    (record {
      left_end = c.walk-left.ensures.end;
      right_end = c.walk-right.ensures.end;
      left = c.walk-left.ensures.same;
      right =
          c.walk-right.ensures.same;
    }) c.in-Int.ensures.shown c.in-Int-term_at-2.ensures.shown
    (rw (to_z-of_z w64 c.in-Int.m fm, to_z-of_z w64 c.in-Int-term_at-2.n fn) at (sym c.is_same_int.ensures ∙ c.if-is_same_int.true))

pub returns-in-App-term_at-2-clause-compared : goal.returns-in-App-term_at-2-clause-compared
returns-in-App-term_at-2-clause-compared g c =
    compare-clash c.args.bank.now (g.T.Bindings.table c.args.table.now) (term_tree c.args.bank.now c.args.left.0) (term_tree c.args.bank.now c.args.right.0)
    c.walk-left.result c.walk-right.result (record {
      left_end = c.walk-left.ensures.end;
      right_end = c.walk-right.ensures.end;
      left =
          c.walk-left.ensures.same;
      right = c.walk-right.ensures.same;
    })
    (λ s. clash-int-app (term_tree c.args.bank.now c.walk-left.result.0) (term_tree c.args.bank.now c.walk-right.result.0) c.in-Int.m
    c.in-App-term_at-2.field-0 (term_trees c.args.bank.now c.in-App-term_at-2.field-1.now) s c.in-Int.ensures.shown c.in-App-term_at-2.ensures.shown.0)

pub returns-in-Var-term_at-3-clause-compared : goal.returns-in-Var-term_at-3-clause-compared
returns-in-Var-term_at-3-clause-compared g c =
    compare-meet c.args.bank.now (g.T.Bindings.table c.args.table.now) (term_tree c.args.bank.now c.args.left.0) (term_tree c.args.bank.now c.args.right.0)
    c.walk-left.result c.walk-right.result (record {
      left_end = c.walk-left.ensures.end;
      right_end = c.walk-right.ensures.end;
      left =
          c.walk-left.ensures.same;
      right = c.walk-right.ensures.same;
    })
    (meet-right c.args.bank.now c.walk-left.result c.walk-right.result c.in-Var-term_at-3.field-0 c.in-Var-term_at-3.ensures.shown)
    (λ x e f. no-var-app (term_tree c.args.bank.now c.walk-left.result.0) c.in-App.field-0 (term_trees c.args.bank.now c.in-App.field-1.now)
    c.in-App.ensures.shown.0 x e)

pub returns-in-Int-term_at-3-clause-compared : goal.returns-in-Int-term_at-3-clause-compared
returns-in-Int-term_at-3-clause-compared g c =
    compare-clash c.args.bank.now (g.T.Bindings.table c.args.table.now) (term_tree c.args.bank.now c.args.left.0) (term_tree c.args.bank.now c.args.right.0)
    c.walk-left.result c.walk-right.result (record {
      left_end = c.walk-left.ensures.end;
      right_end = c.walk-right.ensures.end;
      left =
          c.walk-left.ensures.same;
      right = c.walk-right.ensures.same;
    })
    (λ s. clash-app-int (term_tree c.args.bank.now c.walk-left.result.0) (term_tree c.args.bank.now c.walk-right.result.0) c.in-Int-term_at-3.field-0
    c.in-App.field-0 (term_trees c.args.bank.now c.in-App.field-1.now) s c.in-App.ensures.shown.0 c.in-Int-term_at-3.ensures.shown)

pub returns-in-App-term_at-3-clause-classes : goal.returns-in-App-term_at-3-clause-classes
returns-in-App-term_at-3-clause-classes g c =
    c.find-right.ensures.classes c.args.bank.now (g.T.Bindings.table c.args.table.now)
    (c.find-left.ensures.classes c.args.bank.now (g.T.Bindings.table c.args.table.now) c.requires.classes)

pub returns-in-App-term_at-3-clause-compared : goal.returns-in-App-term_at-3-clause-compared
returns-in-App-term_at-3-clause-compared g c =
    compare-classes c.args.bank.now (g.T.Bindings.table c.args.table.now) (term_tree c.args.bank.now c.args.left.0) (term_tree c.args.bank.now c.args.right.0)
    c.walk-left.result c.walk-right.result c.find-left.result c.find-right.result []
    (record {
      left_end = c.walk-left.ensures.end;
      right_end = c.walk-right.ensures.end;
      left = c.walk-left.ensures.same;
      right =
          c.walk-right.ensures.same;
    }) (spine-place (term_tree c.args.bank.now c.walk-left.result.0) c.in-App.field-0
    (term_trees c.args.bank.now c.in-App.field-1.now) c.in-App.ensures.shown.0)
    (spine-place (term_tree c.args.bank.now c.walk-right.result.0) c.in-App-term_at-3.field-0 (term_trees c.args.bank.now c.in-App-term_at-3.field-1.now)
    c.in-App-term_at-3.ensures.shown.0) (c.find-left.ensures.class c.args.bank.now (g.T.Bindings.table c.args.table.now) c.requires.classes)
    (c.find-right.ensures.class c.args.bank.now (g.T.Bindings.table c.args.table.now)
    (c.find-left.ensures.classes c.args.bank.now (g.T.Bindings.table c.args.table.now) c.requires.classes)) c.compare_applied.result
    c.compare_applied.ensures

pub returns-else-is_same_int-clause-compared : goal.returns-else-is_same_int-clause-compared
returns-else-is_same_int-clause-compared g c =
    let fm : FitsSigned w64 c.in-Int.m = search rules in
    let fn : FitsSigned w64 c.in-Int-term_at-2.n = search rules in
    let h = rw (to_z-of_z w64 c.in-Int.m fm, to_z-of_z w64 c.in-Int-term_at-2.n fn) at (sym c.is_same_int.ensures ∙ c.if-is_same_int.false) in
    compare-clash c.args.bank.now (g.T.Bindings.table c.args.table.now) (term_tree c.args.bank.now c.args.left.0) (term_tree c.args.bank.now c.args.right.0)
    c.walk-left.result c.walk-right.result (record {
      left_end = c.walk-left.ensures.end;
      right_end = c.walk-right.ensures.end;
      left =
          c.walk-left.ensures.same;
      right = c.walk-right.ensures.same;
    })
    (λ s. clash-ints (term_tree c.args.bank.now c.walk-left.result.0) (term_tree c.args.bank.now c.walk-right.result.0) c.in-Int.m c.in-Int-term_at-2.n s
    c.in-Int.ensures.shown c.in-Int-term_at-2.ensures.shown h)

pub returns-in-Int-term_at-clause-compared : goal.returns-in-Int-term_at-clause-compared
returns-in-Int-term_at-clause-compared g c =
    compare-meet c.args.bank.now (g.T.Bindings.table c.args.table.now) (term_tree c.args.bank.now c.args.left.0) (term_tree c.args.bank.now c.args.right.0)
    c.walk-left.result c.walk-right.result (record {
      left_end = c.walk-left.ensures.end;
      right_end = c.walk-right.ensures.end;
      left =
          c.walk-left.ensures.same;
      right = c.walk-right.ensures.same;
    })
    (meet-left c.args.bank.now c.walk-left.result c.walk-right.result c.in-Var.x c.in-Var.ensures.shown)
    (λ x e f. no-var-int (term_tree c.args.bank.now c.walk-right.result.0) c.in-Int-term_at.field-0 c.in-Int-term_at.ensures.shown x f)

pub returns-in-Var-term_at-2-clause-compared : goal.returns-in-Var-term_at-2-clause-compared
returns-in-Var-term_at-2-clause-compared g c =
    compare-meet c.args.bank.now (g.T.Bindings.table c.args.table.now) (term_tree c.args.bank.now c.args.left.0) (term_tree c.args.bank.now c.args.right.0)
    c.walk-left.result c.walk-right.result (record {
      left_end = c.walk-left.ensures.end;
      right_end = c.walk-right.ensures.end;
      left =
          c.walk-left.ensures.same;
      right = c.walk-right.ensures.same;
    })
    (meet-right c.args.bank.now c.walk-left.result c.walk-right.result c.in-Var-term_at-2.field-0 c.in-Var-term_at-2.ensures.shown)
    (λ x e f. no-var-int (term_tree c.args.bank.now c.walk-left.result.0) c.in-Int.m c.in-Int.ensures.shown x e)

pub compare_applied-requires-clause-left : goal.compare_applied-requires-clause-left
compare_applied-requires-clause-left g c =
    let k = (c.find-left.ensures.class c.args.bank.now (g.T.Bindings.table c.args.table.now) c.requires.classes).below in
    let i = c.walk-left.ensures.end.place.inside in omega arith

pub returns-then-x-y-clause-classes : goal.returns-then-x-y-clause-classes
returns-then-x-y-clause-classes g c = c.requires.classes

pub returns-else-x-y-clause-classes : goal.returns-else-x-y-clause-classes
returns-else-x-y-clause-classes g c = c.requires.classes

pub returns-in-Int-term_at-clause-classes : goal.returns-in-Int-term_at-clause-classes
returns-in-Int-term_at-clause-classes g c = c.requires.classes

pub returns-in-App-term_at-clause-classes : goal.returns-in-App-term_at-clause-classes
returns-in-App-term_at-clause-classes g c = c.requires.classes

pub returns-in-Var-term_at-2-clause-classes : goal.returns-in-Var-term_at-2-clause-classes
returns-in-Var-term_at-2-clause-classes g c = c.requires.classes

pub returns-then-is_same_int-clause-classes : goal.returns-then-is_same_int-clause-classes
returns-then-is_same_int-clause-classes g c = c.requires.classes

pub returns-else-is_same_int-clause-classes : goal.returns-else-is_same_int-clause-classes
returns-else-is_same_int-clause-classes g c = c.requires.classes

pub returns-in-App-term_at-2-clause-classes : goal.returns-in-App-term_at-2-clause-classes
returns-in-App-term_at-2-clause-classes g c = c.requires.classes

pub returns-in-Var-term_at-3-clause-classes : goal.returns-in-Var-term_at-3-clause-classes
returns-in-Var-term_at-3-clause-classes g c = c.requires.classes

pub returns-in-Int-term_at-3-clause-classes : goal.returns-in-Int-term_at-3-clause-classes
returns-in-Int-term_at-3-clause-classes g c = c.requires.classes

pub walk-left-requires-clause-table : goal.walk-left-requires-clause-table
walk-left-requires-clause-table g c = c.requires.table

pub walk-left-requires-clause-place : goal.walk-left-requires-clause-place
walk-left-requires-clause-place g c = c.requires.left

pub walk-right-requires-clause-table : goal.walk-right-requires-clause-table
walk-right-requires-clause-table g c = c.requires.table

pub walk-right-requires-clause-place : goal.walk-right-requires-clause-place
walk-right-requires-clause-place g c = c.requires.right

pub term_at-requires : goal.term_at-requires
term_at-requires g c = c.walk-left.ensures.end.place.inside

pub term_at-requires-in-Var : goal.term_at-requires-in-Var
term_at-requires-in-Var g c = c.walk-right.ensures.end.place.inside

pub term_at-requires-in-Int : goal.term_at-requires-in-Int
term_at-requires-in-Int g c = c.walk-right.ensures.end.place.inside

pub term_at-requires-in-App : goal.term_at-requires-in-App
term_at-requires-in-App g c = c.walk-right.ensures.end.place.inside
