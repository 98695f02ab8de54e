use Rattle.std.proofs.lemmas.Result.{IfOk-from_err}
use Rattle.std.proofs.Common.{◌+◌, ◌++◌, ◌∷◌, [], arith, refl, sym, ◌∙◌, ap}
use Rattle.std.specs.Prelude.{map}
use Rattle.ll_bank.specs.Term.{sub}
use Rattle.ll_bank.specs.Nodes.{term_tree}
use Rattle.ll_laws.specs.Unify.{and_then, diff, diff_lists}
use Rattle.ll_unify.specs.Bindings.{found}
use Rattle.ll_unify.specs.Pairs.{lefts, rights, IsComparing}
use Rattle.ll_unify.proofs.Tables.{step-inside}
use Rattle.ll_unify.proofs.Readings.{Obeys-found}
use Rattle.ll_unify.proofs.Pairs.{pairs-top, alike-done, alike-trans, alike-next, alike-equal, alike-open, awaits-next, awaits-equal, awaits-open, awaits-meet}
use Rattle.ll_unify.proofs.Pairs.{top-joined, pairs-done, pairs_weight-next, pairs_weight-open}
use Rattle.ll_unify.proofs.Alike.{shape-length}
use Rattle.ll_unify.proofs.FreshLemmas.{clear-next, clear-done, clear-open, clear-same}
use Rattle.ll_unify.proofs.meet.next_difference.Goals as goal
use Rattle.ll_unify.proofs.meet.next_difference.Goals.{In-Some}

-- the pair that was on top
on_top : (g : _) (c : In-Some g) → IsComparing c.args.bank.now (g.T.Bindings.table c.args.table.now) c.pop.new.self.items c.in-Some.pair
on_top g c = pairs-top c.args.bank.now (g.T.Bindings.table c.args.table.now) c.loop-pair.pairs.items c.pop.new.self.items c.in-Some.pair
    c.loop-pair.invariant.pairs c.in-Some.ensures.items

pub loop-pair-preserved-in-Continue-1 : goal.loop-pair-preserved-in-Continue-1
loop-pair-preserved-in-Continue-1 g c =
    let top = on_top g (goal.at.loop-pair-preserved-in-Continue-1 g c).In-Some in record {
      classes = c.in_ok-join-in-None.ensures c.args.bank.now (g.T.Bindings.table c.args.table.now) c.loop-pair.invariant.classes
          (top-joined c.args.bank.now (g.T.Bindings.table c.args.table.now) c.pop.new.self.items c.in-Some.pair top c.in-None.ensures.argument);
      pairs = pairs-done c.args.bank.now (g.T.Bindings.table c.args.table.now) c.pop.new.self.items c.in-Some.pair top c.in-None.ensures.argument;
      alike = alike-trans c.args.bank.now (g.T.Bindings.table c.args.table.now) (lefts c.args.bank.now c.args.pairs.now.items)
          (rights c.args.bank.now c.args.pairs.now.items) (lefts c.args.bank.now c.loop-pair.pairs.items) (rights c.args.bank.now c.loop-pair.pairs.items)
          (lefts c.args.bank.now c.pop.new.self.items) (rights c.args.bank.now c.pop.new.self.items) c.loop-pair.invariant.alike
          (alike-done c.args.bank.now (g.T.Bindings.table c.args.table.now) c.loop-pair.pairs.items c.pop.new.self.items c.in-Some.pair c.in-Some.ensures.items
          c.in-None.ensures.argument (shape-length (term_tree c.args.bank.now c.in-Some.pair.left.0) (term_tree c.args.bank.now c.in-Some.pair.right.0)
          top.pair.shape));
      clear = λ x k h. clear-done (found c.args.bank.now (g.T.Bindings.table c.args.table.now)) x k c.args.bank.now c.loop-pair.pairs.items c.pop.new.self.items
          c.in-Some.pair c.in-Some.ensures.items c.in-None.ensures.argument (c.loop-pair.invariant.clear x k h);
    }

pub unreachable-requires : goal.unreachable-requires
unreachable-requires g c =
    let top = on_top g (goal.at.unreachable-requires g c).In-Some in let n =
    shape-length (term_tree c.args.bank.now c.in-Some.pair.left.0) (term_tree c.args.bank.now c.in-Some.pair.right.0) top.pair.shape in let m =
    c.in-Some-argument.ensures.argument.among in let k = c.in-None-argument.ensures.argument in omega arith

pub compare-requires-clause-left : goal.compare-requires-clause-left
compare-requires-clause-left g c =
    let top = on_top g (goal.at.compare-requires-clause-left g c).In-Some in
    step-inside c.args.bank.now (g.T.Bindings.table c.args.table.now) c.in-Some.pair.left.0 c.in-Some.pair.next c.in-Some-argument.left.0
    top.pair.left_place c.in-Some-argument.ensures.argument

pub compare-requires-clause-right : goal.compare-requires-clause-right
compare-requires-clause-right g c =
    let top = on_top g (goal.at.compare-requires-clause-right g c).In-Some in
    step-inside c.args.bank.now (g.T.Bindings.table c.args.table.now) c.in-Some.pair.right.0 c.in-Some.pair.next c.in-Some-argument-2.right.0
    top.pair.right_place c.in-Some-argument-2.ensures.argument

pub loop-pair-smaller-in-Same : goal.loop-pair-smaller-in-Same
loop-pair-smaller-in-Same g c =
    rw (c.in_ok-push-in-Some-argument-2.ensures.items, c.in-Some.ensures.items)
    (pairs_weight-next c.args.bank.now (found c.args.bank.now (g.T.Bindings.table c.args.table.now)) c.pop.new.self.items c.in-Some.pair
    (record { left = c.in-Some.pair.left; right = c.in-Some.pair.right; next = c.in-Some.pair.next + 1 }) c.in-Some-argument.ensures.argument.among refl
    refl)

pub loop-pair-preserved-in-Same : goal.loop-pair-preserved-in-Same
loop-pair-preserved-in-Same g c =
    record {
      classes = c.in-Same.ensures.classes;
      pairs = rw c.in_ok-push-in-Some-argument-2.ensures.items
          (awaits-equal c.args.bank.now (g.T.Bindings.table c.args.table.now)
          (c.pop.new.self.items ++ (record { left = c.in-Some.pair.left; right = c.in-Some.pair.right; next = c.in-Some.pair.next + 1 }) ∷ [])
          (term_tree c.args.bank.now c.in-Some-argument.left.0) (term_tree c.args.bank.now c.in-Some-argument-2.right.0)
          (awaits-next c.args.bank.now (g.T.Bindings.table c.args.table.now) c.loop-pair.pairs.items c.pop.new.self.items c.in-Some.pair
          (record { left = c.in-Some.pair.left; right = c.in-Some.pair.right; next = c.in-Some.pair.next + 1 }) c.in-Some-argument.left
          c.in-Some-argument-2.right c.loop-pair.invariant.pairs c.in-Some.ensures.items c.in-Some-argument.ensures.argument
          c.in-Some-argument-2.ensures.argument refl refl refl) c.in-Same.ensures.compared);
      alike = rw c.in_ok-push-in-Some-argument-2.ensures.items
          (alike-trans c.args.bank.now (g.T.Bindings.table c.args.table.now) (lefts c.args.bank.now c.args.pairs.now.items)
          (rights c.args.bank.now c.args.pairs.now.items) ((term_tree c.args.bank.now c.in-Some-argument.left.0)
          ∷ lefts c.args.bank.now (c.pop.new.self.items ++ (record { left = c.in-Some.pair.left; right = c.in-Some.pair.right; next = c.in-Some.pair.next + 1 })
          ∷ [])) ((term_tree c.args.bank.now c.in-Some-argument-2.right.0)
          ∷ rights c.args.bank.now (c.pop.new.self.items ++ (record {
            left = c.in-Some.pair.left;
            right = c.in-Some.pair.right;
            next =
                c.in-Some.pair.next + 1;
          }) ∷ [])) (lefts c.args.bank.now
          (c.pop.new.self.items ++ (record { left = c.in-Some.pair.left; right = c.in-Some.pair.right; next = c.in-Some.pair.next + 1 }) ∷ []))
          (rights c.args.bank.now (c.pop.new.self.items ++ (record { left = c.in-Some.pair.left; right = c.in-Some.pair.right; next = c.in-Some.pair.next + 1 })
          ∷ [])) (alike-trans c.args.bank.now (g.T.Bindings.table c.args.table.now) (lefts c.args.bank.now c.args.pairs.now.items)
          (rights c.args.bank.now c.args.pairs.now.items) (lefts c.args.bank.now c.loop-pair.pairs.items) (rights c.args.bank.now c.loop-pair.pairs.items)
          ((term_tree c.args.bank.now c.in-Some-argument.left.0)
          ∷ lefts c.args.bank.now (c.pop.new.self.items ++ (record { left = c.in-Some.pair.left; right = c.in-Some.pair.right; next = c.in-Some.pair.next + 1 })
          ∷ [])) ((term_tree c.args.bank.now c.in-Some-argument-2.right.0)
          ∷ rights c.args.bank.now (c.pop.new.self.items ++ (record {
            left = c.in-Some.pair.left;
            right = c.in-Some.pair.right;
            next =
                c.in-Some.pair.next + 1;
          }) ∷ [])) c.loop-pair.invariant.alike
          (alike-next c.args.bank.now (g.T.Bindings.table c.args.table.now) c.loop-pair.pairs.items c.pop.new.self.items c.in-Some.pair
          (record { left = c.in-Some.pair.left; right = c.in-Some.pair.right; next = c.in-Some.pair.next + 1 }) c.in-Some-argument.left
          c.in-Some-argument-2.right c.in-Some.ensures.items c.in-Some-argument.ensures.argument c.in-Some-argument-2.ensures.argument refl refl refl))
          (alike-equal c.args.bank.now (g.T.Bindings.table c.args.table.now) (term_tree c.args.bank.now c.in-Some-argument.left.0)
          (term_tree c.args.bank.now c.in-Some-argument-2.right.0)
          (lefts c.args.bank.now (c.pop.new.self.items ++ (record { left = c.in-Some.pair.left; right = c.in-Some.pair.right; next = c.in-Some.pair.next + 1 })
          ∷ [])) (rights c.args.bank.now (c.pop.new.self.items
          ++ (record { left = c.in-Some.pair.left; right = c.in-Some.pair.right; next = c.in-Some.pair.next + 1 }) ∷ [])) c.in-Same.ensures.compared));
      clear = rw c.in_ok-push-in-Some-argument-2.ensures.items
          (λ x k h. (clear-next (found c.args.bank.now (g.T.Bindings.table c.args.table.now)) x k c.args.bank.now c.loop-pair.pairs.items c.pop.new.self.items
          c.in-Some.pair (record { left = c.in-Some.pair.left; right = c.in-Some.pair.right; next = c.in-Some.pair.next + 1 }) c.in-Some-argument.left
          c.in-Some.ensures.items c.in-Some-argument.ensures.argument refl refl (c.loop-pair.invariant.clear x k h)).1);
    }

pub returns-in-Clash-clause-difference : goal.returns-in-Clash-clause-difference
returns-in-Clash-clause-difference g c =
    λ s o. (alike-trans c.args.bank.now (g.T.Bindings.table c.args.table.now) (lefts c.args.bank.now c.args.pairs.now.items)
    (rights c.args.bank.now c.args.pairs.now.items) (lefts c.args.bank.now c.loop-pair.pairs.items) (rights c.args.bank.now c.loop-pair.pairs.items)
    ((term_tree c.args.bank.now c.in-Some-argument.left.0)
    ∷ lefts c.args.bank.now (c.pop.new.self.items ++ (record { left = c.in-Some.pair.left; right = c.in-Some.pair.right; next = c.in-Some.pair.next + 1 })
    ∷ [])) ((term_tree c.args.bank.now c.in-Some-argument-2.right.0)
    ∷ rights c.args.bank.now (c.pop.new.self.items ++ (record { left = c.in-Some.pair.left; right = c.in-Some.pair.right; next = c.in-Some.pair.next + 1 })
    ∷ [])) c.loop-pair.invariant.alike (alike-next c.args.bank.now (g.T.Bindings.table c.args.table.now) c.loop-pair.pairs.items c.pop.new.self.items
    c.in-Some.pair (record { left = c.in-Some.pair.left; right = c.in-Some.pair.right; next = c.in-Some.pair.next + 1 }) c.in-Some-argument.left
    c.in-Some-argument-2.right c.in-Some.ensures.items c.in-Some-argument.ensures.argument c.in-Some-argument-2.ensures.argument refl refl refl)) s o
    ∙ ap
    (λ d.
    and_then d
    (diff_lists
    (map (sub s) (lefts c.args.bank.now (c.pop.new.self.items
    ++ (record { left = c.in-Some.pair.left; right = c.in-Some.pair.right; next = c.in-Some.pair.next + 1 }) ∷ [])))
    (map (sub s) (rights c.args.bank.now (c.pop.new.self.items
    ++ (record { left = c.in-Some.pair.left; right = c.in-Some.pair.right; next = c.in-Some.pair.next + 1 }) ∷ []))))) (c.in-Clash.ensures.compared s o)

pub returns-in-Meet-clause-difference : goal.returns-in-Meet-clause-difference
returns-in-Meet-clause-difference g c =
    record {
      meeting = c.in-Meet.ensures.compared.meeting;
      alike = rw c.in_ok-push-in-Some-argument-2.ensures.items
          (λ s o. (alike-trans c.args.bank.now (g.T.Bindings.table c.args.table.now) (lefts c.args.bank.now c.args.pairs.now.items)
          (rights c.args.bank.now c.args.pairs.now.items) (lefts c.args.bank.now c.loop-pair.pairs.items) (rights c.args.bank.now c.loop-pair.pairs.items)
          ((term_tree c.args.bank.now c.in-Some-argument.left.0)
          ∷ lefts c.args.bank.now (c.pop.new.self.items ++ (record { left = c.in-Some.pair.left; right = c.in-Some.pair.right; next = c.in-Some.pair.next + 1 })
          ∷ [])) ((term_tree c.args.bank.now c.in-Some-argument-2.right.0)
          ∷ rights c.args.bank.now (c.pop.new.self.items ++ (record {
            left = c.in-Some.pair.left;
            right = c.in-Some.pair.right;
            next =
                c.in-Some.pair.next + 1;
          }) ∷ [])) c.loop-pair.invariant.alike
          (alike-next c.args.bank.now (g.T.Bindings.table c.args.table.now) c.loop-pair.pairs.items c.pop.new.self.items c.in-Some.pair
          (record { left = c.in-Some.pair.left; right = c.in-Some.pair.right; next = c.in-Some.pair.next + 1 }) c.in-Some-argument.left
          c.in-Some-argument-2.right c.in-Some.ensures.items c.in-Some-argument.ensures.argument c.in-Some-argument-2.ensures.argument refl refl refl)) s o
          ∙ (λ i. and_then (diff (sym (c.in-Meet.ensures.compared.left s o) i) (sym (c.in-Meet.ensures.compared.right s o) i))
          (diff_lists
          (map (sub s) (lefts c.args.bank.now (c.pop.new.self.items
          ++ (record { left = c.in-Some.pair.left; right = c.in-Some.pair.right; next = c.in-Some.pair.next + 1 }) ∷ [])))
          (map (sub s) (rights c.args.bank.now (c.pop.new.self.items
          ++ (record { left = c.in-Some.pair.left; right = c.in-Some.pair.right; next = c.in-Some.pair.next + 1 }) ∷ []))))));
      rest = rw c.in_ok-push-in-Some-argument-2.ensures.items
          (awaits-meet c.args.bank.now (g.T.Bindings.table c.args.table.now)
          (c.pop.new.self.items ++ (record { left = c.in-Some.pair.left; right = c.in-Some.pair.right; next = c.in-Some.pair.next + 1 }) ∷ [])
          (term_tree c.args.bank.now c.in-Some-argument.left.0) (term_tree c.args.bank.now c.in-Some-argument-2.right.0) c.in-Meet.a c.in-Meet.b
          (awaits-next c.args.bank.now (g.T.Bindings.table c.args.table.now) c.loop-pair.pairs.items c.pop.new.self.items c.in-Some.pair
          (record { left = c.in-Some.pair.left; right = c.in-Some.pair.right; next = c.in-Some.pair.next + 1 }) c.in-Some-argument.left
          c.in-Some-argument-2.right c.loop-pair.invariant.pairs c.in-Some.ensures.items c.in-Some-argument.ensures.argument
          c.in-Some-argument-2.ensures.argument refl refl refl) c.in-Meet.ensures.compared.left c.in-Meet.ensures.compared.right);
      clear = rw c.in_ok-push-in-Some-argument-2.ensures.items
          (λ x k h. clear-same (found c.args.bank.now (g.T.Bindings.table c.args.table.now)) x k (term_tree c.args.bank.now c.in-Some-argument.left.0)
          (term_tree c.args.bank.now c.in-Meet.a.0) (lefts c.args.bank.now
          (c.pop.new.self.items ++ (record { left = c.in-Some.pair.left; right = c.in-Some.pair.right; next = c.in-Some.pair.next + 1 }) ∷ []))
          (c.in-Meet.ensures.compared.left (found c.args.bank.now (g.T.Bindings.table c.args.table.now))
          (Obeys-found c.args.bank.now (g.T.Bindings.table c.args.table.now) c.requires.table.ordered))
          (clear-next (found c.args.bank.now (g.T.Bindings.table c.args.table.now)) x k c.args.bank.now c.loop-pair.pairs.items c.pop.new.self.items
          c.in-Some.pair (record { left = c.in-Some.pair.left; right = c.in-Some.pair.right; next = c.in-Some.pair.next + 1 }) c.in-Some-argument.left
          c.in-Some.ensures.items c.in-Some-argument.ensures.argument refl refl (c.loop-pair.invariant.clear x k h)));
    }

pub loop-pair-smaller : goal.loop-pair-smaller
loop-pair-smaller g c =
    rw (c.in_ok-push-in-Open.ensures.items, c.in_ok-push-in-Some-argument-2.ensures.items, c.in-Some.ensures.items)
    (pairs_weight-open c.args.bank.now (found c.args.bank.now (g.T.Bindings.table c.args.table.now)) c.pop.new.self.items c.in-Some.pair
    (record { left = c.in-Some.pair.left; right = c.in-Some.pair.right; next = c.in-Some.pair.next + 1 }) c.in-Open.a c.in-Open.b
    c.in-Some-argument.ensures.argument.among refl refl (c.in-Open.ensures.compared.left (found c.args.bank.now (g.T.Bindings.table c.args.table.now))
    (Obeys-found c.args.bank.now (g.T.Bindings.table c.args.table.now) c.requires.table.ordered)
    ∙ ap (sub (found c.args.bank.now (g.T.Bindings.table c.args.table.now))) (sym c.in-Some-argument.ensures.argument.is)))

pub loop-pair-preserved : goal.loop-pair-preserved
loop-pair-preserved g c =
    record {
      classes = c.in-Open.ensures.classes;
      pairs = rw (c.in_ok-push-in-Open.ensures.items, c.in_ok-push-in-Some-argument-2.ensures.items)
          (awaits-open c.args.bank.now (g.T.Bindings.table c.args.table.now)
          (c.pop.new.self.items ++ (record { left = c.in-Some.pair.left; right = c.in-Some.pair.right; next = c.in-Some.pair.next + 1 }) ∷ [])
          (term_tree c.args.bank.now c.in-Some-argument.left.0) (term_tree c.args.bank.now c.in-Some-argument-2.right.0) c.in-Open.a c.in-Open.b
          (awaits-next c.args.bank.now (g.T.Bindings.table c.args.table.now) c.loop-pair.pairs.items c.pop.new.self.items c.in-Some.pair
          (record { left = c.in-Some.pair.left; right = c.in-Some.pair.right; next = c.in-Some.pair.next + 1 }) c.in-Some-argument.left
          c.in-Some-argument-2.right c.loop-pair.invariant.pairs c.in-Some.ensures.items c.in-Some-argument.ensures.argument
          c.in-Some-argument-2.ensures.argument refl refl refl) c.in-Open.ensures.compared);
      alike = rw (c.in_ok-push-in-Open.ensures.items, c.in_ok-push-in-Some-argument-2.ensures.items)
          (alike-trans c.args.bank.now (g.T.Bindings.table c.args.table.now) (lefts c.args.bank.now c.args.pairs.now.items)
          (rights c.args.bank.now c.args.pairs.now.items) ((term_tree c.args.bank.now c.in-Some-argument.left.0)
          ∷ lefts c.args.bank.now (c.pop.new.self.items ++ (record { left = c.in-Some.pair.left; right = c.in-Some.pair.right; next = c.in-Some.pair.next + 1 })
          ∷ [])) ((term_tree c.args.bank.now c.in-Some-argument-2.right.0)
          ∷ rights c.args.bank.now (c.pop.new.self.items ++ (record {
            left = c.in-Some.pair.left;
            right = c.in-Some.pair.right;
            next =
                c.in-Some.pair.next + 1;
          }) ∷ [])) (lefts c.args.bank.now
          ((c.pop.new.self.items ++ (record { left = c.in-Some.pair.left; right = c.in-Some.pair.right; next = c.in-Some.pair.next + 1 }) ∷ [])
          ++ (record { left = c.in-Open.a; right = c.in-Open.b; next = 0 }) ∷ []))
          (rights c.args.bank.now
          ((c.pop.new.self.items ++ (record { left = c.in-Some.pair.left; right = c.in-Some.pair.right; next = c.in-Some.pair.next + 1 }) ∷ [])
          ++ (record { left = c.in-Open.a; right = c.in-Open.b; next = 0 }) ∷ []))
          (alike-trans c.args.bank.now (g.T.Bindings.table c.args.table.now) (lefts c.args.bank.now c.args.pairs.now.items)
          (rights c.args.bank.now c.args.pairs.now.items) (lefts c.args.bank.now c.loop-pair.pairs.items) (rights c.args.bank.now c.loop-pair.pairs.items)
          ((term_tree c.args.bank.now c.in-Some-argument.left.0)
          ∷ lefts c.args.bank.now (c.pop.new.self.items ++ (record { left = c.in-Some.pair.left; right = c.in-Some.pair.right; next = c.in-Some.pair.next + 1 })
          ∷ [])) ((term_tree c.args.bank.now c.in-Some-argument-2.right.0)
          ∷ rights c.args.bank.now (c.pop.new.self.items ++ (record {
            left = c.in-Some.pair.left;
            right = c.in-Some.pair.right;
            next =
                c.in-Some.pair.next + 1;
          }) ∷ [])) c.loop-pair.invariant.alike
          (alike-next c.args.bank.now (g.T.Bindings.table c.args.table.now) c.loop-pair.pairs.items c.pop.new.self.items c.in-Some.pair
          (record { left = c.in-Some.pair.left; right = c.in-Some.pair.right; next = c.in-Some.pair.next + 1 }) c.in-Some-argument.left
          c.in-Some-argument-2.right c.in-Some.ensures.items c.in-Some-argument.ensures.argument c.in-Some-argument-2.ensures.argument refl refl refl))
          (alike-open c.args.bank.now (g.T.Bindings.table c.args.table.now) (term_tree c.args.bank.now c.in-Some-argument.left.0)
          (term_tree c.args.bank.now c.in-Some-argument-2.right.0) c.in-Open.a c.in-Open.b
          (c.pop.new.self.items ++ (record { left = c.in-Some.pair.left; right = c.in-Some.pair.right; next = c.in-Some.pair.next + 1 }) ∷ [])
          c.in-Open.ensures.compared));
      clear = rw (c.in_ok-push-in-Open.ensures.items, c.in_ok-push-in-Some-argument-2.ensures.items)
          (λ x k h. clear-open (found c.args.bank.now (g.T.Bindings.table c.args.table.now)) x k c.args.bank.now
          (c.pop.new.self.items ++ (record { left = c.in-Some.pair.left; right = c.in-Some.pair.right; next = c.in-Some.pair.next + 1 }) ∷ [])
          (term_tree c.args.bank.now c.in-Some-argument.left.0) c.in-Open.a c.in-Open.b
          (c.in-Open.ensures.compared.left (found c.args.bank.now (g.T.Bindings.table c.args.table.now))
          (Obeys-found c.args.bank.now (g.T.Bindings.table c.args.table.now) c.requires.table.ordered))
          (clear-next (found c.args.bank.now (g.T.Bindings.table c.args.table.now)) x k c.args.bank.now c.loop-pair.pairs.items c.pop.new.self.items
          c.in-Some.pair (record { left = c.in-Some.pair.left; right = c.in-Some.pair.right; next = c.in-Some.pair.next + 1 }) c.in-Some-argument.left
          c.in-Some.ensures.items c.in-Some-argument.ensures.argument refl refl (c.loop-pair.invariant.clear x k h)));
    }

pub loop-pair-init : goal.loop-pair-init
loop-pair-init g c = record { classes = c.requires.classes; pairs = c.requires.pairs; alike = λ s o. refl; clear = λ x k h. h }

pub compare-requires-clause-table : goal.compare-requires-clause-table
compare-requires-clause-table g c = c.requires.table

pub compare-requires-clause-classes : goal.compare-requires-clause-classes
compare-requires-clause-classes g c = c.loop-pair.invariant.classes

pub returns-in-Clash-clause-classes : goal.returns-in-Clash-clause-classes
returns-in-Clash-clause-classes g c = c.in-Clash.ensures.classes

pub returns-in-Meet-clause-classes : goal.returns-in-Meet-clause-classes
returns-in-Meet-clause-classes g c = c.in-Meet.ensures.classes

pub returns-clause-classes : goal.returns-clause-classes
returns-clause-classes g c = c.loop-pair.invariant.classes

pub argument-requires : goal.argument-requires
argument-requires g c = (on_top g (goal.at.argument-requires g c).In-Some).pair.left_place.inside

pub argument-requires-in-Some-argument : goal.argument-requires-in-Some-argument
argument-requires-in-Some-argument g c = (on_top g (goal.at.argument-requires-in-Some-argument g c).In-Some).pair.right_place.inside

pub returns-in_err-join-in-None-clause-classes : goal.returns-in_err-join-in-None-clause-classes
returns-in_err-join-in-None-clause-classes g c = IfOk-from_err c.from_residual.result _ c.from_residual.ensures.0

pub returns-in_err-join-in-None-clause-difference : goal.returns-in_err-join-in-None-clause-difference
returns-in_err-join-in-None-clause-difference g c = IfOk-from_err c.from_residual.result _ c.from_residual.ensures.0

pub returns-in_err-push-in-Some-argument-2-clause-classes : goal.returns-in_err-push-in-Some-argument-2-clause-classes
returns-in_err-push-in-Some-argument-2-clause-classes g c =
    IfOk-from_err c.from_residual-in_err-push-in-Some-argument-2.result _ c.from_residual-in_err-push-in-Some-argument-2.ensures.0

pub returns-in_err-push-in-Some-argument-2-clause-difference : goal.returns-in_err-push-in-Some-argument-2-clause-difference
returns-in_err-push-in-Some-argument-2-clause-difference g c =
    IfOk-from_err c.from_residual-in_err-push-in-Some-argument-2.result _ c.from_residual-in_err-push-in-Some-argument-2.ensures.0

pub returns-in_err-push-in-Open-clause-classes : goal.returns-in_err-push-in-Open-clause-classes
returns-in_err-push-in-Open-clause-classes g c = IfOk-from_err c.from_residual-in_err-push-in-Open.result _ c.from_residual-in_err-push-in-Open.ensures.0

pub returns-in_err-push-in-Open-clause-difference : goal.returns-in_err-push-in-Open-clause-difference
returns-in_err-push-in-Open-clause-difference g c = IfOk-from_err c.from_residual-in_err-push-in-Open.result _ c.from_residual-in_err-push-in-Open.ensures.0
