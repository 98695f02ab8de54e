use Rattle.std.proofs.lemmas.Result.{IfOk-from_err}
use Rattle.std.proofs.Common.{◌≡◌, inr, ℕ, ◌<◌, ◌-◌, ◌+◌, ◌++◌, ◌∷◌, [], length, arith, sym, ap, ◌∙◌, refl, subst}
use Rattle.std.specs.Prelude.{slice_index_or}
use Rattle.ll_bank.specs.Term.{sub}
use Rattle.ll_bank.specs.Nodes.{term_tree}
use Rattle.ll_unify.specs.Bindings.{found}
use Rattle.ll_unify.specs.Scanned.{IsPassed}
use Rattle.ll_unify.proofs.FreshLemmas.{both}
use Rattle.ll_unify.proofs.Tables.{step-inside}
use Rattle.ll_unify.proofs.Readings.{Obeys-found}
use Rattle.ll_unify.proofs.Frames.{weight-known, weight-opens, weight-pops}
use Rattle.ll_unify.proofs.Scans.{scan-top, scan-known, scan-opens, scan-done}
use Rattle.ll_unify.proofs.scan.pass.Goals as goal

falls_by_one : (i n : ℕ) → i < n → n - (i + 1) < n - i
falls_by_one i n l = omega arith

pub walk-end-requires-clause-place : goal.walk-end-requires-clause-place
walk-end-requires-clause-place g c =
    let f = scan-top c.args.bank.now (g.T.Bindings.table c.args.table.now) c.args.var c.args.level c.loop-next.seen.places.items c.loop-next.seen.vars.items
    (sub (found c.args.bank.now (g.T.Bindings.table c.args.table.now)) (term_tree c.args.bank.now c.args.start.0))
    (c.args.frames.now.items ++ (record { at = c.args.frame.at; next = c.loop-next.next }) ∷ []) c.args.frames.now.items
    (record { at = c.args.frame.at; next = c.loop-next.next }) c.loop-next.invariant.scanned refl in
    step-inside c.args.bank.now (g.T.Bindings.table c.args.table.now) c.args.frame.at.0 c.loop-next.next
    (slice_index_or c.arguments-args.result.now c.loop-next.next (record { 0 = 0 })).0 f.frame.end.place
    (c.arguments-args.ensures.each c.loop-next.next c.loop-next-test.true)

pub returns-then-not-has-clause-passed : goal.returns-then-not-has-clause-passed
returns-then-not-has-clause-passed g c =
    rw (c.in_ok-push-2.ensures.ok, c.in_ok-push.ensures.ok, c.loop-next.invariant.frames)
    (scan-opens c.args.bank.now (g.T.Bindings.table c.args.table.now) c.args.var c.args.level c.loop-next.seen.places.items c.loop-next.seen.vars.items
    (sub (found c.args.bank.now (g.T.Bindings.table c.args.table.now)) (term_tree c.args.bank.now c.args.start.0))
    (c.args.frames.now.items ++ (record { at = c.args.frame.at; next = c.loop-next.next }) ∷ []) c.args.frames.now.items
    (record { at = c.args.frame.at; next = c.loop-next.next }) (record { at = c.args.frame.at; next = c.loop-next.next + 1 })
    (slice_index_or c.arguments-args.result.now c.loop-next.next (record { 0 = 0 })) c.walk-end.result c.requires.table c.loop-next.invariant.scanned refl
    (c.arguments-args.ensures.each c.loop-next.next c.loop-next-test.true) c.walk-end.ensures.end c.walk-end.ensures.same refl refl)

pub returns-then-not-has-clause-less : goal.returns-then-not-has-clause-less
returns-then-not-has-clause-less g c =
    rw (c.in_ok-push-2.ensures.ok, c.in_ok-push.ensures.ok, c.loop-next.invariant.frames)
    (let l = c.loop-next.invariant.less in
    let w = weight-opens c.args.bank.now (found c.args.bank.now (g.T.Bindings.table c.args.table.now)) c.args.frames.now.items
    (record { at = c.args.frame.at; next = c.loop-next.next }) (record { at = c.args.frame.at; next = c.loop-next.next + 1 }) c.walk-end.result
    (c.arguments-args.ensures.each c.loop-next.next c.loop-next-test.true).among refl refl
    (c.walk-end.ensures.same (found c.args.bank.now (g.T.Bindings.table c.args.table.now))
    (Obeys-found c.args.bank.now (g.T.Bindings.table c.args.table.now) c.requires.table.ordered)
    ∙ ap (sub (found c.args.bank.now (g.T.Bindings.table c.args.table.now)))
    (sym (c.arguments-args.ensures.each c.loop-next.next c.loop-next-test.true).is)) in
    omega arith)

pub returns-then-not-branch-clause-passed : goal.returns-then-not-branch-clause-passed
returns-then-not-branch-clause-passed g c =
    let none : length c.arguments.result.now ≡ 0 = let h = c.is_empty.ensures in let k = c.if-is_empty.true in grind arith in
    subst (IsPassed c.args.bank.now (g.T.Bindings.table c.args.table.now) c.args.var c.args.level c.look.new.self.places.items c.look.new.self.vars.items
    (sub (found c.args.bank.now (g.T.Bindings.table c.args.table.now)) (term_tree c.args.bank.now c.args.start.0))
    (c.args.frames.now.items ++ (record { at = c.args.frame.at; next = c.loop-next.next + 1 }) ∷ [])) c.if-not-branch.true
    (scan-done c.args.bank.now (g.T.Bindings.table c.args.table.now) c.args.var c.args.level c.loop-next.seen.places.items c.look.new.self.places.items
    c.loop-next.seen.vars.items c.look.new.self.vars.items
    (sub (found c.args.bank.now (g.T.Bindings.table c.args.table.now)) (term_tree c.args.bank.now c.args.start.0))
    ((c.args.frames.now.items ++ (record { at = c.args.frame.at; next = c.loop-next.next + 1 }) ∷ []) ++ (record { at = c.walk-end.result; next = 0 }) ∷ [])
    (c.args.frames.now.items ++ (record { at = c.args.frame.at; next = c.loop-next.next + 1 }) ∷ []) (record { at = c.walk-end.result; next = 0 })
    c.in_ok-look.field-0 c.requires.table
    (scan-opens c.args.bank.now (g.T.Bindings.table c.args.table.now) c.args.var c.args.level c.loop-next.seen.places.items c.loop-next.seen.vars.items
    (sub (found c.args.bank.now (g.T.Bindings.table c.args.table.now)) (term_tree c.args.bank.now c.args.start.0))
    (c.args.frames.now.items ++ (record { at = c.args.frame.at; next = c.loop-next.next }) ∷ []) c.args.frames.now.items
    (record { at = c.args.frame.at; next = c.loop-next.next }) (record { at = c.args.frame.at; next = c.loop-next.next + 1 })
    (slice_index_or c.arguments-args.result.now c.loop-next.next (record { 0 = 0 })) c.walk-end.result c.requires.table c.loop-next.invariant.scanned refl
    (c.arguments-args.ensures.each c.loop-next.next c.loop-next-test.true) c.walk-end.ensures.end c.walk-end.ensures.same refl refl) refl (let n =
    c.arguments.ensures.count in omega arith) c.in_ok-look.ensures.look (λ _. inr c.in_ok-look.ensures.places))

pub loop-next-preserved-else-not-branch : goal.loop-next-preserved-else-not-branch
loop-next-preserved-else-not-branch g c =
    let none : length c.arguments.result.now ≡ 0 = let h = c.is_empty.ensures in let k = c.if-is_empty.true in grind arith in
    record {
      scanned = subst (IsPassed c.args.bank.now (g.T.Bindings.table c.args.table.now) c.args.var c.args.level c.look.new.self.places.items
          c.look.new.self.vars.items (sub (found c.args.bank.now (g.T.Bindings.table c.args.table.now)) (term_tree c.args.bank.now c.args.start.0))
          (c.args.frames.now.items ++ (record { at = c.args.frame.at; next = c.loop-next.next + 1 }) ∷ [])) c.if-not-branch.false
          (scan-done c.args.bank.now (g.T.Bindings.table c.args.table.now) c.args.var c.args.level c.loop-next.seen.places.items c.look.new.self.places.items
          c.loop-next.seen.vars.items c.look.new.self.vars.items
          (sub (found c.args.bank.now (g.T.Bindings.table c.args.table.now)) (term_tree c.args.bank.now c.args.start.0))
          ((c.args.frames.now.items ++ (record { at = c.args.frame.at; next = c.loop-next.next + 1 }) ∷ []) ++ (record { at = c.walk-end.result; next = 0 })
          ∷ []) (c.args.frames.now.items ++ (record { at = c.args.frame.at; next = c.loop-next.next + 1 }) ∷ [])
          (record { at = c.walk-end.result; next = 0 }) c.in_ok-look.field-0 c.requires.table
          (scan-opens c.args.bank.now (g.T.Bindings.table c.args.table.now) c.args.var c.args.level c.loop-next.seen.places.items c.loop-next.seen.vars.items
          (sub (found c.args.bank.now (g.T.Bindings.table c.args.table.now)) (term_tree c.args.bank.now c.args.start.0))
          (c.args.frames.now.items ++ (record { at = c.args.frame.at; next = c.loop-next.next }) ∷ []) c.args.frames.now.items
          (record { at = c.args.frame.at; next = c.loop-next.next }) (record { at = c.args.frame.at; next = c.loop-next.next + 1 })
          (slice_index_or c.arguments-args.result.now c.loop-next.next (record { 0 = 0 })) c.walk-end.result c.requires.table c.loop-next.invariant.scanned
          refl (c.arguments-args.ensures.each c.loop-next.next c.loop-next-test.true) c.walk-end.ensures.end c.walk-end.ensures.same refl refl) refl
          (let n = c.arguments.ensures.count in omega arith) c.in_ok-look.ensures.look (λ _. inr c.in_ok-look.ensures.places));
      frames = c.loop-next.invariant.frames;
      less = (let l = c.loop-next.invariant.less in let w = weight-known c.args.bank.now (found c.args.bank.now (g.T.Bindings.table c.args.table.now))
          c.args.frames.now.items (record { at = c.args.frame.at; next = c.loop-next.next }) (record { at = c.args.frame.at; next = c.loop-next.next + 1 })
          (c.arguments-args.ensures.each c.loop-next.next c.loop-next-test.true).among refl refl in omega arith);
    }

pub loop-next-preserved : goal.loop-next-preserved
loop-next-preserved g c = record {
  scanned = scan-known c.args.bank.now (g.T.Bindings.table c.args.table.now) c.args.var c.args.level c.loop-next.seen.places.items c.loop-next.seen.vars.items
      (sub (found c.args.bank.now (g.T.Bindings.table c.args.table.now)) (term_tree c.args.bank.now c.args.start.0))
      (c.args.frames.now.items ++ (record { at = c.args.frame.at; next = c.loop-next.next }) ∷ []) c.args.frames.now.items
      (record { at = c.args.frame.at; next = c.loop-next.next }) (record { at = c.args.frame.at; next = c.loop-next.next + 1 })
      (slice_index_or c.arguments-args.result.now c.loop-next.next (record { 0 = 0 })) c.walk-end.result c.requires.table c.loop-next.invariant.scanned refl
      (c.arguments-args.ensures.each c.loop-next.next c.loop-next-test.true) c.walk-end.ensures.same c.if-not-has.ensures refl refl;
  frames = c.loop-next.invariant.frames;
  less = (let l = c.loop-next.invariant.less in let w = weight-known c.args.bank.now (found c.args.bank.now (g.T.Bindings.table c.args.table.now))
      c.args.frames.now.items (record { at = c.args.frame.at; next = c.loop-next.next }) (record { at = c.args.frame.at; next = c.loop-next.next + 1 })
      (c.arguments-args.ensures.each c.loop-next.next c.loop-next-test.true).among refl refl in omega arith);
}

pub returns-clause-passed : goal.returns-clause-passed
returns-clause-passed g c =
    rw c.loop-next.invariant.frames
    (both c.done.result _ _ _ (λ b look places.
    scan-done c.args.bank.now (g.T.Bindings.table c.args.table.now) c.args.var c.args.level c.loop-next.seen.places.items c.done.new.self.places.items
    c.loop-next.seen.vars.items c.done.new.self.vars.items
    (sub (found c.args.bank.now (g.T.Bindings.table c.args.table.now)) (term_tree c.args.bank.now c.args.start.0))
    (c.args.frames.now.items ++ (record { at = c.args.frame.at; next = c.loop-next.next }) ∷ []) c.args.frames.now.items
    (record { at = c.args.frame.at; next = c.loop-next.next }) b c.requires.table c.loop-next.invariant.scanned refl
    (let n = c.arguments-args.ensures.count in let k = c.loop-next-test.false in omega arith) look places)
    c.done.ensures.look c.done.ensures.places)

pub loop-next-init : goal.loop-next-init
loop-next-init g c = record { scanned = c.requires.scanned; frames = refl; less = omega arith }

pub bounds-args-next : goal.bounds-args-next
bounds-args-next g c = c.loop-next-test.true

pub walk-end-requires-clause-table : goal.walk-end-requires-clause-table
walk-end-requires-clause-table g c = c.requires.table

pub arguments-args-requires : goal.arguments-args-requires
arguments-args-requires g c =
    (scan-top c.args.bank.now (g.T.Bindings.table c.args.table.now) c.args.var c.args.level c.args.seen.now.places.items c.args.seen.now.vars.items
    (sub (found c.args.bank.now (g.T.Bindings.table c.args.table.now)) (term_tree c.args.bank.now c.args.start.0))
    (c.args.frames.now.items ++ c.args.frame ∷ []) c.args.frames.now.items c.args.frame c.requires.scanned refl).frame.end.place.inside

pub done-requires : goal.done-requires
done-requires g c =
    (scan-top c.args.bank.now (g.T.Bindings.table c.args.table.now) c.args.var c.args.level c.args.seen.now.places.items c.args.seen.now.vars.items
    (sub (found c.args.bank.now (g.T.Bindings.table c.args.table.now)) (term_tree c.args.bank.now c.args.start.0))
    (c.args.frames.now.items ++ c.args.frame ∷ []) c.args.frames.now.items c.args.frame c.requires.scanned refl).frame.end.place.inside

pub arguments-requires : goal.arguments-requires
arguments-requires g c = c.walk-end.ensures.end.place.inside

pub look-requires : goal.look-requires
look-requires g c = c.walk-end.ensures.end.place.inside

pub returns-then-not-branch-clause-less : goal.returns-then-not-branch-clause-less
returns-then-not-branch-clause-less g c =
    rw c.loop-next.invariant.frames
    (weight-pops c.args.bank.now (found c.args.bank.now (g.T.Bindings.table c.args.table.now)) c.args.frames.now.items c.args.frame)

pub loop-next-smaller-else-not-branch : goal.loop-next-smaller-else-not-branch
loop-next-smaller-else-not-branch g c = falls_by_one c.loop-next.next _ c.loop-next-test.true

pub loop-next-smaller : goal.loop-next-smaller
loop-next-smaller g c = falls_by_one c.loop-next.next _ c.loop-next-test.true

pub returns-in_err-push-clause-passed : goal.returns-in_err-push-clause-passed
returns-in_err-push-clause-passed g c = IfOk-from_err c.from_residual-in_err-push.result _ c.from_residual-in_err-push.ensures.0

pub returns-in_err-push-clause-less : goal.returns-in_err-push-clause-less
returns-in_err-push-clause-less g c = IfOk-from_err c.from_residual-in_err-push.result _ c.from_residual-in_err-push.ensures.0

pub returns-in_err-push-2-clause-passed : goal.returns-in_err-push-2-clause-passed
returns-in_err-push-2-clause-passed g c = IfOk-from_err c.from_residual-in_err-push-2.result _ c.from_residual-in_err-push-2.ensures.0

pub returns-in_err-push-2-clause-less : goal.returns-in_err-push-2-clause-less
returns-in_err-push-2-clause-less g c = IfOk-from_err c.from_residual-in_err-push-2.result _ c.from_residual-in_err-push-2.ensures.0

pub returns-in_err-look-clause-passed : goal.returns-in_err-look-clause-passed
returns-in_err-look-clause-passed g c = IfOk-from_err c.from_residual.result _ c.from_residual.ensures.0

pub returns-in_err-look-clause-less : goal.returns-in_err-look-clause-less
returns-in_err-look-clause-less g c = IfOk-from_err c.from_residual.result _ c.from_residual.ensures.0
