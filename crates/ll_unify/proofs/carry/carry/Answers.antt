use Rattle.std.proofs.lemmas.Result.{IfOk-from_err}
use Rattle.std.proofs.Common.{◌+◌, refl, sym, ap, ◌∙◌}
use Rattle.ll_bank.specs.Term.{sub}
use Rattle.ll_bank.specs.Nodes.{term_tree}
use Rattle.ll_bank.proofs.CallerLemmas.{Extends-refl, Extends-trans}
use Rattle.ll_unify.specs.Bindings.{found}
use Rattle.ll_unify.specs.Carried.{listed}
use Rattle.ll_unify.proofs.Frames.{weight-pops, weight-known, weight-opens}
use Rattle.ll_unify.proofs.Copies.{copies-extends, copies-add, copy-top, copy-known, copy-opens, copy-closes, copy-own, copy-starts}
use Rattle.ll_unify.proofs.Carrying.{carry-argument, carry-reached, carried-copy}
use Rattle.ll_unify.proofs.carry.carry.Goals as goal

pub returns-in_err-push-clause-keeps : goal.returns-in_err-push-clause-keeps
returns-in_err-push-clause-keeps g c = Extends-refl c.args.other.now

pub loop-frame-init : goal.loop-frame-init
loop-frame-init g c =
    let first = c.args.bank.now in
    let t = g.T.Bindings.table c.args.table.now in
    let whole = sub (found first t) (term_tree first c.args.start.0) in
    record {
      keeps = Extends-refl c.args.other.now;
      known = c.requires.known;
      copied = rw (c.in_ok-push.ensures.items, c.clear-2.ensures.items, c.clear.ensures.items)
          (copy-starts first t whole c.requires.table c.args.other.now c.args.start c.args.start c.requires.start refl);
    }

pub walk-end-requires-clause-place : goal.walk-end-requires-clause-place
walk-end-requires-clause-place g c =
    let first = c.args.bank.now in
    let t = g.T.Bindings.table c.args.table.now in
    let whole = sub (found first t) (term_tree first c.args.start.0) in
    carry-argument first t whole c.requires.table c.loop-frame.other c.loop-frame.made.items c.loop-frame.last c.loop-frame.frames.items c.pop.new.self.items
    c.in-Some.frame c.in-Some-argument.arg c.loop-frame.invariant.copied c.in-Some.ensures.items c.in-Some-argument.ensures.argument

pub loop-frame-smaller-in-Continue-branch-3 : goal.loop-frame-smaller-in-Continue-branch-3
loop-frame-smaller-in-Continue-branch-3 g c =
    let first = c.args.bank.now in
    let t = g.T.Bindings.table c.args.table.now in
    rw (c.in_ok-push-in-Some-argument.ensures.items, c.in-Some.ensures.items)
    (weight-known first (found first t) c.pop.new.self.items c.in-Some.frame (record { at = c.in-Some.frame.at; next = c.in-Some.frame.next + 1 })
    c.in-Some-argument.ensures.argument.among refl refl)

pub loop-frame-preserved-in-Continue-branch-3 : goal.loop-frame-preserved-in-Continue-branch-3
loop-frame-preserved-in-Continue-branch-3 g c =
    let first = c.args.bank.now in
    let t = g.T.Bindings.table c.args.table.now in
    let whole = sub (found first t) (term_tree first c.args.start.0) in
    let reached = carry-reached first t whole c.requires.table c.in-Some.frame c.in-Some-argument.arg c.walk-end.result c.in-Some-argument.ensures.argument
    c.walk-end.ensures.end c.walk-end.ensures.same in
    record {
      keeps = c.loop-frame.invariant.keeps;
      known = c.loop-frame.invariant.known;
      copied = rw (c.in_ok-push-in-Some-argument.ensures.items, c.in_ok-push-in-Some-copy_at.ensures.items)
          (copy-known first t whole c.requires.table c.loop-frame.other c.loop-frame.made.items c.loop-frame.last c.loop-frame.frames.items c.pop.new.self.items
          c.in-Some.frame (record { at = c.in-Some.frame.at; next = c.in-Some.frame.next + 1 }) c.in-Some-argument.arg c.walk-end.result
          c.in-Some-copy_at.copy
          c.loop-frame.invariant.copied c.in-Some.ensures.items reached.argument reached.same
          (c.loop-frame.invariant.known c.walk-end.result.0 c.in-Some-copy_at.copy
          (sym (ap (λ ks. listed ks c.walk-end.result.0) c.deref.ensures.value) ∙ (sym c.copy_at.ensures ∙ c.in-Some-copy_at.is))).shows refl refl);
    }

pub loop-frame-smaller-in-Continue-branch-4 : goal.loop-frame-smaller-in-Continue-branch-4
loop-frame-smaller-in-Continue-branch-4 g c =
    let first = c.args.bank.now in
    let t = g.T.Bindings.table c.args.table.now in
    let whole = sub (found first t) (term_tree first c.args.start.0) in
    let reached = carry-reached first t whole c.requires.table c.in-Some.frame c.in-Some-argument.arg c.walk-end.result c.in-Some-argument.ensures.argument
    c.walk-end.ensures.end c.walk-end.ensures.same in
    rw (c.in_ok-push-in-None-copy_at.ensures.items, c.in_ok-push-in-Some-argument.ensures.items, c.in-Some.ensures.items)
    (weight-opens first (found first t) c.pop.new.self.items c.in-Some.frame (record { at = c.in-Some.frame.at; next = c.in-Some.frame.next + 1 })
    c.walk-end.result reached.argument.among refl refl
    (reached.same ∙ ap (sub (found first t)) (sym reached.argument.is)))

pub loop-frame-preserved-in-Continue-branch-4 : goal.loop-frame-preserved-in-Continue-branch-4
loop-frame-preserved-in-Continue-branch-4 g c =
    let first = c.args.bank.now in
    let t = g.T.Bindings.table c.args.table.now in
    let whole = sub (found first t) (term_tree first c.args.start.0) in
    let reached = carry-reached first t whole c.requires.table c.in-Some.frame c.in-Some-argument.arg c.walk-end.result c.in-Some-argument.ensures.argument
    c.walk-end.ensures.end c.walk-end.ensures.same in
    record {
      keeps = c.loop-frame.invariant.keeps;
      known = c.loop-frame.invariant.known;
      copied = rw (c.in_ok-push-in-None-copy_at.ensures.items, c.in_ok-push-in-Some-argument.ensures.items)
          (copy-opens first t whole c.requires.table c.loop-frame.other c.loop-frame.made.items c.loop-frame.last c.loop-frame.frames.items c.pop.new.self.items
          c.in-Some.frame (record { at = c.in-Some.frame.at; next = c.in-Some.frame.next + 1 }) c.in-Some-argument.arg c.walk-end.result
          c.loop-frame.invariant.copied c.in-Some.ensures.items reached.argument reached.same reached.end refl refl);
    }

pub close-requires-clause-enough : goal.close-requires-clause-enough
close-requires-clause-enough g c =
    let first = c.args.bank.now in
    let t = g.T.Bindings.table c.args.table.now in
    let whole = sub (found first t) (term_tree first c.args.start.0) in
    (copy-own first t whole c.requires.table c.loop-frame.other c.loop-frame.made.items c.loop-frame.last c.loop-frame.frames.items c.pop.new.self.items
    c.in-Some.frame c.loop-frame.invariant.copied c.in-Some.ensures.items c.in-None.ensures.argument).0

pub close-requires-clause-places : goal.close-requires-clause-places
close-requires-clause-places g c =
    let first = c.args.bank.now in
    let t = g.T.Bindings.table c.args.table.now in
    let whole = sub (found first t) (term_tree first c.args.start.0) in
    (copy-own first t whole c.requires.table c.loop-frame.other c.loop-frame.made.items c.loop-frame.last c.loop-frame.frames.items c.pop.new.self.items
    c.in-Some.frame c.loop-frame.invariant.copied c.in-Some.ensures.items c.in-None.ensures.argument).1

pub loop-frame-preserved : goal.loop-frame-preserved
loop-frame-preserved g c =
    let first = c.args.bank.now in
    let t = g.T.Bindings.table c.args.table.now in
    let whole = sub (found first t) (term_tree first c.args.start.0) in
    let top = copy-top first t whole c.requires.table c.loop-frame.other c.loop-frame.made.items c.loop-frame.last c.loop-frame.frames.items
    c.pop.new.self.items c.in-Some.frame c.loop-frame.invariant.copied c.in-Some.ensures.items in
    let made = carried-copy first t whole c.requires.table c.loop-frame.other c.close.new.other c.loop-frame.made.items c.loop-frame.last
    c.in_ok-last-in-None.last c.loop-frame.frames.items c.pop.new.self.items c.in-Some.frame
    c.loop-frame.invariant.copied c.in-Some.ensures.items c.in-None.ensures.argument c.in_ok-last-in-None.ensures.built in
    record {
      keeps = Extends-trans c.loop-frame.invariant.keeps c.in_ok-last-in-None.ensures.keeps;
      known = copies-add first c.close.new.other t (listed c.loop-frame.known.items) (listed c.remember.new.known.items) c.in-Some.frame.at.0
          c.in_ok-last-in-None.last
          (copies-extends first c.loop-frame.other c.close.new.other t (listed c.loop-frame.known.items) c.in_ok-last-in-None.ensures.keeps
          c.loop-frame.invariant.known)
          (record { inside = top.end.place.inside; shows = made }) c.in_ok-remember-in-None.ensures;
      copied = rw c.in_ok-push-in-None.ensures.items
          (copy-closes first t whole c.requires.table c.loop-frame.other c.close.new.other c.loop-frame.made.items _ c.loop-frame.last c.in_ok-last-in-None.last
          c.loop-frame.frames.items c.pop.new.self.items c.in-Some.frame
          c.in_ok-last-in-None.ensures.keeps c.loop-frame.invariant.copied c.in-Some.ensures.items c.in_ok-last-in-None.ensures.made made);
    }

pub argument-requires : goal.argument-requires
argument-requires g c =
    let first = c.args.bank.now in
    let t = g.T.Bindings.table c.args.table.now in
    let whole = sub (found first t) (term_tree first c.args.start.0) in
    let top = copy-top first t whole c.requires.table c.loop-frame.other c.loop-frame.made.items c.loop-frame.last c.loop-frame.frames.items
    c.pop.new.self.items c.in-Some.frame c.loop-frame.invariant.copied c.in-Some.ensures.items in
    top.end.place.inside

pub close-requires-clause-inside : goal.close-requires-clause-inside
close-requires-clause-inside g c =
    let first = c.args.bank.now in
    let t = g.T.Bindings.table c.args.table.now in
    let whole = sub (found first t) (term_tree first c.args.start.0) in
    let top = copy-top first t whole c.requires.table c.loop-frame.other c.loop-frame.made.items c.loop-frame.last c.loop-frame.frames.items
    c.pop.new.self.items c.in-Some.frame c.loop-frame.invariant.copied c.in-Some.ensures.items in
    top.end.place.inside

pub loop-frame-smaller : goal.loop-frame-smaller
loop-frame-smaller g c =
    let first = c.args.bank.now in
    let t = g.T.Bindings.table c.args.table.now in
    rw c.in-Some.ensures.items (weight-pops first (found first t) c.pop.new.self.items c.in-Some.frame)

pub returns-in_err-push-in-Some-argument-clause-keeps : goal.returns-in_err-push-in-Some-argument-clause-keeps
returns-in_err-push-in-Some-argument-clause-keeps g c =
    c.loop-frame.invariant.keeps

pub returns-in_err-push-in-Some-copy_at-clause-keeps : goal.returns-in_err-push-in-Some-copy_at-clause-keeps
returns-in_err-push-in-Some-copy_at-clause-keeps g c =
    c.loop-frame.invariant.keeps

pub returns-in_err-push-in-None-copy_at-clause-keeps : goal.returns-in_err-push-in-None-copy_at-clause-keeps
returns-in_err-push-in-None-copy_at-clause-keeps g c =
    c.loop-frame.invariant.keeps

pub returns-in_err-last-in-None-clause-keeps : goal.returns-in_err-last-in-None-clause-keeps
returns-in_err-last-in-None-clause-keeps g c =
    Extends-trans c.loop-frame.invariant.keeps c.close.ensures.keeps

pub returns-in_err-remember-in-None-clause-keeps : goal.returns-in_err-remember-in-None-clause-keeps
returns-in_err-remember-in-None-clause-keeps g c =
    Extends-trans c.loop-frame.invariant.keeps c.in_ok-last-in-None.ensures.keeps

pub returns-in_err-push-in-None-clause-keeps : goal.returns-in_err-push-in-None-clause-keeps
returns-in_err-push-in-None-clause-keeps g c =
    Extends-trans c.loop-frame.invariant.keeps c.in_ok-last-in-None.ensures.keeps

pub returns-clause-known : goal.returns-clause-known
returns-clause-known g c =
    c.loop-frame.invariant.known

pub returns-clause-keeps : goal.returns-clause-keeps
returns-clause-keeps g c =
    c.loop-frame.invariant.keeps

pub walk-end-requires-clause-table : goal.walk-end-requires-clause-table
walk-end-requires-clause-table g c =
    c.requires.table

pub returns-in_err-push-clause-copy : goal.returns-in_err-push-clause-copy
returns-in_err-push-clause-copy g c = IfOk-from_err c.from_residual.result _ c.from_residual.ensures.0

pub returns-in_err-push-clause-known : goal.returns-in_err-push-clause-known
returns-in_err-push-clause-known g c = IfOk-from_err c.from_residual.result _ c.from_residual.ensures.0

pub returns-in_err-push-in-Some-argument-clause-copy : goal.returns-in_err-push-in-Some-argument-clause-copy
returns-in_err-push-in-Some-argument-clause-copy g c =
    IfOk-from_err c.from_residual-in_err-push-in-Some-argument.result _ c.from_residual-in_err-push-in-Some-argument.ensures.0

pub returns-in_err-push-in-Some-argument-clause-known : goal.returns-in_err-push-in-Some-argument-clause-known
returns-in_err-push-in-Some-argument-clause-known g c =
    IfOk-from_err c.from_residual-in_err-push-in-Some-argument.result _ c.from_residual-in_err-push-in-Some-argument.ensures.0

pub returns-in_err-push-in-Some-copy_at-clause-copy : goal.returns-in_err-push-in-Some-copy_at-clause-copy
returns-in_err-push-in-Some-copy_at-clause-copy g c =
    IfOk-from_err c.from_residual-in_err-push-in-Some-copy_at.result _ c.from_residual-in_err-push-in-Some-copy_at.ensures.0

pub returns-in_err-push-in-Some-copy_at-clause-known : goal.returns-in_err-push-in-Some-copy_at-clause-known
returns-in_err-push-in-Some-copy_at-clause-known g c =
    IfOk-from_err c.from_residual-in_err-push-in-Some-copy_at.result _ c.from_residual-in_err-push-in-Some-copy_at.ensures.0

pub returns-in_err-push-in-None-copy_at-clause-copy : goal.returns-in_err-push-in-None-copy_at-clause-copy
returns-in_err-push-in-None-copy_at-clause-copy g c =
    IfOk-from_err c.from_residual-in_err-push-in-None-copy_at.result _ c.from_residual-in_err-push-in-None-copy_at.ensures.0

pub returns-in_err-push-in-None-copy_at-clause-known : goal.returns-in_err-push-in-None-copy_at-clause-known
returns-in_err-push-in-None-copy_at-clause-known g c =
    IfOk-from_err c.from_residual-in_err-push-in-None-copy_at.result _ c.from_residual-in_err-push-in-None-copy_at.ensures.0

pub returns-in_err-last-in-None-clause-copy : goal.returns-in_err-last-in-None-clause-copy
returns-in_err-last-in-None-clause-copy g c = IfOk-from_err c.from_residual-in_err-last-in-None.result _ c.from_residual-in_err-last-in-None.ensures.0

pub returns-in_err-last-in-None-clause-known : goal.returns-in_err-last-in-None-clause-known
returns-in_err-last-in-None-clause-known g c = IfOk-from_err c.from_residual-in_err-last-in-None.result _ c.from_residual-in_err-last-in-None.ensures.0

pub returns-in_err-remember-in-None-clause-copy : goal.returns-in_err-remember-in-None-clause-copy
returns-in_err-remember-in-None-clause-copy g c =
    IfOk-from_err c.from_residual-in_err-remember-in-None.result _ c.from_residual-in_err-remember-in-None.ensures.0

pub returns-in_err-remember-in-None-clause-known : goal.returns-in_err-remember-in-None-clause-known
returns-in_err-remember-in-None-clause-known g c =
    IfOk-from_err c.from_residual-in_err-remember-in-None.result _ c.from_residual-in_err-remember-in-None.ensures.0

pub returns-in_err-push-in-None-clause-copy : goal.returns-in_err-push-in-None-clause-copy
returns-in_err-push-in-None-clause-copy g c = IfOk-from_err c.from_residual-in_err-push-in-None.result _ c.from_residual-in_err-push-in-None.ensures.0

pub returns-in_err-push-in-None-clause-known : goal.returns-in_err-push-in-None-clause-known
returns-in_err-push-in-None-clause-known g c = IfOk-from_err c.from_residual-in_err-push-in-None.result _ c.from_residual-in_err-push-in-None.ensures.0
