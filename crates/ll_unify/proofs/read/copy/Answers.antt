use Rattle.std.proofs.lemmas.Result.{IfOk-from_err}
use Rattle.std.proofs.Common.{◌+◌, nat_eq, refl, sym, ap, ◌∙◌}
use Rattle.std.specs.HashMap.{get}
use Rattle.std.specs.Option.{option_copied}
use Rattle.ll_bank.specs.Term.{sub}
use Rattle.ll_bank.specs.Nodes.{term_tree}
use Rattle.ll_bank.proofs.CallerLemmas.{Extends-refl, Extends-trans, HasTerm-extends}
use Rattle.ll_unify.specs.Bindings.{found}
use Rattle.ll_unify.proofs.Frames.{weight-pops, weight-known, weight-opens}
use Rattle.ll_unify.proofs.BindingLaws.{table-extends, place-extends}
use Rattle.ll_unify.proofs.Copies.{copies-extends, copies-add, copy-top, copy-argument, copy-reached}
use Rattle.ll_unify.proofs.Copies.{copy-known, copy-opens, copy-closes, copy-own, copy-starts}
use Rattle.ll_unify.proofs.Copies.{built-copy, done-first, IsReached}
use Rattle.ll_unify.proofs.read.copy.Goals as goal
use Rattle.ll_unify.proofs.read.copy.Goals.{After-walk-end}

-- what is reached from the next argument of the frame on top
reached : (g : _) (c : After-walk-end g) → IsReached c.args.bank.now (g.T.Bindings.table c.args.table.now) c.in-Some.frame c.in-Some-argument.arg
    c.walk-end.result
reached g c =
    let first = c.args.bank.now in
    let t = g.T.Bindings.table c.args.table.now in
    copy-reached first t (sub (found first t) (term_tree first c.args.start.0)) c.requires.table c.loop-frame.bank c.loop-frame.made.items c.loop-frame.last
    c.loop-frame.frames.items c.pop.new.self.items c.in-Some.frame c.in-Some-argument.arg c.walk-end.result c.loop-frame.invariant.keeps
    c.loop-frame.invariant.copied c.in-Some.ensures.items c.in-Some-argument.ensures.argument c.walk-end.ensures.end c.walk-end.ensures.same
    c.walk-end.ensures.among

pub returns-in_err-push-clause-keeps : goal.returns-in_err-push-clause-keeps
returns-in_err-push-clause-keeps g c =
    Extends-refl c.args.bank.now

pub loop-frame-init : goal.loop-frame-init
loop-frame-init g c =
    let first = c.args.bank.now in
    let t = g.T.Bindings.table c.args.table.now in
    let whole = sub (found first t) (term_tree first c.args.start.0) in
    record {
      keeps = Extends-refl first;
      known = c.requires.known;
      copied = rw (c.in_ok-push.ensures.items, c.new-frames.ensures.items, c.new-made.ensures.items)
          (copy-starts first t whole c.requires.table first c.args.start c.args.start c.requires.start refl);
    }

pub walk-end-requires-clause-table : goal.walk-end-requires-clause-table
walk-end-requires-clause-table g c =
    table-extends c.args.bank.now c.loop-frame.bank (g.T.Bindings.table c.args.table.now) c.requires.table c.loop-frame.invariant.keeps

pub walk-end-requires-clause-place : goal.walk-end-requires-clause-place
walk-end-requires-clause-place g c =
    let first = c.args.bank.now in
    let t = g.T.Bindings.table c.args.table.now in
    let whole = sub (found first t) (term_tree first c.args.start.0) in
    place-extends first c.loop-frame.bank t c.in-Some-argument.arg.0 c.requires.table c.loop-frame.invariant.keeps
    (copy-argument first t whole c.requires.table c.loop-frame.bank c.loop-frame.made.items c.loop-frame.last c.loop-frame.frames.items c.pop.new.self.items
    c.in-Some.frame c.in-Some-argument.arg c.loop-frame.invariant.keeps c.loop-frame.invariant.copied c.in-Some.ensures.items
    c.in-Some-argument.ensures.argument).1

pub loop-frame-smaller-in-Continue-branch-3 : goal.loop-frame-smaller-in-Continue-branch-3
loop-frame-smaller-in-Continue-branch-3 g c =
    let first = c.args.bank.now in
    let t = g.T.Bindings.table c.args.table.now in
    let to = reached g (goal.at.loop-frame-smaller-in-Continue-branch-3 g c).After-walk-end in
    rw (c.in_ok-push-in-Some-argument.ensures.items, c.in-Some.ensures.items)
    (weight-known first (found first t) c.pop.new.self.items c.in-Some.frame (record { at = c.in-Some.frame.at; next = c.in-Some.frame.next + 1 })
    to.argument.among refl refl)

pub loop-frame-preserved-in-Continue-branch-3 : goal.loop-frame-preserved-in-Continue-branch-3
loop-frame-preserved-in-Continue-branch-3 g c =
    let first = c.args.bank.now in
    let t = g.T.Bindings.table c.args.table.now in
    let whole = sub (found first t) (term_tree first c.args.start.0) in
    let to = reached g (goal.at.loop-frame-preserved-in-Continue-branch-3 g c).After-walk-end in
    record {
      keeps = c.loop-frame.invariant.keeps;
      known = c.loop-frame.invariant.known;
      copied = rw (c.in_ok-push-in-Some-argument.ensures.items, c.in_ok-push-in-Some-get.ensures.items)
          (copy-known first t whole c.requires.table c.loop-frame.bank c.loop-frame.made.items c.loop-frame.last c.loop-frame.frames.items c.pop.new.self.items
          c.in-Some.frame (record { at = c.in-Some.frame.at; next = c.in-Some.frame.next + 1 }) c.in-Some-argument.arg c.walk-end.result
          c.in-Some-get.copy.now
          c.loop-frame.invariant.copied c.in-Some.ensures.items to.argument to.same
          (c.loop-frame.invariant.known c.walk-end.result.0 c.in-Some-get.copy.now (sym c.get.ensures.value ∙ ap option_copied c.in-Some-get.is)).shows refl
          refl);
    }

pub loop-frame-smaller-in-Continue-branch-4 : goal.loop-frame-smaller-in-Continue-branch-4
loop-frame-smaller-in-Continue-branch-4 g c =
    let first = c.args.bank.now in
    let t = g.T.Bindings.table c.args.table.now in
    let to = reached g (goal.at.loop-frame-smaller-in-Continue-branch-4 g c).After-walk-end in
    rw (c.in_ok-push-in-None-get.ensures.items, c.in_ok-push-in-Some-argument.ensures.items, c.in-Some.ensures.items)
    (weight-opens first (found first t) c.pop.new.self.items c.in-Some.frame (record { at = c.in-Some.frame.at; next = c.in-Some.frame.next + 1 })
    c.walk-end.result to.argument.among refl refl
    (to.same ∙ ap (sub (found first t)) (sym to.argument.is)))

pub loop-frame-preserved-in-Continue-branch-4 : goal.loop-frame-preserved-in-Continue-branch-4
loop-frame-preserved-in-Continue-branch-4 g c =
    let first = c.args.bank.now in
    let t = g.T.Bindings.table c.args.table.now in
    let whole = sub (found first t) (term_tree first c.args.start.0) in
    let to = reached g (goal.at.loop-frame-preserved-in-Continue-branch-4 g c).After-walk-end in
    record {
      keeps = c.loop-frame.invariant.keeps;
      known = c.loop-frame.invariant.known;
      copied = rw (c.in_ok-push-in-None-get.ensures.items, c.in_ok-push-in-Some-argument.ensures.items)
          (copy-opens first t whole c.requires.table c.loop-frame.bank c.loop-frame.made.items c.loop-frame.last c.loop-frame.frames.items c.pop.new.self.items
          c.in-Some.frame (record { at = c.in-Some.frame.at; next = c.in-Some.frame.next + 1 }) c.in-Some-argument.arg c.walk-end.result
          c.loop-frame.invariant.copied c.in-Some.ensures.items to.argument to.same to.end refl refl);
    }

pub build-requires-clause-enough : goal.build-requires-clause-enough
build-requires-clause-enough g c =
    let first = c.args.bank.now in
    let t = g.T.Bindings.table c.args.table.now in
    let whole = sub (found first t) (term_tree first c.args.start.0) in
    let done = done-first first t whole c.requires.table c.loop-frame.bank c.loop-frame.made.items c.loop-frame.last c.loop-frame.frames.items
    c.pop.new.self.items c.in-Some.frame c.loop-frame.invariant.keeps c.loop-frame.invariant.copied c.in-Some.ensures.items c.in-None.ensures.argument in
    (copy-own first t whole c.requires.table c.loop-frame.bank c.loop-frame.made.items c.loop-frame.last c.loop-frame.frames.items c.pop.new.self.items
    c.in-Some.frame c.loop-frame.invariant.copied c.in-Some.ensures.items done).0

pub build-requires-clause-places : goal.build-requires-clause-places
build-requires-clause-places g c =
    let first = c.args.bank.now in
    let t = g.T.Bindings.table c.args.table.now in
    let whole = sub (found first t) (term_tree first c.args.start.0) in
    let done = done-first first t whole c.requires.table c.loop-frame.bank c.loop-frame.made.items c.loop-frame.last c.loop-frame.frames.items
    c.pop.new.self.items c.in-Some.frame c.loop-frame.invariant.keeps c.loop-frame.invariant.copied c.in-Some.ensures.items c.in-None.ensures.argument in
    (copy-own first t whole c.requires.table c.loop-frame.bank c.loop-frame.made.items c.loop-frame.last c.loop-frame.frames.items c.pop.new.self.items
    c.in-Some.frame c.loop-frame.invariant.copied c.in-Some.ensures.items done).1

pub loop-frame-preserved : goal.loop-frame-preserved
loop-frame-preserved g c =
    let first = c.args.bank.now in
    let t = g.T.Bindings.table c.args.table.now in
    let whole = sub (found first t) (term_tree first c.args.start.0) in
    let top = copy-top first t whole c.requires.table c.loop-frame.bank c.loop-frame.made.items c.loop-frame.last c.loop-frame.frames.items c.pop.new.self.items
    c.in-Some.frame c.loop-frame.invariant.copied c.in-Some.ensures.items in
    let made = built-copy first t whole c.requires.table c.loop-frame.bank c.build.new.bank c.loop-frame.made.items c.loop-frame.last c.in_ok-last-in-None.last
    c.loop-frame.frames.items c.pop.new.self.items c.in-Some.frame
    c.loop-frame.invariant.keeps c.loop-frame.invariant.copied c.in-Some.ensures.items c.in-None.ensures.argument c.in_ok-last-in-None.ensures.built in
    record {
      keeps = Extends-trans c.loop-frame.invariant.keeps c.in_ok-last-in-None.ensures.keeps;
      known = copies-add first c.build.new.bank t (get nat_eq c.loop-frame.known) (get nat_eq c.remember.new.known) c.in-Some.frame.at.0
          c.in_ok-last-in-None.last
          (copies-extends first c.loop-frame.bank c.build.new.bank t (get nat_eq c.loop-frame.known) c.in_ok-last-in-None.ensures.keeps
          c.loop-frame.invariant.known)
          (record { inside = top.end.place.inside; shows = made }) c.in_ok-remember-in-None.ensures;
      copied = rw c.in_ok-push-in-None.ensures.items
          (copy-closes first t whole c.requires.table c.loop-frame.bank c.build.new.bank c.loop-frame.made.items _ c.loop-frame.last c.in_ok-last-in-None.last
          c.loop-frame.frames.items c.pop.new.self.items c.in-Some.frame
          c.in_ok-last-in-None.ensures.keeps c.loop-frame.invariant.copied c.in-Some.ensures.items c.in_ok-last-in-None.ensures.made made);
    }

pub argument-requires : goal.argument-requires
argument-requires g c =
    let first = c.args.bank.now in
    let t = g.T.Bindings.table c.args.table.now in
    let whole = sub (found first t) (term_tree first c.args.start.0) in
    let top = copy-top first t whole c.requires.table c.loop-frame.bank c.loop-frame.made.items c.loop-frame.last c.loop-frame.frames.items
    c.pop.new.self.items c.in-Some.frame c.loop-frame.invariant.copied c.in-Some.ensures.items in
    HasTerm-extends c.loop-frame.invariant.keeps c.in-Some.frame.at.0 top.end.place.inside

pub build-requires-clause-inside : goal.build-requires-clause-inside
build-requires-clause-inside g c =
    let first = c.args.bank.now in
    let t = g.T.Bindings.table c.args.table.now in
    let whole = sub (found first t) (term_tree first c.args.start.0) in
    let top = copy-top first t whole c.requires.table c.loop-frame.bank c.loop-frame.made.items c.loop-frame.last c.loop-frame.frames.items
    c.pop.new.self.items c.in-Some.frame c.loop-frame.invariant.copied c.in-Some.ensures.items in
    HasTerm-extends c.loop-frame.invariant.keeps c.in-Some.frame.at.0 top.end.place.inside

pub loop-frame-smaller : goal.loop-frame-smaller
loop-frame-smaller g c =
    let first = c.args.bank.now in
    let t = g.T.Bindings.table c.args.table.now in
    rw c.in-Some.ensures.items (weight-pops first (found first t) c.pop.new.self.items c.in-Some.frame)

pub returns-in_err-push-in-Some-argument-clause-keeps : goal.returns-in_err-push-in-Some-argument-clause-keeps
returns-in_err-push-in-Some-argument-clause-keeps g c =
    c.loop-frame.invariant.keeps

pub returns-in_err-push-in-Some-get-clause-keeps : goal.returns-in_err-push-in-Some-get-clause-keeps
returns-in_err-push-in-Some-get-clause-keeps g c =
    c.loop-frame.invariant.keeps

pub returns-in_err-push-in-None-get-clause-keeps : goal.returns-in_err-push-in-None-get-clause-keeps
returns-in_err-push-in-None-get-clause-keeps g c =
    c.loop-frame.invariant.keeps

pub returns-in_err-last-in-None-clause-keeps : goal.returns-in_err-last-in-None-clause-keeps
returns-in_err-last-in-None-clause-keeps g c =
    Extends-trans c.loop-frame.invariant.keeps c.build.ensures.keeps

pub returns-in_err-remember-in-None-clause-keeps : goal.returns-in_err-remember-in-None-clause-keeps
returns-in_err-remember-in-None-clause-keeps g c =
    Extends-trans c.loop-frame.invariant.keeps c.in_ok-last-in-None.ensures.keeps

pub returns-in_err-push-in-None-clause-keeps : goal.returns-in_err-push-in-None-clause-keeps
returns-in_err-push-in-None-clause-keeps g c =
    Extends-trans c.loop-frame.invariant.keeps c.in_ok-last-in-None.ensures.keeps

pub returns-clause-known : goal.returns-clause-known
returns-clause-known g c =
    c.loop-frame.invariant.known

pub returns-clause-keeps : goal.returns-clause-keeps
returns-clause-keeps g c =
    c.loop-frame.invariant.keeps

pub returns-in_err-push-clause-copy : goal.returns-in_err-push-clause-copy
returns-in_err-push-clause-copy g c = IfOk-from_err c.from_residual.result _ c.from_residual.ensures.0

pub returns-in_err-push-clause-known : goal.returns-in_err-push-clause-known
returns-in_err-push-clause-known g c = IfOk-from_err c.from_residual.result _ c.from_residual.ensures.0

pub returns-in_err-push-in-Some-argument-clause-copy : goal.returns-in_err-push-in-Some-argument-clause-copy
returns-in_err-push-in-Some-argument-clause-copy g c =
    IfOk-from_err c.from_residual-in_err-push-in-Some-argument.result _ c.from_residual-in_err-push-in-Some-argument.ensures.0

pub returns-in_err-push-in-Some-argument-clause-known : goal.returns-in_err-push-in-Some-argument-clause-known
returns-in_err-push-in-Some-argument-clause-known g c =
    IfOk-from_err c.from_residual-in_err-push-in-Some-argument.result _ c.from_residual-in_err-push-in-Some-argument.ensures.0

pub returns-in_err-push-in-Some-get-clause-copy : goal.returns-in_err-push-in-Some-get-clause-copy
returns-in_err-push-in-Some-get-clause-copy g c =
    IfOk-from_err c.from_residual-in_err-push-in-Some-get.result _ c.from_residual-in_err-push-in-Some-get.ensures.0

pub returns-in_err-push-in-Some-get-clause-known : goal.returns-in_err-push-in-Some-get-clause-known
returns-in_err-push-in-Some-get-clause-known g c =
    IfOk-from_err c.from_residual-in_err-push-in-Some-get.result _ c.from_residual-in_err-push-in-Some-get.ensures.0

pub returns-in_err-push-in-None-get-clause-copy : goal.returns-in_err-push-in-None-get-clause-copy
returns-in_err-push-in-None-get-clause-copy g c =
    IfOk-from_err c.from_residual-in_err-push-in-None-get.result _ c.from_residual-in_err-push-in-None-get.ensures.0

pub returns-in_err-push-in-None-get-clause-known : goal.returns-in_err-push-in-None-get-clause-known
returns-in_err-push-in-None-get-clause-known g c =
    IfOk-from_err c.from_residual-in_err-push-in-None-get.result _ c.from_residual-in_err-push-in-None-get.ensures.0

pub returns-in_err-last-in-None-clause-copy : goal.returns-in_err-last-in-None-clause-copy
returns-in_err-last-in-None-clause-copy g c = IfOk-from_err c.from_residual-in_err-last-in-None.result _ c.from_residual-in_err-last-in-None.ensures.0

pub returns-in_err-last-in-None-clause-known : goal.returns-in_err-last-in-None-clause-known
returns-in_err-last-in-None-clause-known g c = IfOk-from_err c.from_residual-in_err-last-in-None.result _ c.from_residual-in_err-last-in-None.ensures.0

pub returns-in_err-remember-in-None-clause-copy : goal.returns-in_err-remember-in-None-clause-copy
returns-in_err-remember-in-None-clause-copy g c =
    IfOk-from_err c.from_residual-in_err-remember-in-None.result _ c.from_residual-in_err-remember-in-None.ensures.0

pub returns-in_err-remember-in-None-clause-known : goal.returns-in_err-remember-in-None-clause-known
returns-in_err-remember-in-None-clause-known g c =
    IfOk-from_err c.from_residual-in_err-remember-in-None.result _ c.from_residual-in_err-remember-in-None.ensures.0

pub returns-in_err-push-in-None-clause-copy : goal.returns-in_err-push-in-None-clause-copy
returns-in_err-push-in-None-clause-copy g c = IfOk-from_err c.from_residual-in_err-push-in-None.result _ c.from_residual-in_err-push-in-None.ensures.0

pub returns-in_err-push-in-None-clause-known : goal.returns-in_err-push-in-None-clause-known
returns-in_err-push-in-None-clause-known g c = IfOk-from_err c.from_residual-in_err-push-in-None.result _ c.from_residual-in_err-push-in-None.ensures.0
