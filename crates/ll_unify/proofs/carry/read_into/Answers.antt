use Rattle.std.proofs.lemmas.Result.{IfOk-from_err}
use Rattle.std.proofs.Common.{get_or, map, refl, ap, ◌∙◌, ◌+◌}
use Rattle.ll_list_laws.proofs.CallerLemmas.{fewer_left}
use Rattle.ll_bank.specs.declared.At.{At}
use Rattle.ll_bank.proofs.CallerLemmas.{Extends-refl, Extends-trans}
use Rattle.ll_unify.proofs.Copies.{read-none, carried-more}
use Rattle.std.proofs.lemmas.List.{take_all}
use Rattle.ll_bank.specs.Term.{sub}
use Rattle.ll_bank.specs.Nodes.{term_trees}
use Rattle.ll_unify.specs.Bindings.{found}
use Rattle.ll_unify.proofs.carry.read_into.Goals as goal

pub returns-in_err-copies-clause-keeps : goal.returns-in_err-copies-clause-keeps
returns-in_err-copies-clause-keeps g c = Extends-refl c.args.other.now

pub loop-place-init : goal.loop-place-init
loop-place-init g c = record {
  keeps = Extends-refl c.args.other.now;
  known = λ at copy k. let q = rw c.clear.ensures.items at k in cc;
  read = rw c.in_ok-copies.ensures.items (read-none c.args.bank.now c.args.other.now (g.T.Bindings.table c.args.table.now));
}

pub loop-place-preserved : goal.loop-place-preserved
loop-place-preserved g c =
    let first = c.args.bank.now in
    let t = g.T.Bindings.table c.args.table.now in
    let none : At = record { 0 = 0 } in
    record {
      keeps = Extends-trans c.loop-place.invariant.keeps c.in_ok-copy.ensures.keeps;
      known = c.in_ok-copy.ensures.known;
      read = rw c.in_ok-push.ensures.items
          (carried-more first c.loop-place.other c.carry_one.new.other t c.loop-place.place-index (c.loop-place.place-index + 1) c.args.places.now
          c.loop-place.copies.items none
          (get_or c.args.places.now c.loop-place.place-index none) c.in_ok-copy.copy c.in_ok-copy.ensures.keeps c.loop-place-test.true refl refl
          c.loop-place.invariant.read c.in_ok-copy.ensures.copy);
    }

pub returns-in_err-copy-clause-keeps : goal.returns-in_err-copy-clause-keeps
returns-in_err-copy-clause-keeps g c = Extends-trans c.loop-place.invariant.keeps c.carry_one.ensures.keeps

pub returns-in_err-push-clause-keeps : goal.returns-in_err-push-clause-keeps
returns-in_err-push-clause-keeps g c = Extends-trans c.loop-place.invariant.keeps c.carry_one.ensures.keeps

pub returns-in_err-copies-clause-inside : goal.returns-in_err-copies-clause-inside
returns-in_err-copies-clause-inside g c = IfOk-from_err c.from_residual.result _ c.from_residual.ensures.0

pub returns-in_err-copies-clause-shows : goal.returns-in_err-copies-clause-shows
returns-in_err-copies-clause-shows g c = IfOk-from_err c.from_residual.result _ c.from_residual.ensures.0

pub returns-in_err-copy-clause-inside : goal.returns-in_err-copy-clause-inside
returns-in_err-copy-clause-inside g c = IfOk-from_err c.from_residual-in_err-copy.result _ c.from_residual-in_err-copy.ensures.0

pub returns-in_err-copy-clause-shows : goal.returns-in_err-copy-clause-shows
returns-in_err-copy-clause-shows g c = IfOk-from_err c.from_residual-in_err-copy.result _ c.from_residual-in_err-copy.ensures.0

pub returns-in_err-push-clause-inside : goal.returns-in_err-push-clause-inside
returns-in_err-push-clause-inside g c = IfOk-from_err c.from_residual-in_err-push.result _ c.from_residual-in_err-push.ensures.0

pub returns-in_err-push-clause-shows : goal.returns-in_err-push-clause-shows
returns-in_err-push-clause-shows g c = IfOk-from_err c.from_residual-in_err-push.result _ c.from_residual-in_err-push.ensures.0

pub carry_one-requires-clause-table : goal.carry_one-requires-clause-table
carry_one-requires-clause-table g c = c.requires.table

pub carry_one-requires-clause-known : goal.carry_one-requires-clause-known
carry_one-requires-clause-known g c = c.loop-place.invariant.known

pub carry_one-requires-clause-at : goal.carry_one-requires-clause-at
carry_one-requires-clause-at g c = c.requires.places c.loop-place.place-index (record { 0 = 0 }) c.loop-place-test.true

pub loop-place-smaller : goal.loop-place-smaller
loop-place-smaller g c = fewer_left _ _ c.loop-place-test.true

pub returns-clause-inside : goal.returns-clause-inside
returns-clause-inside g c = c.loop-place.invariant.read.inside

pub returns-clause-shows : goal.returns-clause-shows
returns-clause-shows g c =
    c.loop-place.invariant.read.shows
    ∙ ap (λ xs. map (sub (found c.args.bank.now (g.T.Bindings.table c.args.table.now))) (term_trees c.args.bank.now xs))
    (take_all c.loop-place.place-index c.args.places.now c.loop-place-test.false)

pub returns-clause-keeps : goal.returns-clause-keeps
returns-clause-keeps g c = c.loop-place.invariant.keeps
