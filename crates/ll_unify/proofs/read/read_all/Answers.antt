use Rattle.std.proofs.Common.{◌≡◌, get_or, refl, subst, ◌+◌, arith, map}
use Rattle.std.proofs.lemmas.List.{take_all}
use Rattle.std.proofs.lemmas.Result.{IfOk-from_err}
use Rattle.ll_bank.specs.declared.At.{At}
use Rattle.ll_bank.specs.Term.{sub}
use Rattle.ll_bank.specs.Nodes.{term_trees}
use Rattle.ll_bank.proofs.CallerLemmas.{Extends-refl, Extends-trans}
use Rattle.ll_unify.specs.Bindings.{found}
use Rattle.ll_unify.proofs.BindingLaws.{table-extends, place-extends}
use Rattle.ll_unify.proofs.Copies.{copies-rebase, read-none, read-more}
use Rattle.ll_unify.proofs.read.read_all.Goals as goal

pub loop-place-init : goal.loop-place-init
loop-place-init g c = record {
  keeps = Extends-refl c.args.bank.now;
  known = λ at copy k. let q = rw c.new-known.ensures.empty at k in cc;
  read = rw c.new-made.ensures.items (read-none c.args.bank.now c.args.bank.now (g.T.Bindings.table c.args.table.now));
}

pub copy_of-requires-clause-table : goal.copy_of-requires-clause-table
copy_of-requires-clause-table g c = table-extends c.args.bank.now c.loop-place.bank (g.T.Bindings.table c.args.table.now) c.requires.table
    c.loop-place.invariant.keeps

pub copy_of-requires-clause-known : goal.copy_of-requires-clause-known
copy_of-requires-clause-known g c = c.loop-place.invariant.known

pub copy_of-requires-clause-at : goal.copy_of-requires-clause-at
copy_of-requires-clause-at g c =
    let none : At = record { 0 = 0 } in
    place-extends c.args.bank.now c.loop-place.bank (g.T.Bindings.table c.args.table.now) (get_or c.args.places.now c.loop-place.place-index none).0
    c.requires.table c.loop-place.invariant.keeps (c.requires.places c.loop-place.place-index none c.loop-place-test.true)

pub loop-place-preserved : goal.loop-place-preserved
loop-place-preserved g c =
    let first = c.args.bank.now in
    let t = g.T.Bindings.table c.args.table.now in
    let none : At = record { 0 = 0 } in
    record {
      keeps = Extends-trans c.loop-place.invariant.keeps c.in_ok-copy.ensures.keeps;
      known = copies-rebase c.loop-place.bank c.copy_of.new.bank c.copy_of.new.bank t _
          (table-extends first c.loop-place.bank t c.requires.table c.loop-place.invariant.keeps) c.in_ok-copy.ensures.keeps c.in_ok-copy.ensures.known;
      read = rw c.in_ok-push.ensures.items
          (read-more first c.loop-place.bank c.copy_of.new.bank t c.loop-place.place-index (c.loop-place.place-index + 1) c.args.places.now
          c.loop-place.made.items none
          (get_or c.args.places.now c.loop-place.place-index none) c.in_ok-copy.copy c.requires.table c.loop-place.invariant.keeps c.in_ok-copy.ensures.keeps
          c.loop-place-test.true refl refl
          (c.requires.places c.loop-place.place-index none c.loop-place-test.true).inside c.loop-place.invariant.read c.in_ok-copy.ensures.copy);
    }

pub returns-in_err-copy-clause-inside : goal.returns-in_err-copy-clause-inside
returns-in_err-copy-clause-inside g c = IfOk-from_err c.from_residual.result _ c.from_residual.ensures.0

pub returns-in_err-copy-clause-shows : goal.returns-in_err-copy-clause-shows
returns-in_err-copy-clause-shows g c = IfOk-from_err c.from_residual.result _ c.from_residual.ensures.0

pub returns-in_err-copy-clause-keeps : goal.returns-in_err-copy-clause-keeps
returns-in_err-copy-clause-keeps g c = Extends-trans c.loop-place.invariant.keeps c.copy_of.ensures.keeps

pub returns-in_err-push-clause-inside : goal.returns-in_err-push-clause-inside
returns-in_err-push-clause-inside g c = IfOk-from_err c.from_residual-in_err-push.result _ c.from_residual-in_err-push.ensures.0

pub returns-in_err-push-clause-shows : goal.returns-in_err-push-clause-shows
returns-in_err-push-clause-shows g c = IfOk-from_err c.from_residual-in_err-push.result _ c.from_residual-in_err-push.ensures.0

pub returns-in_err-push-clause-keeps : goal.returns-in_err-push-clause-keeps
returns-in_err-push-clause-keeps g c = Extends-trans c.loop-place.invariant.keeps c.copy_of.ensures.keeps

pub returns-clause-inside : goal.returns-clause-inside
returns-clause-inside g c = c.loop-place.invariant.read.inside

pub returns-clause-shows : goal.returns-clause-shows
returns-clause-shows g c =
    let first = c.args.bank.now in
    let t = g.T.Bindings.table c.args.table.now in
    subst (λ places. term_trees c.loop-place.bank c.loop-place.made.items ≡ map (sub (found first t)) (term_trees first places))
    (take_all c.loop-place.place-index c.args.places.now (omega arith)) c.loop-place.invariant.read.shows

pub returns-clause-keeps : goal.returns-clause-keeps
returns-clause-keeps g c = c.loop-place.invariant.keeps
