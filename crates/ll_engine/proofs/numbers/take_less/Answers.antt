use Rattle.std.proofs.lemmas.Result.{IfOk-from_err}
use Rattle.std.proofs.Common.{rules, ◌≡◌, true, false, refl, ap, ◌∙◌}
use Rattle.std.specs.Prelude.{int_lt}
use Rattle.ll_laws.specs.Problem.{ProblemTree}
use Rattle.ll_agenda.specs.Frames.{items_at}
use Rattle.ll_store.specs.Tables.{table_of}
use Rattle.ll_freeze.specs.declared.machine.Machine.{Machine}
use Rattle.ll_freeze.specs.Parts.{Parts, parts_of}
use Rattle.ll_freeze.proofs.CallerLemmas.{later_then}
use Rattle.ll_engine.specs.Numbers.{tested}
use Rattle.ll_engine.proofs.machine.ReadLemmas.{fits_table}
use Rattle.ll_engine.proofs.machine.Keeping.{store_extends, later_store}
use Rattle.ll_engine.proofs.inferences.NumberLemmas.{goes_same, test_is, less_fails, less_holds, less_left, less_right}
use Rattle.ll_engine.proofs.numbers.take_less.Goals as goal

pub values_under-requires-clause-table : goal.values_under-requires-clause-table
values_under-requires-clause-table c = fits_table (parts_of c.args.machine.now) c.requires.fits

pub values_under-requires-clause-left : goal.values_under-requires-clause-left
values_under-requires-clause-left c = less_left (parts_of c.args.machine.now) c.args.left c.args.right c.args.rest c.requires.fits c.requires.front

pub values_under-requires-clause-right : goal.values_under-requires-clause-right
values_under-requires-clause-right c = less_right (parts_of c.args.machine.now) c.args.left c.args.right c.args.rest c.requires.fits c.requires.front

pub returns-in_default-clause-attempts : goal.returns-in_default-clause-attempts
returns-in_default-clause-attempts c candidate =
    let m = parts_of c.args.machine.now in
    less_fails m c.args.left c.args.right c.args.rest c.requires.fits candidate c.requires.front
    (test_is m c.args.left c.args.right int_lt c.in_ok-values.field-0 c.problem.inside.names false
    (ap (λ (p : ProblemTree). p.names) c.problem.view_is) (c.in_ok-values.ensures.values int_lt) (ap (tested int_lt) c.in_default.is))

pub returns-in_default-clause-later : goal.returns-in_default-clause-later
returns-in_default-clause-later c =
    let m = c.args.machine.now in
    later_store m _ refl refl (store_extends m.store c.values_under.new.store c.values_under.ensures.keeps c.values_under.ensures.cells) refl refl refl refl

pub returns-then-values-clause-attempts : goal.returns-then-values-clause-attempts
returns-then-values-clause-attempts c candidate =
    let m = parts_of c.args.machine.now in let new = parts_of c.go_on.new.machine in
    let mid : Machine = record (c.args.machine.now) { store = c.values_under.new.store } in
    let go = c.in_ok-go_on.ensures.goes in
    let e : int_lt c.in-Some.values.left c.in-Some.values.right ≡ true = search rules in
    let cells = ap (λ x. table_of x.cells) c.values_under.ensures.cells in
    less_holds m c.args.left c.args.right c.args.rest c.requires.fits new candidate c.requires.front
    (test_is m c.args.left c.args.right int_lt c.in_ok-values.field-0 c.problem.inside.names true
    (ap (λ (p : ProblemTree). p.names) c.problem.view_is) (c.in_ok-values.ensures.values int_lt) (ap (tested int_lt) c.in-Some.is ∙ e))
    (goes_same m (parts_of mid) new (items_at m.agenda c.args.rest) c.requires.fits refl refl refl c.values_under.ensures.keeps cells refl refl refl refl go)
    (ap (λ (x : Parts). x.bound) go.same ∙ ap (λ t. t.bound) cells) (ap (λ (x : Parts). x.levels) go.same ∙ ap (λ t. t.levels) cells)

pub returns-then-values-clause-later : goal.returns-then-values-clause-later
returns-then-values-clause-later c =
    let m = c.args.machine.now in let mid : Machine = record m { store = c.values_under.new.store } in
    later_then m mid c.go_on.new.machine
    (later_store m mid refl refl (store_extends m.store c.values_under.new.store c.values_under.ensures.keeps c.values_under.ensures.cells) refl refl refl refl)
    c.in_ok-go_on.ensures.later

pub returns-clause-attempts : goal.returns-clause-attempts
returns-clause-attempts c candidate =
    let m = parts_of c.args.machine.now in
    let e : int_lt c.in-Some.values.left c.in-Some.values.right ≡ false = search rules in
    less_fails m c.args.left c.args.right c.args.rest c.requires.fits candidate c.requires.front
    (test_is m c.args.left c.args.right int_lt c.in_ok-values.field-0 c.problem.inside.names false
    (ap (λ (p : ProblemTree). p.names) c.problem.view_is) (c.in_ok-values.ensures.values int_lt) (ap (tested int_lt) c.in-Some.is ∙ e))

pub returns-clause-later : goal.returns-clause-later
returns-clause-later c =
    let m = c.args.machine.now in
    later_store m _ refl refl (store_extends m.store c.values_under.new.store c.values_under.ensures.keeps c.values_under.ensures.cells) refl refl refl refl

pub returns-in_err-values-clause-later : goal.returns-in_err-values-clause-later
returns-in_err-values-clause-later c = IfOk-from_err c.from_residual.result _ c.from_residual.ensures.0

pub returns-in_err-go_on-clause-later : goal.returns-in_err-go_on-clause-later
returns-in_err-go_on-clause-later c = IfOk-from_err c.from_residual-in_err-go_on.result _ c.from_residual-in_err-go_on.ensures.0
