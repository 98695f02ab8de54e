use Rattle.std.proofs.Common.{rules, w64, FitsSigned, refl, ap, sym, subst, ◌∙◌}
use Rattle.std.proofs.lemmas.Int.{to_z-of_z}
use Rattle.std.specs.Prelude.{All}
use Rattle.ll_bank.specs.Nodes.{Nodes, Extends}
use Rattle.ll_bank.proofs.CallerLemmas.{Extends-trans}
use Rattle.ll_laws.specs.Problem.{ProblemTree}
use Rattle.ll_agenda.specs.Frames.{items_at}
use Rattle.ll_unify.specs.Bindings.{IsOrdered}
use Rattle.ll_store.specs.Tables.{table_of}
use Rattle.ll_freeze.specs.declared.machine.Machine.{Machine}
use Rattle.ll_freeze.specs.Parts.{Parts, parts_of}
use Rattle.ll_freeze.specs.Reading.{HasValue}
use Rattle.ll_freeze.proofs.CallerLemmas.{later_then, store_then}
use Rattle.ll_engine.proofs.machine.ReadLemmas.{fits_table}
use Rattle.ll_engine.proofs.machine.Keeping.{store_extends, later_store}
use Rattle.ll_engine.proofs.inferences.NumberLemmas.{goes, value_is, no_value, Finds, expression_place, start_table, target_is_place, value_is_place, clash}
use Rattle.ll_engine.proofs.inferences.NumberLemmas.{equal}
use Rattle.ll_engine.proofs.numbers.take_is.Goals as goal

pub value_under-requires-clause-table : goal.value_under-requires-clause-table
value_under-requires-clause-table c = fits_table (parts_of c.args.machine.now) c.requires.fits

pub value_under-requires-clause-place : goal.value_under-requires-clause-place
value_under-requires-clause-place c = expression_place (parts_of c.args.machine.now) c.args.target c.args.expression c.args.rest c.requires.fits
    c.requires.front

pub returns-in_default-clause-attempts : goal.returns-in_default-clause-attempts
returns-in_default-clause-attempts c candidate = no_value (parts_of c.args.machine.now) c.args.target c.args.expression c.args.rest c.requires.fits
    c.requires.front candidate ((value_is (parts_of c.args.machine.now) c.args.target c.args.expression c.args.rest c.requires.fits c.requires.front
    c.in_ok-number.field-0 c.problem.inside.names (ap (λ (p : ProblemTree). p.names) c.problem.view_is) c.in_ok-number.ensures.value) ∙ c.in_default.is)

pub returns-in_default-clause-later : goal.returns-in_default-clause-later
returns-in_default-clause-later c =
    let m = c.args.machine.now in
    later_store m _ refl refl (store_extends m.store c.value_under.new.store c.value_under.ensures.keeps c.value_under.ensures.cells) refl refl refl refl

pub unify_under-requires-clause-table : goal.unify_under-requires-clause-table
unify_under-requires-clause-table c = let f : FitsSigned w64 c.in-Some.number = search rules in
    let shows = rw (to_z-of_z w64 c.in-Some.number f) at c.in_ok-place.ensures.shows in
    start_table (parts_of c.args.machine.now) c.args.target c.args.expression c.args.rest c.requires.fits c.requires.front c.in-Some.number
    ((value_is (parts_of c.args.machine.now) c.args.target c.args.expression c.args.rest c.requires.fits c.requires.front c.in_ok-number.field-0
    c.problem.inside.names (ap (λ (p : ProblemTree). p.names) c.problem.view_is) c.in_ok-number.ensures.value) ∙ c.in-Some.is) c.int.new.self
    (Extends-trans c.value_under.ensures.keeps c.in_ok-place.ensures.keeps) c.in_ok-place.place shows (table_of c.value_under.new.store.cells.cells)
    (ap (λ x. table_of x.cells) c.value_under.ensures.cells)

pub unify_under-requires-clause-left : goal.unify_under-requires-clause-left
unify_under-requires-clause-left c = let f : FitsSigned w64 c.in-Some.number = search rules in
    let shows = rw (to_z-of_z w64 c.in-Some.number f) at c.in_ok-place.ensures.shows in
    target_is_place (parts_of c.args.machine.now) c.args.target c.args.expression c.args.rest c.requires.fits c.requires.front c.in-Some.number
    ((value_is (parts_of c.args.machine.now) c.args.target c.args.expression c.args.rest c.requires.fits c.requires.front c.in_ok-number.field-0
    c.problem.inside.names (ap (λ (p : ProblemTree). p.names) c.problem.view_is) c.in_ok-number.ensures.value) ∙ c.in-Some.is) c.int.new.self
    (Extends-trans c.value_under.ensures.keeps c.in_ok-place.ensures.keeps) c.in_ok-place.place shows (table_of c.value_under.new.store.cells.cells)
    (ap (λ x. table_of x.cells) c.value_under.ensures.cells)

pub unify_under-requires-clause-right : goal.unify_under-requires-clause-right
unify_under-requires-clause-right c = let f : FitsSigned w64 c.in-Some.number = search rules in
    let shows = rw (to_z-of_z w64 c.in-Some.number f) at c.in_ok-place.ensures.shows in
    value_is_place (parts_of c.args.machine.now) c.args.target c.args.expression c.args.rest c.requires.fits c.requires.front c.in-Some.number
    ((value_is (parts_of c.args.machine.now) c.args.target c.args.expression c.args.rest c.requires.fits c.requires.front c.in_ok-number.field-0
    c.problem.inside.names (ap (λ (p : ProblemTree). p.names) c.problem.view_is) c.in_ok-number.ensures.value) ∙ c.in-Some.is) c.int.new.self
    (Extends-trans c.value_under.ensures.keeps c.in_ok-place.ensures.keeps) c.in_ok-place.place shows (table_of c.value_under.new.store.cells.cells)
    (ap (λ x. table_of x.cells) c.value_under.ensures.cells)

pub returns-then-not-branch-clause-attempts : goal.returns-then-not-branch-clause-attempts
returns-then-not-branch-clause-attempts c candidate =
    let f : FitsSigned w64 c.in-Some.number = search rules in let shows = rw (to_z-of_z w64 c.in-Some.number f) at c.in_ok-place.ensures.shows in
    clash (parts_of c.args.machine.now) c.args.target c.args.expression c.args.rest c.requires.fits c.requires.front c.in-Some.number
    ((value_is (parts_of c.args.machine.now) c.args.target c.args.expression c.args.rest c.requires.fits c.requires.front c.in_ok-number.field-0
    c.problem.inside.names (ap (λ (p : ProblemTree). p.names) c.problem.view_is) c.in_ok-number.ensures.value) ∙ c.in-Some.is) c.int.new.self
    (Extends-trans c.value_under.ensures.keeps c.in_ok-place.ensures.keeps) c.in_ok-place.place shows (table_of c.value_under.new.store.cells.cells)
    (ap (λ x. table_of x.cells) c.value_under.ensures.cells) (table_of c.unify_under.new.store.cells.cells) candidate
    (subst (λ b. Finds (parts_of c.args.machine.now) c.args.target c.args.expression c.args.rest c.requires.fits c.requires.front c.in-Some.number
    ((value_is (parts_of c.args.machine.now) c.args.target c.args.expression c.args.rest c.requires.fits c.requires.front c.in_ok-number.field-0
    c.problem.inside.names (ap (λ (p : ProblemTree). p.names) c.problem.view_is) c.in_ok-number.ensures.value) ∙ c.in-Some.is) c.int.new.self
    (Extends-trans c.value_under.ensures.keeps c.in_ok-place.ensures.keeps) c.in_ok-place.place shows (table_of c.value_under.new.store.cells.cells)
    (ap (λ x. table_of x.cells) c.value_under.ensures.cells) (table_of c.unify_under.new.store.cells.cells) b) c.if-not-branch.true
    c.in_ok-unify_under.ensures.found)

pub returns-then-not-branch-clause-later : goal.returns-then-not-branch-clause-later
returns-then-not-branch-clause-later c =
    let m = c.args.machine.now in
    later_store m _ refl refl (store_then _ _ _ (store_extends c.args.machine.now.store (record (c.value_under.new.store) { bank = c.int.new.self })
    (Extends-trans c.value_under.ensures.keeps c.in_ok-place.ensures.keeps) c.value_under.ensures.cells) c.unify_under.ensures.marks) refl refl refl refl

pub returns-clause-attempts : goal.returns-clause-attempts
returns-clause-attempts c candidate =
    let f : FitsSigned w64 c.in-Some.number = search rules in let shows = rw (to_z-of_z w64 c.in-Some.number f) at c.in_ok-place.ensures.shows in
    let m = parts_of c.args.machine.now in let new = parts_of c.go_on.new.machine in
    let mid : Machine = record (c.args.machine.now) { store = c.unify_under.new.store } in
    let go = c.in_ok-go_on.ensures.goes in let after = table_of c.unify_under.new.store.cells.cells in let bank = c.unify_under.ensures.bank in
    equal (parts_of c.args.machine.now) c.args.target c.args.expression c.args.rest c.requires.fits c.requires.front c.in-Some.number
    ((value_is (parts_of c.args.machine.now) c.args.target c.args.expression c.args.rest c.requires.fits c.requires.front c.in_ok-number.field-0
    c.problem.inside.names (ap (λ (p : ProblemTree). p.names) c.problem.view_is) c.in_ok-number.ensures.value) ∙ c.in-Some.is) c.int.new.self
    (Extends-trans c.value_under.ensures.keeps c.in_ok-place.ensures.keeps) c.in_ok-place.place shows (table_of c.value_under.new.store.cells.cells)
    (ap (λ x. table_of x.cells) c.value_under.ensures.cells) after new candidate
    (subst (λ b. Finds (parts_of c.args.machine.now) c.args.target c.args.expression c.args.rest c.requires.fits c.requires.front c.in-Some.number
    ((value_is (parts_of c.args.machine.now) c.args.target c.args.expression c.args.rest c.requires.fits c.requires.front c.in_ok-number.field-0
    c.problem.inside.names (ap (λ (p : ProblemTree). p.names) c.problem.view_is) c.in_ok-number.ensures.value) ∙ c.in-Some.is) c.int.new.self
    (Extends-trans c.value_under.ensures.keeps c.in_ok-place.ensures.keeps) c.in_ok-place.place shows (table_of c.value_under.new.store.cells.cells)
    (ap (λ x. table_of x.cells) c.value_under.ensures.cells) after b) c.if-not-branch.false c.in_ok-unify_under.ensures.found)
    (ap (λ (x : Parts). x.bank) go.same ∙ bank) (ap (λ (x : Parts). x.bound) go.same) (ap (λ (x : Parts). x.levels) go.same)
    (λ count inside ordered. goes m (parts_of mid) new (items_at m.agenda c.args.rest) refl refl refl
    (subst (λ (b : Nodes). Extends m.bank b) (sym bank) (Extends-trans c.value_under.ensures.keeps c.in_ok-place.ensures.keeps))
    count (subst (λ (b : Nodes). All (HasValue b) after.bound) (sym bank) inside) (subst (λ (b : Nodes). IsOrdered b after) (sym bank) ordered) refl refl refl
    refl go)

pub returns-clause-later : goal.returns-clause-later
returns-clause-later c =
    let m = c.args.machine.now in let mid : Machine = record m { store = c.unify_under.new.store } in
    later_then m mid c.go_on.new.machine
    (later_store m mid refl refl (store_then _ _ _ (store_extends c.args.machine.now.store (record (c.value_under.new.store) { bank = c.int.new.self })
    (Extends-trans c.value_under.ensures.keeps c.in_ok-place.ensures.keeps) c.value_under.ensures.cells) c.unify_under.ensures.marks) refl refl refl refl)
    c.in_ok-go_on.ensures.later
