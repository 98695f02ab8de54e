use Rattle.std.proofs.Common.{◌≡◌, ℕ, suc, ◌-◌, ◌<◌, ◌≤◌, [], refl, ap, sym, subst, ◌∙◌, arith, All, ◌∷◌}
use Rattle.std.proofs.lemmas.List.{append-nil}
use Rattle.std.proofs.lemmas.Result.{IfOk-from_err}
use Rattle.ll_bank.specs.declared.At.{At}
use Rattle.ll_bank.specs.Term.{app}
use Rattle.ll_bank.specs.Nodes.{Nodes, Extends, term_trees}
use Rattle.ll_unify.specs.Bindings.{IsPlaceOf}
use Rattle.ll_unify.specs.Fresh.{StandsNowhere}
use Rattle.ll_laws.specs.Attempt.{vars_from}
use Rattle.ll_store.specs.Tables.{table_of}
use Rattle.ll_resources.specs.Seen.{resource}
use Rattle.ll_freeze.specs.Fits.{allowed}
use Rattle.ll_freeze.specs.Parts.{parts_of}
use Rattle.ll_freeze.proofs.CallerLemmas.{store_then, context_same}
use Rattle.ll_engine.proofs.machine.Keeping.{store_extends, later_of, pushed}
use Rattle.ll_engine.proofs.inferences.TakeLemmas.{entry_there}
use Rattle.ll_engine.proofs.inferences.TakingLemmas.{variable_count, clause_inside, clause_sorted, leaf_among, atom_shown}
use Rattle.ll_engine.proofs.inferences.UnifyLemmas.{tells}
use Rattle.ll_engine.proofs.inferences.LeafTaking.{LeafFacts, leaf_facts}
use Rattle.ll_engine.proofs.take.take_leaf_of.Goals as goal
use Rattle.ll_engine.proofs.take.take_leaf_of.Goals.{After-deref}

some_left : (n : ℕ) → 0 < n → 1 ≤ n
some_left n l = omega arith

one_less : (n : ℕ) → 0 < n → suc (n - 1) ≡ n
one_less n l = omega arith

-- what is known of the leaf once the arguments are lent
facts : (c : After-deref) → LeafFacts c.args.machine.now c.requires.fits c.args.candidate.label (resource c.entry-entry.result)
    (entry_there c.args.machine.now.context.present.entries c.args.candidate.label c.args.place (resource c.entry-entry.result)
    c.requires.place c.entry-entry.ensures)
    c.args.position c.args.candidate.leaf c.open_leaf.new.bank c.open_leaf.new.agenda c.open_leaf.new.terms.items c.in_ok-opened.opened.head
    c.in_ok-opened.opened.environment c.in_ok-opened.opened.top c.in_ok-opened.ensures.keeps c.in_ok-opened.ensures.opened c.args.sign
    c.args.machine.now.args.items c.requires.front c.add_cells.new.store c.add_cells.ensures.bank c.in_ok-add_cells.ensures.cells
facts c = leaf_facts c.args.machine.now c.requires.fits c.args.candidate.label (resource c.entry-entry.result)
    (entry_there c.args.machine.now.context.present.entries c.args.candidate.label c.args.place (resource c.entry-entry.result)
    c.requires.place c.entry-entry.ensures)
    c.args.position c.args.candidate.leaf c.open_leaf.new.bank c.open_leaf.new.agenda c.open_leaf.new.terms.items c.in_ok-opened.opened.head
    c.in_ok-opened.opened.environment c.in_ok-opened.opened.top c.in_ok-opened.ensures.keeps c.in_ok-opened.ensures.opened c.args.sign
    c.args.machine.now.args.items c.requires.front c.add_cells.new.store c.add_cells.ensures.bank c.in_ok-add_cells.ensures.cells

pub open_leaf-requires-clause-inside : goal.open_leaf-requires-clause-inside
open_leaf-requires-clause-inside c = clause_inside (parts_of c.args.machine.now) c.requires.fits c.args.candidate.label (resource c.entry-entry.result)
    (entry_there c.args.machine.now.context.present.entries c.args.candidate.label c.args.place (resource c.entry-entry.result)
    c.requires.place c.entry-entry.ensures)

pub open_leaf-requires-clause-clause : goal.open_leaf-requires-clause-clause
open_leaf-requires-clause-clause c = (
  allowed (parts_of c.args.machine.now),
  clause_sorted (parts_of c.args.machine.now) c.requires.fits c.args.candidate.label (resource c.entry-entry.result)
      (entry_there c.args.machine.now.context.present.entries c.args.candidate.label c.args.place (resource c.entry-entry.result)
      c.requires.place c.entry-entry.ensures),
)

pub open_leaf-requires-clause-top : goal.open_leaf-requires-clause-top
open_leaf-requires-clause-top c = c.requires.front.behind

pub open_leaf-requires-clause-terms : goal.open_leaf-requires-clause-terms
open_leaf-requires-clause-terms c = c.requires.fits.terms

pub open_leaf-requires-clause-variables : goal.open_leaf-requires-clause-variables
open_leaf-requires-clause-variables c = c.requires.fits.variables ∙ ap (vars_from 0) (sym (variable_count (parts_of c.args.machine.now) c.requires.fits))

pub use_entry-requires-clause-found : goal.use_entry-requires-clause-found
use_entry-requires-clause-found c = entry_there c.args.machine.now.context.present.entries c.args.candidate.label c.args.place (resource c.entry-entry.result)
    c.requires.place c.entry-entry.ensures

pub use_entry-requires-clause-place : goal.use_entry-requires-clause-place
use_entry-requires-clause-place c = c.requires.place

pub overflow_sub-machine : goal.overflow_sub-machine
overflow_sub-machine c = some_left c.args.machine.now.left c.requires.left

pub returns-then-not-branch-clause-attempts : goal.returns-then-not-branch-clause-attempts
returns-then-not-branch-clause-attempts c =
    let f = facts (goal.at.returns-then-not-branch-clause-attempts c).After-deref in
    f.none c.unify_args.new.store.bank (table_of c.unify_args.new.store.cells.cells) c.in_ok-unify_args.field-0 c.if-not-branch.true
    (tells c.add_cells.new.store c.unify_args.new.store.bank (table_of c.unify_args.new.store.cells.cells) c.args.sign c.args.machine.now.args.items
    c.deref.result.now c.in_ok-opened.opened.environment c.in_ok-opened.opened.head c.in_ok-unify_args.field-0 c.deref.ensures.value
    c.in_ok-unify_args.ensures.solved)

pub returns-then-not-branch-clause-later : goal.returns-then-not-branch-clause-later
returns-then-not-branch-clause-later c =
    let m = c.args.machine.now in let e = c.in_ok-opened.ensures.frames in let t = c.in_ok-opened.ensures.more in
    later_of m _ refl refl (store_then _ _ _ (store_then _ _ _
    (store_extends m.store (record (m.store) { bank = c.open_leaf.new.bank }) c.in_ok-opened.ensures.keeps refl) c.add_cells.ensures.marks)
    c.unify_args.ensures.marks) (context_same m.context) e.more e.frames t.more t.is [] (sym (append-nil m.steps.items))

pub returns-clause-attempts : goal.returns-clause-attempts
returns-clause-attempts c =
    let f = facts (goal.at.returns-clause-attempts c).After-deref in
    f.some c.unify_args.new.store.bank (table_of c.unify_args.new.store.cells.cells) _ c.in_ok-unify_args.field-0 c.if-not-branch.false
    (tells c.add_cells.new.store c.unify_args.new.store.bank (table_of c.unify_args.new.store.cells.cells) c.args.sign c.args.machine.now.args.items
    c.deref.result.now c.in_ok-opened.opened.environment c.in_ok-opened.opened.head c.in_ok-unify_args.field-0 c.deref.ensures.value
    c.in_ok-unify_args.ensures.solved)
    (record {
      problem = refl;
      modules = refl;
      grown = subst (λ (b : Nodes). Extends b c.unify_args.new.store.bank) c.add_cells.ensures.bank c.unify_args.ensures.keeps;
      bank = refl;
      bound_new = refl;
      levels_new = refl;
      resources = c.in_ok-use_entry.ensures.used;
      agenda = refl;
      top_new = refl;
      terms_new = refl;
      eigens = refl;
      steps = pushed _ _ _ _ c.push_reserved.ensures.items c.in_ok-reserve.ensures.items;
      left = one_less c.args.machine.now.left c.requires.left;
    })

pub returns-clause-later : goal.returns-clause-later
returns-clause-later c =
    let m = c.args.machine.now in let e = c.in_ok-opened.ensures.frames in let t = c.in_ok-opened.ensures.more in
    later_of m _ refl refl (store_then _ _ _ (store_then _ _ _
    (store_extends m.store (record (m.store) { bank = c.open_leaf.new.bank }) c.in_ok-opened.ensures.keeps refl) c.add_cells.ensures.marks)
    c.unify_args.ensures.marks) c.use_entry.ensures.marks e.more e.frames t.more t.is _
    (pushed _ _ _ _ c.push_reserved.ensures.items c.in_ok-reserve.ensures.items)

pub returns-in_err-opened-clause-attempts : goal.returns-in_err-opened-clause-attempts
returns-in_err-opened-clause-attempts c = IfOk-from_err c.from_residual.result _ c.from_residual.ensures.0

pub returns-in_err-opened-clause-later : goal.returns-in_err-opened-clause-later
returns-in_err-opened-clause-later c = IfOk-from_err c.from_residual.result _ c.from_residual.ensures.0

pub returns-in_err-add_cells-clause-attempts : goal.returns-in_err-add_cells-clause-attempts
returns-in_err-add_cells-clause-attempts c = IfOk-from_err c.from_residual-in_err-add_cells.result _ c.from_residual-in_err-add_cells.ensures.0

pub returns-in_err-add_cells-clause-later : goal.returns-in_err-add_cells-clause-later
returns-in_err-add_cells-clause-later c = IfOk-from_err c.from_residual-in_err-add_cells.result _ c.from_residual-in_err-add_cells.ensures.0

pub returns-in_err-unify_args-clause-attempts : goal.returns-in_err-unify_args-clause-attempts
returns-in_err-unify_args-clause-attempts c = IfOk-from_err c.from_residual-in_err-unify_args.result _ c.from_residual-in_err-unify_args.ensures.0

pub returns-in_err-unify_args-clause-later : goal.returns-in_err-unify_args-clause-later
returns-in_err-unify_args-clause-later c = IfOk-from_err c.from_residual-in_err-unify_args.result _ c.from_residual-in_err-unify_args.ensures.0

pub returns-in_err-use_entry-clause-attempts : goal.returns-in_err-use_entry-clause-attempts
returns-in_err-use_entry-clause-attempts c = IfOk-from_err c.from_residual-in_err-use_entry.result _ c.from_residual-in_err-use_entry.ensures.0

pub returns-in_err-use_entry-clause-later : goal.returns-in_err-use_entry-clause-later
returns-in_err-use_entry-clause-later c = IfOk-from_err c.from_residual-in_err-use_entry.result _ c.from_residual-in_err-use_entry.ensures.0

pub returns-in_err-reserve-clause-attempts : goal.returns-in_err-reserve-clause-attempts
returns-in_err-reserve-clause-attempts c = IfOk-from_err c.from_residual-in_err-reserve.result _ c.from_residual-in_err-reserve.ensures.0

pub returns-in_err-reserve-clause-later : goal.returns-in_err-reserve-clause-later
returns-in_err-reserve-clause-later c = IfOk-from_err c.from_residual-in_err-reserve.result _ c.from_residual-in_err-reserve.ensures.0

pub open_leaf-requires-clause-among : goal.open_leaf-requires-clause-among
open_leaf-requires-clause-among c =
    let m = parts_of c.args.machine.now in
    leaf_among m _ _ c.args.candidate (resource c.entry-entry.result) c.requires.fits
    (atom_shown m c.args.sign c.args.machine.now.args.items c.args.position c.requires.front) c.requires.candidate
    (entry_there c.args.machine.now.context.present.entries c.args.candidate.label c.args.place (resource c.entry-entry.result)
    c.requires.place c.entry-entry.ensures)

pub unify_args-requires-clause-store : goal.unify_args-requires-clause-store
unify_args-requires-clause-store c = let f = facts (goal.at.unify_args-requires-clause-store c).After-deref in f.ready.table

pub unify_args-requires-clause-within : goal.unify_args-requires-clause-within
unify_args-requires-clause-within c = let f = facts (goal.at.unify_args-requires-clause-within c).After-deref in f.ready.within

pub unify_args-requires-clause-sign : goal.unify_args-requires-clause-sign
unify_args-requires-clause-sign c = let f = facts (goal.at.unify_args-requires-clause-sign c).After-deref in f.ready.fixed

pub unify_args-requires-clause-args : goal.unify_args-requires-clause-args
unify_args-requires-clause-args c =
    let f = facts (goal.at.unify_args-requires-clause-args c).After-deref in
    let s = c.add_cells.new.store in
    subst (λ xs. All (λ (a : At). IsPlaceOf s.bank (table_of s.cells.cells) a.0) xs) (sym c.deref.ensures.value) f.ready.places

pub unify_args-requires-clause-head : goal.unify_args-requires-clause-head
unify_args-requires-clause-head c = let f = facts (goal.at.unify_args-requires-clause-head c).After-deref in f.ready.head_inside

pub unify_args-requires-clause-begins : goal.unify_args-requires-clause-begins
unify_args-requires-clause-begins c = let f = facts (goal.at.unify_args-requires-clause-begins c).After-deref in f.ready.begins

pub unify_args-requires-clause-heads : goal.unify_args-requires-clause-heads
unify_args-requires-clause-heads c = let f = facts (goal.at.unify_args-requires-clause-heads c).After-deref in f.ready.heads

pub unify_args-requires-clause-vars : goal.unify_args-requires-clause-vars
unify_args-requires-clause-vars c = let f = facts (goal.at.unify_args-requires-clause-vars c).After-deref in f.ready.vars

pub unify_args-requires-clause-new : goal.unify_args-requires-clause-new
unify_args-requires-clause-new c = λ x l b.
    let f = facts (goal.at.unify_args-requires-clause-new c).After-deref in
    let s = c.add_cells.new.store in
    subst (λ xs. StandsNowhere s.bank (table_of s.cells.cells) (app c.args.sign (term_trees s.bank xs) ∷ []) x) (sym c.deref.ensures.value)
    (f.ready.apart x l b)
