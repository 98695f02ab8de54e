use Rattle.std.proofs.Common.{◌∙◌, refl, ap, sym, subst, true, List, [], map, Some}
use Rattle.std.proofs.lemmas.Result.{IfOk-from_err}
use Rattle.ll_list_laws.proofs.CallerLemmas.{IfOk-each}
use Rattle.ll_bank.specs.declared.FormAt.{FormAt}
use Rattle.ll_bank.specs.Nodes.{form_tree, term_tree, term_trees}
use Rattle.ll_bank.proofs.CallerLemmas.{Extends-refl, Extends-trans, HasForm-extends, HasTerm-extends, form_tree-extends}
use Rattle.ll_laws.specs.Fault.{parts_fit}
use Rattle.ll_laws.specs.Leaf.{leaf, premise_goal}
use Rattle.ll_laws.specs.Shown.{module_tree}
use Rattle.ll_laws.specs.ShownLines.{part_line}
use Rattle.ll_laws.specs.Valid.{ClauseSide, has_heads}
use Rattle.ll_sequent.specs.Constants.{AllInForms}
use Rattle.ll_sequent.specs.declared.leaves.Needed.{Needed}
use Rattle.ll_sequent.specs.Opened.{needed_in, opened_in, form_trees, AreNeeded}
use Rattle.ll_sequent.specs.Steps.{blank}
use Rattle.ll_sequent.proofs.ClauseLemmas.{clause_other, clause_other_way, clause_other_head, clause_other_parts, clause_dealt}
use Rattle.ll_sequent.proofs.NodeLemmas.{equal_is, equal_not, among, as_many, leaf_same, shows_of, none_of, atom_same}
use Rattle.ll_sequent.proofs.clauses.clause.Goals as goal

pub returns-in_default : goal.returns-in_default
returns-in_default c = record {
  is = λ ops. clause_other ops (map (module_tree c.args.bank.now) c.args.modules.now) c.args.bank.now c.args.free.now c.args.sequent c.requires.holds
      c.args.label c.args.leaf (term_trees c.args.bank.now c.args.values.now) (map part_line c.args.parts.now) c.form_at.result c.form_at.ensures.shown
      c.in_default.not-Atom;
  keeps = Extends-refl c.args.bank.now;
}

pub returns-in_default-take_clause-clause-keeps : goal.returns-in_default-take_clause-clause-keeps
returns-in_default-take_clause-clause-keeps c = Extends-refl c.args.bank.now

pub leaves_left-requires : goal.leaves_left-requires
leaves_left-requires c = (c.in-Some.ensures.held (map (module_tree c.args.bank.now) c.args.modules.now) c.args.bank.now c.requires.holds.unbounded
    c.requires.holds.sequent.bounded).1.inside

pub returns-in_err-leaves_left-clause-keeps : goal.returns-in_err-leaves_left-clause-keeps
returns-in_err-leaves_left-clause-keeps c = Extends-refl c.args.bank.now

pub returns-then-is_some-clause-keeps : goal.returns-then-is_some-clause-keeps
returns-then-is_some-clause-keeps c = Extends-refl c.args.bank.now

pub open_leaf-requires-clause-inside : goal.open_leaf-requires-clause-inside
open_leaf-requires-clause-inside c = HasForm-extends (Extends-refl c.args.bank.now) c.in-Some.form.0
    (c.in-Some.ensures.held (map (module_tree c.args.bank.now) c.args.modules.now) c.args.bank.now c.requires.holds.unbounded
    c.requires.holds.sequent.bounded).1.inside

pub open_leaf-requires-clause-heads : goal.open_leaf-requires-clause-heads
open_leaf-requires-clause-heads c =
    let h = (c.in-Some.ensures.held (map (module_tree c.args.bank.now) c.args.modules.now) c.args.bank.now c.requires.holds.unbounded
    c.requires.holds.sequent.bounded) in
    ap (has_heads true ClauseSide []) (form_tree-extends (Extends-refl c.args.bank.now) c.in-Some.form.0 h.1.inside) ∙ h.1.sound.heads

pub returns-in_default-2-clause-is : goal.returns-in_default-2-clause-is
returns-in_default-2-clause-is c =
    λ ops. clause_other_way ops (map (module_tree c.args.bank.now) c.args.modules.now) c.args.bank.now c.args.free.now c.args.sequent c.requires.holds
    c.args.label c.args.leaf (term_trees c.args.bank.now c.args.values.now) (map part_line c.args.parts.now) c.in-Atom.atom c.in-Atom.ensures.shown
    (Some c.in-Some.form) c.take_clause.new.bounded.items (c.in-Some.ensures.found c.args.bank.now) c.in-Some.form refl
    (among _ c.args.leaf c.in_ok-leaves_left.field-0 (sym c.is_some.ensures ∙ c.if-is_some.false) c.in_ok-leaves_left.ensures) c.open_leaf.new.bank
    c.open_leaf.ensures.keeps
    (leaf_same c.args.bank.now c.args.bank.now (Extends-refl c.args.bank.now) c.in-Some.form c.args.leaf (term_trees c.args.bank.now c.args.values.now)
    (term_trees c.args.bank.now c.args.values.now) (c.in-Some.ensures.held (map (module_tree c.args.bank.now) c.args.modules.now) c.args.bank.now
    c.requires.holds.unbounded c.requires.holds.sequent.bounded).1.inside refl
    ∙ none_of c.open_leaf.new.bank _ c.in_ok-opened.field-0 c.in_default-2.not-Some c.in_ok-opened.ensures.opened)

pub returns-then-not-branch-clause-is : goal.returns-then-not-branch-clause-is
returns-then-not-branch-clause-is c =
    λ ops. clause_other_head ops (map (module_tree c.args.bank.now) c.args.modules.now) c.args.bank.now c.args.free.now c.args.sequent c.requires.holds
    c.args.label c.args.leaf (term_trees c.args.bank.now c.args.values.now) (map part_line c.args.parts.now) c.in-Atom.atom c.in-Atom.ensures.shown
    (Some c.in-Some.form) c.take_clause.new.bounded.items (c.in-Some.ensures.found c.args.bank.now) c.in-Some.form refl
    (among _ c.args.leaf c.in_ok-leaves_left.field-0 (sym c.is_some.ensures ∙ c.if-is_some.false) c.in_ok-leaves_left.ensures)
    (opened_in c.open_leaf.new.bank c.in-Some-2.opened) (leaf_same c.args.bank.now c.args.bank.now (Extends-refl c.args.bank.now) c.in-Some.form c.args.leaf
    (term_trees c.args.bank.now c.args.values.now) (term_trees c.args.bank.now c.args.values.now)
    (c.in-Some.ensures.held (map (module_tree c.args.bank.now) c.args.modules.now) c.args.bank.now c.requires.holds.unbounded
    c.requires.holds.sequent.bounded).1.inside refl ∙ (shows_of c.open_leaf.new.bank
    (leaf (form_tree c.args.bank.now c.in-Some.form.0) c.args.leaf (term_trees c.args.bank.now c.args.values.now)) c.in_ok-opened.field-0 c.in-Some-2.opened
    c.in-Some-2.is c.in_ok-opened.ensures.opened).is) c.open_leaf.new.bank c.open_leaf.ensures.keeps
    (equal_not c.in_ok-is_same.field-0 _ _ (term_tree c.args.bank.now c.in-Atom.atom.0) c.in_ok-is_same.ensures
    (atom_same c.args.bank.now c.open_leaf.new.bank c.open_leaf.ensures.keeps c.args.sequent.goal.0 c.in-Atom.atom c.in-Atom.ensures.shown)
    c.if-not-branch.true)

pub returns-then-not-fit-clause-is : goal.returns-then-not-fit-clause-is
returns-then-not-fit-clause-is c =
    λ ops. clause_other_parts ops (map (module_tree c.args.bank.now) c.args.modules.now) c.args.bank.now c.args.free.now c.args.sequent c.requires.holds
    c.args.label c.args.leaf (term_trees c.args.bank.now c.args.values.now) (map part_line c.args.parts.now) c.in-Atom.atom c.in-Atom.ensures.shown
    (Some c.in-Some.form) c.take_clause.new.bounded.items (c.in-Some.ensures.found c.args.bank.now) c.in-Some.form refl
    (among _ c.args.leaf c.in_ok-leaves_left.field-0 (sym c.is_some.ensures ∙ c.if-is_some.false) c.in_ok-leaves_left.ensures)
    (opened_in c.open_leaf.new.bank c.in-Some-2.opened) (leaf_same c.args.bank.now c.args.bank.now (Extends-refl c.args.bank.now) c.in-Some.form c.args.leaf
    (term_trees c.args.bank.now c.args.values.now) (term_trees c.args.bank.now c.args.values.now)
    (c.in-Some.ensures.held (map (module_tree c.args.bank.now) c.args.modules.now) c.args.bank.now c.requires.holds.unbounded
    c.requires.holds.sequent.bounded).1.inside refl ∙ (shows_of c.open_leaf.new.bank
    (leaf (form_tree c.args.bank.now c.in-Some.form.0) c.args.leaf (term_trees c.args.bank.now c.args.values.now)) c.in_ok-opened.field-0 c.in-Some-2.opened
    c.in-Some-2.is c.in_ok-opened.ensures.opened).is) (equal_is c.in_ok-is_same.field-0 _ _ (term_tree c.args.bank.now c.in-Atom.atom.0)
    c.in_ok-is_same.ensures (atom_same c.args.bank.now c.open_leaf.new.bank c.open_leaf.ensures.keeps c.args.sequent.goal.0 c.in-Atom.atom
    c.in-Atom.ensures.shown) c.if-not-branch.false) c.open_leaf.new.bank c.open_leaf.ensures.keeps
    (ap (λ xs. parts_fit (blank (map part_line c.args.parts.now)) (map (needed_in c.open_leaf.new.bank) xs)) (sym c.deref.ensures.value)
    ∙ (sym (c.fit.ensures c.open_leaf.new.bank) ∙ c.if-not-fit.true))

pub returns-in_err-goals-clause-keeps : goal.returns-in_err-goals-clause-keeps
returns-in_err-goals-clause-keeps c = Extends-trans c.open_leaf.ensures.keeps c.goals_of.ensures.keeps

pub dealt-requires : goal.dealt-requires
dealt-requires c =
    as_many c.args.parts.now c.goals_of.new.bank c.deref-3.result.now (map (needed_in c.open_leaf.new.bank) c.in-Some-2.opened.premises.items)
    (ap (λ xs. parts_fit (blank (map part_line c.args.parts.now)) (map (needed_in c.open_leaf.new.bank) xs)) (sym c.deref.ensures.value)
    ∙ (sym (c.fit.ensures c.open_leaf.new.bank) ∙ c.if-not-fit.false))
    (ap (form_trees c.goals_of.new.bank) c.deref-3.ensures.value
    ∙ (c.in_ok-goals.ensures.shows ∙ ap (λ xs. map premise_goal (map (needed_in c.open_leaf.new.bank) xs)) c.deref-2.ensures.value))

pub returns-clause-is : goal.returns-clause-is
returns-clause-is c =
    let h = (c.in-Some.ensures.held (map (module_tree c.args.bank.now) c.args.modules.now) c.args.bank.now c.requires.holds.unbounded
    c.requires.holds.sequent.bounded) in
    IfOk-each c.dealt.result _ _ (λ step is ops. clause_dealt ops (map (module_tree c.args.bank.now) c.args.modules.now) c.args.bank.now c.args.free.now
    c.args.sequent c.requires.holds c.args.label
    c.args.leaf (term_trees c.args.bank.now c.args.values.now) (map part_line c.args.parts.now) c.in-Atom.atom c.in-Atom.ensures.shown (Some c.in-Some.form)
    c.take_clause.new.bounded.items (c.in-Some.ensures.found c.args.bank.now) c.in-Some.form refl
    (among _ c.args.leaf c.in_ok-leaves_left.field-0 (sym c.is_some.ensures ∙ c.if-is_some.false) c.in_ok-leaves_left.ensures)
    (opened_in c.open_leaf.new.bank c.in-Some-2.opened) (leaf_same c.args.bank.now c.args.bank.now (Extends-refl c.args.bank.now) c.in-Some.form c.args.leaf
    (term_trees c.args.bank.now c.args.values.now) (term_trees c.args.bank.now c.args.values.now)
    (c.in-Some.ensures.held (map (module_tree c.args.bank.now) c.args.modules.now) c.args.bank.now c.requires.holds.unbounded
    c.requires.holds.sequent.bounded).1.inside refl ∙ (shows_of c.open_leaf.new.bank
    (leaf (form_tree c.args.bank.now c.in-Some.form.0) c.args.leaf (term_trees c.args.bank.now c.args.values.now)) c.in_ok-opened.field-0 c.in-Some-2.opened
    c.in-Some-2.is c.in_ok-opened.ensures.opened).is) (equal_is c.in_ok-is_same.field-0 _ _ (term_tree c.args.bank.now c.in-Atom.atom.0)
    c.in_ok-is_same.ensures (atom_same c.args.bank.now c.open_leaf.new.bank c.open_leaf.ensures.keeps c.args.sequent.goal.0 c.in-Atom.atom
    c.in-Atom.ensures.shown) c.if-not-branch.false) (ap (λ xs. parts_fit (blank (map part_line c.args.parts.now)) (map (needed_in c.open_leaf.new.bank) xs))
    (sym c.deref.ensures.value) ∙ (sym (c.fit.ensures c.open_leaf.new.bank) ∙ c.if-not-fit.false)) c.goals_of.new.bank
    (Extends-trans c.open_leaf.ensures.keeps c.in_ok-goals.ensures.keeps) h.0 h.1 c.requires.closed c.deref-3.result.now (let P : List FormAt
    → Type 0 = AllInForms c.goals_of.new.bank in subst P (sym c.deref-3.ensures.value) c.in_ok-goals.ensures.inside)
    (ap (form_trees c.goals_of.new.bank) c.deref-3.ensures.value
    ∙ (c.in_ok-goals.ensures.shows ∙ ap (λ xs. map premise_goal (map (needed_in c.open_leaf.new.bank) xs)) c.deref-2.ensures.value)) step
    (is c.goals_of.new.bank (map (needed_in c.open_leaf.new.bank) c.in-Some-2.opened.premises.items)
    (ap (form_trees c.goals_of.new.bank) c.deref-3.ensures.value
    ∙ (c.in_ok-goals.ensures.shows ∙ ap (λ xs. map premise_goal (map (needed_in c.open_leaf.new.bank) xs)) c.deref-2.ensures.value))
    (ap (λ xs. parts_fit (blank (map part_line c.args.parts.now)) (map (needed_in c.open_leaf.new.bank) xs)) (sym c.deref.ensures.value)
    ∙ (sym (c.fit.ensures c.open_leaf.new.bank) ∙ c.if-not-fit.false)))) c.dealt.ensures

pub returns-clause-keeps : goal.returns-clause-keeps
returns-clause-keeps c = (Extends-trans c.open_leaf.ensures.keeps c.in_ok-goals.ensures.keeps)

pub form_at-requires : goal.form_at-requires
form_at-requires c = c.requires.holds.sequent.goal.inside

pub open_leaf-requires-clause-values : goal.open_leaf-requires-clause-values
open_leaf-requires-clause-values c = c.requires.inside

pub open_leaf-requires-clause-closed : goal.open_leaf-requires-clause-closed
open_leaf-requires-clause-closed c = c.requires.closed

pub is_same-requires-clause-left : goal.is_same-requires-clause-left
is_same-requires-clause-left c = (shows_of c.open_leaf.new.bank
    (leaf (form_tree c.args.bank.now c.in-Some.form.0) c.args.leaf (term_trees c.args.bank.now c.args.values.now)) c.in_ok-opened.field-0 c.in-Some-2.opened
    c.in-Some-2.is c.in_ok-opened.ensures.opened).head

pub is_same-requires-clause-right : goal.is_same-requires-clause-right
is_same-requires-clause-right c = HasTerm-extends c.open_leaf.ensures.keeps c.in-Atom.atom.0 c.in-Atom.ensures.shown.parts

pub goals_of-requires : goal.goals_of-requires
goals_of-requires c =
    let P : List Needed → Type 0 = AreNeeded c.open_leaf.new.bank in subst P (sym c.deref-2.ensures.value) (shows_of c.open_leaf.new.bank
    (leaf (form_tree c.args.bank.now c.in-Some.form.0) c.args.leaf (term_trees c.args.bank.now c.args.values.now)) c.in_ok-opened.field-0 c.in-Some-2.opened
    c.in-Some-2.is c.in_ok-opened.ensures.opened).premises

pub returns-in_err-opened-clause-keeps : goal.returns-in_err-opened-clause-keeps
returns-in_err-opened-clause-keeps c = c.open_leaf.ensures.keeps

pub returns-in_default-2-clause-keeps : goal.returns-in_default-2-clause-keeps
returns-in_default-2-clause-keeps c = c.open_leaf.ensures.keeps

pub returns-in_err-is_same-clause-keeps : goal.returns-in_err-is_same-clause-keeps
returns-in_err-is_same-clause-keeps c = c.open_leaf.ensures.keeps

pub returns-then-not-branch-clause-keeps : goal.returns-then-not-branch-clause-keeps
returns-then-not-branch-clause-keeps c = c.open_leaf.ensures.keeps

pub returns-then-not-fit-clause-keeps : goal.returns-then-not-fit-clause-keeps
returns-then-not-fit-clause-keeps c = c.open_leaf.ensures.keeps

pub returns-in_err-leaves_left-clause-is : goal.returns-in_err-leaves_left-clause-is
returns-in_err-leaves_left-clause-is c = IfOk-from_err c.from_residual.result _ c.from_residual.ensures.0

pub returns-in_err-opened-clause-is : goal.returns-in_err-opened-clause-is
returns-in_err-opened-clause-is c = IfOk-from_err c.from_residual-in_err-opened.result _ c.from_residual-in_err-opened.ensures.0

pub returns-in_err-is_same-clause-is : goal.returns-in_err-is_same-clause-is
returns-in_err-is_same-clause-is c = IfOk-from_err c.from_residual-in_err-is_same.result _ c.from_residual-in_err-is_same.ensures.0

pub returns-in_err-goals-clause-is : goal.returns-in_err-goals-clause-is
returns-in_err-goals-clause-is c = IfOk-from_err c.from_residual-in_err-goals.result _ c.from_residual-in_err-goals.ensures.0
