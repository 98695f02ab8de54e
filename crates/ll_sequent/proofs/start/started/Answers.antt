use Rattle.std.proofs.Common.{List, ap, ◌∙◌, length, subst, sym, rules}
use Rattle.std.proofs.lemmas.Result.{IfOk-from_err}
use Rattle.ll_bank.specs.declared.At.{At}
use Rattle.ll_bank.specs.Form.{sub_form}
use Rattle.ll_bank.specs.Nodes.{form_tree, term_trees, AllInTerms, ShowsForm, Extends}
use Rattle.ll_bank.proofs.CallerLemmas.{Extends-trans, HasForm-extends, form_tree-extends}
use Rattle.ll_sequent.specs.Copied.{AreBelow, copied_places}
use Rattle.ll_sequent.specs.Starting.{values}
use Rattle.ll_sequent.proofs.CopyLemmas.{copies_stay, copies_inside, copied_trees, copied_lines}
use Rattle.ll_sequent.proofs.StartLemmas.{image_keeps, is_root}
use Rattle.ll_sequent.proofs.start.started.Goals as goal

pub asked_goal-requires-clause-goal : goal.asked_goal-requires-clause-goal
asked_goal-requires-clause-goal c =
    HasForm-extends (Extends-trans (image_keeps c.args.bank.now c.in_ok-own.own c.size.result c.size.ensures.is c.in_ok-own.ensures)
    c.in_ok-copies.ensures.keeps) c.args.goal.0 c.requires.goal

pub asked_goal-requires-clause-copies : goal.asked_goal-requires-clause-copies
asked_goal-requires-clause-copies c =
    let P : List At → Type 0 = AllInTerms c.copies_of.new.bank in
    subst P (sym c.deref.ensures.value) (copies_inside c.args.terms.now c.copies_of.new.bank c.in_ok-copies.copies.items c.in_ok-copies.ensures.copies)

pub asked_goal-requires-clause-asked : goal.asked_goal-requires-clause-asked
asked_goal-requires-clause-asked c =
    let P : List At → Type 0 = λ cs. AreBelow (length cs) c.args.asked.now in subst P (sym c.deref.ensures.value) c.in_ok-copies.ensures.asked

pub returns-clause-root : goal.returns-clause-root
returns-clause-root c =
    let first : Extends c.args.bank.now c.copies_of.new.bank =
    Extends-trans (image_keeps c.args.bank.now c.in_ok-own.own c.size.result c.size.ensures.is c.in_ok-own.ensures) c.in_ok-copies.ensures.keeps in
    let ts = ap (λ cs. term_trees c.copies_of.new.bank (copied_places cs c.args.asked.now)) c.deref.ensures.value ∙ copied_trees c.args.terms.now
    c.copies_of.new.bank c.in_ok-copies.copies.items c.in_ok-copies.ensures.copies c.args.asked.now c.in_ok-copies.ensures.asked in
    let shows : ShowsForm c.asked_goal.new.bank c.in_ok-goal.goal.0
    (sub_form (values (term_trees c.args.terms.now c.args.asked.now)) (form_tree c.args.bank.now c.args.goal.0)) =
    record {
      inside = c.in_ok-goal.ensures.shows.inside;
      tree = c.in_ok-goal.ensures.shows.tree ∙ (λ i. sub_form (values (ts i)) (form_tree-extends first c.args.goal.0 c.requires.goal i));
    } in
    is_root c.args.bank.now c.args.clauses.now c.args.goal.0 (term_trees c.args.terms.now c.args.asked.now)
    (record {
      bank = c.asked_goal.new.bank;
      copies = c.in_ok-copies.copies;
      free = c.in_ok-free.free;
      root = record { free = c.len.result; bounded = c.in_ok-free.bounded; goal = c.in_ok-goal.goal };
    })
    (Extends-trans first c.in_ok-goal.ensures.keeps) c.requires.clauses c.requires.closed shows c.in_ok-free.ensures.unbounded c.in_ok-free.ensures.bounded
    (let l = c.len.ensures in search rules)

pub returns-clause-keeps : goal.returns-clause-keeps
returns-clause-keeps c =
    Extends-trans (Extends-trans (image_keeps c.args.bank.now c.in_ok-own.own c.size.result c.size.ensures.is c.in_ok-own.ensures) c.in_ok-copies.ensures.keeps)
    c.in_ok-goal.ensures.keeps

pub returns-clause-inside : goal.returns-clause-inside
returns-clause-inside c =
    copies_inside c.args.terms.now c.asked_goal.new.bank c.in_ok-copies.copies.items
    (copies_stay c.in_ok-goal.ensures.keeps c.args.terms.now c.in_ok-copies.copies.items c.in_ok-copies.ensures.copies)

pub returns-clause-reach : goal.returns-clause-reach
returns-clause-reach c = c.in_ok-copies.ensures.lines

pub returns-clause-lines : goal.returns-clause-lines
returns-clause-lines c =
    copied_lines c.args.terms.now c.asked_goal.new.bank c.in_ok-copies.copies.items
    (copies_stay c.in_ok-goal.ensures.keeps c.args.terms.now c.in_ok-copies.copies.items c.in_ok-copies.ensures.copies) c.args.rules.now
    c.in_ok-copies.ensures.lines

pub returns-in_err-own-clause-root : goal.returns-in_err-own-clause-root
returns-in_err-own-clause-root c = IfOk-from_err c.from_residual.result _ c.from_residual.ensures.0

pub returns-in_err-own-clause-keeps : goal.returns-in_err-own-clause-keeps
returns-in_err-own-clause-keeps c = IfOk-from_err c.from_residual.result _ c.from_residual.ensures.0

pub returns-in_err-own-clause-inside : goal.returns-in_err-own-clause-inside
returns-in_err-own-clause-inside c = IfOk-from_err c.from_residual.result _ c.from_residual.ensures.0

pub returns-in_err-own-clause-reach : goal.returns-in_err-own-clause-reach
returns-in_err-own-clause-reach c = IfOk-from_err c.from_residual.result _ c.from_residual.ensures.0

pub returns-in_err-own-clause-lines : goal.returns-in_err-own-clause-lines
returns-in_err-own-clause-lines c = IfOk-from_err c.from_residual.result _ c.from_residual.ensures.0

pub returns-in_err-copies-clause-root : goal.returns-in_err-copies-clause-root
returns-in_err-copies-clause-root c = IfOk-from_err c.from_residual-in_err-copies.result _ c.from_residual-in_err-copies.ensures.0

pub returns-in_err-copies-clause-keeps : goal.returns-in_err-copies-clause-keeps
returns-in_err-copies-clause-keeps c = IfOk-from_err c.from_residual-in_err-copies.result _ c.from_residual-in_err-copies.ensures.0

pub returns-in_err-copies-clause-inside : goal.returns-in_err-copies-clause-inside
returns-in_err-copies-clause-inside c = IfOk-from_err c.from_residual-in_err-copies.result _ c.from_residual-in_err-copies.ensures.0

pub returns-in_err-copies-clause-reach : goal.returns-in_err-copies-clause-reach
returns-in_err-copies-clause-reach c = IfOk-from_err c.from_residual-in_err-copies.result _ c.from_residual-in_err-copies.ensures.0

pub returns-in_err-copies-clause-lines : goal.returns-in_err-copies-clause-lines
returns-in_err-copies-clause-lines c = IfOk-from_err c.from_residual-in_err-copies.result _ c.from_residual-in_err-copies.ensures.0

pub returns-in_err-goal-clause-root : goal.returns-in_err-goal-clause-root
returns-in_err-goal-clause-root c = IfOk-from_err c.from_residual-in_err-goal.result _ c.from_residual-in_err-goal.ensures.0

pub returns-in_err-goal-clause-keeps : goal.returns-in_err-goal-clause-keeps
returns-in_err-goal-clause-keeps c = IfOk-from_err c.from_residual-in_err-goal.result _ c.from_residual-in_err-goal.ensures.0

pub returns-in_err-goal-clause-inside : goal.returns-in_err-goal-clause-inside
returns-in_err-goal-clause-inside c = IfOk-from_err c.from_residual-in_err-goal.result _ c.from_residual-in_err-goal.ensures.0

pub returns-in_err-goal-clause-reach : goal.returns-in_err-goal-clause-reach
returns-in_err-goal-clause-reach c = IfOk-from_err c.from_residual-in_err-goal.result _ c.from_residual-in_err-goal.ensures.0

pub returns-in_err-goal-clause-lines : goal.returns-in_err-goal-clause-lines
returns-in_err-goal-clause-lines c = IfOk-from_err c.from_residual-in_err-goal.result _ c.from_residual-in_err-goal.ensures.0

pub returns-in_err-free-clause-root : goal.returns-in_err-free-clause-root
returns-in_err-free-clause-root c = IfOk-from_err c.from_residual-in_err-free.result _ c.from_residual-in_err-free.ensures.0

pub returns-in_err-free-clause-keeps : goal.returns-in_err-free-clause-keeps
returns-in_err-free-clause-keeps c = IfOk-from_err c.from_residual-in_err-free.result _ c.from_residual-in_err-free.ensures.0

pub returns-in_err-free-clause-inside : goal.returns-in_err-free-clause-inside
returns-in_err-free-clause-inside c = IfOk-from_err c.from_residual-in_err-free.result _ c.from_residual-in_err-free.ensures.0

pub returns-in_err-free-clause-reach : goal.returns-in_err-free-clause-reach
returns-in_err-free-clause-reach c = IfOk-from_err c.from_residual-in_err-free.result _ c.from_residual-in_err-free.ensures.0

pub returns-in_err-free-clause-lines : goal.returns-in_err-free-clause-lines
returns-in_err-free-clause-lines c = IfOk-from_err c.from_residual-in_err-free.result _ c.from_residual-in_err-free.ensures.0

pub copies_of-requires-clause-asked : goal.copies_of-requires-clause-asked
copies_of-requires-clause-asked c = c.requires.asked

pub copies_of-requires-clause-lines : goal.copies_of-requires-clause-lines
copies_of-requires-clause-lines c = c.requires.lines
