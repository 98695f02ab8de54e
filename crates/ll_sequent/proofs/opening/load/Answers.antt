use Rattle.std.proofs.Common.{ℕ, ◌<◌, length, map, refl, ap, sym, subst, ◌∙◌, arith, lt_trans}
use Rattle.std.proofs.lemmas.Bool.{ltb-true}
use Rattle.std.proofs.lemmas.Result.{IfOk-from_err}
use Rattle.ll_list_laws.proofs.CallerLemmas.{IfOk-each}
use Rattle.ll_bank.specs.Form.{Use}
use Rattle.ll_bank.specs.Nodes.{form_tree, term_trees, AllInTerms}
use Rattle.ll_bank.proofs.CallerLemmas.{Extends-refl}
use Rattle.ll_laws.specs.Shown.{module_tree}
use Rattle.ll_sequent.proofs.UnfoldLemmas.{load_count, load_heads, load_steps, use_refused}
use Rattle.ll_sequent.proofs.opening.load.Goals as goal

pub returns-in_err-args-in-Use-clause-keeps : goal.returns-in_err-args-in-Use-clause-keeps
returns-in_err-args-in-Use-clause-keeps c = Extends-refl c.args.bank.now

pub unfold-requires-clause-count : goal.unfold-requires-clause-count
unfold-requires-clause-count c =
    let l = c.in-Some.ensures.lookup in
    let low : c.in-Use.number < length c.args.modules.now = ltb-true _ _ (sym l.0) in
    let same = c.deref.ensures.value ∙ c.in_ok-args-in-Use.ensures.items in
    load_count c.args.bank.now c.args.modules.now c.in-Use.number c.in-Some.module.now c.deref.result.now c.in-Use.body c.args.sequent low l.1
    (c.in-Use.ensures.shown.tree ∙ ap (λ xs. Use c.in-Use.number (term_trees c.args.bank.now xs) (form_tree c.args.bank.now c.in-Use.body.0)) (sym same))
    c.requires.modules c.requires.sequent

pub unfold-requires-clause-heads : goal.unfold-requires-clause-heads
unfold-requires-clause-heads c =
    let l = c.in-Some.ensures.lookup in
    let low : c.in-Use.number < length c.args.modules.now = ltb-true _ _ (sym l.0) in
    let same = c.deref.ensures.value ∙ c.in_ok-args-in-Use.ensures.items in
    load_heads c.args.bank.now c.args.modules.now c.in-Use.number c.in-Some.module.now c.deref.result.now c.in-Use.body c.args.sequent low l.1
    (c.in-Use.ensures.shown.tree ∙ ap (λ xs. Use c.in-Use.number (term_trees c.args.bank.now xs) (form_tree c.args.bank.now c.in-Use.body.0)) (sym same))
    c.requires.modules c.requires.sequent

pub returns-in_ok-goal-in-Use-clause-is : goal.returns-in_ok-goal-in-Use-clause-is
returns-in_ok-goal-in-Use-clause-is c =
    let l = c.in-Some.ensures.lookup in
    let low : c.in-Use.number < length c.args.modules.now = ltb-true _ _ (sym l.0) in
    let same = c.deref.ensures.value ∙ c.in_ok-args-in-Use.ensures.items in
    IfOk-each c.leave_one.result _ _ (λ step leaving. λ ops free h.
    load_steps c.args.bank.now c.args.modules.now c.in-Use.number c.in-Some.module.now c.deref.result.now c.in-Use.body c.args.sequent low l.1
    (c.in-Use.ensures.shown.tree ∙ ap (λ xs. Use c.in-Use.number (term_trees c.args.bank.now xs) (form_tree c.args.bank.now c.in-Use.body.0)) (sym same))
    c.requires.modules c.requires.sequent
    c.unfold.new.bank (record { free = c.args.sequent.free; bounded = c.args.sequent.bounded; goal = c.in_ok-goal-in-Use.goal }) step
    c.in_ok-goal-in-Use.ensures.keeps c.in_ok-goal-in-Use.ensures.shows refl refl leaving ops free h) c.leave_one.ensures

pub returns-in_default : goal.returns-in_default
returns-in_default c = record {
  is = λ ops. use_refused c.args.bank.now c.args.sequent c.form_at.result c.form_at.ensures.shown c.in_default.not-Use ops
      (map (module_tree c.args.bank.now) c.args.modules.now);
  keeps = Extends-refl c.args.bank.now;
}

pub form_at-requires : goal.form_at-requires
form_at-requires c = c.requires.sequent.goal.inside

pub unfold-requires-clause-places : goal.unfold-requires-clause-places
unfold-requires-clause-places c =
    subst (AllInTerms c.args.bank.now) (sym (c.deref.ensures.value ∙ c.in_ok-args-in-Use.ensures.items)) c.in-Use.ensures.shown.parts.0

pub unfold-requires-clause-goal : goal.unfold-requires-clause-goal
unfold-requires-clause-goal c = lt_trans c.in-Use.ensures.shown.parts.1 c.requires.sequent.goal.inside

pub returns-in_default-get-clause-keeps : goal.returns-in_default-get-clause-keeps
returns-in_default-get-clause-keeps c = Extends-refl c.args.bank.now

pub returns-in_err-args-in-Use-clause-is : goal.returns-in_err-args-in-Use-clause-is
returns-in_err-args-in-Use-clause-is c = IfOk-from_err c.from_residual.result _ c.from_residual.ensures.0

pub returns-in_err-goal-in-Use-clause-is : goal.returns-in_err-goal-in-Use-clause-is
returns-in_err-goal-in-Use-clause-is c = IfOk-from_err c.from_residual-in_err-goal-in-Use.result _ c.from_residual-in_err-goal-in-Use.ensures.0

pub returns-in_err-goal-in-Use-clause-keeps : goal.returns-in_err-goal-in-Use-clause-keeps
returns-in_err-goal-in-Use-clause-keeps c = c.unfold.ensures.keeps

pub returns-in_ok-goal-in-Use-clause-keeps : goal.returns-in_ok-goal-in-Use-clause-keeps
returns-in_ok-goal-in-Use-clause-keeps c = c.in_ok-goal-in-Use.ensures.keeps
