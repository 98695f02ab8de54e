use Rattle.std.proofs.Common.{ℕ, ◌<◌, refl, ap, sym, subst, ◌∙◌, length, List, arith, lt_trans}
use Rattle.std.proofs.lemmas.Result.{IfOk-from_err}
use Rattle.ll_list_laws.proofs.CallerLemmas.{IfOk-each}
use Rattle.ll_bank.specs.declared.Head.TheVariants.{Eigen}
use Rattle.ll_bank.specs.Term.{Con}
use Rattle.ll_bank.specs.Form.{instantiate, form_applies_heads}
use Rattle.ll_bank.specs.Nodes.{form_tree, HasForm, ShowsForm}
use Rattle.ll_bank.proofs.CallerLemmas.{Extends-refl, Extends-trans, HasForm-extends, form_tree-extends}
use Rattle.ll_sequent.specs.declared.sequents.Resource.{Resource}
use Rattle.ll_sequent.specs.Constants.{stands_in, forms_of, AllInForms}
use Rattle.ll_sequent.proofs.ForallLemmas.{forall_refused, forall_known, forall_heads, forall_steps}
use Rattle.ll_sequent.proofs.opening.forall.Goals as goal

no_less : (k : ℕ) → k < 0 → ⊥
no_less k l = omega arith

pub returns-in_err-stands-in-Forall-clause-keeps : goal.returns-in_err-stands-in-Forall-clause-keeps
returns-in_err-stands-in-Forall-clause-keeps c = Extends-refl c.args.bank.now

pub returns-then-branch-clause-keeps : goal.returns-then-branch-clause-keeps
returns-then-branch-clause-keeps c = Extends-refl c.args.bank.now

pub returns-then-branch-clause-is : goal.returns-then-branch-clause-is
returns-then-branch-clause-is c =
    forall_known c.args.bank.now c.args.free.now c.args.sequent c.args.constant c.in-Forall.body c.in-Forall.ensures.shown
    (ap (stands_in c.args.constant c.args.bank.now c.in-Forall.body c.args.free.now) (sym c.deref.ensures.value)
    ∙ (sym c.in_ok-stands-in-Forall.ensures ∙ c.if-branch.true))

pub instantiate-requires-clause-heads : goal.instantiate-requires-clause-heads
instantiate-requires-clause-heads c =
    let inside : HasForm c.args.bank.now c.in-Forall.body.0 =
    lt_trans c.in-Forall.ensures.shown.parts c.requires.goal in
    let same = form_tree-extends c.in_ok-value-in-Forall.ensures.keeps c.in-Forall.body.0 inside in
    (λ i. form_applies_heads (instantiate (same i) (c.in_ok-value-in-Forall.ensures.shows.tree i)))
    ∙ forall_heads c.args.bank.now c.args.free.now c.args.sequent c.args.constant c.in-Forall.body c.in-Forall.ensures.shown c.requires.heads

pub returns-in_ok-goal-in-Forall-clause-is : goal.returns-in_ok-goal-in-Forall-clause-is
returns-in_ok-goal-in-Forall-clause-is c =
    let inside : HasForm c.args.bank.now c.in-Forall.body.0 =
    lt_trans c.in-Forall.ensures.shown.parts c.requires.goal in
    let same = form_tree-extends c.in_ok-value-in-Forall.ensures.keeps c.in-Forall.body.0 inside in
    let shows : ShowsForm c.instantiate.new.self c.in_ok-goal-in-Forall.goal.0
    (instantiate (form_tree c.args.bank.now c.in-Forall.body.0) (Con (Eigen c.args.constant))) =
    record {
      inside = c.in_ok-goal-in-Forall.ensures.shows.inside;
      tree = c.in_ok-goal-in-Forall.ensures.shows.tree ∙ (λ i. instantiate (same i) (c.in_ok-value-in-Forall.ensures.shows.tree i));
    } in
    IfOk-each c.leave_one.result _ _ (λ step leaving.
    forall_steps c.args.bank.now c.args.free.now c.args.sequent c.args.constant c.in-Forall.body c.in-Forall.ensures.shown c.instantiate.new.self
    (record { free = c.args.sequent.free; bounded = c.args.sequent.bounded; goal = c.in_ok-goal-in-Forall.goal }) step
    (ap (stands_in c.args.constant c.args.bank.now c.in-Forall.body c.args.free.now) (sym c.deref.ensures.value)
    ∙ (sym c.in_ok-stands-in-Forall.ensures ∙ c.if-branch.false))
    (Extends-trans c.in_ok-value-in-Forall.ensures.keeps c.in_ok-goal-in-Forall.ensures.keeps) shows refl refl leaving) c.leave_one.ensures

pub returns-in_default : goal.returns-in_default
returns-in_default c = record {
  is = forall_refused c.args.bank.now c.args.free.now c.args.sequent c.args.constant c.form_at.result c.form_at.ensures.shown c.in_default.not-Forall;
  keeps = Extends-refl c.args.bank.now;
}

pub form_at-requires : goal.form_at-requires
form_at-requires c = c.requires.goal

pub stands-requires-clause-goal : goal.stands-requires-clause-goal
stands-requires-clause-goal c = lt_trans c.in-Forall.ensures.shown.parts c.requires.goal

pub stands-requires-clause-free : goal.stands-requires-clause-free
stands-requires-clause-free c = c.requires.free

pub stands-requires-clause-bounded : goal.stands-requires-clause-bounded
stands-requires-clause-bounded c =
    let P : List Resource → Type 0 = λ rs. AllInForms c.args.bank.now (forms_of rs) in subst P (sym c.deref.ensures.value) c.requires.bounded

pub app-requires : goal.app-requires
app-requires c = λ k d l. absurd (no_less k l)

pub returns-in_err-value-in-Forall-clause-keeps : goal.returns-in_err-value-in-Forall-clause-keeps
returns-in_err-value-in-Forall-clause-keeps c = c.app.ensures.keeps

pub instantiate-requires-clause-body : goal.instantiate-requires-clause-body
instantiate-requires-clause-body c = HasForm-extends c.in_ok-value-in-Forall.ensures.keeps c.in-Forall.body.0
    (lt_trans c.in-Forall.ensures.shown.parts c.requires.goal)

pub instantiate-requires-clause-value : goal.instantiate-requires-clause-value
instantiate-requires-clause-value c = c.in_ok-value-in-Forall.ensures.shows.inside

pub returns-in_err-goal-in-Forall-clause-keeps : goal.returns-in_err-goal-in-Forall-clause-keeps
returns-in_err-goal-in-Forall-clause-keeps c = Extends-trans c.in_ok-value-in-Forall.ensures.keeps c.instantiate.ensures.keeps

pub returns-in_ok-goal-in-Forall-clause-keeps : goal.returns-in_ok-goal-in-Forall-clause-keeps
returns-in_ok-goal-in-Forall-clause-keeps c = Extends-trans c.in_ok-value-in-Forall.ensures.keeps c.in_ok-goal-in-Forall.ensures.keeps

pub returns-in_err-stands-in-Forall-clause-is : goal.returns-in_err-stands-in-Forall-clause-is
returns-in_err-stands-in-Forall-clause-is c = IfOk-from_err c.from_residual.result _ c.from_residual.ensures.0

pub returns-in_err-value-in-Forall-clause-is : goal.returns-in_err-value-in-Forall-clause-is
returns-in_err-value-in-Forall-clause-is c = IfOk-from_err c.from_residual-in_err-value-in-Forall.result _ c.from_residual-in_err-value-in-Forall.ensures.0

pub returns-in_err-goal-in-Forall-clause-is : goal.returns-in_err-goal-in-Forall-clause-is
returns-in_err-goal-in-Forall-clause-is c = IfOk-from_err c.from_residual-in_err-goal-in-Forall.result _ c.from_residual-in_err-goal-in-Forall.ensures.0
