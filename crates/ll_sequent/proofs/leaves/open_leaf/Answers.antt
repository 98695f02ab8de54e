use Rattle.std.proofs.Common.{◌≡◌, ◌∙◌, ap, sym, subst, true, take, length, lt_trans}
use Rattle.std.proofs.lemmas.Result.{IfOk-from_err}
use Rattle.ll_bank.specs.Term.{Env, close, applies_heads}
use Rattle.ll_bank.specs.Form.{close_form, form_applies_heads}
use Rattle.ll_bank.specs.Nodes.{form_tree, term_tree, term_trees, ShowsTerm, ShowsForm}
use Rattle.ll_bank.proofs.CallerLemmas.{AllInTerms-extends, Extends-trans}
use Rattle.ll_laws.specs.Leaf.{ways}
use Rattle.ll_bank.specs.Closing.{env_of}
use Rattle.ll_sequent.proofs.WayLemmas.{way_start, way_side, way_lolli, way_imp, way_forall, way_short, way_end, way_past_atom, way_more_terms, way_other}
use Rattle.ll_sequent.proofs.WayLemmas.{lolli_heads, imp_heads, atom_heads, env_passed, values_passed, side_low, passed_all, passed_not_all}
use Rattle.ll_sequent.proofs.WayLemmas.{all_taken, passed_taken, passed_less}
use Rattle.ll_sequent.proofs.leaves.open_leaf.Goals as goal

pub way-init : goal.way-init
way-init c = way_start c.args.bank.now c.args.clause.0 c.args.leaf (term_trees c.args.bank.now c.args.values.now) c.new-premises.result.items
    c.new-premises.ensures.items c.requires.inside c.requires.heads

pub close_term-requires-clause-heads : goal.close_term-requires-clause-heads
close_term-requires-clause-heads c =
    let P : Env → Type 0 = λ e. applies_heads (close e (term_tree c.way.bank c.in-Atom.head.0)) ≡ true in
    let all : take c.way.passed c.args.values.now ≡ c.args.values.now = all_taken c.args.values.now c.way.passed c.if-passed-values.false in
    subst P (sym (env_passed c.args.bank.now c.way.bank c.way.invariant.keeps c.args.values.now c.way.passed c.requires.values) ∙ ap (env_of c.way.bank) all)
    (atom_heads c.args.bank.now c.args.clause.0 c.args.leaf (term_trees c.args.bank.now c.args.values.now) c.way.bank c.way.form c.way.leaf c.way.passed
    c.way.premises.items c.way.invariant c.in-Atom.head c.in-Atom.ensures.shown)

pub returns-in-Atom-clause-opened : goal.returns-in-Atom-clause-opened
returns-in-Atom-clause-opened c =
    let P : Env → Type 0 = λ e. ShowsTerm c.close_term.new.bank c.in_ok-head-in-Atom.head.0 (close e (term_tree c.way.bank c.in-Atom.head.0)) in
    let all : take c.way.passed c.args.values.now ≡ c.args.values.now = all_taken c.args.values.now c.way.passed c.if-passed-values.false in
    way_end c.args.bank.now c.args.clause.0 c.args.leaf (term_trees c.args.bank.now c.args.values.now) c.way.bank c.way.form c.way.leaf c.way.passed
    c.way.premises.items c.way.invariant
    c.close_term.new.bank c.in_ok-head-in-Atom.ensures.keeps c.in-Atom.head (record { premises = c.reverse.new.self; head = c.in_ok-head-in-Atom.head })
    c.in-Atom.ensures.shown c.if-leaf-ne0.false (passed_all c.args.bank.now c.args.values.now c.way.passed c.if-passed-values.false)
    (subst P (sym (ap (env_of c.way.bank) all) ∙ env_passed c.args.bank.now c.way.bank c.way.invariant.keeps c.args.values.now c.way.passed c.requires.values)
    c.in_ok-head-in-Atom.ensures.shows)
    c.reverse.ensures.items

pub close_form-requires-clause-heads : goal.close_form-requires-clause-heads
close_form-requires-clause-heads c =
    let P : Env → Type 0 = λ e. form_applies_heads (close_form e (form_tree c.way.bank c.in-Lolli.goal.0)) ≡ true in
    subst P (sym (env_passed c.args.bank.now c.way.bank c.way.invariant.keeps c.args.values.now c.way.passed c.requires.values))
    (lolli_heads c.args.bank.now c.args.clause.0 c.args.leaf (term_trees c.args.bank.now c.args.values.now) c.way.bank c.way.form c.way.leaf c.way.passed
    c.way.premises.items c.way.invariant c.in-Lolli.goal c.in-Lolli.next
    c.in-Lolli.ensures.shown)

pub way-preserved-in-Lolli : goal.way-preserved-in-Lolli
way-preserved-in-Lolli c =
    let P : Env → Type 0 = λ e. ShowsForm c.close_form.new.bank c.in_ok-goal-in-Lolli.goal.0 (close_form e (form_tree c.way.bank c.in-Lolli.goal.0)) in
    way_lolli c.args.bank.now c.args.clause.0 c.args.leaf (term_trees c.args.bank.now c.args.values.now) c.way.bank c.way.form c.way.leaf c.way.passed
    c.way.premises.items c.way.invariant
    c.close_form.new.bank c.in_ok-goal-in-Lolli.ensures.keeps c.in-Lolli.goal c.in-Lolli.next c.in_ok-goal-in-Lolli.goal c.push.new.self.items
    c.in-Lolli.ensures.shown
    (subst P (env_passed c.args.bank.now c.way.bank c.way.invariant.keeps c.args.values.now c.way.passed c.requires.values) c.in_ok-goal-in-Lolli.ensures.shows)
    c.in_ok-push-in-Lolli.ensures.items

pub close_form-requires-in-Imp-clause-heads : goal.close_form-requires-in-Imp-clause-heads
close_form-requires-in-Imp-clause-heads c =
    let P : Env → Type 0 = λ e. form_applies_heads (close_form e (form_tree c.way.bank c.in-Imp.goal.0)) ≡ true in
    subst P (sym (env_passed c.args.bank.now c.way.bank c.way.invariant.keeps c.args.values.now c.way.passed c.requires.values))
    (imp_heads c.args.bank.now c.args.clause.0 c.args.leaf (term_trees c.args.bank.now c.args.values.now) c.way.bank c.way.form c.way.leaf c.way.passed
    c.way.premises.items c.way.invariant c.in-Imp.goal c.in-Imp.next
    c.in-Imp.ensures.shown)

pub way-preserved-in-Imp : goal.way-preserved-in-Imp
way-preserved-in-Imp c =
    let P : Env → Type 0 = λ e. ShowsForm c.close_form-in-Imp.new.bank c.in_ok-goal-in-Imp.goal.0 (close_form e (form_tree c.way.bank c.in-Imp.goal.0)) in
    way_imp c.args.bank.now c.args.clause.0 c.args.leaf (term_trees c.args.bank.now c.args.values.now) c.way.bank c.way.form c.way.leaf c.way.passed
    c.way.premises.items c.way.invariant
    c.close_form-in-Imp.new.bank c.in_ok-goal-in-Imp.ensures.keeps c.in-Imp.goal c.in-Imp.next c.in_ok-goal-in-Imp.goal c.push-in-Imp.new.self.items
    c.in-Imp.ensures.shown
    (subst P (env_passed c.args.bank.now c.way.bank c.way.invariant.keeps c.args.values.now c.way.passed c.requires.values) c.in_ok-goal-in-Imp.ensures.shows)
    c.in_ok-push-in-Imp.ensures.items

pub way-preserved : goal.way-preserved
way-preserved c =
    way_forall c.args.bank.now c.args.clause.0 c.args.leaf (term_trees c.args.bank.now c.args.values.now) c.way.bank c.way.form c.way.leaf c.way.passed
    c.way.premises.items c.way.invariant c.in-Forall.body c.in-Forall.ensures.shown
    c.requires.closed (passed_less c.args.bank.now c.args.values.now c.way.passed c.way.invariant.within c.if-passed-values-2.false)

pub form_at-requires : goal.form_at-requires
form_at-requires c = c.way.invariant.inside

pub returns-then-leaf-ne0-clause-opened : goal.returns-then-leaf-ne0-clause-opened
returns-then-leaf-ne0-clause-opened c =
    way_past_atom c.args.bank.now c.args.clause.0 c.args.leaf (term_trees c.args.bank.now c.args.values.now) c.way.bank c.way.form c.way.leaf c.way.passed
    c.way.premises.items c.way.invariant c.in-Atom.head c.in-Atom.ensures.shown c.if-leaf-ne0.true

pub returns-then-leaf-ne0-clause-keeps : goal.returns-then-leaf-ne0-clause-keeps
returns-then-leaf-ne0-clause-keeps c = c.way.invariant.keeps

pub returns-then-passed-values-clause-opened : goal.returns-then-passed-values-clause-opened
returns-then-passed-values-clause-opened c =
    way_more_terms c.args.bank.now c.args.clause.0 c.args.leaf (term_trees c.args.bank.now c.args.values.now) c.way.bank c.way.form c.way.leaf c.way.passed
    c.way.premises.items c.way.invariant c.in-Atom.head c.in-Atom.ensures.shown
    (passed_not_all c.args.bank.now c.args.values.now c.way.passed c.if-passed-values.true)

pub returns-then-passed-values-clause-keeps : goal.returns-then-passed-values-clause-keeps
returns-then-passed-values-clause-keeps c = c.way.invariant.keeps

pub close_term-requires-clause-inside : goal.close_term-requires-clause-inside
close_term-requires-clause-inside c = c.in-Atom.ensures.shown.parts

pub close_term-requires-clause-values : goal.close_term-requires-clause-values
close_term-requires-clause-values c = AllInTerms-extends c.way.invariant.keeps c.args.values.now c.requires.values

pub returns-in_err-head-in-Atom-clause-keeps : goal.returns-in_err-head-in-Atom-clause-keeps
returns-in_err-head-in-Atom-clause-keeps c = Extends-trans c.way.invariant.keeps c.close_term.ensures.keeps

pub returns-in-Atom-clause-keeps : goal.returns-in-Atom-clause-keeps
returns-in-Atom-clause-keeps c = Extends-trans c.way.invariant.keeps c.in_ok-head-in-Atom.ensures.keeps

pub side_of-requires : goal.side_of-requires
side_of-requires c = lt_trans c.in-With.ensures.shown.parts.0 c.way.invariant.inside

pub returns-in_err-side-in-With-clause-keeps : goal.returns-in_err-side-in-With-clause-keeps
returns-in_err-side-in-With-clause-keeps c = c.way.invariant.keeps

pub way-smaller-in-With : goal.way-smaller-in-With
way-smaller-in-With c = side_low (length (ways (form_tree c.way.bank c.in-With.left.0))) c.way.leaf c.way.form.0 c.in-With.left c.in-With.right
    c.in_ok-side-in-With.side c.in_ok-side-in-With.ensures c.in-With.ensures.shown.parts

pub way-preserved-in-With : goal.way-preserved-in-With
way-preserved-in-With c =
    way_side c.args.bank.now c.args.clause.0 c.args.leaf (term_trees c.args.bank.now c.args.values.now) c.way.bank c.way.form c.way.leaf c.way.passed
    c.way.premises.items c.way.invariant c.in-With.left c.in-With.right c.in_ok-side-in-With.side c.in-With.ensures.shown
    c.in_ok-side-in-With.ensures

pub slice_bounds-close_form-end : goal.slice_bounds-close_form-end
slice_bounds-close_form-end c = passed_taken c.args.bank.now c.args.values.now c.way.passed c.way.invariant.within

pub close_form-requires-clause-inside : goal.close_form-requires-clause-inside
close_form-requires-clause-inside c = lt_trans c.in-Lolli.ensures.shown.parts.0 c.way.invariant.inside

pub close_form-requires-clause-values : goal.close_form-requires-clause-values
close_form-requires-clause-values c = values_passed c.way.invariant.keeps c.args.values.now c.way.passed c.requires.values

pub returns-in_err-goal-in-Lolli-clause-keeps : goal.returns-in_err-goal-in-Lolli-clause-keeps
returns-in_err-goal-in-Lolli-clause-keeps c = Extends-trans c.way.invariant.keeps c.close_form.ensures.keeps

pub returns-in_err-push-in-Lolli-clause-keeps : goal.returns-in_err-push-in-Lolli-clause-keeps
returns-in_err-push-in-Lolli-clause-keeps c = Extends-trans c.way.invariant.keeps c.in_ok-goal-in-Lolli.ensures.keeps

pub way-smaller-in-Lolli : goal.way-smaller-in-Lolli
way-smaller-in-Lolli c = c.in-Lolli.ensures.shown.parts.1

pub slice_bounds-close_form-end-in-Imp : goal.slice_bounds-close_form-end-in-Imp
slice_bounds-close_form-end-in-Imp c = passed_taken c.args.bank.now c.args.values.now c.way.passed c.way.invariant.within

pub close_form-requires-in-Imp-clause-inside : goal.close_form-requires-in-Imp-clause-inside
close_form-requires-in-Imp-clause-inside c =
    lt_trans c.in-Imp.ensures.shown.parts.0 c.way.invariant.inside

pub close_form-requires-in-Imp-clause-values : goal.close_form-requires-in-Imp-clause-values
close_form-requires-in-Imp-clause-values c = values_passed c.way.invariant.keeps c.args.values.now c.way.passed c.requires.values

pub returns-in_err-goal-in-Imp-clause-keeps : goal.returns-in_err-goal-in-Imp-clause-keeps
returns-in_err-goal-in-Imp-clause-keeps c = Extends-trans c.way.invariant.keeps c.close_form-in-Imp.ensures.keeps

pub returns-in_err-push-in-Imp-clause-keeps : goal.returns-in_err-push-in-Imp-clause-keeps
returns-in_err-push-in-Imp-clause-keeps c = Extends-trans c.way.invariant.keeps c.in_ok-goal-in-Imp.ensures.keeps

pub way-smaller-in-Imp : goal.way-smaller-in-Imp
way-smaller-in-Imp c = c.in-Imp.ensures.shown.parts.1

pub returns-then-passed-values-2-clause-opened : goal.returns-then-passed-values-2-clause-opened
returns-then-passed-values-2-clause-opened c =
    way_short c.args.bank.now c.args.clause.0 c.args.leaf (term_trees c.args.bank.now c.args.values.now) c.way.bank c.way.form c.way.leaf c.way.passed
    c.way.premises.items c.way.invariant c.in-Forall.body c.in-Forall.ensures.shown
    (passed_all c.args.bank.now c.args.values.now c.way.passed c.if-passed-values-2.true)

pub returns-then-passed-values-2-clause-keeps : goal.returns-then-passed-values-2-clause-keeps
returns-then-passed-values-2-clause-keeps c = c.way.invariant.keeps

pub way-smaller : goal.way-smaller
way-smaller c = c.in-Forall.ensures.shown.parts

pub returns-in_default : goal.returns-in_default
returns-in_default c = record {
  opened = way_other c.args.bank.now c.args.clause.0 c.args.leaf (term_trees c.args.bank.now c.args.values.now) c.way.bank c.way.form c.way.leaf c.way.passed
      c.way.premises.items c.way.invariant c.form_at.result c.form_at.ensures.shown c.in_default.not-Atom c.in_default.not-With c.in_default.not-Lolli
      c.in_default.not-Imp c.in_default.not-Forall;
  keeps = c.way.invariant.keeps;
}

pub returns-in_err-head-in-Atom-clause-opened : goal.returns-in_err-head-in-Atom-clause-opened
returns-in_err-head-in-Atom-clause-opened c = IfOk-from_err c.from_residual.result _ c.from_residual.ensures.0

pub returns-in_err-side-in-With-clause-opened : goal.returns-in_err-side-in-With-clause-opened
returns-in_err-side-in-With-clause-opened c = IfOk-from_err c.from_residual-in_err-side-in-With.result _ c.from_residual-in_err-side-in-With.ensures.0

pub returns-in_err-goal-in-Lolli-clause-opened : goal.returns-in_err-goal-in-Lolli-clause-opened
returns-in_err-goal-in-Lolli-clause-opened c = IfOk-from_err c.from_residual-in_err-goal-in-Lolli.result _ c.from_residual-in_err-goal-in-Lolli.ensures.0

pub returns-in_err-push-in-Lolli-clause-opened : goal.returns-in_err-push-in-Lolli-clause-opened
returns-in_err-push-in-Lolli-clause-opened c = IfOk-from_err c.from_residual-in_err-push-in-Lolli.result _ c.from_residual-in_err-push-in-Lolli.ensures.0

pub returns-in_err-goal-in-Imp-clause-opened : goal.returns-in_err-goal-in-Imp-clause-opened
returns-in_err-goal-in-Imp-clause-opened c = IfOk-from_err c.from_residual-in_err-goal-in-Imp.result _ c.from_residual-in_err-goal-in-Imp.ensures.0

pub returns-in_err-push-in-Imp-clause-opened : goal.returns-in_err-push-in-Imp-clause-opened
returns-in_err-push-in-Imp-clause-opened c = IfOk-from_err c.from_residual-in_err-push-in-Imp.result _ c.from_residual-in_err-push-in-Imp.ensures.0
