use Rattle.std.proofs.lemmas.Result.{IfOk-from_err}
use Rattle.std.proofs.Common.{ap, sym, ◌∙◌, arith, true≢false}
use Rattle.std.proofs.lemmas.List.{length-map}
use Rattle.ll_bank.specs.declared.At.{At}
use Rattle.ll_bank.specs.Term.{head_of}
use Rattle.ll_bank.specs.Nodes.{term_tree, term_trees}
use Rattle.ll_bank.specs.Pairs.{AreEqual}
use Rattle.ll_bank.proofs.Trees.{AllInTerms-below}
use Rattle.ll_bank.proofs.PairLemmas.{two-signs, not-applied, other-head, other-count, one-head, inside-more, var-int}
use Rattle.ll_bank.proofs.pairs.open.Goals as goal

pub returns-in-App-term_at-clause-equal : goal.returns-in-App-term_at-clause-equal
returns-in-App-term_at-clause-equal c =
    two-signs (AreEqual c.args.bank.now c.args.other.now c.args.pairs.now.items) (term_tree c.args.bank.now c.args.pair.left.0)
    (term_tree c.args.other.now c.args.pair.right.0)
    (λ e. not-applied (term_tree c.args.bank.now c.args.pair.left.0) (term_tree c.args.other.now c.args.pair.right.0) c.in-App-term_at.field-0
    (term_trees c.args.other.now c.in-App-term_at.field-1.now)
    c.in-App-term_at.ensures.shown.0 (ap head_of c.in-Var.ensures.shown) e)

pub returns-in-App-term_at-2-clause-equal : goal.returns-in-App-term_at-2-clause-equal
returns-in-App-term_at-2-clause-equal c =
    two-signs (AreEqual c.args.bank.now c.args.other.now c.args.pairs.now.items) (term_tree c.args.bank.now c.args.pair.left.0)
    (term_tree c.args.other.now c.args.pair.right.0)
    (λ e. not-applied (term_tree c.args.bank.now c.args.pair.left.0) (term_tree c.args.other.now c.args.pair.right.0) c.in-App-term_at-2.field-0
    (term_trees c.args.other.now c.in-App-term_at-2.field-1.now)
    c.in-App-term_at-2.ensures.shown.0 (ap head_of c.in-Int.ensures.shown) e)

pub returns-in-Var-term_at-3-clause-equal : goal.returns-in-Var-term_at-3-clause-equal
returns-in-Var-term_at-3-clause-equal c =
    two-signs (AreEqual c.args.bank.now c.args.other.now c.args.pairs.now.items) (term_tree c.args.bank.now c.args.pair.left.0)
    (term_tree c.args.other.now c.args.pair.right.0)
    (λ e. not-applied (term_tree c.args.other.now c.args.pair.right.0) (term_tree c.args.bank.now c.args.pair.left.0) c.in-App.head
    (term_trees c.args.bank.now c.in-App.args.now)
    c.in-App.ensures.shown.0 (ap head_of c.in-Var-term_at-3.ensures.shown) (sym e))

pub returns-in-Int-term_at-3-clause-equal : goal.returns-in-Int-term_at-3-clause-equal
returns-in-Int-term_at-3-clause-equal c =
    two-signs (AreEqual c.args.bank.now c.args.other.now c.args.pairs.now.items) (term_tree c.args.bank.now c.args.pair.left.0)
    (term_tree c.args.other.now c.args.pair.right.0)
    (λ e. not-applied (term_tree c.args.other.now c.args.pair.right.0) (term_tree c.args.bank.now c.args.pair.left.0) c.in-App.head
    (term_trees c.args.bank.now c.in-App.args.now)
    c.in-App.ensures.shown.0 (ap head_of c.in-Int-term_at-3.ensures.shown) (sym e))

pub returns-in_ok-push_all-in-App-term_at-3-clause-inside : goal.returns-in_ok-push_all-in-App-term_at-3-clause-inside
returns-in_ok-push_all-in-App-term_at-3-clause-inside c =
    inside-more c.args.bank.now c.args.other.now c.args.pairs.now.items c.push_all.new.pairs.items c.in-App.args.now c.in-App-term_at-3.others.now
    c.requires.inside
    (AllInTerms-below c.args.bank.now c.args.pair.left.0 c.in-App.args.now c.requires.left c.in-App.ensures.shown.1)
    (AllInTerms-below c.args.other.now c.args.pair.right.0 c.in-App-term_at-3.others.now c.requires.right c.in-App-term_at-3.ensures.shown.1)
    c.in_ok-push_all-in-App-term_at-3.ensures.left c.in_ok-push_all-in-App-term_at-3.ensures.right

pub returns-in_ok-push_all-in-App-term_at-3-clause-equal : goal.returns-in_ok-push_all-in-App-term_at-3-clause-equal
returns-in_ok-push_all-in-App-term_at-3-clause-equal c =
    one-head c.args.bank.now c.args.other.now c.args.pairs.now.items c.push_all.new.pairs.items c.in-App.args.now c.in-App-term_at-3.others.now (omega arith)
    c.in_ok-push_all-in-App-term_at-3.ensures.left c.in_ok-push_all-in-App-term_at-3.ensures.right c.in-App.head c.in-App-term_at-3.same
    (term_tree c.args.bank.now c.args.pair.left.0) (term_tree c.args.other.now c.args.pair.right.0) c.in-App.ensures.shown.0 c.in-App-term_at-3.ensures.shown.0
    (c.is_same_head.ensures.0 c.if-not-is_same_head.false)

pub returns-then-not-is_same_head-clause-equal : goal.returns-then-not-is_same_head-clause-equal
returns-then-not-is_same_head-clause-equal c =
    two-signs (AreEqual c.args.bank.now c.args.other.now c.args.pairs.now.items) (term_tree c.args.bank.now c.args.pair.left.0)
    (term_tree c.args.other.now c.args.pair.right.0)
    (other-head c.in-App.head c.in-App-term_at-3.same (term_trees c.args.bank.now c.in-App.args.now) (term_trees c.args.other.now c.in-App-term_at-3.others.now)
    (term_tree c.args.bank.now c.args.pair.left.0) (term_tree c.args.other.now c.args.pair.right.0) c.in-App.ensures.shown.0 c.in-App-term_at-3.ensures.shown.0
    (λ e. true≢false (sym (c.is_same_head.ensures.1 e) ∙ c.if-not-is_same_head.true)))

pub returns-then-args-others-clause-equal : goal.returns-then-args-others-clause-equal
returns-then-args-others-clause-equal c =
    two-signs (AreEqual c.args.bank.now c.args.other.now c.args.pairs.now.items) (term_tree c.args.bank.now c.args.pair.left.0)
    (term_tree c.args.other.now c.args.pair.right.0)
    (other-count c.in-App.head c.in-App-term_at-3.same (term_trees c.args.bank.now c.in-App.args.now)
    (term_trees c.args.other.now c.in-App-term_at-3.others.now)
    (term_tree c.args.bank.now c.args.pair.left.0) (term_tree c.args.other.now c.args.pair.right.0) c.in-App.ensures.shown.0 c.in-App-term_at-3.ensures.shown.0
    (λ e. c.if-args-others.true (sym (length-map c.in-App.args.now (λ (a : At). term_tree c.args.bank.now a.0))
    ∙ (e ∙ length-map c.in-App-term_at-3.others.now (λ (a : At). term_tree c.args.other.now a.0)))))

pub returns-in_err-push_all-in-App-term_at-3-clause-inside : goal.returns-in_err-push_all-in-App-term_at-3-clause-inside
returns-in_err-push_all-in-App-term_at-3-clause-inside c = IfOk-from_err c.from_residual.result _ c.from_residual.ensures.0

pub returns-in_err-push_all-in-App-term_at-3-clause-equal : goal.returns-in_err-push_all-in-App-term_at-3-clause-equal
returns-in_err-push_all-in-App-term_at-3-clause-equal c = IfOk-from_err c.from_residual.result _ c.from_residual.ensures.0

pub returns-then-not-is_same_head-clause-inside : goal.returns-then-not-is_same_head-clause-inside
returns-then-not-is_same_head-clause-inside c = c.requires.inside

pub returns-then-args-others-clause-inside : goal.returns-then-args-others-clause-inside
returns-then-args-others-clause-inside c = c.requires.inside

pub returns-in-Var-term_at-clause-inside : goal.returns-in-Var-term_at-clause-inside
returns-in-Var-term_at-clause-inside c = c.requires.inside

pub returns-in-Int-term_at-clause-inside : goal.returns-in-Int-term_at-clause-inside
returns-in-Int-term_at-clause-inside c = c.requires.inside

pub returns-in-App-term_at-clause-inside : goal.returns-in-App-term_at-clause-inside
returns-in-App-term_at-clause-inside c = c.requires.inside

pub returns-in-Var-term_at-2-clause-inside : goal.returns-in-Var-term_at-2-clause-inside
returns-in-Var-term_at-2-clause-inside c = c.requires.inside

pub returns-in-Int-term_at-2-clause-inside : goal.returns-in-Int-term_at-2-clause-inside
returns-in-Int-term_at-2-clause-inside c = c.requires.inside

pub returns-in-App-term_at-2-clause-inside : goal.returns-in-App-term_at-2-clause-inside
returns-in-App-term_at-2-clause-inside c = c.requires.inside

pub returns-in-Var-term_at-3-clause-inside : goal.returns-in-Var-term_at-3-clause-inside
returns-in-Var-term_at-3-clause-inside c = c.requires.inside

pub returns-in-Int-term_at-3-clause-inside : goal.returns-in-Int-term_at-3-clause-inside
returns-in-Int-term_at-3-clause-inside c = c.requires.inside

pub term_at-requires : goal.term_at-requires
term_at-requires c = c.requires.left

pub term_at-requires-in-Var : goal.term_at-requires-in-Var
term_at-requires-in-Var c = c.requires.right

pub term_at-requires-in-Int : goal.term_at-requires-in-Int
term_at-requires-in-Int c = c.requires.right

pub term_at-requires-in-App : goal.term_at-requires-in-App
term_at-requires-in-App c = c.requires.right

pub returns-in-Int-term_at-clause-equal : goal.returns-in-Int-term_at-clause-equal
returns-in-Int-term_at-clause-equal c =
    two-signs (AreEqual c.args.bank.now c.args.other.now c.args.pairs.now.items) (term_tree c.args.bank.now c.args.pair.left.0)
    (term_tree c.args.other.now c.args.pair.right.0)
    (var-int (term_tree c.args.bank.now c.args.pair.left.0) (term_tree c.args.other.now c.args.pair.right.0) c.in-Var.number c.in-Int-term_at.field-0
    c.in-Var.ensures.shown c.in-Int-term_at.ensures.shown)

pub returns-in-Var-term_at-2-clause-equal : goal.returns-in-Var-term_at-2-clause-equal
returns-in-Var-term_at-2-clause-equal c =
    two-signs (AreEqual c.args.bank.now c.args.other.now c.args.pairs.now.items) (term_tree c.args.bank.now c.args.pair.left.0)
    (term_tree c.args.other.now c.args.pair.right.0)
    (λ e. var-int (term_tree c.args.other.now c.args.pair.right.0) (term_tree c.args.bank.now c.args.pair.left.0) c.in-Var-term_at-2.field-0 c.in-Int.value
    c.in-Var-term_at-2.ensures.shown c.in-Int.ensures.shown (sym e))
