use Rattle.std.proofs.Common.{◌≡◌, sym, subst, true}
use Rattle.std.specs.BTreeMap.{get}
use Rattle.ll_bank.specs.Term.{close, applies_heads}
use Rattle.ll_bank.specs.Nodes.{term_tree, ShowsTerm}
use Rattle.ll_bank.specs.Instantiated.{by_spot, opened, IsTermImage}
use Rattle.ll_bank.specs.Opened.{AreImages}
use Rattle.std.proofs.lemmas.Result.{IfOk-from_err}
use Rattle.ll_bank.proofs.Trees.{Extends-trans, HasTerm-extends, term_tree-extends, ShowsTerm-extends}
use Rattle.ll_bank.proofs.OpenLemmas.{term_good_now}
use Rattle.ll_bank.proofs.open.open_two.Goals as goal

pub open_term-requires-clause-inside : goal.open_term-requires-clause-inside
open_term-requires-clause-inside c = c.requires.left

pub open_term-requires-clause-value : goal.open_term-requires-clause-value
open_term-requires-clause-value c = c.requires.value

pub open_term-requires-clause-heads : goal.open_term-requires-clause-heads
open_term-requires-clause-heads c = c.requires.left_heads

pub open_term-requires-clause-images : goal.open_term-requires-clause-images
open_term-requires-clause-images c = c.requires.images

pub returns-in_err-first-clause-left : goal.returns-in_err-first-clause-left
returns-in_err-first-clause-left c = IfOk-from_err c.from_residual.result _ c.from_residual.ensures.0

pub returns-in_err-first-clause-right : goal.returns-in_err-first-clause-right
returns-in_err-first-clause-right c = IfOk-from_err c.from_residual.result _ c.from_residual.ensures.0

pub returns-in_err-first-clause-images : goal.returns-in_err-first-clause-images
returns-in_err-first-clause-images c = IfOk-from_err c.from_residual.result _ c.from_residual.ensures.0

pub returns-in_err-first-clause-keeps : goal.returns-in_err-first-clause-keeps
returns-in_err-first-clause-keeps c = c.open_term.ensures.keeps

pub open_term-requires-2-clause-inside : goal.open_term-requires-2-clause-inside
open_term-requires-2-clause-inside c = HasTerm-extends c.open_term.ensures.keeps c.args.right.0 c.requires.right

pub open_term-requires-2-clause-value : goal.open_term-requires-2-clause-value
open_term-requires-2-clause-value c = HasTerm-extends c.open_term.ensures.keeps c.args.value.0 c.requires.value

pub open_term-requires-2-clause-heads : goal.open_term-requires-2-clause-heads
open_term-requires-2-clause-heads c =
    subst (λ t. applies_heads (close (opened t c.args.level) (term_tree c.open_term.new.bank c.args.right.0)) ≡ true)
    (sym (term_tree-extends c.open_term.ensures.keeps c.args.value.0 c.requires.value))
    (term_good_now c.args.bank.now c.open_term.new.bank c.open_term.ensures.keeps (term_tree c.args.bank.now c.args.value.0) (c.args.right.0, c.args.level)
    (c.requires.right, c.requires.right_heads)).1

pub open_term-requires-2-clause-images : goal.open_term-requires-2-clause-images
open_term-requires-2-clause-images c =
    subst (λ t. AreImages (IsTermImage c.open_term.new.bank t) (get by_spot c.open_term.new.images))
    (sym (term_tree-extends c.open_term.ensures.keeps c.args.value.0 c.requires.value)) c.in_ok-first.ensures.images

pub returns-in_err-second-clause-left : goal.returns-in_err-second-clause-left
returns-in_err-second-clause-left c = IfOk-from_err c.from_residual-in_err-second.result _ c.from_residual-in_err-second.ensures.0

pub returns-in_err-second-clause-right : goal.returns-in_err-second-clause-right
returns-in_err-second-clause-right c = IfOk-from_err c.from_residual-in_err-second.result _ c.from_residual-in_err-second.ensures.0

pub returns-in_err-second-clause-images : goal.returns-in_err-second-clause-images
returns-in_err-second-clause-images c = IfOk-from_err c.from_residual-in_err-second.result _ c.from_residual-in_err-second.ensures.0

pub returns-in_err-second-clause-keeps : goal.returns-in_err-second-clause-keeps
returns-in_err-second-clause-keeps c = Extends-trans c.open_term.ensures.keeps c.open_term-2.ensures.keeps

pub returns-clause-left : goal.returns-clause-left
returns-clause-left c = ShowsTerm-extends c.open_term-2.ensures.keeps c.in_ok-first.ensures.shows

pub returns-clause-right : goal.returns-clause-right
returns-clause-right c =
    subst (λ t. ShowsTerm c.open_term-2.new.bank c.in_ok-second.second.0 (close (opened t c.args.level) (term_tree c.args.bank.now c.args.right.0)))
    (term_tree-extends c.open_term.ensures.keeps c.args.value.0 c.requires.value)
    (subst (λ u. ShowsTerm c.open_term-2.new.bank c.in_ok-second.second.0 (close (opened (term_tree c.open_term.new.bank c.args.value.0) c.args.level) u))
    (term_tree-extends c.open_term.ensures.keeps c.args.right.0 c.requires.right) c.in_ok-second.ensures.shows)

pub returns-clause-images : goal.returns-clause-images
returns-clause-images c =
    subst (λ t. AreImages (IsTermImage c.open_term-2.new.bank t) (get by_spot c.open_term-2.new.images))
    (term_tree-extends c.open_term.ensures.keeps c.args.value.0 c.requires.value) c.in_ok-second.ensures.images

pub returns-clause-keeps : goal.returns-clause-keeps
returns-clause-keeps c = Extends-trans c.open_term.ensures.keeps c.open_term-2.ensures.keeps
