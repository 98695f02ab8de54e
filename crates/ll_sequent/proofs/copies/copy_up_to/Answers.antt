use Rattle.std.proofs.Common.{sym, subst, length, ap, arith}
use Rattle.std.proofs.lemmas.Result.{IfOk-from_err}
use Rattle.std.proofs.lemmas.List.{length_push}
use Rattle.ll_bank.specs.Nodes.{term_tree, ShowsTerm}
use Rattle.ll_bank.proofs.CallerLemmas.{Extends-refl, Extends-trans}
use Rattle.ll_sequent.specs.Copied.{AreCopies}
use Rattle.ll_sequent.proofs.CopyLemmas.{copies_more}
use Rattle.ll_sequent.proofs.copies.copy_up_to.Goals as goal

pub loop-last-init : goal.loop-last-init
loop-last-init c = record { copies = c.requires.copies; more = omega arith; keeps = Extends-refl c.args.bank.now }

pub copied-requires-clause-copies : goal.copied-requires-clause-copies
copied-requires-clause-copies c = subst (AreCopies c.args.terms.now c.loop-last.bank) (sym c.deref.ensures.value) c.loop-last.invariant.copies

pub returns-in_err-copy-clause-keeps : goal.returns-in_err-copy-clause-keeps
returns-in_err-copy-clause-keeps c = Extends-trans c.loop-last.invariant.keeps c.copied.ensures.keeps

pub returns-in_err-push-clause-keeps : goal.returns-in_err-push-clause-keeps
returns-in_err-push-clause-keeps c = Extends-trans c.loop-last.invariant.keeps c.in_ok-copy.ensures.keeps

pub loop-last-preserved : goal.loop-last-preserved
loop-last-preserved c = record {
  copies = subst (AreCopies c.args.terms.now c.copied.new.bank) (sym c.in_ok-push.ensures.items)
      (copies_more c.args.terms.now c.loop-last.bank c.copied.new.bank c.in_ok-copy.ensures.keeps c.loop-last.copies.items c.in_ok-copy.copy
      c.loop-last.invariant.copies
      (subst (λ n. ShowsTerm c.copied.new.bank c.in_ok-copy.copy.0 (term_tree c.args.terms.now n)) (omega arith) c.in_ok-copy.ensures.shows));
  more = let push = ap length c.in_ok-push.ensures.items in let one = length_push c.loop-last.copies.items c.in_ok-copy.copy in
      let so_far = c.loop-last.invariant.more in omega arith;
  keeps = Extends-trans c.loop-last.invariant.keeps c.in_ok-copy.ensures.keeps;
}

pub returns-in_err-copy-clause-copies : goal.returns-in_err-copy-clause-copies
returns-in_err-copy-clause-copies c = IfOk-from_err c.from_residual.result _ c.from_residual.ensures.0

pub returns-in_err-copy-clause-reach : goal.returns-in_err-copy-clause-reach
returns-in_err-copy-clause-reach c = IfOk-from_err c.from_residual.result _ c.from_residual.ensures.0

pub returns-in_err-copy-clause-more : goal.returns-in_err-copy-clause-more
returns-in_err-copy-clause-more c = IfOk-from_err c.from_residual.result _ c.from_residual.ensures.0

pub returns-in_err-push-clause-copies : goal.returns-in_err-push-clause-copies
returns-in_err-push-clause-copies c = IfOk-from_err c.from_residual-in_err-push.result _ c.from_residual-in_err-push.ensures.0

pub returns-in_err-push-clause-reach : goal.returns-in_err-push-clause-reach
returns-in_err-push-clause-reach c = IfOk-from_err c.from_residual-in_err-push.result _ c.from_residual-in_err-push.ensures.0

pub returns-in_err-push-clause-more : goal.returns-in_err-push-clause-more
returns-in_err-push-clause-more c = IfOk-from_err c.from_residual-in_err-push.result _ c.from_residual-in_err-push.ensures.0
