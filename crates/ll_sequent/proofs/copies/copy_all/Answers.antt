use Rattle.std.proofs.Common.{◌<◌, length, take, subst, arith}
use Rattle.std.proofs.lemmas.Result.{IfOk-from_err}
use Rattle.std.proofs.lemmas.List.{take_all}
use Rattle.std.proofs.lemmas.List.Elements.{All-more}
use Rattle.ll_bank.specs.declared.At.{At}
use Rattle.ll_bank.proofs.CallerLemmas.{Extends-refl, Extends-trans}
use Rattle.ll_sequent.specs.Copied.{AreBelow}
use Rattle.ll_sequent.proofs.CopyLemmas.{below_more}
use Rattle.ll_sequent.proofs.copies.copy_all.Goals as goal

pub loop-i-init : goal.loop-i-init
loop-i-init c = record { copies = c.requires.copies; reach = λ k d l. absurd (omega arith); more = omega arith; keeps = Extends-refl c.args.bank.now }

pub returns-in_err-copy_up_to-clause-keeps : goal.returns-in_err-copy_up_to-clause-keeps
returns-in_err-copy_up_to-clause-keeps c = Extends-trans c.loop-i.invariant.keeps c.copy_up_to.ensures.keeps

pub loop-i-preserved : goal.loop-i-preserved
loop-i-preserved c = record {
  copies = c.in_ok-copy_up_to.ensures.copies;
  reach = All-more (λ (a : At). a.0 < length c.copy_up_to.new.copies.items) c.args.places.now c.loop-i.i (record { 0 = 0 }) (omega arith)
      (below_more (length c.loop-i.copies.items) (length c.copy_up_to.new.copies.items) c.in_ok-copy_up_to.ensures.more (take c.loop-i.i c.args.places.now)
      c.loop-i.invariant.reach)
      c.in_ok-copy_up_to.ensures.reach;
  more = let so_far = c.loop-i.invariant.more in let more = c.in_ok-copy_up_to.ensures.more in omega arith;
  keeps = Extends-trans c.loop-i.invariant.keeps c.in_ok-copy_up_to.ensures.keeps;
}

pub returns-clause-reach : goal.returns-clause-reach
returns-clause-reach c = subst (AreBelow (length c.loop-i.copies.items)) (take_all c.loop-i.i c.args.places.now (omega arith)) c.loop-i.invariant.reach

pub returns-in_err-copy_up_to-clause-copies : goal.returns-in_err-copy_up_to-clause-copies
returns-in_err-copy_up_to-clause-copies c = IfOk-from_err c.from_residual.result _ c.from_residual.ensures.0

pub returns-in_err-copy_up_to-clause-reach : goal.returns-in_err-copy_up_to-clause-reach
returns-in_err-copy_up_to-clause-reach c = IfOk-from_err c.from_residual.result _ c.from_residual.ensures.0

pub returns-in_err-copy_up_to-clause-more : goal.returns-in_err-copy_up_to-clause-more
returns-in_err-copy_up_to-clause-more c = IfOk-from_err c.from_residual.result _ c.from_residual.ensures.0

pub returns-clause-copies : goal.returns-clause-copies
returns-clause-copies c = c.loop-i.invariant.copies

pub returns-clause-more : goal.returns-clause-more
returns-clause-more c = c.loop-i.invariant.more

pub returns-clause-keeps : goal.returns-clause-keeps
returns-clause-keeps c = c.loop-i.invariant.keeps
