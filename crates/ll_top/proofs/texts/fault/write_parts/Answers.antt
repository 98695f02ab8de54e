use Rattle.std.proofs.lemmas.Result.{IfOk-from_err}
use Rattle.std.proofs.Common.{arith, ap, ◌∙◌, Some}
use Rattle.ll_edge.proofs.CallerLemmas.{taken_front}
use Rattle.ll_list_laws.proofs.CallerLemmas.{OnErr-always}
use Rattle.ll_top.proofs.judging.PartsLemmas.{one-written, part-cut}
use Rattle.ll_top.proofs.texts.fault.write_parts.Goals as goal

pub returns-in_err-write_all-clause-prefix : goal.returns-in_err-write_all-clause-prefix
returns-in_err-write_all-clause-prefix g c =
    OnErr-always _ (part-cut c.args.parts.now c.loop-part.part-index _ c.loop-part-test.true _ _ _ c.loop-part.invariant.parts
    (taken_front (rw c.as_bytes.ensures.value at c.in_err-write_all.ensures.takes_front)))

pub loop-part-preserved : goal.loop-part-preserved
loop-part-preserved g c = record {
  parts = one-written c.args.parts.now c.loop-part.part-index _ c.loop-part-test.true _ _ _ c.loop-part.invariant.parts
      (ap Some (rw c.as_bytes.ensures.value at c.in_ok-write_all.ensures.takes));
  faults = c.in_ok-write_all.ensures.no_fault ∙ c.loop-part.invariant.faults;
}

pub returns-in_err-write_all-clause-line : goal.returns-in_err-write_all-clause-line
returns-in_err-write_all-clause-line g c = IfOk-from_err c.from_residual.result _ c.from_residual.ensures.0

pub returns-clause-failed : goal.returns-clause-failed
returns-clause-failed g c = _

pub returns-clause-prefix : goal.returns-clause-prefix
returns-clause-prefix g c = _

pub returns-clause-faults_kept : goal.returns-clause-faults_kept
returns-clause-faults_kept g c = let h = c.loop-part.invariant.faults in omega arith

pub returns-in_err-write_all-clause-faults_kept : goal.returns-in_err-write_all-clause-faults_kept
returns-in_err-write_all-clause-faults_kept g c = let h = c.loop-part.invariant.faults in let k = c.in_err-write_all.ensures.faults_kept in omega arith

pub returns-clause-quiet : goal.returns-clause-quiet
returns-clause-quiet g c = c.loop-part.invariant.faults

pub returns-in_err-write_all-clause-quiet : goal.returns-in_err-write_all-clause-quiet
returns-in_err-write_all-clause-quiet g c = IfOk-from_err c.from_residual.result _ c.from_residual.ensures.0
