use Rattle.std.proofs.lemmas.Result.{IfOk-from_err}
use Rattle.std.proofs.Common.{ap, sym, subst}
use Rattle.std.specs.Arc.{arc_value}
use Rattle.ll_laws.specs.Problem.{ProblemTree}
use Rattle.ll_index.specs.declared.index.Index.{Index}
use Rattle.ll_freeze.specs.Indexed.{IsIndexOf}
use Rattle.ll_engine.proofs.split.split_off.Goals as goal

pub with_index-requires : goal.with_index-requires
with_index-requires c =
    let same = ap (λ f. f.problem) c.in_ok-batch.ensures in
    record {
      index = subst (λ (p : ProblemTree). IsIndexOf p (arc_value c.in_ok-index.index)) (sym same)
          (subst (λ (x : Index). IsIndexOf c.args.machine.now.problem.now x) (sym c.in_ok-index.ensures) c.requires.index);
    }

pub returns : goal.returns
returns c = rw c.with_index.ensures c.in_ok-batch.ensures

pub returns-in_err-batch : goal.returns-in_err-batch
returns-in_err-batch c = IfOk-from_err c.from_residual.result _ c.from_residual.ensures.0

pub returns-in_err-index : goal.returns-in_err-index
returns-in_err-index c = IfOk-from_err c.from_residual-in_err-index.result _ c.from_residual-in_err-index.ensures.0
