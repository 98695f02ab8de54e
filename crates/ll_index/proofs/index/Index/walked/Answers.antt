use Rattle.std.proofs.Common.{sym, ◌∙◌, arith}
use Rattle.ll_index.proofs.IndexLemmas.{begins, goes, finds, ends}
use Rattle.ll_index.proofs.index.Index.walked.Goals as goal

pub walk-init : goal.walk-init
walk-init c = λ name arguments e. begins c.args.self.now name arguments c.args.first c.args.from e

pub returns-then-has_sign : goal.returns-then-has_sign
returns-then-has_sign c = λ name arguments e.
    finds c.args.self.now name arguments c.args.first c.walk.at c.index.result.now (c.walk.invariant name arguments e) (omega arith) c.index.ensures
    (sym c.has_sign.ensures ∙ c.if-has_sign.true)

pub walk-preserved : goal.walk-preserved
walk-preserved c = λ name arguments e.
    goes c.args.self.now name arguments c.args.first c.walk.at c.index-at.result.now c.index.result.now (c.walk.invariant name arguments e)
    (omega arith) c.index.ensures (sym c.has_sign.ensures ∙ c.if-has_sign.false) c.index-at.ensures

pub returns : goal.returns
returns c = λ name arguments e. ends c.args.self.now name arguments c.args.first c.walk.at (c.walk.invariant name arguments e) (omega arith)
