use Rattle.std.proofs.Common.{arith}
use Rattle.std.proofs.lemmas.Result.{IfOk-from_err}
use Rattle.std.specs.Ordering.{nat_cmp}
use Rattle.std.specs.BTreeSet.{contains}
use Rattle.ll_sequent.proofs.FormConstants.{form_at, gathers_next}
use Rattle.ll_sequent.proofs.constants.gather_all.Goals as goal

pub gather-requires : goal.gather-requires
gather-requires c = form_at c.args.bank.now c.args.clauses.now c.loop-each.each-index (record { label = 0; form = record { 0 = 0 } }) c.requires (omega arith)

pub loop-each-preserved : goal.loop-each-preserved
loop-each-preserved c =
    gathers_next c.args.bank.now (contains nat_cmp c.args.terms.now) (contains nat_cmp c.loop-each.terms) (contains nat_cmp c.gather.new.terms)
    c.args.clauses.now c.loop-each.each-index
    (record { label = 0; form = record { 0 = 0 } }) (omega arith) c.loop-each.invariant c.in_ok-gather.ensures

pub returns-in_err-gather : goal.returns-in_err-gather
returns-in_err-gather c = IfOk-from_err c.from_residual.result _ c.from_residual.ensures.0
