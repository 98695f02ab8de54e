use Rattle.std.proofs.Common.{refl, sym, map, [], ◌∙◌}
use Rattle.std.proofs.lemmas.Result.{IfOk-weaker, IfOk-from_err}
use Rattle.ll_parser.specs.Nodes.{shown_module}
use Rattle.ll_polarity.specs.Faults.{modules_faults}
use Rattle.ll_polarity.proofs.faults.Judging.{head-before, head-after, clauses-head}
use Rattle.ll_polarity.proofs.judge.rows_fault.Goals as goal

pub returns-then-is_some : goal.returns-then-is_some
returns-then-is_some c = λ ms known.
    let names = c.args.source.now.names.now in let forms = c.args.source.now.forms.now in
    head-before c.in_ok-fault.fault _ (modules_faults ms [] (map (shown_module names forms) c.args.modules.now)) (sym c.is_some.ensures ∙ c.if-is_some.true)
    (clauses-head names forms ms c.in_ok-fault.fault c.in_ok-binders.binders c.args.clauses.now c.args.clauses.now c.in_ok-binders.ensures refl
    (c.in_ok-fault.ensures.first ms known))

pub returns : goal.returns
returns c =
    IfOk-weaker c.modules_fault.result _ _ (λ fault first. λ ms known.
    let names = c.args.source.now.names.now in let forms = c.args.source.now.forms.now in
    head-after c.in_ok-fault.fault fault _ _ (sym c.is_some.ensures ∙ c.if-is_some.false)
    (clauses-head names forms ms c.in_ok-fault.fault c.in_ok-binders.binders c.args.clauses.now c.args.clauses.now c.in_ok-binders.ensures refl
    (c.in_ok-fault.ensures.first ms known)) (first ms known)) c.modules_fault.ensures

pub returns-in_err-binders : goal.returns-in_err-binders
returns-in_err-binders c = IfOk-from_err c.from_residual.result _ c.from_residual.ensures.0

pub returns-in_err-fault : goal.returns-in_err-fault
returns-in_err-fault c = IfOk-from_err c.from_residual-in_err-fault.result _ c.from_residual-in_err-fault.ensures.0
