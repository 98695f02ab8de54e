use Rattle.std.proofs.Common.{[], map, sym, ap, ◌∙◌, slice_index_or}
use Rattle.std.proofs.lemmas.Result.{IfOk-from_err}
use Rattle.std.specs.List.{list_any}
use Rattle.std.specs.Str.{bytes_eq}
use Rattle.ll_polarity.specs.Scope.{Binder}
use Rattle.ll_polarity.proofs.faults.Judging.{repeated-head, first-along}
use Rattle.ll_polarity.proofs.judge.repeated_fault.Goals as goal

pub returns-then-has-clause-first : goal.returns-then-has-clause-first
returns-then-has-clause-first c = λ more.
    let earlier = map (λ (b : Binder). b.text) c.loop-name.binders.scope in
    let name = slice_index_or c.args.names.now c.loop-name.name-index (record { name = 0; at = record { line = 0; column = 0 } }) in
    first-along _ _ _ (c.loop-name.invariant.faults more)
    (repeated-head c.args.binders.now.texts earlier c.args.names.now c.loop-name.name-index _ more c.loop-name-test.true
    (ap (λ ts. list_any (bytes_eq (slice_index_or ts name.name [])) earlier) (sym c.loop-name.invariant.texts) ∙ (sym c.has.ensures ∙ c.if-has.true)))

pub returns-in_err-open-clause-first : goal.returns-in_err-open-clause-first
returns-in_err-open-clause-first c = IfOk-from_err c.from_residual.result _ c.from_residual.ensures.0

pub returns-in_err-open-clause-texts : goal.returns-in_err-open-clause-texts
returns-in_err-open-clause-texts c = IfOk-from_err c.from_residual.result _ c.from_residual.ensures.0
