use Rattle.std.proofs.Common.{◌<◌, ◌++◌, [], map, All, length, subst, sym}
use Rattle.std.proofs.lemmas.Result.{IfOk-weaker, IfOk-from_err}
use Rattle.ll_parser.specs.Nodes.{shown_clause, shown_module}
use Rattle.ll_parser.specs.declared.RawModule.{RawModule}
use Rattle.ll_parser.specs.Reads.{IsWhole}
use Rattle.ll_parser.specs.Text.{programs}
use Rattle.ll_polarity.specs.Faults.{heading, clauses_faults, modules_faults, program_faults}
use Rattle.ll_polarity.specs.Pending.{IsHead}
use Rattle.ll_polarity.specs.Ready.{AreClausesReady, IsModuleReady}
use Rattle.ll_polarity.proofs.naming.Named.{whole_program_named}
use Rattle.ll_polarity.proofs.faults.Judging.{program-clauses-ready, program-modules-ready, headings-known}
use Rattle.ll_polarity.proofs.judge.judge_program.Goals as goal

pub own_headings-requires : goal.own_headings-requires
own_headings-requires c =
    let p = c.program.inside in let whole = subst (IsWhole programs) (sym c.program.view_is) c.requires.whole in
    let ready = program-modules-ready p.names p.forms p.clauses.items p.modules.items (whole_program_named _ whole) c.program.invariant.1 in
    subst (All (λ (m : RawModule). m.name.name < length p.names)) (sym c.deref.ensures.value) (λ k d l. (ready k d l).name)

pub rows_fault-requires-clause-clauses : goal.rows_fault-requires-clause-clauses
rows_fault-requires-clause-clauses c =
    let p = c.program.inside in let whole = subst (IsWhole programs) (sym c.program.view_is) c.requires.whole in
    subst (AreClausesReady p.names p.forms) (sym c.deref-2.ensures.value)
    (program-clauses-ready p.names p.forms p.clauses.items p.modules.items (whole_program_named _ whole) c.program.invariant.0)

pub rows_fault-requires-clause-modules : goal.rows_fault-requires-clause-modules
rows_fault-requires-clause-modules c =
    let p = c.program.inside in let whole = subst (IsWhole programs) (sym c.program.view_is) c.requires.whole in
    subst (All (IsModuleReady p.names p.forms)) (sym c.deref-3.ensures.value)
    (program-modules-ready p.names p.forms p.clauses.items p.modules.items (whole_program_named _ whole) c.program.invariant.1)

pub returns : goal.returns
returns c =
    IfOk-weaker c.rows_fault.result _ _ (λ fault first.
    let p = c.program.inside in
    let ms = map heading (map (shown_module p.names p.forms) p.modules.items) in
    let known = headings-known p.names p.forms c.in_ok-headings.headings.params p.modules.items c.deref.result.now c.deref.ensures.value
    c.in_ok-headings.ensures in
    subst (λ tree. IsHead fault (program_faults tree)) c.program.view_is
    (subst (λ rs. IsHead fault (clauses_faults ms [] (map (shown_clause p.names p.forms) p.clauses.items)
    ++ modules_faults ms [] (map (shown_module p.names p.forms) rs))) c.deref-3.ensures.value
    (subst (λ cs. IsHead fault (clauses_faults ms [] (map (shown_clause p.names p.forms) cs)
    ++ modules_faults ms [] (map (shown_module p.names p.forms) c.deref-3.result.now))) c.deref-2.ensures.value (first ms known)))) c.rows_fault.ensures

pub returns-in_err-headings : goal.returns-in_err-headings
returns-in_err-headings c = IfOk-from_err c.from_residual.result _ c.from_residual.ensures.0
