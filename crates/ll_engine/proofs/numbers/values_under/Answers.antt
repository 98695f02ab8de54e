use Rattle.std.proofs.Common.{rules, w64, FitsSigned, ap, sym, subst, ◌∙◌}
use Rattle.std.proofs.lemmas.Result.{IfOk-from_err}
use Rattle.ll_bank.proofs.CallerLemmas.{Extends-trans}
use Rattle.ll_unify.specs.Bindings.{Table, IsTable, IsPlaceOf}
use Rattle.ll_unify.proofs.CallerLemmas.{table-extends, place-extends}
use Rattle.ll_store.specs.Tables.{table_of}
use Rattle.ll_laws.specs.Number.{operators_of, value_of}
use Rattle.ll_freeze.specs.Reading.{read_term}
use Rattle.ll_engine.proofs.inferences.NumberLemmas.{value_kept, first_lacks, second_lacks, both_values}
use Rattle.ll_engine.proofs.numbers.values_under.Goals as goal

pub value_under-requires-2-clause-table : goal.value_under-requires-2-clause-table
value_under-requires-2-clause-table c =
    let s = c.args.store.now in let t = c.value_under.new.store in
    subst (λ (u : Table). IsTable t.bank u) (sym (ap (λ cells. table_of cells.cells) c.value_under.ensures.cells))
    (table-extends s.bank t.bank (table_of s.cells.cells) c.requires.table c.value_under.ensures.keeps)

pub value_under-requires-2-clause-place : goal.value_under-requires-2-clause-place
value_under-requires-2-clause-place c =
    let s = c.args.store.now in let t = c.value_under.new.store in
    subst (λ (u : Table). IsPlaceOf t.bank u c.args.right.0) (sym (ap (λ cells. table_of cells.cells) c.value_under.ensures.cells))
    (place-extends s.bank t.bank (table_of s.cells.cells) c.args.right.0 c.requires.table c.value_under.ensures.keeps c.requires.right)

pub returns-in_default-2-clause-values : goal.returns-in_default-2-clause-values
returns-in_default-2-clause-values c test =
    let s = c.args.store.now in let t = c.value_under.new.store in
    second_lacks test _ _
    (value_kept c.args.names.now s.bank t.bank (table_of s.cells.cells) c.requires.table c.value_under.ensures.keeps c.args.right c.requires.right.inside
    c.in_ok-second.field-0
    (c.in_ok-second.ensures.value ∙ ap (λ u. value_of (operators_of c.args.names.now) (read_term t.bank (table_of u.cells).bound c.args.right))
    c.value_under.ensures.cells) ∙ c.in_default-2.is)

pub returns-clause-values : goal.returns-clause-values
returns-clause-values c test =
    let s = c.args.store.now in let t = c.value_under.new.store in
    let f : FitsSigned w64 c.in-Some.first = search rules in
    let g : FitsSigned w64 c.in-Some-2.second = search rules in
    both_values test c.in-Some.first c.in-Some-2.second _ _ f g (sym c.in_ok-first.ensures.value ∙ c.in-Some.is)
    (value_kept c.args.names.now s.bank t.bank (table_of s.cells.cells) c.requires.table c.value_under.ensures.keeps c.args.right c.requires.right.inside
    c.in_ok-second.field-0
    (c.in_ok-second.ensures.value ∙ ap (λ u. value_of (operators_of c.args.names.now) (read_term t.bank (table_of u.cells).bound c.args.right))
    c.value_under.ensures.cells) ∙ c.in-Some-2.is)

pub value_under-requires-clause-table : goal.value_under-requires-clause-table
value_under-requires-clause-table c = c.requires.table

pub value_under-requires-clause-place : goal.value_under-requires-clause-place
value_under-requires-clause-place c = c.requires.left

pub returns-in_err-first-clause-values : goal.returns-in_err-first-clause-values
returns-in_err-first-clause-values c = IfOk-from_err c.from_residual.result _ c.from_residual.ensures.0

pub returns-in_err-first-clause-keeps : goal.returns-in_err-first-clause-keeps
returns-in_err-first-clause-keeps c = c.value_under.ensures.keeps

pub returns-in_err-first-clause-cells : goal.returns-in_err-first-clause-cells
returns-in_err-first-clause-cells c = c.value_under.ensures.cells

pub returns-in_default-clause-keeps : goal.returns-in_default-clause-keeps
returns-in_default-clause-keeps c = c.value_under.ensures.keeps

pub returns-in_default-clause-cells : goal.returns-in_default-clause-cells
returns-in_default-clause-cells c = c.value_under.ensures.cells

pub returns-in_default-clause-values : goal.returns-in_default-clause-values
returns-in_default-clause-values c test = first_lacks test _ _ (sym c.in_ok-first.ensures.value ∙ c.in_default.is)

pub returns-in_err-second-clause-values : goal.returns-in_err-second-clause-values
returns-in_err-second-clause-values c = IfOk-from_err c.from_residual-in_err-second.result _ c.from_residual-in_err-second.ensures.0

pub returns-in_err-second-clause-keeps : goal.returns-in_err-second-clause-keeps
returns-in_err-second-clause-keeps c = Extends-trans c.value_under.ensures.keeps c.value_under-2.ensures.keeps

pub returns-in_err-second-clause-cells : goal.returns-in_err-second-clause-cells
returns-in_err-second-clause-cells c = c.value_under-2.ensures.cells ∙ c.value_under.ensures.cells

pub returns-in_default-2-clause-keeps : goal.returns-in_default-2-clause-keeps
returns-in_default-2-clause-keeps c = Extends-trans c.value_under.ensures.keeps c.value_under-2.ensures.keeps

pub returns-in_default-2-clause-cells : goal.returns-in_default-2-clause-cells
returns-in_default-2-clause-cells c = c.value_under-2.ensures.cells ∙ c.value_under.ensures.cells

pub returns-clause-keeps : goal.returns-clause-keeps
returns-clause-keeps c = Extends-trans c.value_under.ensures.keeps c.value_under-2.ensures.keeps

pub returns-clause-cells : goal.returns-clause-cells
returns-clause-cells c = c.value_under-2.ensures.cells ∙ c.value_under.ensures.cells
