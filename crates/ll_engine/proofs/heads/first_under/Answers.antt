use Rattle.std.proofs.Common.{rules, ◌≡◌, ◌<◌, length, subst}
use Rattle.std.specs.Prelude.{IfOk}
use Rattle.ll_store.specs.Tables.{table_of}
use Rattle.ll_bank.specs.Nodes.{term_tree}
use Rattle.ll_unify.specs.Bindings.{found}
use Rattle.ll_index.specs.declared.laws.First.{First}
use Rattle.ll_engine.proofs.matching.SignLemmas.{first_at_place, first_at}
use Rattle.ll_engine.proofs.heads.first_under.Goals as goal

pub sign_under-requires-clause-place : goal.sign_under-requires-clause-place
sign_under-requires-clause-place c =
    let s = c.args.store.now in let some : 0 < length c.in-App.args.now = search rules in
    first_at_place s.bank (table_of s.cells.cells) (term_tree s.bank c.args.at.0) c.in-App.field-0 c.in-App.args.now (record { 0 = 0 }) c.args.at.0
    c.requires.table c.in-App.ensures.shown.0 c.in-App.ensures.shown.1
    c.requires.inside some c.requires.cells

pub returns-else-is_empty : goal.returns-else-is_empty
returns-else-is_empty c =
    let s = c.args.store.now in let some : 0 < length c.in-App.args.now = search rules in
    let e = first_at (found s.bank (table_of s.cells.cells)) s.bank (term_tree s.bank c.args.at.0) c.in-App.field-0 c.in-App.args.now (record { 0 = 0 })
    c.in-App.ensures.shown.0 some in
    subst (λ sign. IfOk c.sign_under.result (λ (first : First). first ≡ sign)) e c.sign_under.ensures
