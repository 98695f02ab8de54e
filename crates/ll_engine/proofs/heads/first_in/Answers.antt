use Rattle.std.proofs.Common.{rules, ◌≡◌, ◌<◌, length, subst, sym}
use Rattle.std.specs.Prelude.{IfOk}
use Rattle.ll_bank.specs.Environments.{values_in}
use Rattle.ll_bank.specs.Nodes.{term_tree}
use Rattle.ll_store.specs.Tables.{table_of}
use Rattle.ll_unify.specs.Bindings.{found, count}
use Rattle.ll_index.specs.declared.laws.First.{First}
use Rattle.ll_engine.proofs.matching.ClosedLemmas.{fixed_sign, closed_none, closed_first, closed_below, closed_heads, first_inside}
use Rattle.ll_engine.proofs.heads.first_in.Goals as goal

pub sign_in-requires-clause-inside : goal.sign_in-requires-clause-inside
sign_in-requires-clause-inside c =
    let some : 0 < length c.in-App.args.now = search rules in
    first_inside c.in-App.args.now (record { 0 = 0 }) c.args.at.0 (length c.args.store.now.bank.terms) c.in-App.ensures.shown.1 c.requires.inside some

pub sign_in-requires-clause-cells : goal.sign_in-requires-clause-cells
sign_in-requires-clause-cells c =
    let s = c.args.store.now in let t = table_of s.cells.cells in let u = term_tree s.bank c.args.at.0 in let i = c.in-App in
    let some : 0 < length i.args.now = search rules in
    closed_below (found s.bank t) (values_in c.args.environment) s.bank u i.field-0 (count t) i.args.now (record { 0 = 0 }) i.ensures.shown.0
    (fixed_sign s.bank u i.field-0 i.args.now i.ensures.shown.0 c.requires.begins) some c.requires.cells

pub sign_in-requires-clause-heads : goal.sign_in-requires-clause-heads
sign_in-requires-clause-heads c =
    let s = c.args.store.now in let t = table_of s.cells.cells in let u = term_tree s.bank c.args.at.0 in let i = c.in-App in
    let some : 0 < length i.args.now = search rules in
    closed_heads (found s.bank t) (values_in c.args.environment) s.bank u i.field-0 i.args.now (record { 0 = 0 }) i.ensures.shown.0
    (fixed_sign s.bank u i.field-0 i.args.now i.ensures.shown.0 c.requires.begins) some c.requires.heads

pub returns-then-is_empty : goal.returns-then-is_empty
returns-then-is_empty c =
    let s = c.args.store.now in let t = table_of s.cells.cells in let u = term_tree s.bank c.args.at.0 in let i = c.in-App in
    let none : length i.args.now ≡ 0 = search rules in
    sym (closed_none (found s.bank t) (values_in c.args.environment) s.bank u i.field-0 i.args.now i.ensures.shown.0
    (fixed_sign s.bank u i.field-0 i.args.now i.ensures.shown.0 c.requires.begins) none)

pub returns-else-is_empty : goal.returns-else-is_empty
returns-else-is_empty c =
    let s = c.args.store.now in let t = table_of s.cells.cells in let u = term_tree s.bank c.args.at.0 in let i = c.in-App in
    let some : 0 < length i.args.now = search rules in
    let e = closed_first (found s.bank t) (values_in c.args.environment) s.bank u i.field-0 i.args.now (record { 0 = 0 }) i.ensures.shown.0
    (fixed_sign s.bank u i.field-0 i.args.now i.ensures.shown.0 c.requires.begins) some in
    subst (λ sign. IfOk c.sign_in.result (λ (first : First). first ≡ sign)) e c.sign_in.ensures
