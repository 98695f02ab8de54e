use Rattle.std.proofs.Common.{◌≡◌, ap, sym, subst, ◌∙◌}
use Rattle.std.specs.Prelude.{IfOk}
use Rattle.ll_bank.specs.Term.{sub}
use Rattle.ll_store.specs.Tables.{table_of}
use Rattle.ll_unify.specs.Bindings.{found, count}
use Rattle.ll_unify.proofs.CallerLemmas.{found-bound, found-free}
use Rattle.ll_laws.specs.Unify.{vars_below}
use Rattle.ll_index.specs.declared.laws.First.{First}
use Rattle.ll_index.specs.First.{sign_of}
use Rattle.ll_engine.proofs.matching.ClosedLemmas.{sign_past, value_place}
use Rattle.ll_engine.proofs.heads.sign_of_bound.Goals as goal

pub returns-in_default : goal.returns-in_default
returns-in_default c =
    let s = c.args.store.now in
    sym (sign_past (found s.bank (table_of s.cells.cells)) c.args.environment.end c.args.environment.count c.args.bound 0 c.in_default.ensures.none)

pub sign_under-requires-clause-place : goal.sign_under-requires-clause-place
sign_under-requires-clause-place c =
    let s = c.args.store.now in let t = table_of s.cells.cells in
    value_place s.bank t c.in-Some.var c.in-Some-value.to c.requires.table
    (ap (λ u. vars_below (count t) (sub (found s.bank t) u)) (sym (c.in-Some.ensures.is 0)) ∙ c.requires.cells) c.in-Some-value.ensures

pub returns-in-Some-value : goal.returns-in-Some-value
returns-in-Some-value c =
    let s = c.args.store.now in let t = table_of s.cells.cells in
    let e = ap sign_of (sym (found-bound s.bank t c.in-Some.var c.in-Some-value.to c.requires.table c.in-Some-value.ensures))
    ∙ ap (λ u. sign_of (sub (found s.bank t) u)) (sym (c.in-Some.ensures.is 0)) in
    subst (λ sign. IfOk c.sign_under.result (λ (first : First). first ≡ sign)) e c.sign_under.ensures

pub returns-in-None : goal.returns-in-None
returns-in-None c =
    let s = c.args.store.now in let t = table_of s.cells.cells in
    sym (ap (λ u. sign_of (sub (found s.bank t) u)) (c.in-Some.ensures.is 0) ∙ ap sign_of (found-free s.bank t c.in-Some.var c.in-None.ensures))
