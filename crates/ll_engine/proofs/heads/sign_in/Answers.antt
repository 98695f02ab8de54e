use Rattle.std.proofs.Common.{◌≡◌, length, ap, sym, subst, ◌∙◌}
use Rattle.std.specs.Prelude.{IfOk, Some}
use Rattle.ll_bank.specs.Environments.{values_in}
use Rattle.ll_bank.specs.Nodes.{term_tree, term_trees}
use Rattle.ll_bank.specs.Term.{app, close, not_bound, place, sub}
use Rattle.ll_store.specs.Tables.{table_of}
use Rattle.ll_unify.specs.Bindings.{found, count}
use Rattle.ll_unify.proofs.CallerLemmas.{place-below}
use Rattle.ll_laws.specs.Unify.{vars_below}
use Rattle.ll_index.specs.declared.laws.First.{First}
use Rattle.ll_index.specs.declared.laws.First.TheVariants.{Head as NameSign}
use Rattle.ll_index.specs.First.{name_sign, sign_of}
use Rattle.ll_engine.specs.Matches.{HasCellsIn, read_by}
use Rattle.ll_engine.proofs.matching.ClosedLemmas.{closed_sign, bound_sign, bound_below}
use Rattle.ll_engine.proofs.heads.sign_in.Goals as goal

pub sign_of_bound-requires-clause-cells : goal.sign_of_bound-requires-clause-cells
sign_of_bound-requires-clause-cells c =
    let s = c.args.store.now in let t = table_of s.cells.cells in let i = c.in-App-Bound-default in
    subst (λ k. HasCellsIn s (place (values_in c.args.environment) k 0)) (sym i.bound-is)
    (bound_below (found s.bank t) c.args.environment s.bank (term_tree s.bank c.args.at.0) i.bound i.field-1.now
    (i.ensures.shown.0 ∙ ap (λ h. app h (term_trees s.bank i.field-1.now)) i.field-0-is) (count t) c.requires.cells)

pub sign_under-requires-clause-place : goal.sign_under-requires-clause-place
sign_under-requires-clause-place c =
    let s = c.args.store.now in let t = table_of s.cells.cells in let e = c.in-Var.ensures.shown in
    place-below s.bank t c.args.at.0 c.requires.table c.requires.inside
    (ap (λ u. vars_below (count t) (sub (found s.bank t) u)) (e ∙ sym (ap (close (values_in c.args.environment)) e)) ∙ c.requires.cells)

pub returns-in_ok-arity-in-App-Name-default : goal.returns-in_ok-arity-in-App-Name-default
returns-in_ok-arity-in-App-Name-default c =
    let s = c.args.store.now in let i = c.in-App-Name-default in
    ap (λ n. NameSign n c.in_ok-arity-in-App-Name-default.arity) i.name-is
    ∙ sym (closed_sign (found s.bank (table_of s.cells.cells)) (values_in c.args.environment) s.bank (term_tree s.bank c.args.at.0) i.field-0 i.args.now
    i.ensures.shown.0 (ap not_bound i.field-0-is)
    ∙ (ap (λ h. name_sign (Some h) (length i.args.now)) i.field-0-is ∙ ap (λ n. NameSign i.name n) (sym c.in_ok-arity-in-App-Name-default.ensures)))

pub returns-in-App-Eigen-default : goal.returns-in-App-Eigen-default
returns-in-App-Eigen-default c =
    let s = c.args.store.now in let i = c.in-App-Eigen-default in
    sym (closed_sign (found s.bank (table_of s.cells.cells)) (values_in c.args.environment) s.bank (term_tree s.bank c.args.at.0) i.field-0 i.field-1.now
    i.ensures.shown.0 (ap not_bound i.field-0-is)
    ∙ ap (λ h. name_sign (Some h) (length i.field-1.now)) i.field-0-is)

pub returns-in-App-Bound-default : goal.returns-in-App-Bound-default
returns-in-App-Bound-default c =
    let s = c.args.store.now in let i = c.in-App-Bound-default in
    let e = ap (λ k. sign_of (read_by s (place (values_in c.args.environment) k 0))) i.bound-is
    ∙ bound_sign (found s.bank (table_of s.cells.cells)) c.args.environment s.bank (term_tree s.bank c.args.at.0) i.bound i.field-1.now
    (i.ensures.shown.0 ∙ ap (λ h. app h (term_trees s.bank i.field-1.now)) i.field-0-is) c.requires.heads in
    subst (λ sign. IfOk c.sign_of_bound.result (λ (first : First). first ≡ sign)) e c.sign_of_bound.ensures
