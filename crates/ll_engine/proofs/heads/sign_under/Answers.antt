use Rattle.std.proofs.lemmas.Result.{IfOk-from_err}
use Rattle.std.proofs.Common.{rules, w64, FitsSigned, length, ap, sym, ◌∙◌}
use Rattle.std.specs.Prelude.{Some}
use Rattle.std.proofs.lemmas.Int.{to_z-of_z}
use Rattle.ll_store.specs.Tables.{table_of}
use Rattle.ll_index.specs.declared.laws.First.TheVariants.{Int as IntSign, Head as NameSign}
use Rattle.ll_index.specs.First.{name_sign}
use Rattle.ll_engine.proofs.matching.SignLemmas.{sign_app, sign_var, sign_int}
use Rattle.ll_engine.proofs.heads.sign_under.Goals as goal

pub returns-in_ok-arity-in-App-Name-default : goal.returns-in_ok-arity-in-App-Name-default
returns-in_ok-arity-in-App-Name-default c =
    let s = c.args.store.now in let i = c.in-App-Name-default in
    sym (sign_app s.bank (table_of s.cells.cells) c.requires.table c.args.at c.walk-end.result c.walk-end.ensures.same i.field-0 i.args.now i.ensures.shown.0
    ∙ (ap (λ h. name_sign (Some h) (length i.args.now)) i.field-0-is ∙ ap (λ n. NameSign i.name n) (sym c.in_ok-arity-in-App-Name-default.ensures)))

pub returns-in-App-Eigen-default : goal.returns-in-App-Eigen-default
returns-in-App-Eigen-default c =
    let s = c.args.store.now in let i = c.in-App-Eigen-default in
    sym (sign_app s.bank (table_of s.cells.cells) c.requires.table c.args.at c.walk-end.result c.walk-end.ensures.same i.field-0 i.field-1.now i.ensures.shown.0
    ∙ ap (λ h. name_sign (Some h) (length i.field-1.now)) i.field-0-is)

pub returns-in-App-Bound-default : goal.returns-in-App-Bound-default
returns-in-App-Bound-default c =
    let s = c.args.store.now in let i = c.in-App-Bound-default in
    sym (sign_app s.bank (table_of s.cells.cells) c.requires.table c.args.at c.walk-end.result c.walk-end.ensures.same i.field-0 i.field-1.now i.ensures.shown.0
    ∙ ap (λ h. name_sign (Some h) (length i.field-1.now)) i.field-0-is)

pub returns-in-Var : goal.returns-in-Var
returns-in-Var c =
    let s = c.args.store.now in
    sym (sign_var s.bank (table_of s.cells.cells) c.requires.table c.args.at c.walk-end.result c.walk-end.ensures.same c.in-Var.field-0 c.in-Var.ensures.shown
    c.walk-end.ensures.end.free)

pub returns-in-Int : goal.returns-in-Int
returns-in-Int c =
    let s = c.args.store.now in let f : FitsSigned w64 c.in-Int.value = search rules in
    ap IntSign (to_z-of_z w64 c.in-Int.value f)
    ∙ sym (sign_int s.bank (table_of s.cells.cells) c.requires.table c.args.at c.walk-end.result c.walk-end.ensures.same c.in-Int.value c.in-Int.ensures.shown)

pub returns-in_err-arity-in-App-Name-default : goal.returns-in_err-arity-in-App-Name-default
returns-in_err-arity-in-App-Name-default c = IfOk-from_err c.from_residual.result _ c.from_residual.ensures.0
