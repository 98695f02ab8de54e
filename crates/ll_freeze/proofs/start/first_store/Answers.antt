use Rattle.std.proofs.lemmas.Result.{IfOk-from_err}
use Rattle.std.proofs.Common.{◌≡◌, sym, subst}
use Rattle.ll_bank.specs.Nodes.{Nodes, AllInTerms, Extends, term_trees}
use Rattle.ll_bank.proofs.CallerLemmas.{cut_same}
use Rattle.ll_laws.specs.Attempt.{vars_from}
use Rattle.ll_freeze.proofs.start.first_store.Goals as goal

pub returns-clause-keeps : goal.returns-clause-keeps
returns-clause-keeps c =
    let same : c.in_ok-bank.bank ≡ c.args.bank.now =
    cut_same c.args.bank.now c.in_ok-bank.bank c.size.result c.size.ensures.is c.in_ok-bank.ensures in
    subst (λ (b : Nodes). Extends b c.in_ok-store.store.bank) same
    (subst (λ (b : Nodes). Extends c.in_ok-bank.bank b) (sym c.in_ok-store.ensures.bank) c.in_ok-terms.ensures.keeps)

pub returns-clause-inside : goal.returns-clause-inside
returns-clause-inside c =
    subst (λ (b : Nodes). AllInTerms b c.in_ok-terms.terms.items) (sym c.in_ok-store.ensures.bank) c.in_ok-terms.ensures.inside

pub returns-clause-shows : goal.returns-clause-shows
returns-clause-shows c =
    subst (λ (b : Nodes). term_trees b c.in_ok-terms.terms.items ≡ vars_from 0 c.args.count) (sym c.in_ok-store.ensures.bank)
    c.in_ok-terms.ensures.shows

pub returns-in_err-bank-clause-keeps : goal.returns-in_err-bank-clause-keeps
returns-in_err-bank-clause-keeps c = IfOk-from_err c.from_residual.result _ c.from_residual.ensures.0

pub returns-in_err-bank-clause-cells : goal.returns-in_err-bank-clause-cells
returns-in_err-bank-clause-cells c = IfOk-from_err c.from_residual.result _ c.from_residual.ensures.0

pub returns-in_err-bank-clause-inside : goal.returns-in_err-bank-clause-inside
returns-in_err-bank-clause-inside c = IfOk-from_err c.from_residual.result _ c.from_residual.ensures.0

pub returns-in_err-bank-clause-shows : goal.returns-in_err-bank-clause-shows
returns-in_err-bank-clause-shows c = IfOk-from_err c.from_residual.result _ c.from_residual.ensures.0

pub returns-in_err-terms-clause-keeps : goal.returns-in_err-terms-clause-keeps
returns-in_err-terms-clause-keeps c = IfOk-from_err c.from_residual-in_err-terms.result _ c.from_residual-in_err-terms.ensures.0

pub returns-in_err-terms-clause-cells : goal.returns-in_err-terms-clause-cells
returns-in_err-terms-clause-cells c = IfOk-from_err c.from_residual-in_err-terms.result _ c.from_residual-in_err-terms.ensures.0

pub returns-in_err-terms-clause-inside : goal.returns-in_err-terms-clause-inside
returns-in_err-terms-clause-inside c = IfOk-from_err c.from_residual-in_err-terms.result _ c.from_residual-in_err-terms.ensures.0

pub returns-in_err-terms-clause-shows : goal.returns-in_err-terms-clause-shows
returns-in_err-terms-clause-shows c = IfOk-from_err c.from_residual-in_err-terms.result _ c.from_residual-in_err-terms.ensures.0

pub returns-in_err-store-clause-keeps : goal.returns-in_err-store-clause-keeps
returns-in_err-store-clause-keeps c = IfOk-from_err c.from_residual-in_err-store.result _ c.from_residual-in_err-store.ensures.0

pub returns-in_err-store-clause-cells : goal.returns-in_err-store-clause-cells
returns-in_err-store-clause-cells c = IfOk-from_err c.from_residual-in_err-store.result _ c.from_residual-in_err-store.ensures.0

pub returns-in_err-store-clause-inside : goal.returns-in_err-store-clause-inside
returns-in_err-store-clause-inside c = IfOk-from_err c.from_residual-in_err-store.result _ c.from_residual-in_err-store.ensures.0

pub returns-in_err-store-clause-shows : goal.returns-in_err-store-clause-shows
returns-in_err-store-clause-shows c = IfOk-from_err c.from_residual-in_err-store.result _ c.from_residual-in_err-store.ensures.0
