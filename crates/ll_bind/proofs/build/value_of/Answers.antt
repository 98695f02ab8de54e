use Rattle.std.proofs.Common.{◌∙◌}
use Rattle.std.proofs.lemmas.Result.{IfOk-weaker}
use Rattle.ll_bank.specs.Term.{Var}
use Rattle.ll_bank.proofs.CallerLemmas.{Extends-refl}
use Rattle.ll_store.specs.Tables.{table_of}
use Rattle.ll_bind.proofs.Building.{shows-value, shows-made}
use Rattle.ll_bind.proofs.build.value_of.Goals as goal

pub returns-in-Some-clause-same : goal.returns-in-Some-clause-same
returns-in-Some-clause-same c =
    let s = c.args.store.now in
    shows-value s.bank (table_of s.cells.cells) c.requires.table c.args.var c.in-Some.to (c.value.ensures ∙ c.in-Some.is) c.requires.vars

pub returns-in-Some-clause-keeps : goal.returns-in-Some-clause-keeps
returns-in-Some-clause-keeps c = Extends-refl c.args.store.now.bank

pub returns-in-None-clause-same : goal.returns-in-None-clause-same
returns-in-None-clause-same c =
    let s = c.args.store.now in
    IfOk-weaker c.var.result _ _
    (λ at h. shows-made s.bank c.var.new.self (table_of s.cells.cells) c.requires.table c.var.ensures.keeps at.0 (Var c.args.var) h c.requires.vars)
    c.var.ensures.shows
