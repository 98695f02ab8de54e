use Rattle.std.proofs.lemmas.Result.{IfOk-weaker}
use Rattle.ll_bank.specs.Term.{close}
use Rattle.ll_bank.specs.Nodes.{term_tree}
use Rattle.ll_bank.specs.Environments.{values_in}
use Rattle.ll_store.specs.Tables.{table_of}
use Rattle.ll_bind.proofs.Building.{shows-made}
use Rattle.ll_bind.proofs.build.build_deep.Goals as goal

pub returns-clause-same : goal.returns-clause-same
returns-clause-same c =
    let s = c.args.store.now in
    IfOk-weaker c.close_term.result _ _
    (λ at h. shows-made s.bank c.close_term.new.bank (table_of s.cells.cells) c.requires.table c.close_term.ensures.keeps at.0
    (close (values_in c.args.environment) (term_tree s.bank c.args.pattern.0)) h c.requires.vars) c.close_term.ensures.shows
