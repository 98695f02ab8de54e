use Rattle.std.proofs.Common.{sym, ap, subst, ◌∙◌}
use Rattle.std.specs.Option.{option_copied}
use Rattle.std.proofs.lemmas.Result.{IfOk-weaker}
use Rattle.ll_bank.specs.Nodes.{ShowsTerm}
use Rattle.ll_bank.proofs.CallerLemmas.{Extends-refl}
use Rattle.ll_unify.specs.Bindings.{found}
use Rattle.ll_unify.proofs.Readings.{Obeys-found}
use Rattle.ll_unify.proofs.read.copy_of.Goals as goal

pub returns-in-Some-clause-copy : goal.returns-in-Some-clause-copy
returns-in-Some-clause-copy g c =
    let first = c.args.bank.now in
    let t = g.T.Bindings.table c.args.table.now in
    subst (ShowsTerm first c.in-Some.copy.now.0) (c.walk-end.ensures.same (found first t) (Obeys-found first t c.requires.table.ordered))
    (c.requires.known c.walk-end.result.0 c.in-Some.copy.now (sym c.get.ensures.value ∙ ap option_copied c.in-Some.is)).shows

pub returns-in-Some-clause-keeps : goal.returns-in-Some-clause-keeps
returns-in-Some-clause-keeps g c = Extends-refl c.args.bank.now

pub returns-in-None-clause-copy : goal.returns-in-None-clause-copy
returns-in-None-clause-copy g c =
    let first = c.args.bank.now in
    let t = g.T.Bindings.table c.args.table.now in
    IfOk-weaker c.copy.result _ _
    (λ made h. subst (ShowsTerm c.copy.new.bank made.0) (c.walk-end.ensures.same (found first t) (Obeys-found first t c.requires.table.ordered)) h)
    c.copy.ensures.copy

pub walk-end-requires-clause-table : goal.walk-end-requires-clause-table
walk-end-requires-clause-table g c = c.requires.table

pub copy-requires-clause-table : goal.copy-requires-clause-table
copy-requires-clause-table g c = c.requires.table

pub copy-requires-clause-known : goal.copy-requires-clause-known
copy-requires-clause-known g c = c.requires.known
