use Rattle.std.proofs.Common.{sym, subst, ap, ◌∙◌}
use Rattle.std.proofs.lemmas.Result.{IfOk-weaker}
use Rattle.ll_bank.specs.Nodes.{ShowsTerm}
use Rattle.ll_bank.proofs.CallerLemmas.{Extends-refl}
use Rattle.ll_unify.specs.Bindings.{found}
use Rattle.ll_unify.specs.Carried.{listed}
use Rattle.ll_unify.proofs.Readings.{Obeys-found}
use Rattle.ll_unify.proofs.carry.carry_one.Goals as goal

pub returns-in-Some-clause-copy : goal.returns-in-Some-clause-copy
returns-in-Some-clause-copy g c =
    let first = c.args.bank.now in
    let t = g.T.Bindings.table c.args.table.now in
    subst (ShowsTerm c.args.other.now c.in-Some.copy.0) (c.walk-end.ensures.same (found first t) (Obeys-found first t c.requires.table.ordered))
    (c.requires.known c.walk-end.result.0 c.in-Some.copy (sym (ap (λ ks. listed ks c.walk-end.result.0) c.deref.ensures.value)
    ∙ (sym c.copy_at.ensures ∙ c.in-Some.is))).shows

pub returns-in-Some-clause-keeps : goal.returns-in-Some-clause-keeps
returns-in-Some-clause-keeps g c = Extends-refl c.args.other.now

pub returns-in-None-clause-copy : goal.returns-in-None-clause-copy
returns-in-None-clause-copy g c =
    let first = c.args.bank.now in
    let t = g.T.Bindings.table c.args.table.now in
    IfOk-weaker c.carry.result _ _
    (λ made h. subst (ShowsTerm c.carry.new.other made.0) (c.walk-end.ensures.same (found first t) (Obeys-found first t c.requires.table.ordered)) h)
    c.carry.ensures.copy

pub walk-end-requires-clause-table : goal.walk-end-requires-clause-table
walk-end-requires-clause-table g c = c.requires.table

pub carry-requires-clause-table : goal.carry-requires-clause-table
carry-requires-clause-table g c = c.requires.table

pub carry-requires-clause-known : goal.carry-requires-clause-known
carry-requires-clause-known g c = c.requires.known
