use Rattle.std.proofs.Common.{ap, sym, subst, ℕ, ◌<◌, All}
use Rattle.std.proofs.lemmas.List.Elements.{All-nil}
use Rattle.ll_bank.specs.Opened.{arguments_of}
use Rattle.ll_bank.proofs.BankLemmas.{below_places}
use Rattle.ll_bank.proofs.PartLemmas.{node_seen}
use Rattle.ll_bank.proofs.walk.arguments.Goals as goal

pub returns-in-Var-clause-places : goal.returns-in-Var-clause-places
returns-in-Var-clause-places c = sym (ap arguments_of (node_seen c.args.bank.now c.args.at.0 _ c.in-Var.ensures.node))

pub returns-in-Var-clause-lower : goal.returns-in-Var-clause-lower
returns-in-Var-clause-lower c =
    let e = node_seen c.args.bank.now c.args.at.0 _ c.in-Var.ensures.node in
    subst (All (λ a. a < c.args.at.0)) (ap arguments_of (sym e)) (All-nil (λ (a : ℕ). a < c.args.at.0))

pub returns-in-Int-clause-places : goal.returns-in-Int-clause-places
returns-in-Int-clause-places c = sym (ap arguments_of (node_seen c.args.bank.now c.args.at.0 _ c.in-Int.ensures.node))

pub returns-in-Int-clause-lower : goal.returns-in-Int-clause-lower
returns-in-Int-clause-lower c =
    let e = node_seen c.args.bank.now c.args.at.0 _ c.in-Int.ensures.node in
    subst (All (λ a. a < c.args.at.0)) (ap arguments_of (sym e)) (All-nil (λ (a : ℕ). a < c.args.at.0))

pub returns-in-App-clause-places : goal.returns-in-App-clause-places
returns-in-App-clause-places c = sym (ap arguments_of (node_seen c.args.bank.now c.args.at.0 _ c.in-App.ensures.node))

pub returns-in-App-clause-lower : goal.returns-in-App-clause-lower
returns-in-App-clause-lower c =
    let e = node_seen c.args.bank.now c.args.at.0 _ c.in-App.ensures.node in
    subst (All (λ a. a < c.args.at.0)) (ap arguments_of (sym e)) (below_places c.args.at.0 c.in-App.args.now c.in-App.ensures.shown.1)
