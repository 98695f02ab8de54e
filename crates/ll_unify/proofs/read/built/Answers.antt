use Rattle.ll_bank.proofs.CallerLemmas.{Extends-refl}
use Rattle.std.proofs.lemmas.Result.{IfOk-weaker}
use Rattle.ll_unify.proofs.Copies.{built-new, built-same}
use Rattle.ll_unify.proofs.read.built.Goals as goal

pub returns-in-None-clause-built : goal.returns-in-None-clause-built
returns-in-None-clause-built c =
    built-same c.args.bank.now c.args.at c.args.copied.now c.requires.inside c.in-None.ensures

pub returns-in-None-clause-keeps : goal.returns-in-None-clause-keeps
returns-in-None-clause-keeps c =
    Extends-refl c.args.bank.now

pub returns-in-Some-clause-built : goal.returns-in-Some-clause-built
returns-in-Some-clause-built c =
    IfOk-weaker c.app.result _ _ (λ a k. built-new c.args.bank.now c.app.new.self c.args.at.0 c.args.copied.now a c.in-Some.head c.in-Some.ensures k)
    c.app.ensures.shows
