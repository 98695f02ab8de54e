use Rattle.std.proofs.lemmas.List.Elements.{All-push}
use Rattle.ll_bank.specs.declared.At.{At}
use Rattle.test_search.specs.Levelled.{IsLevelled}
use Rattle.test_search.proofs.Levels.{levelled-extends}
use Rattle.test_search.proofs.unify.build.Goals as goal

pub loop-index-preserved : goal.loop-index-preserved
loop-index-preserved c =
    rw c.in_ok-push-in-Some.ensures.items (All-push (λ (a : At). IsLevelled c.add_term.new.bank c.args.count a.0) c.loop-index.made.items c.in-Some.at
    (levelled-extends c.loop-index.bank c.add_term.new.bank c.args.count c.loop-index.made.items c.in_ok-at.ensures.keeps c.loop-index.invariant)
    (rw c.in-Some.is at c.in_ok-at.ensures.made))
