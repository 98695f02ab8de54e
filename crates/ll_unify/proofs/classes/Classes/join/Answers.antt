use Rattle.ll_unify.proofs.Pairs.{joined-flip}
use Rattle.std.proofs.lemmas.Result.{on_ok_weaker}
use Rattle.ll_unify.proofs.classes.Classes.join.Goals as goal

pub returns-else-left-right : goal.returns-else-left-right
returns-else-left-right c = on_ok_weaker c.lead-else-left-right.result (λ f nodes t h j. f nodes t h (joined-flip nodes t c.args.left.0 c.args.right.0 j))
    c.lead-else-left-right.ensures
