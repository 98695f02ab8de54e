use Rattle.ll_bank.specs.Nodes.{term_tree}
use Rattle.ll_engine.proofs.matching.CandidateLemmas.{predicate_app}
use Rattle.ll_engine.proofs.heads.predicate_at.Goals as goal

pub returns-in-App : goal.returns-in-App
returns-in-App c = predicate_app c.args.bank.now (term_tree c.args.bank.now c.args.at.0) c.in-App.head c.in-App.args.now c.in-App.ensures.shown.0
