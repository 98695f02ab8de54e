use Rattle.std.proofs.Common.{ap, sym, ◌∙◌}
use Rattle.ll_bank.specs.Nodes.{term_tree}
use Rattle.ll_freeze.specs.Keyed.{key_of_head}
use Rattle.ll_engine.proofs.matching.CandidateLemmas.{predicate_app}
use Rattle.ll_engine.proofs.keys.term_key.Goals as goal

pub returns-in-App : goal.returns-in-App
returns-in-App c =
    let p = predicate_app c.args.bank.now (term_tree c.args.bank.now c.args.at.0) c.in-App.head c.in-App.field-1.now c.in-App.ensures.shown.0 in
    c.head_key.ensures ∙ sym (ap key_of_head p.0)
