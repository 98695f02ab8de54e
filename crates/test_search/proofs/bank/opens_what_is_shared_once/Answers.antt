use Rattle.std.proofs.Common.{ap}
use Rattle.ll_bank.specs.Term.{is_spine, applies_heads}
use Rattle.ll_bank.specs.Nodes.{form_tree, term_tree}
use Rattle.ll_bank.proofs.CallerLemmas.{form_applies_heads-form_tree}
use Rattle.test_search.proofs.OpenHeads.{opens_with_head}
use Rattle.test_search.proofs.bank.opens_what_is_shared_once.Goals as goal

pub instantiate-requires-clause-heads : goal.instantiate-requires-clause-heads
instantiate-requires-clause-heads g c =
    opens_with_head (form_tree c.app.new.self c.in_ok-body.body.0) (term_tree c.app.new.self c.in_ok-value.value.0)
    (form_applies_heads-form_tree c.app.new.self c.in_ok-body.body.0)
    (ap is_spine c.in_ok-value.ensures.shows.tree) (ap applies_heads c.in_ok-value.ensures.shows.tree)
