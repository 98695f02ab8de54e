use Rattle.std.proofs.Common.{◌++◌, ap, ◌∙◌}
use Rattle.std.specs.Prelude.{option_to_list}
use Rattle.ll_resources.proofs.ChainLemmas.{is-listed}
use Rattle.ll_resources.proofs.state.State.uncover.Goals as goal

pub set_top-requires : goal.set_top-requires
set_top-requires g c =
    let es = c.args.self.now.entries.items in
    is-listed es c.pop.new.self.items c.in-Some.entry c.args.self.now.tops.items
    (c.pop.ensures.items ∙ ap (λ o. c.pop.new.self.items ++ option_to_list o) c.in-Some.is) c.requires.keys_fit
