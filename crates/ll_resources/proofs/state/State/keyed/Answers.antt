use Rattle.std.proofs.Common.{ap, refl, ◌∙◌}
use Rattle.ll_resources.specs.Raw.{raw, top_in}
use Rattle.ll_resources.proofs.ListingLemmas.{keyed-all}
use Rattle.ll_resources.proofs.state.State.keyed.Goals as goal

pub returns : goal.returns
returns g c =
    keyed-all _ c.args.key (raw c.args.self.now) c.requires refl
    (c.top_of.ensures ∙ ap (λ ts. top_in ts c.args.key) c.as_slice-tops.ensures.value) (c.top_of-2.ensures ∙ ap
    (λ ts. top_in ts 0) c.as_slice-tops.ensures.value)
