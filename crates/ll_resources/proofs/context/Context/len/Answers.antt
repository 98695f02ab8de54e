use Rattle.std.proofs.Common.{length, ap, sym, ◌∙◌}
use Rattle.ll_resources.specs.History.{History}
use Rattle.ll_resources.specs.Raw.{raw}
use Rattle.ll_resources.proofs.RawLemmas.{entries-count}
use Rattle.ll_resources.proofs.context.Context.len.Goals as goal

pub returns : goal.returns
returns g c =
    c.len.ensures
    ∙ (c.self.inside.state.entries.ok.0
    ∙ (sym (entries-count (raw c.self.inside.state)) ∙ ap (λ (h : History g.row.C.Denot). length h.present.entries) c.self.view_is))
