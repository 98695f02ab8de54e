use Rattle.std.proofs.Common.{subst, sym, ◌∙◌}
use Rattle.ll_store.specs.Layered.{segments_of}
use Rattle.ll_freeze.specs.Parts.{Base}
use Rattle.ll_freeze.specs.Onward.{LeadOn}
use Rattle.ll_freeze.proofs.onward.advance.Goals as goal

pub go_on-requires : goal.go_on-requires
go_on-requires c =
    subst (λ (b : Base). LeadOn (segments_of c.in-Some.more.now) b c.args.to.now.base) (sym (c.store_at.ensures ∙ c.requires.base)) c.in-Some.ensures
