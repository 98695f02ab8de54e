use Rattle.std.proofs.Common.{ap, sym, ◌∙◌, true≢false}
use Rattle.ll_laws.specs.Output.{has_arguments}
use Rattle.ll_prooftext.proofs.sizes.spine_at.Goals as goal

pub unreachable-requires : goal.unreachable-requires
unreachable-requires c = true≢false (sym c.requires.has ∙ ap has_arguments c.in-Var.ensures.shown)

pub unreachable-requires-in-Int : goal.unreachable-requires-in-Int
unreachable-requires-in-Int c = true≢false (sym c.requires.has ∙ ap has_arguments c.in-Int.ensures.shown)
