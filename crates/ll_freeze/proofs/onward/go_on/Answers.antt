use Rattle.std.proofs.lemmas.Result.{IfOk-from_err}
use Rattle.std.proofs.Common.{refl, ap, ◌∙◌}
use Rattle.ll_store.specs.Stored.{stored, state_of as store_of}
use Rattle.ll_freeze.specs.Onward.{base_in}
use Rattle.ll_freeze.proofs.onward.go_on.Goals as goal

pub apply_segments-requires : goal.apply_segments-requires
apply_segments-requires c = (c.requires (store_of (stored c.args.store)) refl).0

pub machine_over-requires : goal.machine_over-requires
machine_over-requires c = ap base_in c.in_ok-apply_segments.ensures ∙ (c.requires (store_of (stored c.args.store)) refl).1

pub returns-in_err-apply_segments : goal.returns-in_err-apply_segments
returns-in_err-apply_segments c = IfOk-from_err c.from_residual.result _ c.from_residual.ensures.0
