use Rattle.std.proofs.Common.{refl}
use Rattle.ll_bank.specs.Nodes.{term_tree, term_trees}
use Rattle.ll_unify.proofs.Binding.{no-var-app}
use Rattle.ll_unify.proofs.bind.is_before.Goals as goal

pub returns-in-App : goal.returns-in-App
returns-in-App c = (
  λ e x q. absurd (no-var-app (term_tree c.args.bank.now c.args.at.0) c.in-App.field-0
      (term_trees c.args.bank.now c.in-App.field-1.now) c.in-App.ensures.shown.0 x q),
  λ h. refl,
)
