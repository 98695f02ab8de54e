use Rattle.std.proofs.Common.{sym, ◌∙◌}
use Rattle.ll_bank.proofs.Trees.{Extends-refl}
use Rattle.ll_bank.proofs.PartLemmas.{same_node, same_form_of}
use Rattle.ll_bank.proofs.open.share_form.Goals as goal

pub returns-then-eq-clause-shows : goal.returns-then-eq-clause-shows
returns-then-eq-clause-shows c =
    record {
      inside = c.requires.inside;
      tree = c.form_at.ensures.shown.tree
          ∙ same_form_of c.args.bank.now c.form_at.result c.args.node (same_node c.form_at.result c.args.node (sym c.eq.ensures ∙ c.if-eq.true));
    }

pub returns-then-eq-clause-keeps : goal.returns-then-eq-clause-keeps
returns-then-eq-clause-keeps c =
    Extends-refl c.args.bank.now
