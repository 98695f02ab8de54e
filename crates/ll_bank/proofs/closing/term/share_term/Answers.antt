use Rattle.std.proofs.Common.{sym, ◌∙◌}
use Rattle.ll_bank.specs.declared.TermView.TheVariants.{App as AppView}
use Rattle.ll_bank.proofs.Trees.{Extends-refl}
use Rattle.ll_bank.proofs.PartLemmas.{same_view, same_term_of}
use Rattle.ll_bank.proofs.closing.term.share_term.Goals as goal

pub returns-then-eq-clause-shows : goal.returns-then-eq-clause-shows
returns-then-eq-clause-shows c =
    record {
      inside = c.requires.inside;
      tree = same_term_of c.args.bank.now c.args.at.0 c.term_at.result c.args.head c.args.args.now c.term_at.ensures.shown
          (same_view c.term_at.result (AppView c.args.head c.args.args) (sym c.eq.ensures ∙ c.if-eq.true));
    }

pub returns-then-eq-clause-keeps : goal.returns-then-eq-clause-keeps
returns-then-eq-clause-keeps c =
    Extends-refl c.args.bank.now
