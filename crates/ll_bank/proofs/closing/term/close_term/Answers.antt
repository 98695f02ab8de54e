use Rattle.std.proofs.Common.{sym, ◌∙◌}
use Rattle.ll_bank.specs.Nodes.{term_tree}
use Rattle.ll_bank.specs.Closing.{env_in}
use Rattle.ll_bank.proofs.Trees.{Extends-refl}
use Rattle.ll_bank.proofs.closes.Values.{close_empty}
use Rattle.ll_bank.proofs.closing.term.close_term.Goals as goal

pub returns-then-count-eq0-clause-shows : goal.returns-then-count-eq0-clause-shows
returns-then-count-eq0-clause-shows c =
    record {
      inside = c.requires.inside;
      tree = sym (close_empty (env_in c.args.bank.now c.args.values) (term_tree c.args.bank.now c.args.at.0)
          (sym (c.count.ensures c.args.bank.now) ∙ c.if-count-eq0.true));
    }

pub returns-then-count-eq0-clause-keeps : goal.returns-then-count-eq0-clause-keeps
returns-then-count-eq0-clause-keeps c =
    Extends-refl c.args.bank.now

pub closed_term-requires-clause-inside : goal.closed_term-requires-clause-inside
closed_term-requires-clause-inside c = c.requires.inside

pub closed_term-requires-clause-values : goal.closed_term-requires-clause-values
closed_term-requires-clause-values c = c.requires.values

pub closed_term-requires-clause-heads : goal.closed_term-requires-clause-heads
closed_term-requires-clause-heads c = c.requires.heads
