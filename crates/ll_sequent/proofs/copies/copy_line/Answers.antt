use Rattle.std.proofs.Common.{length, arith}
use Rattle.ll_bank.proofs.CallerLemmas.{Extends-refl}
use Rattle.ll_sequent.proofs.CopyLemmas.{line_free}
use Rattle.ll_sequent.proofs.copies.copy_line.Goals as goal

pub returns-in_default : goal.returns-in_default
returns-in_default c = record {
  copies = c.requires.copies;
  reach = line_free (length c.args.copies.now.items) c.args.rule.now c.in_default.not-Exists c.in_default.not-Clause;
  more = omega arith;
  keeps = Extends-refl c.args.bank.now;
}

pub copy_up_to-requires-clause-copies : goal.copy_up_to-requires-clause-copies
copy_up_to-requires-clause-copies c = c.requires.copies

pub copy_all-requires-clause-copies : goal.copy_all-requires-clause-copies
copy_all-requires-clause-copies c = c.requires.copies
