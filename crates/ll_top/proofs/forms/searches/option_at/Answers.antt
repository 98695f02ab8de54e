use Rattle.std.proofs.Common.{sym}
use Rattle.ll_top.proofs.wording.SearchWords.{none-left-of, not-offered, read-not-left}
use Rattle.ll_top.proofs.forms.searches.option_at.Goals as goal

pub returns-in_default : goal.returns-in_default
returns-in_default c = none-left-of c.args.form c.args.options c.args.word.now c.in_default.ensures

pub returns-then-is_read : goal.returns-then-is_read
returns-then-is_read c = read-not-left c.args.form c.args.options c.in-Some.option c.args.word.now c.in-Some.ensures (sym c.if-is_read.ensures)

pub returns-else-offers : goal.returns-else-offers
returns-else-offers c = not-offered c.args.form c.args.options c.in-Some.option c.args.word.now c.in-Some.ensures (sym c.if-offers.ensures)
