use Rattle.std.proofs.Common.{◌+◌}
use Rattle.ll_polarity.specs.Standing.{met_of}
use Rattle.ll_polarity.specs.Spots.{texts_of, forms_of, site, term_at}
use Rattle.ll_polarity.proofs.putting.Calling.{IsOnTheWay, calls_left, turn_left}
use Rattle.ll_polarity.proofs.put_terms.term.Given as goal

abbrev pub invariant-turns : goal.invariant-turns
invariant-turns l =
    IsOnTheWay (site l.spot) (term_at l.spot l.fn.met l.fn.at.0) l.fn.bank l.bank l.calls.items l.turn (met_of (texts_of l.spot) l.met)

abbrev pub decreases-turns : goal.decreases-turns
decreases-turns l = calls_left (texts_of l.spot) (forms_of l.spot) l.calls.items + turn_left (texts_of l.spot) (forms_of l.spot) l.turn
