use Rattle.std.proofs.Common.{length}
use Rattle.ll_parser.specs.Weights.{weights}
use Rattle.ll_polarity.specs.Built.{arguments, raws_past}
use Rattle.ll_polarity.specs.Standing.{met_of}
use Rattle.ll_polarity.specs.Spots.{texts_of, site, raw_in, args_at}
use Rattle.ll_polarity.proofs.putting.Calling.{AreOnTheWay}
use Rattle.ll_polarity.proofs.put_terms.arguments_of.Given as goal

abbrev pub invariant-arguments : goal.invariant-arguments
invariant-arguments l =
    AreOnTheWay (site l.spot) (args_at l.spot l.fn.met l.at.0) l.fn.bank l.bank l.at.0 l.args.items (met_of (texts_of l.spot) l.met)

abbrev pub decreases-arguments : goal.decreases-arguments
decreases-arguments l = weights (raws_past (length l.args.items) (arguments (raw_in l.spot l.at.0)))
