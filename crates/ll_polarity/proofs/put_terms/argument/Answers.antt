use Rattle.std.proofs.Common.{ap}
use Rattle.ll_polarity.specs.Built.{arguments}
use Rattle.ll_polarity.proofs.putting.Calling.{found_argument}
use Rattle.ll_polarity.proofs.put_terms.argument.Goals as goal

pub returns-in-Head : goal.returns-in-Head
returns-in-Head c = λ texts.
    found_argument texts c.args.forms.now c.args.at.0 c.args.number c.in-Head.args.now c.nth.result c.nth.ensures c.in-Head.ensures.parts c.requires
    (ap arguments (c.in-Head.ensures.tree texts))

pub returns-in-Load : goal.returns-in-Load
returns-in-Load c = λ texts.
    found_argument texts c.args.forms.now c.args.at.0 c.args.number c.in-Load.args.now c.nth-in-Load.result c.nth-in-Load.ensures c.in-Load.ensures.parts.0
    c.requires (ap arguments (c.in-Load.ensures.tree texts))
