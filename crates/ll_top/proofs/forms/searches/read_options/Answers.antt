use Rattle.ll_top.proofs.wording.SearchWords.{all-read}
use Rattle.ll_top.proofs.forms.searches.read_options.Goals as goal

pub returns : goal.returns
returns c = all-read c.args.words.now c.args.form c.loop-at.options c.loop-at.at c.loop-at-test.false c.loop-at.invariant
