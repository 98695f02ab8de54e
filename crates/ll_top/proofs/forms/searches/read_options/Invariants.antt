use Rattle.std.proofs.Common.{length, ◌-◌}
use Rattle.ll_top.specs.forms.Words.{word_texts}
use Rattle.ll_top.specs.forms.SearchOptions.{IsReadTo}
use Rattle.ll_top.proofs.forms.searches.read_options.Given as goal

abbrev pub invariant-loop-at : goal.invariant-loop-at
invariant-loop-at l = IsReadTo (word_texts l.words) l.form l.options l.at

abbrev pub decreases-loop-at : goal.decreases-loop-at
decreases-loop-at l = length l.words - l.at
