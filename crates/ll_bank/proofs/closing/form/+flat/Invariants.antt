use Rattle.std.proofs.Common.{◌+◌, ◌*◌}
use Rattle.ll_bank.proofs.closing.form.+flat.Given as goal

abbrev pub decreases-closed_flat : goal.decreases-closed_flat
decreases-closed_flat l = 2 * l.depth

abbrev pub decreases-closed_pair : goal.decreases-closed_pair
decreases-closed_pair l = 2 * l.depth + 1

abbrev pub decreases-closed_under : goal.decreases-closed_under
decreases-closed_under l = 2 * l.depth + 1
