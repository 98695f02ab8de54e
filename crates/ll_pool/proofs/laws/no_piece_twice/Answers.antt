use Rattle.ll_pool.specs.OpenPieces.{two_pieces}
use Rattle.ll_pool.proofs.laws.no_piece_twice.Goals as goal

pub returns : goal.returns
returns g c = λ p problem one other a b fits fits' differ is_a is_b.
    two_pieces g.N.Batch.alternatives p one.worker other.worker one.piece other.piece a b fits.piece fits'.piece differ is_a is_b
