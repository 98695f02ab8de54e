use Rattle.std.specs.Arc.{arc_value}
use Rattle.test_shared.proofs.Playing.{ends, rest_owes_nothing}
use Rattle.test_shared.proofs.pool.publish.Goals as goal

pub publish-requires-clause-ends : goal.publish-requires-clause-ends
publish-requires-clause-ends g c κs within = ends (arc_value c.args.batch).len c.args.seat.now.mine.piece c.requires.owes

pub returns-clause-owes : goal.returns-clause-owes
returns-clause-owes g c = rest_owes_nothing (arc_value c.args.batch).len c.publish.result c.args.seat.now.mine.piece c.publish.new.seat.mine.piece
    c.requires.owes c.publish.ensures.owes
