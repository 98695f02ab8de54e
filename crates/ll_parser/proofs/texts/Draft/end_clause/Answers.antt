use Rattle.ll_parser.specs.Flat.{flat_final}
use Rattle.ll_parser.specs.Waiting.{mode_view}
use Rattle.ll_parser.proofs.stored.Drafting.{after-fits, ended-clause}
use Rattle.ll_parser.proofs.texts.Draft.end_clause.Goals as goal

pub add_clause-requires-clause-clauses : goal.add_clause-requires-clause-clauses
add_clause-requires-clause-clauses c = after-fits c.args.self.now c.finish.new.self c.requires.clauses c.in_ok-form.ensures.grows

pub returns-in_ok-add_clause-in-Some : goal.returns-in_ok-add_clause-in-Some
returns-in_ok-add_clause-in-Some c =
    ended-clause c.args.self.now c.finish.new.self c.requires.clauses c.in_ok-form.ensures.grows c.args.linear c.in-Some.form
    (λ texts. flat_final (mode_view texts c.args.self.now.waiting c.args.mode)) (rw c.in-Some.is at c.in_ok-form.ensures.gives) c.add_clause.new.self
    c.in_ok-add_clause-in-Some.ensures
