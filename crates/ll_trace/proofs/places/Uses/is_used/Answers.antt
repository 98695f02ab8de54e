use Rattle.std.proofs.Common.{List, ap, sym, subst, ◌∙◌, arith, []}
use Rattle.std.specs.Prelude.{Option}
use Rattle.ll_trace.specs.declared.picks.Pick.{Pick}
use Rattle.ll_trace.specs.Picks.{is_used_between}
use Rattle.ll_trace.specs.Places.{RisesFrom, row_of}
use Rattle.ll_trace.proofs.Placing.{places-rise, used-found}
use Rattle.ll_trace.proofs.places.Uses.is_used.Goals as goal

pub has_level-requires : goal.has_level-requires
has_level-requires c =
    subst (RisesFrom 0) (sym (c.deref.ensures.value ∙ (ap row_of c.in-Some.ensures.value ∙ c.self.invariant c.args.label)))
    (places-rise c.args.label 0 0 c.self.inside.picks.items (omega arith))

pub returns-in-None : goal.returns-in-None
returns-in-None c =
    used-found c.args.label c.args.level c.args.from c.args.to c.self.inside.picks.items [] (ap row_of c.in-None.ensures.value ∙ c.self.invariant c.args.label)
    ∙ ap (λ (ps : List (Option Pick)). is_used_between ps c.args.label c.args.level c.args.from c.args.to) c.self.view_is

pub returns-in-Some : goal.returns-in-Some
returns-in-Some c =
    c.has_level.ensures
    ∙ (used-found c.args.label c.args.level c.args.from c.args.to c.self.inside.picks.items c.deref.result.now
    (c.deref.ensures.value ∙ (ap row_of c.in-Some.ensures.value ∙ c.self.invariant c.args.label))
    ∙ ap (λ (ps : List (Option Pick)). is_used_between ps c.args.label c.args.level c.args.from c.args.to) c.self.view_is)
