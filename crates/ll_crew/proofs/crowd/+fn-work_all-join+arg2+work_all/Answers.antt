use Rattle.std.proofs.Common.{◌≡◌, ◌∙◌, ◌∷◌, ◌++◌, [], ap, sym, subst, rules}
use Rattle.std.specs.Prelude.{option_to_list}
use Rattle.ll_laws.specs.Sound.{Every}
use Rattle.ll_core.proofs.CallerLemmas.{every_back, every_front}
use Rattle.ll_crew.specs.Turns.{CanWork, Worked}
use Rattle.ll_crew.specs.Crews.{EachWorked}
use Rattle.ll_crew.proofs.Gathering.{each_append}
use Rattle.ll_crew.proofs.crowd.+fn-work_all-join+arg2+work_all.Goals as goal

pub returns-clause-each : goal.returns-clause-each
returns-clause-each g t c =
    let front : EachWorked c.pop.new.self.items c.join-back.result.0.items = search rules in
    let last : Worked c.in-Some.seat c.join-back.result.1 = search rules in
    let before : c.args.crowd.seats.items ≡ c.pop.new.self.items ++ c.in-Some.seat ∷ [] =
    c.pop.ensures.items ∙ ap (λ o. c.pop.new.self.items ++ option_to_list o) c.in-Some.is in
    let after : c.push_reserved-2.new.self.items ≡ c.join-back.result.0.items ++ c.join-back.result.1 ∷ [] = c.push_reserved-2.ensures.items in
    subst (λ l. EachWorked l c.push_reserved-2.new.self.items) (sym before)
    (subst (EachWorked (c.pop.new.self.items ++ c.in-Some.seat ∷ [])) (sym after)
    (each_append c.pop.new.self.items (c.in-Some.seat ∷ []) c.join-back.result.0.items (c.join-back.result.1 ∷ []) front (last, tt)))

pub join-back-requires-after_bounds : goal.join-back-requires-after_bounds
join-back-requires-after_bounds g t c κs within =
    let before : c.args.crowd.seats.items ≡ c.pop.new.self.items ++ c.in-Some.seat ∷ [] =
    c.pop.ensures.items ∙ ap (λ o. c.pop.new.self.items ++ option_to_list o) c.in-Some.is in
    let all : Every (CanWork c.args.crowd.tools.now.pool.now c.args.crowd.tools.now.problem.now) (c.pop.new.self.items ++ c.in-Some.seat ∷ []) =
    subst (Every (CanWork c.args.crowd.tools.now.pool.now c.args.crowd.tools.now.problem.now)) before c.requires.can in
    let front : Every (CanWork c.args.crowd.tools.now.pool.now c.args.crowd.tools.now.problem.now) c.pop.new.self.items =
    every_front (CanWork c.args.crowd.tools.now.pool.now c.args.crowd.tools.now.problem.now) c.pop.new.self.items (c.in-Some.seat ∷ []) all in
    let last : Every (CanWork c.args.crowd.tools.now.pool.now c.args.crowd.tools.now.problem.now) (c.in-Some.seat ∷ []) =
    every_back (CanWork c.args.crowd.tools.now.pool.now c.args.crowd.tools.now.problem.now) c.pop.new.self.items (c.in-Some.seat ∷ []) all in (
      (
        search rules,
        (
          (λ a m. m),
          (
            (λ a m. m),
            (
              (λ a m. m),
              ((search rules, search rules, front, c.requires.suits), (search rules, search rules, search rules, search rules)),
            ),
          ),
        ),
      ),
      ((search rules, last.0, c.requires.suits), (search rules, search rules, search rules, search rules)),
    )
