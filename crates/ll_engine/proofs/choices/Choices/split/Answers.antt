use Rattle.std.proofs.Common.{◌≡◌, subst, sym, Bool, false, reverse, List, ◌∷◌}
use Rattle.std.specs.Arc.{arc_value}
use Rattle.ll_laws.specs.Problem.{ProblemTree}
use Rattle.ll_list_laws.proofs.CallerLemmas.{IfOk-each}
use Rattle.ll_freeze.specs.Frozen.{sight_of}
use Rattle.ll_freeze.specs.Indexed.{IsIndexOf}
use Rattle.ll_freeze.specs.Parts.{parts_of}
use Rattle.ll_engine.specs.declared.choices.ChoicePoint.{ChoicePoint}
use Rattle.ll_engine.specs.declared.choices.Choices.{Choices as Stored}
use Rattle.ll_engine.specs.Splits.{TakesOldest}
use Rattle.ll_engine.specs.Pointed.{choices_of, held_of, helds, first_of, AreMarks, AreKept, IsSound}
use Rattle.ll_engine.proofs.machine.Basing.{based_first, based_rest}
use Rattle.ll_engine.proofs.turns.Splitting.{Shifted, shifted, kept_own, takes_oldest}
use Rattle.ll_engine.proofs.choices.Choices.split.Goals as goal

-- what is known of the point that is split off
oldest : (z : Stored) (qs : List ChoicePoint) (k : ChoicePoint) → z.points.items ≡ k ∷ qs → AreMarks z.machine z.points.items
    → AreKept z.problem.now (helds z.machine z.points.items) → Shifted z.problem.now z.machine z.points.items qs k
oldest z qs k e a h = shifted z.problem.now z.machine z.points.items qs k e a h

pub split_off-requires-clause-kept : goal.split_off-requires-clause-kept
split_off-requires-clause-kept c =
    let z = c.args.self.now in
    let w = oldest c.args.self.now c.pop_front.new.self.items c.in-Some.kept c.in-Some.ensures.items c.requires.marks c.requires.kept in
    kept_own z.problem.now (held_of z.machine c.in-Some.kept) w.kept

pub split_off-requires-clause-based : goal.split_off-requires-clause-based
split_off-requires-clause-based c =
    let z = c.args.self.now in
    based_first z.machine z.points.items c.pop_front.new.self.items c.in-Some.kept z.ancestor c.in-Some.ensures.items c.requires.based

pub split_off-requires-clause-index : goal.split_off-requires-clause-index
split_off-requires-clause-index c =
    let z = c.args.self.now in
    let w = oldest c.args.self.now c.pop_front.new.self.items c.in-Some.kept c.in-Some.ensures.items c.requires.marks c.requires.kept in
    subst (λ (p : ProblemTree). IsIndexOf p (arc_value z.index)) (sym w.kept.opened.problem) c.requires.index

pub returns-clause-sound : goal.returns-clause-sound
returns-clause-sound c =
    let z = c.args.self.now in
    let w = oldest c.args.self.now c.pop_front.new.self.items c.in-Some.kept c.in-Some.ensures.items c.requires.marks c.requires.kept in
    let left : Stored = record z { points = c.pop_front.new.self } in
    IfOk-each c.split_off.result (λ f. f ≡ sight_of (held_of z.machine c.in-Some.kept).parts (reverse c.in-Some.kept.untried.items) false f.depth)
    (λ f. (running : Bool) → IsSound running z → IsSound running left)
    (λ f e running s. record {
      index = s.index;
      sound = record { points = w.others; machine = s.sound.machine };
      marks = w.marks;
      based = based_rest z.machine z.points.items c.pop_front.new.self.items c.in-Some.kept z.ancestor c.in-Some.ensures.items s.based;
    }) c.split_off.ensures

pub returns-clause-takes : goal.returns-clause-takes
returns-clause-takes c =
    let z = c.args.self.now in
    let w = oldest c.args.self.now c.pop_front.new.self.items c.in-Some.kept c.in-Some.ensures.items c.requires.marks c.requires.kept in
    let left : Stored = record z { points = c.pop_front.new.self } in
    IfOk-each c.split_off.result (λ f. f ≡ sight_of (held_of z.machine c.in-Some.kept).parts (reverse c.in-Some.kept.untried.items) false f.depth)
    (λ f. TakesOldest (choices_of z) f (choices_of left))
    (λ f e. takes_oldest (first_of z) z.problem.now (parts_of z.machine) (held_of z.machine c.in-Some.kept) (helds z.machine z.points.items)
    (helds z.machine c.pop_front.new.self.items) f f.depth w.list w.kept e) c.split_off.ensures
