use Rattle.std.proofs.Common.{◌≡◌, sym, subst, Bool, false, List, [], ◌∷◌, ◌++◌, reverse, ◌-◌}
use Rattle.ll_list_laws.proofs.CallerLemmas.{IfOk-each}
use Rattle.ll_freeze.specs.Parts.{Parts, parts_of}
use Rattle.ll_engine.specs.declared.choices.ChoicePoint.{ChoicePoint}
use Rattle.ll_engine.specs.declared.choices.Choices.{Choices as Stored}
use Rattle.ll_engine.specs.Pointed.{Held, held_of, helds, choices_at, choices_of, first_of, points_of, IsOpen, AreTries, AreKept, IsSound}
use Rattle.ll_laws.specs.declared.Candidate.{Candidate}
use Rattle.ll_freeze.specs.Shown.{state_of}
use Rattle.ll_engine.specs.Turned.{Chose, Retries}
use Rattle.ll_engine.proofs.machine.Basing.{based_undone}
use Rattle.ll_engine.proofs.turns.Pointing.{Popped, popped, none_left, helds_undone, marks_undone, retries_by}
use Rattle.ll_engine.proofs.choices.Choices.retry.Goals as goal

-- what is known of the point that was taken off
newest : (z : Stored) (qs : List ChoicePoint) (k : ChoicePoint) → z.points.items ≡ qs ++ k ∷ [] → IsSound false z
    → Popped z.problem.now z.machine z.points.items qs k
newest z qs k e s = popped z.problem.now z.machine z.points.items qs k e s.marks s.sound.points

pub undo-requires : goal.undo-requires
undo-requires c = (newest c.args.self.now c.pop_back.new.self.items c.in-Some.kept c.in-Some.ensures.items c.requires.sound).good

pub choose-requires-clause-open : goal.choose-requires-clause-open
choose-requires-clause-open c =
    let w = newest c.args.self.now c.pop_back.new.self.items c.in-Some.kept c.in-Some.ensures.items c.requires.sound in
    subst (λ (p : Parts). IsOpen c.args.self.now.problem.now p) (sym c.undo.ensures.parts) w.kept.opened

pub choose-requires-clause-tries : goal.choose-requires-clause-tries
choose-requires-clause-tries c =
    let w = newest c.args.self.now c.pop_back.new.self.items c.in-Some.kept c.in-Some.ensures.items c.requires.sound in
    subst (λ (cs : List Candidate). AreTries (parts_of c.undo.new.self) cs) c.in-Some-pop.ensures.items
    (subst (λ (p : Parts). AreTries p c.in-Some.kept.untried.items) (sym c.undo.ensures.parts) w.kept.tries)

pub unreachable-requires-in_default-pop : goal.unreachable-requires-in_default-pop
unreachable-requires-in_default-pop c =
    let w = newest c.args.self.now c.pop_back.new.self.items c.in-Some.kept c.in-Some.ensures.items c.requires.sound in
    w.kept.some (none_left c.in-Some.kept.untried.items c.in-Some.kept.untried.len c.in-Some.kept.untried.ok.0 c.in_default-pop.ensures.cases.0)

pub choose-requires-clause-points : goal.choose-requires-clause-points
choose-requires-clause-points c =
    let z = c.args.self.now in
    let w = newest c.args.self.now c.pop_back.new.self.items c.in-Some.kept c.in-Some.ensures.items c.requires.sound in
    subst (λ (hs : List Held). AreKept z.problem.now hs) (sym
    (helds_undone z.machine c.undo.new.self c.in-Some.kept.mark c.pop_back.new.self.items c.undo.ensures.marks w.goods w.before)) w.others

pub choose-requires-clause-marks : goal.choose-requires-clause-marks
choose-requires-clause-marks c =
    let w = newest c.args.self.now c.pop_back.new.self.items c.in-Some.kept c.in-Some.ensures.items c.requires.sound in
    record {
      good = marks_undone c.args.self.now.machine c.undo.new.self c.in-Some.kept.mark c.pop_back.new.self.items c.undo.ensures.marks w.goods w.before;
      rise = w.rises;
    }

pub choose-requires-clause-based : goal.choose-requires-clause-based
choose-requires-clause-based c =
    let z = c.args.self.now in
    based_undone z.machine c.undo.new.self z.points.items c.pop_back.new.self.items c.in-Some.kept z.ancestor c.undo.ensures.marks c.in-Some.ensures.items
    c.requires.sound.based

pub returns-clause-retries : goal.returns-clause-retries
returns-clause-retries c =
    let z = c.args.self.now in
    let w = newest c.args.self.now c.pop_back.new.self.items c.in-Some.kept c.in-Some.ensures.items c.requires.sound in
    let m = parts_of c.undo.new.self in let ps = helds c.undo.new.self c.pop_back.new.self.items in
    let Chosen : List Candidate → Bool → Type 0 = λ cs running.
    Chose (choices_at (first_of z) z.problem.now m ps) (state_of m) (c.undo.new.self.left - 1) (reverse cs)
    (points_of ps) running (choices_of c.choose.new.self) in
    IfOk-each c.choose.result (Chosen (c.pop.new.self.items ++ c.in-Some-pop.candidate ∷ []))
    (λ running. Retries (choices_of z) running (choices_of c.choose.new.self))
    (λ running e. retries_by (first_of z) z.problem.now (parts_of z.machine) m (helds z.machine z.points.items) (helds z.machine c.pop_back.new.self.items) ps
    (held_of z.machine c.in-Some.kept) running (choices_of c.choose.new.self) w.list c.undo.ensures.parts
    (helds_undone z.machine c.undo.new.self c.in-Some.kept.mark c.pop_back.new.self.items c.undo.ensures.marks w.goods w.before)
    (subst (λ (cs : List Candidate). Chosen cs running) (sym c.in-Some-pop.ensures.items) e))
    c.choose.ensures.chose

pub returns-clause-sound : goal.returns-clause-sound
returns-clause-sound c = c.choose.ensures.sound
