use Rattle.std.proofs.lemmas.Result.{IfOk-from_err}
use Rattle.std.specs.List.{Contains}
use Rattle.std.proofs.Common.{refl, sym, subst, List, [], ◌∷◌, ◌++◌, reverse, ◌-◌}
use Rattle.ll_list_laws.proofs.CallerLemmas.{All-front, All-last as All-end}
use Rattle.ll_laws.specs.Attempt.{tries}
use Rattle.ll_laws.specs.declared.Candidate.{Candidate}
use Rattle.ll_freeze.specs.Shown.{state_of}
use Rattle.ll_freeze.specs.Parts.{parts_of}
use Rattle.ll_freeze.proofs.CallerLemmas.{keeps}
use Rattle.ll_engine.specs.Pointed.{Held, IsSoundAt, helds, points_of, choices_at, choices_of, first_of}
use Rattle.ll_engine.specs.Turned.{Chose}
use Rattle.ll_engine.proofs.machine.Basing.{based_kept, based_more}
use Rattle.ll_engine.proofs.turns.Pointing.{sound_after, chose_some, helds_kept, marks_kept}
use Rattle.ll_engine.proofs.choices.Choices.choose.Goals as goal

pub attempt-requires-clause-candidate : goal.attempt-requires-clause-candidate
attempt-requires-clause-candidate c =
    All-end (λ (d : Candidate). Contains (tries (state_of (parts_of c.args.self.now.machine))) d) c.args.untried.items c.args.candidate c.requires.tries

pub returns-clause-sound : goal.returns-clause-sound
returns-clause-sound c =
    let z = c.args.self.now in let m = c.attempt.new.machine in let ps = c.keep.new.points.items in
    let same = helds_kept z.machine m ps (keeps z.machine m c.in_ok-running.ensures.later) c.in_ok-keep.ensures.marks.good in
    record {
      index = c.requires.index;
      sound =
          subst (λ (hs : List Held). IsSoundAt c.in_ok-running.running z.problem.now (parts_of m) hs) (sym same)
          (sound_after z.problem.now (parts_of z.machine) (parts_of m) (helds z.machine z.points.items) (helds z.machine ps) c.args.untried.items
          c.args.candidate c.in_ok-running.running
          c.requires.open (All-front (λ (d : Candidate). Contains (tries (state_of (parts_of z.machine))) d) c.args.untried.items c.args.candidate
          c.requires.tries)
          c.requires.points c.in_ok-keep.ensures.kept c.in_ok-running.ensures.attempts);
      marks = marks_kept z.machine m ps (keeps z.machine m c.in_ok-running.ensures.later) c.in_ok-keep.ensures.marks;
      based = based_kept z.machine m ps z.ancestor (keeps z.machine m c.in_ok-running.ensures.later)
          (based_more z.machine z.points.items ps z.ancestor c.in_ok-keep.ensures.floors c.requires.based);
    }

pub returns-clause-chose : goal.returns-clause-chose
returns-clause-chose c =
    let z = c.args.self.now in let m = c.attempt.new.machine in let ps = c.keep.new.points.items in
    let same = helds_kept z.machine m ps (keeps z.machine m c.in_ok-running.ensures.later) c.in_ok-keep.ensures.marks.good in
    subst (λ (hs : List Held). Chose (choices_of z) (state_of (parts_of z.machine)) (z.machine.left - 1)
    (reverse (c.args.untried.items ++ c.args.candidate ∷ []))
    (points_of (helds z.machine z.points.items))
    c.in_ok-running.running (choices_at (first_of z) z.problem.now (parts_of m) hs)) (sym same)
    (chose_some (first_of z) z.problem.now (parts_of z.machine) (parts_of m) (helds z.machine z.points.items) (helds z.machine ps)
    (c.args.untried.items ++ c.args.candidate ∷ []) c.args.untried.items c.args.candidate
    c.in_ok-running.running refl c.requires.open.problem c.in_ok-keep.ensures.puts c.in_ok-running.ensures.attempts)

pub returns-in_err-keep-clause-sound : goal.returns-in_err-keep-clause-sound
returns-in_err-keep-clause-sound c = IfOk-from_err c.from_residual.result _ c.from_residual.ensures.0

pub returns-in_err-keep-clause-chose : goal.returns-in_err-keep-clause-chose
returns-in_err-keep-clause-chose c = IfOk-from_err c.from_residual.result _ c.from_residual.ensures.0

pub returns-in_err-running-clause-sound : goal.returns-in_err-running-clause-sound
returns-in_err-running-clause-sound c = IfOk-from_err c.from_residual-in_err-running.result _ c.from_residual-in_err-running.ensures.0

pub returns-in_err-running-clause-chose : goal.returns-in_err-running-clause-chose
returns-in_err-running-clause-chose c = IfOk-from_err c.from_residual-in_err-running.result _ c.from_residual-in_err-running.ensures.0
