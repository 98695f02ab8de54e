use Rattle.std.proofs.lemmas.Result.{IfOk-from_err}
use Rattle.std.proofs.Common.{sym, subst, List}
use Rattle.ll_freeze.specs.Parts.{parts_of}
use Rattle.ll_freeze.proofs.CallerLemmas.{keeps}
use Rattle.ll_engine.specs.Turned.{Settles}
use Rattle.ll_engine.specs.Pointed.{Held, IsSoundAt, choices_at, choices_of, first_of, helds}
use Rattle.ll_engine.proofs.machine.Basing.{based_kept}
use Rattle.ll_engine.proofs.turns.Pointing.{settles, settled_sound, helds_kept, marks_kept}
use Rattle.ll_engine.proofs.choices.Choices.settle.Goals as goal

pub returns-clause-sound : goal.returns-clause-sound
returns-clause-sound c =
    let z = c.args.self.now in let m = c.settle.new.machine in let ps = z.points.items in
    record {
      index = c.requires.sound.index;
      sound =
          subst (λ (hs : List Held). IsSoundAt c.in_ok-ok.ok z.problem.now (parts_of m) hs)
          (sym (helds_kept z.machine m ps (keeps z.machine m c.in_ok-ok.ensures.later) c.requires.sound.marks.good))
          (settled_sound z.problem.now (parts_of z.machine) (parts_of m) (helds z.machine ps) c.in_ok-ok.ok c.in_ok-ok.ensures.settles c.in_ok-ok.ensures.same
          c.requires.sound.sound);
      marks = marks_kept z.machine m ps (keeps z.machine m c.in_ok-ok.ensures.later) c.requires.sound.marks;
      based = based_kept z.machine m ps z.ancestor (keeps z.machine m c.in_ok-ok.ensures.later) c.requires.sound.based;
    }

pub returns-clause-settles : goal.returns-clause-settles
returns-clause-settles c =
    let z = c.args.self.now in let m = c.settle.new.machine in let ps = z.points.items in
    subst (λ (hs : List Held). Settles (choices_of z) c.in_ok-ok.ok (choices_at (first_of z) z.problem.now (parts_of m) hs))
    (sym (helds_kept z.machine m ps (keeps z.machine m c.in_ok-ok.ensures.later) c.requires.sound.marks.good))
    (settles (first_of z) z.problem.now (parts_of z.machine) (parts_of m) (helds z.machine ps) c.in_ok-ok.ok c.in_ok-ok.ensures.settles c.in_ok-ok.ensures.same)

pub returns-in_err-ok-clause-sound : goal.returns-in_err-ok-clause-sound
returns-in_err-ok-clause-sound c = IfOk-from_err c.from_residual.result _ c.from_residual.ensures.0

pub returns-in_err-ok-clause-settles : goal.returns-in_err-ok-clause-settles
returns-in_err-ok-clause-settles c = IfOk-from_err c.from_residual.result _ c.from_residual.ensures.0
