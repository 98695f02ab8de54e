use Rattle.std.proofs.lemmas.Result.{IfOk-from_err}
use Rattle.std.proofs.Common.{◌≡◌, ap, sym, ◌∙◌, List, ◌++◌, ◌∷◌, [], reverse, rules}
use Rattle.ll_list_laws.proofs.CallerLemmas.{IfOk-each}
use Rattle.ll_laws.specs.declared.Candidate.{Candidate}
use Rattle.ll_freeze.specs.Parts.{parts_of}
use Rattle.ll_freeze.specs.Shown.{state_of}
use Rattle.ll_engine.specs.Matches.{all_found, matches}
use Rattle.ll_engine.specs.Pointed.{ChoseOf, choices_of, first_of, helds}
use Rattle.ll_engine.specs.Turned.{Expands}
use Rattle.ll_engine.proofs.turns.Pointing.{are_tries, expands, expands_none, first_last}
use Rattle.ll_engine.proofs.choices.Choices.expand.Goals as goal

-- the candidate of a goal that has one alone
abbrev first : Candidate
first = record { label = 0; leaf = 0 }

-- it stands behind no other
alone : (us cs : List Candidate) → us ≡ [] → cs ≡ first ∷ [] → reverse (us ++ first ∷ []) ≡ cs
alone us cs e h = first_last cs us first (h ∙ ap (λ xs. first ∷ reverse xs) (sym e))

pub choose-requires-clause-tries : goal.choose-requires-clause-tries
choose-requires-clause-tries c =
    let m = parts_of c.args.self.now.machine in
    are_tries m (c.new.result.items ++ first ∷ []) c.requires.sound.sound.machine.0
    (alone c.new.result.items (matches (state_of m)) c.new.ensures.items (c.is_sure.ensures c.if-is_sure.true))

pub returns-then-is_sure-clause-expands : goal.returns-then-is_sure-clause-expands
returns-then-is_sure-clause-expands c =
    let z = c.args.self.now in let m = parts_of z.machine in let cs = c.new.result.items ++ first ∷ [] in
    IfOk-each c.choose.result (λ running. ChoseOf z cs running c.choose.new.self) (λ running. Expands (choices_of z) running (choices_of c.choose.new.self))
    (λ running e. expands (first_of z) z.problem.now m (helds z.machine z.points.items) (choices_of c.choose.new.self) cs running
    c.requires.sound.sound.machine.0 c.requires.left
    (alone c.new.result.items (matches (state_of m)) c.new.ensures.items (c.is_sure.ensures c.if-is_sure.true)) e)
    c.choose.ensures.chose

pub choose-requires-2-clause-tries : goal.choose-requires-2-clause-tries
choose-requires-2-clause-tries c =
    are_tries (parts_of c.args.self.now.machine) (c.in-Some.untried.items ++ c.in-Some.candidate ∷ []) c.requires.sound.sound.machine.0
    (first_last (all_found c.in_ok-found.found) c.in-Some.untried.items c.in-Some.candidate c.in-Some.ensures.some ∙ c.in_ok-found.ensures)

pub returns-clause-expands : goal.returns-clause-expands
returns-clause-expands c =
    let z = c.args.self.now in let cs = c.in-Some.untried.items ++ c.in-Some.candidate ∷ [] in
    IfOk-each c.choose-2.result (λ running. ChoseOf z cs running c.choose-2.new.self)
    (λ running. Expands (choices_of z) running (choices_of c.choose-2.new.self))
    (λ running e. expands (first_of z) z.problem.now (parts_of z.machine) (helds z.machine z.points.items) (choices_of c.choose-2.new.self) cs running
    c.requires.sound.sound.machine.0 c.requires.left (first_last (all_found c.in_ok-found.found) c.in-Some.untried.items c.in-Some.candidate
    c.in-Some.ensures.some ∙ c.in_ok-found.ensures) e)
    c.choose-2.ensures.chose

pub returns-in_default-clause-expands : goal.returns-in_default-clause-expands
returns-in_default-clause-expands c =
    let z = c.args.self.now in
    expands_none (first_of z) z.problem.now (parts_of z.machine) (helds z.machine z.points.items) (all_found c.in_ok-found.found)
    c.requires.sound.sound.machine.0 c.requires.left c.in_ok-found.ensures c.in_default.ensures.none

pub returns-in_default-clause-sound : goal.returns-in_default-clause-sound
returns-in_default-clause-sound c =
    record {
      index = c.requires.sound.index;
      sound = record { points = c.requires.sound.sound.points; machine = tt };
      marks = c.requires.sound.marks;
      based =
          c.requires.sound.based;
    }

pub returns-clause-sound : goal.returns-clause-sound
returns-clause-sound c = c.choose-2.ensures.sound

pub returns-in_err-found-clause-sound : goal.returns-in_err-found-clause-sound
returns-in_err-found-clause-sound c = IfOk-from_err c.from_residual.result _ c.from_residual.ensures.0

pub returns-in_err-found-clause-expands : goal.returns-in_err-found-clause-expands
returns-in_err-found-clause-expands c = IfOk-from_err c.from_residual.result _ c.from_residual.ensures.0

pub choose-requires-clause-index : goal.choose-requires-clause-index
choose-requires-clause-index c = c.requires.sound.index

pub choose-requires-clause-points : goal.choose-requires-clause-points
choose-requires-clause-points c = c.requires.sound.sound.points

pub choose-requires-clause-marks : goal.choose-requires-clause-marks
choose-requires-clause-marks c = c.requires.sound.marks

pub choose-requires-clause-based : goal.choose-requires-clause-based
choose-requires-clause-based c = c.requires.sound.based

pub candidates-requires-clause-fits : goal.candidates-requires-clause-fits
candidates-requires-clause-fits c = c.requires.sound.sound.machine.0

pub choose-requires-clause-open : goal.choose-requires-clause-open
choose-requires-clause-open c = search rules
