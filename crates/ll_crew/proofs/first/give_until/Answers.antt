use Rattle.std.proofs.Common.{refl}
use Rattle.ll_laws.specs.Problem.{problem_events}
use Rattle.ll_first.proofs.CallerLemmas.{all_given, enough_given, prefix_within, same_lent, same_lent_prefix, faults_on, faults_prefix, fewer_within}
use Rattle.ll_first.proofs.CallerLemmas.{not_enough}
use Rattle.ll_crew.proofs.first.give_until.Goals as goal

pub returns-in-Ok-clause-same_reference : goal.returns-in-Ok-clause-same_reference
returns-in-Ok-clause-same_reference g c =
    same_lent (λ u. record { out = u.out.now; ended = u.ended; lent = u.out.ghost_name })
    g.E.Outlet.takes g.E.Outlet.breaks g.E.Outlet.faults g.E.Enough.limit g.E.Enough.answers c.args.until.now c.crew_with.new.out
    (problem_events c.args.problem.now) c.in-Ok.ensures.given

pub returns-in-Ok-clause-enough : goal.returns-in-Ok-clause-enough
returns-in-Ok-clause-enough g c =
    let all = all_given (λ u. record { out = u.out.now; ended = u.ended; lent = u.out.ghost_name })
    g.E.Outlet.takes g.E.Outlet.breaks g.E.Outlet.faults g.E.Enough.limit g.E.Enough.answers g.met.E.Enough.counts c.args.until.now
    (g.met.E.Enough.limited c.args.until.now.out.now) c.requires.none_yet c.requires.starts c.crew_with.new.out (problem_events c.args.problem.now)
    c.in-Ok.ensures.given in
    not_enough c.in-Ok.counts _ _ all.1

pub returns-in-Ok-clause-given : goal.returns-in-Ok-clause-given
returns-in-Ok-clause-given g c =
    let all = all_given (λ u. record { out = u.out.now; ended = u.ended; lent = u.out.ghost_name })
    g.E.Outlet.takes g.E.Outlet.breaks g.E.Outlet.faults g.E.Enough.limit g.E.Enough.answers g.met.E.Enough.counts c.args.until.now
    (g.met.E.Enough.limited c.args.until.now.out.now) c.requires.none_yet c.requires.starts c.crew_with.new.out (problem_events c.args.problem.now)
    c.in-Ok.ensures.given in
    all.0

pub returns-in-Ok-clause-faults_kept : goal.returns-in-Ok-clause-faults_kept
returns-in-Ok-clause-faults_kept g c =
    faults_on (λ u. record { out = u.out.now; ended = u.ended; lent = u.out.ghost_name })
    g.E.Outlet.takes g.E.Outlet.breaks g.E.Outlet.faults g.E.Enough.limit g.E.Enough.answers c.args.until.now c.crew_with.new.out
    (problem_events c.args.problem.now) c.in-Ok.ensures.given

pub returns-in-Err-clause-same_reference : goal.returns-in-Err-clause-same_reference
returns-in-Err-clause-same_reference g c =
    same_lent_prefix (λ u. record { out = u.out.now; ended = u.ended; lent = u.out.ghost_name })
    g.E.Outlet.takes g.E.Outlet.breaks g.E.Outlet.faults g.E.Enough.limit g.E.Enough.answers c.args.until.now c.crew_with.new.out
    (problem_events c.args.problem.now) c.in-Err.ensures.refused

pub returns-in-Err-clause-enough : goal.returns-in-Err-clause-enough
returns-in-Err-clause-enough g c =
    let all = enough_given (λ u. record { out = u.out.now; ended = u.ended; lent = u.out.ghost_name })
    g.E.Outlet.takes g.E.Outlet.breaks g.E.Outlet.faults g.E.Enough.limit g.E.Enough.answers g.met.E.Enough.counts c.args.until.now
    (g.met.E.Enough.limited c.args.until.now.out.now) c.requires.none_yet c.requires.starts c.crew_with.new.out (problem_events c.args.problem.now)
    c.if-until.true c.in-Err.ensures.refused in
    (λ e. all.1, λ h. refl)

pub returns-in-Err-clause-given : goal.returns-in-Err-clause-given
returns-in-Err-clause-given g c =
    let all = enough_given (λ u. record { out = u.out.now; ended = u.ended; lent = u.out.ghost_name })
    g.E.Outlet.takes g.E.Outlet.breaks g.E.Outlet.faults g.E.Enough.limit g.E.Enough.answers g.met.E.Enough.counts c.args.until.now
    (g.met.E.Enough.limited c.args.until.now.out.now) c.requires.none_yet c.requires.starts c.crew_with.new.out (problem_events c.args.problem.now)
    c.if-until.true c.in-Err.ensures.refused in
    all.0

pub returns-in-Err-clause-faults_kept : goal.returns-in-Err-clause-faults_kept
returns-in-Err-clause-faults_kept g c =
    faults_prefix (λ u. record { out = u.out.now; ended = u.ended; lent = u.out.ghost_name })
    g.E.Outlet.takes g.E.Outlet.breaks g.E.Outlet.faults g.E.Enough.limit g.E.Enough.answers c.args.until.now c.crew_with.new.out
    (problem_events c.args.problem.now) c.in-Err.ensures.refused

pub returns-in-Err-2-clause-same_reference : goal.returns-in-Err-2-clause-same_reference
returns-in-Err-2-clause-same_reference g c =
    same_lent_prefix (λ u. record { out = u.out.now; ended = u.ended; lent = u.out.ghost_name })
    g.E.Outlet.takes g.E.Outlet.breaks g.E.Outlet.faults g.E.Enough.limit g.E.Enough.answers c.args.until.now c.crew_with.new.out
    (problem_events c.args.problem.now) c.in-Err-2.ensures.refused

pub returns-in-Err-2-clause-refused : goal.returns-in-Err-2-clause-refused
returns-in-Err-2-clause-refused g c =
    prefix_within (λ u. record { out = u.out.now; ended = u.ended; lent = u.out.ghost_name })
    g.E.Outlet.takes g.E.Outlet.breaks g.E.Outlet.faults g.E.Enough.limit g.E.Enough.answers g.met.E.Enough.counts c.args.until.now
    (g.met.E.Enough.limited c.args.until.now.out.now) c.requires.none_yet c.requires.starts c.crew_with.new.out (problem_events c.args.problem.now)
    c.if-until.false c.in-Err-2.ensures.refused

pub returns-in-Ok-clause-refused : goal.returns-in-Ok-clause-refused
returns-in-Ok-clause-refused g c = _

pub returns-in-Err-clause-counts : goal.returns-in-Err-clause-counts
returns-in-Err-clause-counts g c = _

pub returns-in-Err-clause-refused : goal.returns-in-Err-clause-refused
returns-in-Err-clause-refused g c = _

pub returns-in-Err-2-clause-enough : goal.returns-in-Err-2-clause-enough
returns-in-Err-2-clause-enough g c = _

pub returns-in-Err-2-clause-given : goal.returns-in-Err-2-clause-given
returns-in-Err-2-clause-given g c = _

pub returns-in-Err-2-clause-counts : goal.returns-in-Err-2-clause-counts
returns-in-Err-2-clause-counts g c = _

pub crew_with-requires-clause-valid : goal.crew_with-requires-clause-valid
crew_with-requires-clause-valid g c κs within = c.requires.valid

pub crew_with-requires-clause-suits : goal.crew_with-requires-clause-suits
crew_with-requires-clause-suits g c κs within = c.requires.suits

pub crew_with-requires-clause-index : goal.crew_with-requires-clause-index
crew_with-requires-clause-index g c κs within = c.requires.index

pub crew_with-requires-clause-welcome : goal.crew_with-requires-clause-welcome
crew_with-requires-clause-welcome g c κs within = c.requires.welcome

pub returns-in-Err-2-clause-fewer : goal.returns-in-Err-2-clause-fewer
returns-in-Err-2-clause-fewer g c =
    fewer_within (λ u. record { out = u.out.now; ended = u.ended; lent = u.out.ghost_name })
    g.E.Outlet.takes g.E.Outlet.breaks g.E.Outlet.faults g.E.Enough.limit g.E.Enough.answers g.met.E.Enough.counts c.args.until.now
    (g.met.E.Enough.limited c.args.until.now.out.now) c.requires.none_yet c.requires.starts g.met.E.Enough.keeps c.crew_with.new.out
    (problem_events c.args.problem.now) c.if-until.false c.in-Err-2.ensures.refused
