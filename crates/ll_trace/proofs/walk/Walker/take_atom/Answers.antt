use Rattle.std.proofs.Common.{◌≡◌, ◌+◌, refl, ap, subst, arith, length}
use Rattle.std.proofs.lemmas.Result.{IfOk-from_err}
use Rattle.ll_laws.specs.declared.Step.{Step}
use Rattle.ll_laws.specs.declared.Rule.TheVariants.{Clause as ClauseRule}
use Rattle.ll_trace.specs.declared.walk.Walker.{Walker}
use Rattle.ll_trace.specs.Walker.{MayTakeAtom}
use Rattle.ll_trace.proofs.TakeLemmas.{takes_leaf}
use Rattle.ll_trace.proofs.walk.Walker.take_atom.Goals as goal

pub returns : goal.returns
returns c modules inside =
    let old = c.args.self.now in
    let o = c.in_ok-opened.opened in
    let taken = c.in_ok-taken.taken in
    let new : Walker = record { goals = c.open_leaf.new.goals; clauses = old.clauses; eigens = old.eigens; used = old.used + c.len.result } in
    takes_leaf c.args.forms.now modules c.args.terms.now old c.args.step inside c.requires.used c.in-Clause.label c.in-Clause.leaf c.index-clause.result.now o
    new (ClauseRule c.in-Clause.label c.in-Clause.leaf taken o.parts) taken.items c.in-Clause.is
    (subst (λ (s : Step). MayTakeAtom c.args.forms.now old s) c.in-Clause.is c.requires.may) c.index-clause.ensures c.in_ok-opened.ensures refl refl
    (let l : c.len.result ≡ length taken.items = omega arith in ap (λ n. old.used + n) l) c.in_ok-taken.ensures (λ bank. refl) (λ bank. refl)

pub returns-in_err-opened : goal.returns-in_err-opened
returns-in_err-opened c = IfOk-from_err c.from_residual.result _ c.from_residual.ensures.0

pub returns-in_err-taken : goal.returns-in_err-taken
returns-in_err-taken c = IfOk-from_err c.from_residual-in_err-taken.result _ c.from_residual-in_err-taken.ensures.0
