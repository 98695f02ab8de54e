use Rattle.std.proofs.Common.{ap, sym, subst, refl, length, ◌-◌, ◌≤◌, ◌∙◌, arith}
use Rattle.ll_bank.specs.declared.At.{At}
use Rattle.ll_bank.specs.Term.{place}
use Rattle.ll_bank.specs.Closing.{env_in, HasValues}
use Rattle.ll_bank.proofs.EnvironmentLemmas.{length-before}
use Rattle.ll_bank.proofs.Trees.{Extends-refl}
use Rattle.ll_bank.proofs.closes.Values.{place_listed, length_listed}
use Rattle.ll_bank.proofs.closing.values.Values.value.Goals as goal

pub returns-then-number-values-clause-shows : goal.returns-then-number-values-clause-shows
returns-then-number-values-clause-shows c = λ n.
    let none : At = record { 0 = 0 } in
    let bank = c.args.bank.now in let vs = c.in-Places.values.now in
    let i = length vs - 1 - c.args.bound in
    let inside = subst (HasValues bank) c.in-Places.is c.requires in
    record {
      inside = inside i none (let l = c.if-number-values.true in omega (arith, l));
      tree = sym (ap (λ v. place (env_in bank v) c.args.bound n) c.in-Places.is
          ∙ place_listed bank vs c.args.bound n i none c.if-number-values.true refl);
    }

pub returns-then-number-values-clause-keeps : goal.returns-then-number-values-clause-keeps
returns-then-number-values-clause-keeps c = Extends-refl c.args.bank.now

pub returns-else-number-values-clause-none : goal.returns-else-number-values-clause-none
returns-else-number-values-clause-none c =
    subst (λ v. length (env_in c.args.bank.now v) ≤ c.args.bound) (sym c.in-Places.is)
    (let e = length_listed c.args.bank.now c.in-Places.values.now in let l = c.if-number-values.false in omega (arith, e, l))

pub returns-else-number-values-clause-keeps : goal.returns-else-number-values-clause-keeps
returns-else-number-values-clause-keeps c = Extends-refl c.args.bank.now

pub returns-in-None-clause-none : goal.returns-in-None-clause-none
returns-in-None-clause-none c =
    subst (λ v. length (env_in c.args.bank.now v) ≤ c.args.bound) (sym c.in-Variables.is)
    (let e = length-before c.in-Variables.environment.end c.in-Variables.environment.count in let l = c.in-None.ensures.none in omega (arith, e, l))

pub returns-in-None-clause-keeps : goal.returns-in-None-clause-keeps
returns-in-None-clause-keeps c = Extends-refl c.args.bank.now
