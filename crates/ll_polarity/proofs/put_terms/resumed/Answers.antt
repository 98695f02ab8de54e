use Rattle.std.proofs.Common.{◌≡◌, suc, [], length, refl, subst, arith}
use Rattle.std.proofs.lemmas.Result.{IfOk-from_err}
use Rattle.ll_parser.specs.Raw.{more}
use Rattle.ll_parser.specs.Nodes.{raw_at}
use Rattle.ll_polarity.specs.Calls.{arguments_from}
use Rattle.ll_bank.proofs.CallerLemmas.{Extends-refl}
use Rattle.ll_polarity.proofs.put_terms.resumed.Goals as goal

pub returns-in_err-push-in-Some-clause-keeps : goal.returns-in_err-push-in-Some-clause-keeps
returns-in_err-push-in-Some-clause-keeps c = Extends-refl c.args.bank.now

pub returns-in_ok-push-in-Some-clause-resumed : goal.returns-in_ok-push-in-Some-clause-resumed
returns-in_ok-push-in-Some-clause-resumed c = record {
  waiting = c.in_ok-push-in-Some.ensures.items;
  bank = refl;
  inside = (c.in-Some.ensures []).0;
  next =
      let l : c.len.result ≡ length c.args.call.args.items = omega (arith, c.len.ensures, c.args.call.args.ok.0) in
      λ texts. subst (λ k. arguments_from texts c.args.forms.now k c.args.call
      ≡ more (raw_at texts c.args.forms.now c.in-Some.arg.0) (arguments_from texts c.args.forms.now (suc k) c.args.call)) l (c.in-Some.ensures texts).1;
}

pub returns-in_ok-push-in-Some-clause-keeps : goal.returns-in_ok-push-in-Some-clause-keeps
returns-in_ok-push-in-Some-clause-keeps c = Extends-refl c.args.bank.now

pub returns-in_err-push-in-Some-clause-resumed : goal.returns-in_err-push-in-Some-clause-resumed
returns-in_err-push-in-Some-clause-resumed c = IfOk-from_err c.from_residual.result _ c.from_residual.ensures.0

pub returns-in_err-term-in-None-clause-resumed : goal.returns-in_err-term-in-None-clause-resumed
returns-in_err-term-in-None-clause-resumed c = IfOk-from_err c.from_residual-in_err-term-in-None.result _ c.from_residual-in_err-term-in-None.ensures.0
