use Rattle.std.proofs.lemmas.Result.{IfOk-from_err}
use Rattle.std.proofs.Common.{◌≡◌, length, arith, rules}
use Rattle.ll_bank.proofs.CallerLemmas.{Extends-refl}
use Rattle.ll_prooftext.proofs.spelling.Chains.{chain_none, chain_more, chain_keeps}
use Rattle.ll_prooftext.proofs.terms.Bracket.chain.Goals as goal

pub loop-left-init : goal.loop-left-init
loop-left-init c =
    let e : c.len-left.result ≡ length c.args.self.now.items.items = search rules in
    record {
      within = omega arith;
      shows = rw e (chain_none c.args.bank.now c.args.self.now.items.items c.args.last.0 c.requires.last);
      keeps =
          Extends-refl c.args.bank.now;
    }

pub loop-left-preserved : goal.loop-left-preserved
loop-left-preserved c =
    record {
      within = let w = c.loop-left.invariant.within in omega arith;
      shows = chain_more c.args.bank.now c.loop-left.bank c.app.new.self c.args.self.now.items.items c.loop-left.left c.index-item.result.now c.args.last.0
          c.loop-left.term.0 c.in_ok-term.term.0 c.loop-left.invariant.within c.loop-left-test.true c.index-item.ensures c.requires.items
          c.loop-left.invariant.shows c.loop-left.invariant.keeps c.in_ok-term.ensures.shows;
      keeps = chain_keeps c.args.bank.now c.loop-left.bank c.app.new.self c.loop-left.invariant.keeps c.in_ok-term.ensures.keeps;
    }

pub returns-in_err-term-clause-term : goal.returns-in_err-term-clause-term
returns-in_err-term-clause-term c = IfOk-from_err c.from_residual.result _ c.from_residual.ensures.0

pub returns-in_err-term-clause-keeps : goal.returns-in_err-term-clause-keeps
returns-in_err-term-clause-keeps c = IfOk-from_err c.from_residual.result _ c.from_residual.ensures.0
