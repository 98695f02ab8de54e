use Rattle.std.proofs.Common.{◌≡◌, length, Some, arith}
use Rattle.ll_parser.specs.Grammar.{lower, upper}
use Rattle.ll_parser.specs.Flat.{term_part}
use Rattle.ll_parser.specs.Nodes.{identifier}
use Rattle.ll_parser.specs.Waiting.{known, waiting}
use Rattle.ll_parser.proofs.machines.Handing.{begins, begins-args, begins-waits, no-term-begin}
use Rattle.ll_parser.proofs.waiting.Waiting.begin_term.Goals as goal

pub returns-in-Name-clause-gives : goal.returns-in-Name-clause-gives
returns-in-Name-clause-gives c =
    let old = c.args.self.now in
    let e : c.len.result ≡ length old.args.items = omega (arith, old.args.ok.0, c.len.ensures) in (
      begins old c.len.result e c.requires,
      λ texts. rw c.in-Name.is (λ i. Some (term_part (lower (identifier (known texts) c.in-Name.name))
          (begins-args old c.len.result e (known texts) i)
          (begins-waits old c.len.result e (known texts) i))),
    )

pub returns-in-Name-clause-grows : goal.returns-in-Name-clause-grows
returns-in-Name-clause-grows c = λ later e. e

pub returns-in-Variable-clause-gives : goal.returns-in-Variable-clause-gives
returns-in-Variable-clause-gives c =
    let old = c.args.self.now in
    let e : c.len-in-Variable.result ≡ length old.args.items = omega (arith, old.args.ok.0, c.len-in-Variable.ensures) in (
      begins old c.len-in-Variable.result e c.requires,
      λ texts. rw c.in-Variable.is (λ i. Some (term_part (upper (identifier (known texts) c.in-Variable.name))
          (begins-args old c.len-in-Variable.result e (known texts) i)
          (begins-waits old c.len-in-Variable.result e (known texts) i))),
    )

pub returns-in-Variable-clause-grows : goal.returns-in-Variable-clause-grows
returns-in-Variable-clause-grows c = λ later e. e

pub returns-in-Any-clause-gives : goal.returns-in-Any-clause-gives
returns-in-Any-clause-gives c = rw c.in-Any.is c.constant.ensures.gives

pub returns-in-Any-clause-grows : goal.returns-in-Any-clause-grows
returns-in-Any-clause-grows c = c.constant.ensures.grows

pub returns-in-Number-clause-grows : goal.returns-in-Number-clause-grows
returns-in-Number-clause-grows c = c.constant-in-Number.ensures.grows

pub returns-in-ParenLeft-clause-gives : goal.returns-in-ParenLeft-clause-gives
returns-in-ParenLeft-clause-gives c = rw c.in-ParenLeft.is c.want_term.ensures.gives

pub returns-in-ParenLeft-clause-grows : goal.returns-in-ParenLeft-clause-grows
returns-in-ParenLeft-clause-grows c = c.want_term.ensures.grows

pub constant-requires-clause-fits : goal.constant-requires-clause-fits
constant-requires-clause-fits c = c.requires

pub constant-requires-in-Number-clause-fits : goal.constant-requires-in-Number-clause-fits
constant-requires-in-Number-clause-fits c = c.requires

pub want_term-requires : goal.want_term-requires
want_term-requires c = record { fits = c.requires; frame = tt }

pub returns-in_default : goal.returns-in_default
returns-in_default c = record {
  gives = λ texts. no-term-begin c.args.symbol c.in_default.not-Name c.in_default.not-Variable c.in_default.not-Any c.in_default.not-Number
      c.in_default.not-ParenLeft (known texts) (waiting (known texts) c.args.self.now);
  grows = λ later e. e;
}
