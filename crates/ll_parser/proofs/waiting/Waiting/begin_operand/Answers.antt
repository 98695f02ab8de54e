use Rattle.std.proofs.Common.{◌≡◌, length, Some, refl, arith}
use Rattle.ll_parser.specs.Grammar.{lower, upper}
use Rattle.ll_parser.specs.Flat.{part}
use Rattle.ll_parser.specs.Nodes.{identifier}
use Rattle.ll_parser.specs.Waiting.{known, waiting}
use Rattle.ll_parser.proofs.machines.Handing.{begins, begins-args, begins-waits, no-operand}
use Rattle.ll_parser.proofs.waiting.Waiting.begin_operand.Goals as goal

pub returns-in-Any-clause-gives : goal.returns-in-Any-clause-gives
returns-in-Any-clause-gives c = rw c.in-Any.is c.plain.ensures.gives

pub returns-in-Any-clause-grows : goal.returns-in-Any-clause-grows
returns-in-Any-clause-grows c = c.plain.ensures.grows

pub returns-in-True-clause-gives : goal.returns-in-True-clause-gives
returns-in-True-clause-gives c = rw c.in-True.is c.primary.ensures.gives

pub returns-in-True-clause-grows : goal.returns-in-True-clause-grows
returns-in-True-clause-grows c = c.primary.ensures.grows

pub returns-in-Erase-clause-gives : goal.returns-in-Erase-clause-gives
returns-in-Erase-clause-gives c = rw c.in-Erase.is c.primary-in-Erase.ensures.gives

pub returns-in-Erase-clause-grows : goal.returns-in-Erase-clause-grows
returns-in-Erase-clause-grows c = c.primary-in-Erase.ensures.grows

pub returns-in-ParenLeft-clause-gives : goal.returns-in-ParenLeft-clause-gives
returns-in-ParenLeft-clause-gives c = rw c.in-ParenLeft.is c.want.ensures.gives

pub returns-in-ParenLeft-clause-grows : goal.returns-in-ParenLeft-clause-grows
returns-in-ParenLeft-clause-grows c = c.want.ensures.grows

pub returns-in-BraceLeft-clause-gives : goal.returns-in-BraceLeft-clause-gives
returns-in-BraceLeft-clause-gives c = rw c.in-BraceLeft.is c.want-in-BraceLeft.ensures.gives

pub returns-in-BraceLeft-clause-grows : goal.returns-in-BraceLeft-clause-grows
returns-in-BraceLeft-clause-grows c = c.want-in-BraceLeft.ensures.grows

pub returns-in-Number-clause-grows : goal.returns-in-Number-clause-grows
returns-in-Number-clause-grows c = c.plain-in-Number.ensures.grows

pub plain-requires-clause-fits : goal.plain-requires-clause-fits
plain-requires-clause-fits c = c.requires

pub plain-requires-in-Number-clause-fits : goal.plain-requires-in-Number-clause-fits
plain-requires-in-Number-clause-fits c = c.requires

pub primary-requires-clause-fits : goal.primary-requires-clause-fits
primary-requires-clause-fits c = c.requires

pub primary-requires-in-Erase-clause-fits : goal.primary-requires-in-Erase-clause-fits
primary-requires-in-Erase-clause-fits c = c.requires

pub returns-in-Name-clause-gives : goal.returns-in-Name-clause-gives
returns-in-Name-clause-gives c =
    let old = c.args.self.now in
    let e : c.len.result ≡ length old.args.items = omega (arith, old.args.ok.0, c.len.ensures) in (
      begins old c.len.result e c.requires,
      λ texts. rw c.in-Name.is (λ i. Some (part (lower (identifier (known texts) c.in-Name.name))
          (begins-args old c.len.result e (known texts) i)
          (begins-waits old c.len.result e (known texts) i))),
    )

pub returns-in-Name-clause-grows : goal.returns-in-Name-clause-grows
returns-in-Name-clause-grows c = λ later e. e

pub returns-in-Variable-clause-gives : goal.returns-in-Variable-clause-gives
returns-in-Variable-clause-gives c =
    let old = c.args.self.now in
    let e : c.len-in-Variable.result ≡ length old.args.items = omega (arith, old.args.ok.0, c.len-in-Variable.ensures) in (
      begins old c.len-in-Variable.result e c.requires,
      λ texts. rw c.in-Variable.is (λ i. Some (part (upper (identifier (known texts) c.in-Variable.name))
          (begins-args old c.len-in-Variable.result e (known texts) i)
          (begins-waits old c.len-in-Variable.result e (known texts) i))),
    )

pub returns-in-Variable-clause-grows : goal.returns-in-Variable-clause-grows
returns-in-Variable-clause-grows c = λ later e. e

pub want-requires : goal.want-requires
want-requires c = record { fits = c.requires; frame = tt }

pub want-requires-in-BraceLeft : goal.want-requires-in-BraceLeft
want-requires-in-BraceLeft c = record { fits = c.requires; frame = tt }

pub returns-in-Forall-clause-gives : goal.returns-in-Forall-clause-gives
returns-in-Forall-clause-gives c = (c.requires, λ texts. rw c.in-Forall.is refl)

pub returns-in-Forall-clause-grows : goal.returns-in-Forall-clause-grows
returns-in-Forall-clause-grows c = λ later e. e

pub returns-in-Exists-clause-gives : goal.returns-in-Exists-clause-gives
returns-in-Exists-clause-gives c = (c.requires, λ texts. rw c.in-Exists.is refl)

pub returns-in-Exists-clause-grows : goal.returns-in-Exists-clause-grows
returns-in-Exists-clause-grows c = λ later e. e

pub returns-in_default : goal.returns-in_default
returns-in_default c = record {
  gives = λ texts. no-operand c.args.symbol c.in_default.not-Name c.in_default.not-Variable c.in_default.not-Any c.in_default.not-Number
      c.in_default.not-True c.in_default.not-Erase c.in_default.not-Forall c.in_default.not-Exists c.in_default.not-ParenLeft c.in_default.not-BraceLeft
      (known texts) (waiting (known texts) c.args.self.now);
  grows = λ later e. e;
}
