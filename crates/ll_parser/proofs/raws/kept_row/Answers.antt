use Rattle.std.proofs.Common.{List, [], ap, sym, append-nil}
use Rattle.std.proofs.lemmas.Result.{IfOk-from_err}
use Rattle.ll_parser.specs.declared.RawAt.{RawAt}
use Rattle.ll_parser.specs.Seen.{node_of}
use Rattle.ll_parser.specs.Stored.{AddsTo}
use Rattle.ll_parser.proofs.raws.kept_row.Goals as goal

-- a node without arguments adds none
none_added : (args : List RawAt) → AddsTo args args
none_added args = record { more = []; is = sym (append-nil args) }

pub returns-in-True : goal.returns-in-True
returns-in-True c = record { kept = tt; node = ap (node_of c.args.at) (sym c.in-True.is); behind = none_added c.args.args.now.items }

pub returns-in-Erase : goal.returns-in-Erase
returns-in-Erase c = record { kept = tt; node = ap (node_of c.args.at) (sym c.in-Erase.is); behind = none_added c.args.args.now.items }

pub returns-in-Braces : goal.returns-in-Braces
returns-in-Braces c = record { kept = tt; node = ap (node_of c.args.at) (sym c.in-Braces.is); behind = none_added c.args.args.now.items }

pub returns-in-Forall : goal.returns-in-Forall
returns-in-Forall c = record { kept = tt; node = ap (node_of c.args.at) (sym c.in-Forall.is); behind = none_added c.args.args.now.items }

pub returns-in-Exists : goal.returns-in-Exists
returns-in-Exists c = record { kept = tt; node = ap (node_of c.args.at) (sym c.in-Exists.is); behind = none_added c.args.args.now.items }

pub returns-in-Binary : goal.returns-in-Binary
returns-in-Binary c = record { kept = tt; node = ap (node_of c.args.at) (sym c.in-Binary.is); behind = none_added c.args.args.now.items }

pub returns-in-Any : goal.returns-in-Any
returns-in-Any c = record { kept = tt; node = ap (node_of c.args.at) (sym c.in-Any.is); behind = none_added c.args.args.now.items }

pub returns-in-Is : goal.returns-in-Is
returns-in-Is c = record { kept = tt; node = ap (node_of c.args.at) (sym c.in-Is.is); behind = none_added c.args.args.now.items }

pub returns-in-Less : goal.returns-in-Less
returns-in-Less c = record { kept = tt; node = ap (node_of c.args.at) (sym c.in-Less.is); behind = none_added c.args.args.now.items }

pub returns-in-Most : goal.returns-in-Most
returns-in-Most c = record { kept = tt; node = ap (node_of c.args.at) (sym c.in-Most.is); behind = none_added c.args.args.now.items }

pub returns-in-Int-clause-behind : goal.returns-in-Int-clause-behind
returns-in-Int-clause-behind c = none_added c.args.args.now.items

pub returns-in_err-span-in-Load-clause-kept : goal.returns-in_err-span-in-Load-clause-kept
returns-in_err-span-in-Load-clause-kept c = IfOk-from_err c.from_residual.result _ c.from_residual.ensures.0

pub returns-in_err-span-in-Load-clause-node : goal.returns-in_err-span-in-Load-clause-node
returns-in_err-span-in-Load-clause-node c = IfOk-from_err c.from_residual.result _ c.from_residual.ensures.0

pub returns-in_err-span-in-Load-clause-behind : goal.returns-in_err-span-in-Load-clause-behind
returns-in_err-span-in-Load-clause-behind c = c.store.ensures.behind

pub returns-in_ok-span-in-Load-clause-kept : goal.returns-in_ok-span-in-Load-clause-kept
returns-in_ok-span-in-Load-clause-kept c = c.in_ok-span-in-Load.ensures.span

pub returns-in_ok-span-in-Load-clause-behind : goal.returns-in_ok-span-in-Load-clause-behind
returns-in_ok-span-in-Load-clause-behind c = c.store.ensures.behind

pub returns-in_err-span-in-Head-clause-kept : goal.returns-in_err-span-in-Head-clause-kept
returns-in_err-span-in-Head-clause-kept c = IfOk-from_err c.from_residual-in_err-span-in-Head.result _ c.from_residual-in_err-span-in-Head.ensures.0

pub returns-in_err-span-in-Head-clause-node : goal.returns-in_err-span-in-Head-clause-node
returns-in_err-span-in-Head-clause-node c = IfOk-from_err c.from_residual-in_err-span-in-Head.result _ c.from_residual-in_err-span-in-Head.ensures.0

pub returns-in_err-span-in-Head-clause-behind : goal.returns-in_err-span-in-Head-clause-behind
returns-in_err-span-in-Head-clause-behind c = c.store-in-Head.ensures.behind

pub returns-in_ok-span-in-Head-clause-kept : goal.returns-in_ok-span-in-Head-clause-kept
returns-in_ok-span-in-Head-clause-kept c = c.in_ok-span-in-Head.ensures.span

pub returns-in_ok-span-in-Head-clause-behind : goal.returns-in_ok-span-in-Head-clause-behind
returns-in_ok-span-in-Head-clause-behind c = c.store-in-Head.ensures.behind
