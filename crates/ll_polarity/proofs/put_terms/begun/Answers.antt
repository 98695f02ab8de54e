use Rattle.std.proofs.Common.{refl, subst, arith, rules}
use Rattle.std.proofs.lemmas.Result.{IfOk-from_err}
use Rattle.ll_bank.proofs.CallerLemmas.{Extends-refl}
use Rattle.ll_parser.specs.Nodes.{identifier, raws_in, raw_trees}
use Rattle.ll_parser.specs.Seen.{places}
use Rattle.ll_polarity.specs.Named.{IsNamed}
use Rattle.ll_polarity.specs.Built.{built_term}
use Rattle.ll_polarity.specs.Standing.{met_of, around, HasRoom}
use Rattle.ll_polarity.proofs.naming.Named.{number-within}
use Rattle.ll_polarity.proofs.putting.Calling.{room_head, begun_head}
use Rattle.ll_polarity.specs.Spots.{texts_of, forms_of}
use Rattle.ll_polarity.proofs.put_terms.begun.Goals as goal

pub front_of-requires-clause-room : goal.front_of-requires-clause-room
front_of-requires-clause-room c =
    room_head (around c.args.spot.now.place c.args.spot.now.binders.now.scope) (met_of (texts_of c.args.spot.now) c.args.met.now)
    (identifier (texts_of c.args.spot.now) c.in-Head.name) (raws_in (raw_trees (texts_of c.args.spot.now) (forms_of c.args.spot.now))
    (places c.in-Head.field-1.now))
    (subst (λ r. HasRoom (built_term (around c.args.spot.now.place c.args.spot.now.binders.now.scope) (met_of (texts_of c.args.spot.now) c.args.met.now) r).met)
    (c.in-Head.ensures.tree (texts_of c.args.spot.now)) c.requires.room)

pub returns-in_err-front-in-Head-clause-keeps : goal.returns-in_err-front-in-Head-clause-keeps
returns-in_err-front-in-Head-clause-keeps c = Extends-refl c.args.bank.now

pub returns-in_err-number-in-Any-clause-keeps : goal.returns-in_err-number-in-Any-clause-keeps
returns-in_err-number-in-Any-clause-keeps c = Extends-refl c.args.bank.now

pub returns-in_ok-front-in-Head-clause-keeps : goal.returns-in_ok-front-in-Head-clause-keeps
returns-in_ok-front-in-Head-clause-keeps c = Extends-refl c.args.bank.now

pub returns-in_err-front-in-Head-clause-begun : goal.returns-in_err-front-in-Head-clause-begun
returns-in_err-front-in-Head-clause-begun c = IfOk-from_err c.from_residual.result _ c.from_residual.ensures.0

pub returns-in_err-front-in-Head-clause-fits : goal.returns-in_err-front-in-Head-clause-fits
returns-in_err-front-in-Head-clause-fits c = IfOk-from_err c.from_residual.result _ c.from_residual.ensures.0

pub returns-in_err-front-in-Head-clause-next : goal.returns-in_err-front-in-Head-clause-next
returns-in_err-front-in-Head-clause-next c = IfOk-from_err c.from_residual.result _ c.from_residual.ensures.0

pub returns-in_err-number-in-Any-clause-begun : goal.returns-in_err-number-in-Any-clause-begun
returns-in_err-number-in-Any-clause-begun c = IfOk-from_err c.from_residual-in_err-number-in-Any.result _ c.from_residual-in_err-number-in-Any.ensures.0

pub returns-in_err-number-in-Any-clause-fits : goal.returns-in_err-number-in-Any-clause-fits
returns-in_err-number-in-Any-clause-fits c = IfOk-from_err c.from_residual-in_err-number-in-Any.result _ c.from_residual-in_err-number-in-Any.ensures.0

pub returns-in_err-number-in-Any-clause-next : goal.returns-in_err-number-in-Any-clause-next
returns-in_err-number-in-Any-clause-next c = IfOk-from_err c.from_residual-in_err-number-in-Any.result _ c.from_residual-in_err-number-in-Any.ensures.0

pub returns-in_err-term-in-Any-clause-begun : goal.returns-in_err-term-in-Any-clause-begun
returns-in_err-term-in-Any-clause-begun c = IfOk-from_err c.from_residual-in_err-term-in-Any.result _ c.from_residual-in_err-term-in-Any.ensures.0

pub returns-in_err-term-in-Any-clause-fits : goal.returns-in_err-term-in-Any-clause-fits
returns-in_err-term-in-Any-clause-fits c = IfOk-from_err c.from_residual-in_err-term-in-Any.result _ c.from_residual-in_err-term-in-Any.ensures.0

pub returns-in_err-term-in-Any-clause-next : goal.returns-in_err-term-in-Any-clause-next
returns-in_err-term-in-Any-clause-next c = IfOk-from_err c.from_residual-in_err-term-in-Any.result _ c.from_residual-in_err-term-in-Any.ensures.0

pub returns-in_err-term-in-Int-clause-begun : goal.returns-in_err-term-in-Int-clause-begun
returns-in_err-term-in-Int-clause-begun c = IfOk-from_err c.from_residual-in_err-term-in-Int.result _ c.from_residual-in_err-term-in-Int.ensures.0

pub returns-in_err-term-in-Int-clause-fits : goal.returns-in_err-term-in-Int-clause-fits
returns-in_err-term-in-Int-clause-fits c = IfOk-from_err c.from_residual-in_err-term-in-Int.result _ c.from_residual-in_err-term-in-Int.ensures.0

pub returns-in_err-term-in-Int-clause-next : goal.returns-in_err-term-in-Int-clause-next
returns-in_err-term-in-Int-clause-next c = IfOk-from_err c.from_residual-in_err-term-in-Int.result _ c.from_residual-in_err-term-in-Int.ensures.0

pub node-requires : goal.node-requires
node-requires c = c.requires.ready.inside

pub front_of-requires-clause-stands : goal.front_of-requires-clause-stands
front_of-requires-clause-stands c = c.requires.stands

pub front_of-requires-clause-name : goal.front_of-requires-clause-name
front_of-requires-clause-name c =
    number-within (texts_of c.args.spot.now) c.in-Head.name (subst IsNamed (c.in-Head.ensures.tree (texts_of c.args.spot.now)) c.requires.ready.named).0

pub front_of-requires-clause-text : goal.front_of-requires-clause-text
front_of-requires-clause-text c = (subst IsNamed (c.in-Head.ensures.tree (texts_of c.args.spot.now)) c.requires.ready.named).0

pub variable-requires : goal.variable-requires
variable-requires c = omega (arith, c.requires.stands.depth, c.requires.stands.room)

pub returns-in_err-term-in-Any-clause-keeps : goal.returns-in_err-term-in-Any-clause-keeps
returns-in_err-term-in-Any-clause-keeps c = c.with_arguments.ensures.keeps

pub returns-in_ok-term-in-Any-clause-keeps : goal.returns-in_ok-term-in-Any-clause-keeps
returns-in_ok-term-in-Any-clause-keeps c = c.with_arguments.ensures.keeps

pub returns-in_err-term-in-Int-clause-keeps : goal.returns-in_err-term-in-Int-clause-keeps
returns-in_err-term-in-Int-clause-keeps c = c.int.ensures.keeps

pub returns-in_ok-term-in-Int-clause-keeps : goal.returns-in_ok-term-in-Int-clause-keeps
returns-in_ok-term-in-Int-clause-keeps c = c.int.ensures.keeps

pub returns-in_ok-front-in-Head-clause-begun : goal.returns-in_ok-front-in-Head-clause-begun
returns-in_ok-front-in-Head-clause-begun c =
    let a = around c.args.spot.now.place c.args.spot.now.binders.now.scope in
    begun_head (record { texts = (texts_of c.args.spot.now); forms = (forms_of c.args.spot.now); around = a }) c.args.bank.now
    (record { front = c.in_ok-front-in-Head.front; at = c.args.at; args = c.new-args.result }) (met_of (texts_of c.args.spot.now) c.args.met.now)
    (met_of (texts_of c.args.spot.now) c.front_of.new.met) (identifier (texts_of c.args.spot.now) c.in-Head.name)
    (raws_in (raw_trees (texts_of c.args.spot.now) (forms_of c.args.spot.now)) (places c.in-Head.field-1.now))
    (c.in-Head.ensures.tree (texts_of c.args.spot.now)) c.new-args.ensures.items
    c.in_ok-front-in-Head.ensures.front c.in_ok-front-in-Head.ensures.met

pub returns-in_ok-front-in-Head-clause-fits : goal.returns-in_ok-front-in-Head-clause-fits
returns-in_ok-front-in-Head-clause-fits c = record { ready = c.requires.ready; args = rw c.new-args.ensures.items (λ k d l. absurd (omega arith)) }

pub returns-in_ok-front-in-Head-clause-next : goal.returns-in_ok-front-in-Head-clause-next
returns-in_ok-front-in-Head-clause-next c = (refl, c.new-args.ensures.items)

pub returns-in_err-term-in-True : goal.returns-in_err-term-in-True
returns-in_err-term-in-True c = record {
  begun = IfOk-from_err c.from_residual-in_err-term-in-True.result _ c.from_residual-in_err-term-in-True.ensures.0;
  fits = IfOk-from_err c.from_residual-in_err-term-in-True.result _ c.from_residual-in_err-term-in-True.ensures.0;
  next = IfOk-from_err c.from_residual-in_err-term-in-True.result _ c.from_residual-in_err-term-in-True.ensures.0;
  keeps = c.int-in-True.ensures.keeps;
}

pub returns-in_ok-term-in-Any-clause-next : goal.returns-in_ok-term-in-Any-clause-next
returns-in_ok-term-in-Any-clause-next c = _

pub returns-in_ok-term-in-Int-clause-next : goal.returns-in_ok-term-in-Int-clause-next
returns-in_ok-term-in-Int-clause-next c = _

pub with_arguments-requires : goal.with_arguments-requires
with_arguments-requires c = search rules

pub returns-in_ok-term-in-Any-clause-fits : goal.returns-in_ok-term-in-Any-clause-fits
returns-in_ok-term-in-Any-clause-fits c = search rules

pub returns-in_ok-term-in-Int-clause-begun : goal.returns-in_ok-term-in-Int-clause-begun
returns-in_ok-term-in-Int-clause-begun c = search rules

pub returns-in_ok-term-in-Int-clause-fits : goal.returns-in_ok-term-in-Int-clause-fits
returns-in_ok-term-in-Int-clause-fits c = search rules

pub returns-in_ok-term-in-True : goal.returns-in_ok-term-in-True
returns-in_ok-term-in-True c = search rules
