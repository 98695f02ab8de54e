use Rattle.std.proofs.Common.{◌≡◌, take}
use Rattle.ll_polarity.specs.Places.{place_in}
use Rattle.ll_polarity.proofs.putting.Clauses.{AreRead}
use Rattle.ll_polarity.proofs.put_clauses.clauses.Given as goal

abbrev pub invariant-loop-raw : goal.invariant-loop-raw
invariant-loop-raw l = record {
  read : AreRead l.text.names.now l.text.forms.now (place_in l.text.modules.now.places) l.fn.binders.scope l.fn.met.names l.fn.bank l.bank
      (take l.raw-index l.from) l.put.items l.met.names;
  scope : l.binders.scope ≡ l.fn.binders.scope;
  texts : l.binders.texts ≡ l.text.names.now;
}
