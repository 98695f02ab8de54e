use Rattle.std.proofs.Common.{◌≡◌, take, []}
use Rattle.ll_polarity.specs.Places.{place_in}
use Rattle.ll_polarity.proofs.putting.ModuleRows.{AreModulesRead}
use Rattle.ll_polarity.proofs.put_modules.modules.Given as goal

abbrev pub invariant-loop-body : goal.invariant-loop-body
invariant-loop-body l = record {
  read : AreModulesRead l.text.names.now l.text.forms.now (place_in l.text.modules.now.places) l.fn.met.names l.fn.bank l.bank (take l.body-index l.from)
      l.put.items l.met.names;
  binders : l.binders ≡ record { texts = l.text.names.now; scope = [] };
}
