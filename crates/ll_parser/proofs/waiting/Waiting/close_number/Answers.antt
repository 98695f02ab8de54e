use Rattle.std.proofs.Common.{refl, ap, subst}
use Rattle.ll_parser.specs.declared.waiting.Frame.TheVariants as frame
use Rattle.ll_parser.specs.Flat.{item, led, close_group, close_number}
use Rattle.ll_parser.specs.Symbols.{symbol_tok}
use Rattle.ll_parser.specs.Waiting.{known, waiting, tree, Dropped}
use Rattle.ll_parser.proofs.machines.Closing.{closes-none, closes-not}
use Rattle.ll_parser.proofs.machines.Dropped.{some-frame, dropped, closes-group, no-bracket-end}
use Rattle.ll_parser.proofs.machines.Newest.{HasNewest}
use Rattle.ll_parser.proofs.machines.NumberFrames.{no-number}
use Rattle.ll_parser.proofs.waiting.Waiting.close_number.Goals as goal

pub returns-in-None-clause-gives : goal.returns-in-None-clause-gives
returns-in-None-clause-gives c = λ texts.
    closes-none (λ r ps. close_number r ps (symbol_tok (known texts) c.args.symbol)) c.args.self.now (rw c.deref.ensures.value at c.in-None.ensures)
    (λ r. refl) (λ texts. tree texts c.args.self.now c.args.expression) texts

pub returns-in_default-clause-gives : goal.returns-in_default-clause-gives
returns-in_default-clause-gives c = λ texts.
    closes-not (λ r ps. close_number r ps (symbol_tok (known texts) c.args.symbol)) c.args.self.now c.in-Some.frame
    (rw c.deref.ensures.value at c.in-Some.ensures)
    (no-number c.in-Some.frame c.in_default.not-NumberGroup c.in_default.not-LeadGroup (symbol_tok (known texts) c.args.symbol))
    (λ texts. tree texts c.args.self.now c.args.expression) texts

pub drop_newest-requires : goal.drop_newest-requires
drop_newest-requires c = some-frame c.args.self.now c.in-Some.frame (rw c.deref.ensures.value at c.in-Some.ensures)

pub returns-in-ParenRight-clause-gives : goal.returns-in-ParenRight-clause-gives
returns-in-ParenRight-clause-gives c =
    let d : Dropped c.args.self.now c.drop_newest.new.self frame.NumberGroup =
    dropped c.args.self.now c.drop_newest.new.self c.in-Some.frame frame.NumberGroup
    (rw c.deref.ensures.value at c.in-Some.ensures) c.in-NumberGroup.is c.drop_newest.ensures.gives in
    closes-group c.args.self.now c.drop_newest.new.self c.requires.fits c.args.expression frame.NumberGroup item d
    (d.can c.requires.fits).fits c.requires.expression (λ texts r ps. close_number r ps (symbol_tok (known texts) c.args.symbol))
    (λ texts r. ap (λ s. close_group (item r (waiting (known texts) c.drop_newest.new.self)) (symbol_tok (known texts) s))
    c.in-ParenRight.is)

pub returns-in-ParenRight-clause-grows : goal.returns-in-ParenRight-clause-grows
returns-in-ParenRight-clause-grows c = c.drop_newest.ensures.grows

pub returns-in_default-symbol : goal.returns-in_default-symbol
returns-in_default-symbol c = record {
  gives = λ texts.
      closes-not (λ r ps. close_number r ps (symbol_tok (known texts) c.args.symbol)) c.args.self.now frame.NumberGroup
      (subst (HasNewest c.args.self.now) c.in-NumberGroup.is (rw c.deref.ensures.value at c.in-Some.ensures))
      (λ ts trees args ps r. no-bracket-end (known texts) (item r ps) c.args.symbol c.in_default-symbol.not-ParenRight)
      (λ texts. tree texts c.args.self.now c.args.expression) texts;
  grows = λ later e. e;
}

pub drop_newest-requires-in-ParenRight-symbol : goal.drop_newest-requires-in-ParenRight-symbol
drop_newest-requires-in-ParenRight-symbol c = some-frame c.args.self.now c.in-Some.frame (rw c.deref.ensures.value at c.in-Some.ensures)

pub returns-in-ParenRight-symbol-clause-gives : goal.returns-in-ParenRight-symbol-clause-gives
returns-in-ParenRight-symbol-clause-gives c =
    let d : Dropped c.args.self.now c.drop_newest-in-ParenRight-symbol.new.self frame.LeadGroup =
    dropped c.args.self.now c.drop_newest-in-ParenRight-symbol.new.self c.in-Some.frame frame.LeadGroup
    (rw c.deref.ensures.value at c.in-Some.ensures) c.in-LeadGroup.is c.drop_newest-in-ParenRight-symbol.ensures.gives in
    closes-group c.args.self.now c.drop_newest-in-ParenRight-symbol.new.self c.requires.fits c.args.expression frame.LeadGroup led d
    (d.can c.requires.fits).fits c.requires.expression (λ texts r ps. close_number r ps (symbol_tok (known texts) c.args.symbol))
    (λ texts r. ap (λ s. close_group (led r (waiting (known texts) c.drop_newest-in-ParenRight-symbol.new.self)) (symbol_tok (known texts) s))
    c.in-ParenRight-symbol.is)

pub returns-in-ParenRight-symbol-clause-grows : goal.returns-in-ParenRight-symbol-clause-grows
returns-in-ParenRight-symbol-clause-grows c = c.drop_newest-in-ParenRight-symbol.ensures.grows

pub returns-in_default-symbol-2 : goal.returns-in_default-symbol-2
returns-in_default-symbol-2 c = record {
  gives = λ texts.
      closes-not (λ r ps. close_number r ps (symbol_tok (known texts) c.args.symbol)) c.args.self.now frame.LeadGroup
      (subst (HasNewest c.args.self.now) c.in-LeadGroup.is (rw c.deref.ensures.value at c.in-Some.ensures))
      (λ ts trees args ps r. no-bracket-end (known texts) (led r ps) c.args.symbol c.in_default-symbol-2.not-ParenRight)
      (λ texts. tree texts c.args.self.now c.args.expression) texts;
  grows = λ later e. e;
}
