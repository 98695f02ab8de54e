use Rattle.ll_prooftext.proofs.terms.bracketed.Goals as goal

pub finish-requires : goal.finish-requires
finish-requires c = record {
  outer = c.new-2.ensures.items;
  items = c.new.ensures.items;
  part = c.new.ensures.part;
  args = c.new.ensures.args;
  room = c.requires;
}

pub returns-clause-found : goal.returns-clause-found
returns-clause-found c = c.finish.ensures.found

pub returns-clause-grows : goal.returns-clause-grows
returns-clause-grows c = c.finish.ensures.grows
