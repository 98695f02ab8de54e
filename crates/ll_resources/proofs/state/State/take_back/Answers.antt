use Rattle.std.proofs.Common.{◌≡◌, ap, ◌∙◌, drop, arith, sym}
use Rattle.ll_resources.specs.Raw.{raw}
use Rattle.ll_resources.specs.Changes.{before}
use Rattle.ll_resources.proofs.ChangeLemmas.{back-next, sound-next, sound-there, less-trans}
use Rattle.std.proofs.lemmas.List.{drop_all}
use Rattle.std.proofs.Math.Nat.{le_refl}
use Rattle.ll_resources.proofs.state.State.take_back.Goals as goal

pub take_one_back-requires : goal.take_one_back-requires
take_one_back-requires g c = record {
  sound =
      sound-next c.args.changes.now c.args.from c.loop-at.at c.index-changes-at.result (raw c.args.self.now) (raw c.loop-at.self) _ _ c.loop-at-test.true
      c.loop-at.invariant.within c.index-changes-at.is c.loop-at.invariant.state c.loop-at.invariant.room
      c.requires.sound;
  now = sound-there c.args.changes.now c.loop-at.at (raw c.args.self.now) (raw c.loop-at.self) _ _ c.loop-at.invariant.state c.loop-at.invariant.room
      c.requires.sound;
}

pub loop-at-preserved : goal.loop-at-preserved
loop-at-preserved g c = record {
  from = let l = c.loop-at-test.true in omega (arith, l);
  within = let w = c.loop-at.invariant.within in omega (arith, w);
  state = c.take_one_back.ensures.state
      ∙ back-next c.args.changes.now c.args.from c.loop-at.at c.index-changes-at.result (raw c.args.self.now) (raw c.loop-at.self) c.loop-at-test.true
      c.loop-at.invariant.within c.index-changes-at.is c.loop-at.invariant.state;
  room = less-trans c.args.self.now c.loop-at.self c.take_one_back.new.self c.loop-at.invariant.room c.take_one_back.ensures.room;
}

pub loop-at-smaller : goal.loop-at-smaller
loop-at-smaller g c = let l = c.loop-at-test.true in omega (arith, l)

pub returns-clause-state : goal.returns-clause-state
returns-clause-state g c =
    let f = c.loop-at.invariant.from in let t = c.loop-at-test.false in
    let same : c.loop-at.at ≡ c.args.from = omega (arith, f, t) in
    c.loop-at.invariant.state ∙ ap (λ k. before (drop k c.args.changes.now) (raw c.args.self.now)) same

pub returns-clause-room : goal.returns-clause-room
returns-clause-room g c = c.loop-at.invariant.room

pub loop-at-init : goal.loop-at-init
loop-at-init g c = record {
  from = c.requires.from;
  within = le_refl _;
  state = ap (λ cs. before cs (raw c.args.self.now)) (sym (drop_all _ c.args.changes.now (le_refl _)));
  room = record { entries = le_refl _; live = le_refl _; keys = le_refl _ };
}
