use Rattle.std.proofs.Common.{arith, sym, subst}
use Rattle.std.specs.Prelude.{slice_index}
use Rattle.std.proofs.lemmas.List.{length-set}
use Rattle.ll_unify.specs.Pairs.{IsClass}
use Rattle.ll_unify.proofs.Pairs.{class-twice, class-on, classes-set, below-set, next-is}
use Rattle.ll_unify.proofs.classes.Classes.lowest.Goals as goal

pub loop-place-preserved : goal.loop-place-preserved
loop-place-preserved c =
    let l = c.loop-place.invariant.inside in
    let b = c.loop-place.invariant.below c.loop-place.place l in
    let e = next-is c.loop-place.self.up.items c.loop-place.place c.index-in-loop-place.result.now c.index-next.result.now l b c.index-in-loop-place.ensures
    c.index-next.ensures in
    let d = c.loop-place.invariant.below (slice_index c.loop-place.self.up.items c.loop-place.place) (omega arith) in
    record {
      inside = let q = length-set c.loop-place.self.up.items c.loop-place.place c.index-next.result.now in omega arith;
      below = below-set c.loop-place.self.up.items c.loop-place.place c.index-next.result.now l c.loop-place.invariant.below (omega arith);
      classes = λ nodes t h. classes-set nodes t c.loop-place.self.up.items c.loop-place.place c.index-next.result.now l
          (c.loop-place.invariant.classes nodes t h)
          (subst (λ v. IsClass nodes t c.loop-place.place v) (sym e)
          (class-twice nodes t c.loop-place.self.up.items c.loop-place.place l (c.loop-place.invariant.classes nodes t h)));
      class = λ nodes t h. subst (λ v. IsClass nodes t c.args.at v) (sym e)
          (class-on nodes t c.loop-place.self.up.items c.args.at c.loop-place.place l (c.loop-place.invariant.classes nodes t h)
          (c.loop-place.invariant.class nodes t h));
    }
