-- Engines that go on, one stretch after the other.
use Rattle.std.proofs.Common.{◌≡◌, ℕ, ◌+◌, ◌-◌, ◌≤◌, List, [], ◌++◌, Bool, true, refl, sym, ap, ◌∙◌, subst, arith, append-nil, Option, Some, None}
use Rattle.std.specs.declared.sync.Arc.{Arc}
use Rattle.std.specs.declared.alloc.Global.{Global}
use Rattle.ll_laws.specs.declared.Event.{Event}
use Rattle.ll_laws.specs.Search.{cut_count}
use Rattle.ll_core.proofs.CallerLemmas.{cut_sum}
use Rattle.ll_pool.specs.declared.data.OpenPiece.{OpenPiece}
use Rattle.ll_freeze.specs.Frozen.{FrozenSight}
use Rattle.ll_engine.specs.Seen.{Owing}
use Rattle.ll_crew.specs.Alternatives.{cost_in}
use Rattle.ll_crew.specs.Pieces.{Stretched, Stretching, Owes, OwesAll, OwesAfter}

-- the counts of two stretches
made_on : (m a b c n k : ℕ) → b ≤ a → c ≤ b → cut_count n ≡ cut_count (m + (a - b)) → cut_count k ≡ cut_count (n + (b - c))
    → cut_count k ≡ cut_count (m + (a - c))
made_on m a b c n k low low' h g =
    let sum : (m + (a - b)) + (b - c) ≡ m + (a - c) = omega arith in
    g ∙ (cut_sum n (b - c) (m + (a - b)) (b - c) h refl ∙ ap cut_count sum)

-- a stretch more, after those that there were
pub stretch_on : (done : Bool) (before mid after : List Event) (old now new : Owing) → Stretching before old mid now 0 → Stretched done mid now after new
    → new.work ≤ now.work → Stretching before old after new 0
stretch_on done before mid after old now new f g less =
    let a = f.cost in let b = g.cost in let w = f.work in
    record {
      problem = g.problem ∙ f.problem;
      events = g.events ∙ f.events;
      cost = omega arith;
      made =
          made_on old.made old.cost now.cost new.cost now.made new.made f.cost g.cost f.made g.made;
      work = omega arith;
    }

-- the last stretch
pub stretch_end : (before mid after : List Event) (old now new : Owing) → Stretching before old mid now 0 → Stretched true mid now after new
    → (after ≡ before ++ old.events) × (cut_count new.made ≡ cut_count (old.made + old.cost))
stretch_end before mid after old now new f g =
    let e = g.ended refl in
    let all : cut_count new.made ≡ cut_count (old.made + (old.cost - new.cost)) =
    made_on old.made old.cost now.cost new.cost now.made new.made f.cost g.cost f.made g.made in
    let z : new.cost ≡ 0 = e.1 in
    let s : old.made + (old.cost - new.cost) ≡ old.made + old.cost = omega arith in
    (sym (append-nil after) ∙ (ap (λ l. after ++ l) (sym e.0) ∙ (g.events ∙ f.events)), all ∙ ap cut_count s)

pub stretch_last : (done : Bool) (before mid after : List Event) (old now new : Owing) → Stretching before old mid now 0 → done ≡ true
    → Stretched done mid now after new → (after ≡ before ++ old.events) × (cut_count new.made ≡ cut_count (old.made + old.cost))
stretch_last done before mid after old now new f is g =
    stretch_end before mid after old now new f (subst (λ d. Stretched d mid now after new) is g)

-- before the first step
pub stretching_starts : (before : List Event) (old : Owing) → Stretching before old before old 0
stretching_starts before old =
    let same : old.made ≡ old.made + (old.cost - old.cost) = omega arith in
    record { problem = refl; events = refl; cost = omega arith; made = ap cut_count same; work = omega arith }

-- what a piece owes goes along with its engine
owes_stretch : (done : Bool) (x : OpenPiece) (found after : List Event) (old new : Owing) → Owes x found old [] → Stretched done found old after new
    → Owes x after new []
owes_stretch done x found after old new h g =
    let c = h.cost in let d = g.cost in
    let sum : h.done + (old.cost - new.cost) + (new.cost + 0) ≡ h.done + (old.cost + 0) = omega arith in
    let cost0 : cost_in [] ≡ 0 = refl in
    record {
      done = h.done + (old.cost - new.cost);
      events = h.events ∙ (ap (λ l. found ++ l) (append-nil old.events) ∙ (sym g.events ∙ ap (λ l. after ++ l) (sym (append-nil new.events))));
      cost = omega arith;
      made = g.made ∙ cut_sum old.made (old.cost - new.cost) h.done (old.cost - new.cost) h.made refl;
    }

pub all_stretch : (done : Bool) (piece : Option OpenPiece) (found after : List Event) (old new : Owing) → OwesAll piece found old []
    → Stretched done found old after new → OwesAll piece after new []
all_stretch done None found after old new h g = absurd h
all_stretch done (Some x) found after old new h g = owes_stretch done x found after old new h g

pub owes_same : (piece piece' : Option OpenPiece) (found : List Event) (engine : Owing) → piece' ≡ piece → OwesAll piece found engine []
    → OwesAll piece' found engine []
owes_same piece piece' found engine e h = subst (λ p. OwesAll p found engine []) (sym e) h

pub back_some : (piece : Option OpenPiece) (found : List Event) (old new : Owing) (o : Option (Arc FrozenSight Global)) (batch : Arc FrozenSight Global)
    → o ≡ Some batch → OwesAfter piece found old new o → OwesAfter piece found old new (Some batch)
back_some piece found old new o batch e h = subst (OwesAfter piece found old new) e h

pub back_none : (piece : Option OpenPiece) (found : List Event) (old new : Owing) (o : Option (Arc FrozenSight Global)) → o ≡ None
    → OwesAfter piece found old new o → OwesAfter piece found old new None
back_none piece found old new o e h = subst (OwesAfter piece found old new) e h
