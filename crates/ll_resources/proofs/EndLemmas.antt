-- Ends are worked off whatever the goals behind them are.
use Rattle.std.proofs.Common.{◌≡◌, Bool, true, false, List, [], ◌∷◌, refl, ap, ◌∙◌}
use Rattle.std.specs.Prelude.{◌&&◌, ◌||◌, not, Option, Some, None, if◌then◌else◌, option_map}
use Rattle.ll_laws.specs.Settle.{Entry, Saved, Item, Goal, LolliEnd, ImpEnd, WithMiddle, WithEnd, BangEnd, Front, settle_front, marks, remark, join, end_with}
use Rattle.ll_resources.specs.Resources.{Resources, with_front}
use Rattle.ll_resources.specs.Ends.{settled_after, EndsSettle, MiddlesSettle}

module _ {G C : Type 0} where
  lolli_settles : (saved : Bool) (rest : List (Item G)) (es : List (Entry C)) (r : Resources C)
      → settle_front (LolliEnd saved ∷ rest) es r.flag ≡ settled_after rest (option_map (with_front r) (settle_front (LolliEnd saved ∷ []) es r.flag))
  lolli_settles saved rest [] r = refl
  lolli_settles saved rest (e ∷ es) r = step (e.live && not r.flag)
    where
      step : (b : Bool)
          → (if b then None else settle_front rest es (saved || r.flag))
          ≡ settled_after rest (option_map (with_front r) (if b then None else Some (record { agenda = []; context = es; flag = saved || r.flag })))
      step true = refl
      step false = refl

  with_settles : (saved half : Saved) (rest : List (Item G)) (r : Resources C) (o : Option Saved)
      → end_with (settle_front rest) saved r.entries o ≡ settled_after rest (option_map (with_front r) (end_with (settle_front []) saved r.entries o))
  with_settles saved half rest r None = refl
  with_settles saved half rest r (Some s) = refl

  pub ends_settle : EndsSettle G C
  ends_settle (Goal g) rest r h = absurd (let no : ⊥ = cc in no)
  ends_settle (LolliEnd saved) rest r h = lolli_settles saved rest r.entries r
  ends_settle ImpEnd rest r h = refl
  ends_settle (WithMiddle saved) rest r h = absurd (let no : ⊥ = cc in no)
  ends_settle (WithEnd saved half) rest r h = with_settles saved half rest r (join half (record { live = marks r.entries; flag = r.flag }))
  ends_settle (BangEnd saved) rest r h = refl

  pub middles_settle : MiddlesSettle G C
  middles_settle saved half kept old g rest r s h =
      let now : Saved = record { live = marks r.entries; flag = r.flag } in
      let front : Front (Unit {0}) C = record { agenda = Goal (tt {0}) ∷ WithEnd saved now ∷ []; context = remark r.entries saved.live; flag = false } in
      let other : Front (Unit {0}) C = record { agenda = Goal (tt {0}) ∷ WithEnd saved half ∷ []; context = s.entries; flag = s.flag } in
      let same : front ≡ other = cc in
      let ends : Goal (tt {0}) ∷ WithEnd saved now ∷ [] ≡ Goal (tt {0}) ∷ WithEnd saved half ∷ [] = ap (λ f. f.agenda) same in
      let halves : now ≡ half = cc in
      let made : Saved → List (Entry C) → Bool → Option (Front G C) =
      λ x es b. Some (record { agenda = Goal g ∷ WithEnd kept x ∷ rest; context = es; flag = b }) in
      ap (λ x. made x (remark r.entries saved.live) false) halves
      ∙ (ap (λ (f : Front (Unit {0}) C). made half f.context f.flag) same)
