-- Settling looks at no goal and no clause, and is done once.
use Rattle.std.proofs.Common.{◌≡◌, ℕ, refl, ap, subst, ◌∙◌, Bool, true, false, List, [], ◌∷◌, map, sym}
use Rattle.std.specs.Prelude.{◌&&◌, ◌||◌, not, if◌then◌else◌, Option, Some, None, option_map}
use Rattle.ll_bank.specs.Term.{Term}
use Rattle.ll_bank.specs.Form.{Form, sub_form}
use Rattle.ll_laws.specs.Settle.{Entry, Saved, Item, Goal, LolliEnd, ImpEnd, WithMiddle, WithEnd, BangEnd, Front, settle_front, marks, remark, join, end_with}
use Rattle.ll_laws.specs.Settle.{without_newest, at_middle, map_item, map_entry, map_front}
use Rattle.ll_laws.specs.State.{State, settle, front_of, with_front, sub_state}

marks-map : {C D : Type 0} (c : C → D) (es : List (Entry C)) → marks (map (map_entry c) es) ≡ marks es
marks-map c [] = refl
marks-map c (e ∷ es) = ap (λ xs. e.live ∷ xs) (marks-map c es)

remark-map : {C D : Type 0} (c : C → D) (es : List (Entry C)) (bs : List Bool) → remark (map (map_entry c) es) bs ≡ map (map_entry c) (remark es bs)
remark-map c [] bs = refl
remark-map c (e ∷ es) [] = refl
remark-map c (e ∷ es) (b ∷ bs) = ap (λ xs. map_entry c (record e { live = b }) ∷ xs) (remark-map c es bs)

middle-map : {G H C D : Type 0} (g : G → H) (c : C → D) (saved h : Saved) (a : List (Item G)) (es : List (Entry C))
    → at_middle saved h (map (map_item g) a) (map (map_entry c) es) ≡ option_map (map_front g c) (at_middle saved h a es)
middle-map g c saved h (Goal x ∷ WithEnd kept old ∷ rest) es =
    ap (λ xs. Some (record { agenda = Goal (g x) ∷ WithEnd kept h ∷ map (map_item g) rest; context = xs; flag = false })) (remark-map c es saved.live)
middle-map g c saved h _ es = refl

-- settling looks at no goal and no clause
pub front-map : {G H C D : Type 0} (g : G → H) (c : C → D) (a : List (Item G)) (es : List (Entry C)) (v : Bool)
    → settle_front (map (map_item g) a) (map (map_entry c) es) v ≡ option_map (map_front g c) (settle_front a es v)
front-map g c [] es v = refl
front-map g c (Goal x ∷ rest) es v = refl
front-map g c (LolliEnd saved ∷ rest) [] v = refl
front-map g c (LolliEnd saved ∷ rest) (e ∷ es) v = step (e.live && not v) (front-map g c rest es (saved || v))
  where
    step : (b : Bool) → settle_front (map (map_item g) rest) (map (map_entry c) es) (saved || v)
        ≡ option_map (map_front g c) (settle_front rest es (saved || v))
        → (if b then None else settle_front (map (map_item g) rest) (map (map_entry c) es) (saved || v))
        ≡ option_map (map_front g c) (if b then None else settle_front rest es (saved || v))
    step true ih = refl
    step false ih = ih
front-map g c (ImpEnd ∷ rest) [] v = front-map g c rest [] v
front-map g c (ImpEnd ∷ rest) (e ∷ es) v = front-map g c rest es v
front-map g c (WithMiddle saved ∷ rest) es v =
    ap (λ m. at_middle saved (record { live = m; flag = v }) (map (map_item g) rest) (map (map_entry c) es)) (marks-map c es)
    ∙ middle-map g c saved (record { live = marks es; flag = v }) rest es
front-map {C = C} g c (WithEnd saved half ∷ rest) es v =
    ap (λ m. end_with (settle_front (map (map_item g) rest)) saved (map (map_entry c) es) (join half (record { live = m; flag = v }))) (marks-map c es)
    ∙ step (join half (record { live = marks es; flag = v })) (front-map g c rest)
  where
    step : (o : Option Saved) → ((es : List (Entry C)) (v : Bool)
        → settle_front (map (map_item g) rest) (map (map_entry c) es) v ≡ option_map (map_front g c) (settle_front rest es v))
        → end_with (settle_front (map (map_item g) rest)) saved (map (map_entry c) es) o ≡ option_map (map_front g c) (end_with (settle_front rest) saved es o)
    step None ih = refl
    step (Some s) ih = ap (λ xs. settle_front (map (map_item g) rest) xs (saved.flag || s.flag)) (remark-map c es s.live)
        ∙ ih (remark es s.live) (saved.flag || s.flag)
front-map g c (BangEnd saved ∷ rest) es v = ap (λ xs. settle_front (map (map_item g) rest) xs saved.flag) (remark-map c es saved.live)
    ∙ front-map g c rest (remark es saved.live) saved.flag

-- settling goes along with a substitution
pub settle-sub : (f : ℕ → Term) (s : State) → settle (sub_state f s) ≡ option_map (sub_state f) (settle s)
unfolding settle
settle-sub f s = ap (front_of (sub_state f s)) (front-map (sub_form f) (sub_form f) s.agenda s.context s.flag) ∙ step (settle_front s.agenda s.context s.flag)
  where
    step : (o : Option (Front Form Form)) → front_of (sub_state f s) (option_map (map_front (sub_form f) (sub_form f)) o)
        ≡ option_map (sub_state f) (front_of s o)
    step None = refl
    step (Some x) = refl

-- nothing is left to settle
abbrev pub IsSettled : {G C : Type 0} → Front G C → Type 0
IsSettled x = settle_front x.agenda x.context x.flag ≡ Some x

same_front : {G C : Type 0} (x y : Front G C) → Some x ≡ Some y → IsSettled x → IsSettled y
same_front x y h k = subst IsSettled (let e : x ≡ y = cc in e) k

middle_settled : {G C : Type 0} (saved h : Saved) (a : List (Item G)) (es : List (Entry C)) (x : Front G C) → at_middle saved h a es ≡ Some x → IsSettled x
middle_settled saved h (Goal g ∷ WithEnd kept old ∷ rest) es x e = same_front _ x e refl
middle_settled saved h _ es x e = cc

-- what settling gives is settled
pub front_settled : {G C : Type 0} (a : List (Item G)) (es : List (Entry C)) (v : Bool) (x : Front G C) → settle_front a es v ≡ Some x → IsSettled x
front_settled [] es v x h = same_front _ x h refl
front_settled (Goal g ∷ rest) es v x h = same_front _ x h refl
front_settled (LolliEnd saved ∷ rest) [] v x h = cc
front_settled (LolliEnd saved ∷ rest) (e ∷ es) v x h = step (e.live && not v) (front_settled rest es (saved || v) x) h
  where
    step : (b : Bool) → (settle_front rest es (saved || v) ≡ Some x → settle_front x.agenda x.context x.flag ≡ Some x)
        → (if b then None else settle_front rest es (saved || v)) ≡ Some x → settle_front x.agenda x.context x.flag ≡ Some x
    step true ih h = cc
    step false ih h = ih h
front_settled (ImpEnd ∷ rest) es v x h = front_settled rest (without_newest es) v x h
front_settled (WithMiddle saved ∷ rest) es v x h = middle_settled saved (record { live = marks es; flag = v }) rest es x h
front_settled {G = G} {C = C} (WithEnd saved half ∷ rest) es v x h = step (join half (record { live = marks es; flag = v })) (front_settled rest) h
  where
    step : (o : Option Saved) → ((es : List (Entry C)) (v : Bool) (x : Front G C) → settle_front rest es v ≡ Some x
        → settle_front x.agenda x.context x.flag ≡ Some x)
        → end_with (settle_front rest) saved es o ≡ Some x → settle_front x.agenda x.context x.flag ≡ Some x
    step None ih h = cc
    step (Some s) ih h = ih (remark es s.live) (saved.flag || s.flag) x h
front_settled (BangEnd saved ∷ rest) es v x h = front_settled rest (remark es saved.live) saved.flag x h

-- settling twice is settling once
pub settle_twice : (s t : State) → settle s ≡ Some t → settle t ≡ Some t
unfolding settle
settle_twice s t h = step (settle_front s.agenda s.context s.flag) refl h
  where
    step : (o : Option (Front Form Form)) → settle_front s.agenda s.context s.flag ≡ o → front_of s o ≡ Some t
        → front_of t (settle_front t.agenda t.context t.flag) ≡ Some t
    step None q h = cc
    step (Some x) q h =
        let e : with_front s x ≡ t = cc in let k = front_settled s.agenda s.context s.flag x q in
        subst (λ u. front_of u (settle_front u.agenda u.context u.flag) ≡ Some u) e (ap (front_of (with_front s x)) k)

-- settling takes no step
pub settle_steps : (s t : State) → settle s ≡ Some t → t.steps ≡ s.steps
unfolding settle
settle_steps s t e = step (settle_front s.agenda s.context s.flag) e
  where
    step : (o : Option (Front Form Form)) → front_of s o ≡ Some t → t.steps ≡ s.steps
    step None h = cc
    step (Some f) h = let same : with_front s f ≡ t = cc in ap (λ x. x.steps) (sym same)
