-- Events that are given until the outlet has had enough answers.
use Rattle.std.proofs.Common.{◌≡◌, ◌⊎◌, ℕ, ◌+◌, ◌<◌, ◌≤◌, List, [], ◌∷◌, ◌++◌, true, false, refl, sym, ap, ◌∙◌, subst, inl, inr, arith, le_refl, le_trans}
use Rattle.std.proofs.Common.{Option, Some, None}
use Rattle.std.specs.Prelude.{◌↔◌, count_by, unwrap_or}
use Rattle.std.proofs.lemmas.Bool.{true≢false}
use Rattle.ll_laws.specs.declared.Event.{Event}
use Rattle.ll_laws.specs.Search.{is_answer, cut_count}
use Rattle.ll_order.specs.Outlets.{Gives, GivesPrefix, Refuses}
use Rattle.ll_order.proofs.CallerLemmas.{gives_more}
use Rattle.ll_first.specs.Upto.{upto, first_of, IsLimit, counted}
use Rattle.ll_first.proofs.Uptos.{upto_none, upto_enough, upto_here, upto_past, upto_next}
use Rattle.ll_first.proofs.Enoughs.{given_counts}
use Rattle.ll_first.specs.Firsts.{Held, GoesOn, HadEnough, Declines, Ends}

module _ {U E : Type 0} (state : U → Held E) (takes breaks : E → Event → E → Type 0) (faults limit answers : E → ℕ) where
  abbrev Goes : U → Event → U → Type 0
  Goes x e y = GoesOn takes breaks faults limit answers (state x) e (state y)

  abbrev Stops : U → Event → U → Type 0
  Stops x e y = Ends takes breaks faults limit answers (state x) e (state y)

  -- the outlet within took the same events
  given_within : (x y : U) (es : List Event) → Gives Goes x es y → Gives takes (state x).out es (state y).out
  given_within x y [] g = ap (λ u. (state u).out) g
  given_within x y (e ∷ es) (between, goes, g) = ((state between).out, goes.taken, given_within between y es g)

  going_on : (x y : U) (es : List Event) → Gives Goes x es y → (state x).ended ≡ false → (state y).ended ≡ false
  going_on x y [] g going = ap (λ u. (state u).ended) g ∙ going
  going_on x y (e ∷ es) (between, goes, g) going = going_on between y es g goes.going

  fewer_on : (x y : U) (es : List Event) → Gives Goes x es y → answers (state x).out < limit (state x).out → answers (state y).out < limit (state y).out
  fewer_on x y [] g few = subst (λ u. answers (state u).out < limit (state u).out) (sym g) few
  fewer_on x y (e ∷ es) (between, goes, g) few = fewer_on between y es g goes.fewer

  pub same_lent : (x y : U) (es : List Event) → Gives Goes x es y → (state y).lent ≡ (state x).lent
  same_lent x y [] g = ap (λ u. (state u).lent) g
  same_lent x y (e ∷ es) (between, goes, g) = same_lent between y es g ∙ goes.same

  pub same_lent_prefix : (x y : U) (es : List Event) → GivesPrefix Goes Stops x es y → (state y).lent ≡ (state x).lent
  same_lent_prefix x y es (inl (front, back, order, g)) = same_lent x y front g
  same_lent_prefix x y es (inr r) = let b = r.broke in b.same ∙ same_lent x r.between r.front r.given

  pub faults_on : (x y : U) (es : List Event) → Gives Goes x es y → faults (state x).out ≤ faults (state y).out
  faults_on x y [] g = subst (λ u. faults (state x).out ≤ faults (state u).out) (sym g) (le_refl _)
  faults_on x y (e ∷ es) (between, goes, g) = le_trans goes.faults_kept (faults_on between y es g)

  pub faults_prefix : (x y : U) (es : List Event) → GivesPrefix Goes Stops x es y → faults (state x).out ≤ faults (state y).out
  faults_prefix x y es (inl (front, back, order, g)) = faults_on x y front g
  faults_prefix x y es (inr r) = let b = r.broke in le_trans (faults_on x r.between r.front r.given) b.faults_kept

  module _ (counts : (before : E) (e : Event) (after : E) → takes before e after
      → (limit after ≡ limit before) × (answers after ≡ counted (answers before) e)) (x : U) (limited : IsLimit (limit (state x).out))
      (none_yet : answers (state x).out ≡ 0) (starts : (state x).ended ≡ false) where
    few_first : answers (state x).out < limit (state x).out
    few_first = let l = limited.0 in omega arith

    counted_within : (a : E) (es : List Event) → Gives takes (state x).out es a
        → (limit a ≡ limit (state x).out) × (answers a ≡ cut_count (count_by is_answer es))
    counted_within a es g =
        let c = given_counts takes limit answers counts (state x).out a es 0 none_yet g in
        let z : 0 + count_by is_answer es ≡ count_by is_answer es = omega arith in
        (c.0, c.1 ∙ ap cut_count z)

    few_given : (a : E) (es : List Event) → Gives takes (state x).out es a → answers a < limit a → count_by is_answer es < limit (state x).out
    few_given a es g few = let c = counted_within a es g in let l = limited.1 in let m = c.1 in let n = c.0 in omega arith

    -- all events were given: they have fewer answers
    pub all_given : (y : U) (es : List Event) → Gives Goes x es y
        → Gives takes (state x).out (first_of es (limit (state x).out)) (state y).out × (count_by is_answer es < limit (state x).out)
    all_given y es g =
        let w = given_within x y es g in
        let few = few_given (state y).out es w (fewer_on x y es g few_first) in
        (subst (λ (o : Option (List Event)). Gives takes (state x).out (unwrap_or o es) (state y).out) (sym (upto_none es (limit (state x).out) few)) w, few)

    -- it has had enough: the events with so many answers were given
    pub enough_given : (y : U) (es : List Event) → (state y).ended ≡ true → GivesPrefix Goes Stops x es y
        → Gives takes (state x).out (first_of es (limit (state x).out)) (state y).out × (limit (state x).out ≤ count_by is_answer es)
    enough_given y es over (inl (front, back, order, g)) = absurd (true≢false (sym over ∙ going_on x y front g starts))
    enough_given y es over (inr r) = by_reason (let b = r.broke in b.why)
      where
        before : (state r.between).ended ≡ false
        before = going_on x r.between r.front r.given starts

        within : Gives takes (state x).out r.front (state r.between).out
        within = given_within x r.between r.front r.given

        by_reason : HadEnough takes breaks faults limit answers (state r.between) r.refused (state y)
            ⊎ (Declines takes breaks faults limit answers (state r.between) r.refused (state y) ⊎ ((state r.between).ended ≡ true))
            → Gives takes (state x).out (first_of es (limit (state x).out)) (state y).out × (limit (state x).out ≤ count_by is_answer es)
        by_reason (inr (inl d)) = absurd (true≢false (sym over ∙ d.going))
        by_reason (inr (inr t)) = absurd (true≢false (sym t ∙ before))
        by_reason (inl h) =
            let all : Gives takes (state x).out (r.front ++ r.refused ∷ []) (state y).out =
            gives_more takes breaks (state x).out (state r.between).out (state y).out r.front (r.refused ∷ []) within ((state y).out, h.taken, refl) in
            let c = counted_within (state y).out (r.front ++ r.refused ∷ []) all in
            let m = c.1 in let n = c.0 in let e = h.enough in
            let many : limit (state x).out ≤ count_by is_answer (r.front ++ r.refused ∷ []) = omega arith in
            let few = few_given (state r.between).out r.front within (fewer_on x r.between r.front r.given few_first) in
            let is : upto es (limit (state x).out) ≡ Some (r.front ++ r.refused ∷ []) =
            ap (λ l. upto l (limit (state x).out)) r.order ∙ upto_here r.front r.refused r.back (limit (state x).out) few many in (
              subst (λ (o : Option (List Event)). Gives takes (state x).out (unwrap_or o es) (state y).out) (sym is) all,
              upto_enough es (limit (state x).out) (r.front ++ r.refused ∷ []) is,
            )

    -- where it goes on and has stopped, the outlet within refused the event
    declines : (z y : U) (e : Event) → (state y).ended ≡ false → Stops z e y → (state z).ended ≡ false
        → Declines takes breaks faults limit answers (state z) e (state y)
    declines z y e going stops before = by_reason stops.why
      where
        by_reason : HadEnough takes breaks faults limit answers (state z) e (state y)
            ⊎ (Declines takes breaks faults limit answers (state z) e (state y) ⊎ ((state z).ended ≡ true))
            → Declines takes breaks faults limit answers (state z) e (state y)
        by_reason (inl h) = absurd (true≢false (sym h.over ∙ going))
        by_reason (inr (inl d)) = d
        by_reason (inr (inr t)) = absurd (true≢false (sym t ∙ before))

    -- and it has taken fewer answers than are wanted
    pub fewer_within : (keeps : (before : E) (e : Event) (after : E) → breaks before e after
        → (limit after ≡ limit before) × (answers after ≡ answers before)) (y : U) (es : List Event) → (state y).ended ≡ false → GivesPrefix Goes Stops x es y
        → answers (state y).out < limit (state x).out
    fewer_within keeps y es going (inl (front, back, order, g)) =
        let few = fewer_on x y front g few_first in
        let same = (counted_within (state y).out front (given_within x y front g)).0 in omega arith
    fewer_within keeps y es going (inr r) =
        let d = declines r.between y r.refused going r.broke (going_on x r.between r.front r.given starts) in
        let few = fewer_on x r.between r.front r.given few_first in
        let same = (counted_within (state r.between).out r.front (given_within x r.between r.front r.given)).0 in
        let kept = keeps (state r.between).out r.refused (state y).out d.broke in
        let more = kept.1 in omega arith

    -- it refused an event, or a prefix was given: what was given has fewer answers
    pub prefix_within : (y : U) (es : List Event) → (state y).ended ≡ false → GivesPrefix Goes Stops x es y
        → GivesPrefix takes breaks (state x).out (first_of es (limit (state x).out)) (state y).out
    prefix_within y es going g = by_upto (upto es (limit (state x).out)) refl g
      where
        front_given : (front given back : List Event) → es ≡ given ++ back → Gives Goes x given y → upto es (limit (state x).out) ≡ Some front
            → GivesPrefix takes breaks (state x).out front (state y).out
        front_given front given back order g h =
            let w = given_within x y given g in
            let few = few_given (state y).out given w (fewer_on x y given g few_first) in
            let m = upto_past given back (limit (state x).out) front few (ap (λ l. upto l (limit (state x).out)) (sym order) ∙ h) in
            inl (given, m.0, m.1, w)

        declined : (r : Refuses Goes Stops x es y) (order' : List Event) (back' : List Event) → order' ≡ r.front ++ r.refused ∷ back'
            → Refuses takes breaks (state x).out order' (state y).out
        declined r order' back' order =
            let d = declines r.between y r.refused going r.broke (going_on x r.between r.front r.given starts) in
            record {
              front = r.front;
              refused = r.refused;
              back = back';
              between = (state r.between).out;
              order = order;
              given = given_within x r.between r.front r.given;
              broke = d.broke;
            }

        front_refused : (front : List Event) → Refuses Goes Stops x es y → upto es (limit (state x).out) ≡ Some front
            → GivesPrefix takes breaks (state x).out front (state y).out
        front_refused front r h =
            let few = few_given (state r.between).out r.front (given_within x r.between r.front r.given) (fewer_on x r.between r.front r.given few_first) in
            let m = upto_next r.front r.refused r.back (limit (state x).out) front few (ap (λ l. upto l (limit (state x).out)) (sym r.order) ∙ h) in
            inr (declined r front m.0 m.1)

        by_upto : (o : Option (List Event)) → upto es (limit (state x).out) ≡ o → GivesPrefix Goes Stops x es y
            → GivesPrefix takes breaks (state x).out (unwrap_or o es) (state y).out
        by_upto None h (inl (given, back, order, g)) = inl (given, back, order, given_within x y given g)
        by_upto None h (inr r) = inr (declined r es r.back r.order)
        by_upto (Some front) h (inl (given, back, order, g)) = front_given front given back order g h
        by_upto (Some front) h (inr r) = front_refused front r h

-- the events have fewer answers
pub not_enough : {X : Type 0} (x : X) (k n : ℕ) → n < k → (Some x ≡ None) ↔ (k ≤ n)
not_enough x k n few = (λ e. absurd (cc), λ many. absurd (omega arith))
