-- Dealing clauses out among the premises of a leaf, part by part.
use Rattle.std.proofs.Common.{◌≡◌, ℕ, suc, ◌+◌, ◌<◌, ◌≤◌, refl, ap, sym, subst, ◌∙◌, arith, Bool, true, false, cond, List, [], ◌∷◌, ◌++◌, length, map, take}
use Rattle.std.proofs.Common.{drop, drop-cons, get_or, All, append_assoc}
use Rattle.std.specs.Prelude.{◌&&◌, not, filter}
use Rattle.std.specs.List.{list_all}
use Rattle.std.proofs.lemmas.List.{append-nil, map-append, length-map, drop_all}
use Rattle.std.proofs.Math.ListN.{get_or-map}
use Rattle.std.proofs.lemmas.List.Elements.{All-push, All-cons}
use Rattle.ll_bank.specs.declared.FormAt.{FormAt}
use Rattle.ll_bank.specs.Form.{Bang}
use Rattle.ll_bank.specs.Nodes.{Nodes, form_tree, ShowsForm, Extends}
use Rattle.ll_laws.specs.Fault.{is_empty, parts_fit, parts_deal}
use Rattle.ll_laws.specs.Leaf.{Premise, Needs, NeedsFree, premise_goal}
use Rattle.ll_laws.specs.Line.{PartLine, Labels, Free}
use Rattle.ll_laws.specs.Module.{ModuleTree}
use Rattle.ll_laws.specs.Shows.{NoParts, has, part, rest}
use Rattle.ll_laws.specs.Valid.{GoalSide, ClauseSide}
use Rattle.ll_sequent.specs.declared.sequents.Resource.{Resource}
use Rattle.ll_sequent.specs.declared.sequents.Sequent.{Sequent}
use Rattle.ll_laws.specs.declared.Part.{Part}
use Rattle.ll_laws.specs.ShownLines.{part_line}
use Rattle.ll_sequent.specs.declared.leaves.Needed.{Needed}
use Rattle.ll_sequent.specs.Constants.{AllInForms}
use Rattle.ll_sequent.specs.Named.{has_resource}
use Rattle.ll_sequent.specs.Opened.{form_trees, needed_in, AreNeeded, IsDealtOut}
use Rattle.ll_sequent.specs.Sequents.{SequentTree, labelled_in, bounded_in, free_in, sequent_in, IsHeld, AreHeld, IsSequent}
use Rattle.ll_sequent.specs.Steps.{blank, premises, AreLeft}
use Rattle.ll_sequent.proofs.RuleLemmas.{part_shown, part_held, all_shown}
use Rattle.ll_sequent.proofs.PlaceLemmas.{form_trees_grow, map_more}
use Rattle.ll_sequent.proofs.WayLemmas.{needed_one}

-- the clauses whose labels are not in a set
rest_shown : (bank : Nodes) (s : List ℕ) (rs : List Resource)
    → rest s (bounded_in bank rs) ≡ bounded_in bank (filter (λ (r : Resource). not (has s r.label)) rs)
rest_shown bank s [] = refl
rest_shown bank s (r ∷ rs) = by_case (rest_shown bank s rs) (not (has s r.label))
  where
    by_case : rest s (bounded_in bank rs) ≡ bounded_in bank (filter (λ (r : Resource). not (has s r.label)) rs) → (b : Bool)
        → cond b (labelled_in bank r ∷ rest s (bounded_in bank rs)) (rest s (bounded_in bank rs))
        ≡ bounded_in bank (cond b (r ∷ filter (λ (r : Resource). not (has s r.label)) rs) (filter (λ (r : Resource). not (has s r.label)) rs))
    by_case h true = ap (λ xs. labelled_in bank r ∷ xs) h
    by_case h false = h

rest_held : (modules : List ModuleTree) (bank : Nodes) (s : List ℕ) (rs : List Resource) → AreHeld modules bank rs
    → AreHeld modules bank (filter (λ (r : Resource). not (has s r.label)) rs)
rest_held modules bank s [] h = h
rest_held modules bank s (r ∷ rs) h = by_case (rest_held modules bank s rs (λ k d l. h (suc k) d (omega arith))) (h 0 r (omega arith)) (not (has s r.label))
  where
    by_case : AreHeld modules bank (filter (λ (r : Resource). not (has s r.label)) rs) → IsHeld modules bank ClauseSide r.form.0 → (b : Bool)
        → AreHeld modules bank (cond b (r ∷ filter (λ (r : Resource). not (has s r.label)) rs) (filter (λ (r : Resource). not (has s r.label)) rs))
    by_case behind front true = All-cons (λ (r : Resource). IsHeld modules bank ClauseSide r.form.0) r (filter (λ (r : Resource). not (has s r.label)) rs) front
        behind
    by_case behind front false = behind

-- the parts and premises from one on
pub record Meets (lines : List PartLine) (gs : List Premise) (bank : Nodes) (goals : List FormAt) : Type 0 where
  pub trees : form_trees bank goals ≡ map premise_goal gs
  pub fit : parts_fit (blank lines) gs ≡ true

-- what is so far, for any bank and premises
pub record SoFar (lines : List PartLine) (goals : List FormAt) (free : ℕ) (bounded : List Resource) (i : ℕ) (left : List Resource) (qs : List Sequent)
    (bank : Nodes) (gs : List Premise) : Type 0 where
  pub more : List Premise
  pub meets : Meets (drop i lines) more bank (drop i goals)
  pub deal : parts_deal (blank lines) (bounded_in bank bounded) ≡ parts_deal (blank (drop i lines)) (bounded_in bank left)
  pub shows : (all : List Resource) → premises lines (free_in bank (take free all)) (bounded_in bank bounded) gs
      ≡ map (sequent_in bank all) qs ++ premises (drop i lines) (free_in bank (take free all)) (bounded_in bank left) more

pub record IsInDeal (lines : List PartLine) (goals : List FormAt) (free : ℕ) (bounded : List Resource) (i : ℕ) (left : List Resource) (qs : List Sequent) : Type
    0 where
  pub so_far : (bank : Nodes) (gs : List Premise) → form_trees bank goals ≡ map premise_goal gs → parts_fit (blank lines) gs ≡ true
      → SoFar lines goals free bounded i left qs bank gs
  pub held : (modules : List ModuleTree) (bank : Nodes) → AreHeld modules bank bounded → AreHeld modules bank left
  pub left_so_far : (modules : List ModuleTree) (bank : Nodes) → AreHeld modules bank bounded → All (λ (f : FormAt). IsHeld modules bank GoalSide f.0) goals
      → AreLeft modules bank free qs

module _ (lines : List PartLine) (goals : List FormAt) (free : ℕ) (bounded : List Resource) where
  pub deal_start : (qs : List Sequent) → qs ≡ [] → IsInDeal lines goals free bounded 0 bounded qs
  deal_start qs e = record {
    so_far = λ bank gs t f. record {
      more = gs;
      meets = record { trees = t; fit = f };
      deal = refl;
      shows = λ all. ap (λ xs. map (sequent_in bank all) xs ++ premises lines (free_in bank (take free all)) (bounded_in bank bounded) gs) (sym e);
    };
    held = λ modules bank h. h;
    left_so_far = λ modules bank h g. let P : List Sequent → Type 0 = AreLeft modules bank free in
        subst P (sym e) (record { each = λ k d l. absurd (omega arith); whole = λ k d l. absurd (omega arith) });
  }

  module _ (i : ℕ) (left : List Resource) (qs more : List Sequent) (d : FormAt) (q : Sequent) (low : i < length goals)
      (so : IsInDeal lines goals free bounded i left qs) (pushed : more ≡ qs ++ q ∷ []) (same_free : q.free ≡ free)
      (same_goal : q.goal ≡ get_or goals i d) (line : PartLine) (now : drop i lines ≡ line ∷ drop (i + 1) lines) where
    goals_now : drop i goals ≡ get_or goals i d ∷ drop (i + 1) goals
    goals_now = drop-cons goals i d low ∙ ap (λ m. get_or goals i d ∷ drop m goals) (let e : suc i ≡ i + 1 = omega arith in e)

    -- one sequent more is left
    more_left : (modules : List ModuleTree) (bank : Nodes) → AreHeld modules bank q.bounded.items → AreHeld modules bank bounded
        → All (λ (f : FormAt). IsHeld modules bank GoalSide f.0) goals → AreLeft modules bank free more
    more_left modules bank b h g =
        let P : List Sequent → Type 0 = AreLeft modules bank free in
        let G : FormAt → Type 0 = λ f. IsHeld modules bank GoalSide f.0 in
        let l = so.left_so_far modules bank h g in
        subst P (sym pushed) (record {
          each = All-push (IsSequent modules bank) qs q l.each (record { goal = subst G (sym same_goal) (g i d low); bounded = b });
          whole = All-push (λ (q : Sequent). q.free ≡ free) qs q l.whole same_free;
        })

    sequent_is : (bank : Nodes) (all : List Resource) → sequent_in bank all q
        ≡ record { free = free_in bank (take free all); bounded = bounded_in bank q.bounded.items; goal = form_tree bank (get_or goals i d).0 }
    sequent_is bank all = λ j. record {
      free = free_in bank (take (same_free j) all);
      bounded = bounded_in bank q.bounded.items;
      goal =
          form_tree bank (same_goal j).0;
    }

    -- the lists of sequents, with one more in the first
    moved : (bank : Nodes) (all : List Resource) (x : SequentTree) (xs : List SequentTree) → sequent_in bank all q ≡ x
        → map (sequent_in bank all) qs ++ x ∷ xs ≡ map (sequent_in bank all) more ++ xs
    moved bank all x xs e =
        ap (λ y. map (sequent_in bank all) qs ++ y ∷ xs) (sym e)
        ∙ (sym (append_assoc (map (sequent_in bank all) qs) (sequent_in bank all q ∷ []) xs)
        ∙ ap (λ ys. ys ++ xs) (sym (ap (map (sequent_in bank all)) pushed ∙ map-append (sequent_in bank all) qs (q ∷ []))))

    -- ---- a bounded premise

    module _ (s : List ℕ) (is : line ≡ Labels s) (named : list_all (has_resource left) s ≡ true)
        (given : q.bounded.items ≡ filter (λ (r : Resource). has s r.label) left) (after : List Resource)
        (rest_is : after ≡ filter (λ (r : Resource). not (has s r.label)) left) where
      now_bounded : drop i lines ≡ Labels s ∷ drop (i + 1) lines
      now_bounded = now ∙ ap (λ l. l ∷ drop (i + 1) lines) is

      after_shown : (bank : Nodes) → rest s (bounded_in bank left) ≡ bounded_in bank after
      after_shown bank = rest_shown bank s left ∙ ap (bounded_in bank) (sym rest_is)

      part_is : (bank : Nodes) → part s (bounded_in bank left) ≡ bounded_in bank q.bounded.items
      part_is bank = part_shown bank s left ∙ ap (bounded_in bank) (sym given)

      bounded_meets : (bank : Nodes) (gs : List Premise) (b : SoFar lines goals free bounded i left qs bank gs) (ps : List Premise) → b.more ≡ ps
          → SoFar lines goals free bounded (i + 1) after more bank gs
      bounded_meets bank gs b [] e = absurd (let z : ⊥ = cc (
        sym (ap (λ xs. parts_fit (blank xs) b.more) now_bounded) ∙ b.meets.fit,
        ap (parts_fit (blank (Labels s ∷ drop (i + 1) lines))) e,
      ) in z)
      bounded_meets bank gs b (NeedsFree g ∷ ps) e = absurd (let z : ⊥ =
          cc (sym (ap (λ xs. parts_fit (blank xs) b.more) now_bounded) ∙ b.meets.fit, ap (parts_fit (blank (Labels s ∷ drop (i + 1) lines))) e) in z)
      bounded_meets bank gs b (Needs g ∷ ps) e =
          let t : form_tree bank (get_or goals i d).0 ∷ form_trees bank (drop (i + 1) goals) ≡ g ∷ map premise_goal ps =
          sym (ap (form_trees bank) goals_now) ∙ (b.meets.trees ∙ ap (map premise_goal) e) in
          let t1 : form_tree bank (get_or goals i d).0 ≡ g = cc in
          let t2 : form_trees bank (drop (i + 1) goals) ≡ map premise_goal ps = cc in
          record {
            more = ps;
            meets = record { trees = t2; fit = sym (λ j. parts_fit (blank (now_bounded j)) (e j)) ∙ b.meets.fit };
            deal = b.deal ∙ (ap (λ xs. parts_deal (blank xs) (bounded_in bank left)) now_bounded
                ∙ ((λ j. (all_shown bank left s ∙ named) j && parts_deal (blank (drop (i + 1) lines)) (after_shown bank j))));
            shows = λ all. b.shows all
                ∙ (ap (λ xs. map (sequent_in bank all) qs ++ xs) ((λ j. premises (now_bounded j) (free_in bank (take free all)) (bounded_in bank left) (e j))
                ∙ (λ j. record { free = free_in bank (take free all); bounded = part_is bank j; goal = sym t1 j }
                ∷ premises (drop (i + 1) lines) (free_in bank (take free all)) (after_shown bank j) ps))
                ∙ moved bank all _ (premises (drop (i + 1) lines) (free_in bank (take free all)) (bounded_in bank after) ps) (sequent_is bank all));
          }

      pub deal_bounded : IsInDeal lines goals free bounded (i + 1) after more
      deal_bounded = record {
        so_far = λ bank gs t f. let b = so.so_far bank gs t f in bounded_meets bank gs b b.more refl;
        held = λ modules bank h. let P : List Resource → Type 0 = AreHeld modules bank in
            subst P (sym rest_is) (rest_held modules bank s left (so.held modules bank h));
        left_so_far = λ modules bank h g. let P : List Resource → Type 0 = AreHeld modules bank in
            more_left modules bank (subst P (sym given) (part_held modules bank s left (so.held modules bank h))) h g;
      }

    -- ---- an unbounded premise

    module _ (is : line ≡ Free) (given : q.bounded.items ≡ []) where
      now_free : drop i lines ≡ Free ∷ drop (i + 1) lines
      now_free = now ∙ ap (λ l. l ∷ drop (i + 1) lines) is

      free_meets : (bank : Nodes) (gs : List Premise) (b : SoFar lines goals free bounded i left qs bank gs) (ps : List Premise) → b.more ≡ ps
          → SoFar lines goals free bounded (i + 1) left more bank gs
      free_meets bank gs b [] e = absurd (let z : ⊥ = cc (
        sym (ap (λ xs. parts_fit (blank xs) b.more) now_free) ∙ b.meets.fit,
        ap (parts_fit (blank (Free ∷ drop (i + 1) lines))) e,
      ) in z)
      free_meets bank gs b (Needs g ∷ ps) e = absurd (let z : ⊥ =
          cc (sym (ap (λ xs. parts_fit (blank xs) b.more) now_free) ∙ b.meets.fit, ap (parts_fit (blank (Free ∷ drop (i + 1) lines))) e) in z)
      free_meets bank gs b (NeedsFree g ∷ ps) e =
          let t : form_tree bank (get_or goals i d).0 ∷ form_trees bank (drop (i + 1) goals) ≡ Bang g ∷ map premise_goal ps =
          sym (ap (form_trees bank) goals_now) ∙ (b.meets.trees ∙ ap (map premise_goal) e) in
          let t1 : form_tree bank (get_or goals i d).0 ≡ Bang g = cc in
          let t2 : form_trees bank (drop (i + 1) goals) ≡ map premise_goal ps = cc in
          record {
            more = ps;
            meets = record { trees = t2; fit = sym (λ j. parts_fit (blank (now_free j)) (e j)) ∙ b.meets.fit };
            deal = b.deal ∙ ap (λ xs. parts_deal (blank xs) (bounded_in bank left)) now_free;
            shows = λ all. b.shows all
                ∙ (ap (λ xs. map (sequent_in bank all) qs ++ xs) ((λ j. premises (now_free j) (free_in bank (take free all)) (bounded_in bank left) (e j))
                ∙ (λ j. record { free = free_in bank (take free all); bounded = bounded_in bank (sym given j); goal = sym t1 j }
                ∷ premises (drop (i + 1) lines) (free_in bank (take free all)) (bounded_in bank left) ps))
                ∙ moved bank all _ (premises (drop (i + 1) lines) (free_in bank (take free all)) (bounded_in bank left) ps) (sequent_is bank all));
          }

      pub deal_free : IsInDeal lines goals free bounded (i + 1) left more
      deal_free = record {
        so_far = λ bank gs t f. let b = so.so_far bank gs t f in free_meets bank gs b b.more refl;
        held = so.held;
        left_so_far = λ modules bank h g. let P : List Resource → Type 0 = AreHeld modules bank in
            more_left modules bank (subst P (sym given) (λ k d l. absurd (omega arith))) h g;
      }

-- the line of the next part
pub line_now : (parts : List Part) (i : ℕ) (x : Part) → i < length parts → x ≡ get_or parts i x
    → drop i (map part_line parts) ≡ part_line x ∷ drop (i + 1) (map part_line parts)
line_now parts i x low is =
    drop-cons (map part_line parts) i (part_line x) (let e = length-map parts part_line in omega arith)
    ∙ (ap (λ l. l ∷ drop (suc i) (map part_line parts)) (get_or-map part_line parts i x ∙ ap part_line (sym is))
    ∙ ap (λ m. part_line x ∷ drop m (map part_line parts)) (let e : suc i ≡ i + 1 = omega arith in e))

empty_is : (bank : Nodes) (rs : List Resource) → rs ≡ [] → is_empty (bounded_in bank rs) ≡ true
empty_is bank rs e = ap (λ xs. is_empty (bounded_in bank xs)) e

empty_not : (bank : Nodes) (rs : List Resource) → 0 < length rs → is_empty (bounded_in bank rs) ≡ false
empty_not bank [] l = absurd (omega arith)
empty_not bank (r ∷ rs) l = refl

no_more : (gs : List Premise) → parts_fit NoParts gs ≡ true → gs ≡ []
no_more [] e = refl
no_more (g ∷ gs) e = cc

module _ (lines : List PartLine) (goals : List FormAt) (free : ℕ) (bounded : List Resource) (i : ℕ) (left : List Resource) (qs : List Sequent)
    (so : IsInDeal lines goals free bounded i left qs) (bank : Nodes) (gs : List Premise)
    (t : form_trees bank goals ≡ map premise_goal gs) (f : parts_fit (blank lines) gs ≡ true) where
  -- a label is that of no clause that is left
  pub deal_unnamed : (s : List ℕ) → drop i lines ≡ Labels s ∷ drop (i + 1) lines → list_all (has_resource left) s ≡ false
      → parts_deal (blank lines) (bounded_in bank bounded) ≡ false
  deal_unnamed s e n =
      let b = so.so_far bank gs t f in
      b.deal ∙ (ap (λ xs. parts_deal (blank xs) (bounded_in bank left)) e
      ∙ ap (λ c. c && parts_deal (blank (drop (i + 1) lines)) (rest s (bounded_in bank left))) (all_shown bank left s ∙ n))

  module _ (past : length lines ≤ i) where
    none_left : drop i lines ≡ []
    none_left = drop_all i lines past

    -- clauses are left
    pub deal_left : 0 < length left → parts_deal (blank lines) (bounded_in bank bounded) ≡ false
    deal_left l = let b = so.so_far bank gs t f in b.deal ∙ (ap (λ xs. parts_deal (blank xs) (bounded_in bank left)) none_left ∙ empty_not bank left l)

    -- or none
    pub deal_end : left ≡ [] → IsDealtOut lines goals free bounded bank gs qs
    deal_end e =
        let b = so.so_far bank gs t f in
        record {
          deal = b.deal ∙ (ap (λ xs. parts_deal (blank xs) (bounded_in bank left)) none_left ∙ empty_is bank left e);
          shows = λ all. sym (b.shows all
              ∙ ((λ j. map (sequent_in bank all) qs ++ premises (none_left j) (free_in bank (take free all)) (bounded_in bank left) b.more)
              ∙ append-nil (map (sequent_in bank all) qs)));
          left = λ modules h g. so.left_so_far modules bank h g;
        }

-- ---- whether the parts fit

fit_none : (lines : List PartLine) (gs : List Premise) → (length lines ≡ length gs → ⊥) → false ≡ parts_fit (blank lines) gs
fit_none [] [] n = absurd (n refl)
fit_none [] (g ∷ gs) n = refl
fit_none (Labels s ∷ lines) [] n = refl
fit_none (Free ∷ lines) [] n = refl
fit_none (Labels s ∷ lines) (Needs g ∷ gs) n = fit_none lines gs (λ e. n (ap (λ m. suc m) e))
fit_none (Labels s ∷ lines) (NeedsFree g ∷ gs) n = refl
fit_none (Free ∷ lines) (Needs g ∷ gs) n = refl
fit_none (Free ∷ lines) (NeedsFree g ∷ gs) n = fit_none lines gs (λ e. n (ap (λ m. suc m) e))

fit_one : (line : PartLine) (lines : List PartLine) (g : Premise) (gs : List Premise) → parts_fit (blank (line ∷ [])) (g ∷ []) ≡ true
    → parts_fit (blank (line ∷ lines)) (g ∷ gs) ≡ parts_fit (blank lines) gs
fit_one (Labels s) lines (Needs g) gs e = refl
fit_one (Labels s) lines (NeedsFree g) gs e = cc
fit_one Free lines (Needs g) gs e = cc
fit_one Free lines (NeedsFree g) gs e = refl

fit_not : (line : PartLine) (lines : List PartLine) (g : Premise) (gs : List Premise) → parts_fit (blank (line ∷ [])) (g ∷ []) ≡ false
    → parts_fit (blank (line ∷ lines)) (g ∷ gs) ≡ false
fit_not (Labels s) lines (Needs g) gs e = cc
fit_not (Labels s) lines (NeedsFree g) gs e = refl
fit_not Free lines (Needs g) gs e = refl
fit_not Free lines (NeedsFree g) gs e = cc

module _ (parts : List Part) (ps : List Needed) where
  pub other_number : (length parts ≡ length ps → ⊥) → (bank : Nodes) → false ≡ parts_fit (blank (map part_line parts)) (map (needed_in bank) ps)
  other_number n bank =
      fit_none (map part_line parts) (map (needed_in bank) ps) (λ e. n (sym (length-map parts part_line) ∙ (e ∙ length-map ps (needed_in bank))))

  module _ (i : ℕ) (x : Part) (y : Needed) (low : i < length parts) (same : length parts ≡ length ps)
      (so_far : (bank : Nodes) → parts_fit (blank (map part_line parts)) (map (needed_in bank) ps)
      ≡ parts_fit (blank (map part_line (drop i parts))) (map (needed_in bank) (drop i ps))) where
    cut : (bank : Nodes) → parts_fit (blank (map part_line parts)) (map (needed_in bank) ps)
        ≡ parts_fit (blank (part_line (get_or parts i x) ∷ map part_line (drop (suc i) parts)))
        (needed_in bank (get_or ps i y) ∷ map (needed_in bank) (drop (suc i) ps))
    cut bank = so_far bank ∙ (λ j. parts_fit (blank (map part_line (drop-cons parts i x low j)))
        (map (needed_in bank) (drop-cons ps i y (let l : i < length ps = omega arith in l) j)))

    pub other_kind : x ≡ get_or parts i x → ((bank : Nodes) → false ≡ parts_fit (blank (part_line x ∷ [])) (needed_in bank (get_or ps i y) ∷ []))
        → (bank : Nodes) → false ≡ parts_fit (blank (map part_line parts)) (map (needed_in bank) ps)
    other_kind is n bank =
        sym (cut bank ∙ fit_not (part_line (get_or parts i x)) (map part_line (drop (suc i) parts)) (needed_in bank (get_or ps i y))
        (map (needed_in bank) (drop (suc i) ps))
        (sym (n bank ∙ ap (λ p. parts_fit (blank (part_line p ∷ [])) (needed_in bank (get_or ps i y) ∷ [])) is)))

    pub same_kinds : x ≡ get_or parts i x → ((bank : Nodes) → true ≡ parts_fit (blank (part_line x ∷ [])) (needed_in bank (get_or ps i y) ∷ []))
        → (bank : Nodes) → parts_fit (blank (map part_line parts)) (map (needed_in bank) ps)
        ≡ parts_fit (blank (map part_line (drop (i + 1) parts))) (map (needed_in bank) (drop (i + 1) ps))
    same_kinds is n bank =
        cut bank ∙ (fit_one (part_line (get_or parts i x)) (map part_line (drop (suc i) parts)) (needed_in bank (get_or ps i y))
        (map (needed_in bank) (drop (suc i) ps))
        (sym (n bank ∙ ap (λ p. parts_fit (blank (part_line p ∷ [])) (needed_in bank (get_or ps i y) ∷ [])) is))
        ∙ ap (λ m. parts_fit (blank (map part_line (drop m parts))) (map (needed_in bank) (drop m ps))) (let e : suc i ≡ i + 1 = omega arith in e))

  pub all_fit : (i : ℕ) → length parts ≤ i → length parts ≡ length ps
      → ((bank : Nodes) → parts_fit (blank (map part_line parts)) (map (needed_in bank) ps)
      ≡ parts_fit (blank (map part_line (drop i parts))) (map (needed_in bank) (drop i ps)))
      → (bank : Nodes) → true ≡ parts_fit (blank (map part_line parts)) (map (needed_in bank) ps)
  all_fit i l e so_far bank =
      sym (so_far bank ∙ (λ j. parts_fit (blank (map part_line (drop_all i parts l j)))
      (map (needed_in bank) (drop_all i ps (let m : length ps ≤ i = omega arith in m) j))))

-- ---- goals

pub goals_more : (first old new : Nodes) (from : Extends first old) (keeps : Extends old new) (ps : List Needed) (i : ℕ) (d : Needed) (goals more : List FormAt)
    (g : FormAt) → i < length ps → AreNeeded first ps
    → more ≡ goals ++ g ∷ [] → AllInForms old goals → ShowsForm new g.0 (premise_goal (needed_in old (get_or ps i d)))
    → form_trees old goals ≡ map premise_goal (map (needed_in first) (take i ps))
    → form_trees new more ≡ map premise_goal (map (needed_in first) (take (i + 1) ps))
goals_more first old new from keeps ps i d goals more g l h e inside shows same =
    form_trees_grow keeps goals more g e inside
    ∙ ((λ j. same j ++ (shows.tree ∙ ap premise_goal (needed_one from (get_or ps i d) (h i d l))) j ∷ [])
    ∙ (sym (map-append premise_goal (map (needed_in first) (take i ps)) (needed_in first (get_or ps i d) ∷ []))
    ∙ ap (map premise_goal) (sym (map_more (needed_in first) ps i d l))))
