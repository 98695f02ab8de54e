-- What is found at one place, by its sign and by that of its image.
use Rattle.std.proofs.Common.{◌≡◌, ℕ, ap, sym, ◌∙◌, Bool, true, false, List, map, length, Some, None}
use Rattle.std.specs.Prelude.{Result, Ok, Err, IfOk, OnOk, ℤ}
use Rattle.std.specs.Ordering.{nat_cmp}
use Rattle.std.specs.BTreeMap.{BTreeMap, get}
use Rattle.std.proofs.lemmas.List.{length-map}
use Rattle.ll_bank.specs.declared.At.{At}
use Rattle.ll_bank.specs.declared.Head.{Head}
use Rattle.ll_bank.specs.Term.{Term, Var, Int, app, sub, head_of}
use Rattle.ll_bank.specs.Nodes.{Nodes, term_tree, term_trees}
use Rattle.ll_cover.specs.declared.matching.Found.{Found}
use Rattle.ll_cover.specs.Matching.{HasPlaces, AllClosed, AreBelow, AllBelow, Meets, MeetsClosed, Looks}
use Rattle.ll_bank.proofs.CallerLemmas.{head_of-app, sub-app, sub-term_trees}
use Rattle.ll_cover.proofs.Applied.{app-args, app-head, app-count}

module _ (bank : Nodes) (place : ℕ) (other : Nodes) (image : ℕ) (old : Found) where
  -- ---- a variable

  pub look_variable : {E : Type 0} (number : ℕ) (values : BTreeMap ℕ At) (r : Result Bool E) → term_tree bank place ≡ Var number
      → HasPlaces other (get nat_cmp old.waiting)
      → IfOk r (MeetsClosed other (λ want. want number ≡ term_tree other image) (get nat_cmp old.values) (get nat_cmp values))
      → OnOk r (HasPlaces other (get nat_cmp values))
      → OnOk r (AllClosed other (get nat_cmp old.values) → AllClosed other (get nat_cmp values))
      → IfOk r (Looks bank place other image old (record { waiting = old.waiting; values = values }))
  look_variable number values (Err e) tree w m p c = tt
  look_variable number values (Ok false) tree w m p c = λ g closing h q. m g closing h.values (ap (sub g) (sym tree) ∙ q)
  look_variable number values (Ok true) tree w m p c = record {
    keeps = λ g h. record { waiting = h.waiting; values = m.keeps g h.values };
    asks = λ g h. ap (sub g) tree ∙ m.asks g h.values;
    enough = λ g h q. record { waiting = h.waiting; values = m.enough g h.values (ap (sub g) (sym tree) ∙ q) };
    waiting = w;
    values = p;
    closed = c;
    below = λ b. b;
  }

  -- ---- a whole number

  pub number_not_head : (z : ℤ) (h : Head) (ts : List Term) → term_tree bank place ≡ Int z → term_tree other image ≡ app h ts → (g : ℕ → Term)
      → sub g (term_tree bank place) ≡ term_tree other image → ⊥
  number_not_head z h ts tree seen g q =
      let e : None ≡ Some h = ap (λ t. head_of (sub g t)) (sym tree) ∙ (ap head_of q ∙ (ap head_of seen ∙ head_of-app h ts)) in cc

  -- ---- a head with arguments

  pub head_not_leaf : (h : Head) (ts : List Term) → term_tree bank place ≡ app h ts → head_of (term_tree other image) ≡ None → (g : ℕ → Term)
      → sub g (term_tree bank place) ≡ term_tree other image → ⊥
  head_not_leaf h ts tree leaf g q =
      let e : Some h ≡ None = sym (head_of-app h (map (sub g) ts))
      ∙ (ap head_of (sym (sub-app g h ts)) ∙ (ap (λ t. head_of (sub g t)) (sym tree) ∙ (ap head_of q ∙ leaf))) in cc

  applied : (h k : Head) (ts us : List Term) → term_tree bank place ≡ app h ts → term_tree other image ≡ app k us → (g : ℕ → Term)
      → sub g (term_tree bank place) ≡ term_tree other image
      → app h (map (sub g) ts) ≡ app k us
  applied h k ts us tree seen g q = sym (sub-app g h ts) ∙ (ap (sub g) (sym tree) ∙ (q ∙ seen))

  pub other_head : (h k : Head) (ts us : List Term) → term_tree bank place ≡ app h ts → term_tree other image ≡ app k us → (h ≡ k → ⊥) → (g : ℕ → Term)
      → sub g (term_tree bank place) ≡ term_tree other image → ⊥
  other_head h k ts us tree seen ne g q = ne (app-head h k (map (sub g) ts) us (applied h k ts us tree seen g q))

  pub other_count : (h k : Head) (args others : List At) → term_tree bank place ≡ app h (term_trees bank args)
      → term_tree other image ≡ app k (term_trees other others) → (length args ≡ length others → ⊥)
      → (g : ℕ → Term) → sub g (term_tree bank place) ≡ term_tree other image → ⊥
  other_count h k args others tree seen ne g q =
      ne (sym (length-map (term_trees bank args) (sub g) ∙ length-map args (λ a. term_tree bank a.0))
      ∙ (app-count h k (map (sub g) (term_trees bank args)) (term_trees other others)
      (applied h k (term_trees bank args) (term_trees other others) tree seen g q) ∙ length-map others (λ a. term_tree other a.0)))

  module _ (h k : Head) (args others : List At) (tree : term_tree bank place ≡ app h (term_trees bank args))
      (seen : term_tree other image ≡ app k (term_trees other others)) (same : h ≡ k) (n : length args ≡ length others) where
    -- the arguments become their images where the whole becomes its image
    forth : (g : ℕ → Term) → map (λ a. sub g (term_tree bank a.0)) args ≡ term_trees other others → sub g (term_tree bank place) ≡ term_tree other image
    forth g e = ap (sub g) tree ∙ (sub-app g h (term_trees bank args)
        ∙ (ap (app h) (sub-term_trees g bank args ∙ e) ∙ (ap (λ x. app x (term_trees other others)) same ∙ sym seen)))

    back : (g : ℕ → Term) → sub g (term_tree bank place) ≡ term_tree other image → map (λ a. sub g (term_tree bank a.0)) args ≡ term_trees other others
    back g q = sym (sub-term_trees g bank args) ∙ app-args h k (map (sub g) (term_trees bank args)) (term_trees other others)
        (length-map (term_trees bank args) (sub g) ∙ (length-map args (λ a. term_tree bank a.0) ∙ (n ∙ sym (length-map others (λ a. term_tree other a.0)))))
        (applied h k (term_trees bank args) (term_trees other others) tree seen g q)

  pub look_applied : {E : Type 0} (h k : Head) (args others : List At) (waiting : BTreeMap ℕ At) (r : Result Bool E)
      → term_tree bank place ≡ app h (term_trees bank args) → AllBelow place args
      → term_tree other image ≡ app k (term_trees other others) → h ≡ k → length args ≡ length others → HasPlaces other (get nat_cmp old.values)
      → IfOk r (Meets other (λ want. map (λ a. want a.0) args ≡ term_trees other others) (get nat_cmp old.waiting) (get nat_cmp waiting))
      → OnOk r (HasPlaces other (get nat_cmp waiting))
      → OnOk r ((limit : ℕ) → AllBelow limit args → AreBelow limit (get nat_cmp old.waiting) → AreBelow limit (get nat_cmp waiting))
      → IfOk r (Looks bank place other image old (record { waiting = waiting; values = old.values }))
  look_applied h k args others waiting (Err e) tree lower seen same n v m p b = tt
  look_applied h k args others waiting (Ok false) tree lower seen same n v m p b =
      λ g closing w q. m (λ x. sub g (term_tree bank x)) w.waiting (back h k args others tree seen same n g q)
  look_applied h k args others waiting (Ok true) tree lower seen same n v m p b = record {
    keeps = λ g w. record { waiting = m.keeps (λ x. sub g (term_tree bank x)) w.waiting; values = w.values };
    asks = λ g w. forth h k args others tree seen same n g (m.asks (λ x. sub g (term_tree bank x)) w.waiting);
    enough = λ g w q. record {
      waiting = m.enough (λ x. sub g (term_tree bank x)) w.waiting (back h k args others tree seen same n g q);
      values = w.values;
    };
    waiting = p;
    values = v;
    closed = λ c. c;
    below = b place lower;
  }
