-- Patterns with their bound places closed, and terms that are the same as these under bindings.
use Rattle.std.proofs.Common.{◌≡◌, ℕ, zero, suc, ◌+◌, ◌<◌, ◌≤◌, Bool, true, false, List, [], ◌∷◌, ◌++◌}
use Rattle.std.proofs.Common.{length, map, take, get_or, All, refl, ap, sym, subst, ◌∙◌}
use Rattle.std.proofs.Common.{arith}
use Rattle.std.specs.Prelude.{Option, Some, slice_set}
use Rattle.std.proofs.lemmas.Bool.{eq-eqb}
use Rattle.std.proofs.lemmas.List.{length-set, get_or-set_other, map_push, take_all, take_more, take_more_set}
use Rattle.std.proofs.lemmas.List.Elements.{All-cons}
use Rattle.ll_bank.specs.declared.At.{At}
use Rattle.ll_bank.specs.declared.Head.{Head}
use Rattle.ll_bank.specs.Term.{Term, Var, Con, Ap, Env, sub, app, apply, close, not_bound}
use Rattle.ll_bank.specs.Nodes.{Nodes, HasTerm, AllInTerms, ShowsTerm, Extends, term_tree, term_trees}
use Rattle.ll_bank.proofs.CallerLemmas.{Extends-refl, Extends-trans, term_tree-extends, sub-apply}
use Rattle.ll_unify.specs.Bindings.{Table, cell, through, HasCells, IsTable, AreSame, Obeys}
use Rattle.ll_laws.specs.Unify.{and_then, diff, diff_lists, Solved}
use Rattle.ll_unify.specs.Solving.{Solves, Settles}
use Rattle.ll_unify.proofs.CallerLemmas.{place-extends, table-extends, solves-alike}
use Rattle.ll_bind.specs.Built.{ShowsSame, AreBuilt, is_bare}
use Rattle.ll_bind.proofs.Heads.{AllCells, app_cells, place_made, close_fixed, cells_apply}

-- ---- one term

module _ (nodes : Nodes) (t : Table) where
  -- what stands at a place shows itself
  pub shows-itself : (at : ℕ) (u : Term) → HasTerm nodes at → term_tree nodes at ≡ u → HasCells nodes t u → ShowsSame nodes t at u
  shows-itself at u h e c = record { place = record { inside = h; vars = subst (HasCells nodes t) (sym e) c }; same = λ s o. ap (sub s) e }

  -- and what a variable is bound to shows the variable
  pub shows-value : IsTable nodes t → (x : ℕ) (to : At) → cell t x ≡ Some to → HasCells nodes t (Var x) → ShowsSame nodes t to.0 (Var x)
  shows-value tb x to e c = record {
    place = record { inside = tb.places x to e; vars = λ y r. c y (through (Var x) x to (eq-eqb x x refl) e r) };
    same = λ s o. sym (o x to e);
  }

  module _ (env : Env) where
    built-cells : (us : List Term) (ats : List At) → AreBuilt nodes t env us ats → AllCells nodes t (term_trees nodes ats)
    built-cells [] [] h = tt
    built-cells [] (a ∷ ats) h = absurd h
    built-cells (u ∷ us) [] h = absurd h
    built-cells (u ∷ us) (a ∷ ats) h = (h.0.place.vars, built-cells us ats h.1)

    pub built-same : (s : ℕ → Term) → Obeys nodes t s → (us : List Term) (ats : List At) → AreBuilt nodes t env us ats
        → map (sub s) (term_trees nodes ats) ≡ map (sub s) (map (close env) us)
    built-same s o [] [] h = refl
    built-same s o [] (a ∷ ats) h = absurd h
    built-same s o (u ∷ us) [] h = absurd h
    built-same s o (u ∷ us) (a ∷ ats) h = λ i. h.0.same s o i ∷ built-same s o us ats h.1 i

    -- one more
    pub built-push : (us : List Term) (ats : List At) (u : Term) (a : At) → AreBuilt nodes t env us ats → ShowsSame nodes t a.0 (close env u)
        → AreBuilt nodes t env (us ++ u ∷ []) (ats ++ a ∷ [])
    built-push [] [] u a h k = (k, tt)
    built-push [] (b ∷ ats) u a h k = absurd h
    built-push (v ∷ us) [] u a h k = absurd h
    built-push (v ∷ us) (b ∷ ats) u a h k = (h.0, built-push us ats u a h.1 k)

-- ---- a bank that grew

module _ (old new : Nodes) (t : Table) (tb : IsTable old t) (e : Extends old new) where
  obeys-back : (s : ℕ → Term) → Obeys new t s → Obeys old t s
  obeys-back s o x at c = o x at c ∙ ap (sub s) (term_tree-extends e at.0 (tb.places x at c))

  pub shows-more : (at : ℕ) (u : Term) → ShowsSame old t at u → ShowsSame new t at u
  shows-more at u h = record {
    place = place-extends old new t at tb e h.place;
    same = λ s o. ap (sub s) (term_tree-extends e at h.place.inside) ∙ h.same s (obeys-back s o);
  }

  pub built-more : (env : Env) (us : List Term) (ats : List At) → AreBuilt old t env us ats → AreBuilt new t env us ats
  built-more env [] [] h = tt
  built-more env [] (a ∷ ats) h = absurd h
  built-more env (u ∷ us) [] h = absurd h
  built-more env (u ∷ us) (a ∷ ats) h = (shows-more a.0 (close env u) h.0, built-more env us ats h.1)

  -- a place that was made shows what it was made of
  pub shows-made : (at : ℕ) (u : Term) → ShowsTerm new at u → HasCells old t u → ShowsSame new t at u
  shows-made at u s h = record { place = place_made old new t tb e at u s h; same = λ f o. ap (sub f) s.tree }

  -- a head over the places of its arguments
  pub shows-app : (env : Env) (h : Head) (us : List Term) (ats : List At) (at : ℕ) → not_bound h ≡ true → AreBuilt old t env us ats
      → ShowsTerm new at (app h (term_trees old ats)) → ShowsSame new t at (close env (app h us))
  shows-app env h us ats at f b s = record {
    place = place_made old new t tb e at (app h (term_trees old ats)) s (app_cells old t h (term_trees old ats) (built-cells old t env us ats b));
    same = λ g o. ap (sub g) s.tree
        ∙ (sub-apply g (Con h) (term_trees old ats)
        ∙ (ap (apply (Con h)) (built-same old t env g (obeys-back g o) us ats b)
        ∙ (sym (sub-apply g (Con h) (map (close env) us)) ∙ ap (sub g) (sym (close_fixed env h us f)))));
  }

-- ---- patterns without arguments

bare-apply : (count : ℕ) (f a : Term) (ts : List Term) → is_bare count (apply (Ap f a) ts) ≡ false
bare-apply count f a [] = refl
bare-apply count f a (t ∷ ts) = bare-apply count (Ap f a) t ts

-- a head with arguments is not bare
pub bare-many : (count : ℕ) (h : Head) (ts : List Term) → (length ts ≡ 0 → ⊥) → is_bare count (app h ts) ≡ false
bare-many count h [] n = absurd (n refl)
bare-many count h (t ∷ ts) n = bare-apply count (Con h) t ts

-- a head without arguments
pub bare-head : (count : ℕ) (h : Head) (ts : List Term) → is_bare count (app h ts) ≡ true → app h ts ≡ Con h
bare-head count h [] b = refl
bare-head count h (t ∷ ts) b = let f : false ≡ true = sym (bare-apply count (Con h) t ts) ∙ b in cc

-- a term that is bare and begins with a head is the head
pub bare-shown : (count : ℕ) (u : Term) (h : Head) (ts : List Term) → u ≡ app h ts → is_bare count u ≡ true → u ≡ Con h
bare-shown count u h ts e b = e ∙ bare-head count h ts (ap (is_bare count) (sym e) ∙ b)

-- ---- places that are put in the place of patterns, one by one

-- so many have their places
pub record AreSoFar (first now : Nodes) (t : Table) (env : Env) (patterns ats : List At) (index : ℕ) : Type 0 where
  pub many : length ats ≡ length patterns
  pub keeps : Extends first now
  pub done : AreBuilt now t env (term_trees first (take index patterns)) (take index ats)
  pub left : (k : ℕ) (d : At) → index ≤ k → get_or ats k d ≡ get_or patterns k d

pub so_far-none : (nodes : Nodes) (t : Table) (env : Env) (patterns : List At) → AreSoFar nodes nodes t env patterns patterns 0
so_far-none nodes t env patterns = record { many = refl; keeps = Extends-refl nodes; done = tt; left = λ k d l. refl }

pub so_far-more : (first now next : Nodes) (t : Table) (env : Env) (patterns ats : List At) (index : ℕ) (d a : At) → IsTable first t
    → index < length patterns → AreSoFar first now t env patterns ats index → Extends now next
    → ShowsSame next t a.0 (close env (term_tree first (get_or patterns index d).0))
    → AreSoFar first next t env patterns (slice_set ats index a) (index + 1)
so_far-more first now next t env patterns ats index d a tb l s e h = record {
  many = length-set ats index a ∙ s.many;
  keeps = Extends-trans s.keeps e;
  done = subst (λ us. AreBuilt next t env us (take (index + 1) (slice_set ats index a)))
      (sym (ap (term_trees first) (take_more patterns index d l)
      ∙ map_push (λ (b : At). term_tree first b.0) (take index patterns) (get_or patterns index d)))
      (subst (AreBuilt next t env (term_trees first (take index patterns) ++ term_tree first (get_or patterns index d).0 ∷ []))
      (sym (take_more_set ats index a (let m = s.many in omega (arith, l, m))))
      (built-push next t env (term_trees first (take index patterns)) (take index ats) (term_tree first (get_or patterns index d).0) a
      (built-more now next t (table-extends first now t tb s.keeps) e env (term_trees first (take index patterns)) (take index ats) s.done) h));
  left = λ k c m. get_or-set_other ats index k a c (λ q. let x : ⊥ = omega (arith, m, q) in x) ∙ s.left k c (omega (arith, m));
}

-- the next pattern is in its place
pub so_far-tree : (first now : Nodes) (t : Table) (env : Env) (patterns ats : List At) (index : ℕ) (d : At) → AllInTerms first patterns
    → index < length patterns → AreSoFar first now t env patterns ats index → term_tree now (get_or ats index d).0 ≡ term_tree first (get_or patterns index d).0
so_far-tree first now t env patterns ats index d inside l s =
    ap (λ (a : At). term_tree now a.0) (s.left index d (omega arith))
    ∙ term_tree-extends s.keeps (get_or patterns index d).0 (inside index d l)

-- all have their places
pub so_far-all : (first now : Nodes) (t : Table) (env : Env) (patterns ats : List At) (index : ℕ) → length patterns ≤ index
    → AreSoFar first now t env patterns ats index → AreBuilt now t env (term_trees first patterns) ats
so_far-all first now t env patterns ats index l s =
    subst (λ xs. AreBuilt now t env (term_trees first xs) ats) (take_all index patterns l)
    (subst (AreBuilt now t env (term_trees first (take index patterns))) (take_all index ats (let m = s.many in omega (arith, l, m))) s.done)

-- what holds of terms holds of the one at a place
pub at-place : (P : Term → Type 0) (nodes : Nodes) (ats : List At) (i : ℕ) (d : At) → All P (term_trees nodes ats) → i < length ats
    → P (term_tree nodes (get_or ats i d).0)
at-place P nodes [] i d h l = absurd (omega (arith, l))
at-place P nodes (a ∷ ats) zero d h l = h 0 (term_tree nodes d.0) (omega arith)
at-place P nodes (a ∷ ats) (suc i) d h l = at-place P nodes ats i d (λ k e m. h (suc k) e (omega (arith, m))) (omega (arith, l))

-- ---- what is solved

-- an equation with a term that is the same is the same equation
pub settles-right : (nodes : Nodes) (old new : Table) (u v w : Term) (good : Bool) → IsTable nodes old → AreSame nodes old v w
    → Settles nodes old new (u ∷ []) (v ∷ []) good → Settles nodes old new (u ∷ []) (w ∷ []) good
settles-right nodes old new u v w good tb e h = by good h
  where
    back : (k : ℕ) (goal : Option Solved) (more others : List Term) → Solves nodes old k goal (u ∷ more) (w ∷ others)
        → Solves nodes old k goal (u ∷ more) (v ∷ others)
    back k goal more others q =
        solves-alike nodes old k goal (u ∷ more) (w ∷ others) (u ∷ more) (v ∷ others) tb
        (λ s o i. and_then (diff (sub s u) (sym (e s o) i)) (diff_lists (map (sub s) more) (map (sub s) others))) q

    by : (b : Bool) → Settles nodes old new (u ∷ []) (v ∷ []) b → Settles nodes old new (u ∷ []) (w ∷ []) b
    by true g = record {
      table = g.table;
      count = g.count;
      cells = g.cells;
      solves = λ k goal more others q. g.solves k goal more others (back k goal more others q);
    }
    by false g = λ k goal more others q. g k goal more others (back k goal more others q)

-- a place that shows the same as a term was made equal to an end, in a bank that grew before
pub settles-shown : (old new : Nodes) (t after : Table) (place right : ℕ) (u : Term) (good : Bool) → IsTable old t → Extends old new → HasTerm old place
    → ShowsSame new t right u → Settles new t after (term_tree new place ∷ []) (term_tree new right ∷ []) good
    → Settles new t after (term_tree old place ∷ []) (u ∷ []) good
settles-shown old new t after place right u good tb e h s k =
    subst (λ v. Settles new t after (v ∷ []) (u ∷ []) good) (term_tree-extends e place h)
    (settles-right new t after (term_tree new place) (term_tree new right) u good (table-extends old new t tb e) s.same k)

-- ---- lists of places

-- as many places as patterns
pub built-length : (nodes : Nodes) (t : Table) (env : Env) (us : List Term) (ats : List At) → AreBuilt nodes t env us ats → length ats ≡ length us
built-length nodes t env [] [] h = refl
built-length nodes t env [] (a ∷ ats) h = absurd h
built-length nodes t env (u ∷ us) [] h = absurd h
built-length nodes t env (u ∷ us) (a ∷ ats) h = let l = built-length nodes t env us ats h.1 in omega (arith, l)

pub built-inside : (nodes : Nodes) (t : Table) (env : Env) (us : List Term) (ats : List At) → AreBuilt nodes t env us ats → AllInTerms nodes ats
built-inside nodes t env [] [] h = λ k d l. absurd (omega (arith, l))
built-inside nodes t env [] (a ∷ ats) h = absurd h
built-inside nodes t env (u ∷ us) [] h = absurd h
built-inside nodes t env (u ∷ us) (a ∷ ats) h =
    All-cons (λ (b : At). HasTerm nodes b.0) a ats h.0.place.inside (built-inside nodes t env us ats h.1)

-- the parts of a pattern whose variables have cells
pub closed-cells : (nodes : Nodes) (t : Table) (env : Env) (h : Head) (us : List Term) → not_bound h ≡ true → HasCells nodes t (close env (app h us))
    → All (λ u. HasCells nodes t (close env u)) us
closed-cells nodes t env h us f c = each us (cells_apply nodes t (Con h) (map (close env) us) (subst (HasCells nodes t) (close_fixed env h us f) c)).1
  where
    each : (vs : List Term) → AllCells nodes t (map (close env) vs) → All (λ u. HasCells nodes t (close env u)) vs
    each [] k = λ i d l. absurd (omega (arith, l))
    each (v ∷ vs) k = All-cons (λ u. HasCells nodes t (close env u)) v vs k.0 (each vs k.1)
