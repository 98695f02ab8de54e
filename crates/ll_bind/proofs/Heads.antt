-- How an atom is matched with the head of a clause.
use Rattle.std.proofs.Common.{◌≡◌, ℕ, suc, ◌+◌, ◌<◌, Bool, true, false, List, [], ◌∷◌, ◌++◌, length, map, drop, get_or, All, refl, ap, sym, subst, ◌∙◌}
use Rattle.std.proofs.Common.{arith, nat_eq}
use Rattle.std.specs.Prelude.{ℤ, not, ◌&&◌, reverse, slice_index, Option, Some, None, IsSome, option_map}
use Rattle.std.specs.Option.{option_to_list}
use Rattle.std.proofs.lemmas.Bool.{eq-eqb, ne_eqb, or_left, or_right}
use Rattle.std.proofs.Math.Bool.{and-false}
use Rattle.std.proofs.lemmas.List.{reverse-append, length-map, map-append, drop_all}
use Rattle.std.proofs.lemmas.List.Elements.{All-head, All-tail}
use Rattle.std.proofs.Math.Seq.{drop-cons}
use Rattle.ll_list_laws.proofs.CallerLemmas.{or_elim as or_cases}
use Rattle.ll_bank.specs.declared.At.{At}
use Rattle.ll_bank.specs.declared.Head.{Head}
use Rattle.ll_bank.specs.declared.Head.TheVariants.{Name, Eigen, Bound}
use Rattle.ll_bank.specs.Term.{Term, Var, Int, Con, Ap, Env, sub, app, apply, close, applies_heads, not_bound, occurs, same_predicate}
use Rattle.ll_bank.specs.Term.{head_eq}
use Rattle.ll_bank.specs.Nodes.{Nodes, HasTerm, AllInTerms, ShowsTerm, Extends, term_tree, term_trees}
use Rattle.ll_bank.proofs.CallerLemmas.{Extends-refl, Extends-trans, HasTerm-extends, term_tree-extends, close-apply, heads_args}
use Rattle.ll_bank.proofs.CallerLemmas.{length-term_trees}
use Rattle.ll_laws.specs.Unify.{and_then, diff, diff_lists, Solved, solve}
use Rattle.ll_laws.proofs.CallerLemmas.{head_eq-refl}
use Rattle.ll_unify.specs.declared.fresh.Fresh.{Fresh}
use Rattle.ll_unify.specs.Bindings.{Table, count, found, unbound, Reaches, stands, through, HasCells, KeepsCells, IsPlaceOf, IsTable, IsEnd, AreSame}
use Rattle.ll_unify.specs.Spines.{args_in, weight}
use Rattle.ll_unify.specs.Pairs.{Alike}
use Rattle.ll_unify.specs.Scanned.{is_bad}
use Rattle.ll_unify.specs.Fresh.{AreClear, AreFresh, LeavesFresh}
use Rattle.ll_unify.specs.Solving.{along, Solves, Settled, Settles, IsAnswer, wanted, spare}
use Rattle.ll_unify.proofs.CallerLemmas.{found-bound, found-extends, place-extends, args_in-app, weight-two}
use Rattle.ll_unify.proofs.CallerLemmas.{diff-spine, diff-clash, diff-append, shape-app, spine-place, clash-int-app, solves-alike, solves-none, solves-clash}
use Rattle.ll_unify.proofs.CallerLemmas.{solves-start, fresh-keeps, clear-args, clear-join, clear-same}
use Rattle.ll_store.specs.declared.store.Store.{Store}
use Rattle.ll_store.specs.Stored.{Stored, stored, KeepsMarks}
use Rattle.ll_store.specs.Trails.{Grows}
use Rattle.ll_store.proofs.CallerLemmas.{marks-grow, marks-extend}
use Rattle.ll_bind.specs.declared.head.Equation.{Equation}
use Rattle.ll_bind.specs.declared.head.Paired.{Paired}
use Rattle.ll_bind.specs.Heads.{terms_of, closed_of, equate, pending, IsEquation, AreEquations, AreOpened, AreApart, IsPaired}

-- ---- the stack

pub reversed : (items before : List Equation) (e : Equation) → items ≡ before ++ e ∷ [] → reverse items ≡ e ∷ reverse before
reversed items before e h = ap reverse h ∙ reverse-append before (e ∷ [])

-- the equation that a pop gives is next
pub popped : (r : Option Equation) (items before : List Equation) → items ≡ before ++ option_to_list r → (0 < length items → IsSome r)
    → pending r before ≡ reverse items
popped None [] before e h = refl
popped None (i ∷ is) before e h = let q = h (omega arith) in cc
popped (Some q) items before e h = sym (reversed items before q e)

-- no arguments
pub equate_empty : (ats cts : List At) (base : List Equation) → length ats ≡ length cts → length cts ≡ 0 → reverse base ≡ equate ats cts ++ reverse base
equate_empty [] [] base e n = refl
equate_empty [] (b ∷ cts) base e n = absurd (omega arith)
equate_empty (a ∷ ats) [] base e n = absurd (omega arith)
equate_empty (a ∷ ats) (b ∷ cts) base e n = absurd (omega arith)

-- the first arguments are next
pub equate_first : (ats cts : List At) (d : At) (base now : List Equation) (i : ℕ) → i ≡ 1 → 0 < length cts → length ats ≡ length cts
    → reverse now ≡ equate (drop i ats) (drop i cts) ++ reverse base
    → (record { place = get_or ats 0 d; pattern = get_or cts 0 d }) ∷ reverse now ≡ equate ats cts ++ reverse base
equate_first [] cts d base now i o l n h = absurd (omega arith)
equate_first (a ∷ ats) [] d base now i o l n h = absurd (omega arith)
equate_first (a ∷ ats) (b ∷ cts) d base now i o l n h = ap (λ z. (record { place = a; pattern = b }) ∷ z)
    (subst (λ j. reverse now ≡ equate (drop j (a ∷ ats)) (drop j (b ∷ cts)) ++ reverse base) o h)

equate_none : (ats cts : List At) (n : ℕ) → length ats ≡ n → equate (drop n ats) cts ≡ []
equate_none ats cts n e = ap (λ z. equate z cts) (drop_all n ats (omega arith))

pub equate_begin : (ats cts : List At) (base : List Equation) → length ats ≡ length cts
    → reverse base ≡ equate (drop (length cts) ats) (drop (length cts) cts) ++ reverse base
equate_begin ats cts base e = ap (λ z. z ++ reverse base) (sym (equate_none ats (drop (length cts) cts) (length cts) e))

pub equate_more : (ats cts : List At) (i j : ℕ) (d : At) (base now next : List Equation) → i ≡ j + 1 → j < length cts → length ats ≡ length cts
    → reverse now ≡ equate (drop i ats) (drop i cts) ++ reverse base
    → next ≡ now ++ (record { place = get_or ats j d; pattern = get_or cts j d }) ∷ [] → reverse next ≡ equate (drop j ats) (drop j cts) ++ reverse base
equate_more ats cts i j d base now next q l n h e =
    let x : Equation = record { place = get_or ats j d; pattern = get_or cts j d } in
    reversed next now x e
    ∙ (ap (λ z. x ∷ z) (h ∙ ap (λ m. equate (drop m ats) (drop m cts) ++ reverse base) (let k : i ≡ suc j = omega arith in k))
    ∙ (λ k. equate (sym (drop-cons ats j d (let m = n in omega arith)) k) (sym (drop-cons cts j d l) k) ++ reverse base))

-- ---- what equations show

module _ (nodes : Nodes) (env : Env) where
  terms_equate : (ats cts : List At) (es : List Equation) → length ats ≡ length cts
      → terms_of nodes (equate ats cts ++ es) ≡ term_trees nodes ats ++ terms_of nodes es
  terms_equate [] [] es n = refl
  terms_equate [] (b ∷ cts) es n = absurd (omega arith)
  terms_equate (a ∷ ats) [] es n = absurd (omega arith)
  terms_equate (a ∷ ats) (b ∷ cts) es n = ap (λ ts. term_tree nodes a.0 ∷ ts) (terms_equate ats cts es (omega arith))

  closed_equate : (ats cts : List At) (es : List Equation) → length ats ≡ length cts
      → closed_of nodes env (equate ats cts ++ es) ≡ map (close env) (term_trees nodes cts) ++ closed_of nodes env es
  closed_equate [] [] es n = refl
  closed_equate [] (b ∷ cts) es n = absurd (omega arith)
  closed_equate (a ∷ ats) [] es n = absurd (omega arith)
  closed_equate (a ∷ ats) (b ∷ cts) es n = ap (λ ts. close env (term_tree nodes b.0) ∷ ts) (closed_equate ats cts es (omega arith))

-- ---- variables of parts

module _ (nodes : Nodes) (t : Table) where
  reaches_head : (y : ℕ) (f a : Term) → Reaches nodes t y f → Reaches nodes t y (Ap f a)
  reaches_head y f a (stands w o) = stands (Ap f a) (or_left (occurs y f) (occurs y a) o)
  reaches_head y f a (through w x at o c r) = through (Ap f a) x at (or_left (occurs x f) (occurs x a) o) c r

  reaches_last : (y : ℕ) (f a : Term) → Reaches nodes t y a → Reaches nodes t y (Ap f a)
  reaches_last y f a (stands w o) = stands (Ap f a) (or_right (occurs y f) (occurs y a) o)
  reaches_last y f a (through w x at o c r) = through (Ap f a) x at (or_right (occurs x f) (occurs x a) o) c r

  abbrev pub AllCells : List Term → Type 0
  AllCells [] = Unit {0}
  AllCells (u ∷ us) = HasCells nodes t u × AllCells us

  pub cells_apply : (f : Term) (us : List Term) → HasCells nodes t (apply f us) → HasCells nodes t f × AllCells us
  cells_apply f [] h = (h, tt)
  cells_apply f (u ∷ us) h =
      let r = cells_apply (Ap f u) us h in (λ y q. r.0 y (reaches_head y f u q), (λ y q. r.0 y (reaches_last y f u q), r.1))

  -- and the other way round

  con_cells : (h : Head) → HasCells nodes t (Con h)
  con_cells h y (stands w o) = let f : false ≡ true = o in cc
  con_cells h y (through w x at o c r) = let f : false ≡ true = o in cc

  ap_cells : (f a : Term) → HasCells nodes t f → HasCells nodes t a → HasCells nodes t (Ap f a)
  ap_cells f a h k y (stands w o) = or_cases (occurs y f) (occurs y a) o (λ p. h y (stands f p)) (λ p. k y (stands a p))
  ap_cells f a h k y (through w x at o c r) =
      or_cases (occurs x f) (occurs x a) o (λ p. h y (through f x at p c r)) (λ p. k y (through a x at p c r))

  apply_cells : (f : Term) (us : List Term) → HasCells nodes t f → AllCells us → HasCells nodes t (apply f us)
  apply_cells f [] h k = h
  apply_cells f (u ∷ us) h k = apply_cells (Ap f u) us (ap_cells f u h k.0) k.1

  -- a head with arguments whose variables have cells
  pub app_cells : (h : Head) (us : List Term) → AllCells us → HasCells nodes t (app h us)
  app_cells h us k = apply_cells (Con h) us (con_cells h) k

  args_equations : (env : Env) (ats cts : List At) (es : List Equation) → AllInTerms nodes ats → AllInTerms nodes cts
      → AllCells (term_trees nodes ats) → All (λ u. applies_heads u ≡ true) (map (close env) (term_trees nodes cts))
      → AllCells (map (close env) (term_trees nodes cts)) → AreEquations nodes t env es
      → AreEquations nodes t env (equate ats cts ++ es)
  args_equations env [] cts es la lc cm hb cb k = k
  args_equations env (a ∷ ats) [] es la lc cm hb cb k = k
  args_equations env (a ∷ ats) (b ∷ cts) es la lc cm hb cb k = (
    record {
      place = record { inside = All-head (λ (x : At). HasTerm nodes x.0) a ats la; vars = cm.0 };
      inside = All-head (λ (x : At). HasTerm nodes x.0) b cts lc;
      heads = All-head (λ u. applies_heads u ≡ true) (close env (term_tree nodes b.0)) (map (close env) (term_trees nodes cts)) hb;
      vars = cb.0;
    },
    args_equations env ats cts es (All-tail (λ (x : At). HasTerm nodes x.0) a ats la) (All-tail (λ (x : At). HasTerm nodes x.0) b cts lc) cm.1
        (All-tail (λ u. applies_heads u ≡ true) (close env (term_tree nodes b.0)) (map (close env) (term_trees nodes cts)) hb) cb.1 k,
  )

-- ---- a head that is closed

pub close_fixed : (env : Env) (h : Head) (ts : List Term) → not_bound h ≡ true → close env (app h ts) ≡ app h (map (close env) ts)
close_fixed env (Name n) ts e = close-apply env (Con (Name n)) ts
close_fixed env (Eigen n) ts e = close-apply env (Con (Eigen n)) ts
close_fixed env (Bound n) ts e = cc

-- a place that is still an end where the bank grew
pub end_more : (old new : Nodes) (t : Table) (at : ℕ) → IsTable old t → Extends old new → IsEnd old t at → IsEnd new t at
end_more old new t at tb e h = record {
  place = place-extends old new t at tb e h.place;
  free = λ x q. h.free x (sym (term_tree-extends e at h.place.inside) ∙ q);
}

pub fixed : (h : Head) (b : Bool) → b ≡ not (not_bound h) → b ≡ false → not_bound h ≡ true
fixed (Name n) b e f = refl
fixed (Eigen n) b e f = refl
fixed (Bound n) b e f = cc

length_closed : (nodes : Nodes) (env : Env) (cts : List At) → length (map (close env) (term_trees nodes cts)) ≡ length cts
length_closed nodes env cts = length-map (term_trees nodes cts) (close env) ∙ length-term_trees nodes cts

-- two heads, or two numbers of arguments
module _ (nodes : Nodes) (h k : Head) (ats cts : List At) (f : not_bound k ≡ true) where
  pub apart_heads : head_eq h k ≡ false → AreApart (app h (term_trees nodes ats)) (app k (term_trees nodes cts))
  apart_heads e env s =
      let u = app h (term_trees nodes ats) in let v = close env (app k (term_trees nodes cts)) in let r = close_fixed env k (term_trees nodes cts) f in
      diff-clash s u v (spine-place u h (term_trees nodes ats) refl) (spine-place v k (map (close env) (term_trees nodes cts)) r)
      (shape-app u v h k (term_trees nodes ats) (map (close env) (term_trees nodes cts)) refl r
      ∙ ap (λ b. b && nat_eq (length (term_trees nodes ats)) (length (map (close env) (term_trees nodes cts)))) e)

  pub apart_lengths : (length ats ≡ length cts → ⊥) → AreApart (app h (term_trees nodes ats)) (app k (term_trees nodes cts))
  apart_lengths n env s =
      let u = app h (term_trees nodes ats) in let v = close env (app k (term_trees nodes cts)) in let r = close_fixed env k (term_trees nodes cts) f in
      diff-clash s u v (spine-place u h (term_trees nodes ats) refl) (spine-place v k (map (close env) (term_trees nodes cts)) r)
      (shape-app u v h k (term_trees nodes ats) (map (close env) (term_trees nodes cts)) refl r
      ∙ (ap (λ b. head_eq h k && b) (ne_eqb (length (term_trees nodes ats)) (length (map (close env) (term_trees nodes cts)))
      (λ e. n (sym (length-term_trees nodes ats) ∙ (e ∙ length_closed nodes env cts)))) ∙ and-false (head_eq h k)))

-- a number
pub apart_int : (nodes : Nodes) (u v : Term) (z : ℤ) (k : Head) (cts : List At) → not_bound k ≡ true → u ≡ Int z → v ≡ app k (term_trees nodes cts)
    → AreApart u v
apart_int nodes u v z k cts f p q env s =
    clash-int-app u (close env v) z k (map (close env) (term_trees nodes cts)) s p (ap (close env) q ∙ close_fixed env k (term_trees nodes cts) f)

-- ---- a bank that grew

module _ (old new : Nodes) (t : Table) (tb : IsTable old t) (e : Extends old new) where
  reaches_back : (y : ℕ) (u : Term) → Reaches new t y u → Reaches old t y u
  reaches_back y u (stands w o) = stands w o
  reaches_back y u (through w x at o c r) =
      through w x at o c (subst (Reaches old t y) (term_tree-extends e at.0 (tb.places x at c)) (reaches_back y (term_tree new at.0) r))

  pub cells_more : (u : Term) → HasCells old t u → HasCells new t u
  cells_more u h y r = h y (reaches_back y u r)

  founds : found old t ≡ found new t
  founds i x = sym (found-extends old new t tb e x) i

  pub solves_more : (k : ℕ) (goal : Option Solved) (ls rs : List Term) → Solves old t k goal ls rs → Solves new t k goal ls rs
  solves_more k goal ls rs h =
      subst (λ (f : ℕ → Term). goal ≡ option_map (along f) (solve (unbound t.bound + k) (map (sub f) ls) (map (sub f) rs) t.levels)) founds h

  pub fresh_more : (f : Fresh) (us : List Term) → AreFresh old t f us → AreFresh new t f us
  fresh_more f us h x i b =
      let n = h x i b in record {
        own = subst (λ (g : ℕ → Term). g x ≡ Var x) founds n.own;
        others = subst (λ (g : ℕ → Term). (y : ℕ) → (y ≡ x → ⊥) → is_bad x (slice_index t.levels x) (g y) ≡ false) founds n.others;
        terms = subst (λ (g : ℕ → Term). AreClear g x (slice_index t.levels x) us) founds n.terms;
        newest = n.newest;
      }

  equation_more : (env : Env) (q : Equation) → IsEquation old t env q → IsEquation new t env q
  equation_more env q h = record {
    place = place-extends old new t q.place.0 tb e h.place;
    inside = HasTerm-extends e q.pattern.0 h.inside;
    heads = ap (λ u. applies_heads (close env u)) (term_tree-extends e q.pattern.0 h.inside) ∙ h.heads;
    vars = subst (λ u. HasCells new t (close env u)) (sym (term_tree-extends e q.pattern.0 h.inside))
        (cells_more (close env (term_tree old q.pattern.0)) h.vars);
  }

  pub equations_more : (env : Env) (es : List Equation) → AreEquations old t env es → AreEquations new t env es
  equations_more env [] h = tt
  equations_more env (q ∷ es) h = (equation_more env q h.0, equations_more env es h.1)

  pub terms_more : (env : Env) (es : List Equation) → AreEquations old t env es → terms_of old es ≡ terms_of new es
  terms_more env [] h = refl
  terms_more env (q ∷ es) h = λ i. sym (term_tree-extends e q.place.0 h.0.place.inside) i ∷ terms_more env es h.1 i

  pub closed_more : (env : Env) (es : List Equation) → AreEquations old t env es → closed_of old env es ≡ closed_of new env es
  closed_more env [] h = refl
  closed_more env (q ∷ es) h = λ i. close env (sym (term_tree-extends e q.pattern.0 h.0.inside) i) ∷ closed_more env es h.1 i

  -- a place that was made, or found
  pub place_made : (at : ℕ) (u : Term) → ShowsTerm new at u → HasCells old t u → IsPlaceOf new t at
  place_made at u s h = record { inside = s.inside; vars = subst (HasCells new t) (sym s.tree) (cells_more u h) }

-- good marks of a store whose bank grew and whose cells changed
pub marks_then : (a b c : Stored) → KeepsMarks a b → KeepsMarks b c → KeepsMarks a c
marks_then a b c h k m g =
    let p = h m g in let q = k m p.good in record { good = q.good; state = q.state ∙ p.state }

pub marks_same : (s : Stored) → KeepsMarks s s
marks_same s m g = record { good = g; state = refl }

pub marks_more : (old new : Store) → Extends old.bank new.bank → Grows old.cells new.cells → KeepsMarks (stored old) (stored new)
marks_more old new e g =
    let mid : Stored = record { nodes = new.bank; cells = old.cells.cells; changes = old.cells.changes } in
    marks_then (stored old) mid (stored new) (marks-extend (stored old) new.bank e) (marks-grow mid (stored new) g.more refl g.changes g.back)

pub marks_bank : (old new : Store) → Extends old.bank new.bank → new.cells ≡ old.cells → KeepsMarks (stored old) (stored new)
marks_bank old new e same =
    subst (λ cs. KeepsMarks (stored old) (record { nodes = new.bank; cells = cs.cells; changes = cs.changes })) (sym same)
    (marks-extend (stored old) new.bank e)

-- the equations are those of a later table
keep_cells : (nodes : Nodes) (old new : Table) (env : Env) (es : List Equation) → KeepsCells nodes old new → AreEquations nodes old env es
    → AreEquations nodes new env es
keep_cells nodes old new env [] k h = tt
keep_cells nodes old new env (q ∷ es) k h = (
  record {
    place = record { inside = h.0.place.inside; vars = k.terms (term_tree nodes q.place.0) h.0.place.vars };
    inside = h.0.inside;
    heads = h.0.heads;
    vars = k.terms (close env (term_tree nodes q.pattern.0)) h.0.vars;
  },
  keep_cells nodes old new env es k h.1,
)

-- ---- matching

-- what holds while equations are pending, the next one first
pub record IsMatching (first nodes : Nodes) (start now : Table) (goal : Option Solved) (f : Fresh) (env : Env) (es : List Equation) : Type 0 where
  pub extends : Extends first nodes
  pub table : IsTable nodes now
  pub same_count : count now ≡ count start
  pub equations : AreEquations nodes now env es
  pub solves : Solves nodes now (spare start) goal (terms_of nodes es) (closed_of nodes env es)
  pub fresh : AreFresh nodes now f (terms_of nodes es)

-- the next equation is this one
pub matching_top : {first nodes : Nodes} {start now : Table} {goal : Option Solved} {f : Fresh} {env : Env} (items : List Equation) (o : Option Equation)
    (q : Equation) → o ≡ Some q
    → IsMatching first nodes start now goal f env (pending o items) → IsMatching first nodes start now goal f env (q ∷ reverse items)
matching_top {first} {nodes} {start} {now} {goal} {f} {env} items o q e h =
    subst (λ z. IsMatching first nodes start now goal f env (pending z items)) e h

-- nothing is next
pub matching_over : {first nodes : Nodes} {start now : Table} {goal : Option Solved} {f : Fresh} {env : Env} (items : List Equation)
    (o : Option Equation) → o ≡ None
    → IsMatching first nodes start now goal f env (pending o items) → IsMatching first nodes start now goal f env []
matching_over {first} {nodes} {start} {now} {goal} {f} {env} items o e h =
    subst (λ z. IsMatching first nodes start now goal f env (pending z items)) e h

-- what became of terms is what became of terms that are the same
pub paired_terms : (nodes : Nodes) (u v w x : Term) (old new : List Equation) (r : Paired) → u ≡ w → v ≡ x → IsPaired nodes w x old new r
    → IsPaired nodes u v old new r
paired_terms nodes u v w x old new r p q h =
    subst (λ y. IsPaired nodes y v old new r) (sym p) (subst (λ y. IsPaired nodes w y old new r) (sym q) h)

-- a term and a pattern of one head come first, and then their arguments do
module _ (nodes : Nodes) (now : Table) (env : Env) (u v : Term) (es old new : List Equation) (next : Option Equation) (o : AreOpened nodes u v old new next)
    (below : reverse old ≡ es) where
  shut : close env v ≡ app o.head (map (close env) (term_trees nodes o.patterns))
  shut = ap (close env) o.shape ∙ close_fixed env o.head (term_trees nodes o.patterns) o.fixed

  even_trees : length (term_trees nodes o.places) ≡ length (map (close env) (term_trees nodes o.patterns))
  even_trees = length-term_trees nodes o.places ∙ (o.even ∙ sym (length_closed nodes env o.patterns))

  predicate : same_predicate u (close env v) ≡ true
  predicate =
      shape-app u (close env v) o.head o.head (term_trees nodes o.places) (map (close env) (term_trees nodes o.patterns)) o.term shut
      ∙ (λ i. head_eq-refl o.head i && eq-eqb (length (term_trees nodes o.places)) (length (map (close env) (term_trees nodes o.patterns))) even_trees i)

  opens_alike : Alike nodes now (u ∷ terms_of nodes es) (close env v ∷ closed_of nodes env es)
      (term_trees nodes o.places ++ terms_of nodes es) (map (close env) (term_trees nodes o.patterns) ++ closed_of nodes env es)
  opens_alike s ob =
      ap (λ d. and_then d (diff_lists (map (sub s) (terms_of nodes es)) (map (sub s) (closed_of nodes env es))))
      (diff-spine s u (close env v) predicate
      ∙ (λ i. diff_lists (map (sub s) ((ap args_in o.term ∙ args_in-app o.head (term_trees nodes o.places)) i))
      (map (sub s) ((ap args_in shut ∙ args_in-app o.head (map (close env) (term_trees nodes o.patterns))) i))))
      ∙ (sym (diff-append (map (sub s) (term_trees nodes o.places)) (map (sub s) (map (close env) (term_trees nodes o.patterns)))
      (map (sub s) (terms_of nodes es)) (map (sub s) (closed_of nodes env es))
      (length-map (term_trees nodes o.places) (sub s) ∙ (even_trees ∙ sym (length-map (map (close env) (term_trees nodes o.patterns)) (sub s)))))
      ∙ (λ i. diff_lists (sym (map-append (sub s) (term_trees nodes o.places) (terms_of nodes es)) i)
      (sym (map-append (sub s) (map (close env) (term_trees nodes o.patterns)) (closed_of nodes env es)) i)))

  matching_pairs : (first : Nodes) (start : Table) (goal : Option Solved) (f : Fresh) → Extends first nodes → IsTable nodes now → count now ≡ count start
      → HasCells nodes now u → applies_heads (close env v) ≡ true → HasCells nodes now (close env v) → AreEquations nodes now env es
      → Solves nodes now (spare start) goal (u ∷ terms_of nodes es) (close env v ∷ closed_of nodes env es) → AreFresh nodes now f (u ∷ terms_of nodes es)
      → IsMatching first nodes start now goal f env (pending next new)
  matching_pairs first start goal f extends table same cells heads vars others solves fresh =
      subst (IsMatching first nodes start now goal f env) (sym (o.pushed ∙ ap (λ z. equate o.places o.patterns ++ z) below)) (record {
        extends = extends;
        table = table;
        same_count = same;
        equations = args_equations nodes now env o.places o.patterns es o.places_inside o.patterns_inside
            (cells_apply nodes now (Con o.head) (term_trees nodes o.places) (subst (HasCells nodes now) o.term cells)).1
            (heads_args (Con o.head) (map (close env) (term_trees nodes o.patterns)) (ap applies_heads (sym shut) ∙ heads))
            (cells_apply nodes now (Con o.head) (map (close env) (term_trees nodes o.patterns)) (subst (HasCells nodes now) shut vars)).1 others;
        solves = (let ts = term_trees nodes o.places ++ terms_of nodes es in
            subst (λ ls. Solves nodes now (spare start) goal ls (closed_of nodes env (equate o.places o.patterns ++ es)))
            (sym (terms_equate nodes env o.places o.patterns es o.even))
            (subst (Solves nodes now (spare start) goal ts) (sym (closed_equate nodes env o.places o.patterns es o.even))
            (solves-alike nodes now (spare start) goal (u ∷ terms_of nodes es) (close env v ∷ closed_of nodes env es) ts
            (map (close env) (term_trees nodes o.patterns) ++ closed_of nodes env es) table opens_alike solves)));
        fresh = subst (AreFresh nodes now f) (sym (terms_equate nodes env o.places o.patterns es o.even))
            (fresh-keeps nodes now f (u ∷ terms_of nodes es) (term_trees nodes o.places ++ terms_of nodes es)
            (λ x l c. clear-join (found nodes now) x l (term_trees nodes o.places) (terms_of nodes es)
            (subst (AreClear (found nodes now) x l) (ap args_in o.term ∙ args_in-app o.head (term_trees nodes o.places))
            (clear-args (found nodes now) x l u c.0)) c.1) fresh);
      })

-- ---- a sign with arguments against the head of a clause

module _ (nodes : Nodes) (start : Table) (env : Env) (u v : Term) (tb : IsTable nodes start) where
  -- their arguments are matched first
  pub matching_begins : (f : Fresh) (new : List Equation) (next : Option Equation) → AreOpened nodes u v [] new next → HasCells nodes start u
      → applies_heads (close env v) ≡ true → HasCells nodes start (close env v) → AreFresh nodes start f (u ∷ [])
      → IsMatching nodes nodes start start (wanted nodes start (u ∷ []) (close env v ∷ [])) f env (pending next new)
  matching_begins f new next o cells heads vars fresh =
      matching_pairs nodes start env u v [] [] new next o refl nodes start (wanted nodes start (u ∷ []) (close env v ∷ [])) f (Extends-refl nodes) tb refl
      cells heads vars tt (solves-start nodes start (u ∷ []) (close env v ∷ []) tb) fresh

  -- or nothing makes them equal
  pub matching_apart : AreApart u v → wanted nodes start (u ∷ []) (close env v ∷ []) ≡ None
  matching_apart a =
      solves-clash nodes start (spare start) (wanted nodes start (u ∷ []) (close env v ∷ [])) (u ∷ []) (close env v ∷ []) tb
      (λ s ob. ap (λ d. and_then d (diff_lists [] [])) (a env s)) (solves-start nodes start (u ∷ []) (close env v ∷ []) tb)

-- the variables of a head with arguments at places have cells
pub cells_given : (nodes : Nodes) (t : Table) (h : Head) (ats : List At) → All (λ (a : At). IsPlaceOf nodes t a.0) ats
    → HasCells nodes t (app h (term_trees nodes ats))
cells_given nodes t h ats k = app_cells nodes t h (term_trees nodes ats) (each ats k)
  where
    each : (bts : List At) → All (λ (b : At). IsPlaceOf nodes t b.0) bts → AllCells nodes t (term_trees nodes bts)
    each [] l = tt
    each (b ∷ bts) l =
        ((All-head (λ (x : At). IsPlaceOf nodes t x.0) b bts l).vars, each bts (All-tail (λ (x : At). IsPlaceOf nodes t x.0) b bts l))

module _ {first nodes : Nodes} {start now : Table} {goal : Option Solved} {f : Fresh} {env : Env} {q : Equation} {es : List Equation}
    (m : IsMatching first nodes start now goal f env (q ∷ es)) (end : At) (en : IsEnd nodes now end.0)
    (same : AreSame nodes now (term_tree nodes end.0) (term_tree nodes q.place.0)) where
  abbrev pattern_tree : Term
  pattern_tree = close env (term_tree nodes q.pattern.0)

  -- ---- two terms that clash

  pub matching_clashes : AreApart (term_tree nodes end.0) (term_tree nodes q.pattern.0) → goal ≡ None
  matching_clashes a =
      solves-clash nodes now (spare start) goal (term_tree nodes q.place.0 ∷ terms_of nodes es) (pattern_tree ∷ closed_of nodes env es) m.table
      (λ s ob. ap (λ d. and_then d (diff_lists (map (sub s) (terms_of nodes es)) (map (sub s) (closed_of nodes env es))))
      ((λ i. diff (sym (same s ob) i) (sub s pattern_tree)) ∙ a env s)) m.solves

  -- ---- a pattern that is closed

  pub meets_heads : applies_heads pattern_tree ≡ true
  meets_heads = m.equations.0.heads

  pub meets_vars : HasCells nodes now pattern_tree
  meets_vars = m.equations.0.vars

  at_end : Alike nodes now (term_tree nodes q.place.0 ∷ terms_of nodes es) (pattern_tree ∷ closed_of nodes env es) (term_tree nodes end.0 ∷ terms_of nodes es)
      (pattern_tree ∷ closed_of nodes env es)
  at_end s ob = λ i. and_then (diff (sym (same s ob) i) (sub s pattern_tree))
      (diff_lists (map (sub s) (terms_of nodes es)) (map (sub s) (closed_of nodes env es)))

  fresh_end : AreFresh nodes now f (term_tree nodes end.0 ∷ terms_of nodes es)
  fresh_end = fresh-keeps nodes now f (term_tree nodes q.place.0 ∷ terms_of nodes es) (term_tree nodes end.0 ∷ terms_of nodes es)
      (λ x l c. clear-same (found nodes now) x l (term_tree nodes q.place.0) (term_tree nodes end.0) (terms_of nodes es)
      (same (found nodes now) (λ x at e. found-bound nodes now x at m.table e)) c) m.fresh

  -- ---- two terms of one head

  pub matching_opens : (old new : List Equation) (next : Option Equation) → AreOpened nodes (term_tree nodes end.0) (term_tree nodes q.pattern.0) old new next
      → reverse old ≡ es → IsMatching first nodes start now goal f env (pending next new)
  matching_opens old new next o below =
      matching_pairs nodes now env (term_tree nodes end.0) (term_tree nodes q.pattern.0) es old new next o below first start goal f m.extends m.table
      m.same_count en.place.vars m.equations.0.heads m.equations.0.vars m.equations.1
      (solves-alike nodes now (spare start) goal (term_tree nodes q.place.0 ∷ terms_of nodes es) (pattern_tree ∷ closed_of nodes env es)
      (term_tree nodes end.0 ∷ terms_of nodes es) (pattern_tree ∷ closed_of nodes env es) m.table at_end m.solves) fresh_end

  pub meets_fresh : AreFresh nodes now f (term_tree nodes end.0 ∷ [])
  meets_fresh = fresh-keeps nodes now f (term_tree nodes end.0 ∷ terms_of nodes es) (term_tree nodes end.0 ∷ []) (λ x l c. (c.0, tt)) fresh_end

  module _ (next : Nodes) (new : Table) (e : Extends nodes next) where
    grown : Solves next now (spare start) goal (term_tree nodes end.0 ∷ terms_of nodes es) (pattern_tree ∷ closed_of nodes env es)
    grown =
        solves_more nodes next now m.table e (spare start) goal (term_tree nodes end.0 ∷ terms_of nodes es) (pattern_tree ∷ closed_of nodes env es)
        (solves-alike nodes now (spare start) goal (term_tree nodes q.place.0 ∷ terms_of nodes es) (pattern_tree ∷ closed_of nodes env es)
        (term_tree nodes end.0 ∷ terms_of nodes es) (pattern_tree ∷ closed_of nodes env es) m.table at_end m.solves)

    pub matching_refused : Settles next now new (term_tree nodes end.0 ∷ []) (pattern_tree ∷ []) false → goal ≡ None
    matching_refused h = h (spare start) goal (terms_of nodes es) (closed_of nodes env es) grown

    pub matching_meets : (g : Fresh) → Settled next now new (term_tree nodes end.0 ∷ []) (pattern_tree ∷ [])
        → LeavesFresh next now new f g (term_tree nodes end.0 ∷ []) []
        → IsMatching first next start new goal g env es
    matching_meets g s l =
        let ts = terms_more nodes next now m.table e env es m.equations.1 in
        let cs = closed_more nodes next now m.table e env es m.equations.1 in
        record {
          extends = Extends-trans m.extends e;
          table = s.table;
          same_count = s.count ∙ m.same_count;
          equations = keep_cells next now new env es s.cells (equations_more nodes next now m.table e env es m.equations.1);
          solves = (
              subst (λ ls. Solves next new (spare start) goal ls (closed_of next env es)) ts
              (subst (λ rs. Solves next new (spare start) goal (terms_of nodes es) rs) cs
              (s.solves (spare start) goal (terms_of nodes es) (closed_of nodes env es) grown)));
          fresh = subst (AreFresh next new g) ts (l (terms_of nodes es)
              (fresh_more nodes next now m.table e f (term_tree nodes end.0 ∷ terms_of nodes es) fresh_end));
        }

-- nothing is pending
pub matching_ends : {first nodes : Nodes} {start now : Table} {goal : Option Solved} {f : Fresh} {env : Env}
    → IsMatching first nodes start now goal f env [] → IsAnswer nodes start now goal
matching_ends {first} {nodes} {start} {now} {goal} m = record {
  is = solves-none nodes now (spare start) goal m.solves;
  table = m.table;
  same_count = m.same_count;
}

-- ---- the weight of what is pending

abbrev pub patterns_weight : Nodes → List Equation → ℕ
patterns_weight nodes [] = 0
patterns_weight nodes (q ∷ es) = weight (term_tree nodes q.pattern.0) + patterns_weight nodes es

abbrev trees_weight : List Term → ℕ
trees_weight [] = 0
trees_weight (u ∷ us) = weight u + trees_weight us

weight_apply : (f : Term) (us : List Term) → weight (apply f us) ≡ weight f + trees_weight us
weight_apply f [] = omega arith
weight_apply f (u ∷ us) = let e = weight_apply (Ap f u) us in omega arith

weight_equate : (nodes : Nodes) (ats cts : List At) (es : List Equation) → length ats ≡ length cts
    → patterns_weight nodes (equate ats cts ++ es) ≡ trees_weight (term_trees nodes cts) + patterns_weight nodes es
weight_equate nodes [] [] es n = omega arith
weight_equate nodes [] (b ∷ cts) es n = absurd (omega arith)
weight_equate nodes (a ∷ ats) [] es n = absurd (omega arith)
weight_equate nodes (a ∷ ats) (b ∷ cts) es n = let e = weight_equate nodes ats cts es (omega arith) in omega arith

pub weight_opens : (nodes : Nodes) (u : Term) (q : Equation) (old new : List Equation) (next : Option Equation)
    → AreOpened nodes u (term_tree nodes q.pattern.0) old new next
    → patterns_weight nodes (pending next new) < patterns_weight nodes (q ∷ reverse old)
weight_opens nodes u q old new next o =
    let a = ap (patterns_weight nodes) o.pushed in
    let b = weight_equate nodes o.places o.patterns (reverse old) o.even in
    let d = ap weight o.shape ∙ weight_apply (Con o.head) (term_trees nodes o.patterns) in
    omega arith

pub weight_meets : (nodes next : Nodes) (t : Table) (env : Env) (q : Equation) (es : List Equation) → Extends nodes next → AreEquations nodes t env es
    → patterns_weight next es < patterns_weight nodes (q ∷ es)
weight_meets nodes next t env q es e h =
    let a = same es h in
    let w = weight-two (term_tree nodes q.pattern.0) in omega arith
  where
    same : (fs : List Equation) → AreEquations nodes t env fs → patterns_weight next fs ≡ patterns_weight nodes fs
    same [] k = refl
    same (p ∷ fs) k = λ i. weight (term_tree-extends e p.pattern.0 k.0.inside i) + same fs k.1 i
