-- How equations in front of others are settled.
use Rattle.std.proofs.Common.{◌≡◌, ℕ, zero, suc, ◌+◌, ◌<◌, ◌≤◌, Bool, true, false, List, [], ◌∷◌, ◌++◌, length, map, drop, get_or, All, refl, ap, sym, subst}
use Rattle.std.proofs.Common.{◌∙◌, arith, length-append}
use Rattle.std.specs.Prelude.{Option, None}
use Rattle.std.proofs.lemmas.List.{length-map, map-append}
use Rattle.std.proofs.lemmas.List.Elements.{All-head, All-tail, All-push}
use Rattle.ll_list_laws.proofs.CallerLemmas.{length-drop_same}
use Rattle.ll_bank.specs.declared.At.{At}
use Rattle.ll_bank.specs.Term.{Term, sub}
use Rattle.ll_bank.specs.Nodes.{Nodes, term_tree, term_trees}
use Rattle.ll_laws.specs.Unify.{Clash, and_then, diff, diff_lists, Solved}
use Rattle.ll_unify.specs.declared.meet.Pair.{Pair}
use Rattle.ll_unify.specs.declared.meet.Difference.TheVariants.{Same as SameLists, Clash as ClashLists, Meet as MeetLists}
use Rattle.ll_unify.specs.Spines.{args_in}
use Rattle.ll_unify.specs.Stacks.{is_empty, is_full}
use Rattle.ll_unify.specs.Bindings.{Table, KeepsCells, IsTable, Obeys, AreSame, Meets, count}
use Rattle.ll_unify.specs.Pairs.{IsPair, ArePairs, AreClasses, Alike, Opens, MeetsAt, IsDifference, lefts, rights}
use Rattle.ll_unify.specs.Solving.{Solves, Settled, Settles}
use Rattle.ll_unify.proofs.Alike.{diff-append, shape-length}
use Rattle.ll_unify.proofs.Pairs.{alike-equal, alike-open}
use Rattle.ll_unify.proofs.Solving.{solves-alike, solves-clash, solves-refused, solves-bound, met, awaits-bound, classes-bound}

-- ---- lists with others behind them

module _ (s : ℕ → Term) where
  diff-behind : (ls rs more others : List Term) → length ls ≡ length rs
      → diff_lists (map (sub s) (ls ++ more)) (map (sub s) (rs ++ others))
      ≡ and_then (diff_lists (map (sub s) ls) (map (sub s) rs)) (diff_lists (map (sub s) more) (map (sub s) others))
  diff-behind ls rs more others e =
      (λ i. diff_lists (map-append (sub s) ls more i) (map-append (sub s) rs others i))
      ∙ diff-append (map (sub s) ls) (map (sub s) rs) (map (sub s) more) (map (sub s) others) (length-map ls (sub s) ∙ (e ∙ sym (length-map rs (sub s))))

alike-behind : (nodes : Nodes) (t : Table) (ls rs ls2 rs2 more others : List Term) → length ls ≡ length rs → length ls2 ≡ length rs2
    → Alike nodes t ls rs ls2 rs2
    → Alike nodes t (ls ++ more) (rs ++ others) (ls2 ++ more) (rs2 ++ others)
alike-behind nodes t ls rs ls2 rs2 more others e f a s o =
    diff-behind s ls rs more others e
    ∙ (ap (λ d. and_then d (diff_lists (map (sub s) more) (map (sub s) others))) (a s o) ∙ sym (diff-behind s ls2 rs2 more others f))

-- as much is left of the left sides as of the right ones
even : (nodes : Nodes) (t : Table) (ps : List Pair) → All (IsPair nodes t) ps → length (lefts nodes ps) ≡ length (rights nodes ps)
even nodes t [] h = refl
even nodes t (p ∷ ps) h =
    let q = even nodes t ps (All-tail (IsPair nodes t) p ps h) in
    let r = length-drop_same p.next (args_in (term_tree nodes p.left.0)) (args_in (term_tree nodes p.right.0))
    (shape-length (term_tree nodes p.left.0) (term_tree nodes p.right.0) (All-head (IsPair nodes t) p ps h).shape) in
    length-append (lefts nodes ps) (drop p.next (args_in (term_tree nodes p.left.0)))
    ∙ ((let e : length (lefts nodes ps) + length (drop p.next (args_in (term_tree nodes p.left.0))) ≡ length (rights nodes ps)
    + length (drop p.next (args_in (term_tree nodes p.right.0))) = omega arith in e)
    ∙ sym (length-append (rights nodes ps) (drop p.next (args_in (term_tree nodes p.right.0)))))

all-pairs : (nodes : Nodes) (t : Table) (ps : List Pair) → ArePairs nodes t ps → All (IsPair nodes t) ps
all-pairs nodes t ps (is_empty e h) = subst (All (IsPair nodes t)) (sym e) (λ k d l. absurd (omega arith))
all-pairs nodes t ps (is_full qs q e h) = subst (All (IsPair nodes t)) (sym e) (All-push (IsPair nodes t) qs q h.pairs h.pair)

even-pairs : (nodes : Nodes) (t : Table) (ps : List Pair) → ArePairs nodes t ps → length (lefts nodes ps) ≡ length (rights nodes ps)
even-pairs nodes t ps h = even nodes t ps (all-pairs nodes t ps h)

-- ---- terms whose variables have cells

pub keeps-same : (nodes : Nodes) (t : Table) → KeepsCells nodes t t
keeps-same nodes t = record { terms = λ w h. h; bound = λ h. h }

pub keeps-then : (nodes : Nodes) (old now new : Table) → KeepsCells nodes old now → KeepsCells nodes now new → KeepsCells nodes old new
keeps-then nodes old now new h k = record { terms = λ w q. k.terms w (h.terms w q); bound = λ q. k.bound (h.bound q) }

-- ---- one equation

-- the two terms are the same
pub settled-same : (nodes : Nodes) (t : Table) (u v : Term) → IsTable nodes t → AreSame nodes t u v → Settled nodes t t (u ∷ []) (v ∷ [])
settled-same nodes t u v tb a = record {
  table = tb;
  count = refl;
  cells = keeps-same nodes t;
  solves = λ k goal more others h. solves-alike nodes t k goal (u ∷ more) (v ∷ others) more others tb (alike-equal nodes t u v more others a) h;
}

-- they clash
pub settles-clash : (nodes : Nodes) (t : Table) (u v : Term) → IsTable nodes t → ((s : ℕ → Term) → Obeys nodes t s → diff (sub s u) (sub s v) ≡ Clash)
    → Settles nodes t t (u ∷ []) (v ∷ []) false
settles-clash nodes t u v tb c k goal more others h =
    solves-clash nodes t k goal (u ∷ more) (v ∷ others) tb (λ s o. ap (λ d. and_then d (diff_lists (map (sub s) more) (map (sub s) others))) (c s o)) h

alike-meets : (nodes : Nodes) (t : Table) (u v : Term) (a b : At) (more others : List Term) → MeetsAt nodes t u v a b
    → Alike nodes t (u ∷ more) (v ∷ others) (term_tree nodes a.0 ∷ more) (term_tree nodes b.0 ∷ others)
alike-meets nodes t u v a b more others m s o =
    λ i. and_then (diff (sym (m.left s o) i) (sym (m.right s o) i)) (diff_lists (map (sub s) more) (map (sub s) others))

-- a variable meets a term
pub settles-meet : (nodes : Nodes) (old new : Table) (u v : Term) (a b : At) (good : Bool) → IsTable nodes old → MeetsAt nodes old u v a b
    → Meets nodes old new (term_tree nodes a.0) (term_tree nodes b.0) good
    → Settles nodes old new (u ∷ []) (v ∷ []) good
settles-meet nodes old new u v a b good tb m h = step good h
  where
    in-front : (k : ℕ) (goal : Option Solved) (more others : List Term) → Solves nodes old k goal (u ∷ more) (v ∷ others)
        → Solves nodes old k goal (term_tree nodes a.0 ∷ more) (term_tree nodes b.0 ∷ others)
    in-front k goal more others q =
        solves-alike nodes old k goal (u ∷ more) (v ∷ others) (term_tree nodes a.0 ∷ more) (term_tree nodes b.0 ∷ others) tb
        (alike-meets nodes old u v a b more others m) q

    step : (c : Bool) → Meets nodes old new (term_tree nodes a.0) (term_tree nodes b.0) c → Settles nodes old new (u ∷ []) (v ∷ []) c
    step false h = λ k goal more others q. solves-refused nodes old new k goal (term_tree nodes a.0) (term_tree nodes b.0) more others
        (in-front k goal more others q) h
    step true h =
        let r = met nodes old new (term_tree nodes a.0) (term_tree nodes b.0) h in record {
          table = r.2.table;
          count = ap length r.2.levels ∙ r.2.count;
          cells = r.2.cells;
          solves = λ k goal more others q. solves-bound nodes old new k goal (term_tree nodes a.0) (term_tree nodes b.0) more others r.2.table
              (in-front k goal more others q) h;
        }

-- classes stay classes
pub classes-meet : (nodes : Nodes) (old new : Table) (u v : Term) (ups : List ℕ) → Meets nodes old new u v true → AreClasses nodes old ups
    → AreClasses nodes new ups
classes-meet nodes old new u v ups h c = let r = met nodes old new u v h in classes-bound nodes old new u v r.0 ups r.2 c

-- applications of one head
pub settles-open : (nodes : Nodes) (old new : Table) (u v : Term) (a b : At) (good : Bool) → IsTable nodes old → Opens nodes old u v a b
    → Settles nodes old new (lefts nodes ([] ++ (record { left = a; right = b; next = 0 }) ∷ []))
    (rights nodes ([] ++ (record { left = a; right = b; next = 0 }) ∷ [])) good → Settles nodes old new (u ∷ []) (v ∷ []) good
settles-open nodes old new u v a b good tb o h = step good h
  where
    ps : List Pair
    ps = [] ++ (record { left = a; right = b; next = 0 }) ∷ []

    opened : (k : ℕ) (goal : Option Solved) (more others : List Term) → Solves nodes old k goal (u ∷ more) (v ∷ others)
        → Solves nodes old k goal (lefts nodes ps ++ more) (rights nodes ps ++ others)
    opened k goal more others q =
        solves-alike nodes old k goal (u ∷ more) (v ∷ others) (lefts nodes ps ++ more) (rights nodes ps ++ others) tb
        (alike-behind nodes old (u ∷ []) (v ∷ []) (lefts nodes ps) (rights nodes ps) more others refl
        (shape-length (term_tree nodes a.0) (term_tree nodes b.0) o.shape) (alike-open nodes old u v a b [] o)) q

    step : (c : Bool) → Settles nodes old new (lefts nodes ps) (rights nodes ps) c → Settles nodes old new (u ∷ []) (v ∷ []) c
    step true h = record {
      table = h.table;
      count = h.count;
      cells = h.cells;
      solves =
          λ k goal more others q. h.solves k goal more others (opened k goal more others q);
    }
    step false h = λ k goal more others q. h k goal more others (opened k goal more others q)

-- ---- pending pairs

-- pairs that were pending at first, and those that are left
pub record IsSettling (nodes : Nodes) (old now : Table) (first ps : List Pair) : Type 0 where
  pub table : IsTable nodes now
  pub count : count now ≡ count old
  pub cells : KeepsCells nodes old now
  pub pairs : ArePairs nodes now ps
  pub solves : (k : ℕ) (goal : Option Solved) (more others : List Term) → Solves nodes old k goal (lefts nodes first ++ more) (rights nodes first ++ others)
      → Solves nodes now k goal (lefts nodes ps ++ more) (rights nodes ps ++ others)

pub settling-start : (nodes : Nodes) (t : Table) (ps : List Pair) → IsTable nodes t → ArePairs nodes t ps → IsSettling nodes t t ps ps
settling-start nodes t ps tb h = record { table = tb; count = refl; cells = keeps-same nodes t; pairs = h; solves = λ k goal more others q. q }

-- nothing is left
pub settling-done : (nodes : Nodes) (old now : Table) (first ps next : List Pair) → IsSettling nodes old now first ps → IsDifference nodes now ps next SameLists
    → Settled nodes old now (lefts nodes first) (rights nodes first)
settling-done nodes old now first ps next h d = record {
  table = h.table;
  count = h.count;
  cells = h.cells;
  solves = λ k goal more others q. solves-alike nodes now k goal (lefts nodes ps ++ more) (rights nodes ps ++ others) more others h.table
      (alike-behind nodes now (lefts nodes ps) (rights nodes ps) [] [] more others (even-pairs nodes now ps h.pairs) refl d) (h.solves k goal more others q);
}

-- a clash
pub settling-clash : (nodes : Nodes) (old now : Table) (first ps next : List Pair) → IsSettling nodes old now first ps
    → IsDifference nodes now ps next ClashLists
    → Settles nodes old now (lefts nodes first) (rights nodes first) false
settling-clash nodes old now first ps next h d k goal more others q =
    solves-clash nodes now k goal (lefts nodes ps ++ more) (rights nodes ps ++ others) h.table
    (λ s o. diff-behind s (lefts nodes ps) (rights nodes ps) more others (even-pairs nodes now ps h.pairs)
    ∙ ap (λ e. and_then e (diff_lists (map (sub s) more) (map (sub s) others))) (d s o))
    (h.solves k goal more others q)

module _ (nodes : Nodes) (old now : Table) (first ps next : List Pair) (a b : At) (h : IsSettling nodes old now first ps)
    (d : IsDifference nodes now ps next (MeetLists a b)) where
  in-front : (k : ℕ) (goal : Option Solved) (more others : List Term) → Solves nodes old k goal (lefts nodes first ++ more) (rights nodes first ++ others)
      → Solves nodes now k goal (term_tree nodes a.0 ∷ (lefts nodes next ++ more)) (term_tree nodes b.0 ∷ (rights nodes next ++ others))
  in-front k goal more others q =
      solves-alike nodes now k goal (lefts nodes ps ++ more) (rights nodes ps ++ others) (term_tree nodes a.0 ∷ (lefts nodes next ++ more))
      (term_tree nodes b.0 ∷ (rights nodes next ++ others)) h.table
      (alike-behind nodes now (lefts nodes ps) (rights nodes ps) (term_tree nodes a.0 ∷ lefts nodes next) (term_tree nodes b.0 ∷ rights nodes next) more others
      (even-pairs nodes now ps h.pairs) (ap suc (even nodes now next d.rest.pairs)) d.alike) (h.solves k goal more others q)

  -- a variable that may not be bound
  pub settling-refused : (new : Table) → Meets nodes now new (term_tree nodes a.0) (term_tree nodes b.0) false
      → Settles nodes old new (lefts nodes first) (rights nodes first) false
  settling-refused new m k goal more others q =
      solves-refused nodes now new k goal (term_tree nodes a.0) (term_tree nodes b.0) (lefts nodes next ++ more) (rights nodes next ++ others)
      (in-front k goal more others q) m

  -- a variable that is bound
  pub settling-bound : (new : Table) → Meets nodes now new (term_tree nodes a.0) (term_tree nodes b.0) true → IsSettling nodes old new first next
  settling-bound new m =
      let r = met nodes now new (term_tree nodes a.0) (term_tree nodes b.0) m in record {
        table = r.2.table;
        count = ap length r.2.levels ∙ (r.2.count ∙ h.count);
        cells = keeps-then nodes old now new h.cells r.2.cells;
        pairs = awaits-bound nodes now new (term_tree nodes a.0) (term_tree nodes b.0) r.0 next r.2 d.rest;
        solves = λ k goal more others q.
            solves-bound nodes now new k goal (term_tree nodes a.0) (term_tree nodes b.0) (lefts nodes next ++ more) (rights nodes next ++ others) r.2.table
            (in-front k goal more others q) m;
      }

-- ---- lists of places

pub trees-drop : (nodes : Nodes) (ats : List At) (i : ℕ) (d : At) → i < length ats → d ≡ get_or ats i d
    → drop i (term_trees nodes ats) ≡ term_tree nodes d.0 ∷ drop (suc i) (term_trees nodes ats)
trees-drop nodes [] i d l e = absurd (omega arith)
trees-drop nodes (a ∷ ats) zero d l e = ap (λ (b : At). term_tree nodes b.0 ∷ term_trees nodes ats) (sym e)
trees-drop nodes (a ∷ ats) (suc i) d l e = trees-drop nodes ats i d (omega arith) e

pub trees-none : (nodes : Nodes) (ats : List At) (i : ℕ) → length ats ≤ i → drop i (term_trees nodes ats) ≡ []
trees-none nodes [] zero l = refl
trees-none nodes [] (suc i) l = refl
trees-none nodes (a ∷ ats) zero l = absurd (omega arith)
trees-none nodes (a ∷ ats) (suc i) l = trees-none nodes ats i (omega arith)

-- the next equation is settled
pub next-settled : (nodes : Nodes) (old now new : Table) (k : ℕ) (goal : Option Solved) (lefts rights : List At) (i j : ℕ) (a b : At)
    → i < length lefts → length lefts ≡ length rights → a ≡ get_or lefts i a → b ≡ get_or rights i b → j ≡ suc i
    → Solves nodes now k goal (drop i (term_trees nodes lefts)) (drop i (term_trees nodes rights))
    → Settled nodes now new (term_tree nodes a.0 ∷ []) (term_tree nodes b.0 ∷ [])
    → Solves nodes new k goal (drop j (term_trees nodes lefts)) (drop j (term_trees nodes rights))
next-settled nodes old now new k goal lefts rights i j a b l n ea eb q s h =
    subst (λ m. Solves nodes new k goal (drop m (term_trees nodes lefts)) (drop m (term_trees nodes rights))) (sym q)
    (h.solves k goal (drop (suc i) (term_trees nodes lefts)) (drop (suc i) (term_trees nodes rights))
    (subst (λ us. Solves nodes now k goal (term_tree nodes a.0 ∷ drop (suc i) (term_trees nodes lefts)) us) (trees-drop nodes rights i b (omega arith) eb)
    (subst (λ us. Solves nodes now k goal us (drop i (term_trees nodes rights))) (trees-drop nodes lefts i a l ea) s)))

-- the next equation has no solution
pub next-refused : (nodes : Nodes) (old now new : Table) (k : ℕ) (goal : Option Solved) (lefts rights : List At) (i : ℕ) (a b : At)
    → i < length lefts → length lefts ≡ length rights → a ≡ get_or lefts i a → b ≡ get_or rights i b
    → Solves nodes now k goal (drop i (term_trees nodes lefts)) (drop i (term_trees nodes rights))
    → Settles nodes now new (term_tree nodes a.0 ∷ []) (term_tree nodes b.0 ∷ []) false → goal ≡ None
next-refused nodes old now new k goal lefts rights i a b l n ea eb s h =
    h k goal (drop (suc i) (term_trees nodes lefts)) (drop (suc i) (term_trees nodes rights))
    (subst (λ us. Solves nodes now k goal (term_tree nodes a.0 ∷ drop (suc i) (term_trees nodes lefts)) us) (trees-drop nodes rights i b (omega arith) eb)
    (subst (λ us. Solves nodes now k goal us (drop i (term_trees nodes rights))) (trees-drop nodes lefts i a l ea) s))
