-- What the calls of an index answer.
use Rattle.std.proofs.Common.{◌≡◌, ◌≢◌, ◌<◌, ◌≤◌, ℕ, ◌+◌, Bool, true, false, List, [], ◌∷◌, length, map, refl, ap, sym, subst, ◌∙◌, arith, nat_eq}
use Rattle.std.specs.Prelude.{if◌then◌else◌, not, min, slice_get, slice_index, slice_index_or, Option, Some, None, option_map}
use Rattle.std.proofs.lemmas.List.{length-map}
use Rattle.std.proofs.lemmas.Option.{slice_get-map, slice_get_within, slice_get-get_or}
use Rattle.std.proofs.lemmas.Bool.{eq-eqb, ne_eqb}
use Rattle.ll_bank.specs.declared.Head.{Head}
use Rattle.ll_bank.specs.declared.Head.TheVariants.{Name, Eigen, Bound}
use Rattle.ll_bank.specs.Nodes.{Nodes, term_tree}
use Rattle.ll_bank.specs.Term.{Term, head_of, arity}
use Rattle.ll_laws.specs.Module.{ClauseTree}
use Rattle.ll_index.specs.contracts.laws.FirstPartialEq.TheImpl.{eq-value as first_eq}
use Rattle.ll_index.specs.declared.laws.First.{First}
use Rattle.ll_index.specs.declared.laws.First.TheVariants.{Open, Int as IntSign, Head as NameSign}
use Rattle.ll_index.specs.declared.key.Key.{Key}
use Rattle.ll_index.specs.declared.key.Key.TheVariants.{Named}
use Rattle.ll_index.specs.declared.rows.Row.{Row}
use Rattle.ll_index.specs.declared.leaves.Leaf.{Leaf}
use Rattle.ll_index.specs.declared.chains.Chains.{Chains}
use Rattle.ll_index.specs.declared.index.Index.{Index}
use Rattle.ll_index.specs.declared.index.Cursor.{Cursor}
use Rattle.ll_index.specs.First.{first_of, program_matches}
use Rattle.ll_index.specs.Listed.{listed, program_leaves, IsStored}
use Rattle.ll_index.specs.Chained.{first_from, links_from, linked_from, behind}
use Rattle.ll_index.specs.Keys.{key_eq, named_key, key_of, first_place, leaf_keys, IsChained}
use Rattle.ll_index.specs.Rows.{row_at, row_from, without_sign, has_sign, IsPassed}
use Rattle.ll_index.specs.Index.{IsIndex, IsProgramLeaf, IsFoundAt, ListsMatches, chains_of, left}
use Rattle.ll_index.proofs.ChainLemmas.{linked-kept, linked-next, linked-none, length-links, index-same}
use Rattle.ll_index.proofs.PlaceLemmas.{walk-begins, walk-goes, walk-finds, walk-ends}
use Rattle.ll_index.proofs.RowLemmas.{RowSays, row-says}
use Rattle.ll_index.proofs.Matching.{FoundBySign, program_kept, same_key, in_clause}

-- leaves are found by their sign where one is asked for
pub found_by : (first : First) (by_sign : Bool) → by_sign ≡ not ((first_eq).it first Open) → FoundBySign by_sign first
found_by Open true e = cc
found_by Open false e = refl
found_by (IntSign z) true e = λ q. cc
found_by (IntSign z) false e = cc
found_by (NameSign n k) true e = λ q. cc
found_by (NameSign n k) false e = cc

module _ (nodes : Nodes) (program : List ClauseTree) (x : Index) (is : IsIndex nodes program x) where
  chained : (by_sign : Bool) → IsChained (leaf_keys nodes by_sign x.leaves.items) (chains_of x by_sign)
  chained true = is.signs
  chained false = is.predicates

  -- the leaves that can match an atom
  pub candidates-left : (a : Term) (name arguments end : ℕ) (first : First) (c : Cursor) → head_of a ≡ Some (Name name) → arity a ≡ arguments
      → FoundBySign c.by_sign first → end ≡ length x.leaves.items
      → c.first ≡ first_place (chains_of x c.by_sign) (Named name arguments first) end
      → c.second ≡ first_place (chains_of x c.by_sign) (Named name arguments Open) end
      → map (λ l. l.candidate) (left x c) ≡ program_matches first a program
  candidates-left a name arguments end first c head count found last p q =
      let keys = leaf_keys nodes c.by_sign x.leaves.items in
      let ch = chained c.by_sign in
      let sizes : length keys ≡ length x.leaves.items = length-map x.leaves.items _ in
      let all : end ≡ length keys = last ∙ sym sizes in
      let p' : c.first ≡ first_from key_eq 0 keys (Named name arguments first) =
      p ∙ (ap (first_place (chains_of x c.by_sign) (Named name arguments first)) all ∙ ch.first (Named name arguments first)) in
      let q' : c.second ≡ first_from key_eq 0 keys (Named name arguments Open) =
      q ∙ (ap (first_place (chains_of x c.by_sign) (Named name arguments Open)) all ∙ ch.first (Named name arguments Open)) in
      ap (λ ns. map (λ l. l.candidate) (linked_from 0 x.leaves.items ns c.first c.second)) ch.next
      ∙ (ap (λ i. map (λ l. l.candidate) (linked_from 0 x.leaves.items (links_from key_eq 0 keys) i c.second)) p'
      ∙ (ap (λ i. map (λ l. l.candidate) (linked_from 0 x.leaves.items (links_from key_eq 0 keys) (first_from key_eq 0 keys (Named name arguments first)) i)) q'
      ∙ (ap (map (λ l. l.candidate)) (linked-kept key_eq same_key keys x.leaves.items (Named name arguments first) (Named name arguments Open) sizes)
      ∙ program_kept a name arguments first c.by_sign head count found (listed nodes x.premises) (λ l. refl) keys x.leaves.items program refl is.leaves)))

  -- a leaf of the index
  pub program_leaf : (p : ℕ) (l : Leaf) → slice_get x.leaves.items p ≡ Some l → IsProgramLeaf nodes program x.premises l
  program_leaf p l h =
      let at : slice_get (program_leaves 0 program) p ≡ Some (listed nodes x.premises l) =
      ap (λ xs. slice_get xs p) (sym is.leaves) ∙ (slice_get-map (listed nodes x.premises) x.leaves.items p ∙ ap (option_map (listed nodes x.premises)) h) in
      let w = in_clause program p (listed nodes x.premises l) at in
      let inside = slice_get_within x.leaves.items p l h in
      let read : Some (slice_index_or x.leaves.items p l) ≡ Some l = sym (slice_get-get_or x.leaves.items p l inside) ∙ h in
      let here : slice_index_or x.leaves.items p l ≡ l = cc in
      record {
        stored = subst (IsStored nodes x.premises) here (is.stored p l inside);
        clause = w.clause;
        at = w.at;
        way = w.way;
        opened = w.opened;
      }

-- ---- one leaf after another

module _ (x : Index) (c : Cursor) (place : ℕ) (is : place ≡ min c.first c.second) where
  even : (b : Bool) → length (chains_of x b).next.items ≡ length x.leaves.items
  even true = x.by_sign
  even false = x.by_predicate

  -- past the end there is none
  pub next-none : length x.leaves.items ≤ place → left x c ≡ []
  next-none h = linked-none x.leaves.items (chains_of x c.by_sign).next.items c.first c.second (omega arith)

  -- and otherwise the leaf at the lesser place
  pub next-left : (l : Leaf) (n first second : ℕ) → place < length x.leaves.items → l ≡ slice_index_or x.leaves.items place l
      → n ≡ slice_index_or (chains_of x c.by_sign).next.items place n
      → first ≡ behind place n c.first → second ≡ behind place n c.second
      → left x c ≡ l ∷ left x (record { by_sign = c.by_sign; first = first; second = second })
  next-left l n first second inside leaf link f s =
      let ns = (chains_of x c.by_sign).next.items in
      let same = even c.by_sign in
      let within : place < length ns = omega arith in
      let rises = (chains_of x c.by_sign).rising place within in
      let read : slice_index ns place ≡ n = index-same ns place n within ∙ sym link in
      let up : place < n = let r = rises.0 in omega arith in
      linked-next x.leaves.items ns c.first c.second place l n (sym is) (slice_get-get_or x.leaves.items place l inside ∙ ap (λ z. Some z) (sym leaf))
      (slice_get-get_or ns place n within ∙ ap (λ z. Some z) (sym link)) up
      ∙ (ap (λ i. l ∷ linked_from 0 x.leaves.items ns i (behind place n c.second)) (sym f) ∙ ap (λ i. l ∷ linked_from 0 x.leaves.items ns first i) (sym s))

-- ---- how an index is made

key-without_sign : (t : Term) → key_of false t ≡ without_sign (key_of true t)
key-without_sign t = by (head_of t)
  where
    by : (o : Option Head) → named_key o (arity t) Open ≡ without_sign (named_key o (arity t) (first_of t))
    by None = refl
    by (Some (Name n)) = refl
    by (Some (Eigen n)) = refl
    by (Some (Bound n)) = refl

keys-without_sign : (nodes : Nodes) (ls : List Leaf) → leaf_keys nodes false ls ≡ map without_sign (leaf_keys nodes true ls)
keys-without_sign nodes [] = refl
keys-without_sign nodes (l ∷ ls) = λ i. key-without_sign (term_tree nodes l.head.0) i ∷ keys-without_sign nodes ls i

-- the keys of leaves and their chains
pub record AreChained (leaves : List Leaf) (keys : List Key) (predicates signs : Chains) : Type 0 where
  pub by_predicate : length predicates.next.items ≡ length leaves
  pub by_sign : length signs.next.items ≡ length leaves
  pub by_key : length keys ≡ length leaves
  pub chained : IsChained (map without_sign keys) predicates
  pub signed : IsChained keys signs

length-chained : (keys : List Key) (ch : Chains) → IsChained keys ch → length ch.next.items ≡ length keys
length-chained keys ch is = ap length is.next ∙ length-links key_eq 0 keys

pub chained_by : (nodes : Nodes) (leaves : List Leaf) (ps keys : List Key) (predicates signs : Chains) → ps ≡ leaf_keys nodes false leaves
    → keys ≡ leaf_keys nodes true leaves → IsChained ps predicates → IsChained keys signs → AreChained leaves keys predicates signs
chained_by nodes leaves ps keys predicates signs p k a b =
    let n : length (leaf_keys nodes false leaves) ≡ length leaves = length-map leaves _ in
    let m : length (leaf_keys nodes true leaves) ≡ length leaves = length-map leaves _ in
    record {
      by_predicate = length-chained ps predicates a ∙ (ap length p ∙ n);
      by_sign = length-chained keys signs b ∙ (ap length k ∙ m);
      by_key = ap length k ∙ m;
      chained = subst (λ ks. IsChained ks predicates) (p ∙ (keys-without_sign nodes leaves ∙ ap (map without_sign) (sym k))) a;
      signed = b;
    }

-- ---- where an index finds the leaves for an atom

module _ (x : Index) where
  first-predicate : (key : Key) → first_place x.predicates key (length x.keys.items) ≡ first_from key_eq 0 (map without_sign x.keys.items) key
  first-predicate key = ap (first_place x.predicates key) (sym (length-map x.keys.items without_sign)) ∙ x.chained.first key

  first-sign : (key : Key) → first_place x.signs key (length x.keys.items) ≡ first_from key_eq 0 x.keys.items key
  first-sign key = x.signed.first key

  module _ (name arguments : ℕ) (first : First) where
    -- a walk along the chain of a predicate begins at its first leaf
    pub begins : (from : ℕ) → from ≡ first_place x.predicates (Named name arguments Open) (length x.keys.items)
        → IsPassed x.keys.items name arguments first from
    begins from e = walk-begins x.keys.items name arguments first from (e ∙ first-predicate (Named name arguments Open))

    got : (at : ℕ) (k : Key) → at < length x.keys.items → k ≡ slice_index_or x.keys.items at k → slice_get x.keys.items at ≡ Some k
    got at k h read = slice_get-get_or x.keys.items at k h ∙ ap (λ z. Some z) (sym read)

    -- goes on
    pub goes : (at n : ℕ) (k : Key) → IsPassed x.keys.items name arguments first at → at < length x.keys.items → k ≡ slice_index_or x.keys.items at k
        → has_sign first k ≡ false → n ≡ slice_index_or x.predicates.next.items at n → IsPassed x.keys.items name arguments first n
    goes at n k p h read sign link =
        let a = x.by_key in
        let b = x.by_predicate in
        let l = length-map x.keys.items without_sign in
        walk-goes x.keys.items name arguments first at n x.predicates.next.items k x.chained.next p (got at k h read) sign
        (link ∙ sym (index-same x.predicates.next.items at n (omega arith)))

    -- and ends at the first leaf of the sign
    pub finds : (at : ℕ) (k : Key) → IsPassed x.keys.items name arguments first at → at < length x.keys.items → k ≡ slice_index_or x.keys.items at k
        → has_sign first k ≡ true → at ≡ first_place x.signs (Named name arguments first) (length x.keys.items)
    finds at k p h read sign = walk-finds x.keys.items name arguments first at k p (got at k h read) sign ∙ sym (first-sign (Named name arguments first))

    pub ends : (at : ℕ) → IsPassed x.keys.items name arguments first at → length x.keys.items ≤ at
        → at ≡ first_place x.signs (Named name arguments first) (length x.keys.items)
    ends at p h = walk-ends x.keys.items name arguments first at p h ∙ sym (first-sign (Named name arguments first))

    -- what a cursor there lists
    pub found-matches : (end : ℕ) (c : Cursor) → end ≡ length x.leaves.items → IsFoundAt x name arguments first end c → ListsMatches x name arguments first c
    found-matches end c last f nodes program atom is head count =
        candidates-left nodes program x is atom name arguments end first c head count (found_by first c.by_sign f.by_sign) last f.own f.second

    module _ (end : ℕ) (last : end ≡ length x.leaves.items) (row : Row) (is : row ≡ row_at x.rows.items end name) (unmixed : row.mixed ≡ false) where
      all : end ≡ length x.keys.items
      all = last ∙ sym x.by_key

      says : RowSays 0 x.keys.items name row
      says =
          let e : row ≡ row_from 0 x.keys.items name = is ∙ (ap (λ n. row_at x.rows.items n name) all ∙ x.named name) in
          subst (RowSays 0 x.keys.items name) (sym e) (row-says 0 x.keys.items name (ap (λ (r : Row). r.mixed) (sym e) ∙ unmixed))

      none : 0 + length x.keys.items ≡ end
      none = let a = all in omega arith

      by-predicate : (b : Bool) → nat_eq arguments row.arity ≡ b → first_place x.predicates (Named name arguments Open) end ≡ (if b then row.first else end)
      by-predicate b e =
          ap (first_place x.predicates (Named name arguments Open)) all
          ∙ (first-predicate (Named name arguments Open) ∙ (says.first arguments ∙ (ap (λ n. if nat_eq arguments row.arity then row.first else n) none
          ∙ ap (λ (d : Bool). if d then row.first else end) e)))

      by-signless : (b : Bool) → nat_eq arguments row.arity ≡ b → first_place x.signs (Named name arguments Open) end ≡ (if b then row.signless else end)
      by-signless b e =
          ap (first_place x.signs (Named name arguments Open)) all
          ∙ (first-sign (Named name arguments Open) ∙ (says.signless arguments ∙ (ap (λ n. if nat_eq arguments row.arity then row.signless else n) none
          ∙ ap (λ (d : Bool). if d then row.signless else end) e)))

      by-other : nat_eq arguments row.arity ≡ false → first_place x.signs (Named name arguments first) end ≡ end
      by-other e =
          ap (first_place x.signs (Named name arguments first)) all ∙ (first-sign (Named name arguments first) ∙ (says.other arguments first e ∙ none))

      -- there is no leaf of a name that has none with so many arguments
      pub found-none : (by_sign : Bool) → by_sign ≡ not ((first_eq).it first Open) → arguments ≢ row.arity
          → IsFoundAt x name arguments first end (record { by_sign = by_sign; first = end; second = end })
      found-none by_sign e n = by by_sign e
        where
          other : nat_eq arguments row.arity ≡ false
          other = ne_eqb arguments row.arity n

          by : (b : Bool) → b ≡ not ((first_eq).it first Open)
              → IsFoundAt x name arguments first end (record { by_sign = b; first = end; second = end })
          by true h = record { by_sign = h; own = sym (by-other other); second = sym (by-signless false other) }
          by false h =
              let s = sym (by-predicate false other) in
              record { by_sign = h; own = s ∙ ap (λ f. first_place x.predicates (Named name arguments f) end) (sym (found_by first false h)); second = s }

      -- all leaves of a predicate
      pub found-all : (by_sign : Bool) → by_sign ≡ not ((first_eq).it first Open) → by_sign ≡ false → arguments ≡ row.arity
          → IsFoundAt x name arguments first end (record { by_sign = by_sign; first = row.first; second = row.first })
      found-all by_sign e none_asked n = by by_sign e none_asked
        where
          by : (b : Bool) → b ≡ not ((first_eq).it first Open) → b ≡ false
              → IsFoundAt x name arguments first end (record { by_sign = b; first = row.first; second = row.first })
          by true h z = cc
          by false h z =
              let s = sym (by-predicate true (eq-eqb arguments row.arity n)) in
              record { by_sign = h; own = s ∙ ap (λ f. first_place x.predicates (Named name arguments f) end) (sym (found_by first false h)); second = s }

      -- the walk of a predicate begins there
      pub row-first : arguments ≡ row.arity → row.first ≡ first_place x.predicates (Named name arguments Open) (length x.keys.items)
      row-first n = sym (by-predicate true (eq-eqb arguments row.arity n)) ∙ ap (first_place x.predicates (Named name arguments Open)) all

      -- those of a sign and those whose sign clashes with none
      pub found-sign : (by_sign : Bool) (own : ℕ) → by_sign ≡ not ((first_eq).it first Open) → by_sign ≡ true → arguments ≡ row.arity
          → own ≡ first_place x.signs (Named name arguments first) end
          → IsFoundAt x name arguments first end (record { by_sign = by_sign; first = own; second = row.signless })
      found-sign by_sign own e asked n o = by by_sign e asked
        where
          by : (b : Bool) → b ≡ not ((first_eq).it first Open) → b ≡ true
              → IsFoundAt x name arguments first end (record { by_sign = b; first = own; second = row.signless })
          by false h z = cc
          by true h z = record { by_sign = h; own = o; second = sym (by-signless true (eq-eqb arguments row.arity n)) }

      -- where it is known by the number of all keys
      pub found-walk : (by_sign : Bool) (own : ℕ) → by_sign ≡ not ((first_eq).it first Open) → by_sign ≡ true → arguments ≡ row.arity
          → own ≡ first_place x.signs (Named name arguments first) (length x.keys.items)
          → IsFoundAt x name arguments first end (record { by_sign = by_sign; first = own; second = row.signless })
      found-walk by_sign own e asked n o = found-sign by_sign own e asked n (o ∙ ap (first_place x.signs (Named name arguments first)) (sym all))
