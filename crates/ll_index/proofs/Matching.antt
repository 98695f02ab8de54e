-- What a cursor lists, against the candidates of the search.
use Rattle.std.proofs.Common.{◌≡◌, ◌≢◌, inl, inr, ℕ, zero, suc, ◌+◌, ◌-◌, Bool, true, false, List, [], ◌∷◌, ◌++◌, length, map, filter, refl, ap, sym, ◌∙◌}
use Rattle.std.proofs.Common.{arith, nat_eq}
use Rattle.std.specs.Prelude.{◌||◌, ◌&&◌, not, ◌⊎◌, if◌then◌else◌, slice_get, Option, Some, None, option_map, flat_map, nat_lt}
use Rattle.std.specs.Ordering.{int_eq}
use Rattle.std.proofs.lemmas.Bool.{eqb-true, eq-eqb, and_parts, and_from, or_left, or_right, not_from_false, ltb-true, ltb-false}
use Rattle.std.proofs.lemmas.Bool.Decides.{Decides-int_eq}
use Rattle.std.proofs.lemmas.List.{map-append}
use Rattle.std.proofs.lemmas.List.Concat.{flat_map-cons}
use Rattle.std.proofs.lemmas.List.Elements.{filter-append}
use Rattle.std.proofs.lemmas.Option.{slice_get-map}
use Rattle.ll_list_laws.proofs.CallerLemmas.{same_from_both_ways as same-bools, false_from_not as not-false, true_from_not, or_elim as or_cases}
use Rattle.ll_list_laws.proofs.CallerLemmas.{slice_get-append_left as get_left, slice_get-append_right as get_right}
use Rattle.ll_bank.specs.declared.Head.{Head}
use Rattle.ll_bank.specs.declared.Head.TheVariants.{Name, Eigen, Bound}
use Rattle.ll_bank.specs.Term.{Term, close, head_of, arity, same_head, same_predicate}
use Rattle.ll_bank.specs.Form.{Form}
use Rattle.ll_laws.specs.declared.Kind.{Kind}
use Rattle.ll_laws.specs.declared.Kind.TheVariants.{Linear, Unbounded}
use Rattle.ll_laws.specs.declared.Candidate.{Candidate}
use Rattle.ll_laws.specs.Module.{ClauseTree}
use Rattle.ll_laws.specs.Leaf.{ways, leaf}
use Rattle.ll_laws.specs.Settle.{Entry}
use Rattle.ll_laws.specs.Attempt.{is_linear, is_open, fits_head, leaf_head, leaf_tries, vars_from}
use Rattle.ll_laws.specs.Search.{program_entries}
use Rattle.ll_laws.proofs.CallerLemmas.{length-vars}
use Rattle.ll_index.specs.declared.laws.First.{First}
use Rattle.ll_index.specs.declared.laws.First.TheVariants.{Open, Int as IntSign, Head as NameSign}
use Rattle.ll_index.specs.contracts.laws.FirstPartialEq.TheImpl.{eq-value as first_eq}
use Rattle.ll_index.specs.declared.key.Key.{Key}
use Rattle.ll_index.specs.declared.key.Key.TheVariants.{Unnamed, Named}
use Rattle.ll_index.specs.declared.leaves.Leaf.{Leaf}
use Rattle.ll_index.specs.Standing.{StandingLeaf, standing_leaves, env_under, opened_leaf}
use Rattle.ll_index.specs.First.{name_sign, first_of, signs_clash, first_if_leaf, leaf_first, entry_matches, program_matches}
use Rattle.ll_index.specs.Listed.{Listed, numbered, program_leaves}
use Rattle.ll_index.specs.Keys.{named_key, key_of, key_eq}
use Rattle.ll_index.proofs.StandingLaws.{leaves_stand, leaves_open}
use Rattle.ll_index.proofs.FirstLaws.{alike_under, no_env, close-name, close-arity}
use Rattle.ll_index.proofs.ChainLemmas.{kept}

-- ---- keys

pub first_same : (x y : First) → (first_eq).it x y ≡ true → x ≡ y
first_same Open Open e = refl
first_same (IntSign y) (IntSign z) e = ap IntSign ((Decides-int_eq y z).0 e)
first_same (NameSign n k) (NameSign m j) e = let p = and_parts (nat_eq n m) (nat_eq k j) e in λ i. NameSign (eqb-true n m p.0 i) (eqb-true k j p.1 i)
first_same _ _ e = cc

pub first_refl : (x : First) → (first_eq).it x x ≡ true
first_refl Open = refl
first_refl (IntSign y) = (Decides-int_eq y y).1 refl
first_refl (NameSign n k) = and_from (nat_eq n n) (nat_eq k k) (eq-eqb n n refl) (eq-eqb k k refl)

pub same_key : (x y : Key) → key_eq x y ≡ true → x ≡ y
same_key Unnamed Unnamed e = refl
same_key (Named n k f) (Named m j g) e =
    let p = and_parts (nat_eq n m) (nat_eq k j && (first_eq).it f g) e in
    let q = and_parts (nat_eq k j) ((first_eq).it f g) p.1 in
    λ i. Named (eqb-true n m p.0 i) (eqb-true k j q.0 i) (first_same f g q.1 i)
same_key _ _ e = cc

pub key_refl : (x : Key) → key_eq x x ≡ true
key_refl Unnamed = refl
key_refl (Named n k f) = and_from (nat_eq n n) (nat_eq k k && (first_eq).it f f) (eq-eqb n n refl)
    (and_from (nat_eq k k) ((first_eq).it f f) (eq-eqb k k refl) (first_refl f))

-- ---- one leaf: its key is asked for where its head matches

-- the sign by which a leaf is found
abbrev pub sign_by : Bool → Term → First
sign_by by_sign h = if by_sign then first_of h else Open

-- the key of a head that has this name and so many arguments
record HasKey (h : Term) (by_sign : Bool) (name arguments : ℕ) (first : First) : Type 0 where
  head : head_of h ≡ Some (Name name)
  count : arity h ≡ arguments
  sign : sign_by by_sign h ≡ first

read_key : (o : Option Head) (n m k : ℕ) (f g : First) → named_key o n f ≡ Named m k g → (o ≡ Some (Name m)) × (n ≡ k) × (f ≡ g)
read_key (Some (Name j)) n m k f g e = let a : j ≡ m = cc in let b : n ≡ k = cc in let d : f ≡ g = cc in (ap (λ i. Some (Name i)) a, b, d)
read_key (Some (Eigen j)) n m k f g e = cc
read_key (Some (Bound j)) n m k f g e = cc
read_key None n m k f g e = cc

has_key : (h : Term) (by_sign : Bool) (name arguments : ℕ) (first : First) → key_eq (key_of by_sign h) (Named name arguments first) ≡ true
    → HasKey h by_sign name arguments first
has_key h by_sign name arguments first e =
    let r = read_key (head_of h) (arity h) name arguments (if by_sign then first_of h else Open) first
    (same_key (key_of by_sign h) (Named name arguments first) e) in
    record { head = r.0; count = r.1; sign = r.2 }

found_key : (h : Term) (by_sign : Bool) (name arguments : ℕ) (first : First) → HasKey h by_sign name arguments first
    → key_eq (key_of by_sign h) (Named name arguments first) ≡ true
found_key h by_sign name arguments first w =
    let s : First = if by_sign then first_of h else Open in
    ap (λ o. key_eq (named_key o (arity h) s) (Named name arguments first)) w.head
    ∙ (ap (λ k. key_eq (Named name k s) (Named name arguments first)) w.count
    ∙ (ap (λ f. key_eq (Named name arguments f) (Named name arguments first)) w.sign ∙ key_refl (Named name arguments first)))

-- signs that do not clash
no-clash : (first s : First) → signs_clash first s ≡ false → (first ≢ Open) → (s ≡ first) ⊎ (s ≡ Open)
no-clash Open s h n = absurd (n refl)
no-clash (IntSign y) (IntSign z) h n = inl (ap IntSign (sym ((Decides-int_eq y z).0 (true_from_not (int_eq y z) h))))
no-clash (IntSign y) Open h n = inr refl
no-clash (IntSign y) (NameSign m j) h n = cc
no-clash (NameSign m k) Open h n = inr refl
no-clash (NameSign m k) (IntSign z) h n = cc
no-clash (NameSign m k) (NameSign i j) h n =
    let p = and_parts (nat_eq m i) (nat_eq k j) (true_from_not (nat_eq m i && nat_eq k j) h) in
    inl (λ z. NameSign (sym (eqb-true m i p.0) z) (sym (eqb-true k j p.1) z))

clash-self : (first : First) → signs_clash first first ≡ false
clash-self Open = refl
clash-self (IntSign y) = ap not ((Decides-int_eq y y).1 refl)
clash-self (NameSign n k) = ap not (and_from (nat_eq n n) (nat_eq k k) (eq-eqb n n refl) (eq-eqb k k refl))

clash-open : (first : First) → signs_clash first Open ≡ false
clash-open Open = refl
clash-open (IntSign y) = refl
clash-open (NameSign n k) = refl

-- leaves are found by their sign wherever one is asked for
abbrev pub FoundBySign : Bool → First → Type 0
FoundBySign true first = first ≢ Open
FoundBySign false first = first ≡ Open

-- the sign of a leaf that is found
sign_found : (by_sign : Bool) (first : First) (h : Term) → FoundBySign by_sign first → (sign_by by_sign h ≡ first) ⊎ (sign_by by_sign h ≡ Open)
    → signs_clash first (first_of h) ≡ false
sign_found true first h f (inl e) = ap (signs_clash first) e ∙ clash-self first
sign_found true first h f (inr e) = ap (signs_clash first) e ∙ clash-open first
sign_found false first h f e = ap (λ (x : First). signs_clash x (first_of h)) f

sign_kept : (by_sign : Bool) (first : First) (h : Term) → FoundBySign by_sign first → signs_clash first (first_of h) ≡ false
    → (sign_by by_sign h ≡ first) ⊎ (sign_by by_sign h ≡ Open)
sign_kept true first h f e = no-clash first (first_of h) e f
sign_kept false first h f e = inr refl

-- whether a leaf is found
abbrev pub finds : Bool → ℕ → ℕ → First → Term → Bool
finds by_sign name arguments first h = key_eq (key_of by_sign h) (Named name arguments first) || key_eq (key_of by_sign h) (Named name arguments Open)

-- a name as head, by the sign that it gives
abbrev pub name_is : ℕ → First → Bool
name_is m (NameSign n k) = nat_eq m n
name_is m _ = false

same_head-name : (m k : ℕ) (o : Option Head) → same_head (Some (Name m)) o ≡ name_is m (name_sign o k)
same_head-name m k (Some (Name n)) = refl
same_head-name m k (Some (Eigen n)) = refl
same_head-name m k (Some (Bound n)) = refl
same_head-name m k None = refl

heads-same : (m : ℕ) (o : Option Head) → same_head (Some (Name m)) o ≡ true → o ≡ Some (Name m)
heads-same m (Some (Name n)) h = ap (λ i. Some (Name i)) (sym (eqb-true m n h))
heads-same m (Some (Eigen n)) h = cc
heads-same m (Some (Bound n)) h = cc
heads-same m None h = cc

-- one leaf more, kept on both sides or on none
leaf-step : {X Y : Type 0} (p : X → Bool) (f : Y → X) (q : Y → Bool) (x : X) (xs : List X) (y : Y) (ys : List Y) (fits : Bool) → x ≡ f y → q y ≡ fits && p x
    → filter p xs ≡ map f (filter q ys)
    → filter p (if fits then x ∷ xs else xs) ≡ map f (filter q (y ∷ ys))
leaf-step p f q x xs y ys true e t h = ap (λ (b : Bool). if b then x ∷ filter p xs else filter p xs) (sym t) ∙ by (q y)
  where
    by : (b : Bool) → (if b then x ∷ filter p xs else filter p xs) ≡ map f (if b then y ∷ filter q ys else filter q ys)
    by true = λ i. e i ∷ h i
    by false = h
leaf-step p f q x xs y ys false e t h = h ∙ ap (λ (b : Bool). map f (if b then y ∷ filter q ys else filter q ys)) (sym t)

pub open_first : (k : Kind) → not (is_linear k) || is_linear k ≡ true
open_first Linear = refl
open_first Unbounded = refl

-- an atom's predicate and sign, against the head of a leaf with n quantifiers on its way
module _ (a : Term) (name arguments : ℕ) (first : First) (by_sign : Bool) (head : head_of a ≡ Some (Name name)) (count : arity a ≡ arguments)
    (found : FoundBySign by_sign first) where
  abbrev pub has_predicate : (h : Term) → Bool
  has_predicate h = same_head (Some (Name name)) (head_of h) && nat_eq arguments (arity h)

  -- opening a head with variables does not change its predicate
  opened-predicate : (n : ℕ) (h : Term) → same_predicate a (close (env_under [] (vars_from 0 n)) h) ≡ has_predicate h
  opened-predicate n h =
      let e = env_under [] (vars_from 0 n) in
      let alike = alike_under [] [] 0 0 n no_env in
      ap (λ o. same_head o (head_of (close e h)) && nat_eq (arity a) (arity (close e h))) head
      ∙ (ap (λ k. same_head (Some (Name name)) (head_of (close e h)) && nat_eq k (arity (close e h))) count
      ∙ (ap (λ k. same_head (Some (Name name)) (head_of (close e h)) && nat_eq arguments k) (close-arity e e alike h)
      ∙ ap (λ b. b && nat_eq arguments (arity h)) (same_head-name name 0 (head_of (close e h))
      ∙ (ap (name_is name) (close-name e e alike h 0) ∙ sym (same_head-name name 0 (head_of h))))))

  finds-matches : (h : Term) → finds by_sign name arguments first h ≡ has_predicate h && not (signs_clash first (first_of h))
  finds-matches h = same-bools (finds by_sign name arguments first h) (has_predicate h && not (signs_clash first (first_of h))) forth back
    where
      from : (f : First) → HasKey h by_sign name arguments f → (sign_by by_sign h ≡ first) ⊎ (sign_by by_sign h ≡ Open)
          → has_predicate h && not (signs_clash first (first_of h)) ≡ true
      from f w s =
          and_from (has_predicate h) (not (signs_clash first (first_of h)))
          (and_from (same_head (Some (Name name)) (head_of h)) (nat_eq arguments (arity h)) (ap (same_head (Some (Name name))) w.head ∙ eq-eqb name name refl)
          (eq-eqb arguments (arity h) (sym w.count)))
          (not_from_false (signs_clash first (first_of h)) (sign_found by_sign first h found s))

      forth : finds by_sign name arguments first h ≡ true → has_predicate h && not (signs_clash first (first_of h)) ≡ true
      forth e =
          or_cases (key_eq (key_of by_sign h) (Named name arguments first)) (key_eq (key_of by_sign h) (Named name arguments Open)) e
          (λ p. let w = has_key h by_sign name arguments first p in from first w (inl w.sign)) (λ p. let w = has_key h by_sign name arguments Open p in
          from Open w (inr w.sign))

      back : has_predicate h && not (signs_clash first (first_of h)) ≡ true → finds by_sign name arguments first h ≡ true
      back e =
          let p = and_parts (has_predicate h) (not (signs_clash first (first_of h))) e in
          let q = and_parts (same_head (Some (Name name)) (head_of h)) (nat_eq arguments (arity h)) p.0 in
          let named = heads-same name (head_of h) q.0 in
          let counted : arity h ≡ arguments = sym (eqb-true arguments (arity h) q.1) in
          elim (sign_kept by_sign first h found (not-false (signs_clash first (first_of h)) p.1)) [
            | inl s ↦ or_left (key_eq (key_of by_sign h) (Named name arguments first)) (key_eq (key_of by_sign h) (Named name arguments Open))
                (found_key h by_sign name arguments first (record { head = named; count = counted; sign = s }))
            | inr s ↦ or_right (key_eq (key_of by_sign h) (Named name arguments first)) (key_eq (key_of by_sign h) (Named name arguments Open))
                (found_key h by_sign name arguments Open (record { head = named; count = counted; sign = s }))
          ]

  -- ---- the leaves of a clause

  abbrev pub finds_leaf : Listed → Bool
  finds_leaf x = finds by_sign name arguments first x.standing.head

  module _ (label : ℕ) (e : Entry Form) (same : e.label ≡ label) where
    abbrev pub keeps : Candidate → Bool
    keeps c = not (signs_clash first (leaf_first e.clause c.leaf))

    -- leaf k is tried, and is kept, where it is found
    leaf_tried : (k : ℕ) (l : StandingLeaf) → slice_get (standing_leaves e.clause) k ≡ Some l
        → (fits_head a (leaf_head e.clause k l.quantifiers) ≡ has_predicate l.head) × (leaf_first e.clause k ≡ first_of l.head)
    leaf_tried k l at =
        let opened = leaves_open e.clause k (vars_from 0 l.quantifiers) l at (length-vars 0 l.quantifiers) in
        (ap (λ o. fits_head a (option_map (λ z. z.head) o)) opened ∙ opened-predicate l.quantifiers l.head, ap first_if_leaf at)

    leaves_kept : (k : ℕ) (xs : List StandingLeaf) → ((j : ℕ) (l : StandingLeaf) → slice_get xs j ≡ Some l
        → slice_get (standing_leaves e.clause) (k + j) ≡ Some l)
        → filter keeps (leaf_tries a e k (map (λ l. l.quantifiers) xs)) ≡ map (λ x. x.candidate) (filter finds_leaf (numbered label k xs))
    leaves_kept k [] at = refl
    leaves_kept k (l ∷ xs) at =
        let z : k + 0 ≡ k = omega arith in
        let w = leaf_tried k l (ap (slice_get (standing_leaves e.clause)) (sym z) ∙ at 0 l refl) in
        leaf-step keeps (λ x. x.candidate) finds_leaf (record { label = e.label; leaf = k }) (leaf_tries a e (suc k) (map (λ l. l.quantifiers) xs))
        (record { candidate = record { label = label; leaf = k }; standing = l })
        (numbered label (suc k) xs) (fits_head a (leaf_head e.clause k l.quantifiers)) (ap (λ n. record { label = n; leaf = k }) same)
        (finds-matches l.head
        ∙ (ap (λ b. b && not (signs_clash first (first_of l.head))) (sym w.0)
        ∙ ap (λ f. fits_head a (leaf_head e.clause k l.quantifiers) && not (signs_clash first f)) (sym w.1)))
        (leaves_kept (suc k) xs (λ j m h. let q : suc k + j ≡ k + suc j = omega arith in ap (slice_get (standing_leaves e.clause)) q ∙ at (suc j) m h))

    -- the candidates of an open entry that are kept
    entry_kept : is_open e ≡ true → entry_matches first a e ≡ map (λ x. x.candidate) (filter finds_leaf (numbered label 0 (standing_leaves e.clause)))
    entry_kept open_entry =
        ap (λ (b : Bool). filter keeps (if b then leaf_tries a e 0 (ways e.clause) else [])) open_entry
        ∙ (ap (λ ns. filter keeps (leaf_tries a e 0 ns)) (sym (leaves_stand e.clause))
        ∙ leaves_kept 0 (standing_leaves e.clause) (λ j l h. let q : 0 + j ≡ j = omega arith in ap (slice_get (standing_leaves e.clause)) q ∙ h))

  -- the candidates of program clauses that are kept
  clauses_kept : (n : ℕ) (cs : List ClauseTree) → flat_map (entry_matches first a) (program_entries n cs)
      ≡ map (λ x. x.candidate) (filter finds_leaf (program_leaves n cs))
  clauses_kept n [] = refl
  clauses_kept n (c ∷ cs) =
      let e : Entry Form = record { label = n; kind = c.kind; live = is_linear c.kind; clause = c.form } in
      flat_map-cons (entry_matches first a) e (program_entries (suc n) cs)
      ∙ (ap (λ xs. xs ++ flat_map (entry_matches first a) (program_entries (suc n) cs)) (entry_kept n e refl (open_first c.kind))
      ∙ (ap (λ xs. map (λ x. x.candidate) (filter finds_leaf (numbered n 0 (standing_leaves c.form))) ++ xs) (clauses_kept (suc n) cs)
      ∙ (sym (map-append (λ x. x.candidate) (filter finds_leaf (numbered n 0 (standing_leaves c.form))) (filter finds_leaf (program_leaves (suc n) cs)))
      ∙ ap (map (λ x. x.candidate)) (sym (filter-append finds_leaf (numbered n 0 (standing_leaves c.form)) (program_leaves (suc n) cs))))))

  -- what is kept of the leaves of an index that are found by these keys
  pub program_kept : (show : Leaf → Listed) (candidate : (l : Leaf)
      → (show l).candidate ≡ l.candidate) (keys : List Key) (ls : List Leaf) (program : List ClauseTree)
      → keys ≡ map (λ l. key_of by_sign (show l).standing.head) ls
      → map show ls ≡ program_leaves 0 program → map (λ l. l.candidate) (kept key_eq (Named name arguments first) (Named name arguments Open) keys ls)
      ≡ program_matches first a program
  program_kept show candidate keys ls program are shows =
      ap (λ ks. map (λ l. l.candidate) (kept key_eq (Named name arguments first) (Named name arguments Open) ks ls)) are
      ∙ (kept-shown ls ∙ (ap (λ xs. map (λ x. x.candidate) (filter finds_leaf xs)) shows ∙ sym (clauses_kept 0 program)))
    where
      kept-shown : (ls : List Leaf) → map (λ l. l.candidate)
          (kept key_eq (Named name arguments first) (Named name arguments Open) (map (λ l. key_of by_sign (show l).standing.head) ls) ls)
          ≡ map (λ x. x.candidate) (filter finds_leaf (map show ls))
      kept-shown [] = refl
      kept-shown (l ∷ ls) = step (finds_leaf (show l)) (kept-shown ls)
        where
          step : (b : Bool)
              → map (λ l. l.candidate) (kept key_eq (Named name arguments first) (Named name arguments Open)
              (map (λ l. key_of by_sign (show l).standing.head) ls) ls)
              ≡ map (λ x. x.candidate) (filter finds_leaf (map show ls))
              → map (λ l. l.candidate) (if b then l ∷ kept key_eq (Named name arguments first) (Named name arguments Open)
              (map (λ l. key_of by_sign (show l).standing.head) ls) ls
              else kept key_eq (Named name arguments first) (Named name arguments Open) (map (λ l. key_of by_sign (show l).standing.head) ls) ls)
              ≡ map (λ x. x.candidate) (if b then show l ∷ filter finds_leaf (map show ls) else filter finds_leaf (map show ls))
          step true h = λ i. sym (candidate l) i ∷ h i
          step false h = h

-- ---- a leaf of the index is a leaf of the program

-- where a leaf of a program stands
pub record Placed (n : ℕ) (cs : List ClauseTree) (x : Listed) : Type 0 where
  pub place : ℕ
  pub label : x.candidate.label ≡ n + place
  pub clause : ClauseTree
  pub at : slice_get cs place ≡ Some clause
  pub standing : slice_get (standing_leaves clause.form) x.candidate.leaf ≡ Some x.standing

-- the leaf at a place of a clause's leaves
get-numbered : (label k : ℕ) (xs : List StandingLeaf) (p : ℕ) (x : Listed) → slice_get (numbered label k xs) p ≡ Some x
    → (x.candidate.label ≡ label) × (x.candidate.leaf ≡ k + p) × (slice_get xs p ≡ Some x.standing)
get-numbered label k [] p x h = cc
get-numbered label k (l ∷ xs) zero x h =
    let y : Listed = record { candidate = record { label = label; leaf = k }; standing = l } in
    let e : y ≡ x = cc in
    let z : k ≡ k + 0 = omega arith in
    (ap (λ v. v.candidate.label) (sym e), ap (λ v. v.candidate.leaf) (sym e) ∙ z, ap (λ v. Some v.standing) e)
get-numbered label k (l ∷ xs) (suc p) x h =
    let w = get-numbered label (suc k) xs p x h in (w.0, w.1 ∙ (let z : suc k + p ≡ k + suc p = omega arith in z), w.2)

placed : (n : ℕ) (cs : List ClauseTree) (p : ℕ) (x : Listed) → slice_get (program_leaves n cs) p ≡ Some x → Placed n cs x
placed n [] p x h = cc
placed n (c ∷ cs) p x h = step (nat_lt p (length here)) refl (placed (suc n) cs (p - length here) x)
  where
    here : List Listed
    here = numbered n 0 (standing_leaves c.form)

    step : (b : Bool) → nat_lt p (length here) ≡ b → (slice_get (program_leaves (suc n) cs) (p - length here) ≡ Some x → Placed (suc n) cs x)
        → Placed n (c ∷ cs) x
    step true t go =
        let w = get-numbered n 0 (standing_leaves c.form) p x (sym (get_left here (program_leaves (suc n) cs) p (ltb-true p (length here) t)) ∙ h) in
        let z : n ≡ n + 0 = omega arith in
        let q : 0 + p ≡ p = omega arith in
        record { place = 0; label = w.0 ∙ z; clause = c; at = refl; standing = ap (slice_get (standing_leaves c.form)) (w.1 ∙ q) ∙ w.2 }
    step false t go =
        let le = ltb-false p (length here) t in
        let w = go (sym (get_right here (program_leaves (suc n) cs) p (p - length here) (omega arith)) ∙ h) in
        let l = w.label in
        record { place = suc w.place; label = omega arith; clause = w.clause; at = w.at; standing = w.standing }

-- what stands at a place of a program's leaves, as the clause has it
pub record InClause (program : List ClauseTree) (x : Listed) : Type 0 where
  pub clause : ClauseTree
  pub at : slice_get program x.candidate.label ≡ Some clause
  pub way : slice_get (ways clause.form) x.candidate.leaf ≡ Some x.standing.quantifiers
  pub opened : (ts : List Term) → length ts ≡ x.standing.quantifiers → leaf clause.form x.candidate.leaf ts ≡ Some (opened_leaf ts x.standing)

pub in_clause : (program : List ClauseTree) (p : ℕ) (x : Listed) → slice_get (program_leaves 0 program) p ≡ Some x → InClause program x
in_clause program p x h =
    let w = placed 0 program p x h in
    let l = w.label in
    let e : x.candidate.label ≡ w.place = omega arith in
    record {
      clause = w.clause;
      at = ap (slice_get program) e ∙ w.at;
      way = ap (λ ns. slice_get ns x.candidate.leaf) (sym (leaves_stand w.clause.form))
          ∙ (slice_get-map (λ (l : StandingLeaf). l.quantifiers) (standing_leaves w.clause.form) x.candidate.leaf
          ∙ ap (option_map (λ (l : StandingLeaf). l.quantifiers)) w.standing);
      opened = λ ts q. leaves_open w.clause.form x.candidate.leaf ts x.standing w.standing q;
    }
