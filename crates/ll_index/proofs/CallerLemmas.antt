-- What callers of an index may cite.
use Rattle.std.proofs.Common.{◌≡◌, ◌≤◌, ◌<◌, ℕ, suc, Bool, true, false, List, [], ◌∷◌, ◌++◌, map, filter, refl, ap, sym, subst, ◌∙◌, arith, All}
use Rattle.std.specs.Prelude.{not, if◌then◌else◌, Some, flat_map}
use Rattle.std.proofs.lemmas.Bool.{eq-eqb, ne_eqb}
use Rattle.std.proofs.lemmas.List.Elements.{All-head, All-tail, All-cons, All-append, filter-append}
use Rattle.ll_bank.specs.Form.{Form}
use Rattle.ll_bank.specs.Nodes.{Nodes, Extends, HasForm}
use Rattle.ll_bank.specs.Term.{Term}
use Rattle.ll_bank.proofs.CallerLemmas.{HasTerm-extends, HasForm-extends, term_tree-extends, form_tree-extends}
use Rattle.ll_agenda.specs.Frames.{Frames, items_at}
use Rattle.ll_laws.specs.declared.Candidate.{Candidate}
use Rattle.ll_laws.specs.Module.{ClauseTree}
use Rattle.ll_laws.specs.Settle.{Entry}
use Rattle.ll_laws.specs.Attempt.{is_linear, is_open, entry_at, entry_tries, leaf_tries, fits_head, leaf_head}
use Rattle.ll_laws.specs.Leaf.{ways}
use Rattle.ll_laws.specs.Search.{program_entries}
use Rattle.ll_index.proofs.Matching.{open_first}
use Rattle.ll_index.specs.declared.laws.First.{First}
use Rattle.ll_index.specs.declared.leaves.Leaf.{Leaf}
use Rattle.ll_index.specs.declared.leaves.Premise.{Premise}
use Rattle.ll_index.specs.declared.index.Index.{Index}
use Rattle.ll_index.specs.First.{signs_clash, leaf_first, entry_matches}
use Rattle.ll_index.specs.Listed.{shown_premises, listed, IsStored}
use Rattle.ll_index.specs.Keys.{key_of, leaf_keys, IsChained}
use Rattle.ll_index.specs.Index.{IsIndex}
use Rattle.ll_index.specs.Context.{AreOfProgram, is_open_entry, is_open_at}
-- ---- which leaves may stand for an atom

-- a leaf that opens stands in the clause
pub use Rattle.ll_index.proofs.StandingLaws.{stands_as}
-- atoms whose first arguments have outermost signs that clash have no unifier
pub use Rattle.ll_index.proofs.FirstLaws.{clashes_give_nothing}
-- the sign of an application that is read from a bank
pub use Rattle.ll_index.proofs.KeyLemmas.{sign_of-read}

-- ---- an index stays one as the bank grows

module _ {old new : Nodes} (e : Extends old new) where
  stored-extends : (frames : Frames Premise) (l : Leaf) → IsStored old frames l → IsStored new frames l
  stored-extends frames l s = record {
    head = HasTerm-extends e l.head.0 s.head;
    top = s.top;
    premises = λ k d h. HasForm-extends e _ (s.premises k d h);
  }

  premises-extend : (ps : List Premise) → All (λ p. HasForm old p.goal.0) ps → shown_premises new ps ≡ shown_premises old ps
  premises-extend [] h = refl
  premises-extend (p ∷ ps) h =
      let a = form_tree-extends e p.goal.0 (All-head (λ (q : Premise). HasForm old q.goal.0) p ps h) in
      let b = premises-extend ps (All-tail (λ (q : Premise). HasForm old q.goal.0) p ps h) in
      λ i. record { goal = a i; kind = p.kind; quantifiers = p.quantifiers } ∷ b i

  leaves-extend : (frames : Frames Premise) (ls : List Leaf) → All (IsStored old frames) ls → map (listed new frames) ls ≡ map (listed old frames) ls
  leaves-extend frames [] h = refl
  leaves-extend frames (l ∷ ls) h =
      let s = All-head (IsStored old frames) l ls h in
      let a = premises-extend (items_at frames l.premises) s.premises in
      let b = term_tree-extends e l.head.0 s.head in
      let c = leaves-extend frames ls (All-tail (IsStored old frames) l ls h) in
      λ i. record { candidate = l.candidate; standing = record { premises = a i; quantifiers = l.quantifiers; head = b i } } ∷ c i

  keys-extend : (by_sign : Bool) (frames : Frames Premise) (ls : List Leaf) → All (IsStored old frames) ls → leaf_keys new by_sign ls ≡ leaf_keys old by_sign ls
  keys-extend by_sign frames [] h = refl
  keys-extend by_sign frames (l ∷ ls) h =
      let a = term_tree-extends e l.head.0 (All-head (IsStored old frames) l ls h).head in
      let b = keys-extend by_sign frames ls (All-tail (IsStored old frames) l ls h) in
      λ i. key_of by_sign (a i) ∷ b i

  -- its places show in the later bank what they showed
  pub IsIndex-extends : (program : List ClauseTree) (x : Index) → IsIndex old program x → IsIndex new program x
  IsIndex-extends program x is = record {
    leaves = leaves-extend x.premises x.leaves.items is.stored ∙ is.leaves;
    stored = λ k d h. stored-extends x.premises _ (is.stored k d h);
    predicates = subst (λ ks. IsChained ks x.predicates) (sym (keys-extend false x.premises x.leaves.items is.stored)) is.predicates;
    signs = subst (λ ks. IsChained ks x.signs) (sym (keys-extend true x.premises x.leaves.items is.stored)) is.signs;
    keys = is.keys ∙ sym (keys-extend true x.premises x.leaves.items is.stored);
  }

-- ---- the program's entries at the end of a context

-- a candidate of an entry has its label
tries-label : (a : Term) (e : Entry Form) (k : ℕ) (ns : List ℕ) → All (λ (c : Candidate). c.label ≡ e.label) (leaf_tries a e k ns)
tries-label a e k [] = λ i d l. absurd (omega arith)
tries-label a e k (n ∷ ns) = step (fits_head a (leaf_head e.clause k n)) (tries-label a e (suc k) ns)
  where
    step : (b : Bool) → All (λ (c : Candidate). c.label ≡ e.label) (leaf_tries a e (suc k) ns)
        → All (λ (c : Candidate). c.label ≡ e.label) (if b then record { label = e.label; leaf = k } ∷ leaf_tries a e (suc k) ns else leaf_tries a e (suc k) ns)
    step true h = All-cons (λ (c : Candidate). c.label ≡ e.label) (record { label = e.label; leaf = k }) (leaf_tries a e (suc k) ns) refl h
    step false h = h

filter-all : {A : Type 0} (P : A → Type 0) (p : A → Bool) (xs : List A) → All P xs → All P (filter p xs)
filter-all P p [] h = λ i d l. absurd (omega arith)
filter-all P p (x ∷ xs) h = step (p x) (filter-all P p xs (All-tail P x xs h))
  where
    step : (b : Bool) → All P (filter p xs) → All P (if b then x ∷ filter p xs else filter p xs)
    step true k = All-cons P x (filter p xs) (All-head P x xs h) k
    step false k = k

matches-label : (first : First) (a : Term) (e : Entry Form) → All (λ (c : Candidate). c.label ≡ e.label) (entry_matches first a e)
matches-label first a e = filter-all (λ (c : Candidate). c.label ≡ e.label) (λ (c : Candidate). not (signs_clash first (leaf_first e.clause c.leaf)))
    (entry_tries a e) (by (is_open e))
  where
    by : (b : Bool) → All (λ (c : Candidate). c.label ≡ e.label) (if b then leaf_tries a e 0 (ways e.clause) else [])
    by true = tries-label a e 0 (ways e.clause)
    by false = λ i d l. absurd (omega arith)

filter-same : {A : Type 0} (p q : A → Bool) (xs : List A) → All (λ x. p x ≡ q x) xs → filter p xs ≡ filter q xs
filter-same p q [] h = refl
filter-same p q (x ∷ xs) h =
    ap (λ b. if b then x ∷ filter p xs else filter p xs) (All-head (λ x. p x ≡ q x) x xs h)
    ∙ ap (λ ys. if q x then x ∷ ys else ys) (filter-same p q xs (All-tail (λ x. p x ≡ q x) x xs h))

filter-const : {A : Type 0} (b : Bool) (xs : List A) → filter (λ x. b) xs ≡ (if b then xs else [])
filter-const true [] = refl
filter-const true (x ∷ xs) = ap (λ ys. x ∷ ys) (filter-const true xs)
filter-const false [] = refl
filter-const false (x ∷ xs) = filter-const false xs

labels-from : (first : First) (a : Term) (n : ℕ) (cs : List ClauseTree)
    → All (λ (c : Candidate). n ≤ c.label) (flat_map (entry_matches first a) (program_entries n cs))
labels-from first a n [] = λ i d l. absurd (omega arith)
labels-from first a n (c ∷ cs) =
    let e : Entry Form = record { label = n; kind = c.kind; live = is_linear c.kind; clause = c.form } in
    let h = matches-label first a e in
    let k = labels-from first a (suc n) cs in
    All-append (λ (d : Candidate). n ≤ d.label) (entry_matches first a e) (flat_map (entry_matches first a) (program_entries (suc n) cs)) (λ i d l. let q =
    h i d l in omega arith)
    (λ i d l. let q = k i d l in omega arith)

-- entries with one label and one clause have one list of candidates
tries-same : (a : Term) (e p : Entry Form) (k : ℕ) (ns : List ℕ) → e.label ≡ p.label → e.clause ≡ p.clause → leaf_tries a e k ns ≡ leaf_tries a p k ns
tries-same a e p k [] l c = refl
tries-same a e p k (n ∷ ns) l c =
    ap (λ r. if fits_head a (leaf_head r k n) then record { label = e.label; leaf = k } ∷ leaf_tries a e (suc k) ns else leaf_tries a e (suc k) ns) c
    ∙ (ap (λ m. if fits_head a (leaf_head p.clause k n) then record { label = m; leaf = k } ∷ leaf_tries a e (suc k) ns else leaf_tries a e (suc k) ns) l
    ∙ ap (λ xs. if fits_head a (leaf_head p.clause k n) then record { label = p.label; leaf = k } ∷ xs else xs) (tries-same a e p (suc k) ns l c))

-- what an entry of the program has left
entry-open : (first : First) (a : Term) (n : ℕ) (c : ClauseTree) (e : Entry Form) → e.label ≡ n → e.clause ≡ c.form
    → entry_matches first a e ≡ (if is_open e then entry_matches first a (record { label = n; kind = c.kind; live = is_linear c.kind; clause = c.form }) else
    [])
entry-open first a n c e l r = by (is_open e)
  where
    p : Entry Form
    p = record { label = n; kind = c.kind; live = is_linear c.kind; clause = c.form }

    by : (b : Bool) → filter (λ d. not (signs_clash first (leaf_first e.clause d.leaf))) (if b then leaf_tries a e 0 (ways e.clause) else [])
        ≡ (if b then entry_matches first a p else [])
    by true =
        ap (λ f. filter (λ d. not (signs_clash first (leaf_first f d.leaf))) (leaf_tries a e 0 (ways f))) r
        ∙ (ap (filter (λ d. not (signs_clash first (leaf_first c.form d.leaf)))) (tries-same a e p 0 (ways c.form) l r)
        ∙ ap (λ (b : Bool). filter (λ d. not (signs_clash first (leaf_first c.form d.leaf))) (if b then leaf_tries a p 0 (ways c.form) else []))
        (sym (open_first c.kind)))
    by false = refl

open_own : (e : Entry Form) (es : List (Entry Form)) (m : ℕ) → e.label ≡ m → is_open_at (e ∷ es) m ≡ is_open e
open_own e es m h = ap (λ b. is_open_entry (if b then Some e else entry_at es m)) (eq-eqb e.label m h)

open_other : (e : Entry Form) (es : List (Entry Form)) (m : ℕ) → e.label < m → is_open_at (e ∷ es) m ≡ is_open_at es m
open_other e es m h = ap (λ b. is_open_entry (if b then Some e else entry_at es m)) (ne_eqb e.label m (λ w. let f : ⊥ = absurd (omega arith) in f))

-- Among the entries of a program the candidates that match are those of the index, less those of entries that can't be picked.
pub matches-open : (first : First) (a : Term) (n : ℕ) (cs : List ClauseTree) (es : List (Entry Form)) → AreOfProgram n cs es
    → flat_map (entry_matches first a) es ≡ filter (λ c. is_open_at es c.label) (flat_map (entry_matches first a) (program_entries n cs))
matches-open first a n [] [] h = refl
matches-open first a n [] (e ∷ es) h = absurd h
matches-open first a n (c ∷ cs) [] h = absurd h
matches-open first a n (c ∷ cs) (e ∷ es) h =
    let p : Entry Form = record { label = n; kind = c.kind; live = is_linear c.kind; clause = c.form } in
    let here = entry_matches first a p in
    let rest = flat_map (entry_matches first a) (program_entries (suc n) cs) in
    let all : Candidate → Bool = λ d. is_open_at (e ∷ es) d.label in
    let labels = matches-label first a p in
    let above = labels-from first a (suc n) cs in
    let own = filter-same all (λ d. is_open e) here (λ i d l. open_own e es _ (h.0 ∙ sym (labels i d l))) in
    let others = filter-same all (λ d. is_open_at es d.label) rest (λ i d l. open_other e es _ (let q = above i d l in let z = h.0 in omega arith)) in
    ap (λ xs. xs ++ flat_map (entry_matches first a) es) (entry-open first a n c e h.0 h.2)
    ∙ (ap (λ xs. (if is_open e then here else []) ++ xs) (matches-open first a (suc n) cs es h.3)
    ∙ sym (filter-append all here rest
    ∙ (ap (λ xs. xs ++ filter all rest) (own ∙ filter-const (is_open e) here) ∙ ap (λ xs. (if is_open e then here else []) ++ xs) others)))
