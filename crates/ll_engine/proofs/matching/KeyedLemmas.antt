-- Entries that are not found by the key of an atom have no head that fits it.
use Rattle.std.proofs.Common.{◌≡◌, ℕ, zero, suc, ◌+◌, ◌-◌, ◌%◌, ◌^◌, Bool, true, false, ◌||◌, ◌&&◌, nat_eq}
use Rattle.std.proofs.Common.{List, [], ◌∷◌, ◌++◌, map, flat_map, length, take, All}
use Rattle.std.proofs.Common.{refl, ap, sym, subst, ◌∙◌, inl, inr, arith}
use Rattle.std.specs.Prelude.{Option, Some, None, if◌then◌else◌, not}
use Rattle.std.proofs.lemmas.Bool.{cases_lt, eqb-true, eq-eqb, lt-ltb, le-ltb, false≢true, and_parts}
use Rattle.ll_bank.specs.declared.FormAt.{FormAt}
use Rattle.ll_bank.specs.declared.Head.{Head}
use Rattle.ll_bank.specs.declared.Head.TheVariants.{Name, Eigen, Bound}
use Rattle.ll_bank.specs.Term.{Term, head_of, arity, same_head}
use Rattle.ll_bank.specs.Form.{Form, Top, One, Atom, With, Tensor, Plus, Bang, Lolli, Imp, Forall, Exists, Use, Num}
use Rattle.ll_bank.specs.Nodes.{Nodes, form_tree}
use Rattle.ll_bank.specs.declared.At.{At}
use Rattle.ll_bank.specs.declared.FormNode.{FormNode}
use Rattle.ll_bank.specs.declared.FormNode.TheVariants.{Top as TopView, One as OneView, Atom as AtomView, With as WithView, Tensor as TensorView}
use Rattle.ll_bank.specs.declared.FormNode.TheVariants.{Plus as PlusView, Bang as BangView, Lolli as LolliView, Imp as ImpView, Forall as ForallView}
use Rattle.ll_bank.specs.declared.FormNode.TheVariants.{Exists as ExistsView, Use as UseView, Is as IsView, Less as LessView, Most as MostView}
use Rattle.ll_bank.specs.Nodes.{Nodes, form_tree, form_of}
use Rattle.ll_laws.specs.declared.Candidate.{Candidate}
use Rattle.ll_laws.specs.Settle.{Entry}
use Rattle.ll_laws.specs.Attempt.{is_open}
use Rattle.ll_resources.specs.Resources.{Resources}
use Rattle.std.proofs.lemmas.List.Elements.{All-nil, All-cons, All-head, All-tail}
use Rattle.ll_resources.specs.declared.keyed.Keyed.{Keyed}
use Rattle.ll_resources.specs.Keys.{is_found, open_found, found_by, comes, open_coming, to_come}
use Rattle.ll_freeze.specs.Keyed.{head_key, key_of_head, clause_key, keys_in, AreKeyed}
use Rattle.ll_store.specs.declared.store.Store.{Store}
use Rattle.ll_index.specs.First.{first_of, signs_clash}
use Rattle.ll_engine.specs.declared.heads.Asked.{Asked}
use Rattle.ll_engine.specs.Matches.{head_fits, read_by}
use Rattle.ll_engine.specs.Leaves.{has_predicate, heads, head_tries, open_tries, standing_entry}

-- the test passes heads of one key alone
abbrev pub IsOfKey : ℕ → (Term → Bool) → Type 0
IsOfKey key test = (t : Term) → test t ≡ true → key_of_head (head_of t) ≡ key

or_parts : (a b : Bool) → (a || b) ≡ false → (a ≡ false) × (b ≡ false)
or_parts true b h = absurd (false≢true (sym h))
or_parts false b h = (refl, h)

-- a head of another key does not pass
no_pass : (key : ℕ) (test : Term → Bool) (label k : ℕ) (t : Term) → IsOfKey key test → is_found key (Some (key_of_head (head_of t))) ≡ false
    → head_tries test label k (t ∷ []) ≡ []
no_pass key test label k t only h = by (test t) refl
  where
    by : (b : Bool) → test t ≡ b → ◌≡◌ {A = List Candidate} (if b then (record { label = label; leaf = k } ∷ []) else []) []
    by true e =
        let p = or_parts (nat_eq (key_of_head (head_of t)) key) (nat_eq (key_of_head (head_of t)) 0) h in
        absurd (false≢true (sym p.0 ∙ eq-eqb (key_of_head (head_of t)) key (only t e)))
    by false e = refl

-- nor do those of a clause
no_heads : (key : ℕ) (test : Term → Bool) (label k : ℕ) (f : Form) → IsOfKey key test → is_found key (Some (clause_key f)) ≡ false
    → head_tries test label k (heads f) ≡ []
no_heads key test label k (Atom t) only h = no_pass key test label k t only h
no_heads key test label k (Lolli g r) only h = no_heads key test label k r only h
no_heads key test label k (Imp g r) only h = no_heads key test label k r only h
no_heads key test label k (Forall r) only h = no_heads key test label k r only h
no_heads key test label k Top only h = refl
no_heads key test label k One only h = refl
no_heads key test label k (With r s) only h =
    let p = or_parts (nat_eq 0 key) (nat_eq 0 0) h in absurd (false≢true (sym p.1 ∙ eq-eqb 0 0 refl))
no_heads key test label k (Tensor f g) only h = refl
no_heads key test label k (Plus f g) only h = refl
no_heads key test label k (Bang f) only h = refl
no_heads key test label k (Exists f) only h = refl
no_heads key test label k (Use m ts f) only h = refl
no_heads key test label k (Num r t u) only h = refl

abbrev no_entries : List (Entry FormAt)
no_entries = []

none_taken : (n : ℕ) → take n [] ≡ no_entries
none_taken zero = refl
none_taken (suc n) = refl

module _ (bank : Nodes) (count key : ℕ) (test : Term → Bool) (only : IsOfKey key test) where
  abbrev pub tries : List (Entry FormAt) → List Candidate
  tries es = flat_map (open_tries test) (map (standing_entry bank) es)

  -- those that are found give all that the loaded ones give
  pub all_tries : (es : List (Entry FormAt)) → tries (open_found key (keys_in bank count es) es) ≡ tries (take (length es - count) es)
  unfolding keys_in
  all_tries [] = ap tries (sym (none_taken (zero - count)))
  all_tries (e ∷ es) = elim (cases_lt (length es) count) [
    | inl program ↦
        let none : suc (length es) - count ≡ length es - count = omega (arith, program) in
        let zero_left : length es - count ≡ 0 = omega (arith, program) in
        let rest : tries (open_found key (keys_in bank count es) es) ≡ [] = all_tries es ∙ ap (λ n. tries (take n es)) zero_left in
        ap (λ b. tries (open_found key ((if b then None else Some (clause_key (form_tree bank e.clause.0))) ∷ keys_in bank count es) (e ∷ es)))
        (lt-ltb (length es) count program)
        ∙ (rest ∙ sym (ap (λ n. tries (take n (e ∷ es))) (none ∙ zero_left)))
    | inr loaded ↦
        let more : suc (length es) - count ≡ suc (length es - count) = omega (arith, loaded) in
        let found : Bool = is_found key (Some (clause_key (form_tree bank e.clause.0))) in
        ap (λ b. tries (open_found key ((if b then None else Some (clause_key (form_tree bank e.clause.0))) ∷ keys_in bank count es) (e ∷ es)))
        (le-ltb (length es) count loaded)
        ∙ (step found (is_open e) refl refl
        ∙ (ap (λ xs. open_tries test (standing_entry bank e) ++ xs) (all_tries es)
        ∙ sym (ap (λ n. tries (take n (e ∷ es))) more)))
  ]
    where
      step : (f o : Bool) → is_found key (Some (clause_key (form_tree bank e.clause.0))) ≡ f → is_open e ≡ o
          → tries (if f && o then e ∷ open_found key (keys_in bank count es) es else open_found key (keys_in bank count es) es)
          ≡ open_tries test (standing_entry bank e) ++ tries (open_found key (keys_in bank count es) es)
      step true true h q = refl
      step true false h q =
          ap (λ b. (if b then head_tries test e.label 0 (heads (form_tree bank e.clause.0)) else []) ++ tries (open_found key
          (keys_in bank count es) es)) (sym q)
      step false o h q =
          ap (λ xs. xs ++ tries (open_found key (keys_in bank count es) es))
          (sym (no_tries (is_open e) (no_heads key test e.label 0 (form_tree bank e.clause.0) only h)))
        where
          no_tries : (b : Bool) → head_tries test e.label 0 (heads (form_tree bank e.clause.0)) ≡ []
              → (if b then head_tries test e.label 0 (heads (form_tree bank e.clause.0)) else []) ≡ []
          no_tries true n = n
          no_tries false n = refl

-- what holds of all entries holds of those that are to come
coming_all : {C : Type 0} (P : Entry C → Type 0) (k : Keyed) (ks : List (Option ℕ)) (es : List (Entry C)) → All P es → All P (open_coming k ks es)
coming_all P k [] es h = All-nil P
coming_all P k (g ∷ ks) [] h = All-nil P
coming_all P k (g ∷ ks) (e ∷ es) h = step (comes k (length es) g && is_open e) (coming_all P k ks es (All-tail P e es h))
  where
    step : (b : Bool) → All P (open_coming k ks es) → All P (if b then e ∷ open_coming k ks es else open_coming k ks es)
    step true r = All-cons P e (open_coming k ks es) (All-head P e es h) r
    step false r = r

-- also of the first
pub coming_first : {C : Type 0} (P : Entry C → Type 0) (k m : Keyed) (e : Entry C) (r : Resources C) → to_come k r ≡ e ∷ to_come m r → All P r.entries → P e
coming_first P k m e r q h = All-head P e (to_come m r) (subst (All P) q (coming_all P k r.keys r.entries h))

-- a formula of no other sort has no key
pub no_key : (bank : Nodes) (v : FormNode) → ((a : At) → v ≡ AtomView a → ⊥) → ((f g : FormAt) → v ≡ LolliView f g → ⊥)
    → ((f g : FormAt) → v ≡ ImpView f g → ⊥) → ((f : FormAt) → v ≡ ForallView f → ⊥) → clause_key (form_of bank v) ≡ 0
no_key bank TopView a l i f = refl
no_key bank OneView a l i f = refl
no_key bank (AtomView t) a l i f = absurd (a t refl)
no_key bank (WithView x y) a l i f = refl
no_key bank (TensorView x y) a l i f = refl
no_key bank (PlusView x y) a l i f = refl
no_key bank (BangView x) a l i f = refl
no_key bank (LolliView x y) a l i f = absurd (l x y refl)
no_key bank (ImpView x y) a l i f = absurd (i x y refl)
no_key bank (ForallView x) a l i f = absurd (f x refl)
no_key bank (ExistsView x) a l i f = refl
no_key bank (UseView m ts x) a l i f = refl
no_key bank (IsView x y) a l i f = refl
no_key bank (LessView x y) a l i f = refl
no_key bank (MostView x y) a l i f = refl

-- one head, one key
same_key : (h : Head) (o : Option Head) → same_head (Some h) o ≡ true → key_of_head o ≡ head_key h
same_key h None e = absurd (false≢true e)
same_key (Name m) (Some (Name n)) e = ap (λ k. (k + 1) % 2 ^ 32) (sym (eqb-true m n e))
same_key (Eigen m) (Some (Eigen n)) e = refl
same_key (Bound m) (Some (Bound n)) e = refl
same_key (Name m) (Some (Eigen n)) e = absurd (false≢true e)
same_key (Name m) (Some (Bound n)) e = absurd (false≢true e)
same_key (Eigen m) (Some (Name n)) e = absurd (false≢true e)
same_key (Eigen m) (Some (Bound n)) e = refl
same_key (Bound m) (Some (Name n)) e = absurd (false≢true e)
same_key (Bound m) (Some (Eigen n)) e = refl

-- heads that fit have the key that is asked for
pub fits_key : (s : Store) (asked : Asked) → IsOfKey (head_key asked.predicate.head) (head_fits s asked)
fits_key s asked t e =
    let p = and_parts (has_predicate asked.predicate t) (not (signs_clash asked.first (first_of (read_by s t)))) e in
    let q = and_parts (same_head (Some asked.predicate.head) (head_of t)) (nat_eq asked.predicate.arity (arity t)) p.0 in
    same_key asked.predicate.head (head_of t) q.0

-- the list of the key that is asked for gives all that the loaded entries give
pub keyed_tries : (s : Store) (asked : Asked) (count : ℕ) (r : Resources FormAt) → AreKeyed s.bank count r
    → flat_map (open_tries (head_fits s asked)) (map (standing_entry s.bank) (found_by (head_key asked.predicate.head) r))
    ≡ flat_map (open_tries (head_fits s asked)) (map (standing_entry s.bank) (take (length r.entries - count) r.entries))
keyed_tries s asked count r k =
    let key = head_key asked.predicate.head in
    ap (λ ks. flat_map (open_tries (head_fits s asked)) (map (standing_entry s.bank) (open_found key ks r.entries))) k.keys
    ∙ all_tries s.bank count key (head_fits s asked) (fits_key s asked) r.entries
