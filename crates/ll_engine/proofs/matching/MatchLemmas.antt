-- The candidates that can match: they are those of the goal without some that give nothing.
use Rattle.std.proofs.Common.{◌≡◌, ℕ, zero, suc, ◌+◌, ◌<◌, Bool, true, false, List, [], ◌∷◌, ◌++◌, length, filter, refl, ap, sym, subst, ◌∙◌, arith, All}
use Rattle.std.proofs.Common.{nat_eq, slice_index_or}
use Rattle.std.specs.Prelude.{◌&&◌, ◌||◌, not, if◌then◌else◌, slice_get, Option, Some, None, option_map, flat_map}
use Rattle.std.specs.List.{Contains, list_any}
use Rattle.std.proofs.lemmas.Bool.{eqb-true, eq-eqb, ne_eqb}
use Rattle.std.proofs.lemmas.List.Elements.{All-head, All-tail, All-cons, All-append}
use Rattle.std.proofs.lemmas.Option.{slice_get_within, slice_get-get_or}
use Rattle.ll_list_laws.proofs.CallerLemmas.{false_from_not as not_true, true_from_not as not_false, and_true_left as and_left, and_true_right as and_right}
use Rattle.ll_list_laws.proofs.CallerLemmas.{lt_zero as none_below}
use Rattle.ll_bank.specs.declared.Head.{Head}
use Rattle.ll_bank.specs.declared.Head.TheVariants.{Name, Eigen, Bound}
use Rattle.ll_bank.specs.Term.{Term, Var, Int, Con, Ap, Env, close, head_of, arity, same_head}
use Rattle.ll_bank.specs.Form.{Form, Top, One, Atom, With, Tensor, Plus, Bang, Lolli, Imp, Forall, Exists, Use, Num}
use Rattle.ll_laws.specs.declared.Candidate.{Candidate}
use Rattle.ll_laws.specs.Leaf.{Leaf, leaf, ways}
use Rattle.ll_laws.specs.Module.{ModuleTree, ClauseTree, Setting}
use Rattle.ll_laws.specs.Settle.{Entry, Item, Goal}
use Rattle.ll_laws.specs.State.{State}
use Rattle.ll_laws.specs.Attempt.{entry_at, is_open, vars_from, leaf_head, fits_head, leaf_tries, entry_tries, goal_tries, agenda_tries, tries, attempt}
use Rattle.ll_laws.specs.Consistent.{labels_differ}
use Rattle.ll_laws.specs.Valid.{Scope, ClauseSide, AreClauses, given}
use Rattle.ll_laws.proofs.CallerLemmas.{IsHead, Fit, FormFits, fits_of_formula}
use Rattle.ll_index.specs.declared.laws.First.{First}
use Rattle.ll_index.specs.Standing.{StandingPremise, StandingLeaf, leaves_under, standing_leaves, env_under}
use Rattle.ll_index.specs.First.{first_of, signs_clash, leaf_first, entry_matches}
use Rattle.ll_index.specs.Context.{AreOfProgram}
use Rattle.ll_index.proofs.CallerLemmas.{stands_as, clashes_give_nothing}
use Rattle.ll_engine.specs.Owed.{Thins, thin_end, thin_keep, thin_skip}
use Rattle.ll_engine.specs.Matches.{goal_matches, agenda_matches, matches}

-- ---- leaving out what gives nothing

thins_itself : (beside : Setting) (t : State) (cs : List Candidate) → Thins beside t cs cs
thins_itself beside t [] = thin_end
thins_itself beside t (c ∷ cs) = thin_keep (thins_itself beside t cs)

thins_append : (beside : Setting) (t : State) (as' bs cs ds : List Candidate) → Thins beside t as' bs → Thins beside t cs ds
    → Thins beside t (as' ++ cs) (bs ++ ds)
thins_append beside t [] [] cs ds thin_end h = h
thins_append beside t (a ∷ as') [] cs ds g h = elim g [ ]
thins_append beside t (a ∷ as') (b ∷ bs) cs ds (thin_keep g) h = thin_keep (thins_append beside t as' bs cs ds g h)
thins_append beside t as' (b ∷ bs) cs ds (thin_skip e g) h = thin_skip e (thins_append beside t as' bs cs ds g h)

thins_filter : (beside : Setting) (t : State) (p : Candidate → Bool) (cs : List Candidate) → All (λ c. p c ≡ false → attempt beside t c ≡ None) cs
    → Thins beside t (filter p cs) cs
thins_filter beside t p [] h = thin_end
thins_filter beside t p (c ∷ cs) h =
    step (p c) (All-head (λ c. p c ≡ false → attempt beside t c ≡ None) c cs h)
    (thins_filter beside t p cs (All-tail (λ c. p c ≡ false → attempt beside t c ≡ None) c cs h))
  where
    step : (b : Bool) → (b ≡ false → attempt beside t c ≡ None) → Thins beside t (filter p cs) cs
        → Thins beside t (if b then c ∷ filter p cs else filter p cs) (c ∷ cs)
    step true e g = thin_keep g
    step false e g = thin_skip (e refl) g

contains-more : (x y : Candidate) (ys : List Candidate) → Contains ys x → Contains (y ∷ ys) x
contains-more x y ys h = (suc h.0, (let l = h.1 in omega arith), h.2)

-- what is left is among all
pub thins_contains : (beside : Setting) (t : State) (cs ds : List Candidate) → Thins beside t cs ds → All (λ c. Contains ds c) cs
thins_contains beside t [] [] thin_end = λ i d l. absurd (omega arith)
thins_contains beside t (c ∷ cs) [] h = elim h [ ]
thins_contains beside t (c ∷ cs) (d ∷ ds) (thin_keep h) =
    let more = thins_contains beside t cs ds h in
    All-cons (λ x. Contains (c ∷ ds) x) c cs (0, (let z : 0 < length (c ∷ ds) = omega arith in z), refl) (λ i x l. contains-more _ c ds (more i x l))
thins_contains beside t cs (d ∷ ds) (thin_skip e h) = let more = thins_contains beside t cs ds h in λ i x l. contains-more _ d ds (more i x l)

-- ---- each entry is the one with its label

other_labels : (e : Entry Form) (es : List (Entry Form)) → list_any (λ d. nat_eq e.label d.label) es ≡ false
    → All (λ (d : Entry Form). nat_eq e.label d.label ≡ false) es
other_labels e [] h = λ i d l. absurd (omega arith)
other_labels e (d ∷ es) h = All-cons (λ (x : Entry Form). nat_eq e.label x.label ≡ false) d es (left (nat_eq e.label d.label) h)
    (other_labels e es (right (nat_eq e.label d.label) h))
  where
    left : (b : Bool) → b || list_any (λ x. nat_eq e.label x.label) es ≡ false → b ≡ false
    left true h = cc
    left false h = refl

    right : (b : Bool) → b || list_any (λ x. nat_eq e.label x.label) es ≡ false → list_any (λ x. nat_eq e.label x.label) es ≡ false
    right true h = cc
    right false h = h

own_labels : (es : List (Entry Form)) → labels_differ es ≡ true → All (λ (d : Entry Form). entry_at es d.label ≡ Some d) es
own_labels [] h = λ i d l. absurd (omega arith)
own_labels (e ∷ es) h =
    let others = other_labels e es (not_true (list_any (λ d. nat_eq e.label d.label) es)
    (and_left (not (list_any (λ d. nat_eq e.label d.label) es)) (labels_differ es) h)) in
    let rest = own_labels es (and_right (not (list_any (λ d. nat_eq e.label d.label) es)) (labels_differ es) h) in
    All-cons (λ (d : Entry Form). entry_at (e ∷ es) d.label ≡ Some d) e es (ap (λ b. if b then Some e else entry_at es e.label) (eq-eqb e.label e.label refl))
    (λ i d l. ap (λ b. if b then Some e else entry_at es (slice_index_or es i d).label) (others i d l) ∙ rest i d l)

-- ---- the candidates that can match

module _ (beside : Setting) (s : State) (a : Term) (rest : List (Item Form)) (goal : s.agenda ≡ Goal (Atom a) ∷ rest) where
  entry_thins : (e : Entry Form) → entry_at s.context e.label ≡ Some e → Thins beside s (entry_matches (first_of a) a e) (entry_tries a e)
  entry_thins e h =
      let all = clashes_give_nothing beside s a rest e goal h in
      thins_filter beside s (λ c. not (signs_clash (first_of a) (leaf_first e.clause c.leaf))) (entry_tries a e)
      (λ i c l n. all i c l (not_false (signs_clash (first_of a) (leaf_first e.clause (slice_index_or (entry_tries a e) i c).leaf)) n))

  entries_thin : (es : List (Entry Form)) → All (λ (e : Entry Form). entry_at s.context e.label ≡ Some e) es
      → Thins beside s (flat_map (entry_matches (first_of a) a) es) (flat_map (entry_tries a) es)
  entries_thin [] h = thin_end
  entries_thin (e ∷ es) h =
      thins_append beside s (entry_matches (first_of a) a e) (entry_tries a e) (flat_map (entry_matches (first_of a) a) es) (flat_map (entry_tries a) es)
      (entry_thins e (All-head (λ (d : Entry Form). entry_at s.context d.label ≡ Some d) e es h))
      (entries_thin es (All-tail (λ (d : Entry Form). entry_at s.context d.label ≡ Some d) e es h))

goal_thins : (beside : Setting) (s : State) (g : Form) (rest : List (Item Form)) → s.agenda ≡ Goal g ∷ rest → labels_differ s.context ≡ true
    → Thins beside s (goal_matches s.context g) (goal_tries s.context g)
goal_thins beside s (Atom a) rest e d = entries_thin beside s a rest e s.context (own_labels s.context d)
goal_thins beside s Top rest e d = thins_itself beside s _
goal_thins beside s One rest e d = thins_itself beside s _
goal_thins beside s (With f g) rest e d = thins_itself beside s _
goal_thins beside s (Tensor f g) rest e d = thins_itself beside s _
goal_thins beside s (Plus f g) rest e d = thins_itself beside s _
goal_thins beside s (Bang f) rest e d = thins_itself beside s _
goal_thins beside s (Lolli f g) rest e d = thins_itself beside s _
goal_thins beside s (Imp f g) rest e d = thins_itself beside s _
goal_thins beside s (Forall f) rest e d = thins_itself beside s _
goal_thins beside s (Exists f) rest e d = thins_itself beside s _
goal_thins beside s (Use m ts f) rest e d = thins_itself beside s _
goal_thins beside s (Num r t u) rest e d = thins_itself beside s _

-- only candidates that give nothing are left out
pub matches_thin : (beside : Setting) (s : State) → labels_differ s.context ≡ true → Thins beside s (matches s) (tries s)
unfolding matches tries
matches_thin beside s d = go s.agenda refl
  where
    go : (as' : List (Item Form)) → s.agenda ≡ as' → Thins beside s (agenda_matches as' s.context) (agenda_tries as' s.context)
    go (Goal g ∷ rest) e = goal_thins beside s g rest e d
    go _ e = thin_end

-- ---- no head of a program's clause is an eigenvariable or a bound place

-- no place of the scope may be a head
abbrev pub HasNoHeads : Scope → Type 0
HasNoHeads scope = (k : ℕ) → slice_index_or scope k false ≡ false

under-forall : (scope : Scope) → HasNoHeads scope → HasNoHeads (false ∷ scope)
under-forall scope h zero = refl
under-forall scope h (suc k) = h k

-- the head of the term is a name
abbrev pub IsNamed : Term → Type 0
IsNamed t = (n : ℕ) × (head_of t ≡ Some (Name n))

head-named : (ms : List ModuleTree) (scope : Scope) (t : Term) → HasNoHeads scope → IsHead scope t → Fit (given ms 0) scope t → IsNamed t
head-named ms scope (Var x) n h f = cc
head-named ms scope (Int z) n h f = cc
head-named ms scope (Con (Name k)) n h f = (k, refl)
head-named ms scope (Con (Eigen k)) n h f = none_below k f
head-named ms scope (Con (Bound k)) n h f = let e = n k in let g : slice_index_or scope k false ≡ true = h.1 in cc
head-named ms scope (Ap t u) n h f = head-named ms scope t n f.0 f.1

leaves-named : (ms : List ModuleTree) (scope : Scope) (n : ℕ) (ps : List StandingPremise) (r : Form) → HasNoHeads scope
    → FormFits (given ms 0) ClauseSide scope r
    → All (λ (l : StandingLeaf). IsNamed l.head) (leaves_under n ps r)
leaves-named ms scope n ps Top q f = λ i d l. absurd (omega arith)
leaves-named ms scope n ps One q f = λ i d l. absurd (omega arith)
leaves-named ms scope n ps (Atom a) q f = All-cons (λ (l : StandingLeaf). IsNamed l.head) _ [] (head-named ms scope a q f.0 f.1) (λ i d l. absurd (omega arith))
leaves-named ms scope n ps (With r s) q f =
    All-append (λ (l : StandingLeaf). IsNamed l.head) (leaves_under n ps r) (leaves_under n ps s) (leaves-named ms scope n ps r q f.0)
    (leaves-named ms scope n ps s q f.1)
leaves-named ms scope n ps (Tensor r s) q f = λ i d l. absurd (omega arith)
leaves-named ms scope n ps (Plus r s) q f = λ i d l. absurd (omega arith)
leaves-named ms scope n ps (Bang r) q f = λ i d l. absurd (omega arith)
leaves-named ms scope n ps (Lolli g r) q f = leaves-named ms scope n _ r q f.1
leaves-named ms scope n ps (Imp g r) q f = leaves-named ms scope n _ r q f.1
leaves-named ms scope n ps (Forall r) q f = leaves-named ms (false ∷ scope) (suc n) ps r (under-forall scope q) f
leaves-named ms scope n ps (Exists r) q f = λ i d l. absurd (omega arith)
leaves-named ms scope n ps (Use m ts r) q f = λ i d l. absurd (omega arith)
leaves-named ms scope n ps (Num r t u) q f = λ i d l. absurd (omega arith)

-- closing what stands in a term leaves a name as its head
close-named : (e : Env) (t : Term) (n : ℕ) → head_of t ≡ Some (Name n) → head_of (close e t) ≡ Some (Name n)
close-named e (Var x) n h = cc
close-named e (Int z) n h = cc
close-named e (Con (Name k)) n h = h
close-named e (Con (Eigen k)) n h = cc
close-named e (Con (Bound k)) n h = cc
close-named e (Ap t u) n h = close-named e t n h

-- the head of the atom is none of the names
abbrev pub IsUnnamed : Term → Type 0
IsUnnamed a = (n : ℕ) → head_of a ≡ Some (Name n) → ⊥

module _ (names : ℕ) (ms : List ModuleTree) (a : Term) (un : IsUnnamed a) where
  never-same : (o : Option Head) (n : ℕ) → (o ≡ Some (Name n) → ⊥) → same_head o (Some (Name n)) ≡ false
  never-same None n h = refl
  never-same (Some (Name k)) n h = go (nat_eq k n) (eqb-true k n)
    where
      go : (b : Bool) → (b ≡ true → k ≡ n) → b ≡ false
      go true f = absurd (h (ap (λ i. Some (Name i)) (f refl)))
      go false f = refl
  never-same (Some (Eigen k)) n h = refl
  never-same (Some (Bound k)) n h = refl

  unfit : (r : Form) → FormFits (given ms 0) ClauseSide [] r → (k n : ℕ) → fits_head a (leaf_head r k n) ≡ false
  unfit r f k n = go (leaf r k (vars_from 0 n)) refl
    where
      go : (o : Option Leaf) → leaf r k (vars_from 0 n) ≡ o → fits_head a (option_map (λ l. l.head) o) ≡ false
      go None e = refl
      go (Some l) e =
          let st = stands_as r k (vars_from 0 n) l e in
          let all = leaves-named ms [] 0 [] r (λ i. refl) f in
          let inside = slice_get_within (standing_leaves r) k st.standing st.at in
          let named = all k st.standing inside in
          let read : Some (slice_index_or (standing_leaves r) k st.standing) ≡ Some st.standing =
          sym (slice_get-get_or (standing_leaves r) k st.standing inside) ∙ st.at in
          let same : slice_index_or (standing_leaves r) k st.standing ≡ st.standing = cc in
          let name : head_of st.standing.head ≡ Some (Name named.0) = ap (λ x. head_of x.head) (sym same) ∙ named.1 in
          let head : head_of l.head ≡ Some (Name named.0) = ap (λ x. head_of x.head) st.is
          ∙ close-named (env_under [] (vars_from 0 n)) st.standing.head named.0 name in
          ap (λ h. same_head (head_of a) h && nat_eq (arity a) (arity l.head)) head
          ∙ ap (λ b. b && nat_eq (arity a) (arity l.head)) (never-same (head_of a) named.0 (un named.0))

  no_leaf_tries : (e : Entry Form) → FormFits (given ms 0) ClauseSide [] e.clause → (k : ℕ) (ns : List ℕ) → leaf_tries a e k ns ≡ []
  no_leaf_tries e f k [] = refl
  no_leaf_tries e f k (n ∷ ns) =
      ap (λ b. if b then record { label = e.label; leaf = k } ∷ leaf_tries a e (suc k) ns else leaf_tries a e (suc k) ns) (unfit e.clause f k n)
      ∙ no_leaf_tries e f (suc k) ns

  no_entry_tries : (e : Entry Form) → FormFits (given ms 0) ClauseSide [] e.clause → entry_tries a e ≡ []
  no_entry_tries e f = go (is_open e)
    where
      go : (b : Bool) → (if b then leaf_tries a e 0 (ways e.clause) else []) ≡ []
      go true = no_leaf_tries e f 0 (ways e.clause)
      go false = refl

  -- an atom whose head is no name has no candidate among the program's clauses
  pub no_program : (first : First) (n : ℕ) (cs : List ClauseTree) (es : List (Entry Form)) → AreClauses names ms [] cs → AreOfProgram n cs es
      → flat_map (entry_matches first a) es ≡ []
  no_program first n [] [] v h = refl
  no_program first n [] (e ∷ es) v h = absurd h
  no_program first n (c ∷ cs) [] v h = absurd h
  no_program first n (c ∷ cs) (e ∷ es) v h =
      let f : FormFits (given ms 0) ClauseSide [] e.clause = subst (FormFits (given ms 0) ClauseSide []) (sym h.2)
      (fits_of_formula (given ms 0) ClauseSide [] c.form v.0) in
      ap (λ xs. filter (λ d. not (signs_clash first (leaf_first e.clause d.leaf))) xs ++ flat_map (entry_matches first a) es) (no_entry_tries e f)
      ∙ no_program first (suc n) cs es v.2 h.3

-- ---- the entry of a program's clause, by its place

entry_found : (e : Entry Form) (es : List (Entry Form)) (label : ℕ) → e.label ≡ label → entry_at (e ∷ es) label ≡ Some e
entry_found e es label h = ap (λ b. if b then Some e else entry_at es label) (eq-eqb e.label label h)

entry_further : (e : Entry Form) (es : List (Entry Form)) (label : ℕ) → e.label < label → entry_at (e ∷ es) label ≡ entry_at es label
entry_further e es label h = ap (λ b. if b then Some e else entry_at es label) (ne_eqb e.label label (λ w. absurd (omega arith)))

pub program_entry : (n : ℕ) (cs : List ClauseTree) (es : List (Entry Form)) (k label : ℕ) (e : Entry Form) → AreOfProgram n cs es → label ≡ n + k
    → slice_get es k ≡ Some e → entry_at es label ≡ Some e
program_entry n [] [] k label e h l g = cc
program_entry n [] (d ∷ es) k label e h l g = absurd h
program_entry n (c ∷ cs) [] k label e h l g = absurd h
program_entry n (c ∷ cs) (d ∷ es) zero label e h l g =
    let own : d.label ≡ label = h.0 ∙ (omega arith) in
    entry_found d es label own ∙ g
program_entry n (c ∷ cs) (d ∷ es) (suc k) label e h l g =
    let below : d.label < label = let z = h.0 in omega arith in
    entry_further d es label below ∙ program_entry (suc n) cs es k label e h.3 (omega arith) g
