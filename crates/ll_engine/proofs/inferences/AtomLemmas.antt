-- What a machine knows of the atom in front, and of the entries of its context.
use Rattle.std.proofs.Common.{◌≡◌, ℕ, zero, suc, ◌+◌, ◌-◌, ◌≤◌, true, List, [], ◌∷◌, ◌++◌, length, map, refl, ap, sym, subst, ◌∙◌, arith, All, take, drop}
use Rattle.std.specs.Prelude.{◌&&◌, Some, flat_map}
use Rattle.std.proofs.Math.Seq.{drop-append_seam}
use Rattle.std.proofs.lemmas.List.{take-append-drop, take-map, length-map, append-nil}
use Rattle.std.proofs.lemmas.List.Elements.{All-head, All-tail, All-cons, All-append}
use Rattle.std.proofs.lemmas.Grind.{flat_map-append}
use Rattle.ll_list_laws.proofs.CallerLemmas.{and_true_left as and_left, and_true_right as and_right}
use Rattle.ll_bank.specs.declared.At.{At}
use Rattle.ll_bank.specs.declared.FormAt.{FormAt}
use Rattle.ll_bank.specs.declared.FormNode.{FormNode}
use Rattle.ll_bank.specs.declared.FormNode.TheVariants.{Top as TopView, One as OneView, Atom as AtomView, With as WithView, Tensor as TensorView}
use Rattle.ll_bank.specs.declared.FormNode.TheVariants.{Plus as PlusView, Bang as BangView, Lolli as LolliView, Imp as ImpView, Forall as ForallView}
use Rattle.ll_bank.specs.declared.FormNode.TheVariants.{Exists as ExistsView, Use as UseView, Is as IsView, Less as LessView, Most as MostView}
use Rattle.ll_bank.specs.declared.Head.TheVariants.{Name}
use Rattle.ll_bank.specs.Term.{Term, Env, sub, close, head_of, arity, is_spine, applies_heads}
use Rattle.ll_bank.specs.Form.{Form, Top, One, Atom, With, Tensor, Plus, Bang, Lolli, Imp, Forall, Exists, Use, Num, sub_form, close_form}
use Rattle.ll_bank.specs.Nodes.{Nodes, HasTerm, form_tree, term_tree, form_of}
use Rattle.ll_bank.specs.declared.environment.Environment.{Environment}
use Rattle.ll_bank.specs.Environments.{values_in, IsWithin}
use Rattle.ll_bind.specs.Built.{begins_fixed}
use Rattle.ll_unify.specs.Bindings.{HasCells}
use Rattle.ll_unify.proofs.CallerLemmas.{cells-below}
use Rattle.ll_laws.proofs.CallerLemmas.{headed_applies}
use Rattle.ll_laws.specs.declared.Candidate.{Candidate}
use Rattle.ll_laws.specs.Settle.{Entry}
use Rattle.ll_laws.specs.Attempt.{only_try}
use Rattle.ll_laws.specs.Unify.{vars_below}
use Rattle.ll_laws.specs.Valid.{Allowed, ClauseSide, GoalSide, IsFormula, each_term, places_below, may_head, is_headed}
use Rattle.ll_laws.specs.Consistent.{AreResources, allowed_in}
use Rattle.ll_index.specs.Context.{AreOfProgram}
use Rattle.ll_index.specs.First.{first_of, entry_matches}
use Rattle.ll_freeze.specs.declared.machine.Machine.{Machine}
use Rattle.ll_freeze.specs.declared.machine.Item.{Item as KeptItem}
use Rattle.ll_freeze.specs.declared.machine.Item.TheVariants.{Goal as KeptGoal, LolliEnd as KeptLolliEnd, ImpEnd as KeptImpEnd, Mid as KeptMiddle}
use Rattle.ll_freeze.specs.declared.machine.Item.TheVariants.{WithEnd as KeptWithEnd, BangEnd as KeptBangEnd}
use Rattle.ll_freeze.specs.Parts.{Parts, parts_of, table}
use Rattle.ll_freeze.specs.Fits.{Fits, allowed, setting}
use Rattle.ll_freeze.specs.Reading.{reading, read_form, goal_tree}
use Rattle.ll_freeze.specs.Shown.{shown_item, shown_entry, items_of, state_of}
use Rattle.ll_freeze.proofs.CallerLemmas.{has_program}
use Rattle.ll_engine.specs.Front.{HasAtom}
use Rattle.ll_engine.specs.declared.heads.Asked.{Asked}
use Rattle.ll_engine.specs.Leaves.{heads, open_tries, standing_entry}
use Rattle.ll_engine.specs.Matches.{goal_matches, agenda_matches, matches, shown_context, AsksFor, head_fits}
use Rattle.ll_engine.proofs.machine.MachineLemmas.{goal_in_front, goal_sorted}
use Rattle.ll_engine.proofs.machine.ReadLemmas.{fits_table}
use Rattle.ll_engine.proofs.machine.Standing.{heads-sub, spine-head, spine-arity}
use Rattle.ll_engine.proofs.matching.ClosedLemmas.{begins_closed}
use Rattle.ll_engine.proofs.matching.LeafLemmas.{HasPredicate, head_free}
use Rattle.ll_engine.proofs.matching.MatchLemmas.{no_program}
use Rattle.ll_engine.proofs.matching.Finding.{entries_walked}

-- ---- the candidates of the goal in front

matches_shown : (m : Parts) (g : FormAt) (n : Environment) (f : Form) (rest : List KeptItem) → items_of m ≡ KeptGoal g n ∷ rest → goal_tree m.bank n g ≡ f
    → matches (state_of m) ≡ goal_matches (shown_context m) (sub_form (reading m.bank m.bound) f)
unfolding matches state_of
matches_shown m g n f rest e t =
    ap (λ is. agenda_matches (map (shown_item m.bank m.bound m.resources.kept) is) (shown_context m)) e
    ∙ ap (λ h. goal_matches (shown_context m) (sub_form (reading m.bank m.bound) h)) t

context_shown : (m : Parts) → (state_of m).context ≡ shown_context m
unfolding state_of
context_shown m = refl

allowed_here : (m : Parts) → allowed_in (setting m) (state_of m) ≡ allowed m
unfolding state_of
allowed_here m = refl

-- an atom as it stands, with the variables of an environment in place of its free bound places, and as it is read
abbrev pub atom_in : Parts → Environment → At → Term
atom_in m n atom = close (values_in n) (term_tree m.bank atom.0)

abbrev pub read_atom : Parts → Environment → At → Term
read_atom m n atom = sub (reading m.bank m.bound) (atom_in m n atom)

-- what is known of the atom in front
pub record IsAtom (m : Parts) (atom : At) (n : Environment) : Type 0 where
  pub matches_are : matches (state_of m) ≡ flat_map (entry_matches (first_of (read_atom m n atom)) (read_atom m n atom)) (shown_context m)
  pub inside : HasTerm m.bank atom.0
  pub within : IsWithin (length m.levels) n
  pub begins : begins_fixed (term_tree m.bank atom.0) ≡ true
  pub heads : applies_heads (atom_in m n atom) ≡ true
  pub choices : is_spine (atom_in m n atom) ≡ true
  pub closed : places_below 0 (atom_in m n atom) ≡ true
  pub closed_read : places_below 0 (read_atom m n atom) ≡ true
  pub variables : vars_below (length m.levels) (read_atom m n atom) ≡ true
  pub cells : HasCells m.bank (table m) (atom_in m n atom)

pub atom_front : (m : Parts) (atom : At) (n : Environment) → Fits m → HasAtom m atom n → IsAtom m atom n
atom_front m atom n f h =
    let w = h.1 in
    let t = atom_in m n atom in
    let e : goal_tree m.bank n w.goal ≡ Atom t = ap (close_form (values_in n)) w.seen.tree in
    let sorted = goal_sorted m w.goal n _ f w.list in
    let stands : IsFormula (allowed m) GoalSide [] (Atom t) = subst (IsFormula (allowed m) GoalSide []) e sorted.1 in
    let read : IsFormula (allowed m) GoalSide [] (Atom (read_atom m n atom)) =
    subst (λ may. IsFormula may GoalSide [] (Atom (read_atom m n atom))) (allowed_here m)
    (subst (λ g. IsFormula (allowed_in (setting m) (state_of m)) GoalSide [] (sub_form (reading m.bank m.bound) g)) e
    (goal_in_front m w.goal n _ f w.list)) in
    let spine = and_left (is_spine t) (may_head [] (head_of t)) (and_left (is_spine t && may_head [] (head_of t)) (is_headed [] t) stands.heads) in
    record {
      matches_are = matches_shown m w.goal n (Atom t) _ w.list e;
      inside = w.seen.parts;
      within = sorted.0;
      begins = begins_closed n (term_tree m.bank atom.0) spine stands.closed;
      heads = headed_applies [] t (and_right (is_spine t && may_head [] (head_of t)) (is_headed [] t) stands.heads);
      choices = spine;
      closed = stands.closed;
      closed_read = read.closed;
      variables = read.variables;
      cells = cells-below m.bank (table m) t (fits_table m f) read.variables;
    }

-- ---- the context

-- where the program's entries begin
pub record IsSplit (m : Parts) (n : ℕ) : Type 0 where
  pub enough : length m.problem.clauses ≤ length m.resources.entries
  pub of : AreOfProgram 0 m.problem.clauses (drop n (shown_context m))

pub splits : (m : Parts) (n : ℕ) → Fits m → n ≡ length m.resources.entries - length m.problem.clauses → IsSplit m n
splits m n f e =
    let p = has_program m.problem.clauses (state_of m) f.rests in
    let all : shown_context m ≡ p.above ++ p.under = sym (context_shown m) ∙ p.all in
    let count : length m.resources.entries ≡ length p.above + length m.problem.clauses =
    sym (length-map m.resources.entries (shown_entry m.bank m.bound)) ∙ (ap (λ xs. length xs) (sym (context_shown m)) ∙ p.count) in
    let q : n ≡ length p.above = omega arith in
    record {
      enough = omega arith;
      of =
          subst (AreOfProgram 0 m.problem.clauses) (sym (ap (λ k. drop k (shown_context m)) q
          ∙ (ap (drop (length p.above)) all ∙ drop-append_seam p.above p.under))) p.of;
    }

-- candidates of a context in two parts
pub two_parts : (m : Parts) (n : ℕ) (f : Entry Form → List Candidate)
    → flat_map f (shown_context m) ≡ flat_map f (map (shown_entry m.bank m.bound) (take n m.resources.entries)) ++ flat_map f (drop n (shown_context m))
two_parts m n f =
    ap (flat_map f) (sym (take-append-drop n (shown_context m)))
    ∙ (flat_map-append f (take n (shown_context m)) (drop n (shown_context m))
    ∙ ap (λ xs. flat_map f xs ++ flat_map f (drop n (shown_context m))) (take-map (shown_entry m.bank m.bound) n m.resources.entries))

-- ---- the heads of entries have variables with cells

each_head : (n m : ℕ) (f : Form) → each_term (λ k. vars_below n) m f ≡ true → All (λ h. vars_below n h ≡ true) (heads f)
each_head n m Top e = λ i d l. absurd (omega arith)
each_head n m One e = λ i d l. absurd (omega arith)
each_head n m (Atom a) e = All-cons (λ h. vars_below n h ≡ true) a [] e (λ i d l. absurd (omega arith))
each_head n m (With f g) e =
    All-append (λ h. vars_below n h ≡ true) (heads f) (heads g)
    (each_head n m f (and_left (each_term (λ k. vars_below n) m f) (each_term (λ k. vars_below n) m g) e))
    (each_head n m g (and_right (each_term (λ k. vars_below n) m f) (each_term (λ k. vars_below n) m g) e))
each_head n m (Tensor f g) e = λ i d l. absurd (omega arith)
each_head n m (Plus f g) e = λ i d l. absurd (omega arith)
each_head n m (Bang f) e = λ i d l. absurd (omega arith)
each_head n m (Lolli f g) e = each_head n m g (and_right (each_term (λ k. vars_below n) m f) (each_term (λ k. vars_below n) m g) e)
each_head n m (Imp f g) e = each_head n m g (and_right (each_term (λ k. vars_below n) m f) (each_term (λ k. vars_below n) m g) e)
each_head n m (Forall f) e = each_head n (suc m) f e
each_head n m (Exists f) e = λ i d l. absurd (omega arith)
each_head n m (Use k ts f) e = λ i d l. absurd (omega arith)
each_head n m (Num r t u) e = λ i d l. absurd (omega arith)

all-map : {A B : Type 0} (P : B → Type 0) (f : A → B) (xs : List A) → All P (map f xs) → All (λ x. P (f x)) xs
all-map P f [] h = λ i d l. absurd (omega arith)
all-map P f (x ∷ xs) h = All-cons (λ x. P (f x)) x xs (All-head P (f x) (map f xs) h) (all-map P f xs (All-tail P (f x) (map f xs) h))

-- so it is for the heads as they are read
abbrev pub HeadsBelow : Parts → FormAt → Type 0
HeadsBelow m g = All (λ h. vars_below (length m.levels) (sub (reading m.bank m.bound) h) ≡ true) (heads (form_tree m.bank g.0))

clause_below : (m : Parts) (may : Allowed) (g : FormAt) → may.variables ≡ length m.levels → IsFormula may ClauseSide [] (read_form m.bank m.bound g)
    → HeadsBelow m g
clause_below m may g e h =
    all-map (λ t. vars_below (length m.levels) t ≡ true) (sub (reading m.bank m.bound)) (heads (form_tree m.bank g.0))
    (subst (All (λ t. vars_below (length m.levels) t ≡ true)) (heads-sub (reading m.bank m.bound) (form_tree m.bank g.0))
    (each_head (length m.levels) 0 (read_form m.bank m.bound g)
    (subst (λ n. each_term (λ k. vars_below n) 0 (read_form m.bank m.bound g) ≡ true) e h.variables)))

entries_below : (m : Parts) (may : Allowed) (es : List (Entry FormAt)) → may.variables ≡ length m.levels
    → AreResources may (map (shown_entry m.bank m.bound) es)
    → All (λ (e : Entry FormAt). HeadsBelow m e.clause) es
entries_below m may [] v h = λ i d l. absurd (omega arith)
entries_below m may (e ∷ es) v h = All-cons (λ (e : Entry FormAt). HeadsBelow m e.clause) e es (clause_below m may e.clause v h.0)
    (entries_below m may es v h.1)

resources_shown : (m : Parts) → Fits m → AreResources (allowed m) (shown_context m)
unfolding state_of
resources_shown m f = f.consistent.resources

pub heads_below : (m : Parts) → Fits m → All (λ (e : Entry FormAt). HeadsBelow m e.clause) m.resources.entries
heads_below m f = entries_below m (allowed m) m.resources.entries refl (resources_shown m f)

-- ---- goals that are no atoms

pub matches_empty : (m : Parts) → items_of m ≡ [] → matches (state_of m) ≡ []
unfolding matches state_of
matches_empty m e = ap (λ is. agenda_matches (map (shown_item m.bank m.bound m.resources.kept) is) (shown_context m)) e

-- ---- all that can match

all-take : {A : Type 0} (P : A → Type 0) (n : ℕ) (xs : List A) → All P xs → All P (take n xs)
all-take P zero xs h = λ i d l. absurd (omega arith)
all-take P (suc n) [] h = h
all-take P (suc n) (x ∷ xs) h = All-cons P x (take n xs) (All-head P x xs h) (all-take P n xs (All-tail P x xs h))

module _ (k : Machine) (atom : At) (n : Environment) (asked : Asked) (f : Fits (parts_of k)) (w : IsAtom (parts_of k) atom n)
    (asks : AsksFor k.store (close (values_in n) (term_tree k.store.bank atom.0)) asked) where
  abbrev m : Parts
  m = parts_of k

  abbrev read : Term
  read = read_atom m n atom

  head_read : head_of read ≡ Some asked.predicate.head
  head_read = spine-head (reading m.bank m.bound) (atom_in m n atom) w.choices ∙ asks.head

  pub arity_read : arity read ≡ asked.predicate.arity
  arity_read = spine-arity (reading m.bank m.bound) (atom_in m n atom) w.choices ∙ asks.arity_is

  pub name_read : (name : ℕ) → asked.predicate.head ≡ Name name → head_of read ≡ Some (Name name)
  name_read name e = head_read ∙ ap (λ h. Some h) e

  has : HasPredicate asked.predicate read
  has = record { head = head_read; arity = arity_read; free = head_free read asked.predicate.head w.closed_read head_read }

  -- the walk over the loaded entries and the program's own candidates give all
  pub all_matches : (count : ℕ) (found loaded all : List Candidate) → found ≡ []
      → loaded ≡ found ++ flat_map (open_tries (head_fits k.store asked)) (map (standing_entry m.bank) (take count m.resources.entries))
      → all ≡ loaded ++ flat_map (entry_matches asked.first read) (drop count (shown_context m)) → all ≡ matches (state_of m)
  all_matches count found loaded all none walked rest =
      let walk = entries_walked k.store asked read has (allowed m) (take count m.resources.entries)
      (all-take (λ (e : Entry FormAt). IsFormula (allowed m) ClauseSide [] (form_tree m.bank e.clause.0)) count m.resources.entries f.sorted_clauses) in
      let P = flat_map (entry_matches asked.first read) (drop count (shown_context m)) in
      rest
      ∙
      (ap (λ xs. xs ++ P)
      (walked ∙ (ap (λ xs. xs ++ flat_map (open_tries (head_fits k.store asked)) (map (standing_entry m.bank) (take count m.resources.entries))) none
      ∙ sym walk))
      ∙ (sym (two_parts m count (entry_matches asked.first read))
      ∙ (ap (λ s. flat_map (entry_matches s read) (shown_context m)) asks.first ∙ sym w.matches_are)))

  -- where the head is no name the walk alone does
  pub loaded_match : (count : ℕ) (found loaded all : List Candidate) → AreOfProgram 0 m.problem.clauses (drop count (shown_context m))
      → ((name : ℕ) → asked.predicate.head ≡ Name name → ⊥) → found ≡ []
      → loaded ≡ found ++ flat_map (open_tries (head_fits k.store asked)) (map (standing_entry m.bank) (take count m.resources.entries)) → all ≡ loaded
      → all ≡ matches (state_of m)
  loaded_match count found loaded all of un none walked same =
      all_matches count found loaded all none walked
      (same
      ∙ (sym (append-nil loaded)
      ∙ ap (λ xs. loaded ++ xs)
      (sym (no_program (length m.problem.names) m.problem.modules read (λ i e. let q : Some asked.predicate.head ≡ Some (Name i) = sym head_read ∙ e in
      un i (cc (q))) asked.first 0 m.problem.clauses (drop count (shown_context m)) f.valid.clauses of))))

-- an end in front has no candidate
pub matches_end : (m : Parts) (i : KeptItem) (rest : List KeptItem) → items_of m ≡ i ∷ rest → ((g : FormAt) (n : Environment) → i ≡ KeptGoal g n → ⊥)
    → matches (state_of m) ≡ []
unfolding matches state_of
matches_end m i rest e not = ap (λ is. agenda_matches (map (shown_item m.bank m.bound m.resources.kept) is) (shown_context m)) e ∙ go i not
  where
    go : (j : KeptItem) → ((g : FormAt) (n : Environment) → j ≡ KeptGoal g n → ⊥)
        → agenda_matches (map (shown_item m.bank m.bound m.resources.kept) (j ∷ rest)) (shown_context m) ≡ []
    go (KeptGoal g v) n = absurd (n g v refl)
    go (KeptLolliEnd b) n = refl
    go KeptImpEnd n = refl
    go (KeptMiddle s) n = refl
    go (KeptWithEnd s h) n = refl
    go (KeptBangEnd s) n = refl

-- a goal that is neither an atom nor a `;` has one
one_match : (bank : Nodes) (s : ℕ → Term) (env : Env) (es : List (Entry Form)) (v : FormNode) → ((a : At) → v ≡ AtomView a → ⊥)
    → ((f g : FormAt) → v ≡ PlusView f g → ⊥) → goal_matches es (sub_form s (close_form env (form_of bank v))) ≡ only_try
one_match bank s env es TopView a p = refl
one_match bank s env es OneView a p = refl
one_match bank s env es (AtomView t) a p = absurd (a t refl)
one_match bank s env es (WithView x y) a p = refl
one_match bank s env es (TensorView x y) a p = refl
one_match bank s env es (PlusView x y) a p = absurd (p x y refl)
one_match bank s env es (BangView x) a p = refl
one_match bank s env es (LolliView x y) a p = refl
one_match bank s env es (ImpView x y) a p = refl
one_match bank s env es (ForallView x) a p = refl
one_match bank s env es (ExistsView x) a p = refl
one_match bank s env es (UseView m ts x) a p = refl
one_match bank s env es (IsView x y) a p = refl
one_match bank s env es (LessView x y) a p = refl
one_match bank s env es (MostView x y) a p = refl

pub matches_one : (m : Parts) (g : FormAt) (n : Environment) (v : FormNode) (rest : List KeptItem) → items_of m ≡ KeptGoal g n ∷ rest
    → form_tree m.bank g.0 ≡ form_of m.bank v → ((a : At) → v ≡ AtomView a → ⊥) → ((x y : FormAt) → v ≡ PlusView x y → ⊥) → matches (state_of m) ≡ only_try
matches_one m g n v rest e t a p =
    matches_shown m g n (close_form (values_in n) (form_of m.bank v)) rest e (ap (close_form (values_in n)) t)
    ∙ one_match m.bank (reading m.bank m.bound) (values_in n) (shown_context m) v a p

-- a `;` has two
pub matches_two : (m : Parts) (g : FormAt) (n : Environment) (x y : FormAt) (rest : List KeptItem) → items_of m ≡ KeptGoal g n ∷ rest
    → form_tree m.bank g.0 ≡ form_of m.bank (PlusView x y)
    → matches (state_of m) ≡ record { label = 0; leaf = 0 } ∷ record { label = 0; leaf = 1 } ∷ []
matches_two m g n x y rest e t = matches_shown m g n (close_form (values_in n) (form_of m.bank (PlusView x y))) rest e (ap (close_form (values_in n)) t)
