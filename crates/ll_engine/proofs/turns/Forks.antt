-- The forks of a branch are counted by the path to it.
use Rattle.std.proofs.Common.{◌≡◌, ℕ, ◌+◌, refl, ap, sym, ◌∙◌, subst, Bool, true, false, List, [], ◌∷◌, ◌++◌, append_assoc, arith, length, drop}
use Rattle.std.proofs.lemmas.List.Folds.{list_any-append}
use Rattle.std.specs.Prelude.{Option, Some, None, option_map, option_and_then, slice_get, ◌||◌, ◌&&◌, nat_eq, ℤ, if◌then◌else◌}
use Rattle.std.specs.List.{list_any}
use Rattle.std.proofs.Math.Seq.{drop-append_seam}
use Rattle.std.proofs.lemmas.Bool.{or_from as or_both}
use Rattle.std.proofs.lemmas.List.{append-nil as append_nil}
use Rattle.ll_list_laws.proofs.CallerLemmas.{eq-refl as eq_refl, not_eq_sym, or_false_left as or_left, or_false_right as or_right}
use Rattle.ll_laws.specs.declared.Candidate.{Candidate}
use Rattle.ll_laws.specs.declared.Step.{Step}
use Rattle.ll_laws.specs.declared.Step.TheVariants.{Plain, Left, Right, Clause as ClauseStep}
use Rattle.ll_bank.specs.Term.{Term}
use Rattle.ll_bank.specs.Form.{Form, Top, One, Atom, With, Tensor, Plus, Bang, Lolli, Imp, Forall, Exists, Use, Num, Is, Less, Most}
use Rattle.ll_laws.specs.Leaf.{ways, leaf}
use Rattle.ll_laws.specs.Module.{Setting, ModuleTree}
use Rattle.ll_laws.specs.Settle.{Item, Goal}
use Rattle.ll_laws.specs.State.{State, settle}
use Rattle.ll_laws.specs.Attempt.{tries, agenda_tries, attempt, attempt_agenda, attempt_goal, goal_tries, take_entry, take_way, take_leaf, load_module}
use Rattle.ll_laws.specs.Attempt.{take_value, stepped, entry_at, vars_from}
use Rattle.ll_laws.specs.Number.{value_of, holds}
use Rattle.ll_laws.specs.Search.{forks, forks_settled, forks_after, count_fork, gives_some, later, same_candidate, candidate_of}
use Rattle.ll_laws.proofs.CallerLemmas.{settle_steps}
use Rattle.ll_engine.specs.Owed.{Thins, thin_keep, thin_skip}
use Rattle.ll_engine.specs.Healthy.{Distinct, Path, here, next}

-- candidates

same_refl : (c : Candidate) → same_candidate c c ≡ true
same_refl c = let e1 = eq_refl c.label in let e2 = eq_refl c.leaf in rw (e1, e2)

and_sym : (a b a' b' : Bool) → (a ≡ false → a' ≡ false) → (b ≡ false → b' ≡ false) → (a && b) ≡ false → (a' && b') ≡ false
and_sym false b a' b' ha hb e = let e1 = ha refl in rw e1
and_sym true b a' b' ha hb e = go a' (hb e)
  where
    go : (x : Bool) → b' ≡ false → (x && b') ≡ false
    go true h = h
    go false h = refl

same_sym : (c d : Candidate) → same_candidate c d ≡ false → same_candidate d c ≡ false
same_sym c d e = and_sym (nat_eq c.label d.label) (nat_eq c.leaf d.leaf) _ _ (not_eq_sym c.label d.label) (not_eq_sym c.leaf d.leaf) e

-- the candidate at a cut stands nowhere before it
pub not_before : (pre post : List Candidate) (c : Candidate) → Distinct (pre ++ c ∷ post) → list_any (same_candidate c) pre ≡ false
not_before [] post c h = refl
not_before (d ∷ pre) post c h =
    let e0 = sym (list_any-append (same_candidate d) pre (c ∷ post)) ∙ h.0 in
    let e1 = or_right (list_any (same_candidate d) pre) (same_candidate d c || list_any (same_candidate d) post) e0 in
    or_both (same_candidate c d) (list_any (same_candidate c) pre) (same_sym d c (or_left (same_candidate d c) _ e1)) (not_before pre post c h.1)

pub later_is : (pre post : List Candidate) (c : Candidate) → list_any (same_candidate c) pre ≡ false → later c (pre ++ c ∷ post) ≡ post
later_is [] post c e = let h = same_refl c in rw h
later_is (d ∷ pre) post c e =
    let h = or_left (same_candidate c d) (list_any (same_candidate c) pre) e in
    rw h (later_is pre post c (or_right (same_candidate c d) (list_any (same_candidate c) pre) e))

-- the first candidate of a thinner list cuts the longer one
pub record Cut (beside : Setting) (t : State) (c : Candidate) (cs ds : List Candidate) : Type 0 where
  pub mid : List Candidate
  pub post : List Candidate
  pub cut : ds ≡ mid ++ c ∷ post
  pub thins : Thins beside t cs post

pub cut : (beside : Setting) (t : State) (c : Candidate) (cs ds : List Candidate) → Thins beside t (c ∷ cs) ds → Cut beside t c cs ds
cut beside t c cs [] h = elim h [ ]
cut beside t c cs (d ∷ ds) (thin_keep h) = record { mid = []; post = ds; cut = refl; thins = h }
cut beside t c cs (d ∷ ds) (thin_skip e h) =
    let k = cut beside t c cs ds h in record { mid = d ∷ k.mid; post = k.post; cut = ap (λ x. d ∷ x) k.cut; thins = k.thins }

-- settling takes no step, and an inference takes the step of its candidate

pub record Stepped (t u : State) (c : Candidate) : Type 0 where
  pub step : Step
  pub steps : u.steps ≡ t.steps ++ step ∷ []
  pub is : candidate_of step ≡ c

by_plain : (s u v : State) (c : Candidate) → Some v ≡ Some u → v.steps ≡ s.steps ++ Plain ∷ [] → candidate_of Plain ≡ c → Stepped s u c
by_plain s u v c e h k = let e1 : v ≡ u = cc in record { step = Plain; steps = sym (ap (λ x. x.steps) e1) ∙ h; is = k }

by_side : (s u : State) (items : List (Item Form)) (step : Step) → Some (stepped s items step) ≡ Some u → {c : Candidate} → candidate_of step ≡ c
    → Stepped s u c
by_side s u items step e k = let e1 : stepped s items step ≡ u = cc in record { step = step; steps = sym (ap (λ x. x.steps) e1); is = k }

none_end : {A : Type 0} (pre post : List A) (c : A) → [] ≡ pre ++ c ∷ post → ⊥
none_end [] post c e = cc
none_end (x ∷ pre) post c e = cc

the_only : (pre post : List Candidate) (d c : Candidate) → d ∷ [] ≡ pre ++ c ∷ post → d ≡ c
the_only [] post d c e = cc
the_only (x ∷ pre) post d c e = let e1 : [] ≡ pre ++ c ∷ post = cc in absurd (none_end pre post c e1)

then_some : {A B : Type 0} (P : B → Type 0) (f : A → Option B) (o : Option A) (u : B) → option_and_then f o ≡ Some u → ((x : A) → f x ≡ Some u → P u) → P u
then_some P f None u e h = cc
then_some P f (Some x) u e h = h x e

map_some : {A B : Type 0} (P : B → Type 0) (f : A → B) (o : Option A) (u : B) → option_map f o ≡ Some u → ((x : A) → f x ≡ u → P u) → P u
map_some P f None u e h = cc
map_some P f (Some x) u e h = h x (cc)

by_module : (s u : State) (rest : List (Item Form)) (ts : List Term) (g : Form) (o : Option ModuleTree) (c : Candidate) → candidate_of Plain ≡ c
    → load_module s rest ts g o ≡ Some u → Stepped s u c
by_module s u rest ts g None c k e = cc
by_module s u rest ts g (Some m) c k e = by_plain s u (stepped s _ Plain) c e refl k

-- an `is`, by the value of its right side
by_value : (s u : State) (t : Term) (rest : List (Item Form)) (v : Option ℤ) (c : Candidate) → candidate_of Plain ≡ c
    → take_value s t rest v ≡ Some u → Stepped s u c
by_value s u t rest None c k e = cc
by_value s u t rest (Some z) c k e = map_some (λ u. Stepped s u c) _ _ u e (λ v e1. record { step = Plain; steps = sym (ap (λ x. x.steps) e1); is = k })

-- a test of two values
by_test : (s u : State) (rest : List (Item Form)) (b : Bool) (c : Candidate) → candidate_of Plain ≡ c
    → (if b then Some (stepped s rest Plain) else None) ≡ Some u → Stepped s u c
by_test s u rest true c k e = by_side s u rest Plain e k
by_test s u rest false c k e = cc

goal_step : (beside : Setting) (s : State) (g : Form) (rest : List (Item Form)) (c : Candidate) (u : State) (pre post : List Candidate)
    → goal_tries s.context g ≡ pre ++ c ∷ post → attempt_goal beside s g rest c ≡ Some u → Stepped s u c
goal_step beside s One rest c u pre post h e = by_plain s u _ c e refl (the_only pre post _ c h)
goal_step beside s Top rest c u pre post h e = by_plain s u _ c e refl (the_only pre post _ c h)
goal_step beside s (Tensor f g) rest c u pre post h e = by_plain s u _ c e refl (the_only pre post _ c h)
goal_step beside s (With f g) rest c u pre post h e = by_plain s u _ c e refl (the_only pre post _ c h)
goal_step beside s (Bang f) rest c u pre post h e = by_plain s u _ c e refl (the_only pre post _ c h)
goal_step beside s (Lolli f g) rest c u pre post h e = by_plain s u _ c e refl (the_only pre post _ c h)
goal_step beside s (Imp f g) rest c u pre post h e = by_plain s u _ c e refl (the_only pre post _ c h)
goal_step beside s (Forall f) rest c u pre post h e = by_plain s u _ c e refl (the_only pre post _ c h)
goal_step beside s (Exists f) rest c u pre post h e = by_plain s u _ c e refl (the_only pre post _ c h)
goal_step beside s (Use m ts g) rest c u pre post h e = by_module s u rest ts g (slice_get beside.modules m) c (the_only pre post _ c h) e
goal_step beside s (Num Is t x) rest c u pre post h e = by_value s u t rest (value_of beside.operators x) c (the_only pre post _ c h) e
goal_step beside s (Num Less t x) rest c u pre post h e = by_test s u rest (holds beside.operators Less t x) c (the_only pre post _ c h) e
goal_step beside s (Num Most t x) rest c u pre post h e = by_test s u rest (holds beside.operators Most t x) c (the_only pre post _ c h) e
goal_step beside s (Plus f g) rest c u [] post h e =
    let e1 : record { label = 0; leaf = 0 } ≡ c = cc in
    let P : Candidate → Type 0 = λ c. attempt_goal beside s (Plus f g) rest c ≡ Some u → Stepped s u c in subst P e1 (λ e. by_side s u _ Left e refl) e
goal_step beside s (Plus f g) rest c u (d ∷ pre) post h e =
    let e0 : record { label = 0; leaf = 1 } ∷ [] ≡ pre ++ c ∷ post = cc in let e1 = the_only pre post _ c e0 in
    let P : Candidate → Type 0 = λ c. attempt_goal beside s (Plus f g) rest c ≡ Some u → Stepped s u c in subst P e1 (λ e. by_side s u _ Right e refl) e
goal_step beside s (Atom a) rest c u pre post h e =
    then_some (λ u. Stepped s u c) (take_entry s a rest c.label c.leaf) (entry_at s.context c.label) u e (λ x e1.
    then_some (λ u. Stepped s u c) (take_way s a rest c.label c.leaf x) (slice_get (ways x.clause) c.leaf) u e1 (λ n e2.
    then_some (λ u. Stepped s u c) (take_leaf s a rest c.label c.leaf n) (leaf x.clause c.leaf (vars_from (length s.levels) n)) u e2 (λ l e3.
    map_some (λ u. Stepped s u c) _ _ u e3 (λ v e4. record { step = ClauseStep c.label c.leaf; steps = sym (ap (λ x. x.steps) e4); is = refl }))))

of_agenda : (beside : Setting) (t : State) (a : List (Item Form)) (c : Candidate) (u : State) (pre post : List Candidate)
    → agenda_tries a t.context ≡ pre ++ c ∷ post → attempt_agenda beside t a c ≡ Some u → Stepped t u c
of_agenda beside t (Goal g ∷ rest) c u pre post h e = goal_step beside t g rest c u pre post h e
of_agenda beside t _ c u pre post h e = cc

pub attempt_step : (beside : Setting) (t : State) (c : Candidate) (u : State) (pre post : List Candidate) → tries t ≡ pre ++ c ∷ post
    → attempt beside t c ≡ Some u → Stepped t u c
unfolding tries attempt
attempt_step beside t c u pre post h e = of_agenda beside t t.agenda c u pre post h e

-- the forks of all longer branches

count_more : (b : Bool) (k n : ℕ) → k + count_fork b n ≡ count_fork b k + n
count_more true k n = omega arith
count_more false k n = refl

forks_next : (beside : Setting) (step : Step) (steps : List Step) (s t u : State) (pre post : List Candidate) (c : Candidate) → settle s ≡ Some t
    → tries t ≡ pre ++ c ∷ post → list_any (same_candidate c) pre ≡ false → attempt beside t c ≡ Some u → candidate_of step ≡ c
    → forks beside (step ∷ steps) s ≡ count_fork (gives_some beside t post) (forks beside steps u)
unfolding forks
forks_next beside step steps s t u pre post c h1 h2 h3 h4 h5 =
    let e1 = later_is pre post c h3 in
    rw (h1, forks_settled) (rw (h5, h2, e1, h4, forks_after))

pub record Leads (beside : Setting) (f s : State) (k : ℕ) : Type 0 where
  pub more : List Step
  pub steps : s.steps ≡ f.steps ++ more
  pub forks : (rest : List Step) → forks beside (more ++ rest) f ≡ k + forks beside rest s

pub leads : (beside : Setting) (f s : State) (k : ℕ) → Path beside f s k → Leads beside f s k
leads beside f s k here = record { more = []; steps = sym (append_nil f.steps); forks = λ rest. omega arith }
leads beside f u m (next s t k pre post c p h1 h2 h3 h4 h5) =
    let a = leads beside f s k p in let b = attempt_step beside t c u pre post h2 h4 in
    record {
      more = a.more ++ b.step ∷ [];
      steps = b.steps ∙ (ap (λ x. x ++ b.step ∷ []) (settle_steps s t h1 ∙ a.steps) ∙ append_assoc f.steps a.more (b.step ∷ []));
      forks = λ rest.
          let e1 = ap (λ x. forks beside x f) (append_assoc a.more (b.step ∷ []) rest) in
          let e2 = a.forks (b.step ∷ rest) in
          let e3 = forks_next beside b.step rest s t u pre post c h1 h2 h3 h4 b.is in
          let e4 = count_more (gives_some beside t post) k (forks beside rest u) in
          e1 ∙ (e2 ∙ (ap (λ x. k + x) e3 ∙ (e4 ∙ ap (λ x. x + forks beside rest u) (sym h5))));
    }

forks_none : (beside : Setting) (s : State) → forks beside [] s ≡ 0
unfolding forks
forks_none beside s = refl

-- the forks of the branch that ends here
pub forks_of : (beside : Setting) (f s : State) (k : ℕ) → Path beside f s k → forks beside (drop (length f.steps) s.steps) f ≡ k
forks_of beside f s k p =
    let a = leads beside f s k p in
    let e1 : drop (length f.steps) s.steps ≡ a.more = ap (λ x. drop (length f.steps) x) a.steps ∙ drop-append_seam f.steps a.more in
    let e2 = a.forks [] in let e3 = append_nil a.more in let e4 = forks_none beside s in
    ap (λ x. forks beside x f) (e1 ∙ sym e3) ∙ (e2 ∙ omega (arith, e4))
