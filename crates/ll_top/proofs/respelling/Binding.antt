-- Quantifying a clause's variables over it keeps names with as many arguments as they may have, and the clause light.
use Rattle.std.proofs.Common.{◌≡◌, ◌≤◌, ◌<◌, ℕ, zero, suc, ◌+◌, refl, ap, sym, subst, ◌∙◌, Bool, true, false, List, [], ◌∷◌, ◌++◌, map, replicate, inl, inr}
use Rattle.std.proofs.Common.{arith}
use Rattle.std.proofs.lemmas.Bool.{lt-ltb, le-ltb, cases_lt}
use Rattle.std.proofs.lemmas.List.{length-map}
use Rattle.std.specs.Prelude.{slice_index_or, slice_get, Some, if◌then◌else◌}
use Rattle.ll_bank.specs.declared.Head.TheVariants.{Name, Eigen, Bound}
use Rattle.ll_bank.specs.Term.{Term, Var, Int, Con, Ap}
use Rattle.ll_bank.specs.Form.{Form, Top, One, Atom, With, Tensor, Plus, Bang, Lolli, Imp, Forall, Exists, Use, Num, Relation, Is, Less, Most}
use Rattle.ll_laws.specs.Leaf.{ways}
use Rattle.ll_laws.specs.Module.{forall_all}
use Rattle.ll_laws.specs.Valid.{Side, GoalSide, ClauseSide}
use Rattle.ll_laws.proofs.CallerLemmas.{replicate-front}
use Rattle.ll_polarity.proofs.CallerLemmas.{moved_near, moved_far, moved_next, bound_ways}
use Rattle.ll_polarity.specs.Reading.{moved_out, bind_term, bind_form, quantified}
use Rattle.ll_top.specs.spelled.Taking.{Places, Holds, TakesAt, anyhow, TermTakes, TermsTake, IsLight, BoundTakes, FormTakes}
use Rattle.ll_top.proofs.respelling.Forms.{light-by}

-- ---- places

-- inside d quantifiers, a place that may have arguments may have them where it is moved to
Moves : ℕ → ℕ → Places → Places → Type 0
Moves n d a b = (k : ℕ) → slice_index_or a k false ≡ true → slice_index_or b (moved_out n d k) false ≡ true

past-none : (n : ℕ) (sc : Places) (k j : ℕ) → j ≡ k + n → slice_index_or (replicate n false ++ sc) j false ≡ slice_index_or sc k false
past-none zero sc k j e = ap (λ i. slice_index_or sc i false) (let z : j ≡ k = omega (arith, e) in z)
past-none (suc n) sc k zero e = absurd (omega (arith, e))
past-none (suc n) sc k (suc j) e = past-none n sc k j (omega (arith, e))

moves-all : (n : ℕ) (sc : Places) → Moves n 0 sc (replicate n false ++ sc)
unfolding Moves
moves-all n sc k h = rw (moved_far n 0 k (omega arith)) (past-none n sc k (k + n) refl ∙ h)

moves-under : (n d : ℕ) (c : Bool) (a b : Places) → Moves n d a b → Moves n (suc d) (c ∷ a) (c ∷ b)
unfolding Moves
moves-under n d c a b m zero h = rw (moved_near n (suc d) 0 (omega arith)) h
moves-under n d c a b m (suc k) h = rw (moved_next n d k) (m k h)

bind-holds : (n d : ℕ) (a b : Places) (j k : ℕ) → Moves n d a b → Holds a j k → Holds b (moved_out n d j) k
unfolding Moves
bind-holds n d a b j k m (inl e) = inl e
bind-holds n d a b j k m (inr e) = inr (m j e)

-- ---- terms

bind-takes : (takes : TakesAt) (n d : ℕ) (a b : Places) (k : ℕ) (t : Term) → Moves n d a b → TermTakes takes a k t → TermTakes takes b k (bind_term n d t)
bind-takes takes n d a b k (Var x) m h = inl h
bind-takes takes n d a b k (Int z) m h = h
bind-takes takes n d a b k (Con (Name j)) m h = h
bind-takes takes n d a b k (Con (Eigen j)) m h = h
bind-takes takes n d a b k (Con (Bound j)) m h = bind-holds n d a b j k m h
bind-takes takes n d a b k (Ap f u) m h = (bind-takes takes n d a b (suc k) f m h.0, bind-takes takes n d a b 0 u m h.1)

bind-all : (takes : TakesAt) (n d : ℕ) (a b : Places) (ts : List Term) → Moves n d a b → TermsTake takes a ts → TermsTake takes b (map (bind_term n d) ts)
bind-all takes n d a b [] m h = tt
bind-all takes n d a b (t ∷ ts) m h = (bind-takes takes n d a b 0 t m h.0, bind-all takes n d a b ts m h.1)

-- ---- formulas

module _ (takes : TakesAt) (most n : ℕ) where
  bind-light : (d : ℕ) (r : Form) → IsLight most r → IsLight most (bind_form n d r)
  bind-light d r l = light-by most r (bind_form n d r) (bound_ways n d r) l

  bind-bound : (d : ℕ) (a b : Places) (r : Relation) (t u : Term) → Moves n d a b → BoundTakes takes a r t u
      → BoundTakes takes b r (bind_term n d t) (bind_term n d u)
  bind-bound d a b Is t u m h = (bind-takes takes n d a b 0 t m h.0, bind-takes anyhow n d a b 0 u m h.1)
  bind-bound d a b Less t u m h = tt
  bind-bound d a b Most t u m h = tt

  bind-form : (d : ℕ) (a b : Places) (side : Side) (f : Form) → Moves n d a b → FormTakes takes most side a f
      → FormTakes takes most side b (bind_form n d f)
  bind-form d a b side Top m h = tt
  bind-form d a b side One m h = tt
  bind-form d a b side (Atom t) m h = bind-takes takes n d a b 0 t m h
  bind-form d a b side (With f g) m h = (bind-form d a b side f m h.0, bind-form d a b side g m h.1)
  bind-form d a b side (Tensor f g) m h = (bind-form d a b side f m h.0, bind-form d a b side g m h.1)
  bind-form d a b side (Plus f g) m h = (bind-form d a b side f m h.0, bind-form d a b side g m h.1)
  bind-form d a b side (Bang f) m h = bind-form d a b side f m h
  bind-form d a b GoalSide (Lolli r g) m h = (bind-light d r h.0, (bind-form d a b ClauseSide r m h.1.0, bind-form d a b GoalSide g m h.1.1))
  bind-form d a b ClauseSide (Lolli g r) m h = (bind-form d a b GoalSide g m h.0, bind-form d a b ClauseSide r m h.1)
  bind-form d a b GoalSide (Imp r g) m h = (bind-light d r h.0, (bind-form d a b ClauseSide r m h.1.0, bind-form d a b GoalSide g m h.1.1))
  bind-form d a b ClauseSide (Imp g r) m h = (bind-form d a b GoalSide g m h.0, bind-form d a b ClauseSide r m h.1)
  bind-form d a b GoalSide (Forall f) m h = bind-form (suc d) (true ∷ a) (true ∷ b) GoalSide f (moves-under n d true a b m) h
  bind-form d a b ClauseSide (Forall f) m h = bind-form (suc d) (false ∷ a) (false ∷ b) ClauseSide f (moves-under n d false a b m) h
  bind-form d a b side (Exists f) m h = bind-form (suc d) (false ∷ a) (false ∷ b) side f (moves-under n d false a b m) h
  bind-form d a b side (Use k ts f) m h = (bind-all takes n d a b ts m h.0, bind-form d a b side f m h.1)
  bind-form d a b side (Num r t u) m h = bind-bound d a b r t u m h

-- ---- quantified clauses

under-all : (takes : TakesAt) (most n : ℕ) (sc : Places) (r : Form) → FormTakes takes most ClauseSide (replicate n false ++ sc) r
    → FormTakes takes most ClauseSide sc (forall_all n r)
under-all takes most zero sc r h = h
under-all takes most (suc n) sc r h =
    under-all takes most n (false ∷ sc) r (subst (λ xs. FormTakes takes most ClauseSide xs r) (sym (replicate-front n false sc)) h)

-- one quantifier more is one more on the way to each leaf
later : (ws : List ℕ) (k n : ℕ) → slice_get (map (λ n. suc n) ws) k ≡ Some n → (m : ℕ) × (slice_get ws k ≡ Some m) × (suc m ≡ n)
later [] k n e = absurd (cc (e))
later (w ∷ ws) zero n e = let q : suc w ≡ n = cc (e) in (w, refl, q)
later (w ∷ ws) (suc k) n e = later ws k n e

light-under : (most n : ℕ) (r : Form) → IsLight most r → IsLight (n + most) (forall_all n r)
light-under most zero r l = subst (λ z. IsLight z r) (let z : most ≡ 0 + most = omega arith in z) l
light-under most (suc n) r l =
    let i = light-under most n r l in
    record {
      leaves = omega (arith, length-map (ways (forall_all n r)) (λ n. suc n), i.leaves);
      quantifiers = λ k w e. (let o = later (ways (forall_all n r)) k w e in omega (arith, i.quantifiers k o.0 o.1, o.2));
    }

light-more : (a b : ℕ) (r : Form) → a ≤ b → IsLight a r → IsLight b r
light-more a b r le l = record { leaves = omega (arith, l.leaves, le); quantifiers = λ k n e. omega (arith, l.quantifiers k n e, le) }

pub quantified-takes : (takes : TakesAt) (most n : ℕ) (sc : Places) (r : Form) → FormTakes takes most ClauseSide sc r
    → FormTakes takes most ClauseSide sc (quantified n r)
quantified-takes takes most n sc r h =
    under-all takes most n sc (bind_form n 0 r) (bind-form takes most n 0 sc (replicate n false ++ sc) ClauseSide r (moves-all n sc) h)

pub quantified-light : (few most n : ℕ) (r : Form) → n + few ≤ most → IsLight few r → IsLight most (quantified n r)
quantified-light few most n r le l =
    light-more (n + few) most (quantified n r) le
    (light-under few n (bind_form n 0 r) (light-by few r (bind_form n 0 r) (bound_ways n 0 r) l))
