-- Substitution, closing and unification keep terms whose names have as many arguments as they may.
use Rattle.std.proofs.Common.{◌≡◌, ℕ, zero, suc, ◌+◌, refl, sym, subst, Bool, true, false, List, [], ◌∷◌, ◌++◌, map, length, replicate, nat_eq, inl, inr, arith}
use Rattle.std.specs.Prelude.{slice_index_or, Option, Some, None, ◌||◌, not, if◌then◌else◌, slice_index}
use Rattle.std.specs.Ordering.{int_eq}
use Rattle.ll_bank.specs.declared.Head.TheVariants.{Name, Eigen, Bound}
use Rattle.ll_bank.specs.Term.{Term, Var, Int, Con, Ap, Env, sub, place, close, occurs, eigens_below, head_eq}
use Rattle.ll_laws.specs.Unify.{Diff, Same, Clash, Meet, and_then, when, diff_var, diff, diff_lists, bound_to, lower, Solved, Binding, is_older, bind}
use Rattle.ll_laws.specs.Unify.{bind_term, resolve, solve, mgu}
use Rattle.ll_laws.proofs.CallerLemmas.{begins, bound_list}
use Rattle.ll_top.specs.spelled.Taking.{Places, Holds, TakesAt, anyhow, TermTakes, TermsTake}

-- ---- more places

-- a place that may have arguments may have them there too
abbrev pub Wider : Places → Places → Type 0
Wider a b = (n : ℕ) → slice_index_or a n false ≡ true → slice_index_or b n false ≡ true

pub holds-wider : (a b : Places) (n k : ℕ) → Wider a b → Holds a n k → Holds b n k
holds-wider a b n k w (inl e) = inl e
holds-wider a b n k w (inr e) = inr (w n e)

pub wider-more : (a b : Places) (c : Bool) → Wider a b → Wider (c ∷ a) (c ∷ b)
wider-more a b c w zero h = h
wider-more a b c w (suc n) h = w n h

pub wider-none : (b : Places) → Wider [] b
wider-none b n h = cc

pub wider-front : (b : Places) (c : Bool) → Wider (false ∷ b) (c ∷ b)
wider-front b c zero h = cc
wider-front b c (suc n) h = h

module _ (takes : TakesAt) where
  pub takes-wider : (a b : Places) (k : ℕ) (t : Term) → Wider a b → TermTakes takes a k t → TermTakes takes b k t
  takes-wider a b k (Var x) w h = h
  takes-wider a b k (Int z) w h = h
  takes-wider a b k (Con (Name n)) w h = h
  takes-wider a b k (Con (Eigen n)) w h = h
  takes-wider a b k (Con (Bound n)) w h = holds-wider a b n k w h
  takes-wider a b k (Ap f u) w h = (takes-wider a b (suc k) f w h.0, takes-wider a b 0 u w h.1)

  pub all-wider : (a b : Places) (ts : List Term) → Wider a b → TermsTake takes a ts → TermsTake takes b ts
  all-wider a b [] w h = tt
  all-wider a b (t ∷ ts) w h = (takes-wider a b 0 t w h.0, all-wider a b ts w h.1)

  pub takes-anyhow : (a : Places) (k : ℕ) (t : Term) → TermTakes takes a k t → TermTakes anyhow a k t
  takes-anyhow a k (Var x) h = h
  takes-anyhow a k (Int z) h = h
  takes-anyhow a k (Con (Name n)) h = tt
  takes-anyhow a k (Con (Eigen n)) h = tt
  takes-anyhow a k (Con (Bound n)) h = h
  takes-anyhow a k (Ap f u) h = (takes-anyhow a (suc k) f h.0, takes-anyhow a 0 u h.1)

  -- ---- substitutions

  -- each term that a substitution puts for a variable has names with as many arguments as they may
  abbrev pub SubTakes : (ℕ → Term) → Type 0
  SubTakes s = (x : ℕ) → TermTakes takes [] 0 (s x)

  pub takes-sub : (s : ℕ → Term) → SubTakes s → (sc : Places) (k : ℕ) (t : Term) → TermTakes takes sc k t → TermTakes takes sc k (sub s t)
  takes-sub s g sc k (Var x) h = subst (λ j. TermTakes takes sc j (s x)) (sym h) (takes-wider [] sc 0 (s x) (wider-none sc) (g x))
  takes-sub s g sc k (Int z) h = h
  takes-sub s g sc k (Con (Name n)) h = h
  takes-sub s g sc k (Con (Eigen n)) h = h
  takes-sub s g sc k (Con (Bound n)) h = h
  takes-sub s g sc k (Ap f u) h = (takes-sub s g sc (suc k) f h.0, takes-sub s g sc 0 u h.1)

  pub all-sub : (s : ℕ → Term) → SubTakes s → (sc : Places) (ts : List Term) → TermsTake takes sc ts → TermsTake takes sc (map (sub s) ts)
  all-sub s g sc [] h = tt
  all-sub s g sc (t ∷ ts) h = (takes-sub s g sc 0 t h.0, all-sub s g sc ts h.1)

  -- ---- closing

  -- what stands for the places takes what they may, inside j quantifiers that stay
  abbrev pub EnvTakes : Env → Places → Places → Type 0
  EnvTakes e a b = (n j k : ℕ) → Holds a n k → TermTakes takes (replicate j false ++ b) k (place e n j)

  past : (b : Places) (n j m k : ℕ) → m ≡ j + n → Holds b n k → Holds (replicate j false ++ b) m k
  past b n j m k e (inl q) = inl q
  past b n zero m k e (inr q) = inr (let f : m ≡ n = omega (arith, e) in subst (λ i. slice_index_or b i false ≡ true) (sym f) q)
  past b n (suc j) zero k e (inr q) = absurd (omega (arith, e))
  past b n (suc j) (suc m) k e (inr q) = past b n j m k (omega (arith, e)) (inr q)

  pub env-none : (b : Places) → EnvTakes [] b b
  env-none b n j k h = past b n j (j + n) k refl h

  -- one quantifier more that stays
  wider-under : (j : ℕ) (c : Bool) (b : Places) → Wider (replicate (suc j) false ++ b) (replicate j false ++ c ∷ b)
  wider-under zero c b = wider-front b c
  wider-under (suc j) c b = wider-more (replicate (suc j) false ++ b) (replicate j false ++ c ∷ b) false (wider-under j c b)

  pub env-stays : (c : Bool) (e : Env) (a b : Places) → EnvTakes e a b → EnvTakes (None ∷ e) (c ∷ a) (c ∷ b)
  env-stays c e a b g zero j k h = past (c ∷ b) 0 j j k (omega arith) h
  env-stays c e a b g (suc n) j k h =
      takes-wider (replicate (suc j) false ++ b) (replicate j false ++ c ∷ b) k (place e n (suc j)) (wider-under j c b) (g n (suc j) k h)

  -- a term in place of a bound place that has no arguments
  pub env-term : (t : Term) (e : Env) (a b : Places) → TermTakes takes [] 0 t → EnvTakes e a b → EnvTakes (Some t ∷ e) (false ∷ a) b
  env-term t e a b h g zero j k (inl q) =
      subst (λ i. TermTakes takes (replicate j false ++ b) i t) (sym q) (takes-wider [] (replicate j false ++ b) 0 t (wider-none (replicate j false ++ b)) h)
  env-term t e a b h g zero j k (inr q) = cc
  env-term t e a b h g (suc n) j k q = g n j k q

  -- an eigenvariable in place of one that may have some
  pub env-eigen : (c : ℕ) (e : Env) (a b : Places) → EnvTakes e a b → EnvTakes (Some (Con (Eigen c)) ∷ e) (true ∷ a) b
  env-eigen c e a b g zero j k q = tt
  env-eigen c e a b g (suc n) j k q = g n j k q

  pub takes-close : (e : Env) (a b : Places) → EnvTakes e a b → (k : ℕ) (t : Term) → TermTakes takes a k t → TermTakes takes b k (close e t)
  takes-close e a b g k (Var x) h = h
  takes-close e a b g k (Int z) h = h
  takes-close e a b g k (Con (Name n)) h = h
  takes-close e a b g k (Con (Eigen n)) h = h
  takes-close e a b g k (Con (Bound n)) h = g n 0 k h
  takes-close e a b g k (Ap f u) h = (takes-close e a b g (suc k) f h.0, takes-close e a b g 0 u h.1)

  pub all-close : (e : Env) (a b : Places) → EnvTakes e a b → (ts : List Term) → TermsTake takes a ts → TermsTake takes b (map (close e) ts)
  all-close e a b g [] h = tt
  all-close e a b g (t ∷ ts) h = (takes-close e a b g 0 t h.0, all-close e a b g ts h.1)

  -- ---- unification

  -- and so has the term that a variable meets
  abbrev MeetTakes : Diff → Type 0
  MeetTakes Same = Unit {0}
  MeetTakes Clash = Unit {0}
  MeetTakes (Meet x t) = TermTakes takes [] 0 t

  var-takes : (x : ℕ) (t : Term) → TermTakes takes [] 0 t → MeetTakes (diff_var x t)
  var-takes x (Var y) f = step (nat_eq x y)
    where
      step : (b : Bool) → MeetTakes (if b then Same else Meet x (Var y))
      step true = tt
      step false = f
  var-takes x (Int z) f = f
  var-takes x (Con k) f = f
  var-takes x (Ap t u) f = f

  then-takes : (d e : Diff) → MeetTakes d → MeetTakes e → MeetTakes (and_then d e)
  then-takes Same e p q = q
  then-takes Clash e p q = tt
  then-takes (Meet x t) e p q = p

  when-takes : (b : Bool) → MeetTakes (when b)
  when-takes true = tt
  when-takes false = tt

  -- where a variable stands in front of no argument, its meet takes none
  diff-takes : (k : ℕ) (t u : Term) → TermTakes takes [] k t → TermTakes takes [] k u → MeetTakes (diff t u)
  diff-takes k (Var x) u a b = var-takes x u (subst (λ i. TermTakes takes [] i u) a b)
  diff-takes k (Int y) (Var x) a b = subst (λ i. TermTakes takes [] i (Int y)) b a
  diff-takes k (Int y) (Int z) a b = when-takes (int_eq y z)
  diff-takes k (Con h) (Var x) a b = subst (λ i. TermTakes takes [] i (Con h)) b a
  diff-takes k (Con h) (Con l) a b = when-takes (head_eq h l)
  diff-takes k (Ap f t) (Var x) a b = subst (λ i. TermTakes takes [] i (Ap f t)) b a
  diff-takes k (Ap f t) (Ap g u) a b = then-takes (diff f g) (diff t u) (diff-takes (suc k) f g a.0 b.0) (diff-takes 0 t u a.1 b.1)
  diff-takes k _ _ a b = tt

  lists-take : (ls rs : List Term) → TermsTake takes [] ls → TermsTake takes [] rs → MeetTakes (diff_lists ls rs)
  lists-take [] [] a b = tt
  lists-take [] (r ∷ rs) a b = tt
  lists-take (l ∷ ls) [] a b = tt
  lists-take (l ∷ ls) (r ∷ rs) a b = then-takes (diff l r) (diff_lists ls rs) (diff-takes 0 l r a.0 b.0) (lists-take ls rs a.1 b.1)

  term-value : (levels : List ℕ) (x : ℕ) (t : Term) (b : Binding) → bind_term levels x t ≡ Some b → TermTakes takes [] 0 t → TermTakes takes [] 0 b.value
  term-value levels x t b h f = step (occurs x t || not (eigens_below (slice_index levels x) t)) h
    where
      step : (o : Bool) → (if o then None else Some (record { var = x; value = t; levels = lower (slice_index levels x) t levels })) ≡ Some b
          → TermTakes takes [] 0 b.value
      step true h = cc
      step false h =
          let c : Binding = record { var = x; value = t; levels = lower (slice_index levels x) t levels } in
          let e : c ≡ b = cc in
          subst (λ d. TermTakes takes [] 0 d.value) e f

  value-takes : (levels : List ℕ) (x : ℕ) (t : Term) (b : Binding) → bind levels x t ≡ Some b → TermTakes takes [] 0 t → TermTakes takes [] 0 b.value
  value-takes levels x (Var y) b h f = step (is_older levels x y) h
    where
      step : (o : Bool) → (if o then Some (record { var = y; value = Var x; levels = levels }) else Some (record { var = x; value = Var y; levels = levels }))
          ≡ Some b → TermTakes takes [] 0 b.value
      step true h =
          let c : Binding = record { var = y; value = Var x; levels = levels } in let e : c ≡ b = cc in subst (λ d. TermTakes takes [] 0 d.value) e refl
      step false h =
          let c : Binding = record { var = x; value = Var y; levels = levels } in let e : c ≡ b = cc in subst (λ d. TermTakes takes [] 0 d.value) e refl
  value-takes levels x (Int z) b h f = term-value levels x (Int z) b h f
  value-takes levels x (Con k) b h f = term-value levels x (Con k) b h f
  value-takes levels x (Ap t u) b h f = term-value levels x (Ap t u) b h f

  bound_to-takes : (v : ℕ) (w : Term) → TermTakes takes [] 0 w → SubTakes (bound_to v w)
  bound_to-takes v w f y = step (nat_eq y v)
    where
      step : (b : Bool) → TermTakes takes [] 0 (if b then w else Var y)
      step true = f
      step false = refl

  same-takes : (levels : List ℕ) (v : Solved) → Some (record { subst = Var; levels = levels }) ≡ Some v → SubTakes v.subst
  same-takes levels v h = let c : Solved = record { subst = Var; levels = levels } in let e : c ≡ v = cc in subst (λ z. SubTakes z.subst) e (λ x. refl)

  solve-takes : (n : ℕ) (ls rs : List Term) (levels : List ℕ) (v : Solved) → TermsTake takes [] ls → TermsTake takes [] rs → solve n ls rs levels ≡ Some v
      → SubTakes v.subst
  solve-takes zero ls rs levels v a b h = go (diff_lists ls rs) h
    where
      go : (d : Diff) → resolve d levels (λ b. None) ≡ Some v → SubTakes v.subst
      go Same h = same-takes levels v h
      go Clash h = cc
      go (Meet x t) h = let b = begins levels x t (λ b. None) v h in cc (b.goes)
  solve-takes (suc n) ls rs levels v a c h = go (solve-takes n) (diff_lists ls rs) (lists-take ls rs a c) h
    where
      next : Binding → Option Solved
      next b = solve n (bound_list b ls) (bound_list b rs) b.levels

      go : ((ls rs : List Term) (levels : List ℕ) (v : Solved) → TermsTake takes [] ls → TermsTake takes [] rs → solve n ls rs levels ≡ Some v
          → SubTakes v.subst)
          → (d : Diff) → MeetTakes d → resolve d levels next ≡ Some v → SubTakes v.subst
      go ih Same m h = same-takes levels v h
      go ih Clash m h = cc
      go ih (Meet x t) m h =
          let b = begins levels x t next v h in
          let k = b.binding in
          let g = bound_to-takes k.var k.value (value-takes levels x t k b.bound m) in
          let i = ih (bound_list k ls) (bound_list k rs) k.levels b.inner (all-sub (bound_to k.var k.value) g [] ls a)
          (all-sub (bound_to k.var k.value) g [] rs c) b.goes in
          subst (λ z. SubTakes z.subst) b.is (λ y. takes-sub b.inner.subst i [] 0 (bound_to k.var k.value y) (g y))

  -- what unification puts for variables takes what it may
  pub mgu-takes : (ls rs : List Term) (levels : List ℕ) (v : Solved) → TermsTake takes [] ls → TermsTake takes [] rs → mgu ls rs levels ≡ Some v
      → SubTakes v.subst
  unfolding mgu
  mgu-takes ls rs levels v a b h = solve-takes (length levels) ls rs levels v a b h
