-- The walk over the leaves of a clause, and what it finds.
use Rattle.std.proofs.Common.{◌≡◌, ℕ, suc, ◌+◌, ◌<◌, Bool, List, [], ◌∷◌, ◌++◌, length, refl, ap, sym, subst, ◌∙◌, arith, Some, true, false, append_assoc, All}
use Rattle.std.specs.Prelude.{if◌then◌else◌}
use Rattle.std.proofs.lemmas.List.{append-nil}
use Rattle.std.proofs.lemmas.List.Sums.{sum_by-append}
use Rattle.std.proofs.lemmas.List.Elements.{All-head, All-tail, All-push}
use Rattle.ll_list_laws.proofs.CallerLemmas.{All-front, All-last as All-end}
use Rattle.ll_bank.specs.declared.At.{At}
use Rattle.ll_bank.specs.declared.FormAt.{FormAt}
use Rattle.ll_bank.specs.declared.Head.{Head}
use Rattle.ll_bank.specs.declared.FormNode.{FormNode}
use Rattle.ll_bank.specs.declared.FormNode.TheVariants.{Top as TopView, One as OneView, Atom as AtomView, With as WithView, Tensor as TensorView}
use Rattle.ll_bank.specs.declared.FormNode.TheVariants.{Plus as PlusView, Bang as BangView, Lolli as LolliView, Imp as ImpView, Forall as ForallView}
use Rattle.ll_bank.specs.declared.FormNode.TheVariants.{Exists as ExistsView, Use as UseView, Is as IsView, Less as LessView, Most as MostView}
use Rattle.ll_bank.specs.Term.{Term, app, head_of, arity}
use Rattle.ll_bank.specs.Form.{Form, Top, One, Atom, With, Tensor, Plus, Bang, Lolli, Imp, Forall, Exists, Use, Num}
use Rattle.ll_bank.specs.Nodes.{Nodes, HasForm, term_trees, form_tree, form_of}
use Rattle.ll_bank.proofs.CallerLemmas.{head_of-app, arity-app, length-term_trees}
use Rattle.ll_laws.specs.declared.Candidate.{Candidate}
use Rattle.ll_laws.specs.Leaf.{ways}
use Rattle.ll_laws.proofs.CallerLemmas.{waiting_ways}
use Rattle.ll_engine.specs.Leaves.{heads, head_tries, waiting_heads, walk_size, waiting_size}

-- ---- predicates

-- an application has its head, and as many arguments as places
pub predicate_app : (nodes : Nodes) (t : Term) (h : Head) (args : List At) → t ≡ app h (term_trees nodes args) → (head_of t ≡ Some h) × (arity t ≡ length args)
predicate_app nodes t h args e =
    let ts = term_trees nodes args in
    (ap head_of e ∙ head_of-app h ts, ap arity e ∙ (arity-app h ts ∙ length-term_trees nodes args))

-- ---- the walk

module _ (bank : Nodes) where
  wait-more : (fs : List FormAt) (f : FormAt) → waiting_heads bank (fs ++ f ∷ []) ≡ heads (form_tree bank f.0) ++ waiting_heads bank fs
  wait-more [] f = sym (append-nil (heads (form_tree bank f.0)))
  wait-more (g ∷ fs) f = ap (λ xs. xs ++ heads (form_tree bank g.0)) (wait-more fs f)
      ∙ append_assoc (heads (form_tree bank f.0)) (waiting_heads bank fs) (heads (form_tree bank g.0))

  module _ (test : Term → Bool) (label k : ℕ) (goal : List Candidate) (found : List Candidate) (old rest : List FormAt) (f : FormAt)
      (popped : old ≡ rest ++ f ∷ [])
      (so_far : found ++ head_tries test label k (waiting_heads bank old) ≡ goal) where
    -- what is left begins with the heads of the clause taken
    begins : found ++ head_tries test label k (heads (form_tree bank f.0) ++ waiting_heads bank rest) ≡ goal
    begins = ap (λ hs. found ++ head_tries test label k hs) (sym (ap (waiting_heads bank) popped ∙ wait-more rest f)) ∙ so_far

    -- a clause without leaves goes
    pub walk_past : heads (form_tree bank f.0) ≡ [] → found ++ head_tries test label k (waiting_heads bank rest) ≡ goal
    walk_past e = ap (λ hs. found ++ head_tries test label k (hs ++ waiting_heads bank rest)) (sym e) ∙ begins

    -- another with the same leaves takes its place
    pub walk_in : (g : FormAt) (new : List FormAt) → new ≡ rest ++ g ∷ [] → heads (form_tree bank f.0) ≡ heads (form_tree bank g.0)
        → found ++ head_tries test label k (waiting_heads bank new) ≡ goal
    walk_in g new n e =
        ap (λ hs. found ++ head_tries test label k hs) (ap (waiting_heads bank) n ∙ (wait-more rest g ∙ ap (λ hs. hs ++ waiting_heads bank rest) (sym e)))
        ∙ begins

    -- or two, the left one behind
    pub walk_both : (g h : FormAt) (mid new : List FormAt) → mid ≡ rest ++ h ∷ [] → new ≡ mid ++ g ∷ []
        → heads (form_tree bank f.0) ≡ heads (form_tree bank g.0) ++ heads (form_tree bank h.0)
        → found ++ head_tries test label k (waiting_heads bank new) ≡ goal
    walk_both g h mid new m n e =
        ap (λ hs. found ++ head_tries test label k hs)
        (ap (waiting_heads bank) n
        ∙ (wait-more mid g
        ∙ (ap (λ hs. heads (form_tree bank g.0) ++ hs) (ap (waiting_heads bank) m ∙ wait-more rest h)
        ∙ (sym (append_assoc (heads (form_tree bank g.0)) (heads (form_tree bank h.0)) (waiting_heads bank rest))
        ∙ ap (λ hs. hs ++ waiting_heads bank rest) (sym e))))) ∙ begins

    -- a leaf that passes the test is found, and the next one is on
    pub leaf_found : (t : Term) (new : List Candidate) (next : ℕ) → heads (form_tree bank f.0) ≡ t ∷ [] → test t ≡ true
        → new ≡ found ++ record { label = label; leaf = k } ∷ [] → next ≡ k + 1
        → new ++ head_tries test label next (waiting_heads bank rest) ≡ goal
    leaf_found t new next e has n s =
        let hs = waiting_heads bank rest in
        let c : Candidate = record { label = label; leaf = k } in
        let tail = head_tries test label (suc k) hs in
        let one : (if test t then c ∷ tail else tail) ≡ c ∷ tail = ap (λ b. if b then c ∷ tail else tail) has in
        let go : next ≡ suc k = omega arith in
        ap (λ xs. xs ++ head_tries test label next hs) n
        ∙ (append_assoc found (c ∷ []) (head_tries test label next hs)
        ∙ (ap (λ j. found ++ c ∷ head_tries test label j hs) go
        ∙ (ap (λ xs. found ++ xs) (sym one) ∙ (ap (λ us. found ++ head_tries test label k (us ++ hs)) (sym e) ∙ begins))))

    -- another one is not
    pub leaf_passed : (t : Term) (next : ℕ) → heads (form_tree bank f.0) ≡ t ∷ [] → test t ≡ false → next ≡ k + 1
        → found ++ head_tries test label next (waiting_heads bank rest) ≡ goal
    leaf_passed t next e lacks s =
        let hs = waiting_heads bank rest in
        let c : Candidate = record { label = label; leaf = k } in
        let tail = head_tries test label (suc k) hs in
        let none : (if test t then c ∷ tail else tail) ≡ tail = ap (λ b. if b then c ∷ tail else tail) lacks in
        let go : next ≡ suc k = omega arith in
        ap (λ j. found ++ head_tries test label j hs) go ∙ (ap (λ xs. found ++ xs) (sym none)
        ∙ (ap (λ us. found ++ head_tries test label k (us ++ hs)) (sym e) ∙ begins))

-- what is known of the clauses that wait, once the last is taken
pub record AreWaiting (bank : Nodes) (rest : List FormAt) (f : FormAt) : Type 0 where
  pub last : HasForm bank f.0
  pub others : All (λ g. HasForm bank g.0) rest
  pub one_more : (g : FormAt) (new : List FormAt) → new ≡ rest ++ g ∷ [] → HasForm bank g.0 → All (λ x. HasForm bank x.0) new
  pub two_more : (g h : FormAt) (mid new : List FormAt) → mid ≡ rest ++ h ∷ [] → new ≡ mid ++ g ∷ [] → HasForm bank g.0 → HasForm bank h.0
      → All (λ x. HasForm bank x.0) new

pub are_waiting : (bank : Nodes) (old rest : List FormAt) (f : FormAt) → old ≡ rest ++ f ∷ [] → All (λ g. HasForm bank g.0) old → AreWaiting bank rest f
are_waiting bank old rest f popped all =
    record {
      last = All-end (λ (g : FormAt). HasForm bank g.0) rest f each;
      others = others;
      one_more = more rest others;
      two_more = λ g h mid new m n a b. more mid (more rest others h mid m b) g new n a;
    }
  where
    each : All (λ (g : FormAt). HasForm bank g.0) (rest ++ f ∷ [])
    each = subst (All (λ (g : FormAt). HasForm bank g.0)) popped all

    others : All (λ (g : FormAt). HasForm bank g.0) rest
    others = All-front (λ (g : FormAt). HasForm bank g.0) rest f each

    more : (xs : List FormAt) → All (λ (g : FormAt). HasForm bank g.0) xs → (g : FormAt) (new : List FormAt) → new ≡ xs ++ g ∷ [] → HasForm bank g.0
        → All (λ (g : FormAt). HasForm bank g.0) new
    more xs h g new n i = subst (All (λ (g : FormAt). HasForm bank g.0)) (sym n) (All-push (λ (g : FormAt). HasForm bank g.0) xs g h i)

-- each head that waits is as before
module _ (P : Term → Type 0) (bank : Nodes) (old rest : List FormAt) (f : FormAt) (popped : old ≡ rest ++ f ∷ []) (each : All P (waiting_heads bank old)) where
  each_next : All P (heads (form_tree bank f.0) ++ waiting_heads bank rest)
  each_next = subst (All P) (ap (waiting_heads bank) popped ∙ wait-more bank rest f) each

  pub each_past : heads (form_tree bank f.0) ≡ [] → All P (waiting_heads bank rest)
  each_past e = subst (λ hs. All P (hs ++ waiting_heads bank rest)) e each_next

  pub each_in : (g : FormAt) (new : List FormAt) → new ≡ rest ++ g ∷ [] → heads (form_tree bank f.0) ≡ heads (form_tree bank g.0)
      → All P (waiting_heads bank new)
  each_in g new n e = subst (All P) (sym (ap (waiting_heads bank) n ∙ (wait-more bank rest g ∙ ap (λ hs. hs ++ waiting_heads bank rest) (sym e)))) each_next

  pub each_both : (g h : FormAt) (mid new : List FormAt) → mid ≡ rest ++ h ∷ [] → new ≡ mid ++ g ∷ []
      → heads (form_tree bank f.0) ≡ heads (form_tree bank g.0) ++ heads (form_tree bank h.0)
      → All P (waiting_heads bank new)
  each_both g h mid new m n e =
      subst (All P)
      (sym (ap (waiting_heads bank) n
      ∙ (wait-more bank mid g
      ∙ (ap (λ hs. heads (form_tree bank g.0) ++ hs) (ap (waiting_heads bank) m ∙ wait-more bank rest h)
      ∙ (sym (append_assoc (heads (form_tree bank g.0)) (heads (form_tree bank h.0)) (waiting_heads bank rest))
      ∙ ap (λ hs. hs ++ waiting_heads bank rest) (sym e))))))
      each_next

  leaf_next : (t : Term) → heads (form_tree bank f.0) ≡ t ∷ [] → All P (t ∷ waiting_heads bank rest)
  leaf_next t e = subst (λ hs. All P (hs ++ waiting_heads bank rest)) e each_next

  pub each_leaf : (t : Term) → heads (form_tree bank f.0) ≡ t ∷ [] → P t
  each_leaf t e = All-head P t (waiting_heads bank rest) (leaf_next t e)

  pub each_behind : (t : Term) → heads (form_tree bank f.0) ≡ t ∷ [] → All P (waiting_heads bank rest)
  each_behind t e = All-tail P t (waiting_heads bank rest) (leaf_next t e)

-- a part of it is inside too
pub part_waits : (bank : Nodes) (f g : FormAt) → HasForm bank f.0 → g.0 < f.0 → HasForm bank g.0
part_waits bank f g inside l = omega (arith, inside, l)

-- ---- what is left of the walk gets less

size_more : (bank : Nodes) (fs : List FormAt) (f : FormAt) → waiting_size bank (fs ++ f ∷ []) ≡ waiting_size bank fs + walk_size (form_tree bank f.0)
size_more bank fs f = let e = sum_by-append (λ (g : FormAt). walk_size (form_tree bank g.0)) fs (f ∷ []) in omega (arith, e)

walk_some : (f : Form) → 0 < walk_size f
walk_some Top = omega arith
walk_some One = omega arith
walk_some (Atom a) = omega arith
walk_some (With r s) = omega arith
walk_some (Tensor f g) = omega arith
walk_some (Plus f g) = omega arith
walk_some (Bang f) = omega arith
walk_some (Lolli g r) = omega arith
walk_some (Imp g r) = omega arith
walk_some (Forall r) = omega arith
walk_some (Exists f) = omega arith
walk_some (Use m ts f) = omega arith
walk_some (Num r t u) = omega arith

module _ (bank : Nodes) (old rest : List FormAt) (f : FormAt) (popped : old ≡ rest ++ f ∷ []) where
  size_next : waiting_size bank old ≡ waiting_size bank rest + walk_size (form_tree bank f.0)
  size_next = ap (waiting_size bank) popped ∙ size_more bank rest f

  pub smaller_past : waiting_size bank rest < waiting_size bank old
  smaller_past = let e = size_next in let s = walk_some (form_tree bank f.0) in omega (arith, e, s)

  pub smaller_in : (g : FormAt) (new : List FormAt) → new ≡ rest ++ g ∷ [] → walk_size (form_tree bank f.0) ≡ suc (walk_size (form_tree bank g.0))
      → waiting_size bank new < waiting_size bank old
  smaller_in g new n e = let a = size_next in let b = ap (waiting_size bank) n ∙ size_more bank rest g in omega (arith, a, b, e)

  pub smaller_both : (g h : FormAt) (mid new : List FormAt) → mid ≡ rest ++ h ∷ [] → new ≡ mid ++ g ∷ []
      → walk_size (form_tree bank f.0) ≡ suc (walk_size (form_tree bank g.0) + walk_size (form_tree bank h.0)) → waiting_size bank new < waiting_size bank old
  smaller_both g h mid new m n e =
      let a = size_next in let b = ap (waiting_size bank) n ∙ size_more bank mid g in let d = ap (waiting_size bank) m ∙ size_more bank rest h in
      omega (arith, a, b, d, e)

-- leaves of the last clause are counted, where nothing takes its place
pub count_past : (bank : Nodes) (old rest : List FormAt) (f : FormAt) (k next total n : ℕ) → old ≡ rest ++ f ∷ [] → length (ways (form_tree bank f.0)) ≡ n
    → next ≡ k + n → k + waiting_ways bank old ≡ total → next + waiting_ways bank rest ≡ total
count_past bank old rest f k next total n popped many is so_far =
    let e = ap (waiting_ways bank) popped ∙ sum_by-append (λ (g : FormAt). length (ways (form_tree bank g.0))) rest (f ∷ []) in
    omega (arith, e, many, is, so_far)

-- the heads of what is seen at a place
pub heads_seen : (bank : Nodes) (f : FormAt) (view : FormNode) → form_tree bank f.0 ≡ form_of bank view → heads (form_tree bank f.0) ≡ heads (form_of bank view)
heads_seen bank f view e = ap (λ t. heads t) e

-- a formula of no other sort has no leaf
pub no_heads : (bank : Nodes) (v : FormNode) → ((a : At) → v ≡ AtomView a → ⊥) → ((f g : FormAt) → v ≡ WithView f g → ⊥)
    → ((f g : FormAt) → v ≡ LolliView f g → ⊥)
    → ((f g : FormAt) → v ≡ ImpView f g → ⊥) → ((f : FormAt) → v ≡ ForallView f → ⊥) → heads (form_of bank v) ≡ []
no_heads bank TopView a w l i f = refl
no_heads bank OneView a w l i f = refl
no_heads bank (AtomView t) a w l i f = absurd (a t refl)
no_heads bank (WithView x y) a w l i f = absurd (w x y refl)
no_heads bank (TensorView x y) a w l i f = refl
no_heads bank (PlusView x y) a w l i f = refl
no_heads bank (BangView x) a w l i f = refl
no_heads bank (LolliView x y) a w l i f = absurd (l x y refl)
no_heads bank (ImpView x y) a w l i f = absurd (i x y refl)
no_heads bank (ForallView x) a w l i f = absurd (f x refl)
no_heads bank (ExistsView x) a w l i f = refl
no_heads bank (UseView m ts x) a w l i f = refl
no_heads bank (IsView x y) a w l i f = refl
no_heads bank (LessView x y) a w l i f = refl
no_heads bank (MostView x y) a w l i f = refl
