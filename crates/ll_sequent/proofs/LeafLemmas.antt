-- Leaves of clauses, on the way to them.
use Rattle.std.proofs.Common.{◌≡◌, ℕ, zero, suc, ◌+◌, ◌-◌, ◌<◌, ◌≤◌, List, [], ◌∷◌, ◌++◌, length, reverse, refl, ap, sym, subst, ◌∙◌, arith, Option, Some}
use Rattle.std.proofs.Common.{None, All, append_assoc}
use Rattle.std.specs.Prelude.{if◌then◌else◌, option_map}
use Rattle.std.proofs.lemmas.Bool.{lt-ltb}
use Rattle.std.proofs.lemmas.List.{append-nil, reverse-append}
use Rattle.std.proofs.lemmas.List.Sums.{sum_by-append}
use Rattle.std.proofs.lemmas.List.Elements.{All-cons, All-head, All-tail, All-push}
use Rattle.ll_list_laws.proofs.CallerLemmas.{lt_false as not_below}
use Rattle.ll_bank.specs.declared.At.{At}
use Rattle.ll_bank.specs.declared.FormAt.{FormAt}
use Rattle.ll_bank.specs.declared.FormNode.{FormNode}
use Rattle.ll_bank.specs.declared.FormNode.TheVariants.{Top as TopView, One as OneView, Atom as AtomView, With as WithView, Tensor as TensorView}
use Rattle.ll_bank.specs.declared.FormNode.TheVariants.{Plus as PlusView, Bang as BangView, Lolli as LolliView, Imp as ImpView, Forall as ForallView}
use Rattle.ll_bank.specs.declared.FormNode.TheVariants.{Exists as ExistsView, Use as UseView, Is as IsView, Less as LessView, Most as MostView}
use Rattle.ll_bank.specs.Term.{Term, Env}
use Rattle.ll_bank.specs.Form.{Form, Atom, With}
use Rattle.ll_bank.specs.Nodes.{Nodes, form_of, form_tree}
use Rattle.ll_bank.specs.Opened.{form_size}
use Rattle.ll_bank.proofs.CallerLemmas.{form_size-some}
use Rattle.ll_laws.specs.Leaf.{Leaf, Premise, add_premise, ways, leaf_from}
use Rattle.ll_laws.proofs.CallerLemmas.{waiting_ways, ways-push, other_ways}
use Rattle.ll_sequent.specs.Opened.{waiting_size}

-- ---- premises that were met

-- a leaf with more premises, further from its head, of which the last one is nearest
abbrev pub put_behind : List Premise → Leaf → Leaf
put_behind ps l = record { premises = l.premises ++ reverse ps; head = l.head }

pub behind_none : (o : Option Leaf) → o ≡ option_map (put_behind []) o
behind_none None = refl
behind_none (Some l) = λ i. Some (record { premises = sym (append-nil l.premises) i; head = l.head })

pub behind_one : (ps : List Premise) (p : Premise) (o : Option Leaf)
    → option_map (put_behind ps) (option_map (add_premise p) o) ≡ option_map (put_behind (ps ++ p ∷ [])) o
behind_one ps p None = refl
behind_one ps p (Some l) =
    let e : (l.premises ++ p ∷ []) ++ reverse ps ≡ l.premises ++ reverse (ps ++ p ∷ []) =
    append_assoc l.premises (p ∷ []) (reverse ps) ∙ ap (λ xs. l.premises ++ xs) (sym (reverse-append ps (p ∷ []))) in
    λ i. Some (record { premises = e i; head = l.head })

-- ---- where there is no leaf

pub leaf_no : (bank : Nodes) (e : Env) (v : FormNode) (k : ℕ) (ts : List Term) → ((a : At) → v ≡ AtomView a → ⊥) → ((f g : FormAt) → v ≡ WithView f g → ⊥)
    → ((f g : FormAt) → v ≡ LolliView f g → ⊥)
    → ((f g : FormAt) → v ≡ ImpView f g → ⊥) → ((f : FormAt) → v ≡ ForallView f → ⊥) → leaf_from e (form_of bank v) k ts ≡ None
leaf_no bank e TopView k ts a w l i f = refl
leaf_no bank e OneView k ts a w l i f = refl
leaf_no bank e (AtomView x) k ts a w l i f = absurd (a x refl)
leaf_no bank e (WithView x y) k ts a w l i f = absurd (w x y refl)
leaf_no bank e (TensorView x y) k ts a w l i f = refl
leaf_no bank e (PlusView x y) k ts a w l i f = refl
leaf_no bank e (BangView x) k ts a w l i f = refl
leaf_no bank e (LolliView x y) k ts a w l i f = absurd (l x y refl)
leaf_no bank e (ImpView x y) k ts a w l i f = absurd (i x y refl)
leaf_no bank e (ForallView x) k ts a w l i f = absurd (f x refl)
leaf_no bank e (ExistsView x) k ts a w l i f = refl
leaf_no bank e (UseView m us x) k ts a w l i f = refl
leaf_no bank e (IsView t u) k ts a w l i f = refl
leaf_no bank e (LessView t u) k ts a w l i f = refl
leaf_no bank e (MostView t u) k ts a w l i f = refl

pub leaf_past_atom : (e : Env) (a : Term) (k : ℕ) (ts : List Term) → (k ≡ 0 → ⊥) → leaf_from e (Atom a) k ts ≡ None
leaf_past_atom e a zero ts n = absurd (n refl)
leaf_past_atom e a (suc k) [] n = refl
leaf_past_atom e a (suc k) (t ∷ ts) n = refl

pub leaf_more_terms : (e : Env) (a : Term) (k : ℕ) (ts : List Term) → 0 < length ts → leaf_from e (Atom a) k ts ≡ None
leaf_more_terms e a k [] l = absurd (omega arith)
leaf_more_terms e a zero (t ∷ ts) l = refl
leaf_more_terms e a (suc k) (t ∷ ts) l = refl

-- ---- the sides of `&`

pub leaf_left : (e : Env) (q r : Form) (k : ℕ) (ts : List Term) → k < length (ways q) → leaf_from e (With q r) k ts ≡ leaf_from e q k ts
leaf_left e q r k ts l = ap (λ b. if b then leaf_from e q k ts else leaf_from e r (k - length (ways q)) ts) (lt-ltb k (length (ways q)) l)

pub leaf_right : (e : Env) (q r : Form) (k j : ℕ) (ts : List Term) → length (ways q) ≤ k → j ≡ k - length (ways q)
    → leaf_from e (With q r) k ts ≡ leaf_from e r j ts
leaf_right e q r k j ts l is = ap (λ b. if b then leaf_from e q k ts else leaf_from e r (k - length (ways q)) ts) (not_below k (length (ways q)) l)
    ∙ ap (λ n. leaf_from e r n ts) (sym is)

-- ---- the clauses that wait

waiting_front : (n : ℕ) (fs : List FormAt) (f : FormAt) → All (λ (g : FormAt). g.0 < n) (fs ++ f ∷ []) → All (λ (g : FormAt). g.0 < n) fs
waiting_front n [] f h = λ k d l. absurd (omega arith)
waiting_front n (g ∷ fs) f h =
    All-cons (λ (g : FormAt). g.0 < n) g fs (All-head (λ (g : FormAt). g.0 < n) g (fs ++ f ∷ []) h)
    (waiting_front n fs f (All-tail (λ (g : FormAt). g.0 < n) g (fs ++ f ∷ []) h))

waiting_end : (n : ℕ) (fs : List FormAt) (f : FormAt) → All (λ (g : FormAt). g.0 < n) (fs ++ f ∷ []) → f.0 < n
waiting_end n [] f h = All-head (λ (g : FormAt). g.0 < n) f [] h
waiting_end n (g ∷ fs) f h = waiting_end n fs f (All-tail (λ (g : FormAt). g.0 < n) g (fs ++ f ∷ []) h)

-- a place in place of a higher one
pub waiting_inside : (n : ℕ) (old rest new : List FormAt) (f g : FormAt) → old ≡ rest ++ f ∷ [] → new ≡ rest ++ g ∷ [] → g.0 < f.0
    → All (λ (a : FormAt). a.0 < n) old → All (λ (a : FormAt). a.0 < n) new
waiting_inside n old rest new f g o w l h =
    let P : List FormAt → Type 0 = All (λ (a : FormAt). a.0 < n) in
    let k = subst P o h in
    let e = waiting_end n rest f k in
    subst P (sym w) (All-push (λ (a : FormAt). a.0 < n) rest g (waiting_front n rest f k) (omega arith))

-- or two
pub waiting_both : (n : ℕ) (old rest mid new : List FormAt) (f g r : FormAt) → old ≡ rest ++ f ∷ [] → mid ≡ rest ++ r ∷ [] → new ≡ mid ++ g ∷ [] → g.0 < f.0
    → r.0 < f.0
    → All (λ (a : FormAt). a.0 < n) old → All (λ (a : FormAt). a.0 < n) new
waiting_both n old rest mid new f g r o m w l p h =
    let P : List FormAt → Type 0 = All (λ (a : FormAt). a.0 < n) in
    let e = waiting_end n rest f (subst P o h) in
    subst P (sym w) (All-push (λ (a : FormAt). a.0 < n) mid g (waiting_inside n old rest mid f r o m p h) (omega arith))

-- ---- how large they are

size_push : (bank : Nodes) (fs : List FormAt) (f : FormAt) → waiting_size bank (fs ++ f ∷ []) ≡ waiting_size bank fs + form_size (form_tree bank f.0)
size_push bank fs f = let e = sum_by-append (λ (g : FormAt). form_size (form_tree bank g.0)) fs (f ∷ []) in omega (arith, e)

module _ (bank : Nodes) (old rest : List FormAt) (f : FormAt) (o : old ≡ rest ++ f ∷ []) where
  -- smaller where one goes
  pub smaller_without : waiting_size bank rest < waiting_size bank old
  smaller_without =
      let a = ap (waiting_size bank) o ∙ size_push bank rest f in let s = form_size-some (form_tree bank f.0) in omega (arith, a, s)

  -- or a part of it takes its place
  pub smaller_part : (new : List FormAt) (g : FormAt) (n : ℕ) → new ≡ rest ++ g ∷ []
      → form_size (form_tree bank f.0) ≡ 2 + (n + form_size (form_tree bank g.0)) → waiting_size bank new < waiting_size bank old
  smaller_part new g n w s =
      let a = ap (waiting_size bank) o ∙ size_push bank rest f in let b = ap (waiting_size bank) w ∙ size_push bank rest g in omega (arith, a, b, s)

  pub smaller_body : (new : List FormAt) (g : FormAt) → new ≡ rest ++ g ∷ [] → form_size (form_tree bank f.0) ≡ 2 + form_size (form_tree bank g.0)
      → waiting_size bank new < waiting_size bank old
  smaller_body new g w s = smaller_part new g 0 w (omega (arith, s))

  -- or both parts
  pub smaller_both : (mid new : List FormAt) (g r : FormAt) → mid ≡ rest ++ r ∷ [] → new ≡ mid ++ g ∷ []
      → form_size (form_tree bank f.0) ≡ 2 + (form_size (form_tree bank g.0) + form_size (form_tree bank r.0)) → waiting_size bank new < waiting_size bank old
  smaller_both mid new g r m w s =
      let a = ap (waiting_size bank) o ∙ size_push bank rest f in
      let b = ap (waiting_size bank) m ∙ size_push bank rest r in
      let c = ap (waiting_size bank) w ∙ size_push bank mid g in
      omega (arith, a, b, c, s)

-- ---- how many leaves they have

-- the last one that waits lies in the bank
pub waiting_last : (n : ℕ) (old rest : List FormAt) (f : FormAt) → old ≡ rest ++ f ∷ [] → All (λ (a : FormAt). a.0 < n) old → f.0 < n
waiting_last n old rest f o h = let P : List FormAt → Type 0 = All (λ (a : FormAt). a.0 < n) in waiting_end n rest f (subst P o h)

pub waiting_rest : (n : ℕ) (old rest : List FormAt) (f : FormAt) → old ≡ rest ++ f ∷ [] → All (λ (a : FormAt). a.0 < n) old
    → All (λ (a : FormAt). a.0 < n) rest
waiting_rest n old rest f o h = let P : List FormAt → Type 0 = All (λ (a : FormAt). a.0 < n) in waiting_front n rest f (subst P o h)

-- one alone
pub waiting_alone : (bank : Nodes) (none all : List FormAt) (f : FormAt) → none ≡ [] → all ≡ none ++ f ∷ [] → f.0 < length bank.forms
    → All (λ (a : FormAt). a.0 < length bank.forms) all
waiting_alone bank none all f e w l =
    let P : List FormAt → Type 0 = All (λ (a : FormAt). a.0 < length bank.forms) in
    let h : P [] = λ k d l. absurd (omega arith) in
    subst P (sym (w ∙ ap (λ xs. xs ++ f ∷ []) e)) (All-push (λ (a : FormAt). a.0 < length bank.forms) [] f h l)

pub count_alone : (bank : Nodes) (none all : List FormAt) (f : FormAt) (k : ℕ) → none ≡ [] → all ≡ none ++ f ∷ []
    → k + waiting_ways bank all ≡ length (ways (form_tree bank f.0)) + k
count_alone bank none all f k e w =
    let a = ap (waiting_ways bank) (w ∙ ap (λ xs. xs ++ f ∷ []) e) in let b = ways-push bank [] f in omega (arith, a, b)

module _ (bank : Nodes) (old rest : List FormAt) (f : FormAt) (k n left : ℕ) (o : old ≡ rest ++ f ∷ []) (h : k + waiting_ways bank old ≡ n + left) where
  count_last : k + (waiting_ways bank rest + length (ways (form_tree bank f.0))) ≡ n + left
  count_last = let a = ap (waiting_ways bank) o ∙ ways-push bank rest f in omega (arith, a, h)

  -- an atom is the leaf
  pub count_found : (a : Term) → form_tree bank f.0 ≡ Atom a → left ≡ 0 → k < n
  count_found a e z = let c = count_last in let s = ap (λ (t : Form). length (ways t)) e in omega (arith, c, s, z)

  -- or an earlier one
  pub count_past : (a : Term) → form_tree bank f.0 ≡ Atom a → (left ≡ 0 → ⊥) → k + waiting_ways bank rest ≡ n + (left - 1)
  count_past a e z = let c = count_last in let s = ap (λ (t : Form). length (ways t)) e in let l = some left z in omega (arith, c, s, l)
    where
      some : (m : ℕ) → (m ≡ 0 → ⊥) → 0 < m
      some zero z = absurd (z refl)
      some (suc m) z = omega arith

  -- what is no clause has no leaves
  pub count_other : (v : FormNode) → form_tree bank f.0 ≡ form_of bank v → ((a : At) → v ≡ AtomView a → ⊥) → ((f g : FormAt) → v ≡ WithView f g → ⊥)
      → ((f g : FormAt) → v ≡ LolliView f g → ⊥) → ((f g : FormAt) → v ≡ ImpView f g → ⊥) → ((f : FormAt) → v ≡ ForallView f → ⊥)
      → k + waiting_ways bank rest ≡ n + left
  count_other v e a w l i f = let c = count_last in let s = ap (λ (t : Form). length (ways t)) e ∙ other_ways bank v a w l i f in omega (arith, c, s)
