-- A problem without whole-number goals has no derivation with one.
use Rattle.std.proofs.Common.{◌≡◌, ℕ, zero, suc, refl, ap, sym, subst, ◌∙◌, Bool, true, false, List, [], ◌∷◌, length, inl, inr}
use Rattle.std.specs.Prelude.{◌||◌, Option, Some, None, option_map, ◌-◌, if◌then◌else◌, nat_lt, slice_get}
use Rattle.std.specs.List.{list_all}
use Rattle.std.proofs.lemmas.Bool.{and_from as and_intro}
use Rattle.std.proofs.lemmas.List.Folds.{list_all-append}
use Rattle.ll_list_laws.proofs.CallerLemmas.{and_true_left as and_left, and_true_right as and_right}
use Rattle.ll_bank.specs.Term.{Term, Env}
use Rattle.ll_bank.specs.Form.{Form, Top, One, Atom, With, Tensor, Plus, Bang, Lolli, Imp, Forall, Exists, Use, sub_form, close_form, Num}
use Rattle.ll_laws.specs.declared.Kind.{Kind}
use Rattle.ll_laws.specs.declared.Kind.TheVariants.{Linear, Unbounded}
use Rattle.ll_laws.specs.Leaf.{Premise, Needs, NeedsFree, Leaf, add_premise, ways, leaf_from, leaf}
use Rattle.ll_laws.specs.Module.{Setting, ClauseTree, ModuleTree, load, load_all, forall_all}
use Rattle.ll_laws.specs.Problem.{setting_of}
use Rattle.ll_laws.specs.Verdict.{same_kind}
use Rattle.ll_laws.specs.Derive.{Dealt, dealt_none, dealt_left, dealt_right, Derivable, by_one, by_top, by_tensor, by_with, by_left, by_right}
use Rattle.ll_laws.specs.Derive.{by_bang, by_lolli, by_imp, by_forall, by_exists, by_use, by_free, by_linear, Premises, no_premise, a_premise, a_free_premise}
use Rattle.ll_laws.specs.Derive.{by_num}
use Rattle.ll_top.specs.textbook.Follows.{of_kind, reckons, premises_reckon, is_numberless, are_numberless}
use Rattle.ll_top.specs.textbook.Laws.{NumberlessFollows}
use Rattle.ll_laws.proofs.CallerLemmas.{Among, among}

-- ---- closing and substituting

close-same : (e : Env) (g : Form) → is_numberless (close_form e g) ≡ is_numberless g
close-same e Top = refl
close-same e One = refl
close-same e (Atom a) = refl
close-same e (With f g) = let p = close-same e f in let q = close-same e g in cc
close-same e (Tensor f g) = let p = close-same e f in let q = close-same e g in cc
close-same e (Plus f g) = let p = close-same e f in let q = close-same e g in cc
close-same e (Bang f) = close-same e f
close-same e (Lolli f g) = let p = close-same e f in let q = close-same e g in cc
close-same e (Imp f g) = let p = close-same e f in let q = close-same e g in cc
close-same e (Forall f) = close-same (None ∷ e) f
close-same e (Exists f) = close-same (None ∷ e) f
close-same e (Use m ts f) = close-same e f
close-same e (Num r t u) = refl

sub-same : (s : ℕ → Term) (g : Form) → is_numberless (sub_form s g) ≡ is_numberless g
sub-same s Top = refl
sub-same s One = refl
sub-same s (Atom a) = refl
sub-same s (With f g) = let p = sub-same s f in let q = sub-same s g in cc
sub-same s (Tensor f g) = let p = sub-same s f in let q = sub-same s g in cc
sub-same s (Plus f g) = let p = sub-same s f in let q = sub-same s g in cc
sub-same s (Bang f) = sub-same s f
sub-same s (Lolli f g) = let p = sub-same s f in let q = sub-same s g in cc
sub-same s (Imp f g) = let p = sub-same s f in let q = sub-same s g in cc
sub-same s (Forall f) = sub-same s f
sub-same s (Exists f) = sub-same s f
sub-same s (Use m ts f) = sub-same s f
sub-same s (Num r t u) = refl

-- ---- leaves

abbrev premise_numberless : Premise → Bool
premise_numberless (Needs g) = is_numberless g
premise_numberless (NeedsFree g) = is_numberless g

abbrev LeafNumberless : Option Leaf → Type 0
LeafNumberless None = Unit {0}
LeafNumberless (Some l) = list_all premise_numberless l.premises ≡ true

added : (p : Premise) (o : Option Leaf) → premise_numberless p ≡ true → LeafNumberless o → LeafNumberless (option_map (add_premise p) o)
added p None h k = tt
added p (Some l) h k = list_all-append premise_numberless l.premises (p ∷ []) ∙ and_intro _ _ k (and_intro _ _ h refl)

one-of : (b : Bool) (x y : Option Leaf) → LeafNumberless x → LeafNumberless y → LeafNumberless (if b then x else y)
one-of true x y h k = h
one-of false x y h k = k

leaf-numberless : (e : Env) (g : Form) (k : ℕ) (ts : List Term) → is_numberless g ≡ true → LeafNumberless (leaf_from e g k ts)
leaf-numberless e (Atom a) zero [] h = refl
leaf-numberless e (Atom a) zero (t ∷ ts) h = tt
leaf-numberless e (Atom a) (suc k) [] h = tt
leaf-numberless e (Atom a) (suc k) (t ∷ ts) h = tt
leaf-numberless e (With r s) k ts h =
    one-of (nat_lt k (length (ways r))) (leaf_from e r k ts) (leaf_from e s (k - length (ways r)) ts)
    (leaf-numberless e r k ts (and_left (is_numberless r) (is_numberless s) h))
    (leaf-numberless e s (k - length (ways r)) ts (and_right (is_numberless r) (is_numberless s) h))
leaf-numberless e (Lolli g r) k ts h =
    added (Needs (close_form e g)) (leaf_from e r k ts) (close-same e g ∙ and_left (is_numberless g) (is_numberless r) h)
    (leaf-numberless e r k ts (and_right (is_numberless g) (is_numberless r) h))
leaf-numberless e (Imp g r) k ts h =
    added (NeedsFree (close_form e g)) (leaf_from e r k ts) (close-same e g ∙ and_left (is_numberless g) (is_numberless r) h)
    (leaf-numberless e r k ts (and_right (is_numberless g) (is_numberless r) h))
leaf-numberless e (Forall r) k [] h = tt
leaf-numberless e (Forall r) k (t ∷ ts) h = leaf-numberless (Some t ∷ e) r k ts h
leaf-numberless e _ k ts h = tt

-- ---- loads

load-numberless : (k : Kind) (g h : Form) → is_numberless g ≡ true → is_numberless h ≡ true → is_numberless (load k g h) ≡ true
load-numberless Linear g h p q = and_intro _ _ p q
load-numberless Unbounded g h p q = and_intro _ _ p q

loads-numberless : (e : Env) (cs : List ClauseTree) (g : Form) → are_numberless cs ≡ true → is_numberless g ≡ true → is_numberless (load_all e cs g) ≡ true
loads-numberless e [] g p q = q
loads-numberless e (c ∷ cs) g p q =
    load-numberless c.kind (close_form e c.form) (load_all e cs g) (close-same e c.form ∙ and_left (is_numberless c.form) (are_numberless cs) p)
    (loads-numberless e cs g (and_right (is_numberless c.form) (are_numberless cs) p) q)

foralls-numberless : (n : ℕ) (g : Form) → is_numberless g ≡ true → is_numberless (forall_all n g) ≡ true
foralls-numberless zero g p = p
foralls-numberless (suc n) g p = foralls-numberless n g p

module-numberless : (ms : List ModuleTree) (k : ℕ) (m : ModuleTree) → list_all (λ m. are_numberless m.clauses) ms ≡ true → slice_get ms k ≡ Some m
    → are_numberless m.clauses ≡ true
module-numberless [] k m h e = cc
module-numberless (l ∷ ms) zero m h e =
    let p : l ≡ m = cc in
    subst (λ z. are_numberless z.clauses ≡ true) p (and_left (are_numberless l.clauses) (list_all (λ m. are_numberless m.clauses) ms) h)
module-numberless (l ∷ ms) (suc k) m h e =
    module-numberless ms k m (and_right (are_numberless l.clauses) (list_all (λ m. are_numberless m.clauses) ms) h) e

-- ---- derivations

dealt-first : {xs ys zs : List Form} → Dealt xs ys zs → list_all is_numberless zs ≡ true → list_all is_numberless xs ≡ true
dealt-first dealt_none h = h
dealt-first (dealt_left {x = x} {xs = xs} {zs = zs} s) h =
    and_intro _ _ (and_left (is_numberless x) (list_all is_numberless zs) h) (dealt-first s (and_right (is_numberless x) (list_all is_numberless zs) h))
dealt-first (dealt_right {x = x} {zs = zs} s) h = dealt-first s (and_right (is_numberless x) (list_all is_numberless zs) h)

dealt-second : {xs ys zs : List Form} → Dealt xs ys zs → list_all is_numberless zs ≡ true → list_all is_numberless ys ≡ true
dealt-second dealt_none h = h
dealt-second (dealt_left {x = x} {zs = zs} s) h = dealt-second s (and_right (is_numberless x) (list_all is_numberless zs) h)
dealt-second (dealt_right {x = x} {zs = zs} s) h =
    and_intro _ _ (and_left (is_numberless x) (list_all is_numberless zs) h) (dealt-second s (and_right (is_numberless x) (list_all is_numberless zs) h))

one-numberless : (r : Form) (c : List Form) → Among r c → list_all is_numberless c ≡ true → is_numberless r ≡ true
one-numberless r [] m h = absurd m
one-numberless r (x ∷ c) (inl e) h = ap is_numberless (sym e) ∙ and_left (is_numberless x) (list_all is_numberless c) h
one-numberless r (x ∷ c) (inr m) h = one-numberless r c m (and_right (is_numberless x) (list_all is_numberless c) h)

neither : {a b : Bool} → a ≡ false → b ≡ false → a || b ≡ false
neither {b = b} p q = ap (λ z. z || b) p ∙ q

premises-of : (r : Form) (k : ℕ) (ts : List Term) (ps : List Premise) (a : Term) → leaf r k ts ≡ Some (record { premises = ps; head = a })
    → is_numberless r ≡ true → list_all premise_numberless ps ≡ true
premises-of r k ts ps a e h = subst LeafNumberless e (leaf-numberless [] r k ts h)

module _ (beside : Setting) (modules : list_all (λ m. are_numberless m.clauses) beside.modules ≡ true) where
  mutual
    pub none-reckons : {m : ℕ} {c d : List Form} {g : Form} (h : Derivable beside m c d g) → list_all is_numberless c ≡ true → list_all is_numberless d ≡ true
        → is_numberless g ≡ true → reckons h ≡ false
    none-reckons by_one p q n = refl
    none-reckons by_top p q n = refl
    none-reckons (by_tensor {g = g} {h = h} s x y) p q n =
        neither (none-reckons x p (dealt-first s q) (and_left (is_numberless g) (is_numberless h) n))
        (none-reckons y p (dealt-second s q) (and_right (is_numberless g) (is_numberless h) n))
    none-reckons (by_with {g = g} {h = h} x y) p q n =
        neither (none-reckons x p q (and_left (is_numberless g) (is_numberless h) n)) (none-reckons y p q (and_right (is_numberless g) (is_numberless h) n))
    none-reckons (by_left {g = g} {h = h} x) p q n = none-reckons x p q (and_left (is_numberless g) (is_numberless h) n)
    none-reckons (by_right {g = g} {h = h} x) p q n = none-reckons x p q (and_right (is_numberless g) (is_numberless h) n)
    none-reckons (by_bang x) p q n = none-reckons x p q n
    none-reckons (by_lolli {d = d} {r = r} {g = g} x) p q n =
        none-reckons x p
        (list_all-append is_numberless d (r ∷ []) ∙ and_intro _ _ q (and_intro _ _ (and_left (is_numberless r) (is_numberless g) n) refl))
        (and_right (is_numberless r) (is_numberless g) n)
    none-reckons (by_imp {r = r} {g = g} x) p q n =
        none-reckons x (and_intro _ _ (and_left (is_numberless r) (is_numberless g) n) p) q (and_right (is_numberless r) (is_numberless g) n)
    none-reckons (by_forall {g = g} k f x) p q n = none-reckons x p q (close-same _ g ∙ n)
    none-reckons (by_exists {g = g} t f x) p q n = none-reckons x p q (close-same _ g ∙ n)
    none-reckons (by_use {k = k} {g = g} {ts = ts} l f x) p q n =
        none-reckons x p q
        (foralls-numberless l.locals _ (loads-numberless _ l.clauses g (module-numberless beside.modules k l modules f) n))
    none-reckons (by_num f) p q n = cc
    none-reckons (by_free {c = c} {a = a} r k ts ps i cl lf x) p q n =
        none-premises x p q (premises-of r k ts ps a lf (one-numberless r c (among c r i) p))
    none-reckons (by_linear {a = a} r k ts ps s cl lf x) p q n =
        none-premises x p (dealt-second s q) (premises-of r k ts ps a lf (and_left (is_numberless r) true (dealt-first s q)))

    none-premises : {m : ℕ} {c d : List Form} {ps : List Premise} (h : Premises beside m c d ps) → list_all is_numberless c ≡ true
        → list_all is_numberless d ≡ true → list_all premise_numberless ps ≡ true → premises_reckon h ≡ false
    none-premises no_premise p q n = refl
    none-premises (a_premise {g = g} {ps = ps} s x y) p q n =
        neither (none-reckons x p (dealt-first s q) (and_left (is_numberless g) (list_all premise_numberless ps) n))
        (none-premises y p (dealt-second s q) (and_right (is_numberless g) (list_all premise_numberless ps) n))
    none-premises (a_free_premise {g = g} {ps = ps} x y) p q n =
        neither (none-reckons x p refl (and_left (is_numberless g) (list_all premise_numberless ps) n))
        (none-premises y p q (and_right (is_numberless g) (list_all premise_numberless ps) n))

of-kind-numberless : (k : Kind) (cs : List ClauseTree) → are_numberless cs ≡ true → list_all is_numberless (of_kind k cs) ≡ true
of-kind-numberless k [] h = refl
of-kind-numberless k (c ∷ cs) h =
    step (same_kind k c.kind) (and_left (is_numberless c.form) (are_numberless cs) h)
    (of-kind-numberless k cs (and_right (is_numberless c.form) (are_numberless cs) h))
  where
    step : (b : Bool) → is_numberless c.form ≡ true → list_all is_numberless (of_kind k cs) ≡ true
        → list_all is_numberless (if b then c.form ∷ of_kind k cs else of_kind k cs) ≡ true
    step true p q = and_intro _ _ p q
    step false p q = q

pub numberless_follows : NumberlessFollows
numberless_follows p ts m h n =
    none-reckons (setting_of p) n.modules h (of-kind-numberless Unbounded p.clauses n.clauses) (of-kind-numberless Linear p.clauses n.clauses)
    (sub-same _ p.goal ∙ n.goal)
