-- One node after another: what the sequents that wait owe before a node and after it.
use Rattle.std.proofs.Common.{◌≡◌, ℕ, suc, refl, ap, sym, ◌∙◌, subst, Bool, true, false, List, [], ◌∷◌, ◌++◌, length}
use Rattle.std.specs.Prelude.{◌&&◌, ◌||◌, not, if◌then◌else◌, nat_lt, Option, Some, None, option_and_then}
use Rattle.std.specs.List.{list_any}
use Rattle.ll_bank.specs.declared.Head.TheVariants.{Eigen}
use Rattle.ll_bank.specs.Term.{Term, Con}
use Rattle.ll_bank.specs.Form.{Form, Top, One, Atom, With, Tensor, Plus, Bang, Lolli, Imp, Forall, Exists, Use, Num, instantiate, form_has_eigen}
use Rattle.ll_laws.specs.Leaf.{Premise, Needs, NeedsFree, Leaf, ways, leaf}
use Rattle.ll_laws.specs.Module.{Setting, ModuleTree, unfold_load}
use Rattle.ll_laws.specs.Number.{holds}
use Rattle.ll_laws.specs.Shows.{Tree, Parts, NoParts, BoundedPart, UnboundedPart, Labelled, clauses, has_label, part, rest, splits, all_in, Found, Missing}
use Rattle.ll_laws.specs.Shows.{Took, pick}
use Rattle.ll_laws.specs.Line.{PartLine, Labels, Free, Cut, Short, Cuts, add_part, cut_parts, put_clause, put, Line, OneLine, EraseLine, WithLine, LeftLine}
use Rattle.ll_laws.specs.Line.{RightLine, BangLine, UseLine, TensorLine, LolliLine, ImpLine, ForallLine, ExistsLine, ClauseLine, NumLine, trees_of}
use Rattle.ll_laws.specs.Fault.{Checked, Fits, Fault, then_check, unless, is_empty, term_eq, parts_fit, parts_deal, Judged, Wrong, Right, judge_leaf}
use Rattle.ll_laws.specs.Fault.{judge_clause, module_of, on_judged, on_module, fault, fault_parts}
use Rattle.ll_sequent.specs.Sequents.{SequentTree}
use Rattle.ll_sequent.specs.Steps.{Made, Refuses, Asks, sequent, provided, blank, premises, made_of, made_by, made_at, faults, Owes}

-- what is checked after a node
abbrev after : Made → ℕ → (List SequentTree → Checked) → Checked
after (Refuses r) k go = Fault k r
after (Asks qs) k go = go qs

then_then : (a : Checked) (f g : ℕ → Checked) → then_check (then_check a f) g ≡ then_check a (λ m. then_check (f m) g)
then_then (Fits k) f g = refl
then_then (Fault k r) f g = refl

-- a node that asks for something by a test
by_test : (ok : Bool) (k r : ℕ) (c : Checked) (go : ℕ → Checked) (qs : List SequentTree) (next : List SequentTree → Checked) → then_check c go ≡ next qs
    → then_check (unless ok k r c) go ≡ after (provided ok r qs) k next
by_test true k r c go qs next e = e
by_test false k r c go qs next e = refl

-- a node that asks for nothing by two tests
by_two : (a b : Bool) (k : ℕ) (go : ℕ → Checked) (next : List SequentTree → Checked) → go (suc k) ≡ next []
    → then_check (unless a k 2 (unless b k 12 (Fits (suc k)))) go ≡ after (if a then provided b 12 [] else Refuses 2) k next
by_two true true k go next e = e
by_two true false k go next e = refl
by_two false b k go next e = refl

-- a load
by_module : (o : Option ModuleTree) (k : ℕ) (f : ModuleTree → Checked) (s : ModuleTree → SequentTree) (go : ℕ → Checked) (next : List SequentTree → Checked)
    → ((l : ModuleTree) → then_check (f l) go ≡ next (s l ∷ [])) → then_check (on_module o k f) go ≡ after (made_by o s) k next
by_module None k f s go next e = refl
by_module (Some l) k f s go next e = e l

-- ---- the premises of a clause node

-- the parts that were cut off are judged as their lines are, and checked as the sequents of their premises
record Cutting (b : Setting) (c : List Labelled) (qs : List SequentTree) (ps : List PartLine) (ys : List Tree) (parts : Parts) (xs : List Tree) : Type 0 where
  fit : (gs : List Premise) → parts_fit parts gs ≡ parts_fit (blank ps) gs
  deal : (e : List Labelled) → parts_deal parts e ≡ parts_deal (blank ps) e
  checked : (k : ℕ) (e : List Labelled) (gs : List Premise) → parts_fit (blank ps) gs ≡ true
      → then_check (fault_parts b k parts c e gs) (λ m. faults b m xs qs) ≡ faults b k ys (premises ps c e gs ++ qs)

abbrev IsCutting : Setting → List Labelled → List SequentTree → List PartLine → List Tree → Cut → Type 0
IsCutting b c qs ps ys Short = Unit {0}
IsCutting b c qs ps ys (Cuts parts xs) = Cutting b c qs ps ys parts xs

nothing_cut : (b : Setting) (c : List Labelled) (qs : List SequentTree) (ys : List Tree) → Cutting b c qs [] ys NoParts ys
nothing_cut b c qs ys = record { fit = λ gs. refl; deal = λ e. refl; checked = checked }
  where
    checked : (k : ℕ) (e : List Labelled) (gs : List Premise) → parts_fit NoParts gs ≡ true
        → then_check (fault_parts b k NoParts c e gs) (λ m. faults b m ys qs) ≡ faults b k ys (premises [] c e gs ++ qs)
    checked k e [] h = refl
    checked k e (g ∷ gs) h = refl

module _ (b : Setting) (c : List Labelled) (qs : List SequentTree) (ps : List PartLine) (y : Tree) (ys : List Tree) (parts : Parts) (xs : List Tree)
    (h : Cutting b c qs ps ys parts xs) where
  bounded_cut : (s : List ℕ) → Cutting b c qs (Labels s ∷ ps) (y ∷ ys) (BoundedPart s y parts) xs
  bounded_cut s = record { fit = fit; deal = λ e. ap (λ t. all_in s e && t) (h.deal (rest s e)); checked = checked }
    where
      fit : (gs : List Premise) → parts_fit (BoundedPart s y parts) gs ≡ parts_fit (blank (Labels s ∷ ps)) gs
      fit [] = refl
      fit (Needs g ∷ gs) = h.fit gs
      fit (NeedsFree g ∷ gs) = refl

      checked : (k : ℕ) (e : List Labelled) (gs : List Premise) → parts_fit (blank (Labels s ∷ ps)) gs ≡ true
          → then_check (fault_parts b k (BoundedPart s y parts) c e gs) (λ m. faults b m xs qs) ≡ faults b k (y ∷ ys) (premises (Labels s ∷ ps) c e gs ++ qs)
      checked k e [] p = cc
      checked k e (Needs g ∷ gs) p = then_then (fault b k y c (part s e) g) _ _
          ∙ (λ i. then_check (fault b k y c (part s e) g) (λ m. h.checked m (rest s e) gs p i))
      checked k e (NeedsFree g ∷ gs) p = cc

  free_cut : Cutting b c qs (Free ∷ ps) (y ∷ ys) (UnboundedPart y parts) xs
  free_cut = record { fit = fit; deal = h.deal; checked = checked }
    where
      fit : (gs : List Premise) → parts_fit (UnboundedPart y parts) gs ≡ parts_fit (blank (Free ∷ ps)) gs
      fit [] = refl
      fit (Needs g ∷ gs) = refl
      fit (NeedsFree g ∷ gs) = h.fit gs

      checked : (k : ℕ) (e : List Labelled) (gs : List Premise) → parts_fit (blank (Free ∷ ps)) gs ≡ true
          → then_check (fault_parts b k (UnboundedPart y parts) c e gs) (λ m. faults b m xs qs) ≡ faults b k (y ∷ ys) (premises (Free ∷ ps) c e gs ++ qs)
      checked k e [] p = cc
      checked k e (Needs g ∷ gs) p = cc
      checked k e (NeedsFree g ∷ gs) p = then_then (fault b k y c [] (Bang g)) _ _ ∙ (λ i. then_check (fault b k y c [] (Bang g)) (λ m. h.checked m e gs p i))

one_cut : (b : Setting) (c : List Labelled) (qs : List SequentTree) (p : PartLine) (ps : List PartLine) (y : Tree) (ys : List Tree) (cut : Cut)
    → IsCutting b c qs ps ys cut
    → IsCutting b c qs (p ∷ ps) (y ∷ ys) (add_part p y cut)
one_cut b c qs (Labels s) ps y ys Short h = tt
one_cut b c qs Free ps y ys Short h = tt
one_cut b c qs (Labels s) ps y ys (Cuts parts xs) h = bounded_cut b c qs ps y ys parts xs h s
one_cut b c qs Free ps y ys (Cuts parts xs) h = free_cut b c qs ps y ys parts xs h

cutting : (b : Setting) (c : List Labelled) (qs : List SequentTree) (ps : List PartLine) (ys : List Tree) → IsCutting b c qs ps ys (cut_parts ps ys)
cutting b c qs [] ys = nothing_cut b c qs ys
cutting b c qs (p ∷ ps) [] = tt
cutting b c qs (p ∷ ps) (y ∷ ys) = one_cut b c qs p ps y ys (cut_parts ps ys) (cutting b c qs ps ys)

-- ---- a clause node

-- the same is said of parts that fit and deal alike
module _ (p q : Parts) (fit : (gs : List Premise) → parts_fit p gs ≡ parts_fit q gs) (deal : (e : List Labelled) → parts_deal p e ≡ parts_deal q e) where
  same_leaf : (a : Term) (e : List Labelled) (o : Option Leaf) → judge_leaf a p e o ≡ judge_leaf a q e o
  same_leaf a e None = refl
  same_leaf a e (Some l) = λ i. if term_eq l.head a then (if fit l.premises i then (if deal e i then Right l.premises e else Wrong 3) else Wrong 8) else Wrong 7

  same_clause : (a : Term) (j : ℕ) (us : List Term) (f : Found) → judge_clause a j us p f ≡ judge_clause a j us q f
  same_clause a j us Missing = refl
  same_clause a j us (Took r e) = ap (λ v. if nat_lt j (length (ways r)) then v else Wrong 5) (same_leaf a e (leaf r j us))

-- a clause node that is right has parts that fit
module _ (k : ℕ) (ps : List PartLine) (c : List Labelled) (go : List Premise → List Labelled → Checked) (and_then : ℕ → Checked) (next : List SequentTree
    → Checked)
    (h : (gs : List Premise) (e : List Labelled) → parts_fit (blank ps) gs ≡ true → then_check (go gs e) and_then ≡ next (premises ps c e gs)) where
  abbrev Agrees : Judged → Type 0
  Agrees j = then_check (on_judged j k go) and_then ≡ after (made_of ps c j) k next

  on_deal : (gs : List Premise) (e : List Labelled) (b : Bool) → parts_fit (blank ps) gs ≡ true → Agrees (if b then Right gs e else Wrong 3)
  on_deal gs e true f = h gs e f
  on_deal gs e false f = refl

  on_fit : (gs : List Premise) (e : List Labelled) (b d : Bool) → parts_fit (blank ps) gs ≡ b
      → Agrees (if b then (if d then Right gs e else Wrong 3) else Wrong 8)
  on_fit gs e true d f = on_deal gs e d f
  on_fit gs e false d f = refl

  on_head : (gs : List Premise) (e : List Labelled) (b d : Bool)
      → Agrees (if b then (if parts_fit (blank ps) gs then (if d then Right gs e else Wrong 3) else Wrong 8) else Wrong 7)
  on_head gs e true d = on_fit gs e (parts_fit (blank ps) gs) d refl
  on_head gs e false d = refl

  on_leaf : (a : Term) (e : List Labelled) (o : Option Leaf) → Agrees (judge_leaf a (blank ps) e o)
  on_leaf a e None = refl
  on_leaf a e (Some l) = on_head l.premises e (term_eq l.head a) (parts_deal (blank ps) e)

  on_number : (b : Bool) (j : Judged) → Agrees j → Agrees (if b then j else Wrong 5)
  on_number true j a = a
  on_number false j a = refl

  on_clause : (a : Term) (j : ℕ) (us : List Term) (f : Found) → Agrees (judge_clause a j us (blank ps) f)
  on_clause a j us Missing = refl
  on_clause a j us (Took r e) = on_number (nat_lt j (length (ways r))) (judge_leaf a (blank ps) e (leaf r j us)) (on_leaf a e (leaf r j us))

-- ---- a node

-- the trees that a node makes are checked by what it makes of its sequent
abbrev FaultsAfter : Setting → ℕ → Line → SequentTree → List SequentTree → List Tree → Option (List Tree) → Type 0
FaultsAfter b k line q qs ys None = Unit {0}
FaultsAfter b k line q qs ys (Some xs) = faults b k xs (q ∷ qs) ≡ after (made_at b line q) k (λ ps. faults b (suc k) ys (ps ++ qs))

clause_goes : (b : Setting) (k n j : ℕ) (us : List Term) (ps : List PartLine) (c d : List Labelled) (g : Form) (qs : List SequentTree) (ys : List Tree)
    (cut : Cut)
    → IsCutting b c qs ps ys cut → FaultsAfter b k (ClauseLine n j us ps) (sequent c d g) qs ys (put_clause n j us cut)
clause_goes b k n j us ps c d g qs ys Short h = tt
clause_goes b k n j us ps c d (Atom a) qs ys (Cuts parts xs) h =
    ap (λ v. then_check (on_judged v k (λ gs e. fault_parts b (suc k) parts c e gs)) (λ m. faults b m xs qs))
    (same_clause parts (blank ps) h.fit h.deal a j us (pick n c d))
    ∙ on_clause k ps c (λ gs e. fault_parts b (suc k) parts c e gs) (λ m. faults b m xs qs) (λ ps. faults b (suc k) ys (ps ++ qs))
    (λ gs e f. h.checked (suc k) e gs f) a j us (pick n c d)
clause_goes b k n j us ps c d _ qs ys (Cuts parts xs) h = refl

goes : (b : Setting) (k : ℕ) (line : Line) (c d : List Labelled) (g : Form) (qs : List SequentTree) (ys : List Tree)
    → FaultsAfter b k line (sequent c d g) qs ys (put line ys)
goes b k OneLine c d One qs ys = by_test (is_empty d) k 2 (Fits (suc k)) (λ m. faults b m ys qs) [] (λ ps. faults b (suc k) ys (ps ++ qs)) refl
goes b k OneLine c d _ qs ys = refl
goes b k EraseLine c d Top qs ys = refl
goes b k EraseLine c d _ qs ys = refl
goes b k (TensorLine s t) c d g qs [] = tt
goes b k (TensorLine s t) c d g qs (x ∷ []) = tt
goes b k (TensorLine s t) c d (Tensor g h) qs (x ∷ y ∷ ys) =
    by_test (splits s t d) k 3 (then_check (fault b (suc k) x c (part s d) g) (λ m. fault b m y c (part t d) h)) (λ m. faults b m ys qs)
    (sequent c (part s d) g ∷ sequent c (part t d) h ∷ []) (λ ps. faults b (suc k) (x ∷ y ∷ ys) (ps ++ qs))
    (then_then (fault b (suc k) x c (part s d) g) (λ m. fault b m y c (part t d) h) (λ m. faults b m ys qs))
goes b k (TensorLine s t) c d _ qs (x ∷ y ∷ ys) = refl
goes b k WithLine c d g qs [] = tt
goes b k WithLine c d g qs (x ∷ []) = tt
goes b k WithLine c d (With g h) qs (x ∷ y ∷ ys) = then_then (fault b (suc k) x c d g) (λ m. fault b m y c d h) (λ m. faults b m ys qs)
goes b k WithLine c d _ qs (x ∷ y ∷ ys) = refl
goes b k LeftLine c d g qs [] = tt
goes b k LeftLine c d (Plus g h) qs (x ∷ ys) = refl
goes b k LeftLine c d _ qs (x ∷ ys) = refl
goes b k RightLine c d g qs [] = tt
goes b k RightLine c d (Plus g h) qs (x ∷ ys) = refl
goes b k RightLine c d _ qs (x ∷ ys) = refl
goes b k BangLine c d g qs [] = tt
goes b k BangLine c d (Bang g) qs (x ∷ ys) =
    by_test (is_empty d) k 2 (fault b (suc k) x c d g) (λ m. faults b m ys qs) (sequent c d g ∷ []) (λ ps. faults b (suc k) (x ∷ ys) (ps ++ qs)) refl
goes b k BangLine c d _ qs (x ∷ ys) = refl
goes b k (LolliLine n) c d g qs [] = tt
goes b k (LolliLine n) c d (Lolli r g) qs (x ∷ ys) =
    by_test (not (has_label c n || has_label d n)) k 9 (fault b (suc k) x c (d ++ record { label = n; clause = r } ∷ []) g) (λ m. faults b m ys qs)
    (sequent c (d ++ record { label = n; clause = r } ∷ []) g ∷ []) (λ ps. faults b (suc k) (x ∷ ys) (ps ++ qs)) refl
goes b k (LolliLine n) c d _ qs (x ∷ ys) = refl
goes b k (ImpLine n) c d g qs [] = tt
goes b k (ImpLine n) c d (Imp r g) qs (x ∷ ys) =
    by_test (not (has_label c n || has_label d n)) k 9 (fault b (suc k) x (record { label = n; clause = r } ∷ c) d g) (λ m. faults b m ys qs)
    (sequent (record { label = n; clause = r } ∷ c) d g ∷ []) (λ ps. faults b (suc k) (x ∷ ys) (ps ++ qs)) refl
goes b k (ImpLine n) c d _ qs (x ∷ ys) = refl
goes b k (ForallLine e) c d g qs [] = tt
goes b k (ForallLine e) c d (Forall g) qs (x ∷ ys) =
    by_test (not (list_any (form_has_eigen e) (g ∷ (clauses c ++ clauses d)))) k 10 (fault b (suc k) x c d (instantiate g (Con (Eigen e))))
    (λ m. faults b m ys qs) (sequent c d (instantiate g (Con (Eigen e))) ∷ []) (λ ps. faults b (suc k) (x ∷ ys) (ps ++ qs))
    refl
goes b k (ForallLine e) c d _ qs (x ∷ ys) = refl
goes b k (ExistsLine t) c d g qs [] = tt
goes b k (ExistsLine t) c d (Exists g) qs (x ∷ ys) = refl
goes b k (ExistsLine t) c d _ qs (x ∷ ys) = refl
goes b k UseLine c d g qs [] = tt
goes b k UseLine c d (Use m ts g) qs (x ∷ ys) =
    by_module (module_of b m) k (λ l. fault b (suc k) x c d (unfold_load l ts g)) (λ l. sequent c d (unfold_load l ts g)) (λ m. faults b m ys qs)
    (λ ps. faults b (suc k) (x ∷ ys) (ps ++ qs)) (λ l. refl)
goes b k UseLine c d _ qs (x ∷ ys) = refl
goes b k NumLine c d (Num r t u) qs ys = by_two (is_empty d) (holds b.operators r t u) k (λ m. faults b m ys qs) (λ ps. faults b (suc k) ys (ps ++ qs)) refl
goes b k NumLine c d _ qs ys = refl
goes b k (ClauseLine n j us ps) c d g qs ys = clause_goes b k n j us ps c d g qs ys (cut_parts ps ys) (cutting b c qs ps ys)

-- ---- what waits

-- what is owed after a node, of whose sequent this was made
record Next (b : Setting) (whole : Checked) (k : ℕ) (m : Made) (rest : List Line) (qs : List SequentTree) : Type 0 where
  trees : List Tree
  are : trees_of rest ≡ Some trees
  same : whole ≡ after m k (λ ps. faults b (suc k) trees (ps ++ qs))

next_by : (b : Setting) (whole : Checked) (k : ℕ) (line : Line) (rest : List Line) (q : SequentTree) (qs : List SequentTree) (xs : List Tree)
    (o : Option (List Tree)) → trees_of rest ≡ o
    → option_and_then (put line) o ≡ Some xs → whole ≡ faults b k xs (q ∷ qs) → Next b whole k (made_at b line q) rest qs
next_by b whole k line rest q qs xs None e is same = cc
next_by b whole k line rest q qs xs (Some ys) e is same =
    let g : FaultsAfter b k line q qs ys (Some xs) = let P : Option (List Tree) → Type 0 = FaultsAfter b k line q qs ys in
    subst P is (goes b k line q.free q.bounded q.goal qs ys) in
    record { trees = ys; are = e; same = same ∙ g }

next : {b : Setting} {whole : Checked} {k : ℕ} {line : Line} {rest : List Line} {q : SequentTree} {qs : List SequentTree}
    → Owes b whole k (line ∷ rest) (q ∷ qs)
    → Next b whole k (made_at b line q) rest qs
next {b} {whole} {k} {line} {rest} {q} {qs} o = next_by b whole k line rest q qs o.trees (trees_of rest) refl o.are o.same

-- a node that fits
pub fits : {b : Setting} {whole : Checked} {k : ℕ} {line : Line} {rest : List Line} {q : SequentTree} {qs ps : List SequentTree}
    → Owes b whole k (line ∷ rest) (q ∷ qs)
    → Asks ps ≡ made_at b line q → Owes b whole (suc k) rest (ps ++ qs)
fits {b} {whole} {k} {line} {rest} {q} {qs} {ps} o e =
    let n = next o in record { trees = n.trees; are = n.are; same = n.same ∙ ap (λ m. after m k (λ ps. faults b (suc k) n.trees (ps ++ qs))) (sym e) }

-- a node that does not
pub refused : {b : Setting} {whole : Checked} {k r : ℕ} {line : Line} {rest : List Line} {q : SequentTree} {qs : List SequentTree}
    → Owes b whole k (line ∷ rest) (q ∷ qs)
    → Refuses r ≡ made_at b line q → whole ≡ Fault k r
refused {b} {whole} {k} {r} {line} {rest} {q} {qs} o e = let n = next o in n.same ∙ ap (λ m. after m k (λ ps. faults b (suc k) n.trees (ps ++ qs))) (sym e)

no_sequents : (b : Setting) (k : ℕ) (xs : List Tree) → faults b k xs [] ≡ Fits k
no_sequents b k [] = refl
no_sequents b k (x ∷ xs) = refl

-- no sequent waits
pub none_waits : {b : Setting} {whole : Checked} {k : ℕ} {lines : List Line} → Owes b whole k lines [] → whole ≡ Fits k
none_waits {b} {whole} {k} o = o.same ∙ no_sequents b k o.trees

no_trees : (b : Setting) (k : ℕ) (xs : List Tree) (qs : List SequentTree) → Some [] ≡ Some xs → faults b k xs qs ≡ Fits k
no_trees b k [] qs e = refl
no_trees b k (x ∷ xs) qs e = cc

-- no node is left
pub none_left : {b : Setting} {whole : Checked} {k : ℕ} {qs : List SequentTree} → Owes b whole k [] qs → whole ≡ Fits k
none_left {b} {whole} {k} {qs} o = o.same ∙ no_trees b k o.trees qs o.are

-- the whole tree
pub whole_owes : (b : Setting) (lines : List Line) (x : Tree) (q : SequentTree) → trees_of lines ≡ Some (x ∷ [])
    → Owes b (fault b 1 x q.free q.bounded q.goal) 1 lines (q ∷ [])
whole_owes b lines x q e = record { trees = x ∷ []; are = e; same = at_end (fault b 1 x q.free q.bounded q.goal) }
  where
    at_end : (c : Checked) → c ≡ then_check c (λ m. Fits m)
    at_end (Fits k) = refl
    at_end (Fault k r) = refl
