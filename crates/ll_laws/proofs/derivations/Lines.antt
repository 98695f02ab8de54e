-- The nodes of a derivation and its tree: as many as the tree has, and with closed terms where theirs are.
use Rattle.std.proofs.Common.{◌≡◌, ℕ, suc, ◌+◌, refl, ap, sym, subst, ◌∙◌, Bool, true, false, List, [], ◌∷◌, length, arith}
use Rattle.std.specs.Prelude.{◌&&◌, nat_eq, if◌then◌else◌, Option, Some, None, option_and_then}
use Rattle.std.specs.List.{list_all}
use Rattle.std.proofs.lemmas.Bool.{eqb-true, eq-eqb}
use Rattle.ll_list_laws.proofs.CallerLemmas.{and_true_left as and_one, and_true_right as and_two}
use Rattle.ll_bank.specs.Term.{Term, is_closed}
use Rattle.ll_laws.specs.Problem.{ProblemTree, setting_of}
use Rattle.ll_laws.specs.Derive.{AreClosed, Derivable}
use Rattle.ll_laws.specs.Shows.{Tree, OneNode, EraseNode, TensorNode, WithNode, LeftNode, RightNode, BangNode, LolliNode, ImpNode, ForallNode, ExistsNode}
use Rattle.ll_laws.specs.Shows.{UseNode, ClauseNode, Parts, NoParts, BoundedPart, UnboundedPart, nodes, part_nodes, clauses, HasClosedTerms, HaveClosedTerms}
use Rattle.ll_laws.specs.Shows.{NumNode}
use Rattle.ll_laws.specs.Fault.{Fits, Fault, fault}
use Rattle.ll_laws.specs.Line.{PartLine, Labels, Free, Line, OneLine, EraseLine, WithLine, LeftLine, RightLine, BangLine, UseLine, TensorLine, LolliLine}
use Rattle.ll_laws.specs.Line.{ImpLine, ForallLine, ExistsLine, ClauseLine, Cut, Short, Cuts, add_part, cut_parts, put_clause, put, trees_of, is_line}
use Rattle.ll_laws.specs.Line.{part_rises, DerivationLines, NumLine}
use Rattle.ll_laws.specs.Verdict.{root_free, root_bounded, instantiated_goal, TreeShows, DerivationShows, first_fault}
use Rattle.ll_laws.proofs.derivations.DeriveLaw.{derive}
use Rattle.ll_laws.proofs.derivations.FaultLaw.{yes_shows, shows_yes}

-- the nodes of all trees
abbrev pub total : List Tree → ℕ
total [] = 0
total (x ∷ xs) = nodes x + total xs

-- the terms of all trees are closed
abbrev AllClosed : List Tree → Type 0
AllClosed [] = Unit {0}
AllClosed (x ∷ xs) = HasClosedTerms x × AllClosed xs

-- the parts that were cut off and the trees left have the nodes of all
cut-count : (ps : List PartLine) (ts : List Tree) (qs : Parts) (us : List Tree) → cut_parts ps ts ≡ Cuts qs us → part_nodes qs + total us ≡ total ts
cut-count [] ts qs us h = let e : NoParts ≡ qs = cc in let f : ts ≡ us = cc in
    subst (λ q. part_nodes q + total us ≡ total ts) e (subst (λ v. 0 + total v ≡ total ts) f (omega arith))
cut-count (p ∷ ps) [] qs us h = cc
cut-count (p ∷ ps) (t ∷ ts) qs us h = step p (cut_parts ps ts) (cut-count ps ts) h
  where
    step : (p : PartLine) (c : Cut) → ((rs : Parts) (vs : List Tree) → c ≡ Cuts rs vs → part_nodes rs + total vs ≡ total ts) → add_part p t c ≡ Cuts qs us
        → part_nodes qs + total us ≡ nodes t + total ts
    step p Short go h = cc
    step (Labels s) (Cuts rs vs) go h =
        let e : BoundedPart s t rs ≡ qs = cc in let f : vs ≡ us = cc in let g = go rs vs refl in
        subst (λ q. part_nodes q + total us ≡ nodes t + total ts) e (subst (λ v. nodes t + part_nodes rs + total v ≡ nodes t + total ts) f (omega (arith, g)))
    step Free (Cuts rs vs) go h =
        let e : UnboundedPart t rs ≡ qs = cc in let f : vs ≡ us = cc in let g = go rs vs refl in
        subst (λ q. part_nodes q + total us ≡ nodes t + total ts) e (subst (λ v. nodes t + part_nodes rs + total v ≡ nodes t + total ts) f (omega (arith, g)))

put-count : (l : Line) (ts us : List Tree) → put l ts ≡ Some us → total us ≡ suc (total ts)
put-count OneLine ts us h = let e : OneNode ∷ ts ≡ us = cc in subst (λ v. total v ≡ suc (total ts)) e (omega arith)
put-count EraseLine ts us h = let e : EraseNode ∷ ts ≡ us = cc in subst (λ v. total v ≡ suc (total ts)) e (omega arith)
put-count NumLine ts us h = let e : NumNode ∷ ts ≡ us = cc in subst (λ v. total v ≡ suc (total ts)) e (omega arith)
put-count (TensorLine s t) (x ∷ y ∷ ts) us h = let e : TensorNode s t x y ∷ ts ≡ us = cc in subst (λ v. total v ≡ suc (total (x ∷ y ∷ ts))) e (omega arith)
put-count WithLine (x ∷ y ∷ ts) us h = let e : WithNode x y ∷ ts ≡ us = cc in subst (λ v. total v ≡ suc (total (x ∷ y ∷ ts))) e (omega arith)
put-count LeftLine (x ∷ ts) us h = let e : LeftNode x ∷ ts ≡ us = cc in subst (λ v. total v ≡ suc (total (x ∷ ts))) e (omega arith)
put-count RightLine (x ∷ ts) us h = let e : RightNode x ∷ ts ≡ us = cc in subst (λ v. total v ≡ suc (total (x ∷ ts))) e (omega arith)
put-count BangLine (x ∷ ts) us h = let e : BangNode x ∷ ts ≡ us = cc in subst (λ v. total v ≡ suc (total (x ∷ ts))) e (omega arith)
put-count UseLine (x ∷ ts) us h = let e : UseNode x ∷ ts ≡ us = cc in subst (λ v. total v ≡ suc (total (x ∷ ts))) e (omega arith)
put-count (LolliLine n) (x ∷ ts) us h = let e : LolliNode n x ∷ ts ≡ us = cc in subst (λ v. total v ≡ suc (total (x ∷ ts))) e (omega arith)
put-count (ImpLine n) (x ∷ ts) us h = let e : ImpNode n x ∷ ts ≡ us = cc in subst (λ v. total v ≡ suc (total (x ∷ ts))) e (omega arith)
put-count (ForallLine c) (x ∷ ts) us h = let e : ForallNode c x ∷ ts ≡ us = cc in subst (λ v. total v ≡ suc (total (x ∷ ts))) e (omega arith)
put-count (ExistsLine t) (x ∷ ts) us h = let e : ExistsNode t x ∷ ts ≡ us = cc in subst (λ v. total v ≡ suc (total (x ∷ ts))) e (omega arith)
put-count (ClauseLine n k vs ps) ts us h = step (cut_parts ps ts) (cut-count ps ts) h
  where
    step : (c : Cut) → ((qs : Parts) (ws : List Tree) → c ≡ Cuts qs ws → part_nodes qs + total ws ≡ total ts) → put_clause n k vs c ≡ Some us
        → total us ≡ suc (total ts)
    step Short go h = cc
    step (Cuts qs ws) go h = let e : ClauseNode n k vs qs ∷ ws ≡ us = cc in let g = go qs ws refl in subst (λ v. total v ≡ suc (total ts)) e (omega (arith, g))
put-count _ ts us h = cc

-- a derivation has as many nodes as its trees
pub trees-count : (ns : List Line) (ts : List Tree) → trees_of ns ≡ Some ts → total ts ≡ length ns
trees-count [] ts h = let e : [] ≡ ts = cc in subst (λ v. total v ≡ 0) e refl
trees-count (n ∷ ns) ts h = step (trees_of ns) (trees-count ns) h
  where
    step : (o : Option (List Tree)) → ((us : List Tree) → o ≡ Some us → total us ≡ length ns) → option_and_then (put n) o ≡ Some ts → total ts ≡ suc (length ns)
    step None go h = cc
    step (Some us) go h = put-count n us ts h ∙ ap (λ z. suc z) (go us refl)

are-closed : (ts : List Term) → list_all is_closed ts ≡ true → AreClosed ts
are-closed [] h = tt
are-closed (t ∷ ts) h = (and_one (is_closed t) (list_all is_closed ts) h, are-closed ts (and_two (is_closed t) (list_all is_closed ts) h))

record CutClosed (qs : Parts) (us : List Tree) : Type 0 where
  parts : HaveClosedTerms qs
  left : AllClosed us

cut-closed : (ps : List PartLine) (ts : List Tree) (qs : Parts) (us : List Tree) → AllClosed ts → cut_parts ps ts ≡ Cuts qs us → CutClosed qs us
cut-closed [] ts qs us z h = let e : NoParts ≡ qs = cc in let f : ts ≡ us = cc in record { parts = subst HaveClosedTerms e tt; left = subst AllClosed f z }
cut-closed (p ∷ ps) [] qs us z h = cc
cut-closed (p ∷ ps) (t ∷ ts) qs us z h = step p (cut_parts ps ts) (opened z) (λ rs vs. cut-closed ps ts rs vs (rest-closed z)) h
  where
    opened : AllClosed (t ∷ ts) → HasClosedTerms t
    opened z = z.0

    rest-closed : AllClosed (t ∷ ts) → AllClosed ts
    rest-closed z = z.1

    step : (p : PartLine) (c : Cut) → HasClosedTerms t → ((rs : Parts) (vs : List Tree) → c ≡ Cuts rs vs → CutClosed rs vs) → add_part p t c ≡ Cuts qs us
        → CutClosed qs us
    step p Short z go h = cc
    step (Labels s) (Cuts rs vs) z go h =
        let e : BoundedPart s t rs ≡ qs = cc in let f : vs ≡ us = cc in let g = go rs vs refl in
        record { parts = subst HaveClosedTerms e (z, g.parts); left = subst AllClosed f g.left }
    step Free (Cuts rs vs) z go h =
        let e : UnboundedPart t rs ≡ qs = cc in let f : vs ≡ us = cc in let g = go rs vs refl in
        record { parts = subst HaveClosedTerms e (z, g.parts); left = subst AllClosed f g.left }

put-closed : (l : Line) (ts us : List Tree) → is_line l ≡ true → AllClosed ts → put l ts ≡ Some us → AllClosed us
put-closed OneLine ts us i z h = let e : OneNode ∷ ts ≡ us = cc in subst AllClosed e (tt, z)
put-closed EraseLine ts us i z h = let e : EraseNode ∷ ts ≡ us = cc in subst AllClosed e (tt, z)
put-closed NumLine ts us i z h = let e : NumNode ∷ ts ≡ us = cc in subst AllClosed e (tt, z)
put-closed (TensorLine s t) (x ∷ y ∷ ts) us i z h = let e : TensorNode s t x y ∷ ts ≡ us = cc in subst AllClosed e ((z.0, z.1.0), z.1.1)
put-closed WithLine (x ∷ y ∷ ts) us i z h = let e : WithNode x y ∷ ts ≡ us = cc in subst AllClosed e ((z.0, z.1.0), z.1.1)
put-closed LeftLine (x ∷ ts) us i z h = let e : LeftNode x ∷ ts ≡ us = cc in subst AllClosed e z
put-closed RightLine (x ∷ ts) us i z h = let e : RightNode x ∷ ts ≡ us = cc in subst AllClosed e z
put-closed BangLine (x ∷ ts) us i z h = let e : BangNode x ∷ ts ≡ us = cc in subst AllClosed e z
put-closed UseLine (x ∷ ts) us i z h = let e : UseNode x ∷ ts ≡ us = cc in subst AllClosed e z
put-closed (LolliLine n) (x ∷ ts) us i z h = let e : LolliNode n x ∷ ts ≡ us = cc in subst AllClosed e z
put-closed (ImpLine n) (x ∷ ts) us i z h = let e : ImpNode n x ∷ ts ≡ us = cc in subst AllClosed e z
put-closed (ForallLine c) (x ∷ ts) us i z h = let e : ForallNode c x ∷ ts ≡ us = cc in subst AllClosed e z
put-closed (ExistsLine t) (x ∷ ts) us i z h = let e : ExistsNode t x ∷ ts ≡ us = cc in subst AllClosed e ((i, z.0), z.1)
put-closed (ClauseLine n k vs ps) ts us i z h = step (cut_parts ps ts) (λ qs ws. cut-closed ps ts qs ws z) h
  where
    step : (c : Cut) → ((qs : Parts) (ws : List Tree) → c ≡ Cuts qs ws → CutClosed qs ws) → put_clause n k vs c ≡ Some us → AllClosed us
    step Short go h = cc
    step (Cuts qs ws) go h =
        let e : ClauseNode n k vs qs ∷ ws ≡ us = cc in let g = go qs ws refl in
        subst AllClosed e ((are-closed vs (and_one (list_all is_closed vs) (list_all part_rises ps) i), g.parts), g.left)
put-closed _ ts us i z h = cc

-- the trees of nodes with closed terms have closed terms
trees-closed : (ns : List Line) (ts : List Tree) → list_all is_line ns ≡ true → trees_of ns ≡ Some ts → AllClosed ts
trees-closed [] ts i h = let e : [] ≡ ts = cc in subst AllClosed e none
  where
    none : AllClosed []
    none = tt
trees-closed (n ∷ ns) ts i h = step (trees_of ns) (λ us. trees-closed ns us (and_two (is_line n) (list_all is_line ns) i)) h
  where
    step : (o : Option (List Tree)) → ((us : List Tree) → o ≡ Some us → AllClosed us) → option_and_then (put n) o ≡ Some ts → AllClosed ts
    step None go h = cc
    step (Some us) go h = put-closed n us ts (and_one (is_line n) (list_all is_line ns) i) (go us refl) h

-- ---- the laws, over whole derivations

pub shown-derivable : (p : ProblemTree) (d : DerivationLines) → DerivationShows p d
    → Derivable (setting_of p) (length d.nodes) (clauses (root_free p)) (clauses (root_bounded p)) (instantiated_goal p d.asked)
shown-derivable p d h =
    subst (λ n. Derivable (setting_of p) n (clauses (root_free p)) (clauses (root_bounded p)) (instantiated_goal p d.asked))
    (one ∙ trees-count d.nodes (h.tree ∷ []) h.is_tree)
    (derive (setting_of p) h.tree (root_free p) (root_bounded p) (instantiated_goal p d.asked) h.shows)
  where
    one : nodes h.tree ≡ total (h.tree ∷ [])
    one = omega arith

pub no-fault-shows : (p : ProblemTree) (d : DerivationLines) (x : Tree) (m : ℕ) → list_all is_line d.nodes ≡ true → trees_of d.nodes ≡ Some (x ∷ [])
    → first_fault p d x ≡ Fits m → DerivationShows p d
no-fault-shows p d x m i t h = step (nat_eq (length d.asked) (length p.asked)) refl h
  where
    first : AllClosed (x ∷ []) → HasClosedTerms x
    first z = z.0

    step : (b : Bool) → nat_eq (length d.asked) (length p.asked) ≡ b
        → (if b then fault (setting_of p) 1 x (root_free p) (root_bounded p) (instantiated_goal p d.asked) else Fault 0 11) ≡ Fits m → DerivationShows p d
    step true e h = record {
      tree = x;
      is_tree = t;
      count = eqb-true (length d.asked) (length p.asked) e;
      shows = yes_shows (setting_of p) 1 x (root_free p) (root_bounded p) (instantiated_goal p d.asked) m (first (trees-closed d.nodes (x ∷ []) i t)) h;
    }
    step false e h = cc

pub shown-no-fault : (p : ProblemTree) (d : DerivationLines) (x : Tree) → trees_of d.nodes ≡ Some (x ∷ []) → DerivationShows p d
    → first_fault p d x ≡ Fits (suc (nodes x))
shown-no-fault p d x t h =
    rw (eq-eqb (length d.asked) (length p.asked) h.count)
    (shows_yes (setting_of p) 1 x (root_free p) (root_bounded p) (instantiated_goal p d.asked)
    (subst (λ y. TreeShows p y d.asked) (same h.tree x (sym h.is_tree ∙ t)) h.shows) ∙ ap Fits (omega arith))
  where
    same : (a b : Tree) → Some (a ∷ []) ≡ Some (b ∷ []) → a ≡ b
    same a b h = cc
