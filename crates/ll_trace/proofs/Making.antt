-- What a line makes of the trees after it, by how many it takes.
use Rattle.std.proofs.Common.{◌≡◌, ℕ, ◌+◌, ◌<◌, refl, ap, sym, ◌∙◌, List, [], ◌∷◌, ◌++◌, length, get_or, drop, suc, drop-cons, arith}
use Rattle.std.specs.Prelude.{Option, Some, None, option_and_then}
use Rattle.ll_bank.specs.Term.{Term}
use Rattle.ll_laws.specs.Dealing.{erases, deal}
use Rattle.ll_laws.specs.Line.{PartLine, Labels, Free, Line, OneLine, EraseLine, WithLine, LeftLine, RightLine, BangLine, UseLine, TensorLine, LolliLine}
use Rattle.ll_laws.specs.Line.{ImpLine, ForallLine, ExistsLine, ClauseLine, Cut, Short, Cuts, add_part, cut_parts, put_clause, put, trees_of, lines, NumLine}
use Rattle.ll_laws.specs.Shows.{Tree, OneNode, EraseNode, TensorNode, WithNode, LeftNode, RightNode, BangNode, LolliNode, ImpNode, ForallNode, ExistsNode}
use Rattle.ll_laws.specs.Shows.{UseNode, ClauseNode, Parts, NoParts, BoundedPart, UnboundedPart, nodes, NumNode}
use Rattle.ll_trace.specs.Picks.{picks_of}

-- a line over one tree, whose node uses and erases what its child does
pub record IsUnary (l : Line) (mk : Tree → Tree) : Type 0 where
  pub none : put l [] ≡ None
  pub some : (x : Tree) (us : List Tree) → put l (x ∷ us) ≡ Some (mk x ∷ us)
  pub nodes : (x : Tree) → nodes (mk x) ≡ suc (nodes x)
  pub erases : (x : Tree) → erases (mk x) ≡ erases x
  pub picks : (b : ℕ) (x : Tree) → picks_of b (mk x) ≡ None ∷ picks_of b x

-- the same, and the child gets what the node gets
pub record IsPassing (l : Line) (mk : Tree → Tree) : Type 0 where
  pub unary : IsUnary l mk
  pub lines : (d : List ℕ) (x : Tree) → lines (deal d (mk x)) ≡ l ∷ lines (deal d x)

pub left-passing : IsPassing LeftLine LeftNode
left-passing = record { unary = record { none = refl; some = λ x us. refl; nodes = λ x. refl; erases = λ x. refl; picks = λ b x. refl }; lines = λ d x. refl }

pub right-passing : IsPassing RightLine RightNode
right-passing = record { unary = record { none = refl; some = λ x us. refl; nodes = λ x. refl; erases = λ x. refl; picks = λ b x. refl }; lines = λ d x. refl }

pub use-passing : IsPassing UseLine UseNode
use-passing = record { unary = record { none = refl; some = λ x us. refl; nodes = λ x. refl; erases = λ x. refl; picks = λ b x. refl }; lines = λ d x. refl }

pub imp-passing : (n : ℕ) → IsPassing (ImpLine n) (ImpNode n)
imp-passing n = record { unary = record { none = refl; some = λ x us. refl; nodes = λ x. refl; erases = λ x. refl; picks = λ b x. refl }; lines = λ d x. refl }

pub forall-passing : (c : ℕ) → IsPassing (ForallLine c) (ForallNode c)
forall-passing c = record {
  unary = record { none = refl; some = λ x us. refl; nodes = λ x. refl; erases = λ x. refl; picks = λ b x. refl };
  lines =
      λ d x. refl;
}

pub exists-passing : (t : Term) → IsPassing (ExistsLine t) (ExistsNode t)
exists-passing t = record {
  unary = record { none = refl; some = λ x us. refl; nodes = λ x. refl; erases = λ x. refl; picks = λ b x. refl };
  lines =
      λ d x. refl;
}

-- a line over two trees
pub record IsBinary (l : Line) (mk : Tree → Tree → Tree) : Type 0 where
  pub none : put l [] ≡ None
  pub one : (x : Tree) → put l (x ∷ []) ≡ None
  pub some : (x y : Tree) (us : List Tree) → put l (x ∷ y ∷ us) ≡ Some (mk x y ∷ us)
  pub nodes : (x y : Tree) → nodes (mk x y) ≡ suc (nodes x + nodes y)
  pub picks : (b : ℕ) (x y : Tree) → picks_of b (mk x y) ≡ None ∷ (picks_of b x ++ picks_of b y)

-- a premise's tree in front of those of the others
abbrev pub join : PartLine → Tree → Parts → Parts
join (Labels s) x ps = BoundedPart s x ps
join Free x ps = UnboundedPart x ps

-- the first premise and its tree
pub record IsCutStep (p : PartLine) (ls : List PartLine) (ts : List Tree) (qs : Parts) (us : List Tree) : Type 0 where
  pub first : Tree
  pub trees : List Tree
  pub parts : Parts
  pub is_trees : ts ≡ first ∷ trees
  pub cut : cut_parts ls trees ≡ Cuts parts us
  pub is_parts : qs ≡ join p first parts

pub cut-step : (p : PartLine) (ls : List PartLine) (ts : List Tree) (qs : Parts) (us : List Tree) → cut_parts (p ∷ ls) ts ≡ Cuts qs us → IsCutStep p ls ts qs us
cut-step p ls [] qs us h = cc
cut-step p ls (t ∷ ts) qs us h = step p (cut_parts ls ts) refl h
  where
    step : (p : PartLine) (c : Cut) → cut_parts ls ts ≡ c → add_part p t c ≡ Cuts qs us → IsCutStep p ls (t ∷ ts) qs us
    step p Short e h = cc
    step (Labels s) (Cuts rs vs) e h =
        let f : BoundedPart s t rs ≡ qs = cc in let g : vs ≡ us = cc in
        record { first = t; trees = ts; parts = rs; is_trees = refl; cut = e ∙ ap (λ z. Cuts rs z) g; is_parts = sym f }
    step Free (Cuts rs vs) e h =
        let f : UnboundedPart t rs ≡ qs = cc in let g : vs ≡ us = cc in
        record { first = t; trees = ts; parts = rs; is_trees = refl; cut = e ∙ ap (λ z. Cuts rs z) g; is_parts = sym f }

-- no premise is left
pub record IsCutEnd (ts : List Tree) (qs : Parts) (us : List Tree) : Type 0 where
  pub parts : qs ≡ NoParts
  pub trees : ts ≡ us

pub cut-end : (ts : List Tree) (qs : Parts) (us : List Tree) → cut_parts [] ts ≡ Cuts qs us → IsCutEnd ts qs us
cut-end ts qs us h = record { parts = cc; trees = cc }

-- the premises of a clause node
pub record IsClauseMade (n k : ℕ) (terms : List Term) (ls : List PartLine) (ts vs : List Tree) : Type 0 where
  pub parts : Parts
  pub left : List Tree
  pub cut : cut_parts ls ts ≡ Cuts parts left
  pub is : ClauseNode n k terms parts ∷ left ≡ vs

pub clause-made : (n k : ℕ) (terms : List Term) (ls : List PartLine) (ts vs : List Tree) → put (ClauseLine n k terms ls) ts ≡ Some vs
    → IsClauseMade n k terms ls ts vs
clause-made n k terms ls ts vs h = step (cut_parts ls ts) refl h
  where
    step : (c : Cut) → cut_parts ls ts ≡ c → put_clause n k terms c ≡ Some vs → IsClauseMade n k terms ls ts vs
    step Short e h = cc
    step (Cuts qs ws) e h = record { parts = qs; left = ws; cut = e; is = cc }

-- the trees after the first node
pub record IsMade (l : Line) (ls : List Line) (vs : List Tree) : Type 0 where
  pub trees : List Tree
  pub is : trees_of ls ≡ Some trees
  pub made : put l trees ≡ Some vs

pub first-made : (l : Line) (ls : List Line) (vs : List Tree) → trees_of (l ∷ ls) ≡ Some vs → IsMade l ls vs
first-made l ls vs h = step (trees_of ls) refl h
  where
    step : (o : Option (List Tree)) → trees_of ls ≡ o → option_and_then (put l) o ≡ Some vs → IsMade l ls vs
    step None e h = cc
    step (Some ts) e h = record { trees = ts; is = e; made = h }

-- a node is the root of some tree
pub some-made : (l : Line) (ts : List Tree) → put l ts ≡ Some [] → ⊥
some-made OneLine ts h = cc
some-made NumLine ts h = cc
some-made EraseLine ts h = cc
some-made (TensorLine s t) (x ∷ y ∷ ts) h = cc
some-made WithLine (x ∷ y ∷ ts) h = cc
some-made LeftLine (x ∷ ts) h = cc
some-made RightLine (x ∷ ts) h = cc
some-made BangLine (x ∷ ts) h = cc
some-made UseLine (x ∷ ts) h = cc
some-made (LolliLine n) (x ∷ ts) h = cc
some-made (ImpLine n) (x ∷ ts) h = cc
some-made (ForallLine c) (x ∷ ts) h = cc
some-made (ExistsLine t) (x ∷ ts) h = cc
some-made (ClauseLine n k vs ps) ts h = let m = clause-made n k vs ps ts [] h in none (ClauseNode n k vs m.parts) m.left m.is
  where
    none : (x : Tree) (xs : List Tree) → x ∷ xs ≡ [] → ⊥
    none x xs e = cc
some-made _ ts h = cc

pub made-some : (l : Line) (vs ts : List Tree) → put l ts ≡ Some vs → 0 < length vs
made-some l [] ts h = absurd (some-made l ts h)
made-some l (v ∷ vs) ts h = omega arith

-- the list from a place on begins with the item there
pub drop_item : {A : Type 0} (xs : List A) (k : ℕ) (x : A) → k < length xs → x ≡ get_or xs k x → drop k xs ≡ x ∷ drop (k + 1) xs
drop_item {A = A} xs k x h e = let q : suc k ≡ k + 1 = omega arith in
    drop-cons xs k x h ∙ (ap (λ (y : A). y ∷ drop (suc k) xs) (sym e) ∙ ap (λ (i : ℕ). x ∷ drop i xs) q)

pub nodes-some : (x : Tree) → 0 < nodes x
nodes-some OneNode = omega arith
nodes-some NumNode = omega arith
nodes-some EraseNode = omega arith
nodes-some (TensorNode s t x y) = omega arith
nodes-some (WithNode x y) = omega arith
nodes-some (LeftNode x) = omega arith
nodes-some (RightNode x) = omega arith
nodes-some (BangNode x) = omega arith
nodes-some (LolliNode n x) = omega arith
nodes-some (ImpNode n x) = omega arith
nodes-some (ForallNode c x) = omega arith
nodes-some (ExistsNode t x) = omega arith
nodes-some (UseNode x) = omega arith
nodes-some (ClauseNode n k ts ps) = omega arith
