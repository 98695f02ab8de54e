-- The vectors of raw trees and their nodes: what each call reads and leaves.
use Rattle.std.proofs.Common.{◌≡◌, ℕ, ◌-◌, ◌<◌, ◌≤◌, List, [], ◌∷◌, ◌++◌, length, map, All, get_or, take, drop, refl, ap, sym, subst, ◌∙◌, inl, inr, arith}
use Rattle.std.proofs.Common.{length-append, length-drop}
use Rattle.std.specs.Prelude.{Result, Ok, Err, OnErr}
use Rattle.std.proofs.Math.ListN.{get_or-append, get_or-map}
use Rattle.std.proofs.Math.Nat.{le_trans}
use Rattle.std.proofs.Math.Seq.{get_or-append_seam}
use Rattle.std.proofs.lemmas.Bool.{cases_lt}
use Rattle.std.proofs.lemmas.List.{length-map, map-append, drop-append-le, take-append-le, take-append-drop, length-take-le}
use Rattle.std.proofs.lemmas.List.Elements.{All-head, All-tail, All-push, All-cons}
use Rattle.ll_list_laws.proofs.CallerLemmas.{each-push as push_all, map_same_on as same_map, OnErr-always}
use Rattle.ll_bank.specs.Nodes.{grow}
use Rattle.ll_bank.proofs.CallerLemmas.{grow_kept, get_or-grow_at}
use Rattle.ll_lexer.specs.declared.Place.{Place}
use Rattle.ll_parser.specs.declared.RawAt.{RawAt}
use Rattle.ll_parser.specs.declared.RawNode.{RawNode}
use Rattle.ll_parser.specs.declared.RawNode.TheVariants as seen
use Rattle.ll_parser.specs.declared.raws.Span.{Span}
use Rattle.ll_parser.specs.declared.raws.Row.{Row}
use Rattle.ll_parser.specs.declared.raws.Row.TheVariants as row
use Rattle.ll_parser.specs.Raw.{Raw, truth, braces, universal, existential, load, binary, head, is_goal, less_goal, most_goal, raw_place}
use Rattle.ll_parser.specs.Nodes.{Node, TrueNode, EraseNode, AnyNode, BracesNode, ForallNode, ExistsNode, LoadNode, BinaryNode, HeadNode, IntNode, IsGoalNode}
use Rattle.ll_parser.specs.Nodes.{LessGoalNode, MostGoalNode, identifier, raw_in, raws_in, build_raw, raw_trees, raw_at}
use Rattle.ll_parser.specs.Seen.{places, node_of, HasPartsBelow, IsRawNode}
use Rattle.ll_parser.specs.Stored.{args_of, row_node, node_place, IsWithin, IsRowKept, IsBelow, IsWellFounded, IsKept, AddsTo}

-- ---- the tree that a node builds depends on what is below it alone

-- trees that agree below a place are alike at places below it
pub same_raws : (trees trees' : List Raw) (at : ℕ) → ((a : ℕ) → a < at → raw_in trees a ≡ raw_in trees' a) → (ats : List ℕ) → All (λ a. a < at) ats
    → raws_in trees ats ≡ raws_in trees' ats
same_raws trees trees' at h [] w = refl
same_raws trees trees' at h (a ∷ ats) w =
    let e1 = h a (All-head (λ a. a < at) a ats w) in let e2 = same_raws trees trees' at h ats (All-tail (λ a. a < at) a ats w) in cc

pub same_build : (texts : List (List ℕ)) (trees trees' : List Raw) (at : ℕ) → ((a : ℕ) → a < at → raw_in trees a ≡ raw_in trees' a) → (n : Node) → IsBelow at n
    → build_raw texts trees n ≡ build_raw texts trees' n
same_build texts trees trees' at h (TrueNode p) w = refl
same_build texts trees trees' at h (EraseNode p) w = refl
same_build texts trees trees' at h (AnyNode p) w = refl
same_build texts trees trees' at h (BracesNode p g) w = ap (braces p) (h g w)
same_build texts trees trees' at h (ForallNode p n g) w = ap (universal p (identifier texts n)) (h g w)
same_build texts trees trees' at h (ExistsNode p n g) w = ap (existential p (identifier texts n)) (h g w)
same_build texts trees trees' at h (LoadNode p n args g) w = λ i. load p (identifier texts n) (same_raws trees trees' at h args w.0 i) (h g w.1 i)
same_build texts trees trees' at h (BinaryNode o p f g) w = λ i. binary o p (h f w.0 i) (h g w.1 i)
same_build texts trees trees' at h (HeadNode n args) w = ap (head (identifier texts n)) (same_raws trees trees' at h args w)
same_build texts trees trees' at h (IntNode p z) w = refl
same_build texts trees trees' at h (IsGoalNode p f g) w = λ i. is_goal p (h f w.0 i) (h g w.1 i)
same_build texts trees trees' at h (LessGoalNode p f g) w = λ i. less_goal p (h f w.0 i) (h g w.1 i)
same_build texts trees trees' at h (MostGoalNode p f g) w = λ i. most_goal p (h f w.0 i) (h g w.1 i)

module _ (texts : List (List ℕ)) (nodes : List Node) (low : IsWellFounded nodes) where
  -- a tree is what its node builds over all trees
  pub raw_at-node : (at : ℕ) (d : Node) → at < length nodes → raw_at texts nodes at ≡ build_raw texts (raw_trees texts nodes) (get_or nodes at d)
  unfolding raw_trees
  raw_at-node at d h =
      get_or-grow_at (build_raw texts) nodes at d (truth (record { line = 1; column = 1 })) h
      ∙ same_build texts (grow (build_raw texts) [] (take at nodes)) (grow (build_raw texts) [] nodes) at earlier (get_or nodes at d) (low at d h)
    where
      earlier : (a : ℕ) → a < at → raw_in (grow (build_raw texts) [] (take at nodes)) a ≡ raw_in (grow (build_raw texts) [] nodes) a
      earlier a l =
          let s : length (take at nodes) ≡ at = length-take-le at nodes (omega arith) in
          sym (subst (λ ns. raw_in (grow (build_raw texts) [] ns) a ≡ raw_in (grow (build_raw texts) [] (take at nodes)) a) (take-append-drop at nodes)
          (grow_kept (build_raw texts) (take at nodes) (drop at nodes) a (truth (record { line = 1; column = 1 })) (omega arith)))

-- ---- a node put behind the others stands on lower ones

-- ---- more arguments leave the nodes

span_more : (cs more : List RawAt) (span : Span) → IsWithin cs span → args_of (cs ++ more) span ≡ args_of cs span
span_more cs more span h =
    let small : span.to - span.from ≤ length (drop span.from cs) = simp length-drop (omega (arith, h.0, h.1)) in
    ap (take (span.to - span.from)) (drop-append-le span.from cs more (le_trans h.0 h.1)) ∙ take-append-le (span.to - span.from) (drop span.from cs) more small

row_more : (cs more : List RawAt) (r : Row) → IsRowKept cs r → row_node (cs ++ more) r ≡ row_node cs r
row_more cs more (row.Load at n span g) h = ap (λ xs. LoadNode at n (places xs) g.0) (span_more cs more span h)
row_more cs more (row.Head n span) h = ap (λ xs. HeadNode n (places xs)) (span_more cs more span h)
row_more cs more _ h = refl

within_more : (cs more : List RawAt) (span : Span) → IsWithin cs span → IsWithin (cs ++ more) span
within_more cs more span h = (h.0, simp length-append (omega (arith, h.1)))

kept_more : (cs more : List RawAt) (r : Row) → IsRowKept cs r → IsRowKept (cs ++ more) r
kept_more cs more (row.Load at n span g) h = within_more cs more span h
kept_more cs more (row.Head n span) h = within_more cs more span h
kept_more cs more (row.Int at z) h = h
kept_more cs more (row.True at) h = tt
kept_more cs more (row.Erase at) h = tt
kept_more cs more (row.Braces at g) h = tt
kept_more cs more (row.Forall at n g) h = tt
kept_more cs more (row.Exists at n g) h = tt
kept_more cs more (row.Binary at o f g) h = tt
kept_more cs more (row.Any at) h = tt
kept_more cs more (row.Is at f g) h = tt
kept_more cs more (row.Less at f g) h = tt
kept_more cs more (row.Most at f g) h = tt

-- the vectors after arguments were added behind the others
module _ (cs ds : List RawAt) (adds : AddsTo cs ds) (rs ss : List Row) (kept : IsKept cs rs) (same : ss ≡ rs) where
  pub same_nodes : map (row_node ds) ss ≡ map (row_node cs) rs
  same_nodes = rw (adds.is, same) (same_map (row_node (cs ++ adds.more)) (row_node cs) (IsRowKept cs) rs (row_more cs adds.more) kept.each)

  pub still_kept : IsKept ds ss
  still_kept = record {
    each = rw (adds.is, same) (λ k d l. kept_more cs adds.more (get_or rs k d) (kept.each k d l));
    lower = subst IsWellFounded (sym same_nodes) kept.lower;
  }

  pub same_view : (old : List Node) → map (row_node cs) rs ≡ old → map (row_node ds) ss ≡ old
  same_view old view = same_nodes ∙ view

-- parts that lie below a place do so in their node
pub places_below : (k : ℕ) (args : List RawAt) → All (λ a. a.0 < k) args → All (λ a. a < k) (places args)
places_below k [] h = λ j d q. absurd (omega arith)
places_below k (a ∷ args) h =
    All-cons (λ a. a < k) a.0 (places args) (All-head (λ (a : RawAt). a.0 < k) a args h) (places_below k args (All-tail (λ (a : RawAt). a.0 < k) a args h))

below_places : (k : ℕ) (args : List RawAt) → All (λ a. a < k) (places args) → All (λ a. a.0 < k) args
below_places k args h = λ j d q. subst (λ z. z < k) (get_or-map (λ (a : RawAt). a.0) args j d) (h j d.0 (simp length-map q))

pub parts_below : (k : ℕ) (at : Place) (v : RawNode) → HasPartsBelow k v → IsBelow k (node_of at v)
parts_below k at seen.True h = tt
parts_below k at seen.Erase h = tt
parts_below k at (seen.Braces g) h = h
parts_below k at (seen.Forall n g) h = h
parts_below k at (seen.Exists n g) h = h
parts_below k at (seen.Load n args g) h = (places_below k args.now h.0, h.1)
parts_below k at (seen.Binary o f g) h = h
parts_below k at (seen.Head n args) h = places_below k args.now h
parts_below k at seen.Any h = tt
parts_below k at (seen.Int z) h = tt
parts_below k at (seen.Is f g) h = h
parts_below k at (seen.Less f g) h = h
parts_below k at (seen.Most f g) h = h

pub below_parts : (k : ℕ) (at : Place) (v : RawNode) → IsBelow k (node_of at v) → HasPartsBelow k v
below_parts k at seen.True h = tt
below_parts k at seen.Erase h = tt
below_parts k at (seen.Braces g) h = h
below_parts k at (seen.Forall n g) h = h
below_parts k at (seen.Exists n g) h = h
below_parts k at (seen.Load n args g) h = (below_places k args.now h.0, h.1)
below_parts k at (seen.Binary o f g) h = h
below_parts k at (seen.Head n args) h = below_places k args.now h
below_parts k at seen.Any h = tt
below_parts k at (seen.Int z) h = tt
below_parts k at (seen.Is f g) h = h
below_parts k at (seen.Less f g) h = h
below_parts k at (seen.Most f g) h = h

-- the vectors after a node was put behind the others
module _ (cs ds : List RawAt) (adds : AddsTo cs ds) (rs ss : List Row) (kept : IsKept cs rs) (old : List Node) (view : map (row_node cs) rs ≡ old)
    (r : Row) (pushed : ss ≡ rs ++ r ∷ []) (n : Node) (node : row_node ds r ≡ n) where
  pub added : map (row_node ds) ss ≡ old ++ n ∷ []
  added = rw pushed (map-append (row_node ds) rs (r ∷ []) ∙ (λ i. same_view cs ds adds rs rs kept refl old view i ++ node i ∷ []))

  pub added_kept : IsRowKept ds r → IsBelow (length old) n → IsKept ds ss
  added_kept here below =
      let grown = still_kept cs ds adds rs rs kept refl in
      record {
        each = subst (All (IsRowKept ds)) (sym pushed) (All-push (IsRowKept ds) rs r grown.each here);
        lower = subst IsWellFounded (sym added) (push_all IsBelow old n (subst IsWellFounded view kept.lower) below);
      }

-- ---- a node was read

module _ (cs : List RawAt) (rs : List Row) (kept : IsKept cs rs) (old : List Node) (view : map (row_node cs) rs ≡ old) (at : ℕ) (inside : at < length old)
    (r : Row) (is : r ≡ get_or rs at r) where
  rows_inside : at < length rs
  rows_inside = let e = ap length view in let l = length-map rs (row_node cs) in omega arith

  pub row_kept : IsRowKept cs r
  row_kept = subst (IsRowKept cs) (sym is) (kept.each at r rows_inside)

  node_read : get_or old at (row_node cs r) ≡ row_node cs r
  node_read = ap (λ ns. get_or ns at (row_node cs r)) (sym view) ∙ (get_or-map (row_node cs) rs at r ∙ ap (row_node cs) (sym is))

  tree_read : (texts : List (List ℕ)) → raw_at texts old at ≡ build_raw texts (raw_trees texts old) (row_node cs r)
  tree_read texts = raw_at-node texts old (subst IsWellFounded view kept.lower) at (row_node cs r) inside ∙ ap (build_raw texts (raw_trees texts old)) node_read

  place-build : (texts : List (List ℕ)) (trees : List Raw) (n : Node) → raw_place (build_raw texts trees n) ≡ node_place n
  place-build texts trees (TrueNode at) = refl
  place-build texts trees (EraseNode at) = refl
  place-build texts trees (AnyNode at) = refl
  place-build texts trees (BracesNode at g) = refl
  place-build texts trees (ForallNode at n g) = refl
  place-build texts trees (ExistsNode at n g) = refl
  place-build texts trees (LoadNode at n args g) = refl
  place-build texts trees (BinaryNode o at f g) = refl
  place-build texts trees (HeadNode n args) = refl
  place-build texts trees (IntNode at z) = refl
  place-build texts trees (IsGoalNode at f g) = refl
  place-build texts trees (LessGoalNode at f g) = refl
  place-build texts trees (MostGoalNode at f g) = refl

  pub place_read : (texts : List (List ℕ)) → raw_place (raw_at texts old at) ≡ node_place (row_node cs r)
  place_read texts = ap raw_place (tree_read texts) ∙ place-build texts (raw_trees texts old) (row_node cs r)

  pub read : (v : RawNode) → node_of (node_place (row_node cs r)) v ≡ row_node cs r → IsRawNode old at v
  read v e = record {
    tree = λ texts. tree_read texts ∙ ap (build_raw texts (raw_trees texts old)) (sym e ∙ ap (λ p. node_of p v) (sym (place_read texts)));
    parts = below_parts at (node_place (row_node cs r)) v (subst (IsBelow at) (node_read ∙ sym e)
        ((subst IsWellFounded view kept.lower) at (row_node cs r) inside));
  }
