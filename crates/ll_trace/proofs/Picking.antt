-- The picks of trees: how many there are, which of them are seen, and how they go on from node to node.
use Rattle.std.proofs.Common.{◌≡◌, ℕ, suc, ◌+◌, ◌-◌, ◌≤◌, ◌<◌, refl, ap, sym, subst, ◌∙◌, List, [], ◌∷◌, ◌++◌, append_assoc, length, length-append, get_or}
use Rattle.std.proofs.Common.{take, drop, map, reverse, arith}
use Rattle.std.specs.Prelude.{Bool, true, false, ◌||◌, ◌&&◌, nat_eq, Option, Some, None, IsSome, unwrap_or, option_to_list}
use Rattle.std.specs.List.{list_any}
use Rattle.std.proofs.Math.Seq.{take-append_seam, drop-append_seam}
use Rattle.std.proofs.lemmas.List.{drop-drop}
use Rattle.std.proofs.lemmas.Bool.{ne_eqb, eq-eqb}
use Rattle.std.proofs.lemmas.List.{append-nil, drop_all, reverse-append, length-reverse, length-map}
use Rattle.std.proofs.lemmas.List.Folds.{list_any-append}
use Rattle.std.proofs.Math.Bool.{and-false as off}
use Rattle.ll_list_laws.proofs.CallerLemmas.{reverse-push as newest}
use Rattle.ll_bank.specs.Term.{Term}
use Rattle.ll_laws.specs.declared.Part.{Part}
use Rattle.ll_laws.specs.declared.Part.TheVariants.{Bounded, Unbounded}
use Rattle.ll_laws.specs.Dealing.{uses, uses_part}
use Rattle.ll_laws.specs.Line.{PartLine, Line, OneLine, ClauseLine, Cuts, cut_parts, put, trees_of}
use Rattle.ll_laws.specs.Shows.{Tree, OneNode, EraseNode, TensorNode, WithNode, LeftNode, RightNode, BangNode, LolliNode, ImpNode, ForallNode, ExistsNode}
use Rattle.ll_laws.specs.Shows.{UseNode, ClauseNode, Parts, NoParts, BoundedPart, UnboundedPart, nodes, part_nodes, NumNode}
use Rattle.ll_laws.specs.ShownLines.{part_line}
use Rattle.ll_trace.specs.declared.picks.Pick.{Pick}
use Rattle.ll_trace.specs.Picks.{picks_of, picks_of_parts, all_picks, is_pick, is_used_between, level_of_part, IsPickStep}
use Rattle.ll_trace.proofs.Making.{cut-step, cut-end, clause-made, first-made, made-some, IsCutStep, drop_item}

both : (n a : ℕ) (xs ys : List (Option Pick)) → list_any (is_pick n a) xs ≡ false → list_any (is_pick n a) ys ≡ false
    → list_any (is_pick n a) (xs ++ ys) ≡ false
both n a xs ys h k = list_any-append (is_pick n a) xs ys ∙ (ap (λ c. c || list_any (is_pick n a) ys) h ∙ k)

either : (n b : ℕ) (xs ys : List (Option Pick)) (p q : Bool) → list_any (is_pick n b) xs ≡ p → list_any (is_pick n b) ys ≡ q
    → list_any (is_pick n b) (xs ++ ys) ≡ (p || q)
either n b xs ys p q h k = list_any-append (is_pick n b) xs ys ∙ (ap (λ c. c || list_any (is_pick n b) ys) h ∙ ap (λ c. p || c) k)

on : (c : Bool) → (c && true) ≡ c
on true = refl
on false = refl

mutual
  pub picks-count : (b : ℕ) (x : Tree) → length (picks_of b x) ≡ nodes x
  picks-count b OneNode = refl
  picks-count b NumNode = refl
  picks-count b EraseNode = refl
  picks-count b (TensorNode s t x y) = let i = picks-count b x in let j = picks-count b y in let k = length-append (picks_of b x) (picks_of b y) in
      omega (arith, i, j, k)
  picks-count b (WithNode x y) = let i = picks-count b x in let j = picks-count b y in let k = length-append (picks_of b x) (picks_of b y) in
      omega (arith, i, j, k)
  picks-count b (LeftNode x) = ap (λ n. suc n) (picks-count b x)
  picks-count b (RightNode x) = ap (λ n. suc n) (picks-count b x)
  picks-count b (BangNode x) = ap (λ n. suc n) (picks-count (b + 1) x)
  picks-count b (LolliNode n x) = ap (λ n. suc n) (picks-count b x)
  picks-count b (ImpNode n x) = ap (λ n. suc n) (picks-count b x)
  picks-count b (ForallNode c x) = ap (λ n. suc n) (picks-count b x)
  picks-count b (ExistsNode t x) = ap (λ n. suc n) (picks-count b x)
  picks-count b (UseNode x) = ap (λ n. suc n) (picks-count b x)
  picks-count b (ClauseNode n k ts ps) = ap (λ n. suc n) (parts-count b ps)

  pub parts-count : (b : ℕ) (ps : Parts) → length (picks_of_parts b ps) ≡ part_nodes ps
  parts-count b NoParts = refl
  parts-count b (BoundedPart s x ps) = let i = picks-count b x in let j = parts-count b ps in let k = length-append (picks_of b x) (picks_of_parts b ps) in
      omega (arith, i, j, k)
  parts-count b (UnboundedPart x ps) = let i = picks-count (b + 1) x in let j = parts-count b ps in
      let k = length-append (picks_of (b + 1) x) (picks_of_parts b ps) in omega (arith, i, j, k)

mutual
  -- of a lower level nothing is picked
  none_lower : (n a b : ℕ) (x : Tree) → a < b → list_any (is_pick n a) (picks_of b x) ≡ false
  none_lower n a b OneNode h = refl
  none_lower n a b NumNode h = refl
  none_lower n a b EraseNode h = refl
  none_lower n a b (TensorNode s t x y) h = both n a (picks_of b x) (picks_of b y) (none_lower n a b x h) (none_lower n a b y h)
  none_lower n a b (WithNode x y) h = both n a (picks_of b x) (picks_of b y) (none_lower n a b x h) (none_lower n a b y h)
  none_lower n a b (LeftNode x) h = none_lower n a b x h
  none_lower n a b (RightNode x) h = none_lower n a b x h
  none_lower n a b (BangNode x) h = none_lower n a (b + 1) x (omega (arith, h))
  none_lower n a b (LolliNode m x) h = none_lower n a b x h
  none_lower n a b (ImpNode m x) h = none_lower n a b x h
  none_lower n a b (ForallNode c x) h = none_lower n a b x h
  none_lower n a b (ExistsNode t x) h = none_lower n a b x h
  none_lower n a b (UseNode x) h = none_lower n a b x h
  none_lower n a b (ClauseNode m k ts ps) h = ap (λ c. (nat_eq n m && c) || list_any (is_pick n a) (picks_of_parts b ps))
      (ne_eqb a b (λ e. absurd (omega (arith, h, e)))) ∙ (ap (λ c. c || list_any (is_pick n a) (picks_of_parts b ps)) (off (nat_eq n m))
      ∙ none_parts n a b ps h)

  none_parts : (n a b : ℕ) (ps : Parts) → a < b → list_any (is_pick n a) (picks_of_parts b ps) ≡ false
  none_parts n a b NoParts h = refl
  none_parts n a b (BoundedPart s x ps) h = both n a (picks_of b x) (picks_of_parts b ps) (none_lower n a b x h) (none_parts n a b ps h)
  none_parts n a b (UnboundedPart x ps) h = both n a (picks_of (b + 1) x) (picks_of_parts b ps) (none_lower n a (b + 1) x (omega (arith, h)))
      (none_parts n a b ps h)

mutual
  -- a tree uses what is picked at the level of its root
  pub picks-uses : (n b : ℕ) (x : Tree) → list_any (is_pick n b) (picks_of b x) ≡ uses n x
  picks-uses n b OneNode = refl
  picks-uses n b NumNode = refl
  picks-uses n b EraseNode = refl
  picks-uses n b (TensorNode s t x y) = either n b (picks_of b x) (picks_of b y) (uses n x) (uses n y) (picks-uses n b x) (picks-uses n b y)
  picks-uses n b (WithNode x y) = either n b (picks_of b x) (picks_of b y) (uses n x) (uses n y) (picks-uses n b x) (picks-uses n b y)
  picks-uses n b (LeftNode x) = picks-uses n b x
  picks-uses n b (RightNode x) = picks-uses n b x
  picks-uses n b (BangNode x) = none_lower n b (b + 1) x (omega arith)
  picks-uses n b (LolliNode m x) = picks-uses n b x
  picks-uses n b (ImpNode m x) = picks-uses n b x
  picks-uses n b (ForallNode c x) = picks-uses n b x
  picks-uses n b (ExistsNode t x) = picks-uses n b x
  picks-uses n b (UseNode x) = picks-uses n b x
  picks-uses n b (ClauseNode m k ts ps) = ap (λ c. (nat_eq n m && c) || list_any (is_pick n b) (picks_of_parts b ps)) (eq-eqb b b refl)
      ∙ (ap (λ c. c || list_any (is_pick n b) (picks_of_parts b ps)) (on (nat_eq n m)) ∙ ap (λ c. nat_eq n m || c) (parts-uses n b ps))

  pub parts-uses : (n b : ℕ) (ps : Parts) → list_any (is_pick n b) (picks_of_parts b ps) ≡ uses_part n ps
  parts-uses n b NoParts = refl
  parts-uses n b (BoundedPart s x ps) = either n b (picks_of b x) (picks_of_parts b ps) (uses n x) (uses_part n ps) (picks-uses n b x) (parts-uses n b ps)
  parts-uses n b (UnboundedPart x ps) = either n b (picks_of (b + 1) x) (picks_of_parts b ps) false (uses_part n ps) (none_lower n b (b + 1) x (omega arith))
      (parts-uses n b ps)

-- what stands in front of other picks is used between the places of its nodes
pub used-here : (n b from to : ℕ) (picks here more : List (Option Pick)) → drop from picks ≡ here ++ more → to ≡ from + length here
    → is_used_between picks n b from to ≡ list_any (is_pick n b) here
used-here n b from to picks here more h e =
    let k : to - from ≡ length here = omega (arith, e) in
    ap (λ xs. list_any (is_pick n b) (take (to - from) xs)) h
    ∙ (ap (λ i. list_any (is_pick n b) (take i (here ++ more))) k ∙ ap (list_any (is_pick n b)) (take-append_seam here more))

pub drop-on : (from to : ℕ) (picks here more : List (Option Pick)) → drop from picks ≡ here ++ more → to ≡ from + length here → drop to picks ≡ more
drop-on from to picks here more h e = ap (λ i. drop i picks) e
    ∙ (sym (drop-drop (length here) from picks) ∙ (ap (drop (length here)) h ∙ drop-append_seam here more))

-- ---- from node to node

pub pick-one : (b : ℕ) (old : List ℕ) (ts vs : List Tree) → put OneLine ts ≡ Some vs → IsPickStep b old old None ts vs
pick-one b old ts vs h = let e : OneNode ∷ ts ≡ vs = cc in subst (IsPickStep b old old None ts) e (record { same = refl; count = λ k. omega (arith, k) })

twice : (xs : List ℕ) → reverse (reverse xs) ≡ xs
twice [] = refl
twice (x ∷ xs) = ap (λ ys. reverse ys) (reverse-append (x ∷ []) xs) ∙ (newest (reverse xs) x ∙ ap (λ ys. x ∷ ys) (twice xs))

-- the picks of premises, with those of the trees after them
pub parts-picks : (b : ℕ) (bs : List ℕ) (parts : List Part) (ts us : List Tree) (ps : Parts) → cut_parts (map part_line parts) ts ≡ Cuts ps us
    → picks_of_parts b ps ++ all_picks bs us ≡ all_picks (map (level_of_part b) parts ++ bs) ts
parts-picks b bs [] ts us ps h = let c = cut-end ts ps us h in ap (λ qs. picks_of_parts b qs ++ all_picks bs us) c.parts ∙ ap (all_picks bs) (sym c.trees)
parts-picks b bs (p ∷ parts) ts us ps h = let c = cut-step (part_line p) (map part_line parts) ts ps us h in
    step p c (parts-picks b bs parts c.trees us c.parts c.cut)
  where
    step : (p : Part) (c : IsCutStep (part_line p) (map part_line parts) ts ps us)
        → picks_of_parts b c.parts ++ all_picks bs us ≡ all_picks (map (level_of_part b) parts ++ bs) c.trees
        → picks_of_parts b ps ++ all_picks bs us ≡ all_picks (map (level_of_part b) (p ∷ parts) ++ bs) ts
    step (Bounded s) c i =
        ap (λ qs. picks_of_parts b qs ++ all_picks bs us) c.is_parts
        ∙ (append_assoc (picks_of b c.first) (picks_of_parts b c.parts) (all_picks bs us)
        ∙ (ap (λ xs. picks_of b c.first ++ xs) i ∙ ap (all_picks (b ∷ (map (level_of_part b) parts ++ bs))) (sym c.is_trees)))
    step Unbounded c i =
        ap (λ qs. picks_of_parts b qs ++ all_picks bs us) c.is_parts
        ∙ (append_assoc (picks_of (b + 1) c.first) (picks_of_parts b c.parts) (all_picks bs us)
        ∙ (ap (λ xs. picks_of (b + 1) c.first ++ xs) i ∙ ap (all_picks ((b + 1) ∷ (map (level_of_part b) parts ++ bs))) (sym c.is_trees)))

pub cut-length : (ls : List PartLine) (ts us : List Tree) (ps : Parts) → cut_parts ls ts ≡ Cuts ps us → length ls + length us ≡ length ts
cut-length [] ts us ps h = let c = cut-end ts ps us h in let e = ap length c.trees in omega (arith, e)
cut-length (p ∷ ls) ts us ps h =
    let c = cut-step p ls ts ps us h in let i = cut-length ls c.trees us c.parts c.cut in let j = ap length c.is_trees in omega (arith, i, j)

pub pick-clause : (n k : ℕ) (terms : List Term) (parts : List Part) (b : ℕ) (old new : List ℕ) (ts vs : List Tree)
    → new ≡ old ++ reverse (map (level_of_part b) parts) → put (ClauseLine n k terms (map part_line parts)) ts ≡ Some vs
    → IsPickStep b old new (Some (record { label = n; level = b })) ts vs
pick-clause n k terms parts b old new ts vs e h =
    let m = clause-made n k terms (map part_line parts) ts vs h in
    let r : reverse new ≡ map (level_of_part b) parts ++ reverse old =
    ap reverse e ∙ (reverse-append old (reverse (map (level_of_part b) parts)) ∙ ap (λ bs. bs ++ reverse old) (twice (map (level_of_part b) parts))) in
    subst (IsPickStep b old new (Some (record { label = n; level = b })) ts) m.is (record {
      same = ap (λ ps. Some (record { label = n; level = b }) ∷ ps)
          (parts-picks b (reverse old) parts ts m.left m.parts m.cut ∙ ap (λ bs. all_picks bs ts) (sym r));
      count = λ k.
          let j = ap length e in let i = length-append old (reverse (map (level_of_part b) parts)) in let l = length-reverse (map (level_of_part b) parts) in
          let o = length-map parts (level_of_part b) in let q = length-map parts part_line in
          let d = cut-length (map part_line parts) ts m.left m.parts m.cut in
          omega (arith, k, j, i, l, o, q, d);
    })

-- ---- the whole list

-- what is left to pick after some nodes
pub record PicksLeft (ls : List Line) (x : Tree) (done : List (Option Pick)) (pending : List ℕ) : Type 0 where
  pub trees : List Tree
  pub is : trees_of ls ≡ Some trees
  pub same : done ++ all_picks (reverse pending) trees ≡ picks_of 0 x
  pub count : length pending ≡ length trees

pub picks-start : (ls : List Line) (x : Tree) (done : List (Option Pick)) (pending : List ℕ) → done ≡ [] → pending ≡ 0 ∷ [] → trees_of ls ≡ Some (x ∷ [])
    → PicksLeft ls x done pending
picks-start ls x done pending d e h = record {
  trees = x ∷ [];
  is = h;
  same =
      ap (λ ps. ps ++ all_picks (reverse pending) (x ∷ [])) d ∙ (ap (λ bs. all_picks (reverse bs) (x ∷ [])) e ∙ append-nil (picks_of 0 x));
  count = ap length e;
}

pub picks-step : (l : Line) (ls : List Line) (x : Tree) (done more : List (Option Pick)) (pick : Option Pick) (pending rest new : List ℕ) (top : Option ℕ)
    (b : ℕ) → pending ≡ rest ++ option_to_list top → b ≡ unwrap_or top 0 → more ≡ done ++ pick ∷ [] → (0 < length pending → IsSome top)
    → ((ts vs : List Tree) → put l ts ≡ Some vs → IsPickStep b rest new pick ts vs) → PicksLeft (l ∷ ls) x done pending → PicksLeft ls x more new
picks-step l ls x done more pick pending rest new None b e f g v go w = let m = first-made l ls w.trees w.is in let k = w.count in
    let z = made-some l w.trees m.trees m.made in let q = v (omega (arith, k, z)) in cc
picks-step l ls x done more pick pending rest new (Some a) b e f g v go w =
    let m = first-made l ls w.trees w.is in let s = go m.trees w.trees m.made in
    let r : reverse pending ≡ b ∷ reverse rest = ap reverse e ∙ (newest rest a ∙ ap (λ i. i ∷ reverse rest) (sym f)) in
    record {
      trees = m.trees;
      is = m.is;
      same = ap (λ ps. ps ++ all_picks (reverse new) m.trees) g
          ∙ (append_assoc done (pick ∷ []) (all_picks (reverse new) m.trees)
          ∙ (ap (λ ps. done ++ ps) (sym s.same) ∙ (ap (λ bs. done ++ all_picks bs w.trees) (sym r) ∙ w.same)));
      count = s.count (let j = ap length e in let i = length-append rest (a ∷ []) in let k = w.count in omega (arith, j, i, k));
    }

pub picks-end : (x : Tree) (done : List (Option Pick)) (pending : List ℕ) → PicksLeft [] x done pending → done ≡ picks_of 0 x
picks-end x done pending w = let e : [] ≡ w.trees = (let h = w.is in cc) in
    sym (append-nil done) ∙ (ap (λ ps. done ++ ps) (none (reverse pending)) ∙ (ap (λ ts. done ++ all_picks (reverse pending) ts) e ∙ w.same))
  where
    none : (bs : List ℕ) → [] ≡ all_picks bs []
    none [] = refl
    none (b ∷ bs) = refl

-- ---- the levels of premises, from the last one on

pub push-start : (old : List ℕ) (b n : ℕ) (parts : List Part) → n ≡ length parts → old ≡ old ++ reverse (map (level_of_part b) (drop n parts))
push-start old b n parts e = sym (ap (λ ps. old ++ reverse (map (level_of_part b) ps)) (drop_all n parts (omega (arith, e))) ∙ append-nil old)

pub push-step : (old now new : List ℕ) (b i : ℕ) (parts : List Part) (p : Part) (below : ℕ) → 0 < i → i ≤ length parts → p ≡ get_or parts (i - 1) p
    → below ≡ level_of_part b p
    → now ≡ old ++ reverse (map (level_of_part b) (drop i parts)) → new ≡ now ++ below ∷ [] → new ≡ old ++ reverse (map (level_of_part b) (drop (i - 1) parts))
push-step old now new b i parts p below h k e f g j =
    let s : (i - 1) + 1 ≡ i = omega (arith, h) in
    let d : drop (i - 1) parts ≡ p ∷ drop i parts = drop_item parts (i - 1) p (omega (arith, h, k)) e ∙ ap (λ n. p ∷ drop n parts) s in
    j ∙ (ap (λ xs. xs ++ below ∷ []) g ∙ (append_assoc old (reverse (map (level_of_part b) (drop i parts))) (below ∷ []) ∙ ap (λ xs. old ++ xs)
    (ap (λ n. reverse (map (level_of_part b) (drop i parts)) ++ n ∷ []) f
    ∙ (sym (reverse-append (level_of_part b p ∷ []) (map (level_of_part b) (drop i parts))) ∙ ap (λ ps. reverse (map (level_of_part b) ps)) (sym d)))))
