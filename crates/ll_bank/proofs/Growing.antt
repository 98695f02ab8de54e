-- Lists of trees that grow from nodes, one tree a node.
use Rattle.std.proofs.Common.{◌≡◌, ℕ, zero, suc, ◌+◌, ◌<◌, ◌≤◌, List, [], ◌∷◌, ◌++◌, length, get_or, take, drop, refl, ap, sym, subst, ◌∙◌, arith}
use Rattle.std.proofs.Common.{length-append}
use Rattle.std.proofs.Math.ListN.{get_or-append}
use Rattle.std.proofs.Math.Seq.{get_or-append_seam}
use Rattle.std.proofs.lemmas.List.{append-nil, take-append-drop, take-take, take_at, length-take-le, length_push}
use Rattle.ll_bank.specs.Nodes.{grow}

module _ {N T : Type 0} (build : List T → N → T) where
  -- nodes behind others grow over the trees of those
  pub grow-append : (trees : List T) (ns ms : List N) → grow build trees (ns ++ ms) ≡ grow build (grow build trees ns) ms
  grow-append trees [] ms = refl
  grow-append trees (n ∷ ns) ms = grow-append (trees ++ build trees n ∷ []) ns ms

  -- one tree a node
  pub length-grow : (trees : List T) (ns : List N) → length (grow build trees ns) ≡ length trees + length ns
  length-grow trees [] = omega arith
  length-grow trees (n ∷ ns) =
      let e = length-grow (trees ++ build trees n ∷ []) ns in let f = length-append trees (build trees n ∷ []) in omega arith

  -- the trees that were there stay
  pub get_or-grow : (trees : List T) (ns : List N) (i : ℕ) (d : T) → i < length trees → get_or (grow build trees ns) i d ≡ get_or trees i d
  get_or-grow trees [] i d h = refl
  get_or-grow trees (n ∷ ns) i d h =
      let f = length-append trees (build trees n ∷ []) in
      get_or-grow (trees ++ build trees n ∷ []) ns i d (omega arith) ∙ get_or-append trees (build trees n ∷ []) d i h

  -- so the trees of the first nodes stay
  pub grow_kept : (ns ms : List N) (i : ℕ) (d : T) → i < length ns → get_or (grow build [] (ns ++ ms)) i d ≡ get_or (grow build [] ns) i d
  grow_kept ns ms i d h = rw grow-append (get_or-grow (grow build [] ns) ms i d (let e = length-grow [] ns in omega arith))

  -- the last node builds its tree over those of the nodes before it
  pub grow_last : (ns : List N) (n : N) (d : T) → get_or (grow build [] (ns ++ n ∷ [])) (length ns) d ≡ build (grow build [] ns) n
  grow_last ns n d =
      rw grow-append (subst (λ k. get_or (grow build [] ns ++ build (grow build [] ns) n ∷ []) k d ≡ build (grow build [] ns) n)
      (let e = length-grow [] ns in omega arith) (get_or-append_seam (grow build [] ns) (build (grow build [] ns) n) [] d))

  -- and so does the node at a place
  at_node : (trees : List T) (ns : List N) (i : ℕ) (d : N) (e : T) → i < length ns
      → get_or (grow build trees ns) (length trees + i) e ≡ build (grow build trees (take i ns)) (get_or ns i d)
  at_node trees [] i d e h = absurd (omega arith)
  at_node trees (n ∷ ns) zero d e h =
      let l = length-append trees (build trees n ∷ []) in
      get_or-grow (trees ++ build trees n ∷ []) ns (length trees + 0) e (omega arith)
      ∙ (ap (λ k. get_or (trees ++ build trees n ∷ []) k e) (let q : length trees + 0 ≡ length trees = omega arith in q)
      ∙ get_or-append_seam trees (build trees n) [] e)
  at_node trees (n ∷ ns) (suc i) d e h =
      let l = length-append trees (build trees n ∷ []) in
      ap (λ k. get_or (grow build (trees ++ build trees n ∷ []) ns) k e)
      (let q : length trees + suc i ≡ length (trees ++ build trees n ∷ []) + i = omega arith in q)
      ∙ at_node (trees ++ build trees n ∷ []) ns i d e (omega arith)

  -- from no trees
  pub get_or-grow_at : (ns : List N) (i : ℕ) (d : N) (e : T) → i < length ns → get_or (grow build [] ns) i e ≡ build (grow build [] (take i ns)) (get_or ns i d)
  get_or-grow_at ns i d e h = ap (λ k. get_or (grow build [] ns) k e) (let q : i ≡ 0 + i = omega arith in q) ∙ at_node [] ns i d e h

  -- the trees that were there stand first
  take-grow : (trees : List T) (ns : List N) → take (length trees) (grow build trees ns) ≡ trees
  take-grow trees [] = ap (take (length trees)) (sym (append-nil trees)) ∙ take_at trees [] (length trees) refl
  take-grow trees (n ∷ ns) =
      let rest = grow build (trees ++ build trees n ∷ []) ns in let more = length_push trees (build trees n) in
      sym (take-take (length trees) (length (trees ++ build trees n ∷ [])) rest (omega arith))
      ∙ (ap (take (length trees)) (take-grow (trees ++ build trees n ∷ []) ns) ∙ take_at trees (build trees n ∷ []) (length trees) refl)

  -- so the first nodes have the first trees
  pub grow-take : (k : ℕ) (ns : List N) → k ≤ length ns → take k (grow build [] ns) ≡ grow build [] (take k ns)
  grow-take k ns le =
      let e = length-grow [] (take k ns) in let l = length-take-le k ns le in
      ap (λ xs. take k (grow build [] xs)) (sym (take-append-drop k ns))
      ∙ (ap (take k) (grow-append [] (take k ns) (drop k ns))
      ∙ (ap (λ j. take j (grow build (grow build [] (take k ns)) (drop k ns))) (let q : k ≡ length (grow build [] (take k ns)) = omega arith in q)
      ∙ take-grow (grow build [] (take k ns)) (drop k ns)))
