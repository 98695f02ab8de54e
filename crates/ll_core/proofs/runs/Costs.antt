-- The costs of the shares are the cost of the root.
use Rattle.std.proofs.Common.{◌≡◌, ℕ, zero, suc, ◌+◌, ◌<◌, ◌≤◌, List, [], ◌∷◌, length, refl, sym, ap, ◌∙◌, arith, Option, Some, None}
use Rattle.std.specs.Prelude.{sum_by}
use Rattle.ll_laws.specs.Pool.{Owed, Piece, PoolData, Alternative}
use Rattle.ll_laws.specs.Spread.{numbers, walk_alternative, walk_deep, piece_of, kids_of, published_by, owed_by, owed_at, list_or_empty, owed_or_nothing}
use Rattle.ll_laws.specs.Spread.{batch_cost, given_cost, owes_of, length_of, walk}
use Rattle.ll_laws.specs.Sound.{Every, Each, Sound}
use Rattle.ll_core.specs.Given.{share_cost, total}
use Rattle.ll_core.proofs.walks.Walks.{every_more}
use Rattle.ll_core.proofs.walks.Once.{total_same, total_flat, total_last_first, total_numbers}
use Rattle.ll_core.proofs.events.Pieces.{lookup}
use Rattle.ll_core.proofs.sound.Facts.{ends, kids_within}
use Rattle.ll_core.proofs.runs.AllClaimed.{total_by_index, sum_total}

module _ (kids : ℕ → ℕ → List ℕ) (len : ℕ → ℕ) (n : ℕ) (ends : (b : ℕ) → n ≤ b → len b ≡ 0) (up : (b k : ℕ) → k < len b → Every (λ c. b < c) (kids b k)) where
  walk_costs : (value : Alternative → ℕ) (one : ℕ → ℕ → ℕ) (whole : ℕ → ℕ) → ((b : ℕ) → whole b ≡ total (one b) (numbers 0 (len b)))
      → ((b k : ℕ) → k < len b → value (record { batch = b; k = k }) + total whole (kids b k) ≡ one b k)
      → (deep b : ℕ) → n ≤ b + deep → total value (walk_deep kids len deep b) ≡ whole b
  walk_costs value one whole whole_is parts zero b enough = sym (whole_is b ∙ ap (λ m. total (one b) (numbers 0 m)) (ends b (omega arith)))
  walk_costs value one whole whole_is parts (suc deep) b enough =
      total_flat value (walk_alternative kids (walk_deep kids len deep) b) (numbers 0 (len b))
      ∙ (total_numbers (λ k. total value (walk_alternative kids (walk_deep kids len deep) b k)) (one b) 0 (len b) (λ k low high.
      let inside : k < len b = omega arith in
      ap (λ m. value (record { batch = b; k = k }) + m)
      (total_last_first value (walk_deep kids len deep) (kids b k)
      ∙ total_same (λ c. total value (walk_deep kids len deep c)) whole (kids b k)
      (every_more (λ c. b < c) (λ c. total value (walk_deep kids len deep c) ≡ whole c) (kids b k)
      (λ c more. walk_costs value one whole whole_is parts deep c (omega arith)) (up b k inside)))
      ∙ parts b k inside)
      ∙ sym (whole_is b))

module _ {E : Type 0} where
  cost_parts : (owes : List (List (Owed E))) (pieces : List (Piece E)) → Each pieces (λ (x : Piece E). given_cost owes x ≤ (owed_at owes x.batch x.k).cost)
      → (a : Alternative) (o : Option (Piece E)) → piece_of pieces a ≡ o
      → share_cost owes a o + total (batch_cost owes) (published_by o) ≡ (owed_at owes a.batch a.k).cost
  cost_parts owes pieces costs a None e = omega arith
  cost_parts owes pieces costs a (Some x) e =
      let l = lookup pieces a x e in let c = costs l.0 x l.1 in
      let s : given_cost owes x ≡ total (batch_cost owes) x.published = sum_total (batch_cost owes) x.published in
      let same : (owed_at owes x.batch x.k).cost ≡ (owed_at owes a.batch a.k).cost = λ i. (owed_at owes (l.2 i) (l.3 i)).cost in omega arith

module _ {N Of E : Type 0} (of : N → Of) (alternatives : N → List (Owed E)) (p : PoolData N E) (problem : Of) (pair : Owed E) where
  pub cost_is : Sound of alternatives p problem pair → total (λ a. share_cost (owes_of alternatives p) a (piece_of p.pieces a)) (walk alternatives p)
      ≡ pair.cost
  cost_is s =
      let owes : List (List (Owed E)) = owes_of alternatives p in
      walk_costs (kids_of p.pieces) (length_of alternatives p) (length p.batches) (ends alternatives p)
      (λ b k inside. every_more (λ c. (b < c) × (c < length p.batches)) (λ c. b < c) (kids_of p.pieces b k) (λ c h. h.0)
      (kids_within p.pieces (length p.batches) s.shape.only b k))
      (λ a. share_cost owes a (piece_of p.pieces a)) (λ b k. (owed_at owes b k).cost) (batch_cost owes)
      (λ b. sum_total (λ (o : Owed E). o.cost) (owed_by owes b) ∙ sym (total_by_index (λ (o : Option (Owed E)). (owed_or_nothing o).cost) (owed_by owes b)))
      (λ b k inside. cost_parts owes p.pieces s.costs (record { batch = b; k = k }) (piece_of p.pieces (record { batch = b; k = k })) refl)
      (length p.batches) 0 (omega arith)
      ∙ (ap (λ o. sum_by (λ (o : Owed E). o.cost) (list_or_empty o)) s.root ∙ root_cost pair)
    where
      root_cost : (pair : Owed E) → sum_by (λ (o : Owed E). o.cost) (pair ∷ []) ≡ pair.cost
      root_cost pair = let h = sum_total (λ (o : Owed E). o.cost) (pair ∷ []) in omega arith
