-- The candidates of an entry have its label, and are leaves of its clause.
use Rattle.std.proofs.Common.{◌≡◌, ℕ, suc, ◌+◌, ◌<◌, ◌≤◌, Bool, true, false, List, [], ◌∷◌, length, All, refl, arith}
use Rattle.std.specs.Prelude.{flat_map, cond}
use Rattle.std.proofs.lemmas.List.Elements.{All-append, All-cons, All-head, All-tail, All-weaker}
use Rattle.ll_bank.specs.Term.{Term}
use Rattle.ll_bank.specs.Form.{Form}
use Rattle.ll_laws.specs.declared.Candidate.{Candidate}
use Rattle.ll_laws.specs.Leaf.{ways}
use Rattle.ll_laws.specs.Settle.{Entry}
use Rattle.ll_laws.specs.Attempt.{entry_tries, leaf_tries, fits_head, leaf_head, is_open}

-- a candidate with the label of an entry, and one of so many leaves
abbrev IsOf : Entry Form → ℕ → Candidate → Type 0
IsOf e m c = (c.label ≡ e.label) × (c.leaf < m)

own_leaves : (a : Term) (e : Entry Form) (m k : ℕ) (ns : List ℕ) → k + length ns ≤ m → All (IsOf e m) (leaf_tries a e k ns)
own_leaves a e m k [] h = λ i d l. absurd (omega arith)
own_leaves a e m k (n ∷ ns) h = go (fits_head a (leaf_head e.clause k n)) (own_leaves a e m (suc k) ns (omega arith))
  where
    go : (b : Bool) → All (IsOf e m) (leaf_tries a e (suc k) ns)
        → All (IsOf e m) (cond b (record { label = e.label; leaf = k } ∷ leaf_tries a e (suc k) ns) (leaf_tries a e (suc k) ns))
    go true rest = All-cons (IsOf e m) (record { label = e.label; leaf = k }) (leaf_tries a e (suc k) ns) (refl, omega arith) rest
    go false rest = rest

own_tries : (a : Term) (e : Entry Form) → All (IsOf e (length (ways e.clause))) (entry_tries a e)
own_tries a e = go (is_open e)
  where
    go : (b : Bool) → All (IsOf e (length (ways e.clause))) (cond b (leaf_tries a e 0 (ways e.clause)) [])
    go true = own_leaves a e (length (ways e.clause)) 0 (ways e.clause) (omega arith)
    go false = λ i d l. absurd (omega arith)

-- what holds of each entry's own leaves holds of the candidates
pub all_own : (a : Term) (Q : Candidate → Type 0) (es : List (Entry Form))
    → All (λ e. (c : Candidate) → c.label ≡ e.label → c.leaf < length (ways e.clause) → Q c) es → All Q (flat_map (entry_tries a) es)
all_own a Q [] h = λ i d l. absurd (omega arith)
all_own a Q (e ∷ es) h =
    let Own : Entry Form → Type 0 = λ e. (c : Candidate) → c.label ≡ e.label → c.leaf < length (ways e.clause) → Q c in
    let own = All-head Own e es h in
    All-append Q (entry_tries a e) (flat_map (entry_tries a) es)
    (All-weaker (IsOf e (length (ways e.clause))) Q (λ c p. own c p.0 p.1) (entry_tries a e) (own_tries a e)) (all_own a Q es (All-tail Own e es h))
