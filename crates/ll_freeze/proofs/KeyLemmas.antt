-- Entries keep their keys.
use Rattle.std.proofs.Common.{◌≡◌, ℕ, suc, ◌-◌, ◌≤◌, Bool, true, false, List, [], ◌∷◌, map, length, drop, All, refl, ap, sym, ◌∙◌, arith}
use Rattle.std.specs.Prelude.{Option, Some, None, nat_lt, nat_eq, if◌then◌else◌}
use Rattle.std.proofs.lemmas.Bool.{le-ltb, lt-ltb}
use Rattle.std.proofs.lemmas.List.{length-map}
use Rattle.std.proofs.lemmas.List.Elements.{All-head, All-tail}
use Rattle.ll_bank.specs.declared.FormAt.{FormAt}
use Rattle.ll_bank.specs.Nodes.{Nodes, HasForm, form_tree, Extends}
use Rattle.ll_bank.proofs.CallerLemmas.{form_tree-extends}
use Rattle.ll_laws.specs.declared.Kind.{Kind}
use Rattle.ll_laws.specs.Settle.{Entry, remark, unlive}
use Rattle.ll_laws.specs.Attempt.{picked}
use Rattle.ll_resources.specs.Resources.{Resources, after_load_keyed, entries_from}
use Rattle.ll_freeze.specs.Keyed.{clause_key, keys_in, AreKeyed}

-- the clauses of entries
abbrev pub clauses_of : List (Entry FormAt) → List FormAt
clauses_of es = map (λ (e : Entry FormAt). e.clause) es

keys_from : Nodes → ℕ → List FormAt → List (Option ℕ)
keys_from bank n [] = []
keys_from bank n (f ∷ fs) = (if nat_lt (length fs) n then None else Some (clause_key (form_tree bank f.0))) ∷ keys_from bank n fs

keys_by : (bank : Nodes) (n : ℕ) (es : List (Entry FormAt)) → keys_in bank n es ≡ keys_from bank n (clauses_of es)
unfolding keys_in keys_from
keys_by bank n [] = refl
keys_by bank n (e ∷ es) =
    let l : length es ≡ length (clauses_of es) = sym (length-map es (λ (e : Entry FormAt). e.clause)) in
    (λ i. (if nat_lt (l i) n then None else Some (clause_key (form_tree bank e.clause.0))) ∷ keys_by bank n es i)

-- with the same clauses and keys
pub keyed-alike : (bank : Nodes) (n : ℕ) (r s : Resources FormAt) → clauses_of s.entries ≡ clauses_of r.entries → s.keys ≡ r.keys → AreKeyed bank n r
    → AreKeyed bank n s
keyed-alike bank n r s e k h = record {
  keys = k ∙ (h.keys ∙ (keys_by bank n r.entries ∙ (ap (keys_from bank n) (sym e) ∙ sym (keys_by bank n s.entries))));
}

pub clauses-remark : (es : List (Entry FormAt)) (bs : List Bool) → clauses_of (remark es bs) ≡ clauses_of es
clauses-remark [] bs = refl
clauses-remark (e ∷ es) [] = refl
clauses-remark (e ∷ es) (b ∷ bs) = ap (λ fs. e.clause ∷ fs) (clauses-remark es bs)

pub clauses-unlive : (es : List (Entry FormAt)) → clauses_of (map unlive es) ≡ clauses_of es
clauses-unlive [] = refl
clauses-unlive (e ∷ es) = ap (λ fs. e.clause ∷ fs) (clauses-unlive es)

pub clauses-picked : (label : ℕ) (es : List (Entry FormAt)) → clauses_of (picked label es) ≡ clauses_of es
clauses-picked label [] = refl
clauses-picked label (e ∷ es) = step (nat_eq e.label label) (clauses-picked label es)
  where
    step : (b : Bool) → clauses_of (picked label es) ≡ clauses_of es → clauses_of (if b then unlive e ∷ es else e ∷ picked label es) ≡ e.clause ∷ clauses_of es
    step true h = refl
    step false h = ap (λ fs. e.clause ∷ fs) h

-- in a bank with more places
pub keyed-later : (old new : Nodes) (n : ℕ) (r : Resources FormAt) → Extends old new → All (λ e. HasForm old e.clause.0) r.entries → AreKeyed old n r
    → AreKeyed new n r
unfolding keys_in
keyed-later old new n r k c h = record { keys = h.keys ∙ sym (same r.entries c) }
  where
    same : (es : List (Entry FormAt)) → All (λ e. HasForm old e.clause.0) es → keys_in new n es ≡ keys_in old n es
    same [] c = refl
    same (e ∷ es) c =
        let f = form_tree-extends k e.clause.0 (All-head (λ (d : Entry FormAt). HasForm old d.clause.0) e es c) in
        let rest = same es (All-tail (λ (d : Entry FormAt). HasForm old d.clause.0) e es c) in
        (λ i. (if nat_lt (length es) n then None else Some (clause_key (f i))) ∷ rest i)

-- a clause is loaded under its key
pub keyed-loaded : (bank : Nodes) (n : ℕ) (kind : Kind) (f : FormAt) (r : Resources FormAt) → n ≤ length r.entries → AreKeyed bank n r
    → AreKeyed bank n (after_load_keyed kind f (clause_key (form_tree bank f.0)) r)
unfolding keys_in
keyed-loaded bank n kind f r l h = record {
  keys =
      (λ i. Some (clause_key (form_tree bank f.0)) ∷ h.keys i)
      ∙ ap (λ b. (if b then None else Some (clause_key (form_tree bank f.0))) ∷ keys_in bank n r.entries) (sym (le-ltb (length r.entries) n l));
}

-- the newest entry goes with its key
pub keyed-tail : (bank : Nodes) (n : ℕ) (r h : Resources FormAt) (e : Entry FormAt) (es : List (Entry FormAt)) → r.entries ≡ e ∷ es → h.entries ≡ es
    → h.keys ≡ drop (length r.entries - length h.entries) r.keys → AreKeyed bank n r → AreKeyed bank n h
unfolding keys_in
keyed-tail bank n r h e es a b k w =
    let x = ap (λ (xs : List (Entry FormAt)). length xs) a in let y = ap (λ (xs : List (Entry FormAt)). length xs) b in
    let one : length r.entries - length h.entries ≡ 1 = omega (arith, x, y) in
    record {
      keys = k ∙ ((λ i. drop (one i) (w.keys i)) ∙ (ap (λ xs. drop 1 (keys_in bank n xs)) a ∙ ap (keys_in bank n) (sym b)));
    }

-- all stay with theirs
pub keyed-stay : (bank : Nodes) (n : ℕ) (r h : Resources FormAt) → clauses_of h.entries ≡ clauses_of r.entries
    → h.keys ≡ drop (length r.entries - length h.entries) r.keys → AreKeyed bank n r → AreKeyed bank n h
keyed-stay bank n r h e k w =
    let a = length-map r.entries (λ (e : Entry FormAt). e.clause) in let b = length-map h.entries (λ (e : Entry FormAt). e.clause) in
    let c = ap (λ (fs : List FormAt). length fs) e in
    let none : length r.entries - length h.entries ≡ 0 = omega (arith, a, b, c) in
    keyed-alike bank n r h e (k ∙ ap (λ m. drop m r.keys) none) w

-- the program's have none
pub keys-started : (bank : Nodes) (n k : ℕ) (cs : List (Kind × FormAt)) → length cs ≤ n → keys_in bank n (entries_from k cs) ≡ map (λ _. None) cs
unfolding keys_in
keys-started bank n k [] l = refl
keys-started bank n k (c ∷ cs) l =
    let x = length-entries (suc k) cs in
    (λ i. (if lt-ltb (length (entries_from (suc k) cs)) n (omega (arith, x, l)) i then None else Some (clause_key (form_tree bank c.1.0)))
    ∷ keys-started bank n (suc k) cs (omega (arith, l)) i)
  where
    length-entries : (j : ℕ) (ds : List (Kind × FormAt)) → length (entries_from j ds) ≡ length ds
    length-entries j [] = refl
    length-entries j (d ∷ ds) = ap suc (length-entries (suc j) ds)
