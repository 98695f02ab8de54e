-- What the walk over loaded entries finds, against the candidates that can match.
use Rattle.std.proofs.Common.{◌≡◌, ℕ, suc, ◌+◌, Bool, true, false, List, [], ◌∷◌, ◌++◌, map, filter, refl, ap, sym, ◌∙◌, arith, All}
use Rattle.std.specs.Prelude.{◌&&◌, not, if◌then◌else◌, slice_get, Option, Some, None, option_map, flat_map}
use Rattle.std.proofs.lemmas.List.{map-append}
use Rattle.std.proofs.lemmas.List.Elements.{All-head, All-tail}
use Rattle.std.proofs.lemmas.Option.{slice_get-map}
use Rattle.ll_bank.specs.declared.At.{At}
use Rattle.ll_bank.specs.declared.FormAt.{FormAt}
use Rattle.ll_bank.specs.Term.{Term, sub}
use Rattle.ll_bank.specs.Form.{Form, Top, One, Atom, With, Tensor, Plus, Bang, Lolli, Imp, Forall, Exists, Use, Num, sub_form}
use Rattle.ll_bank.specs.Nodes.{form_tree}
use Rattle.ll_store.specs.declared.store.Store.{Store}
use Rattle.ll_store.specs.Tables.{table_of}
use Rattle.ll_laws.specs.declared.Candidate.{Candidate}
use Rattle.ll_laws.specs.Settle.{Entry}
use Rattle.ll_laws.specs.Attempt.{is_open}
use Rattle.ll_laws.specs.Valid.{Allowed, IsFormula, ClauseSide}
use Rattle.ll_index.specs.Standing.{StandingPremise, StandingLeaf, leaves_under, standing_leaves}
use Rattle.ll_index.specs.First.{first_of, signs_clash, first_if_leaf, leaf_first, entry_matches}
use Rattle.ll_freeze.specs.Reading.{reading}
use Rattle.ll_freeze.specs.Shown.{shown_entry}
use Rattle.ll_engine.specs.declared.heads.Asked.{Asked}
use Rattle.ll_engine.specs.Leaves.{has_predicate, heads, head_tries, open_tries, standing_entry}
use Rattle.ll_engine.specs.Matches.{read_by, head_fits}
use Rattle.ll_engine.proofs.matching.LeafLemmas.{HasPredicate, entry_tries_by}
use Rattle.ll_engine.proofs.machine.Standing.{heads-sub, entry_stands}

-- ---- the signs of heads

-- the heads of leaves as they stand are those of the clause
heads_stand : (n : ℕ) (ps : List StandingPremise) (r : Form) → map (λ l. l.head) (leaves_under n ps r) ≡ heads r
heads_stand n ps Top = refl
heads_stand n ps One = refl
heads_stand n ps (Atom a) = refl
heads_stand n ps (With r s) = map-append (λ (l : StandingLeaf). l.head) (leaves_under n ps r) (leaves_under n ps s)
    ∙ (λ i. heads_stand n ps r i ++ heads_stand n ps s i)
heads_stand n ps (Tensor r s) = refl
heads_stand n ps (Plus r s) = refl
heads_stand n ps (Bang r) = refl
heads_stand n ps (Lolli g r) = heads_stand n _ r
heads_stand n ps (Imp g r) = heads_stand n _ r
heads_stand n ps (Forall r) = heads_stand (suc n) ps r
heads_stand n ps (Exists r) = refl
heads_stand n ps (Use m ts r) = refl
heads_stand n ps (Num r t u) = refl

-- the sign of a leaf is that of its head
sign_of_leaf : (r : Form) (k : ℕ) (h : Term) → slice_get (heads r) k ≡ Some h → leaf_first r k ≡ first_of h
sign_of_leaf r k h e = go (slice_get (standing_leaves r) k) (sym (slice_get-map (λ (l : StandingLeaf). l.head) (standing_leaves r) k)
    ∙ (ap (λ hs. slice_get hs k) (heads_stand 0 [] r) ∙ e))
  where
    go : (o : Option StandingLeaf) → option_map (λ l. l.head) o ≡ Some h → first_if_leaf o ≡ first_of h
    go None q = cc
    go (Some l) q = let s : l.head ≡ h = cc in ap first_of s

-- so it is with bindings applied
sign_read : (s : ℕ → Term) (f : Form) (k : ℕ) (h : Term) → slice_get (heads f) k ≡ Some h → leaf_first (sub_form s f) k ≡ first_of (sub s h)
sign_read s f k h e =
    sign_of_leaf (sub_form s f) k (sub s h) (ap (λ hs. slice_get hs k) (heads-sub s f) ∙ (slice_get-map (sub s) (heads f) k ∙ ap (option_map (sub s)) e))

-- ---- what the walk over an entry finds

module _ (store : Store) (asked : Asked) where
  abbrev bound : List (Option At)
  bound = (table_of store.cells.cells).bound

  -- the leaves whose signs do not clash
  heads_kept : (r : Form) (label k : ℕ) (hs : List Term) → ((j : ℕ) (h : Term) → slice_get hs j ≡ Some h → leaf_first r (k + j) ≡ first_of (read_by store h))
      → filter (λ c. not (signs_clash asked.first (leaf_first r c.leaf))) (head_tries (has_predicate asked.predicate) label k hs)
      ≡ head_tries (head_fits store asked) label k hs
  heads_kept r label k [] at = refl
  heads_kept r label k (h ∷ hs) at =
      let q : k + 0 ≡ k = omega arith in
      step (has_predicate asked.predicate h) (ap (leaf_first r) (sym q) ∙ at 0 h refl)
      (heads_kept r label (suc k) hs (λ j g e. let z : suc k + j ≡ k + suc j = omega arith in ap (leaf_first r) z ∙ at (suc j) g e))
    where
      c : Candidate
      c = record { label = label; leaf = k }

      rest : List Candidate
      rest = head_tries (has_predicate asked.predicate) label (suc k) hs

      kept : Candidate → Bool
      kept d = not (signs_clash asked.first (leaf_first r d.leaf))

      more : List Candidate
      more = head_tries (head_fits store asked) label (suc k) hs

      step : (b : Bool) → leaf_first r k ≡ first_of (read_by store h) → filter kept rest ≡ more
          → filter kept (if b then c ∷ rest else rest) ≡ (if b && not (signs_clash asked.first (first_of (read_by store h))) then c ∷ more else more)
      step true e i = ap (λ xs. if kept c then c ∷ xs else xs) i ∙ ap (λ s. if not (signs_clash asked.first s) then c ∷ more else more) e
      step false e i = i

  module _ (a : Term) (is : HasPredicate asked.predicate a) (may : Allowed) where
    -- the candidates of an entry
    entry_walked : (e : Entry FormAt) → IsFormula may ClauseSide [] (form_tree store.bank e.clause.0)
        → entry_matches asked.first a (shown_entry store.bank bound e) ≡ open_tries (head_fits store asked) (standing_entry store.bank e)
    entry_walked e h =
        ap (filter kept) (entry_tries_by asked.predicate a is (shown_entry store.bank bound e) ∙ entry_stands may store.bank bound asked.predicate e h)
        ∙ go (is_open e)
      where
        kept : Candidate → Bool
        kept d = not (signs_clash asked.first (leaf_first (sub_form (reading store.bank bound) (form_tree store.bank e.clause.0)) d.leaf))

        go : (b : Bool) → filter kept (if b then head_tries (has_predicate asked.predicate) e.label 0 (heads (form_tree store.bank e.clause.0)) else [])
            ≡ (if b then head_tries (head_fits store asked) e.label 0 (heads (form_tree store.bank e.clause.0)) else [])
        go true = heads_kept (sub_form (reading store.bank bound) (form_tree store.bank e.clause.0)) e.label 0 (heads (form_tree store.bank e.clause.0))
            (λ j g q. let z : 0 + j ≡ j = omega arith in ap (leaf_first (sub_form (reading store.bank bound) (form_tree store.bank e.clause.0))) z
            ∙ sign_read (reading store.bank bound) (form_tree store.bank e.clause.0) j g q)
        go false = refl

    -- and of several
    pub entries_walked : (es : List (Entry FormAt)) → All (λ e. IsFormula may ClauseSide [] (form_tree store.bank e.clause.0)) es
        → flat_map (entry_matches asked.first a) (map (shown_entry store.bank bound) es)
        ≡ flat_map (open_tries (head_fits store asked)) (map (standing_entry store.bank) es)
    entries_walked [] h = refl
    entries_walked (e ∷ es) h =
        let P : Entry FormAt → Type 0 = λ d. IsFormula may ClauseSide [] (form_tree store.bank d.clause.0) in
        λ i. entry_walked e (All-head P e es h) i ++ entries_walked es (All-tail P e es h) i
