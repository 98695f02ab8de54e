-- The candidates among the program's clauses, as the index lists them.
use Rattle.std.proofs.Common.{◌≡◌, ℕ, ◌+◌, ◌<◌, Bool, true, false, List, [], ◌∷◌, ◌++◌, length, map, filter, ap, sym, ◌∙◌, arith}
use Rattle.std.proofs.Common.{append_assoc, drop}
use Rattle.std.specs.Prelude.{if◌then◌else◌, slice_get, Some, option_map, flat_map}
use Rattle.std.proofs.lemmas.List.{length-map, length-drop}
use Rattle.std.proofs.lemmas.Option.{slice_get-map, slice_get_within}
use Rattle.ll_list_laws.proofs.CallerLemmas.{slice_get-drop}
use Rattle.ll_bank.specs.declared.FormAt.{FormAt}
use Rattle.ll_bank.specs.Term.{Term}
use Rattle.ll_bank.specs.Form.{Form}
use Rattle.ll_laws.specs.declared.Candidate.{Candidate}
use Rattle.ll_laws.specs.Module.{ClauseTree}
use Rattle.ll_laws.specs.Settle.{Entry}
use Rattle.ll_laws.specs.Attempt.{is_open}
use Rattle.ll_index.specs.declared.laws.First.{First}
use Rattle.ll_index.specs.declared.leaves.Leaf.{Leaf}
use Rattle.ll_index.specs.declared.index.Index.{Index}
use Rattle.ll_index.specs.Context.{AreOfProgram, is_open_entry, is_open_at}
use Rattle.ll_index.specs.First.{entry_matches, program_matches}
use Rattle.ll_index.specs.Index.{IsLeafOf}
use Rattle.ll_index.proofs.CallerLemmas.{matches-open}
use Rattle.ll_freeze.specs.Indexed.{IsIndexOf}
use Rattle.ll_freeze.specs.Parts.{Parts}
use Rattle.ll_freeze.specs.Shown.{shown_entry}
use Rattle.ll_freeze.proofs.CallerLemmas.{program-length}
use Rattle.ll_engine.specs.Matches.{shown_context}
use Rattle.ll_engine.proofs.matching.MatchLemmas.{program_entry}

-- those that the index lists for an atom, less those of entries that can't be picked, are those that can match
pub program_begins : (first : First) (a : Term) (cs : List ClauseTree) (es : List (Entry Form)) (found ls : List Candidate) → AreOfProgram 0 cs es
    → ls ≡ program_matches first a cs
    → found ++ filter (λ c. is_open_at es c.label) ls ≡ found ++ flat_map (entry_matches first a) es
program_begins first a cs es found ls of e = ap (λ xs. found ++ filter (λ (c : Candidate). is_open_at es c.label) xs) e
    ∙ ap (λ xs. found ++ xs) (sym (matches-open first a 0 cs es of))

module _ (es : List (Entry Form)) (goal found : List Candidate) (l : Leaf) (ls rest : List Leaf) (next : ls ≡ l ∷ rest)
    (so_far : found ++ filter (λ c. is_open_at es c.label) (map (λ (x : Leaf). x.candidate) ls) ≡ goal) where
  abbrev opens : Candidate → Bool
  opens c = is_open_at es c.label

  abbrev candidates_of : List Leaf → List Candidate
  candidates_of xs = map (λ (x : Leaf). x.candidate) xs

  front : found ++ (if opens l.candidate then l.candidate ∷ filter opens (candidates_of rest) else filter opens (candidates_of rest)) ≡ goal
  front = ap (λ xs. found ++ filter opens (candidates_of xs)) (sym next) ∙ so_far

  -- the first one is found
  pub program_found : (new : List Candidate) → opens l.candidate ≡ true → new ≡ found ++ l.candidate ∷ [] → new ++ filter opens (candidates_of rest) ≡ goal
  program_found new o n =
      ap (λ xs. xs ++ filter opens (candidates_of rest)) n
      ∙ (append_assoc found (l.candidate ∷ []) (filter opens (candidates_of rest))
      ∙ (ap (λ b. found ++ (if b then l.candidate ∷ filter opens (candidates_of rest) else filter opens (candidates_of rest))) (sym o) ∙ front))

  -- or left out
  pub program_passed : opens l.candidate ≡ false → found ++ filter opens (candidates_of rest) ≡ goal
  program_passed o = ap (λ b. found ++ (if b then l.candidate ∷ filter opens (candidates_of rest) else filter opens (candidates_of rest))) (sym o) ∙ front

-- ---- the entry of a leaf

module _ (m : Parts) (loaded : ℕ) (of : AreOfProgram 0 m.problem.clauses (drop loaded (shown_context m))) where
  -- it is there
  pub leaf_entry : (x : Index) (l : Leaf) → IsIndexOf m.problem x → IsLeafOf x l → loaded + l.candidate.label < length m.resources.entries
  leaf_entry x l is leaf =
      let w = leaf is.0 m.problem.clauses is.1 in
      let below = slice_get_within m.problem.clauses l.candidate.label w.clause w.at in
      let count = program-length 0 m.problem.clauses (drop loaded (shown_context m)) of in
      let dropped = length-drop loaded (shown_context m) in
      let all = length-map m.resources.entries (shown_entry m.bank m.bound) in
      omega arith

  -- and can be picked where the label's entry can
  pub leaf_open : (label : ℕ) (e : Entry FormAt) → slice_get m.resources.entries (loaded + label) ≡ Some e
      → is_open_at (drop loaded (shown_context m)) label ≡ is_open e
  leaf_open label e h =
      let here : slice_get (drop loaded (shown_context m)) label ≡ Some (shown_entry m.bank m.bound e) =
      slice_get-drop loaded label (shown_context m) ∙ (slice_get-map (shown_entry m.bank m.bound) m.resources.entries (loaded + label)
      ∙ ap (option_map (shown_entry m.bank m.bound)) h) in
      ap is_open_entry (program_entry 0 m.problem.clauses (drop loaded (shown_context m)) label label (shown_entry m.bank m.bound e) of (omega arith) here)
