-- What a machine's parts say of the state that it shows.
use Rattle.std.proofs.Common.{◌≡◌, refl, ap, sym, ◌∙◌, Bool, true, false, List, [], ◌∷◌, map}
use Rattle.std.specs.Prelude.{Option, Some, None, All, length, is_some, IsNone, ◌↔◌, not, ◌||◌, ◌&&◌}
use Rattle.std.specs.List.{list_all}
use Rattle.std.proofs.lemmas.List.Elements.{All-nil, All-cons, All-head, All-tail}
use Rattle.std.proofs.lemmas.Bool.{or_right as or_true}
use Rattle.ll_list_laws.proofs.CallerLemmas.{and_true_left as and_left, and_true_right as and_right}
use Rattle.ll_bank.specs.declared.At.{At}
use Rattle.ll_bank.specs.declared.FormAt.{FormAt}
use Rattle.ll_bank.specs.Term.{Term, is_closed, eigens_below, sub}
use Rattle.ll_bank.specs.Nodes.{Nodes, HasTerm, AllInTerms, term_tree}
use Rattle.ll_laws.specs.Answered.{Answered}
use Rattle.ll_laws.specs.Consistent.{is_made}
use Rattle.ll_laws.specs.Unify.{vars_below}
use Rattle.ll_unify.specs.Bindings.{IsPlaceOf}
use Rattle.ll_unify.proofs.CallerLemmas.{place-below}
use Rattle.ll_laws.specs.declared.Step.{Step}
use Rattle.ll_laws.specs.State.{State}
use Rattle.ll_laws.specs.Settle.{Entry, Saved, has_live}
use Rattle.ll_agenda.specs.declared.agenda.Top.{Top}
use Rattle.ll_freeze.specs.Parts.{Parts, table}
use Rattle.ll_freeze.specs.Fits.{Fits}
use Rattle.ll_engine.proofs.machine.ReadLemmas.{fits_table}
use Rattle.ll_freeze.specs.declared.machine.Item.{Item}
use Rattle.ll_freeze.specs.Reading.{reading, read_term}
use Rattle.ll_freeze.specs.Shown.{shown_item, shown_entry, items_of, state_of}
use Rattle.ll_engine.specs.Turned.{is_empty, answers}

-- nothing is left to prove where the agenda's list is empty

empty_map : (bank : Nodes) (bound : List (Option At)) (kept : List Saved) (xs : List Item) (b : Bool) → (b ≡ true → xs ≡ []) → (b ≡ false → xs ≡ [] → ⊥)
    → b ≡ is_empty (map (shown_item bank bound kept) xs)
empty_map bank bound kept [] true f g = refl
empty_map bank bound kept [] false f g = absurd (g refl refl)
empty_map bank bound kept (x ∷ xs) true f g = let e = f refl in cc
empty_map bank bound kept (x ∷ xs) false f g = refl

pub empty_of : (m : Parts) (o : Option (Item × Top)) (b : Bool) → is_some o ≡ not b → (IsNone o ↔ (items_of m ≡ [])) → b ≡ is_empty (state_of m).agenda
unfolding state_of
empty_of m None b e h =
    empty_map m.bank m.bound m.resources.kept (items_of m) b (λ _. h.0 refl) (λ f _. let k : false ≡ true = e ∙ ap (λ x. not x) f in cc)
empty_of m (Some x) b e h =
    empty_map m.bank m.bound m.resources.kept (items_of m) b (λ f. let k : true ≡ false = e ∙ ap (λ x. not x) f in cc)
    (λ _ k. let x : true ≡ false = h.1 k in cc)

-- the entries that are live

live_map : (bank : Nodes) (bound : List (Option At)) (es : List (Entry FormAt)) → has_live (map (shown_entry bank bound) es) ≡ has_live es
live_map bank bound [] = refl
live_map bank bound (e ∷ es) = ap (λ b. e.live || b) (live_map bank bound es)

or_false : (a b : Bool) → b ≡ false → (a || b) ≡ a
or_false true b e = refl
or_false false b e = e

pub flagged : (m : Parts) (b : Bool) → b ≡ m.resources.flag → b ≡ true → b ≡ answers (state_of m)
unfolding state_of
flagged m b e f = f ∙ sym (or_true _ m.resources.flag (sym e ∙ f))

pub unflagged : (m : Parts) (b l : Bool) → b ≡ m.resources.flag → b ≡ false → l ≡ has_live m.resources.entries → not l ≡ answers (state_of m)
unfolding state_of
unflagged m b l e f h =
    ap (λ x. not x) (h ∙ sym (live_map m.bank m.bound m.resources.entries)) ∙ sym (or_false _ m.resources.flag (sym e ∙ f))

-- the terms and the steps of a state
abbrev branched : State → Answered
branched s = record { terms = s.terms; steps = s.steps }

-- the state as a branch, whose terms were read under the bindings
pub branch_of : (m : Parts) (bank new : Nodes) (bound : List (Option At)) (terms read : List At) (steps : List Step) → bank ≡ m.bank → bound ≡ m.bound
    → terms ≡ m.terms
    → map (λ at. term_tree new at.0) read ≡ map (read_term bank bound) terms → steps ≡ m.steps
    → record { terms = map (λ at. term_tree new at.0) read; steps = steps } ≡ branched (state_of m)
unfolding state_of
branch_of m bank new bound terms read steps e1 e2 e3 r e4 =
    let make : List Term → List Step → Answered = λ xs ys. record { terms = xs; steps = ys } in
    let a : map (read_term bank bound) terms ≡ map (read_term m.bank m.bound) m.terms = rw (e1, e2, e3) refl in
    ap (λ xs. make xs steps) (r ∙ a) ∙ ap (λ ys. make (map (read_term m.bank m.bound) m.terms) ys) e4

-- the terms of a machine, read where they stand, and its steps are those of its state
pub read_in_place : (m : Parts) (terms : List At) (steps : List Step) → terms ≡ m.terms → steps ≡ m.steps
    → record { terms = map (λ at. sub (reading m.bank m.bound) (term_tree m.bank at.0)) terms; steps = steps } ≡ branched (state_of m)
unfolding state_of
read_in_place m terms steps e1 e2 =
    let make : List Term → List Step → Answered = λ xs ys. record { terms = xs; steps = ys } in
    ap (λ ats. make (map (read_term m.bank m.bound) ats) steps) e1 ∙ ap (λ ys. make (map (read_term m.bank m.bound) m.terms) ys) e2

-- ---- the terms of a machine are places over its cells

places_of : (m : Parts) (f : Fits m) (ats : List At) → AllInTerms m.bank ats
    → list_all (is_made (length m.levels) m.eigens) (map (read_term m.bank m.bound) ats) ≡ true
    → All (λ (at : At). IsPlaceOf m.bank (table m) at.0) ats
places_of m f [] h e = All-nil (λ (at : At). IsPlaceOf m.bank (table m) at.0)
places_of m f (a ∷ ats) h e =
    let t = read_term m.bank m.bound a in let n = length m.levels in
    let one : is_made n m.eigens t ≡ true = and_left (is_made n m.eigens t) (list_all (is_made n m.eigens) (map (read_term m.bank m.bound) ats)) e in
    let below : vars_below n t ≡ true = and_right (is_closed t) (vars_below n t) (and_left (is_closed t && vars_below n t) (eigens_below m.eigens t) one) in
    All-cons (λ (at : At). IsPlaceOf m.bank (table m) at.0) a ats
    (place-below m.bank (table m) a.0 (fits_table m f) (All-head (λ (at : At). HasTerm m.bank at.0) a ats h) below)
    (places_of m f ats (All-tail (λ (at : At). HasTerm m.bank at.0) a ats h)
    (and_right (is_made n m.eigens t) (list_all (is_made n m.eigens) (map (read_term m.bank m.bound) ats)) e))

made_terms : (m : Parts) → Fits m → list_all (is_made (length m.levels) m.eigens) (map (read_term m.bank m.bound) m.terms) ≡ true
unfolding state_of
made_terms m f = f.consistent.terms

pub term_places : (m : Parts) → Fits m → All (λ (at : At). IsPlaceOf m.bank (table m) at.0) m.terms
term_places m f = places_of m f m.terms f.terms (made_terms m f)
