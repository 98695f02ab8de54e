-- Candidates as they stand in the bank: what stands for variables changes none of them, since atoms and heads of clauses have predicates of
-- their own.
use Rattle.std.proofs.Common.{◌≡◌, ℕ, suc, List, [], ◌∷◌, ◌++◌, map, refl, ap, sym, ◌∙◌, Option, Some, None, true, false, Bool, All}
use Rattle.std.specs.Prelude.{if◌then◌else◌, flat_map, ◌&&◌}
use Rattle.std.specs.List.{list_all}
use Rattle.std.proofs.lemmas.List.{map-append}
use Rattle.std.proofs.lemmas.List.Elements.{All-head, All-tail}
use Rattle.std.proofs.lemmas.Bool.{and_from as and_intro}
use Rattle.ll_list_laws.proofs.CallerLemmas.{and_true_left as and_left, and_true_right as and_right}
use Rattle.ll_bank.specs.declared.FormAt.{FormAt}
use Rattle.ll_bank.specs.declared.Head.{Head}
use Rattle.ll_bank.specs.Term.{Term, Var, Int, Con, Ap, sub, head_of, arity, is_spine}
use Rattle.ll_bank.specs.Form.{Form, Top, One, Atom, With, Tensor, Plus, Bang, Lolli, Imp, Forall, Exists, Use, Num, sub_form}
use Rattle.ll_bank.specs.Nodes.{Nodes, form_tree}
use Rattle.ll_laws.specs.declared.Candidate.{Candidate}
use Rattle.ll_laws.specs.Settle.{Entry}
use Rattle.ll_laws.specs.Attempt.{goal_tries, entry_tries, is_open}
use Rattle.ll_laws.specs.Valid.{Allowed, Scope, IsFormula, GoalSide, ClauseSide, has_heads, is_headed, may_head, free_below, places_below}
use Rattle.ll_freeze.specs.Reading.{reading}
use Rattle.ll_freeze.specs.Shown.{shown_entry}
use Rattle.ll_engine.specs.declared.heads.Predicate.{Predicate}
use Rattle.ll_engine.specs.Leaves.{has_predicate, heads, head_tries, open_tries, standing_entry}
use Rattle.ll_engine.proofs.matching.LeafLemmas.{HasPredicate, head_free, tries_by_predicate}

module _ (s : ℕ → Term) where
  pub spine-head : (t : Term) → is_spine t ≡ true → head_of (sub s t) ≡ head_of t
  spine-head (Var x) e = cc
  spine-head (Int z) e = refl
  spine-head (Con h) e = refl
  spine-head (Ap f a) e = spine-head f e

  pub spine-arity : (t : Term) → is_spine t ≡ true → arity (sub s t) ≡ arity t
  spine-arity (Var x) e = cc
  spine-arity (Int z) e = refl
  spine-arity (Con h) e = refl
  spine-arity (Ap f a) e = ap suc (spine-arity f e)

  pub heads-sub : (f : Form) → heads (sub_form s f) ≡ map (sub s) (heads f)
  heads-sub Top = refl
  heads-sub One = refl
  heads-sub (Atom a) = refl
  heads-sub (With f g) = (λ i. heads-sub f i ++ heads-sub g i) ∙ sym (map-append (sub s) (heads f) (heads g))
  heads-sub (Tensor f g) = refl
  heads-sub (Plus f g) = refl
  heads-sub (Bang f) = refl
  heads-sub (Lolli g r) = heads-sub r
  heads-sub (Imp g r) = heads-sub r
  heads-sub (Forall r) = heads-sub r
  heads-sub (Exists f) = refl
  heads-sub (Use m ts f) = refl
  heads-sub (Num r t u) = refl

  same_predicate : (p : Predicate) (t : Term) → is_spine t ≡ true → has_predicate p (sub s t) ≡ has_predicate p t
  same_predicate p t e = λ i. Rattle.ll_bank.specs.Term.same_head (Some p.head) (spine-head t e i)
      && Rattle.std.specs.Prelude.nat_eq p.arity (spine-arity t e i)

  head_tries-sub : (p : Predicate) (label k : ℕ) (hs : List Term) → list_all is_spine hs ≡ true
      → head_tries (has_predicate p) label k (map (sub s) hs) ≡ head_tries (has_predicate p) label k hs
  head_tries-sub p label k [] e = refl
  head_tries-sub p label k (h ∷ hs) e =
      let c : Candidate = record { label = label; leaf = k } in
      let rest = head_tries-sub p label (suc k) hs (and_right (is_spine h) (list_all is_spine hs) e) in
      let here = same_predicate p h (and_left (is_spine h) (list_all is_spine hs) e) in
      λ i. if here i then c ∷ rest i else rest i

all-append : (hs js : List Term) → list_all is_spine hs ≡ true → list_all is_spine js ≡ true → list_all is_spine (hs ++ js) ≡ true
all-append [] js h j = j
all-append (x ∷ hs) js h j =
    and_intro (is_spine x) (list_all is_spine (hs ++ js)) (and_left (is_spine x) (list_all is_spine hs) h)
    (all-append hs js (and_right (is_spine x) (list_all is_spine hs) h) j)

-- the heads of a clause have predicates
pub heads-spines : (opens : Bool) (scope : Scope) (f : Form) → has_heads opens ClauseSide scope f ≡ true → list_all is_spine (heads f) ≡ true
heads-spines opens scope Top e = refl
heads-spines opens scope One e = refl
heads-spines opens scope (Atom a) e =
    and_intro (is_spine a) true (and_left (is_spine a) (may_head scope (head_of a)) (and_left (is_spine a && may_head scope (head_of a)) (is_headed scope a) e))
    refl
heads-spines opens scope (With f g) e =
    all-append (heads f) (heads g) (heads-spines opens scope f (and_left (has_heads opens ClauseSide scope f) (has_heads opens ClauseSide scope g) e))
    (heads-spines opens scope g (and_right (has_heads opens ClauseSide scope f) (has_heads opens ClauseSide scope g) e))
heads-spines opens scope (Tensor f g) e = refl
heads-spines opens scope (Plus f g) e = refl
heads-spines opens scope (Bang f) e = refl
heads-spines opens scope (Lolli g r) e = heads-spines opens scope r (and_right (has_heads opens GoalSide scope g) (has_heads opens ClauseSide scope r) e)
heads-spines opens scope (Imp g r) e = heads-spines opens scope r (and_right (has_heads opens GoalSide scope g) (has_heads opens ClauseSide scope r) e)
heads-spines opens scope (Forall r) e = heads-spines opens (false ∷ scope) r e
heads-spines opens scope (Exists f) e = refl
heads-spines opens scope (Use m ts f) e = refl
heads-spines opens scope (Num r t u) e = refl

module _ (may : Allowed) (bank : Nodes) (bound : List (Option Rattle.ll_bank.specs.declared.At.At)) where
  abbrev pub s : ℕ → Term
  s = reading bank bound

  pub entry_stands : (p : Predicate) (e : Entry FormAt) → IsFormula may ClauseSide [] (form_tree bank e.clause.0)
      → open_tries (has_predicate p) (shown_entry bank bound e) ≡ open_tries (has_predicate p) (standing_entry bank e)
  entry_stands p e h =
      let f = form_tree bank e.clause.0 in
      let q : head_tries (has_predicate p) e.label 0 (heads (sub_form s f)) ≡ head_tries (has_predicate p) e.label 0 (heads f) =
      ap (head_tries (has_predicate p) e.label 0) (heads-sub s f) ∙ head_tries-sub s p e.label 0 (heads f) (heads-spines may.opens [] f h.heads) in
      ap (λ cs. if is_open e then cs else []) q

  entries_stand : (p : Predicate) (es : List (Entry FormAt)) → All (λ e. IsFormula may ClauseSide [] (form_tree bank e.clause.0)) es
      → flat_map (open_tries (has_predicate p)) (map (shown_entry bank bound) es) ≡ flat_map (open_tries (has_predicate p)) (map (standing_entry bank) es)
  entries_stand p [] h = refl
  entries_stand p (e ∷ es) h =
      let P : Entry FormAt → Type 0 = λ d. IsFormula may ClauseSide [] (form_tree bank d.clause.0) in
      λ i. entry_stands p e (All-head P e es h) i ++ entries_stand p es (All-tail P e es h) i

  atom_stands : (a : Term) (es : List (Entry FormAt)) → is_spine a ≡ true → places_below 0 a ≡ true → places_below 0 (sub s a) ≡ true
      → All (λ e. IsFormula may ClauseSide [] (form_tree bank e.clause.0)) es
      → flat_map (entry_tries (sub s a)) (map (shown_entry bank bound) es) ≡ flat_map (entry_tries a) (map (standing_entry bank) es)
  atom_stands a es sp free read h = go (head_of a) refl
    where
      go : (o : Option Head) → head_of a ≡ o → flat_map (entry_tries (sub s a)) (map (shown_entry bank bound) es)
          ≡ flat_map (entry_tries a) (map (standing_entry bank) es)
      go None e =
          Rattle.ll_engine.proofs.matching.LeafLemmas.no_tries (sub s a) (spine-head s a sp ∙ e) (map (shown_entry bank bound) es)
          ∙ sym (Rattle.ll_engine.proofs.matching.LeafLemmas.no_tries a e (map (standing_entry bank) es))
      go (Some f) e =
          let p : Predicate = record { head = f; arity = arity a } in
          tries_by_predicate p (sub s a) (record {
            head = spine-head s a sp ∙ e;
            arity = spine-arity s a sp;
            free =
                head_free (sub s a) f read (spine-head s a sp ∙ e);
          }) (map (shown_entry bank bound) es)
          ∙ (entries_stand p es h ∙ sym (tries_by_predicate p a (record { head = e; arity = refl; free = head_free a f free e })
          (map (standing_entry bank) es)))

  -- the candidates of a goal, as they stand
  pub tries_stand : (g : Form) (es : List (Entry FormAt)) → has_heads may.opens GoalSide [] g ≡ true → free_below 0 g ≡ true
      → free_below 0 (sub_form s g) ≡ true
      → All (λ e. IsFormula may ClauseSide [] (form_tree bank e.clause.0)) es
      → goal_tries (map (shown_entry bank bound) es) (sub_form s g) ≡ goal_tries (map (standing_entry bank) es) g
  tries_stand Top es k f r h = refl
  tries_stand One es k f r h = refl
  tries_stand (Atom a) es k f r h = atom_stands a es (and_left (is_spine a) (may_head [] (head_of a))
      (and_left (is_spine a && may_head [] (head_of a)) (is_headed [] a) k)) f r h
  tries_stand (With x y) es k f r h = refl
  tries_stand (Tensor x y) es k f r h = refl
  tries_stand (Plus x y) es k f r h = refl
  tries_stand (Bang x) es k f r h = refl
  tries_stand (Lolli x y) es k f r h = refl
  tries_stand (Imp x y) es k f r h = refl
  tries_stand (Forall x) es k f r h = refl
  tries_stand (Exists x) es k f r h = refl
  tries_stand (Use m ts x) es k f r h = refl
  tries_stand (Num x t u) es k f r h = refl
