-- What is read of a term without a fault: it mentions what there is, what has arguments may have them, and its numbers are small.
use Rattle.std.proofs.Common.{◌≡◌, ℕ, suc, ◌+◌, ◌≤◌, Bool, true, false, List, [], ◌∷◌, ◌++◌, length, None, refl, arith, length-append}
use Rattle.std.specs.List.{list_all}
use Rattle.std.proofs.lemmas.Bool.{lt-ltb, le-leb, and_from as and_intro}
use Rattle.ll_list_laws.proofs.CallerLemmas.{and_true_left as and_left, and_true_right as and_right}
use Rattle.ll_bank.specs.Term.{Term, Ap, apply, arity}
use Rattle.ll_lexer.specs.declared.Place.{Place}
use Rattle.ll_lexer.specs.declared.Fault.{Fault}
use Rattle.ll_laws.specs.Module.{ModuleTree}
use Rattle.ll_laws.specs.Valid.{given, names_below, arity_up_to}
use Rattle.ll_laws.specs.Valid as valid
use Rattle.ll_laws.proofs.CallerLemmas.{IsHead, Fit, AllFit}
use Rattle.ll_parser.specs.Tokens.{Identifier}
use Rattle.ll_parser.specs.Raw.{Raw, head, anything, int, RawList, none, more}
use Rattle.ll_polarity.specs.Scope.{Scope, Meaning, Bound, Local, Free, Constant, meaning}
use Rattle.ll_polarity.specs.Reading.{Met, read_name, read_term, read_terms}
use Rattle.ll_polarity.specs.Faults.{unless, may_be_head, applied_fault, term_faults, terms_faults}
use Rattle.ll_polarity.proofs.reading.Grows.{Longer, variable_below, number_below, longer_terms}
use Rattle.ll_parser.specs.Weights.{weight, weights}
use Rattle.ll_polarity.proofs.reading.Weight.{count-le-weights, length-read_terms}
use Rattle.ll_polarity.proofs.naming.Meanings.{places, Means, means}

-- ---- lists of faults that are empty

pub none_left : (xs ys : List Fault) → xs ++ ys ≡ [] → xs ≡ []
none_left [] ys h = refl
none_left (x ∷ xs) ys h = absurd (cc)

pub none_right : (xs ys : List Fault) → xs ++ ys ≡ [] → ys ≡ []
none_right [] ys h = h
none_right (x ∷ xs) ys h = absurd (cc)

pub none_unless : (b : Bool) (kind : ℕ) (at : Place) → unless b kind at ≡ [] → b ≡ true
none_unless true kind at h = refl
none_unless false kind at h = absurd (cc)

-- how many names, variables and modules there are, and how large a tree may be
pub record Room : Type 0 where
  pub modules : List ModuleTree
  pub variables : ℕ
  pub names : ℕ
  pub most : ℕ

-- what was met fits in
pub record IsIn (room : Room) (met : Met) : Type 0 where
  pub names : length met.names ≤ room.names
  pub variables : length met.variables ≤ room.variables

pub in_before : {room : Room} {a b : Met} → Longer a b → IsIn room b → IsIn room a
in_before l i = record { names = omega (arith, l.names.longer, i.names); variables = omega (arith, l.variables, i.variables) }

-- a term in a scope
pub record IsTerm (room : Room) (scope : valid.Scope) (t : Term) : Type 0 where
  pub fit : Fit (given room.modules room.variables) scope t
  pub named : names_below room.names t ≡ true
  pub arguments : arity_up_to room.most t ≡ true

-- terms in a scope
pub record AreTerms (room : Room) (scope : valid.Scope) (ts : List Term) : Type 0 where
  pub fit : AllFit (given room.modules room.variables) scope ts
  pub named : list_all (names_below room.names) ts ≡ true
  pub arguments : list_all (arity_up_to room.most) ts ≡ true

pub are_none : (room : Room) (scope : valid.Scope) → AreTerms room scope []
are_none room scope = record { fit = tt; named = refl; arguments = refl }

pub are_more : {room : Room} {scope : valid.Scope} {t : Term} {ts : List Term} → IsTerm room scope t → AreTerms room scope ts → AreTerms room scope (t ∷ ts)
are_more h hs = record { fit = (h.fit, hs.fit); named = and_intro _ _ h.named hs.named; arguments = and_intro _ _ h.arguments hs.arguments }

-- a head with arguments
pub record IsApplied (room : Room) (scope : valid.Scope) (t : Term) : Type 0 where
  pub term : IsTerm room scope t
  pub head : IsHead scope t

apply_terms : (room : Room) (scope : valid.Scope) (f : Term) (ts : List Term) → IsApplied room scope f → AreTerms room scope ts
    → arity f + length ts ≤ room.most
    → IsApplied room scope (apply f ts)
apply_terms room scope f [] h hs le = h
apply_terms room scope f (t ∷ ts) h hs le =
    apply_terms room scope (Ap f t) ts
    (record {
      term = record {
        fit = (h.head, h.term.fit, hs.fit.0);
        named = and_intro _ _ h.term.named (and_left (names_below room.names t) (list_all (names_below room.names) ts) hs.named);
        arguments = and_intro _ _ (and_intro _ _ (le-leb (suc (arity f)) room.most (omega arith)) h.term.arguments)
            (and_left (arity_up_to room.most t) (list_all (arity_up_to room.most) ts) hs.arguments);
      };
      head = h.head;
    })
    (record {
      fit = hs.fit.1;
      named = and_right (names_below room.names t) (list_all (names_below room.names) ts) hs.named;
      arguments = and_right (arity_up_to room.most t) (list_all (arity_up_to room.most) ts) hs.arguments;
    })
    (omega arith)

-- ---- names

arity_none : (m : Meaning) (met : Met) (w : List ℕ) → arity (read_name m met w).it ≡ 0
arity_none (Bound k) met w = refl
arity_none (Local k) met w = refl
arity_none Free met w = refl
arity_none Constant met w = refl

named_term : (room : Room) (scope : Scope) (m : Meaning) (met : Met) (w : List ℕ) → Means scope m → IsIn room (read_name m met w).met
    → IsTerm room (places scope) (read_name m met w).it
named_term room scope (Bound k) met w h i = record { fit = h; named = refl; arguments = refl }
named_term room scope (Local k) met w h i = record { fit = h.0; named = refl; arguments = refl }
named_term room scope Free met w h i = record {
  fit = lt-ltb _ room.variables (omega (arith, variable_below met.variables w, i.variables));
  named = refl;
  arguments = refl;
}
named_term room scope Constant met w h i = record { fit = tt; named = lt-ltb _ room.names (omega (arith, number_below met.names w, i.names)); arguments = refl }

named_head : (scope : Scope) (m : Meaning) (met : Met) (w : List ℕ) → Means scope m → may_be_head m ≡ true → IsHead (places scope) (read_name m met w).it
named_head scope (Bound k) met w h may = absurd (cc)
named_head scope (Local k) met w h may = (refl, h.1)
named_head scope Free met w h may = absurd (cc)
named_head scope Constant met w h may = (refl, refl)

-- a name that may have arguments, with these
pub applied_term : (room : Room) (scope : Scope) (met : Met) (n : Identifier) (args : RawList) → may_be_head (meaning scope n.text) ≡ true
    → IsIn room (read_term scope met (head n args)).met
    → AreTerms room (places scope) (read_terms scope (read_name (meaning scope n.text) met n.text).met args).it → weight (head n args) ≤ room.most
    → IsApplied room (places scope) (read_term scope met (head n args)).it
applied_term room scope met n args may i hs le =
    let m = meaning scope n.text in
    let f = read_name m met n.text in
    apply_terms room (places scope) f.it (read_terms scope f.met args).it
    (record {
      term = named_term room scope m met n.text (means scope n.text) (in_before (longer_terms scope f.met args) i);
      head =
          named_head scope m met n.text (means scope n.text) may;
    }) hs
    (omega (arith, arity_none m met n.text, length-read_terms scope f.met args, count-le-weights args))

-- a name with arguments or without
head_term : (room : Room) (scope : Scope) (met : Met) (n : Identifier) (args : RawList) → applied_fault scope n args ≡ []
    → IsIn room (read_term scope met (head n args)).met
    → AreTerms room (places scope) (read_terms scope (read_name (meaning scope n.text) met n.text).met args).it → weight (head n args) ≤ room.most
    → IsTerm room (places scope) (read_term scope met (head n args)).it
head_term room scope met n none h i hs le = named_term room scope (meaning scope n.text) met n.text (means scope n.text) i
head_term room scope met n (more r rs) h i hs le = (applied_term room scope met n (more r rs) (none_unless (may_be_head (meaning scope n.text)) 9 n.at h) i hs
    le).term

-- ---- terms

mutual
  pub read_is_term : (room : Room) (scope : Scope) (met : Met) (r : Raw) → term_faults scope r ≡ [] → IsIn room (read_term scope met r).met
      → weight r ≤ room.most
      → IsTerm room (places scope) (read_term scope met r).it
  read_is_term room scope met (head n args) h i le =
      head_term room scope met n args (none_left (applied_fault scope n args) (terms_faults scope args) h) i
      (read_are_terms room scope (read_name (meaning scope n.text) met n.text).met args (none_right (applied_fault scope n args) (terms_faults scope args) h) i
      (omega arith)) le
  read_is_term room scope met (anything at) h i le = record {
    fit =
        lt-ltb _ room.variables (omega (arith, i.variables, length-append met.variables (None ∷ [])));
    named = refl;
    arguments = refl;
  }
  read_is_term room scope met (int at z) h i le = record { fit = tt; named = refl; arguments = refl }
  read_is_term room scope met _ h i le = record { fit = tt; named = refl; arguments = refl }

  pub read_are_terms : (room : Room) (scope : Scope) (met : Met) (rs : RawList) → terms_faults scope rs ≡ [] → IsIn room (read_terms scope met rs).met
      → weights rs ≤ room.most
      → AreTerms room (places scope) (read_terms scope met rs).it
  read_are_terms room scope met none h i le = are_none room (places scope)
  read_are_terms room scope met (more r rs) h i le =
      let t = read_term scope met r in
      are_more (read_is_term room scope met r (none_left (term_faults scope r) (terms_faults scope rs) h) (in_before (longer_terms scope t.met rs) i)
      (omega arith))
      (read_are_terms room scope t.met rs (none_right (term_faults scope r) (terms_faults scope rs) h) i (omega arith))
