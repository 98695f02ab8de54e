-- What is met in a text only grows, and what is met last has its number in it.
use Rattle.std.proofs.Common.{◌≡◌, ℕ, ◌<◌, ◌≤◌, Bool, true, false, cond, ◌||◌, List, [], ◌∷◌, ◌++◌, length, slice_get, position, Option, Some, None}
use Rattle.std.proofs.Common.{if◌then◌else◌, refl, ap, sym, subst, ◌∙◌, arith, length-append}
use Rattle.std.specs.Prelude.{unwrap_or}
use Rattle.std.specs.List.{list_any, position_or_len}
use Rattle.std.specs.Str.{bytes_eq}
use Rattle.std.proofs.lemmas.Bool.Decides.{Decides-ltb}
use Rattle.std.proofs.lemmas.List.Folds.{list_any-append}
use Rattle.std.proofs.lemmas.Option.{slice_get_within}
use Rattle.std.proofs.lemmas.Slice.Eq.{bytes_eq-Decides}
use Rattle.ll_list_laws.proofs.CallerLemmas.{position_within as place_within}
use Rattle.ll_bank.specs.Names.{with_name}
use Rattle.ll_bank.specs.Form.{Relation, Is, Less, Most}
use Rattle.ll_bank.proofs.CallerLemmas.{slice_get-number_of, number_of-with_name, slice_get-with_name}
use Rattle.ll_parser.specs.Raw.{Raw, truth, erasure, braces, universal, existential, load, binary, is_goal, less_goal, most_goal, head, anything, int, RawList}
use Rattle.ll_parser.specs.Raw.{none, more}
use Rattle.ll_polarity.specs.Scope.{Scope, binds, Meaning, Bound, Local, Free, Constant, meaning}
use Rattle.ll_polarity.specs.Reading.{Met, has_text, number_in, variable_in, with_variable, read_name, read_term, read_terms, read_number, read_form}

-- ---- the first place at which a test passes

pub place_is : {X : Type 0} (p : X → Bool) (xs : List X) → list_any p xs ≡ true → position p xs ≡ Some (position_or_len p xs)
place_is {X} p xs h = ap (λ b. cond b (Some (position_or_len p xs)) None) ((Decides-ltb (position_or_len p xs) (length xs)).1 (place_within p xs h))

-- an element that passes is found where it is put behind the others unless one of these passes
module _ {X : Type 0} (p : X → Bool) (xs : List X) (x : X) where
  found : (ys : List X) → list_any p ys ≡ true → unwrap_or (position p ys) 0 < length ys
  found ys h = subst (λ o. unwrap_or o 0 < length ys) (sym (place_is p ys h)) (place_within p ys h)

  pub found_in : p x ≡ true → (let ys : List X = if list_any p xs then xs else xs ++ x ∷ [] in unwrap_or (position p ys) 0 < length ys)
  found_in h = by (list_any p xs) refl
    where
      by : (b : Bool) → list_any p xs ≡ b → unwrap_or (position p (if b then xs else xs ++ x ∷ [])) 0 < length (if b then xs else xs ++ x ∷ [])
      by true e = found xs e
      by false e = found (xs ++ x ∷ []) (list_any-append p xs (x ∷ []) ∙ (ap (λ b. b || (p x || false)) e ∙ ap (λ b. b || false) h))

  pub not_shorter : (b : Bool) → length xs ≤ length (if b then xs else xs ++ x ∷ [])
  not_shorter true = omega arith
  not_shorter false = omega (arith, length-append xs (x ∷ []))

-- ---- names

-- each of the names keeps its number
pub record More (old new : List (List ℕ)) : Type 0 where
  pub longer : length old ≤ length new
  pub kept : (n : ℕ) (w : List ℕ) → slice_get old n ≡ Some w → slice_get new n ≡ Some w

pub more_refl : (names : List (List ℕ)) → More names names
more_refl names = record { longer = omega arith; kept = λ n w h. h }

pub more_trans : {a b c : List (List ℕ)} → More a b → More b c → More a c
more_trans x y = record { longer = omega (arith, x.longer, y.longer); kept = λ n w h. y.kept n w (x.kept n w h) }

pub more_named : (names : List (List ℕ)) (w : List ℕ) → More names (with_name names w)
more_named names w = record { longer = not_shorter (bytes_eq w) names w (list_any (bytes_eq w) names); kept = λ n v h. slice_get-with_name names w v n h }

-- an added name has its number
pub numbered : (names : List (List ℕ)) (w : List ℕ) → slice_get (with_name names w) (number_in (with_name names w) w) ≡ Some w
numbered names w =
    let e = number_of-with_name names w in
    subst (λ o. slice_get (with_name names w) (unwrap_or o 0) ≡ Some w) (sym e) (slice_get-number_of (with_name names w) w _ e)

pub number_below : (names : List (List ℕ)) (w : List ℕ) → number_in (with_name names w) w < length (with_name names w)
number_below names w = slice_get_within (with_name names w) (number_in (with_name names w) w) w (numbered names w)

-- ---- variables

pub variable_below : (variables : List (Option (List ℕ))) (w : List ℕ) → variable_in (with_variable variables w) w < length (with_variable variables w)
variable_below variables w = found_in (has_text w) variables (Some w) ((bytes_eq-Decides w w).1 refl)

-- ---- what was met

pub record Longer (old new : Met) : Type 0 where
  pub names : More old.names new.names
  pub variables : length old.variables ≤ length new.variables

pub longer_refl : (met : Met) → Longer met met
longer_refl met = record { names = more_refl met.names; variables = omega arith }

pub longer_trans : {a b c : Met} → Longer a b → Longer b c → Longer a c
longer_trans x y = record { names = more_trans x.names y.names; variables = omega (arith, x.variables, y.variables) }

pub longer_name : (m : Meaning) (met : Met) (w : List ℕ) → Longer met (read_name m met w).met
longer_name (Bound k) met w = longer_refl met
longer_name (Local k) met w = longer_refl met
longer_name Free met w = record {
  names = more_refl met.names;
  variables =
      not_shorter (has_text w) met.variables (Some w) (list_any (has_text w) met.variables);
}
longer_name Constant met w = record { names = more_named met.names w; variables = omega arith }

mutual
  pub longer_term : (scope : Scope) (met : Met) (r : Raw) → Longer met (read_term scope met r).met
  longer_term scope met (head n args) = let m = meaning scope n.text in
      longer_trans (longer_name m met n.text) (longer_terms scope (read_name m met n.text).met args)
  longer_term scope met (anything at) = record { names = more_refl met.names; variables = omega (arith, length-append met.variables (None ∷ [])) }
  longer_term scope met _ = longer_refl met

  pub longer_terms : (scope : Scope) (met : Met) (rs : RawList) → Longer met (read_terms scope met rs).met
  longer_terms scope met none = longer_refl met
  longer_terms scope met (more r rs) = longer_trans (longer_term scope met r) (longer_terms scope (read_term scope met r).met rs)

pub longer_number : (q : Relation) (scope : Scope) (met : Met) (l r : Raw) → Longer met (read_number q scope met l r).met
longer_number q scope met l r = longer_trans (longer_term scope met l) (longer_term scope (read_term scope met l).met r)

pub longer_form : (ms : List (List ℕ)) (scope : Scope) (met : Met) (r : Raw) → Longer met (read_form ms scope met r).met
longer_form ms scope met (truth at) = longer_refl met
longer_form ms scope met (erasure at) = longer_refl met
longer_form ms scope met (braces at r) = longer_form ms scope met r
longer_form ms scope met (universal at n r) = longer_form ms (binds n.text ∷ scope) met r
longer_form ms scope met (existential at n r) = longer_form ms (binds n.text ∷ scope) met r
longer_form ms scope met (load at m args r) = longer_trans (longer_terms scope met args) (longer_form ms scope (read_terms scope met args).met r)
longer_form ms scope met (binary o at l r) = longer_trans (longer_form ms scope met l) (longer_form ms scope (read_form ms scope met l).met r)
longer_form ms scope met (is_goal at l r) = longer_number Is scope met l r
longer_form ms scope met (less_goal at l r) = longer_number Less scope met l r
longer_form ms scope met (most_goal at l r) = longer_number Most scope met l r
longer_form ms scope met (head n args) = longer_term scope met (head n args)
longer_form ms scope met (anything at) = longer_term scope met (anything at)
longer_form ms scope met (int at z) = longer_term scope met (int at z)
