-- What is found at the front of some bytes.
use Rattle.std.proofs.Common.{◌≡◌, ℕ, zero, suc, ◌+◌, ◌<◌, ◌≤◌, ◌^◌, Bool, true, false, List, [], ◌∷◌, ◌++◌, length, refl, ap, sym, subst, ◌∙◌, arith, codes}
use Rattle.std.proofs.Common.{decimal, append-nil, length-append, Some}
use Rattle.std.specs.List.{list_all, list_any, slice_get}
use Rattle.std.specs.Str.{bytes_eq}
use Rattle.ll_bank.specs.declared.Head.TheVariants.{Name, Eigen}
use Rattle.ll_bank.specs.Names.{with_name, with_names}
use Rattle.ll_bank.specs.Term.{Var, is_closed}
use Rattle.ll_bank.specs.Nodes.{Nodes, ShowsTerm, Extends}
use Rattle.ll_bank.proofs.CallerLemmas.{Extends-refl, Extends-trans}
use Rattle.ll_laws.specs.Output.{term_text, name_text, has_arguments}
use Rattle.ll_prooftext.specs.Admitted.{IsPlainName, IsSpelledTerm}
use Rattle.ll_prooftext.specs.Words.{Stops}
use Rattle.ll_prooftext.specs.Terms.{Grows, Moves, MovesLine, name, eigen, variable, IsHeadOf, IsLeafOf, is_part}
use Rattle.ll_prooftext.specs.Words.{is_not}
use Rattle.ll_prooftext.specs.Reading.{IsAtEnd}
use Rattle.ll_prooftext.specs.Mentions.{Outside, mentions}
use Rattle.ll_prooftext.proofs.spelling.Kept.{grows_none, grows_on}
use Rattle.ll_prooftext.proofs.spelling.Spellings.{name_shaped, name_full}
use Rattle.ll_prooftext.proofs.spelling.Mentioning.{word_apart, name_mentions, sign_mentions, nothing_mentions, added_apart, line_mentions}

-- ---- names and terms that were added

pub grows_name : (names new : List (List ℕ)) (text : List ℕ) → new ≡ with_name names text → Grows names new
grows_name names new text e = by_test (list_any (bytes_eq text) names) refl
  where
    by_test : (v : Bool) → list_any (bytes_eq text) names ≡ v → Grows names new
    by_test true t = record { more = []; is = e ∙ (rw t (sym (append-nil names))) }
    by_test false t = record { more = text ∷ []; is = e ∙ (rw t refl) }

pub one_name : (names new : List (List ℕ)) (text : List ℕ) → new ≡ with_name names text → length new ≤ length names + 1
one_name names new text e = by_test (list_any (bytes_eq text) names) refl
  where
    by_test : (v : Bool) → list_any (bytes_eq text) names ≡ v → length new ≤ length names + 1
    by_test true t = let q : new ≡ names = e ∙ (rw t refl) in let l = ap length q in omega arith
    by_test false t = let q : new ≡ names ++ text ∷ [] = e ∙ (rw t refl) in let l = ap length q in let k = length-append names (text ∷ []) in omega arith

-- bytes that mention no name
pub moves_none : (names : List (List ℕ)) (bank over : Nodes) (bytes : List ℕ) → Extends bank over → mentions Outside bytes ≡ []
    → Moves names bank bytes names over []
moves_none names bank over bytes k e = record {
  grows = grows_none names;
  keeps = k;
  few = omega arith;
  names_on =
      ap (with_names names) (e ∙ sym nothing_mentions);
}

-- one name
pub moves_name : (names new : List (List ℕ)) (bank : Nodes) (text bytes : List ℕ) → new ≡ with_name names text → text ≡ bytes → IsPlainName bytes
    → Moves names bank bytes new bank []
moves_name names new bank text bytes e f p = record {
  grows = grows_name names new text e;
  keeps = Extends-refl bank;
  few = let l = one_name names new text e in let h = name_full bytes p in omega arith;
  names_on = ap (with_names names) (name_mentions bytes (name_shaped bytes p.spelled))
      ∙ (ap (with_name names) (sym f) ∙ (sym e ∙ sym (ap (with_names new) nothing_mentions)));
}

-- nothing was read
pub moves_still : (names : List (List ℕ)) (bank : Nodes) (bytes : List ℕ) → Moves names bank bytes names bank bytes
moves_still names bank bytes = record { grows = grows_none names; keeps = Extends-refl bank; few = omega arith; names_on = refl }

-- terms were added at the end
pub moves_over : (names : List (List ℕ)) (bank : Nodes) (bytes : List ℕ) (new : List (List ℕ)) (mid over : Nodes) (left : List ℕ)
    → Moves names bank bytes new mid left → Extends mid over → Moves names bank bytes new over left
moves_over names bank bytes new mid over left m e = record { grows = m.grows; keeps = Extends-trans m.keeps e; few = m.few; names_on = m.names_on }

-- bytes in front that mention no name
pub moves_behind : (names : List (List ℕ)) (bank : Nodes) (bytes front rest : List ℕ) (new : List (List ℕ)) (over : Nodes) (left : List ℕ)
    → bytes ≡ front ++ rest → mentions Outside (front ++ rest) ≡ mentions Outside rest → Moves names bank rest new over left
    → Moves names bank bytes new over left
moves_behind names bank bytes front rest new over left e q m = record {
  grows = m.grows;
  keeps = m.keeps;
  few = let f = m.few in let l = ap length e in let k = length-append front rest in omega arith;
  names_on = ap (λ z. with_names names (mentions Outside z)) e ∙ (ap (with_names names) q ∙ m.names_on);
}

-- a word in front
pub moves_word : (names : List (List ℕ)) (bank : Nodes) (bytes w rest : List ℕ) (new : List (List ℕ)) (over : Nodes) → bytes ≡ w ++ rest
    → list_all is_part w ≡ true → Stops is_part rest → Moves names bank w new over [] → Moves names bank bytes new over rest
moves_word names bank bytes w rest new over e h s m = record {
  grows = m.grows;
  keeps = m.keeps;
  few = let f = m.few in let l = ap length e in let k = length-append w rest in omega arith;
  names_on =
      ap (λ z. with_names names (mentions Outside z)) e
      ∙ (ap (with_names names) (word_apart w rest h s)
      ∙ (added_apart names (mentions Outside w) (mentions Outside rest)
      ∙ ap (λ z. with_names z (mentions Outside rest)) (m.names_on ∙ ap (with_names new) nothing_mentions)));
}

-- the sign `::`
pub moves_sign : (names new : List (List ℕ)) (bank over : Nodes) (left : List ℕ) → new ≡ with_name names (codes "::") → Extends bank over
    → Moves names bank (58 ∷ 58 ∷ left) new over left
moves_sign names new bank over left e k = record {
  grows = grows_name names new (codes "::") e;
  keeps = k;
  few = let l = one_name names new (codes "::") e in omega arith;
  names_on = ap (with_names names) (sign_mentions left) ∙ ap (λ z. with_names z (mentions Outside left)) (sym e);
}

-- one reading after another
pub moves_on : (a : List (List ℕ)) (p : Nodes) (bytes : List ℕ) (b : List (List ℕ)) (q : Nodes) (middle : List ℕ) (c : List (List ℕ)) (r : Nodes)
    (left : List ℕ) → Moves a p bytes b q middle → Moves b q middle c r left → Moves a p bytes c r left
moves_on a p bytes b q middle c r left m n = record {
  grows = grows_on a b c m.grows n.grows;
  keeps = Extends-trans m.keeps n.keeps;
  few = let f = m.few in let g = n.few in omega arith;
  names_on = m.names_on ∙ n.names_on;
}

-- a line whose first word is this one
pub moves_line : (names : List (List ℕ)) (bank : Nodes) (w rest : List ℕ) (new : List (List ℕ)) (over : Nodes) → list_all (is_not 32) w ≡ true → IsAtEnd rest
    → Moves names bank rest new over [] → MovesLine names bank (w ++ rest) new over
moves_line names bank w rest new over h s m = record {
  grows = m.grows;
  keeps = m.keeps;
  few = let f = m.few in let k = length-append w rest in omega arith;
  names_on = ap (with_names names) (line_mentions w rest h s) ∙ (m.names_on ∙ ap (with_names new) nothing_mentions);
}

-- the text at a number
pub text_is : (names : List (List ℕ)) (n : ℕ) (text : List ℕ) → slice_get names n ≡ Some text → name_text names n ≡ text
text_is [] n text e = absurd cc
text_is (x ∷ xs) zero text e = cc
text_is (x ∷ xs) (suc n) text e = text_is xs n text e

-- ---- words

pub name_is : (names : List (List ℕ)) (n : ℕ) (text bytes : List ℕ) → slice_get names n ≡ Some text → text ≡ bytes → IsPlainName bytes
    → IsHeadOf names bytes (Name n)
name_is names n text bytes e f p =
    let t : name_text names n ≡ bytes = text_is names n text e ∙ f in
    record { word = name p; plain = subst IsPlainName (sym t) p; is = t }

pub eigen_is : (names : List (List ℕ)) (bytes rest : List ℕ) (n : ℕ) → bytes ≡ 35 ∷ rest → rest ≡ decimal n → n < 2 ^ 32 → IsHeadOf names bytes (Eigen n)
eigen_is names bytes rest n e f l = record { word = eigen rest e (record { number = n; small = l; is = f }); plain = l; is = sym (e ∙ ap (λ z. 35 ∷ z) f) }

pub variable_is : (names : List (List ℕ)) (bank : Nodes) (bytes rest : List ℕ) (n at : ℕ) → bytes ≡ 63 ∷ rest → rest ≡ decimal n → n < 2 ^ 64
    → ShowsTerm bank at (Var n) → IsLeafOf names bank bytes at
variable_is names bank bytes rest n at e f l s = record {
  word = variable rest e (record { number = n; small = l; is = f });
  good = record { inside = s.inside; spelled = subst (IsSpelledTerm names) (sym s.tree) l; closed = ap is_closed s.tree };
  is = ap (term_text names) s.tree ∙ sym (e ∙ ap (λ z. 63 ∷ z) f);
  bare = ap has_arguments s.tree;
}
