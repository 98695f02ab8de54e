-- A token list has one verdict: one tree, or one fault.
use Rattle.std.proofs.Common.{◌≡◌, ℕ, zero, suc, ◌+◌, ◌≤◌, ◌<◌, true, List, [], ◌∷◌, ◌++◌, length, take, drop, refl, sym, ◌∙◌, ap, subst, append_assoc}
use Rattle.std.proofs.Common.{append-nil, arith, length-append, inl, inr}
use Rattle.std.proofs.lemmas.Bool.{cases_lt}
use Rattle.std.proofs.lemmas.List.{take_all, take-append-drop, length-take}
use Rattle.std.proofs.Math.Seq.{take-append-add}
use Rattle.ll_lexer.specs.declared.Place.{Place}
use Rattle.ll_lexer.specs.declared.Fault.{Fault}
use Rattle.ll_parser.specs.Tokens.{Tok, name, variable, any, number, true_word, erase_word, forall_word, exists_word, module_word, local_word, linear_word}
use Rattle.ll_parser.specs.Tokens.{dot, comma, ampersand, semicolon, paren_left, paren_right, brace_left, brace_right, backslash, cons_sign, colon_dash}
use Rattle.ll_parser.specs.Tokens.{left_arrow, right_arrow, lolli, load_arrow, is_sign, most_sign, less_sign, plus_sign, minus_sign, star_sign, tok_place}
use Rattle.ll_parser.specs.Text.{Language}
use Rattle.ll_parser.specs.Reads.{Derives, Begins, open_after, Within, Reads, IsTokenAt, opens, HasFault, bad_token, ends_early, too_many_open}
use Rattle.ll_parser.proofs.verdicts.Verdict.{open-snoc}

take-of-take : (n m : ℕ) (xs : List Tok) → n ≤ m → take n (take m xs) ≡ take n xs
take-of-take zero m xs h = refl
take-of-take (suc n) zero xs h = absurd (omega arith)
take-of-take (suc n) (suc m) [] h = refl
take-of-take (suc n) (suc m) (x ∷ xs) h = ap (λ z. x ∷ z) (take-of-take n m xs (omega arith))

opens-more : (t : Tok) (n : ℕ) → opens t ≡ true → open_after n (t ∷ []) ≡ suc n
opens-more (paren_left at) n h = refl
opens-more (brace_left at) n h = refl
opens-more (name m) n h = absurd cc
opens-more (variable m) n h = absurd cc
opens-more (any at) n h = absurd cc
opens-more (number z at) n h = absurd cc
opens-more (true_word at) n h = absurd cc
opens-more (erase_word at) n h = absurd cc
opens-more (forall_word at) n h = absurd cc
opens-more (exists_word at) n h = absurd cc
opens-more (module_word at) n h = absurd cc
opens-more (local_word at) n h = absurd cc
opens-more (linear_word at) n h = absurd cc
opens-more (dot at) n h = absurd cc
opens-more (comma at) n h = absurd cc
opens-more (ampersand at) n h = absurd cc
opens-more (semicolon at) n h = absurd cc
opens-more (paren_right at) n h = absurd cc
opens-more (brace_right at) n h = absurd cc
opens-more (backslash at) n h = absurd cc
opens-more (cons_sign at) n h = absurd cc
opens-more (colon_dash at) n h = absurd cc
opens-more (left_arrow at) n h = absurd cc
opens-more (right_arrow at) n h = absurd cc
opens-more (is_sign at) n h = absurd cc
opens-more (most_sign at) n h = absurd cc
opens-more (less_sign at) n h = absurd cc
opens-more (plus_sign at) n h = absurd cc
opens-more (minus_sign at) n h = absurd cc
opens-more (star_sign at) n h = absurd cc
opens-more (lolli at) n h = absurd cc
opens-more (load_arrow at) n h = absurd cc

within-front : (limit : ℕ) (ts : List Tok) (n m : ℕ) → n ≤ m → Within limit (take m ts) → Within limit (take n ts)
within-front limit ts n m h w k =
    elim (cases_lt n k) [
      | inl g ↦ (let s : length (take n ts) ≤ k = omega (arith, length-take n ts) in
          let e : take k (take n ts) ≡ take n (take m ts) = take_all k (take n ts) s ∙ sym (take-of-take n m ts h) in
          subst (λ z. open_after 0 z ≤ limit) (sym e) (w n))
      | inr g ↦ (let e : take k (take n ts) ≡ take k (take m ts) = take-of-take k n ts g ∙ sym (take-of-take k m ts (omega arith)) in
          subst (λ z. open_after 0 z ≤ limit) (sym e) (w k))
    ]

whole-within : (limit : ℕ) (ts : List Tok) (i : ℕ) → Within limit ts → Within limit (take (i + 1) ts)
whole-within limit ts i w = within-front limit ts (i + 1) (length ts + (i + 1)) (omega arith)
    (subst (Within limit) (sym (take_all (length ts + (i + 1)) ts (omega arith))) w)

-- no two lists that end in a token are equal where the tokens differ
same-last : (xs ys : List Tok) (t u : Tok) → xs ≡ ys → xs ++ t ∷ [] ≡ ys ++ u ∷ [] → t ≡ u
same-last xs ys t u p e = by-front xs (e ∙ ap (λ z. z ++ u ∷ []) (sym p))
  where
    by-front : (zs : List Tok) → zs ++ t ∷ [] ≡ zs ++ u ∷ [] → t ≡ u
    by-front [] e = cc
    by-front (z ∷ zs) e = by-front zs cc

module _ (l : Language) (limit : ℕ) (ts : List Tok) where
  begins-front : (n m : ℕ) → n ≤ m → Begins l (take m ts) → Begins l (take n ts)
  begins-front n m h (more, p, e) =
      let f : take m ts ≡ take n ts ++ drop n (take m ts) = sym (take-append-drop n (take m ts)) ∙ ap (λ z. z ++ drop n (take m ts)) (take-of-take n m ts h) in
      (drop n (take m ts) ++ more, p, e ∙ ap (λ z. z ++ more) f ∙ append_assoc (take n ts) (drop n (take m ts)) more)

  whole-front : (i : ℕ) → Begins l ts → Begins l (take (i + 1) ts)
  whole-front i b = begins-front (i + 1) (length ts + (i + 1)) (omega arith) (subst (Begins l) (sym (take_all (length ts + (i + 1)) ts (omega arith))) b)

  stands-within : (i : ℕ) (t : Tok) (s : IsTokenAt l limit ts i t) → length (take i ts) ≡ i
  stands-within i t s =
      let e : length ts ≡ length (take i ts) + (1 + length s.after) = ap length s.split ∙ length-append (take i ts) (t ∷ s.after) ∙ omega arith in
      omega (arith, length-take i ts)

  stands-take : (i : ℕ) (t : Tok) (s : IsTokenAt l limit ts i t) → take (i + 1) ts ≡ take i ts ++ t ∷ []
  stands-take i t s =
      let n : i + 1 ≡ length (take i ts) + 1 = ap (λ z. z + 1) (sym (stands-within i t s)) in
      ap (take (i + 1)) s.split ∙ ap (λ z. take z (take i ts ++ t ∷ s.after)) n ∙ take-append-add (take i ts) (t ∷ s.after) 1

  -- what cannot go on through token i
  abbrev Broken : ℕ → Type 0
  Broken i = Begins l (take (i + 1) ts) → Within limit (take (i + 1) ts) → ⊥

  bad-breaks : (i : ℕ) (t : Tok) → IsTokenAt l limit ts i t → (Begins l (take i ts ++ t ∷ []) → ⊥) → Broken i
  bad-breaks i t s n b w = n (subst (Begins l) (stands-take i t s) b)

  many-breaks : (i : ℕ) (t : Tok) → IsTokenAt l limit ts i t → opens t ≡ true → open_after 0 (take i ts) ≡ limit → Broken i
  many-breaks i t s o e c w =
      let le : open_after 0 (take (i + 1) (take (i + 1) ts)) ≤ limit = w (i + 1) in
      let f : take (i + 1) (take (i + 1) ts) ≡ take i ts ++ t ∷ [] = take-of-take (i + 1) (i + 1) ts (omega arith) ∙ stands-take i t s in
      let g : open_after 0 (take (i + 1) (take (i + 1) ts)) ≡ suc limit =
      ap (open_after 0) f ∙ open-snoc (take i ts) t 0 ∙ opens-more t (open_after 0 (take i ts)) o ∙ ap suc e in
      omega arith

  before : (i j : ℕ) (t : Tok) → Broken i → IsTokenAt l limit ts j t → i < j → ⊥
  before i j t b s h = b (begins-front (i + 1) j (omega arith) s.begins) (within-front limit ts (i + 1) j (omega arith) s.within)

  same-number : (i j : ℕ) (t u : Tok) → Broken i → IsTokenAt l limit ts i t → Broken j → IsTokenAt l limit ts j u → i ≡ j
  same-number i j t u b s c r =
      elim (cases_lt i j) [
        | inl g ↦ absurd (before i j u b r g)
        | inr g ↦ elim (cases_lt j i) [ inl h ↦ absurd (before j i t c s h) | inr h ↦ omega arith ]
      ]

  -- two places that cannot be passed are one, with one token
  same-token : (i j : ℕ) (t u : Tok) → Broken i → IsTokenAt l limit ts i t → Broken j → IsTokenAt l limit ts j u → t ≡ u
  same-token i j t u b s c r =
      let p : i ≡ j = same-number i j t u b s c r in
      same-last (take i ts) (take j ts) t u (ap (λ z. take z ts) p) (sym (stands-take i t s) ∙ ap (λ z. take (z + 1) ts) p ∙ stands-take j u r)

  -- a bad token is no bracket past the limit
  clash : (i j : ℕ) (t u : Tok) → IsTokenAt l limit ts i t → (Begins l (take i ts ++ t ∷ []) → ⊥) → IsTokenAt l limit ts j u → Begins l (take j ts ++ u ∷ [])
      → opens u ≡ true → open_after 0 (take j ts) ≡ limit → ⊥
  clash i j t u s n r b o e =
      let p : i ≡ j = same-number i j t u (bad-breaks i t s n) s (many-breaks j u r o e) r in
      n (subst (Begins l) (sym (stands-take j u r) ∙ ap (λ z. take (z + 1) ts) (sym p) ∙ stands-take i t s) b)

  derives-begins : (r : l.Tree) → Derives l ts r → Begins l ts
  derives-begins r (p, e, f) = ([], p, e ∙ sym (append-nil ts))

  -- a list with a tree has no fault
  pub no-fault : (end : Place) (r : l.Tree) (f : Fault) → Reads l limit ts r → HasFault l limit ts end f → ⊥
  no-fault end r f (d, w) (bad_token i t s n) = bad-breaks i t s n (whole-front i (derives-begins r d)) (whole-within limit ts i w)
  no-fault end r f (d, w) (too_many_open i t s b o e) = many-breaks i t s o e (whole-front i (derives-begins r d)) (whole-within limit ts i w)
  no-fault end r f (d, w) (ends_early b x n) = n r d

  -- and no list has two faults
  pub one-fault : (end : Place) (f g : Fault) → HasFault l limit ts end f → HasFault l limit ts end g → f ≡ g
  one-fault end f g (bad_token i t s n) (bad_token j u r m) =
      ap (λ z. record { at = tok_place z; kind = 4 }) (same-token i j t u (bad-breaks i t s n) s (bad-breaks j u r m) r)
  one-fault end f g (too_many_open i t s b o e) (too_many_open j u r c p q) =
      ap (λ z. record { at = tok_place z; kind = 6 }) (same-token i j t u (many-breaks i t s o e) s (many-breaks j u r p q) r)
  one-fault end f g (ends_early b w n) (ends_early c x m) = refl
  one-fault end f g (bad_token i t s n) (ends_early b w m) = absurd (bad-breaks i t s n (whole-front i b) (whole-within limit ts i w))
  one-fault end f g (ends_early b w m) (bad_token i t s n) = absurd (bad-breaks i t s n (whole-front i b) (whole-within limit ts i w))
  one-fault end f g (too_many_open i t s c o e) (ends_early b w m) = absurd (many-breaks i t s o e (whole-front i b) (whole-within limit ts i w))
  one-fault end f g (ends_early b w m) (too_many_open i t s c o e) = absurd (many-breaks i t s o e (whole-front i b) (whole-within limit ts i w))
  one-fault end f g (bad_token i t s n) (too_many_open j u r b o e) = absurd (clash i j t u s n r b o e)
  one-fault end f g (too_many_open j u r b o e) (bad_token i t s n) = absurd (clash i j t u s n r b o e)

-- the tree is unique where no two parse trees have the same tokens: the grammar is unambiguous
pub one-tree : (l : Language) (unique : (p q : l.Parse) → l.tokens p ≡ l.tokens q → p ≡ q) (ts : List Tok) (r s : l.Tree) → Derives l ts r → Derives l ts s
    → r ≡ s
one-tree l unique ts r s (p, e, f) (q, g, h) = sym f ∙ ap l.tree (unique p q (e ∙ sym g)) ∙ h
