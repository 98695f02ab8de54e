-- Reading as a function of tokens: its answer is the tree that they are read as, or their first fault. So each token list has one.
use Rattle.std.proofs.Common.{◌≡◌, ℕ, suc, ◌+◌, ◌≤◌, Bool, true, false, cond, eqb, List, [], ◌∷◌, ◌++◌, length, slice_get, Option, Some, None, refl, sym}
use Rattle.std.proofs.Common.{subst, arith, append_assoc, append-nil, length-append, ◌⊎◌, inl, inr}
use Rattle.std.proofs.lemmas.Bool.Decides.{eqb_tells}
use Rattle.ll_lexer.specs.declared.Place.{Place}
use Rattle.ll_lexer.specs.declared.Fault.{Fault}
use Rattle.ll_parser.specs.Tokens.{Tok, paren_left, paren_right, brace_left, brace_right, tok_place}
use Rattle.ll_parser.specs.Text.{Language}
use Rattle.ll_parser.specs.Reads.{open_after, Reads, opens, HasFault}
use Rattle.ll_parser.specs.FlatText.{Taken}
use Rattle.ll_parser.proofs.machines.Decides.{Decides}
use Rattle.ll_parser.proofs.verdicts.Verdict.{taken-none, is-bad, is-too-many, taken-next, reads-all, is-early}

-- a tree, or a fault with its place and kind
pub data Answer (T : Type 0) : Type 0 where
  tree : T → Answer T
  fault : Place → ℕ → Answer T

abbrev at_end : {T : Type 0} → Place → Option T → Answer T
at_end end (Some r) = tree r
at_end end None = fault end 5

-- a bracket where as many as the limit are open, or what the rest answers
abbrev within_limit : {T : Type 0} → Bool → Place → Answer T → Answer T
within_limit true at rest = fault at 6
within_limit false at rest = rest

-- a token opens a bracket while as many as the limit are open
abbrev passes : ℕ → ℕ → Tok → Bool
passes limit depth t = cond (opens t) (eqb depth limit) false

abbrev after_step : {S T : Type 0} → ℕ → ℕ → Tok → (S → Answer T) → Option S → Answer T
after_step limit depth t rest None = fault (tok_place t) 4
after_step limit depth t rest (Some y) = within_limit (passes limit depth t) (tok_place t) (rest y)

-- the answer, where the machine stands at x and so many brackets are open
abbrev pub answer_from : {S T : Type 0} → (S → Tok → Option S) → (S → Option T) → ℕ → Place → S → ℕ → List Tok → Answer T
answer_from step final limit end x depth [] = at_end end (final x)
answer_from step final limit end x depth (t ∷ ts) = after_step limit depth t (λ y. answer_from step final limit end y (open_after depth (t ∷ [])) ts) (step x t)

-- a bracket that opens makes one more, and no other token does
deeper : (t : Tok) (depth limit : ℕ) → depth ≤ limit → (opens t ≡ true → depth ≡ limit → ⊥) → open_after depth (t ∷ []) ≤ limit
deeper (paren_left at) depth limit le h = below
  where
    below : suc depth ≤ limit
    below = elim (eqb_tells depth limit) [ inl e ↦ absurd (h refl e.1) | inr e ↦ grind arith ]
deeper (brace_left at) depth limit le h = below
  where
    below : suc depth ≤ limit
    below = elim (eqb_tells depth limit) [ inl e ↦ absurd (h refl e.1) | inr e ↦ grind arith ]
deeper (paren_right at) depth limit le h = omega arith
deeper (brace_right at) depth limit le h = omega arith
deeper _ depth limit le h = le

-- what the test says
passes_tells : (limit depth : ℕ) (t : Tok) → ((passes limit depth t ≡ true) × (opens t ≡ true) × (depth ≡ limit))
    ⊎ ((passes limit depth t ≡ false) × (opens t ≡ true → depth ≡ limit → ⊥))
passes_tells limit depth t = by_test (opens t)
  where
    by_test : (b : Bool) → ((cond b (eqb depth limit) false ≡ true) × (b ≡ true) × (depth ≡ limit))
        ⊎ ((cond b (eqb depth limit) false ≡ false) × (b ≡ true → depth ≡ limit → ⊥))
    by_test true = elim (eqb_tells depth limit) [ inl e ↦ inl (e.0, refl, e.1) | inr e ↦ inr (e.0, λ o m. e.1 m) ]
    by_test false = inr (refl, λ o m. absurd cc)

get-after : (front : List Tok) (t : Tok) (us : List Tok) → slice_get (front ++ t ∷ us) (length front) ≡ Some t
get-after [] t us = refl
get-after (x ∷ front) t us = get-after front t us

module _ (l : Language) (F : Type 0) (begin : F) (next : F → Tok → Option F) (end : F
    → Option l.Tree) (d : Decides l F begin next end) (limit : ℕ) (at : Place) where
  -- the answer is right
  abbrev pub IsAnswer : List Tok → Answer l.Tree → Type 0
  IsAnswer ts (tree r) = Reads l limit ts r
  IsAnswer ts (fault place kind) = HasFault l limit ts at (record { at = place; kind = kind })

  abbrev pub answer_to : List Tok → Answer l.Tree
  answer_to ts = answer_from next end limit at begin 0 ts

  ended-right : (ts : List Tok) (x : F) (depth : ℕ) → Taken begin next limit ts (length ts) x depth → (o : Option l.Tree) → end x ≡ o
      → IsAnswer ts (at_end at o)
  ended-right ts x depth k (Some r) e = reads-all l F begin next end d limit ts (length ts) (omega arith) x depth k r e
  ended-right ts x depth k None e = is-early l F begin next end d limit ts (length ts) (omega arith) x depth k at e

  -- one token, where the rest is answered right
  turn-right : (ts : List Tok) (i : ℕ) (t : Tok) (x : F) (depth : ℕ) (rest : F → Answer l.Tree) → slice_get ts i ≡ Some t → Taken begin next limit ts i x depth
      → ((y : F) → Taken begin next limit ts (i + 1) y (open_after depth (t ∷ [])) → IsAnswer ts (rest y)) → (o : Option F) → next x t ≡ o
      → IsAnswer ts (after_step limit depth t rest o)
  turn-right ts i t x depth rest here k ih None e = is-bad l F begin next end d limit ts i t here x depth k at e
  turn-right ts i t x depth rest here k ih (Some y) e =
      elim (passes_tells limit depth t) [
        | inl p ↦ rw p.0 (is-too-many l F begin next end d limit ts i t here x depth k at y e p.1 p.2)
        | inr p ↦ rw p.0 (ih y (taken-next l F begin next end d limit ts i t here x depth k y (open_after depth (t ∷ [])) e refl
            (deeper t depth limit k.below p.1)))
      ]

  -- the tokens taken so far with one more
  moved-on : (front : List Tok) (t : Tok) (us : List Tok) (y : F) (depth : ℕ) (a : Answer l.Tree)
      → (Taken begin next limit ((front ++ t ∷ []) ++ us) (length (front ++ t ∷ [])) y depth → IsAnswer ((front ++ t ∷ []) ++ us) a)
      → Taken begin next limit (front ++ t ∷ us) (length front + 1) y depth → IsAnswer (front ++ t ∷ us) a
  moved-on front t us y depth a ih k =
      let moved : front ++ t ∷ us ≡ (front ++ t ∷ []) ++ us = sym (append_assoc front (t ∷ []) us) in
      let longer : length front + 1 ≡ length (front ++ t ∷ []) = sym (length-append front (t ∷ [])) in
      subst (λ z. IsAnswer z a) (sym moved) (ih (subst (λ z. Taken begin next limit z (length (front ++ t ∷ [])) y depth) moved
      (subst (λ n. Taken begin next limit (front ++ t ∷ us) n y depth) longer k)))

  rest-right : (us front : List Tok) (x : F) (depth : ℕ) → Taken begin next limit (front ++ us) (length front) x depth
      → IsAnswer (front ++ us) (answer_from next end limit at x depth us)
  rest-right [] front x depth k = rw append-nil (ended-right front x depth (rw append-nil at k) (end x) refl)
  rest-right (t ∷ us) front x depth k =
      turn-right (front ++ t ∷ us) (length front) t x depth (λ y. answer_from next end limit at y (open_after depth (t ∷ [])) us) (get-after front t us) k
      (λ y. moved-on front t us y (open_after depth (t ∷ [])) (answer_from next end limit at y (open_after depth (t ∷ [])) us)
      (rest-right us (front ++ t ∷ []) y (open_after depth (t ∷ []))))
      (next x t) refl

  pub answer-right : (ts : List Tok) → IsAnswer ts (answer_to ts)
  answer-right ts = rest-right ts [] begin 0 (taken-none l F begin next end d limit ts)

  -- each token list is read as a tree, or has a fault
  pub has-answer : (ts : List Tok) → ((r : l.Tree) × Reads l limit ts r) ⊎ ((f : Fault) × HasFault l limit ts at f)
  has-answer ts = by_answer (answer_to ts) (answer-right ts)
    where
      by_answer : (a : Answer l.Tree) → IsAnswer ts a → ((r : l.Tree) × Reads l limit ts r) ⊎ ((f : Fault) × HasFault l limit ts at f)
      by_answer (tree r) h = inl (r, h)
      by_answer (fault place kind) h = inr (record { at = place; kind = kind }, h)
