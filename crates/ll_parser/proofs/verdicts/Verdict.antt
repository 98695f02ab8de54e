-- What reading answers: each token is taken, or is the first fault; and at the end there is a tree, or the text ends early.
use Rattle.std.proofs.Common.{◌≡◌, ℕ, zero, suc, ◌+◌, ◌-◌, ◌≤◌, true, List, [], ◌∷◌, ◌++◌, length, take, slice_get, Option, Some, None, option_and_then, refl}
use Rattle.std.proofs.Common.{sym, ◌∙◌, ap, subst, arith, length-append, inl, inr}
use Rattle.std.proofs.lemmas.Bool.{cases_lt}
use Rattle.std.proofs.lemmas.List.{take-append-le, take_all}
use Rattle.ll_lexer.specs.declared.Place.{Place}
use Rattle.ll_parser.specs.Tokens.{Tok, paren_left, paren_right, brace_left, brace_right, tok_place}
use Rattle.ll_parser.specs.Text.{Language}
use Rattle.ll_parser.specs.Reads.{open_after, Within, Reads, IsTokenAt, opens, HasFault, bad_token, ends_early, too_many_open}
use Rattle.ll_parser.specs.FlatText.{run_by, Taken}
use Rattle.ll_parser.proofs.machines.Decides.{Decides, run-snoc, begins, bad, derives, early}

pub open-snoc : (ts : List Tok) (t : Tok) (n : ℕ) → open_after n (ts ++ t ∷ []) ≡ open_after (open_after n ts) (t ∷ [])
open-snoc [] t n = refl
open-snoc (paren_left at ∷ ts) t n = open-snoc ts t (suc n)
open-snoc (brace_left at ∷ ts) t n = open-snoc ts t (suc n)
open-snoc (paren_right at ∷ ts) t n = open-snoc ts t (n - 1)
open-snoc (brace_right at ∷ ts) t n = open-snoc ts t (n - 1)
open-snoc (_ ∷ ts) t n = open-snoc ts t n

within-snoc : (limit : ℕ) (ts : List Tok) (t : Tok) → Within limit ts → open_after 0 (ts ++ t ∷ []) ≤ limit → Within limit (ts ++ t ∷ [])
within-snoc limit ts t h last n =
    elim (cases_lt (length ts) n) [
      | inl g ↦ (let l : length (ts ++ t ∷ []) ≤ n = omega (arith, length-append ts (t ∷ [])) in rw (take_all n (ts ++ t ∷ []) l) last)
      | inr g ↦ rw (take-append-le n ts (t ∷ []) g) (h n)
    ]

within-none : (limit : ℕ) → Within limit []
within-none limit zero = omega arith
within-none limit (suc n) = omega arith

-- token number i, where there is one, divides the tokens
pub divides : (ts : List Tok) (i : ℕ) (t : Tok) → slice_get ts i ≡ Some t
    → (after : List Tok) × (ts ≡ take i ts ++ t ∷ after) × (take (i + 1) ts ≡ take i ts ++ t ∷ [])
divides [] i t e = absurd cc
divides (x ∷ ts) zero t e = let h : x ≡ t = cc in (ts, ap (λ z. z ∷ ts) h, ap (λ z. z ∷ []) h)
divides (x ∷ ts) (suc i) t e =
    let d = divides ts i t e in
    let n : suc i + 1 ≡ suc (i + 1) = omega arith in
    (d.0, ap (λ z. x ∷ z) d.1, rw n (ap (λ z. x ∷ z) d.2))

module _ (l : Language) (F : Type 0) (begin : F) (next : F → Tok → Option F) (end : F
    → Option l.Tree) (d : Decides l F begin next end) (limit : ℕ) (ts : List Tok) where
  -- before the first token
  pub taken-none : Taken begin next limit ts 0 begin 0
  taken-none = record { run = refl; depth_is = refl; below = omega arith; within = within-none limit }

  module _ (i : ℕ) (t : Tok) (here : slice_get ts i ≡ Some t) (x : F) (depth : ℕ) (k : Taken begin next limit ts i x depth) where
    stands : IsTokenAt l limit ts i t
    stands = let c = divides ts i t here in record { after = c.0; split = c.1; within = k.within; begins = begins l F begin next end d (take i ts) x k.run }

    run-on : (o : Option F) → next x t ≡ o → run_by next begin (take i ts ++ t ∷ []) ≡ o
    run-on o e = run-snoc next (take i ts) t begin ∙ ap (option_and_then (λ n. next n t)) k.run ∙ e

    -- a token that the machine does not take is the first bad one
    pub is-bad : (e : Place) → next x t ≡ None → HasFault l limit ts e (record { at = tok_place t; kind = 4 })
    is-bad e n = bad_token i t stands (bad l F begin next end d (take i ts) t x k.run n)

    -- a bracket past the limit
    pub is-too-many : (e : Place) (y : F) → next x t ≡ Some y → opens t ≡ true → depth ≡ limit → HasFault l limit ts e (record { at = tok_place t; kind = 6 })
    is-too-many e y n o m = too_many_open i t stands (begins l F begin next end d (take i ts ++ t ∷ []) y (run-on (Some y) n)) o (sym k.depth_is ∙ m)

    -- any other token is taken
    pub taken-next : (y : F) (deeper : ℕ) → next x t ≡ Some y → deeper ≡ open_after depth (t ∷ []) → deeper ≤ limit → Taken begin next limit ts (i + 1) y deeper
    taken-next y deeper n e le =
        let c = divides ts i t here in
        let o : deeper ≡ open_after 0 (take i ts ++ t ∷ []) = e ∙ ap (λ z. open_after z (t ∷ [])) k.depth_is ∙ sym (open-snoc (take i ts) t 0) in
        record {
          run = ap (run_by next begin) c.2 ∙ run-on (Some y) n;
          depth_is = o ∙ ap (open_after 0) (sym c.2);
          below = le;
          within = subst (Within limit) (sym c.2) (within-snoc limit (take i ts) t k.within (subst (λ z. z ≤ limit) o le));
        }

  module _ (i : ℕ) (all : length ts ≤ i) (x : F) (depth : ℕ) (k : Taken begin next limit ts i x depth) where
    all-run : run_by next begin ts ≡ Some x
    all-run = ap (run_by next begin) (sym (take_all i ts all)) ∙ k.run

    all-within : Within limit ts
    all-within = subst (Within limit) (take_all i ts all) k.within

    -- all tokens are a text with this tree
    pub reads-all : (r : l.Tree) → end x ≡ Some r → Reads l limit ts r
    reads-all r e = (derives l F begin next end d ts x r all-run e, all-within)

    -- the text ends early
    pub is-early : (e : Place) → end x ≡ None → HasFault l limit ts e (record { at = e; kind = 5 })
    is-early e n = ends_early (begins l F begin next end d ts x all-run) all-within (early l F begin next end d ts x all-run n)
