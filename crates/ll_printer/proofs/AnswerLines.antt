-- The lines of an answer's variables, one after the other.
use Rattle.std.proofs.Common.{◌≡◌, ℕ, zero, suc, ◌+◌, ◌<◌, ◌≤◌, List, [], ◌∷◌, ◌++◌, length, get_or, take, drop, refl, ap, sym, ◌∙◌, arith, append_assoc}
use Rattle.std.proofs.Common.{codes, Option, Some, None}
use Rattle.std.proofs.lemmas.List.{append-nil}
use Rattle.ll_bank.specs.Term.{Term}
use Rattle.ll_laws.specs.Output.{line, name_text, term_text, binding_lines, bindings_text, is_named}
use Rattle.ll_laws.specs.Problem.{ProblemTree}
use Rattle.ll_laws.specs.Answered.{Answered}
use Rattle.std.specs.List.{list_any}
use Rattle.std.specs.Prelude.{true, false, if◌then◌else◌}
use Rattle.ll_printer.specs.Pieces.{BeginsText}
use Rattle.ll_printer.specs.Answers.{one_line}

-- one variable more
pub lines_more : (names : List (List ℕ)) (asked : List (Option ℕ)) (ts : List Term) (i : ℕ) (d : Option ℕ) (e : Term) → i < length asked
    → length asked ≤ length ts
    → binding_lines names (take (suc i) asked) ts ≡ binding_lines names (take i asked) ts ++ one_line names (get_or asked i d) (get_or ts i e)
lines_more names [] ts i d e l m = absurd (omega arith)
lines_more names (a ∷ asked) [] i d e l m = absurd (omega arith)
lines_more names (Some n ∷ asked) (t ∷ ts) zero d e l m = append-nil (line (name_text names n ++ codes " = " ++ term_text names t))
lines_more names (None ∷ asked) (t ∷ ts) zero d e l m = refl
lines_more names (Some n ∷ asked) (t ∷ ts) (suc i) d e l m =
    ap (λ xs. line (name_text names n ++ codes " = " ++ term_text names t) ++ xs) (lines_more names asked ts i d e (omega arith) (omega arith))
    ∙ sym (append_assoc (line (name_text names n ++ codes " = " ++ term_text names t)) (binding_lines names (take i asked) ts)
    (one_line names (get_or asked i d) (get_or ts i e)))
lines_more names (None ∷ asked) (t ∷ ts) (suc i) d e l m = lines_more names asked ts i d e (omega arith) (omega arith)

-- the first variables' lines come first
pub lines_split : (names : List (List ℕ)) (asked : List (Option ℕ)) (ts : List Term) (i : ℕ) → length asked ≤ length ts
    → binding_lines names asked ts ≡ binding_lines names (take i asked) ts ++ binding_lines names (drop i asked) (drop i ts)
lines_split names asked ts zero m = refl
lines_split names [] ts (suc i) m = refl
lines_split names (a ∷ asked) [] (suc i) m = absurd (omega arith)
lines_split names (Some n ∷ asked) (t ∷ ts) (suc i) m =
    ap (λ xs. line (name_text names n ++ codes " = " ++ term_text names t) ++ xs) (lines_split names asked ts i (omega arith))
    ∙ sym (append_assoc (line (name_text names n ++ codes " = " ++ term_text names t)) (binding_lines names (take i asked) ts)
    (binding_lines names (drop i asked) (drop i ts)))
lines_split names (None ∷ asked) (t ∷ ts) (suc i) m = lines_split names asked ts i (omega arith)

-- a refusal in the middle of a text
pub begins_between : (before middle after text o p q : List ℕ) → p ≡ o ++ before → text ≡ before ++ (middle ++ after) → BeginsText middle p q
    → BeginsText text o q
begins_between before middle after text o p q e t b = record {
  written = before ++ b.written;
  rest = b.rest ++ after;
  is = b.is ∙ (ap (λ xs. xs ++ b.written) e ∙ append_assoc o before b.written);
  begun =
      t ∙ (ap (λ m. before ++ (m ++ after)) b.begun ∙ (ap (λ xs. before ++ xs) (append_assoc b.written b.rest after)
      ∙ sym (append_assoc before b.written (b.rest ++ after))));
}

-- and in the lines of the variables
pub lines_refused : (names : List (List ℕ)) (asked : List (Option ℕ)) (ts : List Term) (i : ℕ) (name d : Option ℕ) (t e : Term) (o p q : List ℕ)
    → i < length asked → length asked ≤ length ts
    → get_or asked i d ≡ name → get_or ts i e ≡ t → p ≡ o ++ binding_lines names (take i asked) ts → BeginsText (one_line names name t) p q
    → BeginsText (binding_lines names asked ts) o q
lines_refused names asked ts i name d t e o p q l m a x is b =
    begins_between (binding_lines names (take i asked) ts) (one_line names name t) (binding_lines names (drop (suc i) asked) (drop (suc i) ts))
    (binding_lines names asked ts) o p q is
    (lines_split names asked ts (suc i) m ∙ (ap (λ xs. xs ++ binding_lines names (drop (suc i) asked) (drop (suc i) ts)) (lines_more names asked ts i d e l m
    ∙ (λ j. binding_lines names (take i asked) ts ++ one_line names (a j) (x j)))
    ∙ append_assoc (binding_lines names (take i asked) ts) (one_line names name t) (binding_lines names (drop (suc i) asked) (drop (suc i) ts)))) b

-- the lines so far, and one more
pub lines_on : (names : List (List ℕ)) (asked : List (Option ℕ)) (ts : List Term) (i : ℕ) (name d : Option ℕ) (t e : Term) (o p q : List ℕ) → i < length asked
    → length asked ≤ length ts
    → get_or asked i d ≡ name → get_or ts i e ≡ t → p ≡ o ++ binding_lines names (take i asked) ts → q ≡ p ++ one_line names name t
    → q ≡ o ++ binding_lines names (take (i + 1) asked) ts
lines_on names asked ts i name d t e o p q l m a x is f =
    f ∙ (ap (λ xs. xs ++ one_line names name t) is
    ∙ (append_assoc o (binding_lines names (take i asked) ts) (one_line names name t)
    ∙ ap (λ xs. o ++ xs) (sym (ap (λ j. binding_lines names (take j asked) ts) (let z : i + 1 ≡ suc i = omega arith in z)
    ∙ (lines_more names asked ts i d e l m ∙ (λ j. binding_lines names (take i asked) ts ++ one_line names (a j) (x j)))))))

-- a text that begins with another that was appended whole
pub begins_after : (before after text o p q : List ℕ) → p ≡ o ++ before → text ≡ before ++ after → BeginsText after p q → BeginsText text o q
begins_after before after text o p q e t b = begins_between before after [] text o p q e (t ∙ ap (λ xs. before ++ xs) (sym (append-nil after))) b

-- and one that a part of its beginning was appended of
pub begins_before : (before after text o q : List ℕ) → text ≡ before ++ after → BeginsText before o q → BeginsText text o q
begins_before before after text o q t b = record {
  written = b.written;
  rest = b.rest ++ after;
  is = b.is;
  begun = t ∙ (ap (λ xs. xs ++ after) b.begun ∙ append_assoc b.written b.rest after);
}

-- what stands behind the first line
pub lines_named : (p : ProblemTree) (a : Answered) → list_any is_named p.asked ≡ true → binding_lines p.names p.asked a.terms ≡ bindings_text p a
lines_named p a h = sym (ap (λ b. if b then binding_lines p.names p.asked a.terms else line (codes "yes")) h)

pub lines_unnamed : (p : ProblemTree) (a : Answered) → list_any is_named p.asked ≡ false → line (codes "yes") ≡ bindings_text p a
lines_unnamed p a h = sym (ap (λ b. if b then binding_lines p.names p.asked a.terms else line (codes "yes")) h)
