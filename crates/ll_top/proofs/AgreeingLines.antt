-- The lines of answers, and the first answers of a search.
use Rattle.std.proofs.Common.{◌≡◌, ◌≤◌, ◌<◌, ◌+◌, ℕ, zero, suc, refl, ap, sym, ◌∙◌, Bool, true, false, List, [], ◌∷◌, ◌++◌, length, take, drop, append_assoc}
use Rattle.std.proofs.Common.{arith}
use Rattle.std.specs.Prelude.{Option, Some, None, option_map, slice_get}
use Rattle.std.proofs.lemmas.List.{take-append-drop}
use Rattle.ll_first.specs.Upto.{upto}
use Rattle.ll_first.proofs.CallerLemmas.{in_front}
use Rattle.ll_laws.specs.declared.Event.{Event}
use Rattle.ll_laws.specs.declared.Event.TheVariants.{Answer, Reached}
use Rattle.ll_laws.specs.Answered.{Answered}
use Rattle.ll_laws.specs.Completeness.{answers_in}
use Rattle.ll_laws.specs.Dealt.{dealt}
use Rattle.ll_laws.specs.Problem.{ProblemTree, problem_events}
use Rattle.ll_laws.specs.Output.{answer_text}
use Rattle.ll_laws.specs.ProofText.{derivation_text}
use Rattle.ll_top.specs.lines.Running.{event_lines, all_lines}
use Rattle.ll_top.specs.Outcome.{whole_text}
use Rattle.ll_top.specs.Agreeing.{answers_of, lines_of}
use Rattle.ll_top.specs.MadeRuns.{last_line}
use Rattle.ll_top.proofs.calls.RunLemmas.{whole-lines}

-- ---- lines

module _ (proofs : Bool) (p : ProblemTree) where
  -- behind an answer's lines stand those of the others
  lines-split : (k : ℕ) (xs ys : List Answered) → (rest : List ℕ) × (lines_of proofs p k (xs ++ ys) ≡ lines_of proofs p k xs ++ rest)
  lines-split k [] ys = (lines_of proofs p k ys, refl)
  lines-split k (x ∷ xs) ys =
      let r = lines-split (suc k) xs ys in (
        r.0,
        ap (λ l. event_lines proofs p k (Answer x) ++ l) r.1
            ∙ sym (append_assoc (event_lines proofs p k (Answer x)) (lines_of proofs p (suc k) xs) r.0),
      )

  -- the lines of all answers begin with those of the first ones
  pub lines-front : (n : ℕ) (xs : List Answered) → (rest : List ℕ) × (lines_of proofs p 0 xs ≡ lines_of proofs p 0 (take n xs) ++ rest)
  lines-front n xs =
      let r = lines-split 0 (take n xs) (drop n xs) in (r.0, ap (lines_of proofs p 0) (sym (take-append-drop n xs)) ∙ r.1)

  -- the lines of an answer stand behind those of the answers before it
  lines-at : (k n : ℕ) (xs : List Answered) (a : Answered) → slice_get xs n ≡ Some a
      → (rest : List ℕ) × (lines_of proofs p k xs ≡ lines_of proofs p k (take n xs) ++ (event_lines proofs p (k + n) (Answer a) ++ rest))
  lines-at k n [] a e = absurd (cc (e))
  lines-at k zero (x ∷ xs) a e =
      let q : x ≡ a = cc (e) in let z : k ≡ k + 0 = omega arith in (
        lines_of proofs p (suc k) xs,
        ap (λ y. event_lines proofs p k (Answer y) ++ lines_of proofs p (suc k) xs) q
            ∙ ap (λ n. event_lines proofs p n (Answer a) ++ lines_of proofs p (suc k) xs) z,
      )
  lines-at k (suc n) (x ∷ xs) a e =
      let r = lines-at (suc k) n xs a e in let z : suc k + n ≡ k + suc n = omega arith in
      let own = event_lines proofs p k (Answer x) in let before = lines_of proofs p (suc k) (take n xs) in (
        r.0,
        ap (λ l. own ++ l) r.1
            ∙ (ap (λ m. own ++ (before ++ (event_lines proofs p m (Answer a) ++ r.0))) z
            ∙ sym (append_assoc own before (event_lines proofs p (k + suc n) (Answer a) ++ r.0))),
      )

  pub lines-place : (n : ℕ) (xs : List Answered) (a : Answered) → slice_get xs n ≡ Some a
      → (rest : List ℕ) × (lines_of proofs p 0 xs ≡ lines_of proofs p 0 (take n xs) ++ (event_lines proofs p n (Answer a) ++ rest))
  lines-place n xs a e =
      let r = lines-at 0 n xs a e in let z : 0 + n ≡ n = omega arith in
      (r.0, r.1 ∙ ap (λ m. lines_of proofs p 0 (take n xs) ++ (event_lines proofs p m (Answer a) ++ r.0)) z)

-- the lines of events are those of the answers among them
pub lines-answers : (proofs : Bool) (p : ProblemTree) (k : ℕ) (es : List Event) → all_lines proofs p k es ≡ lines_of proofs p k (answers_in es)
lines-answers false p k [] = refl
lines-answers true p k [] = refl
lines-answers false p k (Answer a ∷ es) = ap (λ l. answer_text p (suc k) a ++ l) (lines-answers false p (suc k) es)
lines-answers true p k (Answer a ∷ es) =
    ap (λ l. (answer_text p (suc k) a ++ derivation_text p.names (dealt p a)) ++ l) (lines-answers true p (suc k) es)
lines-answers false p k (Reached ∷ es) = lines-answers false p k es
lines-answers true p k (Reached ∷ es) = lines-answers true p k es

-- the text of a whole run is the lines of its answers and the last line
pub whole-answers : (proofs : Bool) (p : ProblemTree) → whole_text proofs p ≡ lines_of proofs p 0 (answers_of p) ++ last_line p
whole-answers proofs p = sym (whole-lines proofs p) ∙ ap (λ l. l ++ last_line p) (lines-answers proofs p 0 (problem_events p))

-- ---- the first answers

-- the shortest prefix with so many answers has the first ones
pub upto-answers : (es : List Event) (k : ℕ) (front : List Event) → upto es k ≡ Some front
    → (answers_in front ≡ take k (answers_in es)) × (k ≤ length (answers_in es))
upto-answers es zero front h = let same : [] ≡ front = cc in (ap answers_in (sym same), omega arith)
upto-answers [] (suc k) front h = absurd (cc)
upto-answers (Answer a ∷ es) (suc k) front h =
    let m = in_front (Answer a) (upto es k) front h in
    let i = upto-answers es k m.0 m.1 in
    (ap answers_in m.2 ∙ ap (λ l. a ∷ l) i.0, omega (arith, i.1))
upto-answers (Reached ∷ es) (suc k) front h =
    let m = in_front Reached (upto es (suc k)) front h in
    let i = upto-answers es (suc k) m.0 m.1 in
    (ap answers_in m.2 ∙ i.0, i.1)

-- no prefix in front of an event is none
none-behind : (e : Event) (o : Option (List Event)) → option_map (λ f. e ∷ f) o ≡ None → o ≡ None
none-behind e None h = refl
none-behind e (Some rest) h = absurd (cc)

-- where there is none, there are fewer answers
pub upto-few : (es : List Event) (k : ℕ) → upto es k ≡ None → length (answers_in es) < k
upto-few es zero h = absurd (cc)
upto-few [] (suc k) h = omega arith
upto-few (Answer a ∷ es) (suc k) h = let i = upto-few es k (none-behind (Answer a) (upto es k) h) in omega (arith, i)
upto-few (Reached ∷ es) (suc k) h = upto-few es (suc k) (none-behind Reached (upto es (suc k)) h)
