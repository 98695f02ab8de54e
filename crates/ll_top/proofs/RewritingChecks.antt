-- Two texts of one derivation are judged alike.
use Rattle.std.proofs.Common.{◌≡◌, ◌⊎◌, ◌≤◌, ◌<◌, ◌^◌, ℕ, zero, suc, List, [], ◌∷◌, ◌++◌, length, map, ap, sym, subst, ◌∙◌, refl}
use Rattle.std.proofs.Common.{Bool, true, false, inl, inr, arith, codes}
use Rattle.std.specs.Prelude.{Option, None, Some, is_some, unwrap_or, option_map, IsSomeAnd, ◌==◌, if◌then◌else◌}
use Rattle.std.specs.List.{flat_map, IsDistinct, list_any}
use Rattle.std.specs.Str.{bytes_eq}
use Rattle.std.proofs.lemmas.List.{append_assoc, append-nil, length-map, length-append}
use Rattle.std.proofs.lemmas.List.Concat.{flat_map-append}
use Rattle.ll_bank.specs.Names.{with_name, with_names}
use Rattle.ll_edge.specs.Texts.{Texts, text_of}
use Rattle.ll_laws.specs.Laws.{FaultlessShows, ShownIsFaultless}
use Rattle.ll_laws.specs.Line.{DerivationLines, IsWhole, trees_of}
use Rattle.ll_laws.specs.Problem.{ProblemTree}
use Rattle.ll_laws.specs.ProofText.{proof_text}
use Rattle.ll_laws.specs.Shows.{Tree, nodes}
use Rattle.ll_laws.specs.Valid.{IsValid}
use Rattle.ll_laws.specs.Verdict.{DerivationShows, first_fault}
use Rattle.ll_lexer.specs.declared.Fault.{Fault}
use Rattle.ll_parser.specs.Text.{programs, queries}
use Rattle.ll_parser.proofs.CallerLemmas.{whole-read}
use Rattle.ll_polarity.proofs.CallerLemmas.{asked_problem_valid}
use Rattle.ll_prooftext.specs.Admitted.{IsSpelled}
use Rattle.ll_prooftext.specs.Mentions.{text_names, line_names, mentions}
use Rattle.ll_prooftext.specs.ProofText2.{proof_text2}
use Rattle.ll_prooftext.specs.Reading.{text_lines, add_byte, HasNoVersion}
use Rattle.ll_prooftext.specs.Sizes.{text_in}
use Rattle.ll_prooftext.specs.Twins.{Numbers, moved_derivation, moved_line, moved_tree, AreAmong, HasTwin}
use Rattle.ll_prooftext.specs.Versions.{HasVersion, HasFaultIn, IsTextIn, first_version, second_version, IsProofText}
use Rattle.ll_prooftext.proofs.CallerLemmas.{trees-moved}
use Rattle.ll_top.specs.forms.Words.{CheckWords, IsCheck}
use Rattle.ll_top.proofs.wording.FirstWords.{bad-not-in-form, checked-in-form, checked-kind}
use Rattle.ll_top.specs.declared.texts.judge.Role.{Role}
use Rattle.ll_top.specs.texts.Converting.{own_names, IsConverted}
use Rattle.ll_top.specs.texts.Faults.{Cause, Faulty}
use Rattle.ll_top.specs.texts.Judging.{IsTextFault, of_program, of_query, TextsAsk, of_run_texts, of_proof}
use Rattle.ll_top.specs.texts.Outcome.{AnyName, NoName, longest_text, IsRead, Reaches, first as next, later as behind, ReadFails, absent, unreadable, oversized}
use Rattle.ll_top.specs.checks.Outcome.{check_texts, name_in_check, CheckFails, texts_not_read, faulty_text, bound_in, CheckGives, IsRefuted}
use Rattle.ll_top.specs.checks.Outcome.{CheckComesTo, shown}
use Rattle.ll_top.specs.checks.Outcome.{refuted, covered, too_long, counting, check_failed}
use Rattle.ll_top.specs.checks.Verdicts.{yes_text}
use Rattle.ll_top.specs.Calls.{ComesTo, misused, checks}
use Rattle.ll_top.specs.Rewriting.{ConvertedIsJudgedAlike}
use Rattle.ll_top.proofs.Accepted.{few}
use Rattle.ll_top.proofs.RewritingNames.{first-moved}
use Rattle.ll_top.proofs.RewritingProofs.{Twins, added-names, own-differ, spelled-in, first-line, second-line, convert-of, conversion-of}
use Rattle.ll_top.proofs.outcomes.CallLemmas.{comes-kind}
use Rattle.ll_top.proofs.outcomes.LawLemmas.{Laws, given-differ, one-read}
use Rattle.ll_top.proofs.outcomes.OneText.{one-check}

-- ---- names

-- an LF behind a text begins no line, or an empty one
ended-lines : (text : List ℕ) → (text_lines (text ++ 10 ∷ []) ≡ text_lines text) ⊎ (text_lines (text ++ 10 ∷ []) ≡ text_lines text ++ [] ∷ [])
ended-lines [] = inr refl
ended-lines (b ∷ bs) = step (b == 10) (text_lines bs) (ended-lines bs)
  where
    step : (c : Bool) (ls : List (List ℕ)) → (text_lines (bs ++ 10 ∷ []) ≡ ls) ⊎ (text_lines (bs ++ 10 ∷ []) ≡ ls ++ [] ∷ [])
        → ((if c then [] ∷ text_lines (bs ++ 10 ∷ []) else add_byte b (text_lines (bs ++ 10 ∷ []))) ≡ (if c then [] ∷ ls else add_byte b ls))
        ⊎ ((if c then [] ∷ text_lines (bs ++ 10 ∷ []) else add_byte b (text_lines (bs ++ 10 ∷ []))) ≡ (if c then [] ∷ ls else add_byte b ls) ++ [] ∷ [])
    step true ls (inl e) = inl (ap (λ z. [] ∷ z) e)
    step true ls (inr e) = inr (ap (λ z. [] ∷ z) e)
    step false ls (inl e) = inl (ap (add_byte b) e)
    step false [] (inr e) = inl (ap (add_byte b) e)
    step false (l ∷ ls) (inr e) = inr (ap (add_byte b) e)

-- so it mentions no more names
ended-names : (text : List ℕ) → text_names (text ++ 10 ∷ []) ≡ text_names text
unfolding text_names line_names mentions
ended-names text = step (ended-lines text)
  where
    step : (text_lines (text ++ 10 ∷ []) ≡ text_lines text) ⊎ (text_lines (text ++ 10 ∷ []) ≡ text_lines text ++ [] ∷ [])
        → flat_map line_names (text_lines (text ++ 10 ∷ [])) ≡ flat_map line_names (text_lines text)
    step (inl e) = ap (flat_map line_names) e
    step (inr e) =
        ap (flat_map line_names) e ∙ (flat_map-append line_names (text_lines text) ([] ∷ []) ∙ (ap (λ z. flat_map line_names (text_lines text) ++ z) none
        ∙ append-nil (flat_map line_names (text_lines text))))
      where
        none : flat_map line_names ([] ∷ []) ≡ []
        none = refl

-- names with others behind them
record HasMore (names all : List (List ℕ)) : Type 0 where
  more : List (List ℕ)
  is : all ≡ names ++ more

with-more : (names ws : List (List ℕ)) → HasMore names (with_names names ws)
with-more names [] = record { more = []; is = sym (append-nil names) }
with-more names (w ∷ ws) =
    let a = one (list_any (bytes_eq w) names) in
    let b = with-more (with_name names w) ws in
    record { more = a.more ++ b.more; is = b.is ∙ (ap (λ z. z ++ b.more) a.is ∙ append_assoc names a.more b.more) }
  where
    one : (b : Bool) → HasMore names (if b then names else names ++ w ∷ [])
    one true = record { more = []; is = sym (append-nil names) }
    one false = record { more = w ∷ []; is = refl }

-- ---- texts of one derivation

pub record AreOfOneDerivation (text other : List ℕ) : Type 0 where
  pub names : List (List ℕ)
  pub distinct : IsDistinct bytes_eq names
  pub derivation : DerivationLines
  pub is_text : IsProofText names text derivation
  pub is_other : IsProofText names other derivation

one-turned : (text other : List ℕ) → AreOfOneDerivation text other → AreOfOneDerivation other text
one-turned text other o =
    record { names = o.names; distinct = o.distinct; derivation = o.derivation; is_text = o.is_other; is_other = o.is_text }

in-first : (names : List (List ℕ)) (text : List ℕ) (d : DerivationLines) → IsSpelled names d → text ≡ proof_text names d → IsProofText names text d
in-first names text d s e = record {
  version = 1;
  is_text = first_version refl (subst (λ x. HasNoVersion (codes "proof 2") (text_lines x)) (sym e) (first-line names d))
      (record { spelled = s; is = inl e });
}

in-second : (names : List (List ℕ)) (text : List ℕ) (d : DerivationLines) → IsSpelled names d → text ≡ proof_text2 names d → IsProofText names text d
in-second names text d s e = record {
  version = 2;
  is_text = second_version refl (subst (λ x. HasVersion (codes "proof 2") (text_lines x)) (sym e) (second-line names d))
      (record { spelled = s; is = inl e });
}

-- what a conversion reads and what it writes are two
converted-one : (proof text : List ℕ) (version : ℕ) → IsConverted proof version text → AreOfOneDerivation proof text
converted-one proof text version c = record {
  names = own_names proof;
  distinct = own-differ proof;
  derivation = c.derivation;
  is_text = c.is_text;
  is_other = by version c.is;
}
  where
    names : List (List ℕ)
    names = own_names proof

    spelled : IsSpelled names c.derivation
    spelled = spelled-in c.is_text.version names proof c.derivation c.is_text.is_text

    by : (version : ℕ) → text ≡ text_in version names c.derivation → IsProofText names text c.derivation
    by zero e = in-first names text c.derivation spelled e
    by (suc zero) e = in-first names text c.derivation spelled e
    by (suc (suc k)) e = in-second names text c.derivation spelled e

-- the text of a derivation is that of its twin
carried : (names others : List (List ℕ)) (d : DerivationLines) (t : HasTwin names others d) (text : List ℕ) → IsProofText names text d
    → IsProofText others text t.twin
carried names others d t text h = record { version = h.version; is_text = by h.is_text }
  where
    same : (a b : List ℕ) → b ≡ a → (text ≡ a) ⊎ (text ++ 10 ∷ [] ≡ a) → (text ≡ b) ⊎ (text ++ 10 ∷ [] ≡ b)
    same a b q (inl p) = inl (p ∙ sym q)
    same a b q (inr p) = inr (p ∙ sym q)

    by : IsTextIn h.version names text d → IsTextIn h.version others text t.twin
    by (first_version e f g) = first_version e f (record { spelled = t.spelled; is = same (proof_text names d) (proof_text others t.twin) t.text g.is })
    by (second_version e f g) = second_version e f (record { spelled = t.spelled; is = same (proof_text2 names d) (proof_text2 others t.twin) t.text2 g.is })

module _ (twins : Twins) (names others : List (List ℕ)) (d : DerivationLines) (distinct : IsDistinct bytes_eq names) (differ : IsDistinct bytes_eq others) where
  among-of : (text whole : List ℕ) → (text ≡ whole) ⊎ (text ++ 10 ∷ [] ≡ whole) → AreAmong (text_names text) others → AreAmong (text_names whole) others
  among-of text whole (inl e) a = subst (λ x. AreAmong (text_names x) others) e a
  among-of text whole (inr e) a = subst (λ x. AreAmong (text_names x) others) e (subst (λ x. AreAmong x others) (sym (ended-names text)) a)

  short-of : (text whole : List ℕ) → (text ≡ whole) ⊎ (text ++ 10 ∷ [] ≡ whole) → length text ≤ longest_text → length whole < 2 ^ 64
  short-of text whole (inl e) l = let k = ap length e in omega (arith, k, l)
  short-of text whole (inr e) l = let k = ap length e in let m = length-append text (10 ∷ []) in omega (arith, k, l, m)

  -- over names among which are all that the text mentions, its derivation has a twin
  twin-of : (text : List ℕ) → length text ≤ longest_text → IsProofText names text d → AreAmong (text_names text) others → HasTwin names others d
  twin-of text l h a = by h.is_text
    where
      by : IsTextIn h.version names text d → HasTwin names others d
      by (first_version e f g) = twins.first names others d distinct differ g.spelled (among-of text (proof_text names d) g.is a)
      by (second_version e f g) =
          twins.second names others d distinct differ g.spelled (short-of text (proof_text2 names d) g.is l) (among-of text (proof_text2 names d) g.is a)

-- ---- checks

-- a check gives a problem and a derivation; another one gives the same problem and this derivation with other numbers, which has its faults at the
-- same nodes
record IsOther (later : Texts) (second : CheckWords) (p : ProblemTree) (d : DerivationLines) : Type 0 where
  other : DerivationLines
  numbers : Numbers
  is : other ≡ moved_derivation numbers d
  whole : IsWhole d
  whole_other : IsWhole other
  same : (x : Tree) → first_fault p other (moved_tree numbers x) ≡ first_fault p d x
  gives : CheckGives (Some later) second p other

module _ (laws : Laws) (twins : Twins) (later : Texts) (one two : CheckWords) (a b : List ℕ) (o : AreOfOneDerivation a b) (unbounded : one.bound ≡ None)
    (unbounded_too : two.bound ≡ None) (program : two.program ≡ one.program) (query : two.query ≡ one.query) (first_read : IsRead (Some later) one.proof a)
    (second_read : IsRead (Some later) two.proof b) where
  bound-is : (check : CheckWords) → check.bound ≡ None → bound_in check ≡ 0
  bound-is check e = ap (λ (o : Option ℕ). unwrap_or o 0) e

  problem-valid : (program query : List ℕ) (p : ProblemTree) → length program ≤ longest_text → length query ≤ longest_text
      → TextsAsk program query 0 p → IsValid p
  problem-valid program query p l m t =
      let g = t.is_program in let h = t.is_query in
      asked_problem_valid t.program_tree t.query_tree 0 p t.asks
      (whole-read programs g.lexed t.program_tree g.is_lexed (few g.lexed program g.is_lexed g.of_text l) g.reads)
      (whole-read queries h.lexed t.query_tree h.is_lexed (few h.lexed query h.is_lexed h.of_text m) h.reads) (omega arith)

  other-of : (p : ProblemTree) (d : DerivationLines) → CheckGives (Some later) one p d → IsOther later two p d
  other-of p d g =
      let asks = subst (λ n. TextsAsk g.program g.query n p) (bound-is one unbounded) g.give.asks in
      let m = with_names p.names (text_names a) in
      let n = with_names p.names (text_names b) in
      let md = given-differ laws g.program g.query a 0 p asks in
      let nd = given-differ laws g.program g.query b 0 p asks in
      let same_text = one-read laws later one.proof g.proof a g.proof_read first_read in
      let given : IsProofText m a d = subst (λ x. IsProofText (with_names p.names (text_names x)) x d) same_text g.give.is_text in
      let t = twin-of twins o.names m o.derivation o.distinct md a first_read.within o.is_text (added-names p.names (text_names a)) in
      let h = carried o.names m o.derivation t a o.is_text in
      let l = first_read.within in
      let e : d ≡ t.twin = (laws.one_derivation m a given.version h.version d t.twin md (omega (arith, l)) given.is_text h.is_text).1 in
      let k : IsProofText m b d = subst (IsProofText m b) (sym e) (carried o.names m o.derivation t b o.is_other) in
      let u = twin-of twins m n d md nd b second_read.within k (added-names p.names (text_names b)) in
      let v = problem-valid g.program g.query p g.program_read.within g.query_read.within asks in
      let x = with-more p.names (text_names a) in
      let y = with-more p.names (text_names b) in
      record {
        other = u.twin;
        numbers = u.numbers;
        is = u.is;
        whole = (spelled-in given.version m a d given.is_text).whole;
        whole_other = u.spelled.whole;
        same =
            λ z. ap (λ w. first_fault p w (moved_tree u.numbers z)) u.is
            ∙ first-moved u.numbers u.apart p v (u.stay p.names x.more y.more x.is y.is) d z;
        gives = record {
          program = g.program;
          query = g.query;
          proof = b;
          program_read = subst (λ w. IsRead (Some later) w g.program) (sym program) g.program_read;
          query_read = subst (λ w. IsRead (Some later) w g.query) (sym query) g.query_read;
          proof_read = second_read;
          give = record {
            asks = subst (λ n. TextsAsk g.program g.query n p) (sym (bound-is two unbounded_too)) asks;
            is_text = carried m n d u b k;
          };
        };
      }

  tree-of : (p : ProblemTree) (d : DerivationLines) (w : IsOther later two p d) (x : Tree) → trees_of d.nodes ≡ Some (x ∷ [])
      → trees_of w.other.nodes ≡ Some (moved_tree w.numbers x ∷ [])
  tree-of p d w x e =
      ap (λ z. trees_of z.nodes) w.is ∙ (trees-moved w.numbers d.nodes ∙ ap (option_map (map (moved_tree w.numbers))) e)

  module _ (faultless : FaultlessShows) (shows_law : ShownIsFaultless) where
    shows-on : (p : ProblemTree) (d : DerivationLines) (w : IsOther later two p d) → DerivationShows p d → DerivationShows p w.other
    shows-on p d w s =
        faultless p w.other (moved_tree w.numbers s.tree) (suc (nodes s.tree)) w.whole_other (tree-of p d w s.tree s.is_tree)
        (w.same s.tree ∙ shows_law p d s.tree s.is_tree s)

    refuted-on : (p : ProblemTree) (d : DerivationLines) (w : IsOther later two p d) (node reason : ℕ) → IsRefuted p d node reason
        → IsRefuted p w.other node reason
    refuted-on p d w node reason h = record {
      not_shown =
          λ s. let x = shows_law p w.other (moved_tree w.numbers h.tree) (tree-of p d w h.tree h.is_tree) s in
          let y = w.same h.tree ∙ h.fault in
          cc;
      tree = moved_tree w.numbers h.tree;
      is_tree = tree-of p d w h.tree h.is_tree;
      fault = w.same h.tree ∙ h.fault;
    }

    -- ---- faults

    reaches-on : (n : List ℕ) → Reaches (Some later) (check_texts one) n → (n ≡ one.proof → ⊥) → Reaches (Some later) (check_texts two) n
    reaches-on n h apart =
        subst (λ x. Reaches (Some later) (x ∷ two.query ∷ two.proof ∷ []) n) (sym program)
        (subst (λ x. Reaches (Some later) (one.program ∷ x ∷ two.proof ∷ []) n) (sym query) (by n h apart))
      where
        by : (n : List ℕ) → Reaches (Some later) (one.program ∷ one.query ∷ one.proof ∷ []) n → (n ≡ one.proof → ⊥)
            → Reaches (Some later) (one.program ∷ one.query ∷ two.proof ∷ []) n
        by _ next apart = next
        by _ (behind text r next) apart = behind text r next
        by _ (behind text r (behind more q next)) apart = absurd (apart refl)
        by n (behind text r (behind more q (behind other s h))) apart = elim h [ ]

    unread-on : (c : Cause) → ReadFails (Some later) AnyName NoName (check_texts one) c → ReadFails (Some later) AnyName NoName (check_texts two) c
    unread-on _ (absent n r w e) = absent n (reaches-on n r (λ q. let f = subst (λ x. text_of later x ≡ None) q e in let g = first_read.found in cc)) w e
    unread-on _ (unreadable n r w) = absurd w
    unread-on _ (oversized n r l) =
        oversized n (reaches-on n r (λ q.
        let f : IsSomeAnd (text_of later one.proof) (λ text. longest_text < length text) =
        subst (λ x. IsSomeAnd (text_of later x) (λ text. longest_text < length text)) q l in
        let g : longest_text < length a = subst (λ x. IsSomeAnd x (λ text. longest_text < length text)) first_read.found f in
        let w = first_read.within in
        omega (arith, g, w))) l

    line-of : (program query : List ℕ) (role : Role) (f : Fault) → IsTextFault program query role f
        → Faulty (name_in_check one role) f ≡ Faulty (name_in_check two role) f
    line-of p q _ f (of_program h) = ap (λ x. Faulty x f) (sym program)
    line-of p q _ f (of_query t l h) = ap (λ x. Faulty x f) (sym query)

    fails-on : (c : Cause) → CheckFails (Some later) AnyName NoName one c → CheckFails (Some later) AnyName NoName two c
    fails-on c (texts_not_read _ h) = texts_not_read c (unread-on c h)
    fails-on _ (faulty_text p q d role f h i j (of_run_texts t)) =
        subst (CheckFails (Some later) AnyName NoName two) (sym (line-of p q role f t))
        (faulty_text p q b role f (subst (λ w. IsRead (Some later) w p) (sym program) h) (subst (λ w. IsRead (Some later) w q) (sym query) i) second_read
        (of_run_texts t))
    fails-on _ (faulty_text p q d _ f h i j (of_proof bound x t e)) =
        let k = one-read laws later one.proof d a j first_read in
        let l = first_read.within in
        absurd (laws.no_proof_fault o.names a o.is_text.version o.derivation f o.distinct (omega (arith, l)) o.is_text.is_text
        (subst (λ w. HasFaultIn w f) k e))

    no-bound : (check : CheckWords) → check.bound ≡ None → is_some check.bound ≡ true → ⊥
    no-bound check e f = let g = sym (ap (λ (o : Option ℕ). is_some o) e) ∙ f in cc

    check-on : (status : ℕ) (answer : List ℕ) → CheckComesTo (Some later) AnyName NoName one status answer
        → CheckComesTo (Some later) AnyName NoName two status answer
    check-on status answer (shown p d w g s e f) =
        let k = other-of p d g in
        shown p k.other (ap (λ (o : Option ℕ). is_some o) unbounded_too) k.gives (shows-on p d k s) e
        (f ∙ ap yes_text (sym (ap (λ z. length z.nodes) k.is ∙ length-map d.nodes (moved_line k.numbers))))
    check-on status answer (refuted p d n r g h e f) = let k = other-of p d g in refuted p k.other n r k.gives (refuted-on p d k n r h) e f
    check-on status answer (covered p d n w g h e f) = absurd (no-bound one unbounded w)
    check-on status answer (too_long p d w g h e f) = absurd (no-bound one unbounded w)
    check-on status answer (counting p d n w g h e f) = absurd (no-bound one unbounded w)
    check-on status answer (check_failed c h e f) = check_failed c (fails-on c h) e f

    pub call-on : (words other : List (List ℕ)) → IsCheck words one → IsCheck other two → (status : ℕ) (answer : List ℕ)
        → ComesTo words (Some later) AnyName NoName status answer → ComesTo other (Some later) AnyName NoName status answer
    call-on words other is is_other status answer (checks check r c) =
        checks two is_other (check-on status answer (subst (λ x. CheckComesTo (Some later) AnyName NoName x status answer) (one-check words check one r is) c))
    call-on words other is is_other status answer (misused n b s t) = absurd (bad-not-in-form words n b (checked-in-form words one.bound is.form))
    call-on words other is is_other status answer c =
        absurd (let k = sym (checked-kind words one.bound is.form) ∙ comes-kind words (Some later) AnyName NoName status answer c refl in cc)

pub judged-alike : Laws → Twins → FaultlessShows → ShownIsFaultless → ConvertedIsJudgedAlike
judged-alike laws twins faultless shows_law words one two convert first second texts later proof text is read comes is_first is_second unbounded unbounded_too
    program query proof_read text_read status answer =
    let c = conversion-of laws texts convert proof text read (convert-of words texts convert 0 text is comes) in
    let o = converted-one proof text convert.version c.is in (
      λ h. call-on laws twins later first second proof text o unbounded unbounded_too program query proof_read text_read faultless shows_law one two
          is_first is_second status answer h,
      λ h. call-on laws twins later second first text proof (one-turned proof text o) unbounded_too unbounded (sym program) (sym query) text_read proof_read
          faultless shows_law two one is_second is_first status answer h,
    )
