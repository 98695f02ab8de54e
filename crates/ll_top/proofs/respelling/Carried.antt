-- A derivation that can be spelled over some names has the same text over more of them.
use Rattle.std.proofs.Common.{◌≡◌, ℕ, zero, suc, refl, ap, sym, subst, ◌∙◌, Bool, true, false, List, [], ◌∷◌, ◌++◌, inl, inr, arith}
use Rattle.std.specs.Prelude.{slice_index_or, IsTrue, All, codes, if◌then◌else◌, ◌⊎◌, None, decimal}
use Rattle.std.specs.List.{flat_map}
use Rattle.std.proofs.lemmas.List.Elements.{All-nil, All-cons, All-head, All-tail}
use Rattle.std.proofs.lemmas.List.Concat.{flat_map-cons}
use Rattle.std.specs.Str.{bytes_eq}
use Rattle.ll_bank.specs.declared.Head.{Head}
use Rattle.ll_bank.specs.declared.Head.TheVariants.{Name, Eigen, Bound}
use Rattle.ll_bank.specs.Term.{Term, Var, Int, Con, Ap}
use Rattle.ll_laws.specs.Output.{line, name_text, head_text, is_cons_head, is_cons, argument_text, term_text, applied_text}
use Rattle.ll_lexer.specs.declared.TokenKind.TheVariants.{Name as NameToken}
use Rattle.ll_lexer.specs.Spelling.{Spells, kind_of, fixed_spellings}
use Rattle.ll_prooftext.specs.Admitted.{IsPlainName, IsPlainHead, IsPairHead, IsSpelledTerm, IsSpelledSpine, IsSpelledLine, IsSpelled}
use Rattle.ll_prooftext.specs.Reading.{IsTextOf}
use Rattle.ll_laws.specs.Line.{Line, OneLine, EraseLine, TensorLine, WithLine, LeftLine, RightLine, BangLine, UseLine, LolliLine}
use Rattle.ll_laws.specs.Line.{ImpLine, ForallLine, ExistsLine, ClauseLine, DerivationLines, NumLine}
use Rattle.ll_laws.specs.ProofText.{field, term_field, part_field, node_text, proof_text}
use Rattle.ll_top.specs.spelled.Laws.{SpelledOn, SpelledIsRead}
use Rattle.std.proofs.lemmas.List.{append_assoc, append-nil}
use Rattle.std.specs.List.{list_any}
use Rattle.ll_bank.specs.Names.{with_name, with_names}
use Rattle.ll_prooftext.specs.Versions.{first_version}
use Rattle.ll_prooftext.proofs.CallerLemmas.{its_lines}

-- ---- names

-- a name that has a text keeps it
name-on : (names more : List (List ℕ)) (n : ℕ) → (name_text names n ≡ [] → ⊥) → name_text (names ++ more) n ≡ name_text names n
name-on [] more n h = absurd (h refl)
name-on (w ∷ names) more zero h = refl
name-on (w ∷ names) more (suc n) h = name-on names more n h

-- a name is spelled by some bytes
pub nothing-spelled : (w : List ℕ) → Spells NameToken w → w ≡ [] → ⊥
unfolding kind_of fixed_spellings
nothing-spelled w s e = let q : kind_of [] ≡ kind_of w = ap kind_of (sym e) in let n : kind_of [] ≡ None = refl in cc

module _ (names more : List (List ℕ)) where
  plain-on : (h : Head) → IsPlainHead names h → IsPlainHead (names ++ more) h × (head_text (names ++ more) h ≡ head_text names h)
  plain-on (Name n) p =
      let e = name-on names more n (nothing-spelled (name_text names n) p.spelled) in (subst IsPlainName (sym e) p, e)
  plain-on (Eigen n) p = (p, refl)
  plain-on (Bound n) p = absurd p

  -- the same of a head in front of two arguments, which stays a `::` or none
  record PairOn (h : Head) : Type 0 where
    pair : IsPairHead (names ++ more) h
    text : head_text (names ++ more) h ≡ head_text names h
    cons : is_cons_head (names ++ more) h ≡ is_cons_head names h

  pair-on : (h : Head) → IsPairHead names h → PairOn h
  pair-on (Name n) (inl p) =
      let e = name-on names more n (nothing-spelled (name_text names n) p.spelled) in
      record { pair = inl (subst IsPlainName (sym e) p); text = e; cons = ap (λ w. bytes_eq w (codes "::")) e }
  pair-on (Name n) (inr q) =
      let e = name-on names more n (λ z. cons-text (name_text names n) z q) in
      record { pair = inr (subst (λ w. IsTrue (bytes_eq w (codes "::"))) (sym e) q); text = e; cons = ap (λ w. bytes_eq w (codes "::")) e }
    where
      cons-text : (w : List ℕ) → w ≡ [] → IsTrue (bytes_eq w (codes "::")) → ⊥
      cons-text w z q = let r = subst (λ v. IsTrue (bytes_eq v (codes "::"))) z q in cc
  pair-on (Eigen n) p = record { pair = p; text = refl; cons = refl }
  pair-on (Bound n) (inl p) = absurd p
  pair-on (Bound n) (inr q) = cc

  cons-on : (x : Term) → IsSpelledTerm names x → is_cons (names ++ more) x ≡ is_cons names x
  cons-on (Var n) s = refl
  cons-on (Int z) s = refl
  cons-on (Con h) s = refl
  cons-on (Ap (Var n) a) s = refl
  cons-on (Ap (Int n) a) s = refl
  cons-on (Ap (Con n) a) s = refl
  cons-on (Ap (Ap (Var h) x) l) s = refl
  cons-on (Ap (Ap (Int h) x) l) s = refl
  cons-on (Ap (Ap (Con h) x) l) s = (pair-on h s.0).cons
  cons-on (Ap (Ap (Ap f b) x) l) s = refl

  mutual
    term-on : (t : Term) → IsSpelledTerm names t → IsSpelledTerm (names ++ more) t × (term_text (names ++ more) t ≡ term_text names t)
    term-on (Var n) s = (s, refl)
    term-on (Int z) s = (s, refl)
    term-on (Con h) s = plain-on h s
    term-on (Ap (Var n) a) s = absurd s.0
    term-on (Ap (Int n) a) s = absurd s.0
    term-on (Ap (Con h) a) s =
        let f = spine-on (Con h) s.0 in let x = term-on a s.1 in (
          (f.0, x.0),
          ap (λ w. w ++ codes " " ++ argument_text a (term_text (names ++ more) a)) f.1
              ∙ ap (λ w. head_text names h ++ codes " " ++ argument_text a w) x.1,
        )
    term-on (Ap (Ap (Var h) x) l) s = absurd s.0.0
    term-on (Ap (Ap (Int h) x) l) s = absurd s.0.0
    term-on (Ap (Ap (Con h) x) l) s =
        let p = pair-on h s.0 in let a = term-on x s.1.0 in let b = term-on l s.1.1 in let c = cons-on x s.1.0 in
        ((p.pair, (a.0, b.0)), rw p.cons (rw p.text (rw a.1 (rw b.1 (rw c refl)))))
    term-on (Ap (Ap (Ap f b) x) l) s =
        let g = spine-on (Ap (Ap f b) x) s.0 in let y = term-on l s.1 in (
          (g.0, y.0),
          ap (λ w. w ++ codes " " ++ argument_text l (term_text (names ++ more) l)) g.1
              ∙ ap (λ w. applied_text names (Ap (Ap f b) x) ++ codes " " ++ argument_text l w) y.1,
        )

    spine-on : (t : Term) → IsSpelledSpine names t → IsSpelledSpine (names ++ more) t × (applied_text (names ++ more) t ≡ applied_text names t)
    spine-on (Var n) s = absurd s
    spine-on (Int z) s = absurd s
    spine-on (Con h) s = plain-on h s
    spine-on (Ap f a) s =
        let g = spine-on f s.0 in let x = term-on a s.1 in (
          (g.0, x.0),
          ap (λ w. w ++ codes " " ++ argument_text a (term_text (names ++ more) a)) g.1
              ∙ ap (λ w. applied_text names f ++ codes " " ++ argument_text a w) x.1,
        )

  -- ---- lists

  -- the one test passes, and the two texts are one
  abbrev Both : {X : Type 0} → (X → Type 0) → (X → List ℕ) → (X → List ℕ) → X → Type 0
  Both Q f g x = Q x × (g x ≡ f x)

  module _ {X : Type 0} (P Q : X → Type 0) (f g : X → List ℕ) (each : (x : X) → P x → Both Q f g x) where
    all-on : (xs : List X) → All P xs → All Q xs × (flat_map g xs ≡ flat_map f xs)
    all-on [] h = (All-nil Q, refl)
    all-on (x ∷ xs) h =
        let a = each x (All-head P x xs h) in let b = all-on xs (All-tail P x xs h) in
        (All-cons Q x xs a.0 b.0, flat_map-cons g x xs ∙ (ap (λ w. w ++ flat_map g xs) a.1 ∙ (ap (λ w. f x ++ w) b.1 ∙ sym (flat_map-cons f x xs))))

  field-on : (t : Term) → IsSpelledTerm names t → Both (IsSpelledTerm (names ++ more)) (term_field names) (term_field (names ++ more)) t
  field-on t s = let e = term-on t s in (e.0, ap (λ w. field (argument_text t w)) e.1)

  line-on : (n : Line) → IsSpelledLine names n → Both (IsSpelledLine (names ++ more)) (node_text names) (node_text (names ++ more)) n
  line-on OneLine s = (s, refl)
  line-on EraseLine s = (s, refl)
  line-on WithLine s = (s, refl)
  line-on LeftLine s = (s, refl)
  line-on RightLine s = (s, refl)
  line-on BangLine s = (s, refl)
  line-on UseLine s = (s, refl)
  line-on NumLine s = (s, refl)
  line-on (TensorLine a b) s = (s, refl)
  line-on (LolliLine n) s = (s, refl)
  line-on (ImpLine n) s = (s, refl)
  line-on (ForallLine c) s = (s, refl)
  line-on (ExistsLine t) s = let e = field-on t s in (e.0, ap (λ w. codes "exists" ++ w) e.1)
  line-on (ClauseLine n k ts ps) s =
      let e = all-on (IsSpelledTerm names) (IsSpelledTerm (names ++ more)) (term_field names) (term_field (names ++ more)) field-on ts s.1.1.0 in
      ((s.0, (s.1.0, (e.0, s.1.1.1))), ap (λ w. codes "clause" ++ field (decimal n) ++ field (decimal k) ++ w ++ flat_map part_field ps) e.1)

  pub spelled-on : (d : DerivationLines) → IsSpelled names d → IsSpelled (names ++ more) d × (proof_text (names ++ more) d ≡ proof_text names d)
  spelled-on d s =
      let a = all-on (IsSpelledTerm names) (IsSpelledTerm (names ++ more)) (λ t. line (codes "let" ++ term_field names t))
      (λ t. line (codes "let" ++ term_field (names ++ more) t)) (λ t h. let e = field-on t h in (e.0, ap (λ w. line (codes "let" ++ w)) e.1)) d.asked s.asked in
      let b = all-on (IsSpelledLine names) (IsSpelledLine (names ++ more)) (λ n. line (node_text names n)) (λ n. line (node_text (names ++ more) n))
      (λ n h. let e = line-on n h in (e.0, ap line e.1)) d.nodes s.nodes in (
        record { whole = s.whole; asked = a.0; nodes = b.0 },
        ap (λ w. line (codes "proof 1") ++ w ++ flat_map (λ n. line (node_text (names ++ more) n)) d.nodes) a.1
            ∙ ap (λ w. line (codes "proof 1") ++ flat_map (λ t. line (codes "let" ++ term_field names t)) d.asked ++ w) b.1,
      )

pub text-on : SpelledOn
text-on names more text d h =
    let e = spelled-on names more d h.spelled in
    record { spelled = e.0; is = step h.is e.1 }
  where
    step : (text ≡ proof_text names d) ⊎ (text ++ 10 ∷ [] ≡ proof_text names d) → proof_text (names ++ more) d ≡ proof_text names d
        → (text ≡ proof_text (names ++ more) d) ⊎ (text ++ 10 ∷ [] ≡ proof_text (names ++ more) d)
    step (inl q) e = inl (q ∙ sym e)
    step (inr q) e = inr (q ∙ sym e)

-- ---- reading

-- names with others behind them
pub record NamesBehind (old new : List (List ℕ)) : Type 0 where
  pub more : List (List ℕ)
  pub is : new ≡ old ++ more

one-name : (names : List (List ℕ)) (w : List ℕ) → NamesBehind names (with_name names w)
one-name names w = step (list_any (bytes_eq w) names)
  where
    step : (b : Bool) → NamesBehind names (if b then names else names ++ w ∷ [])
    step true = record { more = []; is = sym (append-nil names) }
    step false = record { more = w ∷ []; is = refl }

-- names are added behind those that there are
pub all-names : (names ws : List (List ℕ)) → NamesBehind names (with_names names ws)
all-names names [] = record { more = []; is = sym (append-nil names) }
all-names names (w ∷ ws) =
    let a = one-name names w in let b = all-names (with_name names w) ws in
    record { more = a.more ++ b.more; is = b.is ∙ (ap (λ z. z ++ b.more) a.is ∙ append_assoc names a.more b.more) }

pub spelled-read : SpelledIsRead
spelled-read names mentioned d s =
    let m = all-names names mentioned in
    let t : IsTextOf names (proof_text names d) d = record { spelled = s; is = inl refl } in
    let u = subst (λ ns. IsTextOf ns (proof_text names d) d) (sym m.is) (text-on names m.more (proof_text names d) d t) in
    record { version = 1; is_text = first_version refl (λ rest e. apart (sym (its_lines names (proof_text names d) d t) ∙ e)) u }
  where
    apart : {x : List (List ℕ)} {y : List (List ℕ)} → codes "proof 1" ∷ x ≡ codes "proof 2" ∷ y → ⊥
    apart e = let q : 49 ≡ 50 = ap (λ z. slice_index_or (slice_index_or z 0 []) 6 0) e in absurd (omega (arith, q))
