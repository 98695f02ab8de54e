-- A derivation is read back of its text, over its names and behind them those that the text mentions.
use Rattle.std.proofs.Common.{◌≡◌, ◌<◌, ℕ, zero, suc, List, [], ◌∷◌, length, map, ap, sym, subst, ◌∙◌, refl, inl}
use Rattle.std.proofs.Common.{inr, arith, codes}
use Rattle.std.specs.Prelude.{All, IsTrue}
use Rattle.std.specs.Str.{bytes_eq}
use Rattle.std.proofs.lemmas.List.{append-nil}
use Rattle.std.proofs.lemmas.List.Elements.{All-head, All-tail}
use Rattle.ll_bank.specs.Names.{with_names}
use Rattle.ll_bank.specs.Term.{Term, Var, Int, Con, Ap}
use Rattle.ll_bank.specs.declared.Head.{Head}
use Rattle.ll_bank.specs.declared.Head.TheVariants.{Name, Eigen, Bound}
use Rattle.ll_laws.specs.Output.{name_text}
use Rattle.ll_laws.specs.Line.{Line, OneLine, EraseLine, TensorLine, WithLine, LeftLine, RightLine, BangLine, UseLine, LolliLine}
use Rattle.ll_laws.specs.Line.{ImpLine, ForallLine, ExistsLine, ClauseLine, DerivationLines, NumLine}
use Rattle.ll_prooftext.specs.Admitted.{IsPlainHead, IsPairHead, IsSpelledTerm, IsSpelledSpine, IsSpelledLine, IsSpelled}
use Rattle.ll_prooftext.specs.Mentions.{text_names}
use Rattle.ll_prooftext.specs.Sizes.{text_in}
use Rattle.ll_prooftext.specs.Twins.{Numbers, moved_head, moved, moved_line, moved_derivation}
use Rattle.ll_prooftext.specs.Versions.{IsProofText}
use Rattle.ll_top.proofs.respelling.Carried.{nothing-spelled, all-names}
use Rattle.ll_top.specs.Rewriting.{WrittenIsReadBack}
use Rattle.ll_top.proofs.RewritingProofs.{Twins, IsReadOver, written-over, added-names}
use Rattle.ll_top.proofs.calls.DistinctNames.{differ-names}

-- ---- names

-- a name that has a text is one of the list
within : (names : List (List ℕ)) (n : ℕ) → (name_text names n ≡ [] → ⊥) → n < length names
within [] n h = absurd (h refl)
within (w ∷ names) zero h = omega arith
within (w ∷ names) (suc n) h = let l = within names n h in omega (arith, l)

no-cons : (w : List ℕ) → IsTrue (bytes_eq w (codes "::")) → w ≡ [] → ⊥
no-cons w q z = let r = subst (λ v. IsTrue (bytes_eq v (codes "::"))) z q in cc

module _ (names : List (List ℕ)) (r : Numbers) (stay : (n : ℕ) → n < length names → r n ≡ n) where
  plain-stays : (h : Head) → IsPlainHead names h → moved_head r h ≡ h
  plain-stays (Name n) p = ap Name (stay n (within names n (nothing-spelled (name_text names n) p.spelled)))
  plain-stays (Eigen n) p = refl
  plain-stays (Bound n) p = refl

  pair-stays : (h : Head) → IsPairHead names h → moved_head r h ≡ h
  pair-stays h (inl p) = plain-stays h p
  pair-stays (Name n) (inr q) = ap Name (stay n (within names n (no-cons (name_text names n) q)))
  pair-stays (Eigen n) (inr q) = refl
  pair-stays (Bound n) (inr q) = refl

  mutual
    term-stays : (t : Term) → IsSpelledTerm names t → moved r t ≡ t
    term-stays (Var n) s = refl
    term-stays (Int z) s = refl
    term-stays (Con h) s = ap Con (plain-stays h s)
    term-stays (Ap (Var n) a) s = absurd s.0
    term-stays (Ap (Int n) a) s = absurd s.0
    term-stays (Ap (Con h) a) s = let f = plain-stays h s.0 in let x = term-stays a s.1 in λ i. Ap (Con (f i)) (x i)
    term-stays (Ap (Ap (Var h) x) l) s = absurd s.0.0
    term-stays (Ap (Ap (Int h) x) l) s = absurd s.0.0
    term-stays (Ap (Ap (Con h) x) l) s =
        let p = pair-stays h s.0 in let a = term-stays x s.1.0 in let b = term-stays l s.1.1 in λ i. Ap (Ap (Con (p i)) (a i)) (b i)
    term-stays (Ap (Ap (Ap f b) x) l) s =
        let g = spine-stays (Ap (Ap f b) x) s.0 in let y = term-stays l s.1 in λ i. Ap (g i) (y i)

    spine-stays : (t : Term) → IsSpelledSpine names t → moved r t ≡ t
    spine-stays (Var n) s = refl
    spine-stays (Int z) s = refl
    spine-stays (Con h) s = ap Con (plain-stays h s)
    spine-stays (Ap f a) s = let g = spine-stays f s.0 in let x = term-stays a s.1 in λ i. Ap (g i) (x i)

  terms-stay : (ts : List Term) → All (IsSpelledTerm names) ts → map (moved r) ts ≡ ts
  terms-stay [] h = refl
  terms-stay (t ∷ ts) h =
      let a = term-stays t (All-head (IsSpelledTerm names) t ts h) in let b = terms-stay ts (All-tail (IsSpelledTerm names) t ts h) in λ i. a i ∷ b i

  line-stays : (n : Line) → IsSpelledLine names n → moved_line r n ≡ n
  line-stays (ExistsLine t) s = ap ExistsLine (term-stays t s)
  line-stays (ClauseLine n k ts ps) s = ap (λ us. ClauseLine n k us ps) (terms-stay ts s.1.1.0)
  line-stays OneLine s = refl
  line-stays EraseLine s = refl
  line-stays (TensorLine a b) s = refl
  line-stays WithLine s = refl
  line-stays LeftLine s = refl
  line-stays RightLine s = refl
  line-stays BangLine s = refl
  line-stays (LolliLine n) s = refl
  line-stays (ImpLine n) s = refl
  line-stays (ForallLine n) s = refl
  line-stays UseLine s = refl
  line-stays NumLine s = refl

  lines-stay : (ns : List Line) → All (IsSpelledLine names) ns → map (moved_line r) ns ≡ ns
  lines-stay [] h = refl
  lines-stay (n ∷ ns) h =
      let a = line-stays n (All-head (IsSpelledLine names) n ns h) in let b = lines-stay ns (All-tail (IsSpelledLine names) n ns h) in λ i. a i ∷ b i

  derivation-stays : (d : DerivationLines) → IsSpelled names d → moved_derivation r d ≡ d
  derivation-stays d s =
      let a = terms-stay d.asked s.asked in let b = lines-stay d.nodes s.nodes in
      λ i. record { asked = a i; nodes = b i }

-- ---- reading

pub read-back : Twins → WrittenIsReadBack
read-back twins names d version distinct s le =
    let text = text_in version names d in let ws = text_names text in let others = with_names names ws in
    let m = all-names names ws in
    let o : IsReadOver names others text d =
    written-over twins names others d distinct (differ-names names ws distinct) s version text refl le (added-names names ws) in
    let same : o.twin.twin ≡ d =
    o.twin.is ∙ derivation-stays names o.twin.numbers (o.twin.stay names [] m.more (sym (append-nil names)) m.is) d s in
    subst (λ x. IsProofText others text x) same o.is_text
