-- A conversion there and back gives the same bytes.
use Rattle.std.proofs.Common.{◌≡◌, ◌⊎◌, ◌≤◌, ◌<◌, ◌^◌, ℕ, zero, suc, List, [], ◌∷◌, ◌++◌, length, ap, sym, subst, ◌∙◌, refl, Bool, true, false, Some, inl, inr}
use Rattle.std.proofs.Common.{arith, codes}
use Rattle.std.specs.Prelude.{Contains, slice_index_or, if◌then◌else◌}
use Rattle.std.specs.List.{list_any, IsDistinct}
use Rattle.std.specs.Str.{bytes_eq}
use Rattle.std.proofs.lemmas.Slice.Eq.{bytes_eq-Decides}
use Rattle.std.proofs.lemmas.List.Elements.{All-nil, All-cons, Contains-append_left, Contains-append_right}
use Rattle.std.proofs.lemmas.Map.Views.{Contains-from_any}
use Rattle.ll_bank.specs.Names.{with_name, with_names}
use Rattle.ll_edge.specs.Texts.{Texts}
use Rattle.ll_laws.specs.Line.{DerivationLines}
use Rattle.ll_laws.specs.ProofText.{proof_text}
use Rattle.ll_prooftext.specs.Admitted.{IsSpelled}
use Rattle.ll_prooftext.specs.Mentions.{text_names}
use Rattle.ll_prooftext.specs.ProofText2.{proof_text2}
use Rattle.ll_prooftext.specs.Reading.{HasNoVersion, text_lines}
use Rattle.ll_prooftext.specs.Sizes.{text_in}
use Rattle.ll_prooftext.specs.Twins.{AreAmong, HasTwin}
use Rattle.ll_prooftext.specs.Versions.{HasVersion, IsTextIn, first_version, second_version, IsProofText}
use Rattle.ll_top.specs.forms.Words.{ConvertWords, IsConvert}
use Rattle.ll_top.proofs.wording.FirstWords.{bad-not-in-form, convert-in-form, convert-kind}
use Rattle.ll_top.specs.texts.Converting.{own_names, IsConverted, ConvertComesTo, converted, convert_failed}
use Rattle.ll_top.specs.texts.Outcome.{AnyName, NoName, longest_text, IsRead}
use Rattle.ll_top.proofs.verdicts.ProvedLemmas.{cause-not-zero}
use Rattle.ll_top.specs.Calls.{ComesTo, misused, converts}
use Rattle.ll_top.specs.Rewriting.{TellsVersion, tells_first, tells_second, ComesBackTo, ConvertedComesBack}
use Rattle.ll_top.proofs.calls.DistinctNames.{differ-names}
use Rattle.ll_top.proofs.outcomes.CallLemmas.{comes-kind}
use Rattle.ll_top.proofs.outcomes.LawLemmas.{Laws, one-read}
use Rattle.ll_top.proofs.outcomes.OneText.{one-convert}

-- ---- names

kept-name : (names : List (List ℕ)) (w v : List ℕ) → Contains names v → Contains (with_name names w) v
kept-name names w v h = step (list_any (bytes_eq w) names)
  where
    step : (b : Bool) → Contains (if b then names else names ++ w ∷ []) v
    step true = h
    step false = Contains-append_left names (w ∷ []) v h

added-name : (names : List (List ℕ)) (w : List ℕ) → Contains (with_name names w) w
added-name names w = step (list_any (bytes_eq w) names) refl
  where
    step : (b : Bool) → list_any (bytes_eq w) names ≡ b → Contains (if b then names else names ++ w ∷ []) w
    step true e = Contains-from_any (λ x y t. (bytes_eq-Decides x y).0 t) w names e
    step false e = Contains-append_right names (w ∷ []) w (0, omega arith, refl)

kept-names : (names ws : List (List ℕ)) (v : List ℕ) → Contains names v → Contains (with_names names ws) v
kept-names names [] v h = h
kept-names names (w ∷ ws) v h = kept-names (with_name names w) ws v (kept-name names w v h)

-- names that are added are there
pub added-names : (names ws : List (List ℕ)) → AreAmong ws (with_names names ws)
added-names names [] = All-nil (Contains names)
added-names names (w ∷ ws) =
    All-cons (Contains (with_names names (w ∷ ws))) w ws (kept-names (with_name names w) ws w (added-name names w)) (added-names (with_name names w) ws)

pub own-differ : (text : List ℕ) → IsDistinct bytes_eq (own_names text)
unfolding IsDistinct
own-differ text = differ-names [] (text_names text) tt

-- ---- texts

-- the laws of derivations over other names
pub record Twins : Type 0 where
  pub first : (names others : List (List ℕ)) (d : DerivationLines) → IsDistinct bytes_eq names → IsDistinct bytes_eq others → IsSpelled names d
      → AreAmong (text_names (proof_text names d)) others → HasTwin names others d
  pub second : (names others : List (List ℕ)) (d : DerivationLines) → IsDistinct bytes_eq names → IsDistinct bytes_eq others → IsSpelled names d
      → length (proof_text2 names d) < 2 ^ 64
      → AreAmong (text_names (proof_text2 names d)) others → HasTwin names others d

-- a text of version 1 does not begin as one of version 2
pub first-line : (names : List (List ℕ)) (d : DerivationLines) → HasNoVersion (codes "proof 2") (text_lines (proof_text names d))
first-line names d rest e = let q : 49 ≡ 50 = ap (λ z. slice_index_or (slice_index_or z 0 []) 6 0) e in absurd (omega (arith, q))

pub second-line : (names : List (List ℕ)) (d : DerivationLines) → HasVersion (codes "proof 2") (text_lines (proof_text2 names d))
unfolding proof_text2
second-line names d = record { rest = _; is = refl }

-- the derivation of a text that was written, read over names among which are all that the text mentions
pub record IsReadOver (names others : List (List ℕ)) (text : List ℕ) (d : DerivationLines) : Type 0 where
  pub twin : HasTwin names others d
  pub is_text : IsProofText others text twin.twin

module _ (twins : Twins) (names others : List (List ℕ)) (d : DerivationLines) (distinct : IsDistinct bytes_eq names) (differ : IsDistinct bytes_eq others)
    (s : IsSpelled names d) where
  first-over : (text : List ℕ) → text ≡ proof_text names d → AreAmong (text_names text) others → IsReadOver names others text d
  first-over text e a =
      let t = twins.first names others d distinct differ s (subst (λ x. AreAmong (text_names x) others) e a) in
      record {
        twin = t;
        is_text = record {
          version = 1;
          is_text = first_version refl (subst (λ x. HasNoVersion (codes "proof 2") (text_lines x)) (sym e) (first-line names d))
              (record { spelled = t.spelled; is = inl (e ∙ sym t.text) });
        };
      }

  second-over : (text : List ℕ) → text ≡ proof_text2 names d → length text ≤ longest_text → AreAmong (text_names text) others
      → IsReadOver names others text d
  second-over text e le a =
      let l = ap length e in
      let t = twins.second names others d distinct differ s (omega (arith, l, le)) (subst (λ x. AreAmong (text_names x) others) e a) in
      record {
        twin = t;
        is_text = record {
          version = 2;
          is_text = second_version refl (subst (λ x. HasVersion (codes "proof 2") (text_lines x)) (sym e) (second-line names d))
              (record { spelled = t.spelled; is = inl (e ∙ sym t.text2) });
        };
      }

  -- what was written in either version is read so
  pub written-over : (version : ℕ) (text : List ℕ) → text ≡ text_in version names d → length text ≤ longest_text → AreAmong (text_names text) others
      → IsReadOver names others text d
  written-over zero text e le a = first-over text e a
  written-over (suc zero) text e le a = first-over text e a
  written-over (suc (suc k)) text e le a = second-over text e le a

-- ---- calls

pub convert-of : (words : List (List ℕ)) (texts : Texts) (convert : ConvertWords) (status : ℕ) (text : List ℕ) → IsConvert words convert
    → ComesTo words (Some texts) AnyName NoName status text → ConvertComesTo (Some texts) AnyName NoName convert status text
convert-of words texts convert status text is (converts other r c) =
    subst (λ x. ConvertComesTo (Some texts) AnyName NoName x status text) (one-convert words other convert r is) c
convert-of words texts convert status text is (misused n b s t) = absurd (bad-not-in-form words n b (convert-in-form words is.form))
convert-of words texts convert status text is c =
    absurd (let k = sym (convert-kind words is.form) ∙ comes-kind words (Some texts) AnyName NoName status text c refl in cc)

-- what a conversion that came to a text read and wrote
pub record IsConversion (convert : ConvertWords) (proof text : List ℕ) : Type 0 where
  pub is : IsConverted proof convert.version text
  pub within : length text ≤ longest_text

pub conversion-of : (laws : Laws) (texts : Texts) (convert : ConvertWords) (proof text : List ℕ) → IsRead (Some texts) convert.proof proof
    → ConvertComesTo (Some texts) AnyName NoName convert 0 text → IsConversion convert proof text
conversion-of laws texts convert proof text read (converted other h c l e) =
    record { is = subst (λ x. IsConverted x convert.version text) (one-read laws texts convert.proof other proof h read) c; within = l }
conversion-of laws texts convert proof text read (convert_failed c h e f) = absurd (cause-not-zero c (sym e))

module _ (laws : Laws) (twins : Twins) (other : List (List ℕ)) (back : ConvertWords) (later : Texts) (proof text : List ℕ) (is_back : IsConvert other back)
    (there : IsRead (Some later) back.proof text) where
  come-back : (names others : List (List ℕ)) → others ≡ own_names text → (d : DerivationLines) → (version : ℕ) → IsTextIn version names proof d
      → IsReadOver names others text d → TellsVersion proof back.version → ComesBackTo other later proof
  come-back names others o d version (first_version e f t) r (tells_first g h) =
      let w = r.twin in
      record {
        again = proof_text others w.twin;
        is = by t.is w.text;
        comes =
            λ fits. converts back is_back (converted text there (record {
              derivation = w.twin;
              is_text = subst (λ x. IsProofText x text w.twin) o r.is_text;
              is = ap (λ x. proof_text x w.twin) o ∙ sym (ap (λ v. text_in v (own_names text) w.twin) g);
            }) fits refl);
      }
    where
      by : (proof ≡ proof_text names d) ⊎ (proof ++ 10 ∷ [] ≡ proof_text names d) → proof_text others r.twin.twin ≡ proof_text names d
          → (proof ≡ proof_text others r.twin.twin) ⊎ (proof ++ 10 ∷ [] ≡ proof_text others r.twin.twin)
      by (inl p) q = inl (p ∙ sym q)
      by (inr p) q = inr (p ∙ sym q)
  come-back names others o d version (first_version e f t) r (tells_second g h) = absurd (f h.rest h.is)
  come-back names others o d version (second_version e f t) r (tells_first g h) = absurd (h f.rest f.is)
  come-back names others o d version (second_version e f t) r (tells_second g h) =
      let w = r.twin in
      record {
        again = proof_text2 others w.twin;
        is = by t.is w.text2;
        comes =
            λ fits. converts back is_back (converted text there (record {
              derivation = w.twin;
              is_text = subst (λ x. IsProofText x text w.twin) o r.is_text;
              is = ap (λ x. proof_text2 x w.twin) o ∙ sym (ap (λ v. text_in v (own_names text) w.twin) g);
            }) fits refl);
      }
    where
      by : (proof ≡ proof_text2 names d) ⊎ (proof ++ 10 ∷ [] ≡ proof_text2 names d) → proof_text2 others r.twin.twin ≡ proof_text2 names d
          → (proof ≡ proof_text2 others r.twin.twin) ⊎ (proof ++ 10 ∷ [] ≡ proof_text2 others r.twin.twin)
      by (inl p) q = inl (p ∙ sym q)
      by (inr p) q = inr (p ∙ sym q)

pub spelled-in : (version : ℕ) (names : List (List ℕ)) (text : List ℕ) (d : DerivationLines) → IsTextIn version names text d → IsSpelled names d
spelled-in version names text d (first_version e f t) = t.spelled
spelled-in version names text d (second_version e f t) = t.spelled

pub comes-back : Laws → Twins → ConvertedComesBack
comes-back laws twins words other there back texts later proof text is_there is_back read comes read_back tells =
    let c = conversion-of laws texts there proof text read (convert-of words texts there 0 text is_there comes) in
    let d = c.is.derivation in
    let t = c.is.is_text in
    let s = spelled-in t.version (own_names proof) proof d t.is_text in
    let r = written-over twins (own_names proof) (own_names text) d (own-differ proof) (own-differ text) s there.version text c.is.is c.within
    (added-names [] (text_names text)) in
    come-back laws twins other back later proof text is_back read_back (own_names proof) (own_names text) refl d t.version t.is_text r tells
