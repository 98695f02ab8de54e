-- Lines, taken from a text, and texts, made of their lines.
use Rattle.std.proofs.Common.{◌≡◌, ℕ, suc, ◌+◌, ◌<◌, Bool, true, false, List, [], ◌∷◌, ◌++◌, length, refl, ap, sym, subst, ◌∙◌, arith, append-nil}
use Rattle.std.proofs.Common.{length-append, inl, inr}
use Rattle.std.specs.Prelude.{not, ◌==◌, ◌⊎◌, if◌then◌else◌}
use Rattle.std.specs.List.{list_all, flat_map}
use Rattle.std.specs.Str.{bytes_eq}
use Rattle.std.proofs.lemmas.Slice.Eq.{bytes_eq-Decides}
use Rattle.std.proofs.lemmas.List.{take_all}
use Rattle.ll_lexer.specs.declared.Place.{Place}
use Rattle.ll_laws.specs.Output.{line as with_end}
use Rattle.ll_prooftext.specs.declared.reader.TextLine.{TextLine}
use Rattle.ll_prooftext.specs.declared.reader.Lines.{Lines}
use Rattle.ll_prooftext.specs.Reading.{text_lines, add_byte, HasNoVersion}
use Rattle.ll_prooftext.specs.Words.{is_not, Stops, ended, at_byte, BeginsNot}
use Rattle.ll_prooftext.specs.Reader.{end_from, IsNext, TakesLine, HasNoLine, IsBehindVersion}
use Rattle.ll_prooftext.proofs.spelling.Cuts.{first as first_passes, tail}
use Rattle.std.proofs.lemmas.Bool.{eqb-true}

-- ---- lines

pub lines_more : (w rest : List ℕ) → list_all (is_not 10) w ≡ true → text_lines (w ++ 10 ∷ rest) ≡ w ∷ text_lines rest
lines_more [] rest h = refl
lines_more (b ∷ w) rest h = by_test (b == 10) (first_passes (is_not 10) b w h) (lines_more w rest (tail (is_not 10) b w h))
  where
    by_test : (v : Bool) → not v ≡ true → text_lines (w ++ 10 ∷ rest) ≡ w ∷ text_lines rest
        → (if v then [] ∷ text_lines (w ++ 10 ∷ rest) else add_byte b (text_lines (w ++ 10 ∷ rest))) ≡ (b ∷ w) ∷ text_lines rest
    by_test true f ih = let x : false ≡ true = f in let y : ⊥ = cc in absurd y
    by_test false f ih = ap (add_byte b) ih

one_line : (b : ℕ) (w : List ℕ) → not (b == 10) ≡ true → add_byte b (text_lines w) ≡ (b ∷ w) ∷ [] → text_lines (b ∷ w) ≡ (b ∷ w) ∷ []
one_line b w f e = by_test (b == 10) f
  where
    by_test : (v : Bool) → not v ≡ true → (if v then [] ∷ text_lines w else add_byte b (text_lines w)) ≡ (b ∷ w) ∷ []
    by_test true f = let x : false ≡ true = f in let y : ⊥ = cc in absurd y
    by_test false f = e

pub lines_last : (w : List ℕ) → list_all (is_not 10) w ≡ true → (w ≡ [] → ⊥) → text_lines w ≡ w ∷ []
lines_last [] h full = absurd (full refl)
lines_last (b ∷ []) h full = one_line b [] (first_passes (is_not 10) b [] h) refl
lines_last (b ∷ c ∷ w) h full = one_line b (c ∷ w) (first_passes (is_not 10) b (c ∷ w) h)
    (ap (add_byte b) (lines_last (c ∷ w) (tail (is_not 10) b (c ∷ w) h) (λ e. let y : ⊥ = cc in y)))

-- ---- places

abbrev place : ℕ → ℕ → Place
place l k = record { line = l; column = k }

pub end_line : (l k : ℕ) (w rest : List ℕ) → list_all (is_not 10) w ≡ true
    → end_from (record { line = l; column = k }) (w ++ rest) ≡ end_from (record { line = l; column = k + length w }) rest
end_line l k [] rest h = ap (λ j. end_from (record { line = l; column = j }) rest) (let e : k ≡ k + 0 = omega arith in e)
end_line l k (b ∷ w) rest h = ap (λ at. end_from at (w ++ rest)) (by_test (b == 10) (first_passes (is_not 10) b w h))
    ∙ (end_line l (k + 1) w rest (tail (is_not 10) b w h) ∙ ap (λ j. end_from (record { line = l; column = j }) rest)
    (let e : k + 1 + length w ≡ k + suc (length w) = omega arith in e))
  where
    by_test : (v : Bool) → not v ≡ true → (if v then place (l + 1) 1 else place l (k + 1)) ≡ place l (k + 1)
    by_test true f = let x : false ≡ true = f in let y : ⊥ = cc in absurd y
    by_test false f = refl

not_at_end : {b : Bool} (bytes : List ℕ) → b ≡ (length bytes == 0) → b ≡ false → bytes ≡ [] → ⊥
not_at_end [] h f e = let x : ⊥ = cc in x
not_at_end (x ∷ xs) h f e = let y : ⊥ = cc in y

begins : (n : ℕ) (bytes : List ℕ) (at : Place) → IsNext n bytes at → (bytes ≡ [] → ⊥) → at ≡ record { line = n; column = 1 }
begins n bytes at (inl e) full = absurd (full e)
begins n bytes at (inr e) full = e

-- a line with its LF
pub took : (o p : Lines) (line : TextLine) (behind rest : List ℕ) {b : Bool} → b ≡ (length o.rest.now == 0) → b ≡ false → IsNext o.at.line o.rest.now o.at
    → o.rest.now ≡ line.bytes.now ++ behind → list_all (is_not 10) line.bytes.now ≡ true → behind ≡ 10 ∷ rest → line.number ≡ o.at.line → p.rest.now ≡ rest
    → p.at ≡ record { line = o.at.line + 1; column = 1 } → TakesLine o line p
took o p line behind rest t f n e h k m r a =
    let w = line.bytes.now in
    let text : o.rest.now ≡ w ++ 10 ∷ p.rest.now = e ∙ ap (λ z. w ++ z) (k ∙ ap (λ z. 10 ∷ z) (sym r)) in
    let at = begins o.at.line o.rest.now o.at n (not_at_end o.rest.now t f) in
    let long = ap length text in
    let long2 = length-append w (10 ∷ p.rest.now) in
    let pl : p.at.line ≡ o.at.line + 1 = ap (λ (z : Place). z.line) a in
    record {
      lines = ap text_lines text ∙ lines_more w p.rest.now h;
      end = ap (λ z. end_from z p.rest.now) a ∙ sym (ap (λ z. end_from o.at z) text
          ∙ (ap (λ z. end_from z (w ++ 10 ∷ p.rest.now)) at ∙ end_line o.at.line 1 w (10 ∷ p.rest.now) h));
      next = inr a;
      number = m;
      room = omega arith;
      shorter = omega arith;
      low = omega arith;
    }

-- the last line, without one
pub took_last : (o p : Lines) (line : TextLine) (behind : List ℕ) {b : Bool} → b ≡ (length o.rest.now == 0) → b ≡ false → IsNext o.at.line o.rest.now o.at
    → o.rest.now ≡ line.bytes.now ++ behind → list_all (is_not 10) line.bytes.now ≡ true → Stops (is_not 10) behind → BeginsNot 10 behind
    → line.number ≡ o.at.line → p.rest.now ≡ behind → p.at ≡ record { line = o.at.line; column = length line.bytes.now + 1 } → TakesLine o line p
took_last o p line behind t f n e h s none m r a =
    let w = line.bytes.now in
    let gone : behind ≡ [] = no_more behind s none in
    let text : o.rest.now ≡ w = e ∙ (ap (λ z. w ++ z) gone ∙ append-nil w) in
    let left : p.rest.now ≡ [] = r ∙ gone in
    let full : w ≡ [] → ⊥ = λ q. not_at_end o.rest.now t f (text ∙ q) in
    let at = begins o.at.line o.rest.now o.at n (not_at_end o.rest.now t f) in
    let long = ap length text in
    let short = ap length left in
    let some : 0 < length w = nonempty w full in
    let pl : p.at.line ≡ o.at.line = ap (λ (z : Place). z.line) a in
    record {
      lines = ap text_lines text ∙ (lines_last w h full ∙ ap (λ z. w ∷ text_lines z) (sym left));
      end =
          ap (λ z. end_from p.at z) left ∙ (a ∙ sym (ap (λ z. end_from o.at z) (text ∙ sym (append-nil w))
          ∙ (ap (λ z. end_from z (w ++ [])) at ∙ (end_line o.at.line 1 w [] h
          ∙ ap (λ j. place o.at.line j) (let q : 1 + length w ≡ length w + 1 = omega arith in q)))));
      next = inl left;
      number = m;
      room = omega arith;
      shorter = omega arith;
      low = omega arith;
    }
  where
    nonempty : (w : List ℕ) → (w ≡ [] → ⊥) → 0 < length w
    nonempty [] f = absurd (f refl)
    nonempty (b ∷ w) f = omega arith

    no_more : (bs : List ℕ) → Stops (is_not 10) bs → BeginsNot 10 bs → bs ≡ []
    no_more bs (ended e) none = e
    no_more bs (at_byte b others e f) none = absurd (none others (e ∙ ap (λ z. z ∷ others) (equal (b == 10) refl f)))
      where
        equal : (v : Bool) → (b == 10) ≡ v → not v ≡ false → b ≡ 10
        equal true t f = eqb-true b 10 t
        equal false t f = let x : true ≡ false = f in let y : ⊥ = cc in absurd y

pub no_line : (o p : Lines) {b : Bool} → b ≡ (length o.rest.now == 0) → b ≡ true → p.at ≡ o.at → HasNoLine o p
no_line o p t f a = record { rest = empty o.rest.now t f; at = a }
  where
    empty : {b : Bool} (bs : List ℕ) → b ≡ (length bs == 0) → b ≡ true → bs ≡ []
    empty [] t f = refl
    empty (x ∷ xs) t f = let e : (length (x ∷ xs) == 0) ≡ true = sym t ∙ f in let l : length (x ∷ xs) ≡ 0 = eqb-true (length (x ∷ xs)) 0 e in
        absurd (omega arith)

-- ---- the first line

pub version_is : (text : List ℕ) (o p : Lines) (line : TextLine) (v : List ℕ) → o.rest.now ≡ text → o.at ≡ record { line = 1; column = 1 } → TakesLine o line p
    → true ≡ bytes_eq line.bytes.now v → IsBehindVersion v text p
version_is text o p line v r a t h =
    let w : line.bytes.now ≡ v = (bytes_eq-Decides line.bytes.now v).0 (sym h) in
    let l : o.at.line ≡ 1 = ap (λ (z : Place). z.line) a in
    let n : o.at.line + 1 ≡ 2 = omega arith in
    let long = ap length r in
    let low = t.low in
    let shorter = t.shorter in
    record {
      lines = ap text_lines (sym r) ∙ (t.lines ∙ ap (λ z. z ∷ text_lines p.rest.now) w);
      end =
          t.end ∙ (ap (λ z. end_from z o.rest.now) a ∙ (ap (end_from (record { line = 1; column = 1 })) r
          ∙ ap (end_from (record { line = 1; column = 1 })) (sym (take_all (length text) text (omega arith)))));
      next = subst (λ j. IsNext j p.rest.now p.at) n t.next;
      shorter = omega arith;
      low = omega arith;
    }

pub no_version : (text v : List ℕ) (o p : Lines) → o.rest.now ≡ text → HasNoLine o p → HasNoVersion v (text_lines text)
no_version text v o p r n rest k = apart v rest (ap text_lines (sym n.rest ∙ r) ∙ k)
  where
    apart : (a : List ℕ) (us : List (List ℕ)) → [] ≡ a ∷ us → ⊥
    apart a us e = cc

-- ---- texts of lines

-- a text is its lines, the last with or without its LF
pub lines_back : (text : List ℕ) → (text ≡ flat_map with_end (text_lines text)) ⊎ (text ++ 10 ∷ [] ≡ flat_map with_end (text_lines text))
lines_back [] = inl refl
lines_back (b ∷ bs) = by_test (b == 10) refl (lines_back bs)
  where
    front : (ls : List (List ℕ)) → (text_lines bs ≡ ls) → (bs ≡ flat_map with_end ls) ⊎ (bs ++ 10 ∷ [] ≡ flat_map with_end ls)
        → (b ∷ bs ≡ flat_map with_end (add_byte b ls)) ⊎ (b ∷ (bs ++ 10 ∷ []) ≡ flat_map with_end (add_byte b ls))
    front [] q (inl e) = inr (ap (λ z. b ∷ (z ++ 10 ∷ [])) e)
    front [] q (inr e) = absurd (full bs e)
      where
        full : (us : List ℕ) → us ++ 10 ∷ [] ≡ [] → ⊥
        full [] e = cc
        full (u ∷ us) e = cc
    front (l ∷ ls) q (inl e) = inl (ap (λ z. b ∷ z) e)
    front (l ∷ ls) q (inr e) = inr (ap (λ z. b ∷ z) e)

    by_test : (v : Bool) → (b == 10) ≡ v → (bs ≡ flat_map with_end (text_lines bs)) ⊎ (bs ++ 10 ∷ [] ≡ flat_map with_end (text_lines bs))
        → (b ∷ bs ≡ flat_map with_end (if v then [] ∷ text_lines bs else add_byte b (text_lines bs)))
        ⊎ (b ∷ (bs ++ 10 ∷ []) ≡ flat_map with_end (if v then [] ∷ text_lines bs else add_byte b (text_lines bs)))
    by_test true t (inl e) = let q : b ≡ 10 = eqb-true b 10 t in inl (ap (λ z. z ∷ bs) q ∙ ap (λ z. 10 ∷ z) e)
    by_test true t (inr e) = let q : b ≡ 10 = eqb-true b 10 t in inr (ap (λ z. z ∷ (bs ++ 10 ∷ [])) q ∙ ap (λ z. 10 ∷ z) e)
    by_test false t h = front (text_lines bs) refl h
