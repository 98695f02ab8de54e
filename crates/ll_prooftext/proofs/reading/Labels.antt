-- The labels of a set, read one by one.
use Rattle.std.proofs.Common.{◌≡◌, ℕ, suc, ◌+◌, ◌<◌, ◌≤◌, ◌^◌, Bool, true, false, List, [], ◌∷◌, ◌++◌, length, refl, ap, sym, subst, ◌∙◌, arith, decimal}
use Rattle.std.proofs.Common.{append_assoc, append-nil, add-one, inl, inr, ◌⊎◌, ◌%◌}
use Rattle.std.proofs.lemmas.List.{append_cancel_left}
use Rattle.std.proofs.lemmas.Bool.{leb-true, le-leb, ne_eqb, eqb-true, eq-eqb}
use Rattle.std.specs.Prelude.{IsTrue, nat_lt, nat_le, ◌&&◌, ◌==◌}
use Rattle.std.specs.List.{list_all}
use Rattle.std.proofs.lemmas.List.Folds.{list_all-append}
use Rattle.std.proofs.lemmas.List.Elements.{All-nil, All-head, All-tail, All-push}
use Rattle.std.proofs.lemmas.Fmt.{decimal_by_steps, decimal_injective}
use Rattle.ll_list_laws.proofs.CallerLemmas.{and_true_left as and_left, and_true_right as and_right, true_from_not}
use Rattle.ll_laws.specs.Line.{rises}
use Rattle.ll_laws.specs.ProofText.{labels_text, field}
use Rattle.ll_prooftext.specs.Admitted.{AreLabels}
use Rattle.ll_prooftext.specs.Reading.{IsNumber, IsAtEnd, IsSet, line_end, space}
use Rattle.ll_prooftext.specs.Words.{Stops, ended, at_byte, is_not, BeginsNot, IsLabelsText, IsSetAt}
use Rattle.ll_prooftext.proofs.spelling.Cuts.{one_cut, first, tail}

-- ---- digits

-- a byte of a number
abbrev pub is_figure : ℕ → Bool
is_figure b = nat_le 48 b && nat_le b 57

-- a number is spelled by figures
pub decimal_figures : (n : ℕ) → n < 2 ^ 64 → list_all is_figure (decimal n) ≡ true
decimal_figures n h = decimal_by_steps (λ m ds. list_all is_figure ds ≡ true) one more n h
  where
    figure : (d : ℕ) → d < 10 → is_figure (48 + d) ≡ true
    figure d l = let a : nat_le 48 (48 + d) ≡ true = grind arith in let b : nat_le (48 + d) 57 ≡ true = grind arith in rw (a, b) refl

    one : (m : ℕ) → m < 10 → list_all is_figure ((48 + m) ∷ []) ≡ true
    one m l = rw (figure m l) refl

    more : (m : ℕ) (ds : List ℕ) → 10 ≤ m → list_all is_figure ds ≡ true → list_all is_figure (ds ++ ((48 + m % 10) ∷ [])) ≡ true
    more m ds l ih = list_all-append is_figure ds ((48 + m % 10) ∷ []) ∙ (let a = one (m % 10) (omega arith) in rw (ih, a) refl)

-- figures pass each test that they all pass
pub figures_pass : (p : ℕ → Bool) → ((b : ℕ) → is_figure b ≡ true → p b ≡ true) → (w : List ℕ) → list_all is_figure w ≡ true → list_all p w ≡ true
figures_pass p f [] h = refl
figures_pass p f (b ∷ w) h = let a = f b (first is_figure b w h) in let t = figures_pass p f w (tail is_figure b w h) in rw (a, t) refl

-- a figure is at least 48 and at most 57
pub figure_low : (b : ℕ) → is_figure b ≡ true → 48 ≤ b
figure_low b h = leb-true 48 b (and_left (nat_le 48 b) (nat_le b 57) h)

pub figure_high : (b : ℕ) → is_figure b ≡ true → b ≤ 57
figure_high b h = leb-true b 57 (and_right (nat_le 48 b) (nat_le b 57) h)

-- so it is no byte outside
pub figure_not : (x b : ℕ) → (x < 48) ⊎ (57 < x) → is_figure b ≡ true → is_not x b ≡ true
figure_not x b o h =
    let l = figure_low b h in
    let k = figure_high b h in
    let ne : b ≡ x → ⊥ = elim o [ inl a ↦ λ e. omega arith | inr a ↦ λ e. omega arith ] in
    let e : (b == x) ≡ false = ne_eqb b x ne in
    rw e refl

pub decimal_not : (x n : ℕ) → n < 2 ^ 64 → (x < 48) ⊎ (57 < x) → list_all (is_not x) (decimal n) ≡ true
decimal_not x n h o = figures_pass (is_not x) (λ b. figure_not x b o) (decimal n) (decimal_figures n h)

-- ---- rising labels

-- labels that rise from at least this one on
abbrev pub rises_from : ℕ → List ℕ → Bool
rises_from least [] = true
rises_from least (n ∷ ns) = nat_le least n && rises_from (suc n) ns

rises_behind : (m : ℕ) (ns : List ℕ) → rises (m ∷ ns) ≡ rises_from (suc m) ns
rises_behind m [] = refl
rises_behind m (n ∷ ns) = ap (λ b. nat_lt m n && b) (rises_behind n ns)

pub rises_all : (ns : List ℕ) → rises ns ≡ rises_from 0 ns
rises_all [] = refl
rises_all (n ∷ ns) = rises_behind n ns ∙ (let l : nat_le 0 n ≡ true = le-leb 0 n (omega arith) in rw l refl)

-- ---- the text of labels

-- the labels behind the first one
abbrev pub behind_text : List ℕ → List ℕ
behind_text [] = []
behind_text (n ∷ ns) = 32 ∷ labels_text (n ∷ ns)

pub labels_split : (m : ℕ) (ms : List ℕ) → labels_text (m ∷ ms) ≡ decimal m ++ behind_text ms
labels_split m [] = sym (append-nil (decimal m))
labels_split m (n ∷ ns) = refl

pub behind_stops : (ms : List ℕ) → Stops (is_not 32) (behind_text ms)
behind_stops [] = ended refl
behind_stops (n ∷ ns) = at_byte 32 (labels_text (n ∷ ns)) refl refl

-- labels and some more behind them
pub record GoesOn (ns items : List ℕ) : Type 0 where
  pub next : ℕ
  pub others : List ℕ
  pub is : ns ≡ items ++ next ∷ others

-- these labels were read, and at least this one may come
pub record IsReadTo (body items rest : List ℕ) (least : ℕ) : Type 0 where
  pub done : List ℕ
  pub is : body ≡ done ++ rest
  pub texts : (m : ℕ) (ms : List ℕ) → labels_text (items ++ m ∷ ms) ≡ done ++ labels_text (m ∷ ms)
  pub rising : (ms : List ℕ) → rises_from 0 (items ++ ms) ≡ rises_from least ms
  pub small : AreLabels items
  pub goes : (ns : List ℕ) → AreLabels ns → body ≡ labels_text ns → GoesOn ns items

pub none_read : (body : List ℕ) → (body ≡ [] → ⊥) → IsReadTo body [] body 0
none_read body full = record { done = []; is = refl; texts = λ m ms. refl; rising = λ ms. refl; small = All-nil (λ n. n < 2 ^ 32); goes = goes }
  where
    goes : (ns : List ℕ) → AreLabels ns → body ≡ labels_text ns → GoesOn ns []
    goes [] a e = absurd (full e)
    goes (n ∷ ns) a e = record { next = n; others = ns; is = refl }

-- a text of labels goes on with its next one
pub record Next (items word tail ns : List ℕ) (least : ℕ) : Type 0 where
  pub label : ℕ
  pub others : List ℕ
  pub is : ns ≡ items ++ label ∷ others
  pub small : label < 2 ^ 32
  pub word_is : word ≡ decimal label
  pub tail_is : tail ≡ behind_text others
  pub above : IsTrue (rises ns) → least ≤ label

pub next_label : (body items rest : List ℕ) (least : ℕ) (word tail ns : List ℕ) → IsReadTo body items rest least → rest ≡ word ++ tail
    → list_all (is_not 32) word ≡ true → Stops (is_not 32) tail → AreLabels ns → body ≡ labels_text ns → Next items word tail ns least
next_label body items rest least word tail ns r e free st small is =
    let g = r.goes ns small is in
    let n = g.next in
    let b : labels_text ns ≡ r.done ++ labels_text (n ∷ g.others) = ap labels_text g.is ∙ r.texts n g.others in
    let w : rest ≡ labels_text (n ∷ g.others) = append_cancel_left r.done rest (labels_text (n ∷ g.others)) (sym r.is ∙ (is ∙ b)) in
    let l : n < 2 ^ 32 = All-head (λ m. m < 2 ^ 32) n g.others (part items (n ∷ g.others) (subst (λ z. AreLabels z) g.is small)) in
    let c : word ++ tail ≡ decimal n ++ behind_text g.others = sym e ∙ (w ∙ labels_split n g.others) in
    let k = one_cut (is_not 32) word (decimal n) tail (behind_text g.others) free (decimal_not 32 n (omega arith) (inl (omega arith))) st
    (behind_stops g.others) c in
    record { label = n; others = g.others; is = g.is; small = l; word_is = k.0; tail_is = k.1; above = above n g.others g.is }
  where
    part : (xs ys : List ℕ) → AreLabels (xs ++ ys) → AreLabels ys
    part [] ys h = h
    part (x ∷ xs) ys h = part xs ys (All-tail (λ m. m < 2 ^ 32) x (xs ++ ys) h)

    above : (n : ℕ) (others : List ℕ) → ns ≡ items ++ n ∷ others → IsTrue (rises ns) → least ≤ n
    above n others e t =
        let u : rises ns ≡ true = t in
        let v : rises_from least (n ∷ others) ≡ true = sym (r.rising (n ∷ others)) ∙ (ap (rises_from 0) (sym e) ∙ (sym (rises_all ns) ∙ u)) in
        leb-true least n (and_left (nat_le least n) (rises_from (suc n) others) v)

-- one label more
pub one_more : (body items rest : List ℕ) (least : ℕ) (word tail behind : List ℕ) (n : ℕ) → IsReadTo body items rest least → rest ≡ word ++ tail
    → list_all (is_not 32) word ≡ true → Stops (is_not 32) tail → n < 2 ^ 32 → word ≡ decimal n → least ≤ n → tail ≡ 32 ∷ behind
    → IsReadTo body (items ++ n ∷ []) behind (n + 1)
one_more body items rest least word tail behind n r e free st small w a t = record {
  done = r.done ++ (word ++ 32 ∷ []);
  is = r.is ∙ (ap (λ z. r.done ++ z) (e ∙ ap (λ z. word ++ z) t) ∙ regroup r.done word behind);
  texts = λ m ms. ap labels_text (append_assoc items (n ∷ []) (m ∷ ms))
      ∙ (r.texts n (m ∷ ms) ∙ (ap (λ z. r.done ++ (z ++ 32 ∷ labels_text (m ∷ ms))) (sym w) ∙ regroup r.done word (labels_text (m ∷ ms))));
  rising = λ ms. ap (rises_from 0) (append_assoc items (n ∷ []) ms) ∙ (r.rising (n ∷ ms) ∙ rising ms);
  small = All-push (λ m. m < 2 ^ 32) items n r.small small;
  goes = goes;
}
  where
    regroup : (a b c : List ℕ) → a ++ (b ++ 32 ∷ c) ≡ (a ++ (b ++ 32 ∷ [])) ++ c
    regroup a b c = simp append_assoc

    rising : (ms : List ℕ) → rises_from least (n ∷ ms) ≡ rises_from (n + 1) ms
    rising ms = let le : nat_le least n ≡ true = le-leb least n a in rw (le, add-one) refl

    finish : (ns others : List ℕ) (m : ℕ) → ns ≡ items ++ m ∷ others → m ≡ n → 32 ∷ behind ≡ behind_text others → GoesOn ns (items ++ n ∷ [])
    finish ns [] m e q f = absurd cc
    finish ns (k ∷ ks) m e q f = record { next = k; others = ks; is = e ∙ (ap (λ z. items ++ z ∷ k ∷ ks) q ∙ sym (append_assoc items (n ∷ []) (k ∷ ks))) }

    goes : (ns : List ℕ) → AreLabels ns → body ≡ labels_text ns → GoesOn ns (items ++ n ∷ [])
    goes ns s is =
        let k = next_label body items rest least word tail ns r e free st s is in
        let q : k.label ≡ n = decimal_injective k.label n (let l = k.small in omega arith) (omega arith) (sym k.word_is ∙ w) in
        finish ns k.others k.label k.is q (sym t ∙ k.tail_is)

-- a word that is no number
pub no_label : (body items rest : List ℕ) (least : ℕ) (word tail : List ℕ) → IsReadTo body items rest least → rest ≡ word ++ tail
    → list_all (is_not 32) word ≡ true → Stops (is_not 32) tail → (IsNumber word → ⊥) → (ns : List ℕ) → IsLabelsText body ns → ⊥
no_label body items rest least word tail r e free st none ns l =
    let k = next_label body items rest least word tail ns r e free st l.small l.is in
    none (record { number = k.label; small = k.small; is = k.word_is })

-- a number that is too low
pub no_rise : (body items rest : List ℕ) (least : ℕ) (word tail : List ℕ) (n : ℕ) → IsReadTo body items rest least → rest ≡ word ++ tail
    → list_all (is_not 32) word ≡ true → Stops (is_not 32) tail → n < 2 ^ 32 → word ≡ decimal n → n < least → (ns : List ℕ) → IsLabelsText body ns → ⊥
no_rise body items rest least word tail n r e free st small w low ns l =
    let k = next_label body items rest least word tail ns r e free st l.small l.is in
    let q : k.label ≡ n = decimal_injective k.label n (let l = k.small in omega arith) (omega arith) (sym k.word_is ∙ w) in
    let a : least ≤ k.label = k.above l.rising in
    omega arith

-- the last label
pub all_read : (body items rest : List ℕ) (least : ℕ) (word tail : List ℕ) (n : ℕ) → IsReadTo body items rest least → rest ≡ word ++ tail
    → Stops (is_not 32) tail → BeginsNot 32 tail → n < 2 ^ 32 → word ≡ decimal n → least ≤ n → IsLabelsText body (items ++ n ∷ [])
all_read body items rest least word tail n r e st bare small w a = record {
  small = All-push (λ m. m < 2 ^ 32) items n r.small small;
  rising = let le : nat_le least n ≡ true = le-leb least n a in rises_all (items ++ n ∷ []) ∙ (r.rising (n ∷ []) ∙ (rw le refl));
  is = r.is ∙ (ap (λ z. r.done ++ z) (e ∙ (ap (λ z. word ++ z) (empty st) ∙ (append-nil word ∙ w))) ∙ sym (r.texts n []));
}
  where
    not_equal : (b : ℕ) → is_not 32 b ≡ false → b ≡ 32
    not_equal b h = eqb-true b 32 (true_from_not (b == 32) h)

    empty : Stops (is_not 32) tail → tail ≡ []
    empty (ended z) = z
    empty (at_byte b bs z f) = absurd (bare bs (z ∙ ap (λ x. x ∷ bs) (not_equal b f)))

-- ---- ends of fields

pub end_of_line : (rest : List ℕ) → length rest ≡ 0 → (IsTrue true → IsAtEnd rest) × (IsAtEnd rest → IsTrue true)
end_of_line [] h = (λ t. line_end, λ t. refl)
end_of_line (b ∷ bs) h = absurd (omega arith)

pub end_at_byte : (rest : List ℕ) (b : ℕ) (bs : List ℕ) → rest ≡ b ∷ bs → (IsTrue (b == 32) → IsAtEnd rest) × (IsAtEnd rest → IsTrue (b == 32))
end_at_byte rest b bs e = (λ t. subst IsAtEnd (ap (λ x. x ∷ bs) (sym (eqb-true b 32 t)) ∙ sym e) space, λ a. ended_by rest e a)
  where
    ended_by : (r : List ℕ) → r ≡ b ∷ bs → IsAtEnd r → (b == 32) ≡ true
    ended_by r e line_end = absurd cc
    ended_by r e space = eq-eqb b 32 (let q : b ≡ 32 = cc in q)

-- ---- sets

-- the text of labels has no bytes but figures and spaces
pub labels_avoid : (x : ℕ) → (x < 48) ⊎ (57 < x) → is_not x 32 ≡ true → (ns : List ℕ) → AreLabels ns → list_all (is_not x) (labels_text ns) ≡ true
labels_avoid x o s [] a = refl
labels_avoid x o s (n ∷ ns) a =
    let l : n < 2 ^ 32 = All-head (λ m. m < 2 ^ 32) n ns a in
    let f : list_all (is_not x) (decimal n) ≡ true = decimal_not x n (omega arith) o in
    ap (list_all (is_not x)) (labels_split n ns) ∙ (list_all-append (is_not x) (decimal n) (behind_text ns)
    ∙ (let g = others ns (labels_avoid x o s ns (All-tail (λ m. m < 2 ^ 32) n ns a)) in rw (f, g) refl))
  where
    others : (ms : List ℕ) → list_all (is_not x) (labels_text ms) ≡ true → list_all (is_not x) (behind_text ms) ≡ true
    others [] h = refl
    others (m ∷ ms) h = rw (s, h) refl

pub labels_free : (ns : List ℕ) → AreLabels ns → list_all (is_not 125) (labels_text ns) ≡ true
labels_free ns a = labels_avoid 125 (inr (omega arith)) refl ns a

-- a set at the front is the one between these braces
pub set_found : (bytes inside body tail field r : List ℕ) → bytes ≡ 123 ∷ inside → inside ≡ body ++ tail → list_all (is_not 125) body ≡ true
    → Stops (is_not 125) tail → (s : IsSet field) → bytes ≡ field ++ r → IsLabelsText body s.labels × (tail ≡ 125 ∷ r)
set_found bytes inside body tail field r b i free st s e =
    let n = s.labels in
    let f : field ++ r ≡ 123 ∷ (labels_text n ++ 125 ∷ r) = ap (λ z. z ++ r) s.is ∙ simp append_assoc in
    let g : body ++ tail ≡ labels_text n ++ 125 ∷ r = let h : 123 ∷ inside ≡ 123 ∷ (labels_text n ++ 125 ∷ r) = sym b ∙ (e ∙ f) in
    sym i ∙ (let q : inside ≡ labels_text n ++ 125 ∷ r = cc in q) in
    let k = one_cut (is_not 125) body (labels_text n) tail (125 ∷ r) free (labels_free n s.small) st (at_byte 125 r refl refl) g in
    (record { small = s.small; rising = s.rising; is = k.0 }, k.1)

-- the set between these braces
pub set_made : (bytes inside body tail rest labels : List ℕ) → bytes ≡ 123 ∷ inside → inside ≡ body ++ tail → tail ≡ 125 ∷ rest → IsAtEnd rest
    → IsLabelsText body labels → IsSetAt bytes labels rest
set_made bytes inside body tail rest labels b i t end l = record {
  small = l.small;
  rising = l.rising;
  is = b ∙ (ap (λ z. 123 ∷ z) (i ∙ (ap (λ z. body ++ z) t ∙ ap (λ z. z ++ 125 ∷ rest) l.is)) ∙ regroup (labels_text labels));
  end = end;
}
  where
    regroup : (w : List ℕ) → 123 ∷ (w ++ 125 ∷ rest) ≡ (123 ∷ (w ++ 125 ∷ [])) ++ rest
    regroup w = simp append_assoc
