-- Rows and a derivation over them on their way, line by line.
use Rattle.std.proofs.Common.{◌≡◌, ℕ, suc, ◌+◌, ◌-◌, ◌<◌, ◌≤◌, true, List, [], ◌∷◌, ◌++◌, length, map, All, refl, ap, sym, subst, ◌∙◌, arith, codes}
use Rattle.std.proofs.Common.{append_assoc, length-append, Some, inl, inr, decimal}
use Rattle.std.specs.Prelude.{◌&&◌}
use Rattle.std.specs.List.{flat_map}
use Rattle.std.proofs.lemmas.List.{map-append}
use Rattle.std.proofs.lemmas.List.Elements.{All-nil, All-push}
use Rattle.ll_list_laws.proofs.CallerLemmas.{and_true_left as and_left, and_true_right as and_right}
use Rattle.ll_bank.specs.declared.At.{At}
use Rattle.ll_bank.specs.Names.{with_names}
use Rattle.ll_bank.specs.Term.{Term}
use Rattle.ll_bank.specs.Nodes.{term_tree, term_trees}
use Rattle.ll_laws.specs.Line.{Line, OneLine, EraseLine, TensorLine, WithLine, LeftLine, RightLine, BangLine, UseLine, LolliLine, ImpLine, ForallLine}
use Rattle.ll_laws.specs.Line.{ExistsLine, ClauseLine, NumLine}
use Rattle.ll_laws.specs.ProofText.{field, part_field}
use Rattle.ll_laws.specs.ShownLines.{line_of}
use Rattle.ll_laws.specs.declared.Rule.{Rule}
use Rattle.ll_lexer.specs.declared.Place.{Place}
use Rattle.ll_lexer.specs.Reading.{place_at}
use Rattle.ll_prooftext.specs.declared.reader.TextLine.{TextLine}
use Rattle.ll_prooftext.specs.declared.reader.Lines.{Lines}
use Rattle.ll_prooftext.specs.declared.shared_reader.Sharing.{Sharing}
use Rattle.ll_lexer.specs.Spelling.{is_lower, is_word_byte}
use Rattle.ll_prooftext.specs.Mentions.{scanned, name_here, word_run, mentions, line_names}
use Rattle.ll_prooftext.specs.Reading.{text_lines, is_none, children, missing}
use Rattle.ll_prooftext.specs.Terms.{Grows, IsSpelledAt}
use Rattle.ll_prooftext.specs.RowWords.{IsGoodRule}
use Rattle.ll_prooftext.specs.Reader.{end_from, IsNext, TakesLine, IsBehindVersion}
use Rattle.ll_prooftext.specs.Cells.{Stays}
use Rattle.ll_prooftext.specs.Sharing.{AreShares, no_shares, next_share, IsLet, IsStep, AreEach}
use Rattle.ll_prooftext.specs.SharedLines.{IsShareRow, IsLetOver, IsStepOver}
use Rattle.ll_prooftext.specs.SharedReader.{rows_of, TakesOver, share, variable, node}
use Rattle.ll_prooftext.proofs.reading.CellsRead.{rows_same, rows_stay}
use Rattle.ll_prooftext.proofs.spelling.Kept.{grows_none, grows_on}
use Rattle.ll_prooftext.proofs.reading.SoFar.{rules_good, rules_same, missing_push, parts_few, children_few, names_more, empty}

-- ---- things and their lines, one by one

pub each_push : {X : Type 0} (P : X → List ℕ → Type 0) (xs : List X) (ls : List (List ℕ)) (x : X) (l : List ℕ) → AreEach P xs ls → P x l
    → AreEach P (xs ++ x ∷ []) (ls ++ l ∷ [])
each_push P [] [] x l a p = (p, tt)
each_push P [] (m ∷ ls) x l a p = absurd a
each_push P (y ∷ xs) [] x l a p = absurd a
each_push P (y ∷ xs) (m ∷ ls) x l a p = (a.0, each_push P xs ls x l a.1 p)

each_none : {X : Type 0} (P : X → List ℕ → Type 0) (xs : List X) (ls : List (List ℕ)) → xs ≡ [] → AreEach P xs ls → ls ≡ []
each_none P [] [] e a = refl
each_none P [] (l ∷ ls) e a = absurd a
each_none P (x ∷ xs) ls e a = absurd cc

step_few : (names : List (List ℕ)) (rows : List Term) (n : Line) (l : List ℕ) → IsStep names rows n l → children n ≤ length l
step_few names rows (ExistsLine t) l s = let e = ap length s.is in omega arith
step_few names rows (ClauseLine n k ts ps) l s =
    let e = ap length s.is in
    let a = length-append (codes "clause") (field (decimal n) ++ (field (decimal k) ++ (s.cells ++ flat_map part_field ps))) in
    let b = length-append (field (decimal n)) (field (decimal k) ++ (s.cells ++ flat_map part_field ps)) in
    let c = length-append (field (decimal k)) (s.cells ++ flat_map part_field ps) in
    let d = length-append s.cells (flat_map part_field ps) in
    let f = parts_few ps in
    omega arith
step_few names rows OneLine l s = omega arith
step_few names rows EraseLine l s = omega arith
step_few names rows (TensorLine a b) l s = let e = ap length s in let f = children_few [] (TensorLine a b) in omega arith
step_few names rows WithLine l s = let e = ap length s in omega arith
step_few names rows LeftLine l s = let e = ap length s in omega arith
step_few names rows RightLine l s = let e = ap length s in omega arith
step_few names rows BangLine l s = let e = ap length s in omega arith
step_few names rows (LolliLine n) l s = let e = ap length s in let f = children_few [] (LolliLine n) in omega arith
step_few names rows (ImpLine n) l s = let e = ap length s in let f = children_few [] (ImpLine n) in omega arith
step_few names rows (ForallLine c) l s = let e = ap length s in let f = children_few [] (ForallLine c) in omega arith
step_few names rows UseLine l s = let e = ap length s in omega arith
step_few names rows NumLine l s = omega arith

-- ---- what was read so far

-- how many lines were read behind the first one
abbrev pub lines_read : Sharing → ℕ
lines_read o = length o.rows.items + length o.asked.items + length o.nodes.items

pub record IsSoFarOver (text : List ℕ) (old names : List (List ℕ)) (o : Sharing) (p : Lines) : Type 0 where
  pub shares : List (List ℕ)
  pub lets : List (List ℕ)
  pub steps : List (List ℕ)
  pub lines : text_lines text ≡ codes "proof 2" ∷ (shares ++ (lets ++ (steps ++ text_lines p.rest.now)))
  pub rows : All (λ a. IsSpelledAt names o.bank a.0) o.rows.items
  pub asked : All (λ a. IsSpelledAt names o.bank a.0) o.asked.items
  pub nodes : All (IsGoodRule names o.bank) o.nodes.items
  pub are_rows : Stays names (λ ns. AreShares ns (rows_of o) shares)
  pub are_asked : Stays names (λ ns. AreEach (IsLet ns (rows_of o)) (term_trees o.bank o.asked.items) lets)
  pub are_nodes : Stays names (λ ns. AreEach (IsStep ns (rows_of o)) (map (line_of o.bank) o.nodes.items) steps)
  pub still : missing 1 (map (line_of o.bank) o.nodes.items) ≡ Some o.lacking
  pub grows : Grows old names
  pub names_on : with_names old (flat_map line_names (text_lines text)) ≡ with_names names (flat_map line_names (text_lines p.rest.now))
  pub room : length names + length p.rest.now ≤ length old + length text
  pub end : end_from p.at p.rest.now ≡ place_at text (length text)
  pub next : IsNext (lines_read o + 2) p.rest.now p.at
  pub low : p.at.line + length p.rest.now ≤ 1 + length text
  pub few : o.lacking + length p.rest.now ≤ 1 + length text
  pub many : lines_read o + length p.rest.now ≤ length text

version_names : line_names (codes "proof 2") ≡ []
unfolding line_names mentions name_here scanned word_run is_lower is_word_byte
version_names = refl

pub over_none : (text : List ℕ) (names : List (List ℕ)) (o : Sharing) (p : Lines) → IsBehindVersion (codes "proof 2") text p → o.rows.items ≡ []
    → o.asked.items ≡ [] → o.nodes.items ≡ [] → o.lacking ≡ 1 → IsSoFarOver text names names o p
over_none text names o p b r a n l = record {
  shares = [];
  lets = [];
  steps = [];
  lines = b.lines;
  rows = subst (All (λ (t : At). IsSpelledAt names o.bank t.0)) (sym r) (All-nil (λ (t : At). IsSpelledAt names o.bank t.0));
  asked = subst (All (λ (t : At). IsSpelledAt names o.bank t.0)) (sym a) (All-nil (λ (t : At). IsSpelledAt names o.bank t.0));
  nodes = subst (All (IsGoodRule names o.bank)) (sym n) (All-nil (IsGoodRule names o.bank));
  are_rows = λ ns g. no_shares (ap (term_trees o.bank) r) refl;
  are_asked = λ ns g. subst (λ (xs : List At). AreEach (IsLet ns (rows_of o)) (term_trees o.bank xs) []) (sym a) tt;
  are_nodes = λ ns g. subst (λ (xs : List Rule). AreEach (IsStep ns (rows_of o)) (map (line_of o.bank) xs) []) (sym n) tt;
  still = ap (λ z. missing 1 (map (line_of o.bank) z)) n ∙ ap (λ z. Some z) (sym l);
  grows = grows_none names;
  names_on = names_more names names (codes "proof 2") (text_lines text) (text_lines p.rest.now) b.lines (ap (with_names names) version_names);
  room = let s = b.shorter in omega arith;
  end = b.end;
  next = subst (λ j. IsNext j p.rest.now p.at) (let x = ap length a in let y = ap length n in let z = ap length r in
      let q : 2 ≡ lines_read o + 2 = omega arith in q) b.next;
  low = b.low;
  few = let s = b.shorter in omega arith;
  many = let s = b.shorter in let x = ap length a in let y = ap length n in let z = ap length r in omega arith;
}

-- the number of the line that is taken
pub line_number : (text : List ℕ) (old names : List (List ℕ)) (o : Sharing) (p q : Lines) (line : TextLine) → IsSoFarOver text old names o p
    → TakesLine p line q → line.number ≡ lines_read o + 2
line_number text old names o p q line s t = t.number ∙ by_next s.next
  where
    some : p.rest.now ≡ [] → ⊥
    some e = let l = ap length e in let k = t.shorter in let x : ⊥ = omega arith in x

    by_next : IsNext (lines_read o + 2) p.rest.now p.at → p.at.line ≡ lines_read o + 2
    by_next (inl e) = absurd (some e)
    by_next (inr e) = ap (λ (z : Place). z.line) e

-- so there are few rows
pub rows_few : (text : List ℕ) (old names : List (List ℕ)) (o : Sharing) (p q : Lines) (line : TextLine) → IsSoFarOver text old names o p → TakesLine p line q
    → length o.rows.items ≤ length text
rows_few text old names o p q line s t = let n = line_number text old names o p q line s t in let m = t.number in let l = s.low in let k = t.shorter in
    omega arith

-- one line more
module _ (text : List ℕ) (old names : List (List ℕ)) (o : Sharing) (p : Lines) (line : TextLine) (q : Lines) (new : List (List ℕ)) (r : Sharing)
    (s : IsSoFarOver text old names o p) (t : TakesLine p line q) (lacks : 0 < o.lacking) where
  abbrev spelled_now : At → Type 0
  spelled_now a = IsSpelledAt new r.bank a.0

  next_on : lines_read r ≡ lines_read o + 1 → IsNext (lines_read r + 2) q.rest.now q.at
  next_on e =
      let n = line_number text old names o p q line s t in
      let m = t.number in
      subst (λ j. IsNext j q.rest.now q.at) (let k : p.at.line + 1 ≡ lines_read r + 2 = omega arith in k) t.next

  bytes_there : text_lines text ≡ codes "proof 2" ∷ (s.shares ++ (s.lets ++ (s.steps ++ line.bytes.now ∷ text_lines q.rest.now)))
  bytes_there = s.lines ∙ ap (λ z. codes "proof 2" ∷ (s.shares ++ (s.lets ++ (s.steps ++ z)))) t.lines

  between : (a b : List (List ℕ)) (x : List ℕ) (rest : List (List ℕ)) → a ++ (b ++ x ∷ rest) ≡ a ++ ((b ++ x ∷ []) ++ rest)
  between a b x rest = ap (λ z. a ++ z) (sym (append_assoc b (x ∷ []) rest))

  -- what holds of the names and the places after the line
  record IsOn (g : Grows names new) : Type 0 where
    pub grows : Grows old new
    pub names_on : with_names old (flat_map line_names (text_lines text)) ≡ with_names new (flat_map line_names (text_lines q.rest.now))
    pub room : length new + length q.rest.now ≤ length old + length text
    pub end : end_from q.at q.rest.now ≡ place_at text (length text)
    pub low : q.at.line + length q.rest.now ≤ 1 + length text

  on : (g : Grows names new) → length new ≤ length names + length line.bytes.now → with_names names (line_names line.bytes.now) ≡ new → IsOn g
  on g f e = record {
    grows = grows_on old names new s.grows g;
    names_on = s.names_on ∙ names_more names new line.bytes.now (text_lines p.rest.now) (text_lines q.rest.now) t.lines e;
    room = let a = s.room in let b = t.room in omega arith;
    end = t.end ∙ s.end;
    low = let a = s.low in let b = t.low in omega arith;
  }

  share_more : (at : At) → (is_none o.asked.items && is_none o.nodes.items) ≡ true → IsShareRow (rows_of o) names o.bank line.bytes.now new r.bank at.0
      → r.rows.items ≡ o.rows.items ++ at ∷ [] → r.asked.items ≡ o.asked.items → r.nodes.items ≡ o.nodes.items → r.lacking ≡ o.lacking
      → IsSoFarOver text old new r q
  share_more at may w x a n l =
      let g = w.moves.grows in
      let e = w.moves.keeps in
      let k = on g w.moves.few w.moves.names_on in
      let no_asked : o.asked.items ≡ [] = empty o.asked.items (and_left (is_none o.asked.items) (is_none o.nodes.items) may) in
      let no_nodes : o.nodes.items ≡ [] = empty o.nodes.items (and_right (is_none o.asked.items) (is_none o.nodes.items) may) in
      let no_lets : s.lets ≡ [] = each_none (IsLet names (rows_of o)) (term_trees o.bank o.asked.items) s.lets (ap (term_trees o.bank) no_asked)
      (s.are_asked names (grows_none names)) in
      let no_steps : s.steps ≡ [] = each_none (IsStep names (rows_of o)) (map (line_of o.bank) o.nodes.items) s.steps (ap (map (line_of o.bank)) no_nodes)
      (s.are_nodes names (grows_none names)) in
      let trees : rows_of r ≡ rows_of o ++ term_tree r.bank at.0 ∷ [] =
      ap (term_trees r.bank) x ∙ (map-append (λ (b : At). term_tree r.bank b.0) o.rows.items (at ∷ [])
      ∙ ap (λ z. z ++ term_tree r.bank at.0 ∷ []) (rows_same names o.bank r.bank o.rows.items e s.rows)) in
      let two = ap length x in
      let three = length-append o.rows.items (at ∷ []) in
      let four = ap length a in
      let five = ap length n in
      record {
        shares = s.shares ++ line.bytes.now ∷ [];
        lets = [];
        steps = [];
        lines = bytes_there ∙ (ap (λ z. codes "proof 2" ∷ (s.shares ++ (z ++ (s.steps ++ line.bytes.now ∷ text_lines q.rest.now)))) no_lets
            ∙ (ap (λ z. codes "proof 2" ∷ (s.shares ++ (z ++ line.bytes.now ∷ text_lines q.rest.now))) no_steps
            ∙ ap (λ z. codes "proof 2" ∷ z) (sym (append_assoc s.shares (line.bytes.now ∷ []) (text_lines q.rest.now)))));
        rows = subst (All spelled_now) (sym x) (All-push spelled_now o.rows.items at (rows_stay names o.bank new r.bank o.rows.items g e s.rows) w.good);
        asked = subst (All spelled_now) (sym (a ∙ no_asked)) (All-nil spelled_now);
        nodes = subst (All (IsGoodRule new r.bank)) (sym (n ∙ no_nodes)) (All-nil (IsGoodRule new r.bank));
        are_rows = λ ns grow. next_share (rows_of o) s.shares (term_tree r.bank at.0) line.bytes.now (s.are_rows ns (grows_on names new ns g grow))
            (w.shown ns grow) trees refl;
        are_asked = λ ns grow. subst (λ (xs : List At). AreEach (IsLet ns (rows_of r)) (term_trees r.bank xs) []) (sym (a ∙ no_asked)) tt;
        are_nodes = λ ns grow. subst (λ (xs : List Rule). AreEach (IsStep ns (rows_of r)) (map (line_of r.bank) xs) []) (sym (n ∙ no_nodes)) tt;
        still = ap (λ z. missing 1 (map (line_of r.bank) z)) (n ∙ no_nodes)
            ∙ (sym (ap (λ z. missing 1 (map (line_of o.bank) z)) no_nodes) ∙ (s.still ∙ ap (λ z. Some z) (sym l)));
        grows = k.grows;
        names_on = k.names_on;
        room = k.room;
        end = k.end;
        next = next_on (omega arith);
        low = k.low;
        few = let f = s.few in let h = t.shorter in omega arith;
        many = let m = s.many in let h = t.shorter in omega arith;
      }

  let_more : (at : At) → is_none o.nodes.items ≡ true → IsLetOver (rows_of o) names o.bank line.bytes.now new r.bank at.0 → r.rows.items ≡ o.rows.items
      → r.asked.items ≡ o.asked.items ++ at ∷ [] → r.nodes.items ≡ o.nodes.items → r.lacking ≡ o.lacking → IsSoFarOver text old new r q
  let_more at may w x a n l =
      let g = w.moves.grows in
      let e = w.moves.keeps in
      let k = on g w.moves.few w.moves.names_on in
      let no_nodes : o.nodes.items ≡ [] = empty o.nodes.items may in
      let no_steps : s.steps ≡ [] = each_none (IsStep names (rows_of o)) (map (line_of o.bank) o.nodes.items) s.steps (ap (map (line_of o.bank)) no_nodes)
      (s.are_nodes names (grows_none names)) in
      let same : rows_of r ≡ rows_of o = ap (term_trees r.bank) x ∙ rows_same names o.bank r.bank o.rows.items e s.rows in
      let trees : term_trees r.bank r.asked.items ≡ term_trees o.bank o.asked.items ++ term_tree r.bank at.0 ∷ [] =
      ap (term_trees r.bank) a ∙ (map-append (λ (b : At). term_tree r.bank b.0) o.asked.items (at ∷ [])
      ∙ ap (λ z. z ++ term_tree r.bank at.0 ∷ []) (rows_same names o.bank r.bank o.asked.items e s.asked)) in
      let two = ap length a in
      let three = length-append o.asked.items (at ∷ []) in
      let four = ap length x in
      let five = ap length n in
      record {
        shares = s.shares;
        lets = s.lets ++ line.bytes.now ∷ [];
        steps = [];
        lines = bytes_there ∙ (ap (λ z. codes "proof 2" ∷ (s.shares ++ (s.lets ++ (z ++ line.bytes.now ∷ text_lines q.rest.now)))) no_steps
            ∙ ap (λ z. codes "proof 2" ∷ (s.shares ++ z)) (sym (append_assoc s.lets (line.bytes.now ∷ []) (text_lines q.rest.now))));
        rows = subst (All spelled_now) (sym x) (rows_stay names o.bank new r.bank o.rows.items g e s.rows);
        asked = subst (All spelled_now) (sym a) (All-push spelled_now o.asked.items at (rows_stay names o.bank new r.bank o.asked.items g e s.asked) w.good);
        nodes = subst (All (IsGoodRule new r.bank)) (sym (n ∙ no_nodes)) (All-nil (IsGoodRule new r.bank));
        are_rows = λ ns grow. subst (λ rows. AreShares ns rows s.shares) (sym same) (s.are_rows ns (grows_on names new ns g grow));
        are_asked = λ ns grow. subst (λ ts. AreEach (IsLet ns (rows_of r)) ts (s.lets ++ line.bytes.now ∷ [])) (sym trees)
            (subst (λ rows. AreEach (IsLet ns rows) (term_trees o.bank o.asked.items ++ term_tree r.bank at.0 ∷ []) (s.lets ++ line.bytes.now ∷ [])) (sym same)
            (each_push (IsLet ns (rows_of o)) (term_trees o.bank o.asked.items) s.lets (term_tree r.bank at.0) line.bytes.now
            (s.are_asked ns (grows_on names new ns g grow)) (w.shown ns grow)));
        are_nodes = λ ns grow. subst (λ (xs : List Rule). AreEach (IsStep ns (rows_of r)) (map (line_of r.bank) xs) []) (sym (n ∙ no_nodes)) tt;
        still = ap (λ z. missing 1 (map (line_of r.bank) z)) (n ∙ no_nodes)
            ∙ (sym (ap (λ z. missing 1 (map (line_of o.bank) z)) no_nodes) ∙ (s.still ∙ ap (λ z. Some z) (sym l)));
        grows = k.grows;
        names_on = k.names_on;
        room = k.room;
        end = k.end;
        next = next_on (omega arith);
        low = k.low;
        few = let f = s.few in let h = t.shorter in omega arith;
        many = let m = s.many in let h = t.shorter in omega arith;
      }

  node_more : (z : Rule) → IsStepOver (rows_of o) names o.bank line.bytes.now new r.bank z → r.rows.items ≡ o.rows.items → r.asked.items ≡ o.asked.items
      → r.nodes.items ≡ o.nodes.items ++ z ∷ [] → r.lacking ≡ o.lacking - 1 + children (line_of r.bank z) → IsSoFarOver text old new r q
  node_more z w x a n l =
      let g = w.moves.grows in
      let e = w.moves.keeps in
      let k = on g w.moves.few w.moves.names_on in
      let same : rows_of r ≡ rows_of o = ap (term_trees r.bank) x ∙ rows_same names o.bank r.bank o.rows.items e s.rows in
      let same_asked : term_trees r.bank r.asked.items ≡ term_trees o.bank o.asked.items =
      ap (term_trees r.bank) a ∙ rows_same names o.bank r.bank o.asked.items e s.asked in
      let lines_now : map (line_of r.bank) r.nodes.items ≡ map (line_of o.bank) o.nodes.items ++ line_of r.bank z ∷ [] =
      ap (map (line_of r.bank)) n ∙ (map-append (line_of r.bank) o.nodes.items (z ∷ [])
      ∙ ap (λ y. y ++ line_of r.bank z ∷ []) (rules_same names o.bank new r.bank g e o.nodes.items s.nodes)) in
      let j = o.lacking - 1 in
      let sucs : o.lacking ≡ suc j = omega arith in
      let sum : children (line_of r.bank z) + j ≡ r.lacking = omega arith in
      let two = ap length n in
      let three = length-append o.nodes.items (z ∷ []) in
      let four = ap length a in
      let five = ap length x in
      let under = step_few new (rows_of o) (line_of r.bank z) line.bytes.now (w.shown new (grows_none new)) in
      record {
        shares = s.shares;
        lets = s.lets;
        steps = s.steps ++ line.bytes.now ∷ [];
        lines = bytes_there ∙ ap (λ y. codes "proof 2" ∷ (s.shares ++ y)) (between s.lets s.steps line.bytes.now (text_lines q.rest.now));
        rows = subst (All spelled_now) (sym x) (rows_stay names o.bank new r.bank o.rows.items g e s.rows);
        asked = subst (All spelled_now) (sym a) (rows_stay names o.bank new r.bank o.asked.items g e s.asked);
        nodes = subst (All (IsGoodRule new r.bank)) (sym n) (All-push (IsGoodRule new r.bank) o.nodes.items z
            (rules_good names o.bank new r.bank g e o.nodes.items s.nodes) w.good);
        are_rows = λ ns grow. subst (λ rows. AreShares ns rows s.shares) (sym same) (s.are_rows ns (grows_on names new ns g grow));
        are_asked = λ ns grow. subst (λ ts. AreEach (IsLet ns (rows_of r)) ts s.lets) (sym same_asked)
            (subst (λ rows. AreEach (IsLet ns rows) (term_trees o.bank o.asked.items) s.lets) (sym same) (s.are_asked ns (grows_on names new ns g grow)));
        are_nodes = λ ns grow. subst (λ ts. AreEach (IsStep ns (rows_of r)) ts (s.steps ++ line.bytes.now ∷ [])) (sym lines_now)
            (subst (λ rows. AreEach (IsStep ns rows) (map (line_of o.bank) o.nodes.items ++ line_of r.bank z ∷ []) (s.steps ++ line.bytes.now ∷ [])) (sym same)
            (each_push (IsStep ns (rows_of o)) (map (line_of o.bank) o.nodes.items) s.steps (line_of r.bank z) line.bytes.now
            (s.are_nodes ns (grows_on names new ns g grow)) (w.shown ns grow)));
        still = ap (missing 1) lines_now ∙ (missing_push 1 (map (line_of o.bank) o.nodes.items) (line_of r.bank z) j (s.still ∙ ap (λ y. Some y) sucs)
            ∙ ap (λ y. Some y) sum);
        grows = k.grows;
        names_on = k.names_on;
        room = k.room;
        end = k.end;
        next = next_on (omega arith);
        low = k.low;
        few = let f = s.few in let h = t.room in omega arith;
        many = let m = s.many in let h = t.shorter in omega arith;
      }

  pub over_more : TakesOver names o line.bytes.now new r → IsSoFarOver text old new r q
  over_more (share at may w x a n l) = share_more at may w x a n l
  over_more (variable at may w x a n l) = let_more at may w x a n l
  over_more (node z w x a n l) = node_more z w x a n l
