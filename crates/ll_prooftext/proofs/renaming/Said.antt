-- Each name in a derivation that can be spelled is one that its text mentions, in either version.
use Rattle.std.proofs.Common.{◌≡◌, ℕ, zero, suc, ◌<◌, ◌^◌, refl, ap, sym, subst, ◌∙◌, Bool, true, false, List, [], ◌∷◌, ◌++◌, map, length, inl, inr, arith}
use Rattle.std.proofs.Common.{append_assoc, append-nil, length-append, decimal, codes}
use Rattle.std.specs.Prelude.{All, IsTrue, ◌⊎◌, Some, if◌then◌else◌, slice_get}
use Rattle.std.specs.Fmt.{signed_decimal}
use Rattle.std.specs.List.{flat_map, list_all}
use Rattle.std.proofs.lemmas.List.Elements.{All-nil, All-cons, All-head, All-tail}
use Rattle.std.specs.Str.{bytes_eq}
use Rattle.std.proofs.lemmas.Slice.Eq.{bytes_eq-Decides}
use Rattle.std.proofs.lemmas.Option.{slice_get_within}
use Rattle.ll_prooftext.proofs.unambiguous.OneSharing.{app_arguments}
use Rattle.ll_prooftext.proofs.unambiguous.OneTerm.{fields_stop}
use Rattle.std.proofs.lemmas.List.Concat.{flat_map-cons, flat_map-append}
use Rattle.ll_bank.specs.declared.Head.{Head}
use Rattle.ll_bank.specs.declared.Head.TheVariants.{Name, Eigen, Bound}
use Rattle.ll_bank.specs.Term.{Term, Var, Int, Con, Ap, apply, app}
use Rattle.ll_laws.specs.Output.{name_text, head_text, is_cons_head, is_cons, argument_text, term_text, applied_text, has_arguments, bracket_if}
use Rattle.ll_laws.specs.Line.{Line, OneLine, EraseLine, TensorLine, WithLine, LeftLine, RightLine, BangLine, UseLine, LolliLine, PartLine, Labels, Free}
use Rattle.ll_laws.specs.Line.{ImpLine, ForallLine, ExistsLine, ClauseLine, DerivationLines, NumLine}
use Rattle.ll_laws.specs.ProofText.{field, term_field, part_field, node_text, proof_text}
use Rattle.ll_prooftext.specs.Admitted.{IsPlainHead, IsPairHead, IsSpelledTerm, IsSpelledSpine, IsSpelledLine, IsSpelled}
use Rattle.ll_prooftext.specs.Mentions.{Outside, mentions, line_names, text_names}
use Rattle.ll_prooftext.specs.ProofText2.{proof_text2}
use Rattle.ll_prooftext.specs.Reading.{space}
use Rattle.ll_prooftext.specs.Reading2.{IsText2Of}
use Rattle.ll_prooftext.specs.Sharing.{StandsFor, itself, by_row, AreCells, no_cells, next_cell}
use Rattle.ll_prooftext.specs.Sharing.{IsShare, AreShares, no_shares, next_share, IsLet, IsStep, AreEach}
use Rattle.ll_prooftext.specs.Table.{table}
use Rattle.ll_prooftext.specs.Terms.{is_part, Bare, name}
use Rattle.ll_prooftext.specs.Words.{Stops, ended, at_byte, is_not}
use Rattle.ll_prooftext.proofs.spelling.Mentioning.{is_quiet, word_apart, quiet_apart, name_mentions, space_mentions, open_mentions, close_mentions}
use Rattle.ll_prooftext.proofs.spelling.Mentioning.{sign_mentions, quiet_behind, decimal_quiet, signed_quiet, field_quiet, variable_quiet}
use Rattle.ll_prooftext.proofs.spelling.Mentioning.{eigen_quiet, row_quiet, line_mentions}
use Rattle.ll_prooftext.proofs.spelling.Spellings.{word_parts, name_shaped, name_full}
use Rattle.ll_prooftext.proofs.writing.WholeText.{its_lines}
use Rattle.ll_prooftext.proofs.unambiguous.OneVerdict.{clause_text}
use Rattle.ll_prooftext.proofs.unambiguous.OneText2.{its_layout}
use Rattle.ll_prooftext.specs.Twins.{Numbers}
use Rattle.ll_prooftext.proofs.renaming.Moved.{IsKeptHead, IsKept, AreKept, IsKeptLine, AreKeptLines}

-- ---- bytes

front-all : {X : Type 0} (P : X → Type 0) (xs ys : List X) → All P (xs ++ ys) → All P xs × All P ys
front-all P [] ys h = (All-nil P, h)
front-all P (x ∷ xs) ys h = let k = front-all P xs ys (All-tail P x (xs ++ ys) h) in (All-cons P x xs (All-head P x (xs ++ ys) h) k.0, k.1)

parts-stop : (ps : List PartLine) → Stops is_part (flat_map part_field ps)
parts-stop [] = ended refl
parts-stop (Labels ns ∷ ps) = at_byte 32 _ (flat_map-cons part_field (Labels ns) ps) refl
parts-stop (Free ∷ ps) = at_byte 32 _ (flat_map-cons part_field Free ps) refl

is-sign : (w : List ℕ) → IsTrue (bytes_eq w (codes "::")) → w ≡ codes "::"
is-sign w c = (bytes_eq-Decides w (codes "::")).0 c

module _ (names others : List (List ℕ)) (r : Numbers) (P : List ℕ → Type 0)
    (keeps : (n : ℕ) → 0 < length (name_text names n) → P (name_text names n) → IsKeptHead names others r (Name n)) where
  -- what the bytes mention has the property
  abbrev Said : List ℕ → Type 0
  Said bytes = All P (mentions Outside bytes)

  abbrev KeptHead : Head → Type 0
  KeptHead h = IsKeptHead names others r h

  abbrev Kept : Term → Type 0
  Kept t = IsKept names others r t

  quiet-said : (w rest : List ℕ) → list_all is_quiet w ≡ true → Stops is_part rest → Said (w ++ rest) → Said rest
  quiet-said w rest q st h = subst (All P) (quiet_apart w rest q st) h

  space-said : (rest : List ℕ) → Said (32 ∷ rest) → Said rest
  space-said rest h = subst (All P) (space_mentions rest) h

  -- ---- heads

  head-said : (h : Head) → IsPlainHead names h → (rest : List ℕ) → Stops is_part rest → Said (head_text names h ++ rest) → KeptHead h × Said rest
  head-said (Name n) p rest st h =
      let w = name_text names n in
      let e = word_apart w rest (word_parts w Bare (name p)) st ∙ ap (λ z. z ++ mentions Outside rest) (name_mentions w (name_shaped w p.spelled)) in
      let k : All P (w ∷ mentions Outside rest) = subst (All P) e h in
      (keeps n (name_full w p) (All-head P w (mentions Outside rest) k), All-tail P w (mentions Outside rest) k)
  head-said (Eigen n) p rest st h =
      (tt, quiet-said (35 ∷ decimal n) rest (quiet_behind 35 (decimal n) eigen_quiet (decimal_quiet n (let q : n < 2 ^ 32 = p in omega arith))) st h)
  head-said (Bound n) p rest st h = absurd p

  sign-said : (n : ℕ) → IsTrue (is_cons_head names (Name n)) → (rest : List ℕ) → Said (58 ∷ 58 ∷ rest) → KeptHead (Name n) × Said rest
  sign-said n c rest h =
      let e : name_text names n ≡ codes "::" = is-sign (name_text names n) c in
      let k : All P (codes "::" ∷ mentions Outside rest) = subst (All P) (sign_mentions rest) h in
      let l = ap length e in
      (keeps n (omega (arith, l)) (subst P (sym e) (All-head P (codes "::") (mentions Outside rest) k)), All-tail P (codes "::") (mentions Outside rest) k)

  -- ---- terms

  bracketed : {K : Type 0} (b : Bool) (w : List ℕ) → ((rest : List ℕ) → Stops is_part rest → Said (w ++ rest) → K × Said rest)
      → (rest : List ℕ) → Stops is_part rest → Said (bracket_if b w ++ rest) → K × Said rest
  bracketed false w each rest st h = each rest st h
  bracketed true w each rest st h =
      let e : bracket_if true w ++ rest ≡ 40 ∷ (w ++ 41 ∷ rest) = ap (λ z. 40 ∷ z) (append_assoc w (41 ∷ []) rest) in
      let k : Said (40 ∷ (w ++ 41 ∷ rest)) = subst Said e h in
      let m = each (41 ∷ rest) (at_byte 41 rest refl refl) (subst (All P) (open_mentions (w ++ 41 ∷ rest)) k) in
      (m.0, subst (All P) (close_mentions rest) m.1)

  -- how a term is said in front of what stops
  abbrev IsSaid : Term → Type 0
  IsSaid t = (rest : List ℕ) → Stops is_part rest → Said (term_text names t ++ rest) → Kept t × Said rest

  -- a field behind other bytes
  behind-said : {K : Type 0} (w : List ℕ) (t : Term) → IsSaid t → ((rest : List ℕ) → Stops is_part rest → Said (w ++ rest) → K × Said rest)
      → (rest : List ℕ) → Stops is_part rest → Said ((w ++ codes " " ++ argument_text t (term_text names t)) ++ rest) → (K × Kept t) × Said rest
  behind-said {K} w t each first rest st h =
      let field = argument_text t (term_text names t) in
      let e = append_assoc (w ++ codes " ") field rest ∙ append_assoc w (codes " ") (field ++ rest) in
      let a = first (32 ∷ (field ++ rest)) (at_byte 32 (field ++ rest) refl refl) (subst Said e h) in
      let b = bracketed {K = Kept t} (has_arguments t) (term_text names t) each rest st (space-said (field ++ rest) a.1) in
      ((a.0, b.0), b.1)

  -- two arguments, or a `::` between them
  pair-said : (c : Head) (x l : Term) → IsPairHead names c → IsSaid x → IsSaid l → IsSaid (Ap (Ap (Con c) x) l)
  pair-said c x l p xs ls rest st h = by (is_cons_head names c) refl h
    where
      plain : IsPairHead names c → is_cons_head names c ≡ false → IsPlainHead names c
      plain (inl q) e = q
      plain (inr q) e = absurd cc

      of-sign : (c : Head) → is_cons_head names c ≡ true → (more : List ℕ) → Said (58 ∷ 58 ∷ more) → KeptHead c × Said more
      of-sign (Name n) e more k = sign-said n e more k
      of-sign (Eigen n) e more k = cc
      of-sign (Bound n) e more k = cc

      by : (b : Bool) → is_cons_head names c ≡ b
          → Said ((if b then bracket_if (is_cons names x) (term_text names x) ++ codes "::" ++ term_text names l
          else head_text names c ++ codes " " ++ argument_text x (term_text names x) ++ codes " " ++ argument_text l (term_text names l)) ++ rest)
          → Kept (Ap (Ap (Con c) x) l) × Said rest
      by true e h =
          let w = bracket_if (is_cons names x) (term_text names x) in
          let more = term_text names l ++ rest in
          let k : Said (w ++ 58 ∷ 58 ∷ more) =
          subst Said (append_assoc (w ++ codes "::") (term_text names l) rest ∙ append_assoc w (codes "::") more) h in
          let a = bracketed {K = Kept x} (is_cons names x) (term_text names x) xs (58 ∷ 58 ∷ more) (at_byte 58 (58 ∷ more) refl refl) k in
          let s = of-sign c e more a.1 in
          let b = ls rest st s.1 in
          (((s.0, a.0), b.0), b.1)
      by false e h =
          let w = head_text names c in
          let f = argument_text x (term_text names x) in
          let g = argument_text l (term_text names l) in
          let k : Said (w ++ 32 ∷ (f ++ 32 ∷ (g ++ rest))) =
          subst Said (append_assoc (w ++ codes " " ++ f ++ codes " ") g rest ∙ (append_assoc (w ++ codes " " ++ f) (codes " ") (g ++ rest)
          ∙ (append_assoc (w ++ codes " ") f (32 ∷ (g ++ rest)) ∙ append_assoc w (codes " ") (f ++ 32 ∷ (g ++ rest))))) h in
          let s = head-said c (plain p e) (32 ∷ (f ++ 32 ∷ (g ++ rest))) (at_byte 32 (f ++ 32 ∷ (g ++ rest)) refl refl) k in
          let a = bracketed {K = Kept x} (has_arguments x) (term_text names x) xs (32 ∷ (g ++ rest)) (at_byte 32 (g ++ rest) refl refl)
          (space-said (f ++ 32 ∷ (g ++ rest)) s.1) in
          let b = bracketed {K = Kept l} (has_arguments l) (term_text names l) ls rest st (space-said (g ++ rest) a.1) in
          (((s.0, a.0), b.0), b.1)

  mutual
    pub term-said : (t : Term) → IsSpelledTerm names t → IsSaid t
    term-said (Var n) s rest st h = (tt, quiet-said (63 ∷ decimal n) rest (quiet_behind 63 (decimal n) variable_quiet (decimal_quiet n s)) st h)
    term-said (Int z) s rest st h = (tt, quiet-said (signed_decimal z) rest (signed_quiet z s) st h)
    term-said (Con c) s rest st h = head-said c s rest st h
    term-said (Ap (Var n) a) s rest st h = absurd s.0
    term-said (Ap (Int n) a) s rest st h = absurd s.0
    term-said (Ap (Con c) a) s rest st h =
        behind-said {K = KeptHead c} (head_text names c) a (term-said a s.1) (head-said c s.0) rest st h
    term-said (Ap (Ap (Var c) x) l) s rest st h = absurd s.0.0
    term-said (Ap (Ap (Int c) x) l) s rest st h = absurd s.0.0
    term-said (Ap (Ap (Con c) x) l) s rest st h = pair-said c x l s.0 (term-said x s.1.0) (term-said l s.1.1) rest st h
    term-said (Ap (Ap (Ap f b) x) l) s rest st h =
        behind-said {K = Kept (Ap (Ap f b) x)} (applied_text names (Ap (Ap f b) x)) l (term-said l s.1) (spine-said (Ap (Ap f b) x) s.0) rest st h

    spine-said : (t : Term) → IsSpelledSpine names t → (rest : List ℕ) → Stops is_part rest → Said (applied_text names t ++ rest) → Kept t × Said rest
    spine-said (Var n) s rest st h = absurd s
    spine-said (Int z) s rest st h = absurd s
    spine-said (Con c) s rest st h = head-said c s rest st h
    spine-said (Ap f a) s rest st h = behind-said {K = Kept f} (applied_text names f) a (term-said a s.1) (spine-said f s.0) rest st h

  -- ---- lines

  -- a field at the front of bytes
  field-said : (t : Term) → IsSpelledTerm names t → (rest : List ℕ) → Stops is_part rest → Said (term_field names t ++ rest) → Kept t × Said rest
  field-said t s rest st h =
      bracketed {K = Kept t} (has_arguments t) (term_text names t) (term-said t s) rest st (space-said (argument_text t (term_text names t) ++ rest) h)

  fields-said : (ts : List Term) → All (IsSpelledTerm names) ts → (rest : List ℕ) → Stops is_part rest → Said (flat_map (term_field names) ts ++ rest)
      → AreKept names others r ts
  fields-said [] s rest st h = tt
  fields-said (t ∷ ts) s rest st h =
      let more = flat_map (term_field names) ts in
      let e = ap (λ z. z ++ rest) (flat_map-cons (term_field names) t ts) ∙ append_assoc (term_field names t) more rest in
      let a = field-said t (All-head (IsSpelledTerm names) t ts s) (more ++ rest) (fields_stop names ts rest st) (subst Said e h) in
      (a.0, fields-said ts (All-tail (IsSpelledTerm names) t ts s) rest st a.1)

  small-said : (n : ℕ) → n < 2 ^ 32 → (rest : List ℕ) → Stops is_part rest → Said (field (decimal n) ++ rest) → Said rest
  small-said n l rest st h = quiet-said (field (decimal n)) rest (field_quiet (decimal n) (decimal_quiet n (omega arith))) st h

  let-said : (t : Term) → IsSpelledTerm names t → All P (line_names (codes "let" ++ term_field names t)) → Kept t
  let-said t s h =
      let k = subst (All P) (line_mentions (codes "let") (term_field names t) refl space) h in
      (field-said t s [] (ended refl) (subst Said (sym (append-nil (term_field names t))) k)).0

  node-said : (l : Line) → IsSpelledLine names l → All P (line_names (node_text names l)) → IsKeptLine names others r l
  node-said OneLine s h = tt
  node-said EraseLine s h = tt
  node-said WithLine s h = tt
  node-said LeftLine s h = tt
  node-said RightLine s h = tt
  node-said BangLine s h = tt
  node-said UseLine s h = tt
  node-said NumLine s h = tt
  node-said (TensorLine a b) s h = tt
  node-said (LolliLine n) s h = tt
  node-said (ImpLine n) s h = tt
  node-said (ForallLine c) s h = tt
  node-said (ExistsLine t) s h =
      let k = subst (All P) (line_mentions (codes "exists") (term_field names t) refl space) h in
      (field-said t s [] (ended refl) (subst Said (sym (append-nil (term_field names t))) k)).0
  node-said (ClauseLine n j ts ps) s h =
      let parts = flat_map part_field ps in
      let cells = flat_map (term_field names) ts in
      let k = subst (All P) (ap line_names (clause_text names n j ts ps)
      ∙ line_mentions (codes "clause") (field (decimal n) ++ (field (decimal j) ++ (cells ++ parts))) refl space) h in
      let a = small-said n s.0 (field (decimal j) ++ (cells ++ parts)) (at_byte 32 (decimal j ++ (cells ++ parts)) refl refl) k in
      let b = small-said j s.1.0 (cells ++ parts) (fields_stop names ts parts (parts-stop ps)) a in
      fields-said ts s.1.1.0 parts (parts-stop ps) b

  -- ---- whole texts

  -- what all lines mention has the property
  abbrev Tells : List (List ℕ) → Type 0
  Tells lines = All P (flat_map line_names lines)

  first-tells : (l : List ℕ) (ls : List (List ℕ)) → Tells (l ∷ ls) → All P (line_names l) × Tells ls
  first-tells l ls h = front-all P (line_names l) (flat_map line_names ls) (subst (All P) (flat_map-cons line_names l ls) h)

  both-tell : (ls ms : List (List ℕ)) → Tells (ls ++ ms) → Tells ls × Tells ms
  both-tell ls ms h = front-all P (flat_map line_names ls) (flat_map line_names ms) (subst (All P) (flat_map-append line_names ls ms) h)

  lets-said : (ts : List Term) → All (IsSpelledTerm names) ts → Tells (map (λ t. codes "let" ++ term_field names t) ts) → AreKept names others r ts
  lets-said [] s h = tt
  lets-said (t ∷ ts) s h =
      let k = first-tells (codes "let" ++ term_field names t) (map (λ t. codes "let" ++ term_field names t) ts) h in
      (let-said t (All-head (IsSpelledTerm names) t ts s) k.0, lets-said ts (All-tail (IsSpelledTerm names) t ts s) k.1)

  nodes-said : (ls : List Line) → All (IsSpelledLine names) ls → Tells (map (node_text names) ls) → AreKeptLines names others r ls
  nodes-said [] s h = tt
  nodes-said (l ∷ ls) s h =
      let k = first-tells (node_text names l) (map (node_text names) ls) h in
      (node-said l (All-head (IsSpelledLine names) l ls s) k.0, nodes-said ls (All-tail (IsSpelledLine names) l ls s) k.1)

  -- so it is with each name of the derivation of a text of version 1
  pub text-said : (d : DerivationLines) → IsSpelled names d → All P (text_names (proof_text names d))
      → AreKept names others r d.asked × AreKeptLines names others r d.nodes
  unfolding text_names
  text-said d s h =
      let lets = map (λ t. codes "let" ++ term_field names t) d.asked in
      let steps = map (node_text names) d.nodes in
      let e = its_lines names (proof_text names d) d (record { spelled = s; is = inl refl }) in
      let a = (first-tells (codes "proof 1") (lets ++ (steps ++ [])) (subst Tells e h)).1 in
      let b = both-tell lets (steps ++ []) a in
      (lets-said d.asked s.asked b.0, nodes-said d.nodes s.nodes (both-tell steps [] b.1).0)

  -- ---- texts with a table

  row-said : (k : ℕ) → k < 2 ^ 64 → (rest : List ℕ) → Stops is_part rest → Said ((codes "@" ++ decimal k) ++ rest) → Said rest
  row-said k l rest st h = quiet-said (64 ∷ decimal k) rest (quiet_behind 64 (decimal k) row_quiet (decimal_quiet k l)) st h

  at-kept : (rows : List Term) → AreKept names others r rows → (k : ℕ) (t : Term) → slice_get rows k ≡ Some t → Kept t
  at-kept [] a k t e = absurd cc
  at-kept (u ∷ rows) a zero t e = let q : u ≡ t = cc in subst Kept q a.0
  at-kept (u ∷ rows) a (suc k) t e = at-kept rows a.1 k t e

  -- what a field stands for, over rows that are kept
  cell-said : (rows : List Term) → AreKept names others r rows → length rows < 2 ^ 64 → (t : Term) → IsSpelledTerm names t → (text : List ℕ)
      → StandsFor names rows t text → (rest : List ℕ) → Stops is_part rest → Said (text ++ rest) → Kept t × Said rest
  cell-said rows a few t s text (itself b e) rest st h = term-said t s rest st (subst (λ z. Said (z ++ rest)) e h)
  cell-said rows a few t s text (by_row k f e) rest st h =
      let w = slice_get_within rows k t f in
      (at-kept rows a k t f, row-said k (omega arith) rest st (subst (λ z. Said (z ++ rest)) e h))

  cells-stop : (rows ts : List Term) (cells rest : List ℕ) → AreCells names rows ts cells → Stops is_part rest → Stops is_part (cells ++ rest)
  cells-stop rows _ _ rest no_cells st = st
  cells-stop rows _ _ rest (next_cell c cs) st = at_byte 32 _ refl refl

  cells-said : (rows : List Term) → AreKept names others r rows → length rows < 2 ^ 64 → (ts : List Term) → All (IsSpelledTerm names) ts → (cells : List ℕ)
      → AreCells names rows ts cells → (rest : List ℕ) → Stops is_part rest → Said (cells ++ rest) → AreKept names others r ts
  cells-said rows a few _ s _ no_cells rest st h = tt
  cells-said rows a few _ s _ (next_cell {t = t} {ts = ts} {text = text} {rest = more} c cs) rest st h =
      let k : Said (text ++ (more ++ rest)) = space-said (text ++ (more ++ rest)) (subst (λ z. Said (32 ∷ z)) (append_assoc text more rest) h) in
      let m = cell-said rows a few t (All-head (IsSpelledTerm names) t ts s) text c (more ++ rest) (cells-stop rows ts more rest cs st) k in
      (m.0, cells-said rows a few ts (All-tail (IsSpelledTerm names) t ts s) more cs rest st m.1)

  keep-join : (ts us : List Term) → AreKept names others r ts → AreKept names others r us → AreKept names others r (ts ++ us)
  keep-join [] us p q = q
  keep-join (t ∷ ts) us p q = (p.0, keep-join ts us p.1 q)

  kept-apply : (f : Term) (ts : List Term) → Kept f → AreKept names others r ts → Kept (apply f ts)
  kept-apply f [] k a = k
  kept-apply f (t ∷ ts) k a = kept-apply (Ap f t) ts (k, a.0) a.1

  -- the arguments of a row are spelled
  arguments-of : (t : Term) (h : Head) (ts : List Term) → t ≡ app h ts → IsSpelledTerm names t → All (IsSpelledTerm names) ts
  arguments-of t h ts e s = (app_arguments names h ts (subst (IsSpelledTerm names) e s))

  head-shown : (c : Head) → IsPlainHead names c ⊎ IsTrue (is_cons_head names c) → (rest : List ℕ) → Stops is_part rest → Said (head_text names c ++ rest)
      → KeptHead c × Said rest
  head-shown c (inl p) rest st h = head-said c p rest st h
  head-shown (Name n) (inr q) rest st h = sign-said n q rest (subst (λ z. Said (z ++ rest)) (is-sign (name_text names n) q) h)
  head-shown (Eigen n) (inr q) rest st h = cc
  head-shown (Bound n) (inr q) rest st h = cc

  share-said : (rows : List Term) → AreKept names others r rows → length rows < 2 ^ 64 → (t : Term) → IsSpelledTerm names t → (line : List ℕ)
      → IsShare names rows t line → All P (line_names line) → Kept t
  share-said rows a few t s line i h =
      let rest = field (head_text names i.head) ++ i.cells in
      let k = subst (All P) (ap line_names i.text ∙ line_mentions (codes "share") rest refl space) h in
      let stop : Stops is_part i.cells = subst (Stops is_part) (append-nil i.cells) (cells-stop rows (i.first ∷ i.others) i.cells [] i.shown (ended refl)) in
      let c = head-shown i.head (either i.fits) i.cells stop (space-said (head_text names i.head ++ i.cells) k) in
      let ts = cells-said rows a few (i.first ∷ i.others) (arguments-of t i.head (i.first ∷ i.others) i.is s) i.cells i.shown [] (ended refl)
      (subst Said (sym (append-nil i.cells)) c.1) in
      subst Kept (sym i.is) (kept-apply (Con i.head) (i.first ∷ i.others) c.0 ts)
    where
      either : {A B C : Type 0} → A ⊎ (B × C) → A ⊎ B
      either (inl p) = inl p
      either (inr q) = inr q.0

  shares-said : (rows : List Term) (lines : List (List ℕ)) → length rows < 2 ^ 64 → All (IsSpelledTerm names) rows → AreShares names rows lines
      → Tells lines → AreKept names others r rows
  shares-said rows lines few s (no_shares e f) h = subst (AreKept names others r) (sym e) tt
  shares-said rows lines few s (next_share before above t line i j e f) h =
      let m = length-append before (t ∷ []) in let n = ap length e in
      let small : length before < 2 ^ 64 = omega (arith, m, n, few) in
      let w = front-all (IsSpelledTerm names) before (t ∷ []) (subst (All (IsSpelledTerm names)) e s) in
      let k = both-tell above (line ∷ []) (subst Tells f h) in
      let a = shares-said before above small w.0 i k.0 in
      let b = share-said before a small t (All-head (IsSpelledTerm names) t [] w.1) line j (first-tells line [] k.1).0 in
      subst (AreKept names others r) (sym e) (keep-join before (t ∷ []) a (b, tt))

  module _ (rows : List Term) (a : AreKept names others r rows) (few : length rows < 2 ^ 64) where
    stands-said : (w : List ℕ) → list_all (is_not 32) w ≡ true → (t : Term) → IsSpelledTerm names t → (text : List ℕ) → StandsFor names rows t text
        → All P (line_names (w ++ field text)) → Kept t
    stands-said w free t s text i h =
        let k = subst (All P) (line_mentions w (field text) free space) h in
        (cell-said rows a few t s text i [] (ended refl) (subst Said (sym (append-nil text)) (space-said text k))).0

    lets2-said : (ts : List Term) (lines : List (List ℕ)) → All (IsSpelledTerm names) ts → AreEach (IsLet names rows) ts lines → Tells lines
        → AreKept names others r ts
    lets2-said [] lines s i h = tt
    lets2-said (t ∷ ts) [] s i h = absurd i
    lets2-said (t ∷ ts) (l ∷ ls) s i h =
        let k = first-tells l ls h in (
          stands-said (codes "let") refl t (All-head (IsSpelledTerm names) t ts s) i.0.text i.0.stands (subst (λ z. All P (line_names z)) i.0.is k.0),
          lets2-said ts ls (All-tail (IsSpelledTerm names) t ts s) i.1 k.1,
        )

    step-said : (l : Line) → IsSpelledLine names l → (line : List ℕ) → IsStep names rows l line → All P (line_names line) → IsKeptLine names others r l
    step-said OneLine s line i h = tt
    step-said EraseLine s line i h = tt
    step-said WithLine s line i h = tt
    step-said LeftLine s line i h = tt
    step-said RightLine s line i h = tt
    step-said BangLine s line i h = tt
    step-said UseLine s line i h = tt
    step-said NumLine s line i h = tt
    step-said (TensorLine x y) s line i h = tt
    step-said (LolliLine n) s line i h = tt
    step-said (ImpLine n) s line i h = tt
    step-said (ForallLine c) s line i h = tt
    step-said (ExistsLine t) s line i h = stands-said (codes "exists") refl t s i.text i.stands (subst (λ z. All P (line_names z)) i.is h)
    step-said (ClauseLine n j ts ps) s line i h =
        let parts = flat_map part_field ps in
        let stop = cells-stop rows ts i.cells parts i.shown (parts-stop ps) in
        let k = subst (All P) (ap line_names i.is
        ∙ line_mentions (codes "clause") (field (decimal n) ++ (field (decimal j) ++ (i.cells ++ parts))) refl space) h in
        let b = small-said n s.0 (field (decimal j) ++ (i.cells ++ parts)) (at_byte 32 (decimal j ++ (i.cells ++ parts)) refl refl) k in
        let c = small-said j s.1.0 (i.cells ++ parts) stop b in
        cells-said rows a few ts s.1.1.0 i.cells i.shown parts (parts-stop ps) c

    steps-said : (ns : List Line) (lines : List (List ℕ)) → All (IsSpelledLine names) ns → AreEach (IsStep names rows) ns lines → Tells lines
        → AreKeptLines names others r ns
    steps-said [] lines s i h = tt
    steps-said (n ∷ ns) [] s i h = absurd i
    steps-said (n ∷ ns) (l ∷ ls) s i h =
        let k = first-tells l ls h in (
          step-said n (All-head (IsSpelledLine names) n ns s) l i.0 k.0,
          steps-said ns ls (All-tail (IsSpelledLine names) n ns s) i.1 k.1,
        )

  -- and of a text of version 2
  pub text2-said : (d : DerivationLines) → IsSpelled names d → length (proof_text2 names d) < 2 ^ 64 → All P (text_names (proof_text2 names d))
      → AreKept names others r d.asked × AreKeptLines names others r d.nodes
  unfolding text_names
  text2-said d s short h =
      let text : IsText2Of names (proof_text2 names d) d = record { spelled = s; is = inl refl } in
      let out = its_layout names (proof_text2 names d) d text short in
      let o = out.laid in
      let a = (first-tells (codes "proof 2") (o.shares ++ (o.lets ++ (o.steps ++ []))) (subst Tells out.lines h)).1 in
      let b = both-tell o.shares (o.lets ++ (o.steps ++ [])) a in
      let c = both-tell o.lets (o.steps ++ []) b.1 in
      let rows = shares-said (table d) o.shares out.few o.spelled o.are_rows b.0 in (
        lets2-said (table d) rows out.few d.asked o.lets s.asked o.are_asked c.0,
        steps-said (table d) rows out.few d.nodes o.steps s.nodes o.are_nodes (both-tell o.steps [] c.1).0,
      )
