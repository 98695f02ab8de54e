-- A machine over raw trees decides a language: a machine over parse trees stands behind it, which finds each parse tree again,
-- whose states hold the tokens that were taken, and which can go on to a text of the language from each of its states.
use Rattle.std.proofs.Common.{◌≡◌, List, [], ◌∷◌, ◌++◌, Option, Some, None, option_and_then, option_map, refl, sym, ◌∙◌, ap, append_assoc, append-nil, IfSome}
use Rattle.ll_parser.specs.Tokens.{Tok}
use Rattle.ll_parser.specs.Text.{Language}
use Rattle.ll_parser.specs.FlatText.{run_by}
use Rattle.ll_parser.specs.Reads.{Derives, Begins}

-- what a machine makes of all tokens
abbrev pub parse_by : {S P : Type 0} → (S → Tok → Option S) → (S → Option P) → S → List Tok → Option P
parse_by step final s [] = final s
parse_by step final s (t ∷ ts) = option_and_then (λ next. parse_by step final next ts) (step s t)

pub record Decides (l : Language) (F : Type 0) (begin : F) (next : F → Tok → Option F) (end : F → Option l.Tree) : Type 1 where
  pub State : Type 0
  pub start : State
  pub step : State → Tok → Option State
  pub final : State → Option l.Parse
  -- each parse tree is found again
  pub found : (p : l.Parse) → parse_by step final start (l.tokens p) ≡ Some p
  -- each state holds the tokens that were taken
  pub so_far : State → List Tok
  pub nothing : so_far start ≡ []
  pub adds : (s : State) (t : Tok) → IfSome (step s t) (λ n. so_far n ≡ so_far s ++ t ∷ [])
  pub has_all : (s : State) → IfSome (final s) (λ p. l.tokens p ≡ so_far s)
  -- each state can be completed
  pub completes : (s : State) → (more : List Tok) × (p : l.Parse) × (parse_by step final s more ≡ Some p)
  -- the machine over raw trees does the same
  pub flat : State → F
  pub begins_flat : flat start ≡ begin
  pub steps_flat : (s : State) (t : Tok) → next (flat s) t ≡ option_map flat (step s t)
  pub ends_flat : (s : State) → end (flat s) ≡ option_map l.tree (final s)

-- ---- runs of any machine

run-next : {S P : Type 0} (step : S → Tok → Option S) (final : S → Option P) (o : Option S) (ts us : List Tok)
    → ((s : S) → parse_by step final s (ts ++ us) ≡ option_and_then (λ n. parse_by step final n us) (run_by step s ts))
    → option_and_then (λ n. parse_by step final n (ts ++ us)) o ≡ option_and_then (λ n. parse_by step final n us) (option_and_then (λ n. run_by step n ts) o)
run-next step final None ts us ih = refl
run-next step final (Some s) ts us ih = ih s

pub run-parse : {S P : Type 0} (step : S → Tok → Option S) (final : S → Option P) (ts us : List Tok) (s : S)
    → parse_by step final s (ts ++ us) ≡ option_and_then (λ n. parse_by step final n us) (run_by step s ts)
run-parse step final [] us s = refl
run-parse step final (t ∷ ts) us s = run-next step final (step s t) ts us (run-parse step final ts us)

pub parse-run : {S P : Type 0} (step : S → Tok → Option S) (final : S → Option P) (s : S) (ts : List Tok)
    → parse_by step final s ts ≡ option_and_then final (run_by step s ts)
parse-run step final s ts = ap (parse_by step final s) (sym (append-nil ts)) ∙ run-parse step final ts [] s

snoc-one : {S : Type 0} (step : S → Tok → Option S) (o : Option S) → option_and_then (λ n. run_by step n []) o ≡ o
snoc-one step None = refl
snoc-one step (Some x) = refl

snoc-more : {S : Type 0} (step : S → Tok → Option S) (o : Option S) (ts : List Tok) (t : Tok)
    → ((s : S) → run_by step s (ts ++ t ∷ []) ≡ option_and_then (λ n. step n t) (run_by step s ts))
    → option_and_then (λ n. run_by step n (ts ++ t ∷ [])) o ≡ option_and_then (λ n. step n t) (option_and_then (λ n. run_by step n ts) o)
snoc-more step None ts t ih = refl
snoc-more step (Some x) ts t ih = ih x

-- one token more is one step more
pub run-snoc : {S : Type 0} (step : S → Tok → Option S) (ts : List Tok) (t : Tok) (s : S)
    → run_by step s (ts ++ t ∷ []) ≡ option_and_then (λ n. step n t) (run_by step s ts)
run-snoc step [] t s = snoc-one step (step s t)
run-snoc step (u ∷ ts) t s = snoc-more step (step s u) ts t (run-snoc step ts t)

-- what is behind a mapped option
pub behind_of : {A B : Type 0} (f : A → B) (o : Option A) (x : B) → option_map f o ≡ Some x → (s : A) × (o ≡ Some s) × (f s ≡ x)
behind_of f None x e = absurd cc
behind_of f (Some s) x e = (s, refl, cc)

pub none_of : {A B : Type 0} (f : A → B) (o : Option A) → option_map f o ≡ None → o ≡ None
none_of f None e = refl
none_of f (Some s) e = absurd cc

-- ---- what such a machine says of tokens

module _ (l : Language) (F : Type 0) (begin : F) (next : F → Tok → Option F) (end : F → Option l.Tree) (d : Decides l F begin next end) where
  parse-next : (o : Option d.State) (ts xs : List Tok) → ((s : d.State) → IfSome (parse_by d.step d.final s ts) (λ p. l.tokens p ≡ d.so_far s ++ ts))
      → (t : Tok) → IfSome o (λ n. d.so_far n ≡ xs ++ t ∷ []) → IfSome (option_and_then (λ n. parse_by d.step d.final n ts) o) (λ p. l.tokens p ≡ xs ++ t ∷ ts)
  parse-next None ts xs ih t h = tt
  parse-next (Some s) ts xs ih t h = let e : d.so_far s ++ ts ≡ xs ++ t ∷ ts = rw h (rw append_assoc refl) in rw (← e) (ih s)

  parse-tokens : (ts : List Tok) (s : d.State) → IfSome (parse_by d.step d.final s ts) (λ p. l.tokens p ≡ d.so_far s ++ ts)
  parse-tokens [] s = rw append-nil (d.has_all s)
  parse-tokens (t ∷ ts) s = parse-next (d.step s t) ts (d.so_far s) (parse-tokens ts) t (d.adds s t)

  -- what parses has these tokens
  pub sound : (ts : List Tok) (p : l.Parse) → parse_by d.step d.final d.start ts ≡ Some p → l.tokens p ≡ ts
  sound ts p e = let h = parse-tokens ts d.start in let k = rw e at h in k ∙ ap (λ z. z ++ ts) d.nothing

  -- a parse tree is found again from its tokens, so no two have the same
  pub one-parse : (p q : l.Parse) → l.tokens p ≡ l.tokens q → p ≡ q
  one-parse p q e = some-is (sym (d.found p) ∙ ap (parse_by d.step d.final d.start) e ∙ d.found q)
    where
      some-is : {x y : l.Parse} → Some x ≡ Some y → x ≡ y
      some-is e = cc

  next-agrees : (o : Option d.State) (ts : List Tok) → ((s : d.State) → run_by next (d.flat s) ts ≡ option_map d.flat (run_by d.step s ts))
      → option_and_then (λ n. run_by next n ts) (option_map d.flat o) ≡ option_map d.flat (option_and_then (λ n. run_by d.step n ts) o)
  next-agrees None ts ih = refl
  next-agrees (Some s) ts ih = ih s

  run-agrees : (ts : List Tok) (s : d.State) → run_by next (d.flat s) ts ≡ option_map d.flat (run_by d.step s ts)
  run-agrees [] s = refl
  run-agrees (t ∷ ts) s = ap (option_and_then (λ n. run_by next n ts)) (d.steps_flat s t) ∙ next-agrees (d.step s t) ts (run-agrees ts)

  begin-agrees : (ts : List Tok) → run_by next begin ts ≡ option_map d.flat (run_by d.step d.start ts)
  begin-agrees ts = ap (λ z. run_by next z ts) (sym d.begins_flat) ∙ run-agrees ts d.start

  behind : (ts : List Tok) (x : F) → run_by next begin ts ≡ Some x → (s : d.State) × (run_by d.step d.start ts ≡ Some s) × (d.flat s ≡ x)
  behind ts x e = behind_of d.flat (run_by d.step d.start ts) x (sym (begin-agrees ts) ∙ e)

  -- tokens that the machine takes begin a text of the language
  pub begins : (ts : List Tok) (x : F) → run_by next begin ts ≡ Some x → Begins l ts
  begins ts x e =
      let b = behind ts x e in
      let c = d.completes b.0 in
      let p : parse_by d.step d.final d.start (ts ++ c.0) ≡ Some c.1 =
      run-parse d.step d.final ts c.0 d.start ∙ ap (option_and_then (λ n. parse_by d.step d.final n c.0)) b.1 ∙ c.2 in
      (c.0, c.1, sound (ts ++ c.0) c.1 p)

  begun : (o : Option d.State) (more : List Tok) (p : l.Parse) → option_and_then (λ n. parse_by d.step d.final n more) o ≡ Some p → (s : d.State) × (o ≡ Some s)
  begun None more p e = absurd cc
  begun (Some s) more p e = (s, refl)

  -- tokens that begin a text of the language are taken
  begins-run : (ts : List Tok) → Begins l ts → (s : d.State) × (run_by d.step d.start ts ≡ Some s)
  begins-run ts (more, p, e) =
      let f : parse_by d.step d.final d.start (ts ++ more) ≡ Some p = ap (parse_by d.step d.final d.start) (sym e) ∙ d.found p in
      begun (run_by d.step d.start ts) more p (sym (run-parse d.step d.final ts more d.start) ∙ f)

  -- no text of the language goes on with a token that is not taken
  pub bad : (ts : List Tok) (t : Tok) (x : F) → run_by next begin ts ≡ Some x → next x t ≡ None → Begins l (ts ++ t ∷ []) → ⊥
  bad ts t x e n b =
      let s = begins-run (ts ++ t ∷ []) b in
      let f : run_by next begin (ts ++ t ∷ []) ≡ Some (d.flat s.0) = begin-agrees (ts ++ t ∷ []) ∙ ap (option_map d.flat) s.1 in
      let g : run_by next begin (ts ++ t ∷ []) ≡ None = run-snoc next ts t begin ∙ ap (option_and_then (λ n. next n t)) e ∙ n in
      cc

  -- the tokens are a whole text with this tree
  pub derives : (ts : List Tok) (x : F) (r : l.Tree) → run_by next begin ts ≡ Some x → end x ≡ Some r → Derives l ts r
  derives ts x r e f =
      let b = behind ts x e in
      let q = behind_of l.tree (d.final b.0) r (sym (d.ends_flat b.0) ∙ ap end b.2 ∙ f) in
      let p : parse_by d.step d.final d.start ts ≡ Some q.0 = parse-run d.step d.final d.start ts ∙ ap (option_and_then d.final) b.1 ∙ q.1 in
      (q.0, sound ts q.0 p, q.2)

  -- the tokens are no whole text
  pub early : (ts : List Tok) (x : F) → run_by next begin ts ≡ Some x → end x ≡ None → (r : l.Tree) → Derives l ts r → ⊥
  early ts x e f r (p, t, w) =
      let b = behind ts x e in
      let n : d.final b.0 ≡ None = none_of l.tree (d.final b.0) (sym (d.ends_flat b.0) ∙ ap end b.2 ∙ f) in
      let q : parse_by d.step d.final d.start ts ≡ Some p = ap (parse_by d.step d.final d.start) (sym t) ∙ d.found p in
      let h : parse_by d.step d.final d.start ts ≡ None = parse-run d.step d.final d.start ts ∙ ap (option_and_then d.final) b.1 ∙ n in
      let z : Some p ≡ None = sym q ∙ h in
      cc

  -- what a tree is read from is taken, and ends with this tree
  pub derived : (ts : List Tok) (r : l.Tree) → Derives l ts r → (x : F) × (run_by next begin ts ≡ Some x) × (end x ≡ Some r)
  derived ts r (p, t, w) =
      let q : parse_by d.step d.final d.start ts ≡ Some p = ap (parse_by d.step d.final d.start) (sym t) ∙ d.found p in
      let f = ended (run_by d.step d.start ts) p (sym (parse-run d.step d.final d.start ts) ∙ q) in
      (d.flat f.0, begin-agrees ts ∙ ap (option_map d.flat) f.1, d.ends_flat f.0 ∙ ap (option_map l.tree) f.2 ∙ ap (λ z. let o : Option l.Tree = Some z in o) w)
    where
      ended : (o : Option d.State) (p : l.Parse) → option_and_then d.final o ≡ Some p → (s : d.State) × (o ≡ Some s) × (d.final s ≡ Some p)
      ended None p e = absurd cc
      ended (Some s) p e = (s, refl, e)
