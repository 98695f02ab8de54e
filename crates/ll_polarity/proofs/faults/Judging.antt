-- The first faults of programs, part by part.
use Rattle.std.proofs.Common.{◌≡◌, ℕ, suc, ◌+◌, ◌<◌, Bool, true, false, true≢false, List, [], ◌∷◌, ◌++◌, length, map, take, drop, reverse, All, Option, Some}
use Rattle.std.proofs.Common.{None, slice_index_or, refl, sym, subst, ap, ◌∙◌, arith, length-append, drop-cons, add-one, if◌then◌else◌}
use Rattle.std.specs.Prelude.{is_some, IfNone, MatchOption}
use Rattle.std.specs.List.{list_any}
use Rattle.std.specs.Str.{bytes_eq}
use Rattle.std.specs.HashMap.{HashMap}
use Rattle.std.specs.declared.hash.FoldHasher.{FoldHasher}
use Rattle.std.specs.declared.hash.BuildHasherDefault.{BuildHasherDefault}
use Rattle.std.proofs.lemmas.List.{append-nil, length-map, length-reverse, map-append, take_more, get_or-map}
use denote.Ref.{Bor}
use Rattle.ll_lexer.specs.declared.Fault.{Fault}
use Rattle.ll_parser.specs.declared.Named.{Named}
use Rattle.ll_parser.specs.declared.RawClause.{RawClause}
use Rattle.ll_parser.specs.declared.RawModule.{RawModule}
use Rattle.ll_parser.specs.Tokens.{Identifier}
use Rattle.ll_parser.specs.Raw.{ClauseTree}
use Rattle.ll_parser.specs.Nodes.{Node, identifier, shown_clause, shown_module, shown_program}
use Rattle.ll_parser.specs.Drafts.{ClausesFit, ModuleFits}
use Rattle.ll_polarity.specs.Scope.{Binder, Scoped, module_scope}
use Rattle.ll_polarity.specs.Faults.{Heading, heading, repeated, clauses_faults, modules_faults}
use Rattle.ll_polarity.specs.Headings.{AreFound}
use Rattle.ll_polarity.specs.Asks.{IsFirst}
use Rattle.ll_polarity.specs.Named.{HasText, IsNamed, IsModuleNamed, IsProgramNamed}
use Rattle.ll_polarity.specs.Pending.{IsHead}
use Rattle.ll_polarity.specs.Ready.{AreNumbers, AreClausesReady, IsModuleReady, raw_heading}
use Rattle.ll_polarity.proofs.naming.Named.{number-within}

-- ---- heads of lists

-- no head, no faults
pub no-head : (o : Option Fault) (fs : List Fault) → is_some o ≡ false → IsHead o fs → fs ≡ []
no-head None fs e h = h
no-head (Some f) fs e h = absurd (true≢false e)

-- a head stays one before others
pub head-before : (o : Option Fault) (fs gs : List Fault) → is_some o ≡ true → IsHead o fs → IsHead o (fs ++ gs)
head-before None fs gs e h = absurd (true≢false (sym e))
head-before (Some f) fs gs e h = (h.0 ++ gs, ap (λ z. z ++ gs) h.1)

-- after no faults
pub head-after : (o p : Option Fault) (fs gs : List Fault) → is_some o ≡ false → IsHead o fs → IsHead p gs → IsHead p (fs ++ gs)
head-after o p fs gs e h k = subst (λ z. IsHead p (z ++ gs)) (sym (no-head o fs e h)) k

pub first-along : (f : Fault) (fs gs : List Fault) → fs ≡ gs → IsFirst f gs → IsFirst f fs
first-along f fs gs e h = (h.0, e ∙ h.1)

pub head-along : (o : Option Fault) (fs gs : List Fault) → fs ≡ gs → IsHead o gs → IsHead o fs
head-along o fs gs e h = subst (IsHead o) (sym e) h

-- ---- names

-- a name that was there before
pub repeated-head : (texts : List (List ℕ)) (earlier : List (List ℕ)) (names : List Named) (i : ℕ) (d : Named) (more : List Identifier) → i < length names
    → list_any (bytes_eq (identifier texts (slice_index_or names i d)).text) earlier ≡ true
    → IsFirst (record { at = (slice_index_or names i d).at; kind = 12 }) (repeated earlier (map (identifier texts) (drop i names) ++ more))
repeated-head texts earlier names i d more l e =
    let n = slice_index_or names i d in
    let rest = repeated ((identifier texts n).text ∷ earlier) (map (identifier texts) (drop (suc i) names) ++ more) in
    first-along (record { at = n.at; kind = 12 }) (repeated earlier (map (identifier texts) (drop i names) ++ more)) (record { at = n.at; kind = 12 } ∷ rest)
    (ap (λ ns. repeated earlier (map (identifier texts) ns ++ more)) (drop-cons names i d l)
    ∙ ap (λ b. (if b then record { at = n.at; kind = 12 } ∷ [] else []) ++ rest) e) (rest, refl)

-- the parameters of a module, and then its locals
pub own-first : (texts texts1 : List (List ℕ)) (ps ps1 ls ls1 : List Named) (t0 t1 t2 : List (List ℕ)) (o1 o2 : Option Fault) → t0 ≡ [] → texts1 ≡ texts
    → ps1 ≡ ps → ls1 ≡ ls → is_some o1 ≡ false
    → ((more : List Identifier) → MatchOption o1 (repeated t0 (map (identifier texts) ps1 ++ more) ≡ repeated t1 more)
    (λ f. IsFirst f (repeated t0 (map (identifier texts) ps1 ++ more))))
    → ((more : List Identifier) → MatchOption o2 (repeated t1 (map (identifier texts1) ls1 ++ more) ≡ repeated t2 more)
    (λ f. IsFirst f (repeated t1 (map (identifier texts1) ls1 ++ more))))
    → IsHead o2 (repeated [] (map (identifier texts) ps ++ map (identifier texts) ls))
own-first texts texts1 ps ps1 ls ls1 t0 t1 t2 (Some f) o2 e0 et ep el none h k = absurd (true≢false none)
own-first texts texts1 ps ps1 ls ls1 t0 t1 t2 None o2 e0 et ep el none h k = head-along o2 _ _ first (by o2 (k []))
  where
    first : repeated [] (map (identifier texts) ps ++ map (identifier texts) ls) ≡ repeated t1 (map (identifier texts1) ls1 ++ [])
    first =
        sym (ap (λ ts. repeated ts (map (identifier texts) ps ++ map (identifier texts) ls)) e0)
        ∙ (sym (ap (λ ns. repeated t0 (map (identifier texts) ns ++ map (identifier texts) ls)) ep)
        ∙ (h (map (identifier texts) ls)
        ∙ (sym (ap (λ ns. repeated t1 (map (identifier texts) ns)) el)
        ∙ (sym (ap (λ ts. repeated t1 (map (identifier ts) ls1)) et) ∙ sym (ap (repeated t1) (append-nil (map (identifier texts1) ls1)))))))

    by : (o : Option Fault) → MatchOption o (repeated t1 (map (identifier texts1) ls1 ++ []) ≡ repeated t2 [])
        (λ f. IsFirst f (repeated t1 (map (identifier texts1) ls1 ++ [])))
        → IsHead o (repeated t1 (map (identifier texts1) ls1 ++ []))
    by None m = m
    by (Some f) m = m

-- ---- the scope of a module

-- binders of names, the last one innermost
abbrev pub opened : Bool → List Named → Scoped → Scoped
opened local names b = record b {
  scope = map (λ (n : Identifier). record { text = n.text; local = local }) (reverse (map (identifier b.texts) names))
      ++ b.scope;
}

-- how many binders there are then
pub opened-length : (local : Bool) (before later : Scoped) (names : List Named) → later ≡ opened local names before
    → length later.scope ≡ length names + length before.scope
opened-length local before later names e =
    let texts = map (identifier before.texts) names in
    let inner = map (λ (n : Identifier). let b : Binder = record { text = n.text; local = local } in b) (reverse texts) in
    let l = length-append inner before.scope in
    let m = length-map (reverse texts) (λ (n : Identifier). let b : Binder = record { text = n.text; local = local } in b) in
    let r = length-reverse texts in
    let k = length-map names (identifier before.texts) in
    ap (λ (b : Scoped). length b.scope) e ∙ omega arith

pub scope-of-module : (texts : List (List ℕ)) (nodes : List Node) (m : RawModule) (ls ps : List Named) (b0 b1 b2 b3 : Scoped)
    → b0 ≡ record { texts = texts; scope = [] } → b1 ≡ b0 → b2 ≡ opened true ls b1 → b3 ≡ opened false ps b2
    → ls ≡ m.locals.items → ps ≡ m.params.items → b3.scope ≡ module_scope (shown_module texts nodes m)
scope-of-module texts nodes m ls ps b0 b1 b2 b3 e0 e1 e2 e3 el ep =
    let start = e1 ∙ e0 in
    let all = e3 ∙ ap (opened false ps) (e2 ∙ ap (opened true ls) start) in
    let inner = λ (ns : List Named). map (λ (n : Identifier). let b : Binder = record { text = n.text; local = false } in
    b) (reverse (map (identifier texts) ns)) in
    let outside = λ (ns : List Named). map (λ (n : Identifier). let b : Binder = record { text = n.text; local = true } in
    b) (reverse (map (identifier texts) ns)) in
    ap (λ (b : Scoped). b.scope) all ∙ (ap (λ s. inner ps ++ s) (append-nil (outside ls))
    ∙ (ap (λ ns. inner ns ++ outside ls) ep ∙ ap (λ ns. inner m.params.items ++ outside ns) el))

-- ---- modules

module _ (texts : List (List ℕ)) (nodes : List Node) (ms : List Heading) (modules : List RawModule) (i : ℕ) (item : RawModule) (inside : i < length modules)
    (is : item ≡ slice_index_or modules i item) (earlier : List (List ℕ)) where
  abbrev own : List Fault
  own = repeated [] (map (identifier texts) item.params.items ++ map (identifier texts) item.locals.items)

  abbrev in_clauses : List Fault
  in_clauses = clauses_faults ms (module_scope (shown_module texts nodes item)) (map (shown_clause texts nodes) item.clauses.items)

  abbrev after : List Fault
  after = modules_faults ms ((identifier texts item.name).text ∷ earlier) (map (shown_module texts nodes) (drop (i + 1) modules))

  -- the faults of this module and those behind it
  this-and-others : (b : Bool) → list_any (bytes_eq (identifier texts item.name).text) earlier ≡ b
      → modules_faults ms earlier (map (shown_module texts nodes) (drop i modules)) ≡ (if b then record { at = item.name.at; kind = 12 } ∷ [] else []) ++ own
      ++ in_clauses ++ after
  this-and-others b e =
      ap (λ rs. modules_faults ms earlier (map (shown_module texts nodes) rs))
      (drop-cons modules i item inside ∙ (ap (λ (m : RawModule). m ∷ drop (suc i) modules) (sym is) ∙ ap (λ n. item ∷ drop n modules) (sym (add-one i))))
      ∙ ap (λ v. (if v then record { at = item.name.at; kind = 12 } ∷ [] else []) ++ own ++ in_clauses ++ after) e

  -- a name that was there before
  pub name-repeated : list_any (bytes_eq (identifier texts item.name).text) earlier ≡ true
      → IsFirst (record { at = item.name.at; kind = 12 }) (modules_faults ms earlier (map (shown_module texts nodes) (drop i modules)))
  name-repeated e = (own ++ in_clauses ++ after, this-and-others true e)

  -- a fault inside
  pub fault-inside : (o : Option Fault) → list_any (bytes_eq (identifier texts item.name).text) earlier ≡ false → is_some o ≡ true
      → IsHead o (own ++ in_clauses)
      → IsHead o (modules_faults ms earlier (map (shown_module texts nodes) (drop i modules)))
  fault-inside o e some h = head-along o _ _ (this-and-others false e) (head-before o (own ++ in_clauses) after some h)

  -- none
  pub module-done : (o : Option Fault) → list_any (bytes_eq (identifier texts item.name).text) earlier ≡ false → is_some o ≡ false
      → IsHead o (own ++ in_clauses)
      → modules_faults ms earlier (map (shown_module texts nodes) (drop i modules)) ≡ after
  module-done o e none h = this-and-others false e ∙ ap (λ z. z ++ after) (no-head o (own ++ in_clauses) none h)

-- ---- headings

-- one more module
pub headings-more : {A : Type 0} (f : A → Heading) (xs : List A) (i : ℕ) (item : A) (h : Heading)
    (old new : HashMap (Bor (List ℕ)) ℕ (BuildHasherDefault FoldHasher)) → i < length xs → item ≡ slice_index_or xs i item → h ≡ f item
    → AreFound old (map f (take i xs)) → ((ms : List Heading) → AreFound old ms → AreFound new (ms ++ h ∷ [])) → AreFound new (map f (take (i + 1) xs))
headings-more f xs i item h old new inside is this known adds =
    subst (AreFound new) (ap (λ h. map f (take i xs) ++ h ∷ []) this ∙ more) (adds (map f (take i xs)) known)
  where
    more : map f (take i xs) ++ f item ∷ [] ≡ map f (take (i + 1) xs)
    more = ap (λ x. map f (take i xs) ++ f x ∷ []) is ∙ (sym (map-append f (take i xs) (slice_index_or xs i item ∷ []))
        ∙ sym (ap (map f) (take_more xs i item inside)))

-- the headings of the modules that are shown
pub headings-shown : (texts : List (List ℕ)) (nodes : List Node) (modules : List RawModule)
    → map (raw_heading texts) modules ≡ map heading (map (shown_module texts nodes) modules)
headings-shown texts nodes [] = refl
headings-shown texts nodes (m ∷ modules) =
    ap (λ k. record { name = (identifier texts m.name).text; params = k } ∷ map (raw_heading texts) modules)
    (sym (length-map m.params.items (identifier texts)))
    ∙ ap (λ hs. heading (shown_module texts nodes m) ∷ hs) (headings-shown texts nodes modules)

-- ---- what is known of whole programs

pub all-map : {A B : Type 0} (f : A → B) (P : B → Type 0) (xs : List A) → All P (map f xs) → All (λ x. P (f x)) xs
all-map f P xs h = λ k d l. let e = length-map xs f in subst P (get_or-map f xs k d (f d) l) (h k (f d) (omega arith))

module _ (texts : List (List ℕ)) (nodes : List Node) where
  clauses-ready : (cs : List RawClause) → ClausesFit nodes cs → All (λ (c : ClauseTree). IsNamed c.form) (map (shown_clause texts nodes) cs)
      → AreClausesReady texts nodes cs
  clauses-ready cs fit named = λ k d l. (fit k d l, all-map (shown_clause texts nodes) (λ c. IsNamed c.form) cs named k d l)

  numbers : (ns : List Named) → All HasText (map (identifier texts) ns) → AreNumbers texts ns
  numbers ns h = λ k d l. number-within texts (slice_index_or ns k d) (all-map (identifier texts) HasText ns h k d l)

  module-ready : (m : RawModule) → ModuleFits nodes m → IsModuleNamed (shown_module texts nodes m) → IsModuleReady texts nodes m
  module-ready m fit named = record {
    name = number-within texts m.name named.name;
    params = numbers m.params.items named.params;
    locals = numbers m.locals.items named.locals;
    clauses = clauses-ready m.clauses.items fit named.clauses;
  }

  -- a program of which each name has a text
  pub program-clauses-ready : (cs : List RawClause) (modules : List RawModule) → IsProgramNamed (shown_program texts nodes cs modules) → ClausesFit nodes cs
      → AreClausesReady texts nodes cs
  program-clauses-ready cs modules named fit = clauses-ready cs fit named.clauses

  pub program-modules-ready : (cs : List RawClause) (modules : List RawModule) → IsProgramNamed (shown_program texts nodes cs modules)
      → All (ModuleFits nodes) modules → All (IsModuleReady texts nodes) modules
  program-modules-ready cs modules named fit = λ k d l. module-ready (slice_index_or modules k d) (fit k d l)
      (all-map (shown_module texts nodes) IsModuleNamed modules named.modules k d l)

-- what holds where there is none
pub where-none : {X : Type 0} (o : Option X) (P : Type 0) → is_some o ≡ false → IfNone o P → P
where-none None P e h = h
where-none (Some x) P e h = absurd (true≢false e)

module _ (texts : List (List ℕ)) (nodes : List Node) where
  -- the headings of a program
  pub headings-known : (params : HashMap (Bor (List ℕ)) ℕ (BuildHasherDefault FoldHasher)) (modules modules1 : List RawModule) → modules1 ≡ modules
      → AreFound params (map (raw_heading texts) modules1)
      → AreFound params (map heading (map (shown_module texts nodes) modules))
  headings-known params modules modules1 e h = subst (AreFound params) (ap (map (raw_heading texts)) e ∙ headings-shown texts nodes modules) h

  -- the clauses before its first module
  pub clauses-head : (ms : List Heading) (o : Option Fault) (b : Scoped) (cs cs1 : List RawClause) → b ≡ record { texts = texts; scope = [] } → cs1 ≡ cs
      → IsHead o (clauses_faults ms b.scope (map (shown_clause texts nodes) cs1))
      → IsHead o (clauses_faults ms [] (map (shown_clause texts nodes) cs))
  clauses-head ms o b cs cs1 e q h =
      subst (λ (v : Scoped). IsHead o (clauses_faults ms v.scope (map (shown_clause texts nodes) cs))) e
      (subst (λ ds. IsHead o (clauses_faults ms b.scope (map (shown_clause texts nodes) ds))) q h)
