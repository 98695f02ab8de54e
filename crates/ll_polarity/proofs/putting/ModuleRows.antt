-- The modules of a text, put into a bank.
use Rattle.std.proofs.Common.{◌≡◌, ℕ, zero, suc, ◌+◌, ◌*◌, ◌<◌, ◌≤◌, All, take, List, [], ◌∷◌, ◌++◌, length, map, get_or, None, refl, sym, subst, ap, ◌∙◌}
use Rattle.std.proofs.Common.{arith, length-append}
use Rattle.std.specs.Prelude.{◌^◌}
use Rattle.std.specs.List.{AllByRecursion, IsDistinct}
use Rattle.std.specs.Str.{bytes_eq}
use Rattle.std.proofs.lemmas.List.{length-map, map-append}
use Rattle.std.proofs.lemmas.List.Elements.{All-head, All-tail, All-push, All-from_recursion}
use Rattle.ll_bank.specs.Nodes.{Nodes, Extends}
use Rattle.ll_bank.proofs.CallerLemmas.{Extends-trans, HasForm-extends}
use Rattle.ll_lexer.specs.declared.Fault.{Fault}
use Rattle.ll_laws.specs.declared.Module.{Module}
use Rattle.ll_laws.specs.Shown.{module_tree, HasClauses, HasModules}
use Rattle.ll_parser.specs.declared.RawClause.{RawClause}
use Rattle.ll_parser.specs.declared.RawModule.{RawModule}
use Rattle.ll_parser.specs.Nodes.{Node, identifier, shown_clause, shown_module}
use Rattle.ll_parser.specs.Tokens.{Identifier, dot}
use Rattle.ll_parser.specs.Raw as raw
use Rattle.ll_parser.specs.Text.{programs}
use Rattle.ll_parser.specs.Text as text
use Rattle.ll_parser.specs.Reads.{IsWhole}
use Rattle.ll_parser.specs.Weights.{clauses_weight, modules_weight}
use Rattle.ll_polarity.specs.Asks.{read_module, read_modules}
use Rattle.ll_polarity.specs.Faults.{Heading, clauses_faults, modules_faults}
use Rattle.ll_polarity.specs.Reading.{module_in}
use Rattle.ll_polarity.specs.Scope.{Scoped, module_scope}
use Rattle.ll_polarity.specs.Numbered.{text_of}
use Rattle.ll_polarity.specs.Standing.{StandsIn}
use Rattle.ll_polarity.specs.Calls.{IsReady}
use Rattle.ll_polarity.specs.Ready.{AreClausesReady}
use Rattle.ll_polarity.proofs.putting.Clauses.{same_clauses}
use Rattle.ll_polarity.proofs.reading.FewNames.{few_modules}
use Rattle.ll_polarity.proofs.faults.Judging.{all-map}
use Rattle.ll_polarity.proofs.reading.Terms.{none_left, none_right}

-- ---- what the code knows of a module

-- clauses whose formulas are nodes in which each name has a text
pub ready_clauses : (texts : List (List ℕ)) (nodes : List Node) (cs : List RawClause) → AreClausesReady texts nodes cs
    → All (λ (c : RawClause). IsReady texts nodes c.form.0) cs
ready_clauses texts nodes cs h = λ k d l. let r = h k d l in record { inside = r.0; named = r.1 }

-- where nothing is bound yet
pub stands_first : (texts : List (List ℕ)) (b : Scoped) → IsDistinct bytes_eq texts → b ≡ record { texts = texts; scope = [] }
    → StandsIn texts b (record { quantified = None; depth = 0 })
stands_first texts b distinct e =
    let l : length b.scope ≡ 0 = ap (λ (x : Scoped). length x.scope) e in
    record { distinct = distinct; same = ap (λ (x : Scoped). x.texts) e; depth = omega arith; room = omega arith }

-- ---- modules in a row

-- what the first modules are read as, so far
pub record AreModulesRead (texts : List (List ℕ)) (forms : List Node) (places : List ℕ
    → ℕ) (names : List (List ℕ)) (first bank : Nodes) (from : List RawModule) (put : List Module) (now : List (List ℕ)) : Type 0 where
  pub show : (ms : List (List ℕ)) (heads : List Heading) → ((w : List ℕ) → places w ≡ module_in ms w) → (earlier : List (List ℕ))
      → modules_faults heads earlier (map (shown_module texts forms) from) ≡ []
      → map (module_tree bank) put ≡ (read_modules ms names (map (shown_module texts forms) from)).it
  pub met : (ms : List (List ℕ)) → now ≡ (read_modules ms names (map (shown_module texts forms) from)).names
  pub inside : HasModules bank put
  pub keeps : Extends first bank

modules_then : (ms : List (List ℕ)) (names : List (List ℕ)) (rest : List raw.ModuleTree) (m : raw.ModuleTree)
    → (let r = read_modules ms names rest in let x = read_module ms r.names m in
    ((read_modules ms names (rest ++ m ∷ [])).it ≡ r.it ++ x.it ∷ []) × ((read_modules ms names (rest ++ m ∷ [])).names ≡ x.names))
modules_then ms names [] m = (refl, refl)
modules_then ms names (x ∷ rest) m =
    let r = read_module ms names x in let i = modules_then ms r.names rest m in (ap (λ rs. r.it ∷ rs) i.0, i.1)

faults_then : (heads : List Heading) (earlier : List (List ℕ)) (rest : List raw.ModuleTree) (m : raw.ModuleTree)
    → modules_faults heads earlier (rest ++ m ∷ []) ≡ []
    → (modules_faults heads earlier rest ≡ []) × (clauses_faults heads (module_scope m) m.clauses ≡ [])
faults_then heads earlier [] m h = (refl, none_right _ (clauses_faults heads (module_scope m) m.clauses) (none_left _ [] h))
faults_then heads earlier (x ∷ rest) m h =
    let later = x.name.text ∷ earlier in
    let i = faults_then heads later rest m (none_right _ (modules_faults heads later (rest ++ m ∷ [])) h) in
    (both _ (modules_faults heads later rest) (none_left _ (modules_faults heads later (rest ++ m ∷ [])) h) i.0, i.1)
  where
    both : (xs ys : List Fault) → xs ≡ [] → ys ≡ [] → xs ++ ys ≡ []
    both xs ys e d = ap (λ zs. zs ++ ys) e ∙ d

pub same_modules : {old new : Nodes} (e : Extends old new) (put : List Module) → HasModules old put → map (module_tree new) put ≡ map (module_tree old) put
same_modules e [] h = refl
same_modules {old} {new} e (m ∷ put) h =
    let P : Module → Type 0 = λ x. HasClauses old x.clauses.items in
    let a = same_clauses e m.clauses.items (All-head P m put h) in
    let b = same_modules e put (All-tail P m put h) in
    λ i. record { name = m.name; params = m.params; locals = m.locals; clauses = a i } ∷ b i

module _ (texts : List (List ℕ)) (forms : List Node) (places : List ℕ → ℕ) (names : List (List ℕ)) (first : Nodes) where
  pub modules_more : (old new : Nodes) (from : List RawModule) (m : RawModule) (put later : List Module) (x : Module) (now after : List (List ℕ))
      → AreModulesRead texts forms places names first old from put now
      → ((ms : List (List ℕ)) (heads : List Heading) → ((w : List ℕ) → places w ≡ module_in ms w)
      → (let s = shown_module texts forms m in clauses_faults heads (module_scope s) s.clauses ≡ [] → module_tree new x ≡ (read_module ms now s).it))
      → ((ms : List (List ℕ)) → after ≡ (read_module ms now (shown_module texts forms m)).names) → HasClauses new x.clauses.items → Extends old new
      → later ≡ put ++ x ∷ []
      → AreModulesRead texts forms places names first new (from ++ m ∷ []) later after
  modules_more old new from m put later x now after r shows met inside keeps added =
      let shown = shown_module texts forms in
      let snoc : map shown (from ++ m ∷ []) ≡ map shown from ++ shown m ∷ [] = map-append shown from (m ∷ []) in
      record {
        show = λ ms heads same earlier h. (
            let f = faults_then heads earlier (map shown from) (shown m) (ap (modules_faults heads earlier) (sym snoc) ∙ h) in
            let e = modules_then ms names (map shown from) (shown m) in
            ap (map (module_tree new)) added ∙ (map-append (module_tree new) put (x ∷ [])
            ∙ ((λ i. (same_modules keeps put r.inside ∙ r.show ms heads same earlier f.0) i
            ++ (shows ms heads same f.1 ∙ ap (λ ns. (read_module ms ns (shown m)).it) (r.met ms)) i ∷ [])
            ∙ (sym e.0 ∙ ap (λ rs. (read_modules ms names rs).it) (sym snoc)))));
        met = λ ms. (
            let e = modules_then ms names (map shown from) (shown m) in
            met ms ∙ (ap (λ ns. (read_module ms ns (shown m)).names) (r.met ms) ∙ (sym e.1 ∙ ap (λ rs. (read_modules ms names rs).names) (sym snoc))));
        inside = subst (HasModules new) (sym added) (All-push (λ y. HasClauses new y.clauses.items) put x
            (λ k d l. λ j c n. HasForm-extends keeps (get_or (get_or put k d).clauses.items j c).form.0 (r.inside k d l j c n)) inside);
        keeps = Extends-trans r.keeps keeps;
      }

-- ---- room

weights_at : (texts : List (List ℕ)) (forms : List Node) (from : List RawModule) (i : ℕ) (d : RawModule) → i < length from
    → modules_weight (map (shown_module texts forms) (take i from))
    + suc (clauses_weight (map (shown_clause texts forms) (get_or from i d).clauses.items)) ≤ modules_weight (map (shown_module texts forms) from)
weights_at texts forms [] i d l = absurd (omega arith)
weights_at texts forms (m ∷ from) zero d l = omega arith
weights_at texts forms (m ∷ from) (suc i) d l = omega (arith, weights_at texts forms from i d (omega arith))

pub room_at_module : (texts : List (List ℕ)) (forms : List Node) (names now : List (List ℕ)) (from : List RawModule) (i : ℕ) (item : RawModule)
    → now ≡ (read_modules [] names (map (shown_module texts forms) (take i from))).names
    → i < length from → item ≡ get_or from i item → All (λ (m : RawModule). length m.locals.items + length m.params.items < 2 ^ 31) from
    → length names + 6 * modules_weight (map (shown_module texts forms) from) < 2 ^ 31
    → length now + 1 + (length item.locals.items + length item.params.items) + 6 * clauses_weight (map (shown_clause texts forms) item.clauses.items) < 2 ^ 32
room_at_module texts forms names now from i item is l same few h =
    let a = weights_at texts forms from i item l in
    let b = few_modules [] names (map (shown_module texts forms) (take i from)) in
    let e = ap length is in
    let f = few i item l in
    subst (λ (m : RawModule). length now + 1 + (length m.locals.items + length m.params.items)
    + 6 * clauses_weight (map (shown_clause texts forms) m.clauses.items) < 2 ^ 32) (sym same) (omega arith)

-- ---- a whole program's modules have few names of their own

length-names : (ns : List Identifier) → length (text.names ns) ≡ length ns
length-names [] = refl
length-names (n ∷ ns) = ap suc (length-names ns)

length-variables : (ns : List Identifier) → length (text.variables ns) ≡ length ns
length-variables [] = refl
length-variables (n ∷ ns) = ap suc (length-variables ns)

short_locals : (ls : List text.Local) → length (text.locals_of ls) ≤ length (text.locals_tokens ls)
short_locals [] = omega arith
short_locals (l ∷ ls) =
    let i = short_locals ls in
    let a = length-append l.others (text.locals_of ls) in
    let b = length-append (text.local_tokens l) (text.locals_tokens ls) in
    let c = length-append (text.names l.others) (dot l.end ∷ []) in
    let n = length-names l.others in omega arith

-- the local constants and the parameters of a module are so many at most
abbrev pub HasFewOwn : ℕ → raw.ModuleTree → Type 0
HasFewOwn most m = length m.locals + length m.params ≤ most

few_own : (most : ℕ) (ms : List text.Module) → length (text.modules_tokens ms) ≤ most → AllByRecursion (HasFewOwn most) (map text.module_tree ms)
few_own most [] h = tt
few_own most (m ∷ ms) h =
    let a = length-append (text.module_tokens m) (text.modules_tokens ms) in
    let b = length-append (text.heading_tokens m.heading) (text.locals_tokens m.locals ++ text.clauses_tokens m.clauses) in
    let c = length-append (text.locals_tokens m.locals) (text.clauses_tokens m.clauses) in
    let d = length-append (text.variables m.heading.params) (dot m.heading.end ∷ []) in
    let v = length-variables m.heading.params in
    let l = short_locals m.locals in (omega arith, few_own most ms (omega arith))

pub whole_few_own : (tree : raw.ProgramTree) → IsWhole programs tree → All (HasFewOwn 16777216) tree.modules
whole_few_own tree (ts, few, spelled, ((p, e, f), within)) =
    let le : length (text.program_tokens p) ≤ 16777216 = subst (λ z. length z ≤ 16777216) (sym e) few in
    let l = length-append (text.clauses_tokens p.clauses) (text.modules_tokens p.modules) in
    subst (λ z. All (HasFewOwn 16777216) z.modules) f (All-from_recursion (HasFewOwn 16777216) (map text.module_tree p.modules)
    (few_own 16777216 p.modules (omega arith)))

pub few_own_shown : (texts : List (List ℕ)) (nodes : List Node) (modules : List RawModule) → All (HasFewOwn 16777216) (map (shown_module texts nodes) modules)
    → All (λ (m : RawModule). length m.locals.items + length m.params.items < 2 ^ 31) modules
few_own_shown texts nodes modules h = λ k d l.
    let f = all-map (shown_module texts nodes) (HasFewOwn 16777216) modules h k d l in
    let m = get_or modules k d in
    let a = length-map m.locals.items (identifier texts) in let b = length-map m.params.items (identifier texts) in omega arith

-- each module weighs something
pub length-modules : (ms : List raw.ModuleTree) → length ms ≤ modules_weight ms
length-modules [] = omega arith
length-modules (m ∷ ms) = let i = length-modules ms in omega arith

-- the places of modules by the names that they have in the tree
pub places_shown : (texts : List (List ℕ)) (nodes : List Node) (modules : List RawModule)
    → map (λ m. text_of texts m.name.name) modules ≡ map (λ m. m.name.text) (map (shown_module texts nodes) modules)
places_shown texts nodes [] = refl
places_shown texts nodes (m ∷ modules) = ap (λ ws. text_of texts m.name.name ∷ ws) (places_shown texts nodes modules)
