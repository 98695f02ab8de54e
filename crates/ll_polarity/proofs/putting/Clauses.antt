-- The clauses of a text, put into a bank.
use Rattle.std.proofs.Common.{◌≡◌, ℕ, zero, suc, ◌+◌, ◌*◌, ◌<◌, ◌≤◌, take, List, [], length, Option, sym, subst, ap, ◌∙◌, arith, map, ◌∷◌, ◌++◌, get_or, refl}
use Rattle.std.specs.Prelude.{option_map, ◌^◌}
use Rattle.std.specs.List.{IsDistinct}
use Rattle.std.specs.Str.{bytes_eq}
use Rattle.std.proofs.lemmas.List.{length-map, map-append}
use Rattle.std.proofs.lemmas.List.Elements.{All-head, All-tail, All-push}
use Rattle.ll_bank.specs.Nodes.{Nodes, HasForm, Extends}
use Rattle.ll_bank.proofs.CallerLemmas.{Extends-trans, HasForm-extends, form_tree-extends}
use Rattle.ll_lexer.specs.declared.Fault.{Fault}
use Rattle.ll_laws.specs.declared.Clause.{Clause}
use Rattle.ll_laws.specs.Shown.{clause_tree, HasClauses}
use Rattle.ll_laws.specs.Valid.{ClauseSide}
use Rattle.ll_parser.specs.declared.RawClause.{RawClause}
use Rattle.ll_parser.specs.Nodes.{Node, raw_at, shown_clause}
use Rattle.ll_parser.specs.Raw as raw
use Rattle.ll_polarity.specs.Asks.{read_clause, read_clauses}
use Rattle.ll_polarity.specs.Faults.{Heading, form_faults, clauses_faults}
use Rattle.ll_polarity.proofs.reading.Terms.{none_left, none_right}
use Rattle.ll_parser.specs.Raw.{Raw}
use Rattle.ll_parser.specs.Weights.{weight, clauses_weight}
use Rattle.ll_polarity.specs.Scope.{Scope}
use Rattle.ll_polarity.specs.Reading.{Met, read_form, module_in}
use Rattle.ll_polarity.specs.Numbered.{text_of, variables_of}
use Rattle.ll_polarity.specs.Built.{Around, built_form}
use Rattle.ll_polarity.specs.Standing.{HasRoom}
use Rattle.ll_polarity.proofs.reading.Grows.{more_refl}
use Rattle.ll_polarity.proofs.reading.FewNames.{few_form, few_clauses}
use Rattle.ll_polarity.proofs.reading.Building.{met_form}
use Rattle.ll_polarity.proofs.reading.Reread.{again_form}

-- a formula that is read from its first name on has few names and variables
pub room_whole : (texts : List (List ℕ)) (places : List ℕ → ℕ) (a : Around) (names : List (List ℕ)) (vs : List (Option ℕ)) (r : Raw) → vs ≡ []
    → length names + weight r < 2 ^ 32
    → HasRoom (built_form places a (record { names = names; variables = variables_of texts vs }) r).met
room_whole texts places a names vs r e l =
    let m : Met = record { names = names; variables = [] } in
    let h = ap (λ us. (built_form places a (record { names = names; variables = variables_of texts us }) r).met) e ∙ met_form places [] a m r in
    let f = few_form [] a.scope m r in
    subst HasRoom (sym h) (record { names = omega arith; variables = omega arith })

-- what a first reading meets
module _ (texts : List (List ℕ)) (places : List ℕ → ℕ) (a : Around) (names later : List (List ℕ)) (vs us : List (Option ℕ)) (r : Raw) (none : vs ≡ [])
    (is : (let m : Met = record { names = later; variables = variables_of texts us } in m)
    ≡ (built_form places a (record { names = names; variables = variables_of texts vs }) r).met) where
  met_is : (ms : List (List ℕ)) → (let m : Met = record { names = later; variables = variables_of texts us } in m)
      ≡ (read_form ms a.scope (record { names = names; variables = [] }) r).met
  met_is ms = is ∙ (ap (λ xs. (built_form places a (record { names = names; variables = variables_of texts xs }) r).met) none
      ∙ met_form places ms a (record { names = names; variables = [] }) r)

  pub names_met : (ms : List (List ℕ)) → later ≡ (read_form ms a.scope (record { names = names; variables = [] }) r).met.names
  names_met ms = ap (λ m. m.names) (met_is ms)

  pub count_met : (ms : List (List ℕ)) → length us ≡ length (read_form ms a.scope (record { names = names; variables = [] }) r).met.variables
  count_met ms = sym (length-map us (option_map (text_of texts))) ∙ ap (λ m. length m.variables) (met_is ms)

  pub few_met : length later + length us ≤ length names + weight r
  few_met = let f = few_form [] a.scope (record { names = names; variables = [] }) r in let x = ap length (names_met []) in let y = count_met [] in omega arith

-- a second reading meets no more names
pub names_again : (ms : List (List ℕ)) (scope : Scope) (names later : List (List ℕ)) (r : Raw) → IsDistinct bytes_eq later
    → later ≡ (read_form ms scope (record { names = names; variables = [] }) r).met.names
    → (read_form ms scope (record { names = later; variables = [] }) r).met.names ≡ (read_form ms scope (record { names = names; variables = [] }) r).met.names
names_again ms scope names later r distinct is =
    let x = read_form ms scope (record { names = names; variables = [] }) r in
    ap (λ ns. (read_form ms scope (record { names = ns; variables = [] }) r).met.names) is
    ∙ ap (λ y. y.met.names) (again_form x.met.names (subst (IsDistinct bytes_eq) is distinct) ms scope (record { names = names; variables = [] }) r
    (more_refl x.met.names))

-- ---- clauses in a row

-- what the first clauses are read as, so far
pub record AreRead (texts : List (List ℕ)) (forms : List Node) (places : List ℕ
    → ℕ) (scope : Scope) (names : List (List ℕ)) (first bank : Nodes) (from : List RawClause) (put : List Clause) (now : List (List ℕ)) : Type 0 where
  pub show : (ms : List (List ℕ)) (heads : List Heading) → ((w : List ℕ) → places w ≡ module_in ms w)
      → clauses_faults heads scope (map (shown_clause texts forms) from) ≡ []
      → map (clause_tree bank) put ≡ (read_clauses ms scope names (map (shown_clause texts forms) from)).it
  pub met : (ms : List (List ℕ)) → now ≡ (read_clauses ms scope names (map (shown_clause texts forms) from)).names
  pub inside : HasClauses bank put
  pub keeps : Extends first bank

clauses_then : (ms : List (List ℕ)) (scope : Scope) (names : List (List ℕ)) (cs : List raw.ClauseTree) (c : raw.ClauseTree)
    → (let r = read_clauses ms scope names cs in let x = read_clause ms scope r.names c in
    ((read_clauses ms scope names (cs ++ c ∷ [])).it ≡ r.it ++ x.it ∷ []) × ((read_clauses ms scope names (cs ++ c ∷ [])).names ≡ x.names))
clauses_then ms scope names [] c = (refl, refl)
clauses_then ms scope names (x ∷ cs) c =
    let r = read_clause ms scope names x in let i = clauses_then ms scope r.names cs c in (ap (λ rs. r.it ∷ rs) i.0, i.1)

faults_then : (heads : List Heading) (scope : Scope) (cs : List raw.ClauseTree) (c : raw.ClauseTree) → clauses_faults heads scope (cs ++ c ∷ []) ≡ []
    → (clauses_faults heads scope cs ≡ []) × (form_faults heads ClauseSide scope c.form ≡ [])
faults_then heads scope [] c h = (refl, none_left (form_faults heads ClauseSide scope c.form) [] h)
faults_then heads scope (x ∷ cs) c h =
    let a = form_faults heads ClauseSide scope x.form in
    let i = faults_then heads scope cs c (none_right a (clauses_faults heads scope (cs ++ c ∷ [])) h) in
    (both a (clauses_faults heads scope cs) (none_left a (clauses_faults heads scope (cs ++ c ∷ [])) h) i.0, i.1)
  where
    both : (xs ys : List Fault) → xs ≡ [] → ys ≡ [] → xs ++ ys ≡ []
    both xs ys e d = ap (λ zs. zs ++ ys) e ∙ d

pub same_clauses : {old new : Nodes} (e : Extends old new) (put : List Clause) → HasClauses old put → map (clause_tree new) put ≡ map (clause_tree old) put
same_clauses e [] h = refl
same_clauses {old} {new} e (c ∷ put) h =
    let P : Clause → Type 0 = λ x. HasForm old x.form.0 in
    let a = form_tree-extends e c.form.0 (All-head P c put h) in
    let b = same_clauses e put (All-tail P c put h) in
    λ i. record { kind = c.kind; form = a i } ∷ b i

module _ (texts : List (List ℕ)) (forms : List Node) (places : List ℕ → ℕ) (scope : Scope) (names : List (List ℕ)) (first : Nodes) where
  pub read_more : (old new : Nodes) (from : List RawClause) (c : RawClause) (put later : List Clause) (x : Clause) (now after : List (List ℕ))
      → AreRead texts forms places scope names first old from put now
      → ((ms : List (List ℕ)) (heads : List Heading) → ((w : List ℕ) → places w ≡ module_in ms w)
      → form_faults heads ClauseSide scope (raw_at texts forms c.form.0) ≡ []
      → clause_tree new x ≡ (read_clause ms scope now (shown_clause texts forms c)).it)
      → ((ms : List (List ℕ)) → after ≡ (read_clause ms scope now (shown_clause texts forms c)).names) → HasForm new x.form.0 → Extends old new
      → later ≡ put ++ x ∷ []
      → AreRead texts forms places scope names first new (from ++ c ∷ []) later after
  read_more old new from c put later x now after r shows met inside keeps added =
      let shown = shown_clause texts forms in
      let snoc : map shown (from ++ c ∷ []) ≡ map shown from ++ shown c ∷ [] = map-append shown from (c ∷ []) in
      record {
        show = λ ms heads same h. (
            let f = faults_then heads scope (map shown from) (shown c) (ap (clauses_faults heads scope) (sym snoc) ∙ h) in
            let e = clauses_then ms scope names (map shown from) (shown c) in
            ap (map (clause_tree new)) added ∙ (map-append (clause_tree new) put (x ∷ [])
            ∙ ((λ i. (same_clauses keeps put r.inside ∙ r.show ms heads same f.0) i
            ++ (shows ms heads same f.1 ∙ ap (λ ns. (read_clause ms scope ns (shown c)).it) (r.met ms)) i ∷ [])
            ∙ (sym e.0 ∙ ap (λ cs. (read_clauses ms scope names cs).it) (sym snoc)))));
        met = λ ms. (
            let e = clauses_then ms scope names (map shown from) (shown c) in
            met ms ∙ (ap (λ ns. (read_clause ms scope ns (shown c)).names) (r.met ms)
            ∙ (sym e.1 ∙ ap (λ cs. (read_clauses ms scope names cs).names) (sym snoc))));
        inside = subst (HasClauses new) (sym added) (All-push (λ y. HasForm new y.form.0) put x
            (λ k d l. HasForm-extends keeps (get_or put k d).form.0 (r.inside k d l)) inside);
        keeps = Extends-trans r.keeps keeps;
      }

weights_at : (texts : List (List ℕ)) (forms : List Node) (from : List RawClause) (i : ℕ) (d : RawClause) → i < length from
    → clauses_weight (map (shown_clause texts forms) (take i from))
    + weight (raw_at texts forms (get_or from i d).form.0) ≤ clauses_weight (map (shown_clause texts forms) from)
weights_at texts forms [] i d l = absurd (omega arith)
weights_at texts forms (c ∷ from) zero d l = omega arith
weights_at texts forms (c ∷ from) (suc i) d l = omega (arith, weights_at texts forms from i d (omega arith))

pub room_next : (texts : List (List ℕ)) (forms : List Node) (scope : Scope) (names now : List (List ℕ)) (from : List RawClause) (i s : ℕ) (d : RawClause)
    → now ≡ (read_clauses [] scope names (map (shown_clause texts forms) (take i from))).names
    → i < length from → length names + s + 6 * clauses_weight (map (shown_clause texts forms) from) < 2 ^ 32
    → length now + s + 6 * weight (raw_at texts forms (get_or from i d).form.0) < 2 ^ 32
room_next texts forms scope names now from i s d is l h =
    let a = weights_at texts forms from i d l in
    let b = few_clauses [] scope names (map (shown_clause texts forms) (take i from)) in
    let e = ap length is in omega arith
