-- What is read again, where all its names are known, is the same.
use Rattle.std.proofs.Common.{◌≡◌, ℕ, List, [], ◌∷◌, length, Some, refl, subst, ap, ◌∙◌}
use Rattle.std.specs.Prelude.{unwrap_or}
use Rattle.std.specs.List.{IsDistinct}
use Rattle.std.specs.Str.{bytes_eq}
use Rattle.ll_bank.specs.declared.Head.TheVariants as head
use Rattle.ll_bank.specs.Names.{with_name}
use Rattle.ll_bank.specs.Term.{Term, Con, apply}
use Rattle.ll_bank.specs.Form.{Form, Atom, Bang, Forall, Exists, Use, Num, Relation, Is, Less, Most}
use Rattle.ll_bank.proofs.CallerLemmas.{number_of-slice_get, with_name-present}
use Rattle.ll_laws.specs.Valid.{Side}
use Rattle.ll_parser.specs.Raw.{Raw, truth, erasure, braces, universal, existential, load, binary, is_goal, less_goal, most_goal, anything, int, RawList, none}
use Rattle.ll_parser.specs.Raw.{more}
use Rattle.ll_parser.specs.Raw as raw
use Rattle.ll_polarity.specs.Scope.{Scope, Meaning, Bound, Local, Free, Constant, meaning, binds}
use Rattle.ll_polarity.specs.Reading.{Met, Read, number_in, read_name, read_term, read_terms, read_number, read_form, joined, module_in, bind_form}
use Rattle.ll_polarity.specs.Faults.{Heading, form_faults}
use Rattle.ll_polarity.specs.Built.{built_form}
use Rattle.ll_polarity.specs.Standing.{outermost}
use Rattle.ll_polarity.proofs.reading.Grows.{More, more_refl, more_trans, numbered, longer_term, longer_terms, longer_form}
use Rattle.ll_polarity.proofs.reading.Building.{same_form}

module _ (all : List (List ℕ)) (distinct : IsDistinct bytes_eq all) where
  abbrev knowing : Met → Met
  knowing met = record { names = all; variables = met.variables }

  abbrev again : {A : Type 0} → Read A → Read A
  again r = record { it = r.it; met = knowing r.met }

  again_constant : (names : List (List ℕ)) (w : List ℕ) → More (with_name names w) all
      → (with_name all w ≡ all) × (number_in (with_name all w) w ≡ number_in (with_name names w) w)
  again_constant names w m =
      let k = number_in (with_name names w) w in
      let n = number_of-slice_get all w k distinct (m.kept k w (numbered names w)) in
      let p = with_name-present all w k n in
      (p, ap (λ ns. number_in ns w) p ∙ ap (λ o. unwrap_or o 0) n)

  again_name : (m : Meaning) (met : Met) (w : List ℕ) → More (read_name m met w).met.names all → read_name m (knowing met) w ≡ again (read_name m met w)
  again_name (Bound k) met w h = refl
  again_name (Local k) met w h = refl
  again_name Free met w h = refl
  again_name Constant met w h =
      let e = again_constant met.names w h in
      λ i. record { it = Con (head.Name (e.1 i)); met = record { names = e.0 i; variables = met.variables } }

  mutual
    again_term : (scope : Scope) (met : Met) (r : Raw) → More (read_term scope met r).met.names all
        → read_term scope (knowing met) r ≡ again (read_term scope met r)
    again_term scope met (raw.head n args) h =
        let m = meaning scope n.text in
        let f = read_name m met n.text in
        let i = again_name m met n.text (more_trans (longer_terms scope f.met args).names h) in
        let j = again_terms scope f.met args h in
        ap (λ x. let ts = read_terms scope x.met args in let y : Read Term = record { it = apply x.it ts.it; met = ts.met } in y) i
        ∙ ap (λ ts. let y : Read Term = record { it = apply f.it ts.it; met = ts.met } in y) j
    again_term scope met (anything at) h = refl
    again_term scope met (int at z) h = refl
    again_term scope met (truth at) h = refl
    again_term scope met (erasure at) h = refl
    again_term scope met (braces at r) h = refl
    again_term scope met (universal at n r) h = refl
    again_term scope met (existential at n r) h = refl
    again_term scope met (load at m args r) h = refl
    again_term scope met (binary o at l r) h = refl
    again_term scope met (is_goal at l r) h = refl
    again_term scope met (less_goal at l r) h = refl
    again_term scope met (most_goal at l r) h = refl

    again_terms : (scope : Scope) (met : Met) (rs : RawList) → More (read_terms scope met rs).met.names all
        → read_terms scope (knowing met) rs ≡ again (read_terms scope met rs)
    again_terms scope met none h = refl
    again_terms scope met (more r rs) h =
        let t = read_term scope met r in
        let i = again_term scope met r (more_trans (longer_terms scope t.met rs).names h) in
        let j = again_terms scope t.met rs h in
        ap (λ x. let ts = read_terms scope x.met rs in let y : Read (List Term) = record { it = x.it ∷ ts.it; met = ts.met } in y) i
        ∙ ap (λ ts. let y : Read (List Term) = record { it = t.it ∷ ts.it; met = ts.met } in y) j

  abbrev read_as : Form → Met → Read Form
  read_as f met = record { it = f; met = met }

  again_number : (q : Relation) (scope : Scope) (met : Met) (l r : Raw) → More (read_number q scope met l r).met.names all
      → read_number q scope (knowing met) l r ≡ again (read_number q scope met l r)
  again_number q scope met l r h =
      let t = read_term scope met l in
      let i = again_term scope met l (more_trans (longer_term scope t.met r).names h) in
      let j = again_term scope t.met r h in
      ap (λ x. let u = read_term scope x.met r in read_as (Num q x.it u.it) u.met) i ∙ ap (λ u. read_as (Num q t.it u.it) u.met) j

  pub again_form : (ms : List (List ℕ)) (scope : Scope) (met : Met) (r : Raw) → More (read_form ms scope met r).met.names all
      → read_form ms scope (knowing met) r ≡ again (read_form ms scope met r)
  again_form ms scope met (truth at) h = refl
  again_form ms scope met (erasure at) h = refl
  again_form ms scope met (braces at r) h = ap (λ x. read_as (Bang x.it) x.met) (again_form ms scope met r h)
  again_form ms scope met (universal at n r) h = ap (λ x. read_as (Forall x.it) x.met) (again_form ms (binds n.text ∷ scope) met r h)
  again_form ms scope met (existential at n r) h = ap (λ x. read_as (Exists x.it) x.met) (again_form ms (binds n.text ∷ scope) met r h)
  again_form ms scope met (load at m args r) h =
      let ts = read_terms scope met args in
      let i = again_terms scope met args (more_trans (longer_form ms scope ts.met r).names h) in
      let j = again_form ms scope ts.met r h in
      ap (λ us. let g = read_form ms scope us.met r in read_as (Use (module_in ms m.text) us.it g.it) g.met) i
      ∙ ap (λ g. read_as (Use (module_in ms m.text) ts.it g.it) g.met) j
  again_form ms scope met (binary o at l r) h =
      let f = read_form ms scope met l in
      let i = again_form ms scope met l (more_trans (longer_form ms scope f.met r).names h) in
      let j = again_form ms scope f.met r h in
      ap (λ x. let g = read_form ms scope x.met r in read_as (joined o x.it g.it) g.met) i ∙ ap (λ g. read_as (joined o f.it g.it) g.met) j
  again_form ms scope met (is_goal at l r) h = again_number Is scope met l r h
  again_form ms scope met (less_goal at l r) h = again_number Less scope met l r h
  again_form ms scope met (most_goal at l r) h = again_number Most scope met l r h
  again_form ms scope met (raw.head n args) h = ap (λ t. read_as (Atom t.it) t.met) (again_term scope met (raw.head n args) h)
  again_form ms scope met (anything at) h = refl
  again_form ms scope met (int at z) h = refl

-- a clause that is read again, with the places of quantifiers for its variables
pub clause_built : (places : List ℕ → ℕ) (ms : List (List ℕ)) (heads : List Heading) (side : Side) (scope : Scope) (names later : List (List ℕ)) (n : ℕ)
    (r : Raw) → ((w : List ℕ) → places w ≡ module_in ms w)
    → IsDistinct bytes_eq later → (let x = read_form ms scope (record { names = names; variables = [] }) r in
    (later ≡ x.met.names) → (n ≡ length x.met.variables) → form_faults heads side scope r ≡ []
    → built_form places (outermost (Some n) scope) (record { names = later; variables = [] }) r
    ≡ record { it = bind_form (length x.met.variables) 0 x.it; met = record { names = x.met.names; variables = x.met.variables } })
clause_built places ms heads side scope names later n r first distinct is count h =
    let x = read_form ms scope (record { names = names; variables = [] }) r in
    let e = same_form places ms heads first side (outermost (Some n) scope) (record { names = later; variables = [] }) r h in
    let d = subst (IsDistinct bytes_eq) is distinct in
    let i : read_form ms scope (record { names = later; variables = [] }) r
    ≡ record { it = x.it; met = record { names = x.met.names; variables = x.met.variables } } =
    ap (λ ns. read_form ms scope (record { names = ns; variables = [] }) r) is
    ∙ again_form x.met.names d ms scope (record { names = names; variables = [] }) r (more_refl x.met.names) in
    e ∙ (ap (λ y. let z : Read Form = record { it = bind_form n 0 y.it; met = y.met } in z) i
    ∙ ap (λ k. let z : Read Form = record { it = bind_form k 0 x.it; met = record { names = x.met.names; variables = x.met.variables } } in z) count)
