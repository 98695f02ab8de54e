-- What is put together from a text without a fault is what is read of it, with the places of quantifiers for its variables.
use Rattle.std.proofs.Common.{◌≡◌, ℕ, suc, true, List, [], ◌∷◌, ◌++◌, map, length, Option, Some, None, refl, sym, ap, ◌∙◌, true≢false, find}
use Rattle.std.specs.Prelude.{pos}
use Rattle.ll_bank.specs.declared.Head.TheVariants as head
use Rattle.ll_bank.specs.Term.{Term, Var, Int, Con, Ap, apply}
use Rattle.ll_bank.specs.Form.{Form, Top, One, Atom, Bang, Forall, Exists, Use, Num, Relation, Is, Less, Most}
use Rattle.ll_lexer.specs.declared.Place.{Place}
use Rattle.ll_laws.specs.Valid.{Side}
use Rattle.ll_parser.specs.declared.Op.{Op}
use Rattle.ll_parser.specs.declared.Op.TheVariants as op
use Rattle.ll_parser.specs.Tokens.{Identifier}
use Rattle.ll_parser.specs.Raw.{Raw, truth, erasure, braces, universal, existential, load, binary, is_goal, less_goal, most_goal, anything, int, RawList, none}
use Rattle.ll_parser.specs.Raw.{more}
use Rattle.ll_parser.specs.Raw as raw
use Rattle.ll_polarity.specs.Scope.{Meaning, Bound, Local, Free, Constant, meaning, binds}
use Rattle.ll_polarity.specs.Reading.{Met, Read, read_name, read_term, read_terms, read_number, read_form, joined, module_in}
use Rattle.ll_polarity.specs.Faults.{Heading, unless, may_be_head, on_goal_side, left_side, right_side, may_join, load_fault, is_named, count, applied_fault}
use Rattle.ll_polarity.specs.Faults.{term_faults, terms_faults, number_faults, form_faults}
use Rattle.ll_polarity.specs.Built.{Around, inside, put_term, put_form, applied, built_term, built_terms, built_number, built_form}
use Rattle.ll_polarity.proofs.reading.Terms.{none_left, none_right, none_unless}

-- ---- what was met is the same in any case

mutual
  pub met_term : (a : Around) (met : Met) (r : Raw) → (built_term a met r).met ≡ (read_term a.scope met r).met
  met_term a met (raw.head n args) = met_terms a (read_name (meaning a.scope n.text) met n.text).met args
  met_term a met (anything at) = refl
  met_term a met (int at z) = refl
  met_term a met (truth at) = refl
  met_term a met (erasure at) = refl
  met_term a met (braces at r) = refl
  met_term a met (universal at n r) = refl
  met_term a met (existential at n r) = refl
  met_term a met (load at m args r) = refl
  met_term a met (binary o at l r) = refl
  met_term a met (is_goal at l r) = refl
  met_term a met (less_goal at l r) = refl
  met_term a met (most_goal at l r) = refl

  pub met_terms : (a : Around) (met : Met) (rs : RawList) → (built_terms a met rs).met ≡ (read_terms a.scope met rs).met
  met_terms a met none = refl
  met_terms a met (more r rs) = ap (λ m. (built_terms a m rs).met) (met_term a met r) ∙ met_terms a (read_term a.scope met r).met rs

met_number : (q : Relation) (a : Around) (met : Met) (l r : Raw) → (built_number q a met l r).met ≡ (read_number q a.scope met l r).met
met_number q a met l r = ap (λ x. (built_term a x r).met) (met_term a met l) ∙ met_term a (read_term a.scope met l).met r

module _ (places : List ℕ → ℕ) (ms : List (List ℕ)) where
  pub met_form : (a : Around) (met : Met) (r : Raw) → (built_form places a met r).met ≡ (read_form ms a.scope met r).met
  met_form a met (truth at) = refl
  met_form a met (erasure at) = refl
  met_form a met (braces at r) = met_form a met r
  met_form a met (universal at n r) = met_form (inside n.text a) met r
  met_form a met (existential at n r) = met_form (inside n.text a) met r
  met_form a met (load at m args r) = ap (λ x. (built_form places a x r).met) (met_terms a met args) ∙ met_form a (read_terms a.scope met args).met r
  met_form a met (binary o at l r) = ap (λ x. (built_form places a x r).met) (met_form a met l) ∙ met_form a (read_form ms a.scope met l).met r
  met_form a met (is_goal at l r) = met_number Is a met l r
  met_form a met (less_goal at l r) = met_number Less a met l r
  met_form a met (most_goal at l r) = met_number Most a met l r
  met_form a met (raw.head n args) = met_term a met (raw.head n args)
  met_form a met (anything at) = refl
  met_form a met (int at z) = refl

-- ---- the places of quantifiers go into each part

put_int : (q : Option ℕ) (d : ℕ) (z : _) → Int z ≡ put_term q d (Int z)
put_int None d z = refl
put_int (Some n) d z = refl

put_none : (d : ℕ) (ts : List Term) → map (put_term None d) ts ≡ ts
put_none d [] = refl
put_none d (t ∷ ts) = ap (λ us. t ∷ us) (put_none d ts)

put_apply : (q : Option ℕ) (d : ℕ) (f : Term) (ts : List Term) → apply (put_term q d f) (map (put_term q d) ts) ≡ put_term q d (apply f ts)
put_apply q d f [] = refl
put_apply None d f (t ∷ ts) = ap (λ us. apply (Ap f t) us) (put_none d ts)
put_apply (Some n) d f (t ∷ ts) = put_apply (Some n) d (Ap f t) ts

applied_none : (f : Term) → applied f [] ≡ f
applied_none (Var x) = refl
applied_none (Int z) = refl
applied_none (Con h) = refl
applied_none (Ap f a) = refl

applied_head : (q : Option ℕ) (d : ℕ) (h : _) (ts : List Term) → applied (put_term q d (Con h)) ts ≡ apply (put_term q d (Con h)) ts
applied_head None d h ts = refl
applied_head (Some n) d (head.Name k) ts = refl
applied_head (Some n) d (head.Eigen k) ts = refl
applied_head (Some n) d (head.Bound k) ts = refl

-- what a name without a fault stands for, with its arguments
applied_name : (q : Option ℕ) (d : ℕ) (m : Meaning) (met : Met) (w : List ℕ) (ts : List Term) → may_be_head m ≡ true
    → applied (put_term q d (read_name m met w).it) ts ≡ apply (put_term q d (read_name m met w).it) ts
applied_name q d (Bound k) met w ts h = applied_head q d (head.Bound k) ts
applied_name q d (Local k) met w ts h = applied_head q d (head.Bound k) ts
applied_name q d Free met w ts h = absurd (true≢false (sym h))
applied_name q d Constant met w ts h = applied_head q d _ ts

mutual
  pub same_term : (a : Around) (met : Met) (r : Raw) → term_faults a.scope r ≡ []
      → built_term a met r ≡ record { it = put_term a.quantified a.depth (read_term a.scope met r).it; met = (read_term a.scope met r).met }
  same_term a met (raw.head n args) h =
      same_args a met n args h (same_terms a (read_name (meaning a.scope n.text) met n.text).met args
      (none_right (applied_fault a.scope n args) (terms_faults a.scope args) h))
  same_term a met (anything at) h = refl
  same_term a met (int at z) h = ap (λ t. let x : Read Term = record { it = t; met = met } in x) (put_int a.quantified a.depth z)
  same_term a met (truth at) h = ap (λ t. let x : Read Term = record { it = t; met = met } in x) (put_int a.quantified a.depth (pos 0))
  same_term a met (erasure at) h = ap (λ t. let x : Read Term = record { it = t; met = met } in x) (put_int a.quantified a.depth (pos 0))
  same_term a met (braces at r) h = ap (λ t. let x : Read Term = record { it = t; met = met } in x) (put_int a.quantified a.depth (pos 0))
  same_term a met (universal at n r) h = ap (λ t. let x : Read Term = record { it = t; met = met } in x) (put_int a.quantified a.depth (pos 0))
  same_term a met (existential at n r) h = ap (λ t. let x : Read Term = record { it = t; met = met } in x) (put_int a.quantified a.depth (pos 0))
  same_term a met (load at m args r) h = ap (λ t. let x : Read Term = record { it = t; met = met } in x) (put_int a.quantified a.depth (pos 0))
  same_term a met (binary o at l r) h = ap (λ t. let x : Read Term = record { it = t; met = met } in x) (put_int a.quantified a.depth (pos 0))
  same_term a met (is_goal at l r) h = ap (λ t. let x : Read Term = record { it = t; met = met } in x) (put_int a.quantified a.depth (pos 0))
  same_term a met (less_goal at l r) h = ap (λ t. let x : Read Term = record { it = t; met = met } in x) (put_int a.quantified a.depth (pos 0))
  same_term a met (most_goal at l r) h = ap (λ t. let x : Read Term = record { it = t; met = met } in x) (put_int a.quantified a.depth (pos 0))

  same_args : (a : Around) (met : Met) (n : Identifier) (args : RawList) → term_faults a.scope (raw.head n args) ≡ []
      → (let f = read_name (meaning a.scope n.text) met n.text in
      built_terms a f.met args ≡ record {
        it = map (put_term a.quantified a.depth) (read_terms a.scope f.met args).it;
        met =
            (read_terms a.scope f.met args).met;
      })
      → built_term a met (raw.head n args) ≡ record {
        it = put_term a.quantified a.depth (read_term a.scope met (raw.head n args)).it;
        met =
            (read_term a.scope met (raw.head n args)).met;
      }
  same_args a met n none h i =
      let f = read_name (meaning a.scope n.text) met n.text in
      ap (λ t. let x : Read Term = record { it = t; met = f.met } in x) (applied_none (put_term a.quantified a.depth f.it))
  same_args a met n (more r rs) h i =
      let m = meaning a.scope n.text in
      let f = read_name m met n.text in
      let ts = read_terms a.scope f.met (more r rs) in
      ap (λ us. let x : Read Term = record { it = applied (put_term a.quantified a.depth f.it) us.it; met = us.met } in x) i
      ∙ ap (λ t. let x : Read Term = record { it = t; met = ts.met } in x)
      (applied_name a.quantified a.depth m met n.text (map (put_term a.quantified a.depth) ts.it)
      (none_unless (may_be_head m) 9 n.at (none_left (applied_fault a.scope n (more r rs)) (terms_faults a.scope (more r rs)) h))
      ∙ put_apply a.quantified a.depth f.it ts.it)

  pub same_terms : (a : Around) (met : Met) (rs : RawList) → terms_faults a.scope rs ≡ []
      → built_terms a met rs ≡ record { it = map (put_term a.quantified a.depth) (read_terms a.scope met rs).it; met = (read_terms a.scope met rs).met }
  same_terms a met none h = refl
  same_terms a met (more r rs) h =
      let i = same_term a met r (none_left (term_faults a.scope r) (terms_faults a.scope rs) h) in
      let t = read_term a.scope met r in
      let j = same_terms a t.met rs (none_right (term_faults a.scope r) (terms_faults a.scope rs) h) in
      ap (λ x. let us = built_terms a x.met rs in let y : Read (List Term) = record { it = x.it ∷ us.it; met = us.met } in y) i
      ∙ ap (λ us. let y : Read (List Term) = record { it = put_term a.quantified a.depth t.it ∷ us.it; met = us.met } in y) j

-- ---- formulas

put_joined : (q : Option ℕ) (d : ℕ) (o : Op) (f g : Form) → joined o (put_form q d f) (put_form q d g) ≡ put_form q d (joined o f g)
put_joined None d o f g = refl
put_joined (Some n) d op.ColonDash f g = refl
put_joined (Some n) d op.LeftArrow f g = refl
put_joined (Some n) d op.Lolli f g = refl
put_joined (Some n) d op.RightArrow f g = refl
put_joined (Some n) d op.Plus f g = refl
put_joined (Some n) d op.With f g = refl
put_joined (Some n) d op.Tensor f g = refl

put_one : (q : Option ℕ) (d : ℕ) → One ≡ put_form q d One
put_one None d = refl
put_one (Some n) d = refl

put_top : (q : Option ℕ) (d : ℕ) → Top ≡ put_form q d Top
put_top None d = refl
put_top (Some n) d = refl

put_atom : (q : Option ℕ) (d : ℕ) (t : Term) → Atom (put_term q d t) ≡ put_form q d (Atom t)
put_atom None d t = refl
put_atom (Some n) d t = refl

put_bang : (q : Option ℕ) (d : ℕ) (f : Form) → Bang (put_form q d f) ≡ put_form q d (Bang f)
put_bang None d f = refl
put_bang (Some n) d f = refl

put_forall : (q : Option ℕ) (d : ℕ) (f : Form) → Forall (put_form q (suc d) f) ≡ put_form q d (Forall f)
put_forall None d f = refl
put_forall (Some n) d f = refl

put_exists : (q : Option ℕ) (d : ℕ) (f : Form) → Exists (put_form q (suc d) f) ≡ put_form q d (Exists f)
put_exists None d f = refl
put_exists (Some n) d f = refl

put_use : (q : Option ℕ) (d k : ℕ) (ts : List Term) (f : Form) → Use k (map (put_term q d) ts) (put_form q d f) ≡ put_form q d (Use k ts f)
put_use None d k ts f = ap (λ us. Use k us f) (put_none d ts)
put_use (Some n) d k ts f = refl

put_number : (o : Option ℕ) (d : ℕ) (q : Relation) (t u : Term) → Num q (put_term o d t) (put_term o d u) ≡ put_form o d (Num q t u)
put_number None d q t u = refl
put_number (Some n) d q t u = refl

abbrev read_as : Form → Met → Read Form
read_as f met = record { it = f; met = met }

abbrev atom_of : Read Term → Read Form
atom_of t = record { it = Atom t.it; met = t.met }

same_number : (q : Relation) (side : Side) (a : Around) (met : Met) (at : Place) (l r : Raw) → number_faults side a.scope at l r ≡ []
    → built_number q a met l r ≡ record { it = put_form a.quantified a.depth (read_number q a.scope met l r).it; met = (read_number q a.scope met l r).met }
same_number q side a met at l r h =
    let x = term_faults a.scope l in let y = unless (on_goal_side side) 7 at in let z = term_faults a.scope r in
    let t = read_term a.scope met l in let u = read_term a.scope t.met r in
    let i = same_term a met l (none_left x y (none_left (x ++ y) z h)) in
    let j = same_term a t.met r (none_right (x ++ y) z h) in
    ap (λ p. let v = built_term a p.met r in read_as (Num q p.it v.it) v.met) i
    ∙ (ap (λ v. read_as (Num q (put_term a.quantified a.depth t.it) v.it) v.met) j ∙ ap (λ f. read_as f u.met) (put_number a.quantified a.depth q t.it u.it))

module _ (places : List ℕ → ℕ) (ms : List (List ℕ)) (heads : List Heading) (first : (w : List ℕ) → places w ≡ module_in ms w) where
  pub same_form : (side : Side) (a : Around) (met : Met) (r : Raw) → form_faults heads side a.scope r ≡ []
      → built_form places a met r ≡ record { it = put_form a.quantified a.depth (read_form ms a.scope met r).it; met = (read_form ms a.scope met r).met }
  same_form side a met (truth at) h = ap (λ f. read_as f met) (put_one a.quantified a.depth)
  same_form side a met (erasure at) h = ap (λ f. read_as f met) (put_top a.quantified a.depth)
  same_form side a met (braces at r) h =
      let i = same_form side a met r (none_right (unless (on_goal_side side) 7 at) (form_faults heads side a.scope r) h) in
      let g = read_form ms a.scope met r in
      ap (λ x. read_as (Bang x.it) x.met) i ∙ ap (λ f. read_as f g.met) (put_bang a.quantified a.depth g.it)
  same_form side a met (universal at n r) h =
      let i = same_form side (inside n.text a) met r h in
      let g = read_form ms (binds n.text ∷ a.scope) met r in
      ap (λ x. read_as (Forall x.it) x.met) i ∙ ap (λ f. read_as f g.met) (put_forall a.quantified a.depth g.it)
  same_form side a met (existential at n r) h =
      let i = same_form side (inside n.text a) met r (none_right (unless (on_goal_side side) 7 at) (form_faults heads side (binds n.text ∷ a.scope) r) h) in
      let g = read_form ms (binds n.text ∷ a.scope) met r in
      ap (λ x. read_as (Exists x.it) x.met) i ∙ ap (λ f. read_as f g.met) (put_exists a.quantified a.depth g.it)
  same_form side a met (load at m args r) h =
      let w = load_fault (find (is_named m.text) heads) m (count args) in
      let x = terms_faults a.scope args in
      let y = unless (on_goal_side side) 8 at in
      let z = form_faults heads side a.scope r in
      let left = none_left (w ++ x ++ y) z h in
      let i = same_terms a met args (none_right w x (none_left (w ++ x) y left)) in
      let ts = read_terms a.scope met args in
      let j = same_form side a ts.met r (none_right (w ++ x ++ y) z h) in
      let g = read_form ms a.scope ts.met r in
      let k = module_in ms m.text in
      ap (λ n. let us = built_terms a met args in let x = built_form places a us.met r in read_as (Use n us.it x.it) x.met) (first m.text)
      ∙ (ap (λ us. let x = built_form places a us.met r in read_as (Use k us.it x.it) x.met) i
      ∙ (ap (λ x. read_as (Use k (map (put_term a.quantified a.depth) ts.it) x.it) x.met) j
      ∙ ap (λ f. read_as f g.met) (put_use a.quantified a.depth k ts.it g.it)))
  same_form side a met (binary o at l r) h =
      let x = form_faults heads (left_side o side) a.scope l in
      let y = unless (may_join o side) 7 at in
      let z = form_faults heads (right_side o side) a.scope r in
      let i = same_form (left_side o side) a met l (none_left x y (none_left (x ++ y) z h)) in
      let f = read_form ms a.scope met l in
      let j = same_form (right_side o side) a f.met r (none_right (x ++ y) z h) in
      let g = read_form ms a.scope f.met r in
      ap (λ p. let q = built_form places a p.met r in read_as (joined o p.it q.it) q.met) i
      ∙ (ap (λ q. read_as (joined o (put_form a.quantified a.depth f.it) q.it) q.met) j
      ∙ ap (λ f. read_as f g.met) (put_joined a.quantified a.depth o f.it g.it))
  same_form side a met (is_goal at l r) h = same_number Is side a met at l r h
  same_form side a met (less_goal at l r) h = same_number Less side a met at l r h
  same_form side a met (most_goal at l r) h = same_number Most side a met at l r h
  same_form side a met (raw.head n args) h =
      let i = same_term a met (raw.head n args) (head_faultless a n args h) in
      let t = read_term a.scope met (raw.head n args) in
      ap atom_of i ∙ ap (λ f. read_as f t.met) (put_atom a.quantified a.depth t.it)
    where
      head_faultless : (a : Around) (n : Identifier) (args : RawList) → unless (may_be_head (meaning a.scope n.text)) 9 n.at ++ terms_faults a.scope args ≡ []
          → term_faults a.scope (raw.head n args) ≡ []
      head_faultless a n none h = refl
      head_faultless a n (more r rs) h = h
  same_form side a met (anything at) h = ap (λ f. read_as f (read_term a.scope met (anything at)).met)
      (put_atom a.quantified a.depth (Var (length met.variables)))
  same_form side a met (int at z) h = ap atom_of (same_term a met (int at z) refl) ∙ ap (λ f. read_as f met) (put_atom a.quantified a.depth (Int z))
