-- Terms whose places are taken by their images, one by one.
use Rattle.std.proofs.Common.{◌≡◌, ℕ, ◌+◌, ◌<◌, ◌≤◌, List, [], length, map, take, get_or, refl, ap, sym, subst, ◌∙◌, arith}
use Rattle.std.specs.Prelude.{slice_set, Any}
use Rattle.std.proofs.lemmas.List.{length-set, get_or-set_other, get_or_default, take_all, take_more_set}
use Rattle.ll_bank.specs.declared.At.{At}
use Rattle.ll_bank.specs.declared.closing.values.Values.{Values}
use Rattle.ll_bank.specs.Term.{close}
use Rattle.ll_bank.specs.Nodes.{Nodes, HasTerm, AllInTerms, ShowsTerm, Extends, term_tree, term_trees}
use Rattle.ll_bank.specs.Opened.{term_parts_at}
use Rattle.ll_bank.specs.Closing.{env_in, HasValues, under}
use Rattle.ll_bank.proofs.Trees.{Extends-refl, Extends-trans, HasTerm-extends}
use Rattle.ll_bank.proofs.PartLemmas.{term_parts_same}
use Rattle.ll_bank.proofs.closes.Steps.{terms_more, term_shown}

-- the first terms have their images in their places, and the others stand as they stood
pub record AreFilled (first now : Nodes) (values : Values) (level : ℕ) (old own : List At) (index : ℕ) : Type 0 where
  pub many : length own ≡ length old
  pub keeps : Extends first now
  pub places : AllInTerms now (take index own)
  pub shows : term_trees now (take index own) ≡ map (close (under (env_in first values) level)) (term_trees first (take index old))
  pub left : (k : ℕ) (d : At) → index ≤ k → get_or own k d ≡ get_or old k d

pub filled-none : (first : Nodes) (values : Values) (level : ℕ) (old : List At) → AreFilled first first values level old old 0
filled-none first values level old = record {
  many = refl;
  keeps = Extends-refl first;
  places = λ k d l. absurd (omega (arith, l));
  shows = refl;
  left = λ k d l. refl;
}

module _ (first now : Nodes) (values : Values) (level : ℕ) (old own : List At) (index : ℕ) (d : At) (inside : AllInTerms first old) (l : index < length old)
    (f : AreFilled first now values level old own index) where
  stood : get_or own index d ≡ get_or old index d
  stood = f.left index d (omega arith)

  was_in : HasTerm first (get_or old index d).0
  was_in = inside index d l

  -- the next term stands as it stood
  pub filled-next : HasTerm now (get_or own index d).0
  filled-next = subst (λ (a : At). HasTerm now a.0) (sym stood) (HasTerm-extends f.keeps (get_or old index d).0 was_in)

  pub filled-more : (next : Nodes) (image : At) → HasValues first values → Extends now next
      → ShowsTerm next image.0 (close (under (env_in now values) level) (term_tree now (get_or own index d).0))
      → AreFilled first next values level old (slice_set own index image) (index + 1)
  filled-more next image all e s =
      let here = term_shown first now f.keeps values all ((get_or old index d).0, level) next image.0 was_in
      (subst (λ (a : At). ShowsTerm next image.0 (close (under (env_in now values) level) (term_tree now a.0))) stood s) in
      let more = terms_more first now next e (env_in first values) level old (take index own) (take (index + 1) (slice_set own index image)) index d image l
      f.places f.shows here (take_more_set own index image (let m = f.many in omega (arith, l, m))) in
      record {
        many = length-set own index image ∙ f.many;
        keeps = Extends-trans f.keeps e;
        places = more.0;
        shows = more.1;
        left = λ k c m. get_or-set_other own index k image c (λ q. let x : ⊥ = omega (arith, m, q) in x) ∙ f.left k c (omega (arith, m));
      }

  -- one that has arguments had them
  pub filled-other : ((term_parts_at now ((get_or own index d).0, level) ≡ []) → ⊥) → Any (λ a. (term_parts_at first (a.0, level) ≡ []) → ⊥) old
  filled-other some = (
    index,
    get_or old index d,
    l,
    get_or_default old index (get_or old index d) d l,
    λ e. some (ap (λ (a : At). term_parts_at now (a.0, level)) stood ∙ (term_parts_same first now f.keeps ((get_or old index d).0, level) was_in ∙ e)),
  )

-- all have their images
pub filled-all : (first now : Nodes) (values : Values) (level : ℕ) (old own : List At) (index : ℕ) → length old ≤ index
    → AreFilled first now values level old own index
    → AllInTerms now own × (term_trees now own ≡ map (close (under (env_in first values) level)) (term_trees first old))
filled-all first now values level old own index l f =
    let mine : take index own ≡ own = take_all index own (let m = f.many in omega (arith, l, m)) in (
      subst (AllInTerms now) mine f.places,
      sym (ap (term_trees now) mine) ∙ (f.shows ∙ ap (λ xs. map (close (under (env_in first values) level)) (term_trees first xs)) (take_all index old l)),
    )
