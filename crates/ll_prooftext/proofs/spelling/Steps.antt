-- What is read of open brackets, step by step.
use Rattle.std.proofs.Common.{◌≡◌, ℕ, true, false, List, [], ◌∷◌, ◌++◌, length, map, reverse, All, refl, ap, sym, subst, ◌∙◌, arith, append_assoc, append-nil}
use Rattle.std.proofs.Common.{length-append, Option, Some, None}
use Rattle.std.specs.Prelude.{not}
use Rattle.std.specs.List.{flat_map}
use Rattle.std.proofs.lemmas.List.{map-append, reverse-append}
use Rattle.std.proofs.lemmas.List.Concat.{flat_map-append}
use Rattle.std.proofs.lemmas.List.Elements.{All-nil, All-push, All-weaker, All-map}
use Rattle.ll_bank.specs.declared.At.{At}
use Rattle.ll_bank.specs.declared.Head.{Head}
use Rattle.ll_bank.specs.Term.{Term, Var, Int, Con, Ap, app, is_closed}
use Rattle.ll_bank.specs.Nodes.{Nodes, term_tree, term_trees, Extends}
use Rattle.ll_bank.proofs.CallerLemmas.{Extends-trans}
use Rattle.ll_laws.specs.Output.{head_text, is_cons, has_arguments, term_text, argument_text}
use Rattle.ll_laws.specs.ProofText.{field, term_field}
use Rattle.ll_prooftext.specs.declared.words.Word.{Word}
use Rattle.ll_prooftext.specs.declared.words.Word.TheVariants.{Head as HeadWord, Term as LeafWord}
use Rattle.ll_prooftext.specs.declared.terms.Item.{Item}
use Rattle.ll_prooftext.specs.declared.terms.Bracket.{Bracket}
use Rattle.ll_prooftext.specs.declared.terms.Open.{Open}
use Rattle.ll_prooftext.specs.Admitted.{IsPlainHead, IsSpelledTerm}
use Rattle.ll_prooftext.specs.Reading.{is_none}
use Rattle.ll_prooftext.specs.Words.{BeginsNot}
use Rattle.ll_prooftext.specs.Terms.{Wanted, Applied, IsWord, IsWordOf, IsWordAt, HasNoWord, frame, fresh, takes, Accepts, Grows, Moves, IsSpelledAt}
use Rattle.ll_prooftext.specs.Terms.{text_at, argument_at}
use Rattle.ll_prooftext.specs.Brackets.{shape_of, frame_of, frames, item_text, part_text, args_text, bracket_text, gap, outer_text, open_text, IsGoodItem}
use Rattle.ll_prooftext.specs.Brackets.{IsGoodPart, IsGoodBracket, IsGood, Turns, IsTermFrom, IsOpened, HasItem}
use Rattle.ll_prooftext.proofs.spelling.Kept.{grows_none, flat_same, arg_good, arg_same}
use Rattle.ll_prooftext.proofs.spelling.Found.{moves_still, moves_over, moves_behind}
use Rattle.ll_prooftext.proofs.spelling.Mentioning.{space_mentions, open_mentions}
use Rattle.ll_prooftext.proofs.spelling.Extended.{at_kept, head_on, cons_on, app_text, app_spelled, app_closed, app_has, app_no_cons}
use Rattle.ll_prooftext.proofs.spelling.Reach.{is_wanted}
use Rattle.ll_prooftext.proofs.spelling.Spellings.{word_full}
use Rattle.ll_prooftext.proofs.spelling.Ways.{first_bracket_on, first_word_on, first_none, argument_none, argument_bracket_on}
use Rattle.ll_prooftext.proofs.spelling.Ways.{argument_word_on}

-- ---- names and terms more

module _ (names : List (List ℕ)) (bank : Nodes) (new : List (List ℕ)) (over : Nodes) (g : Grows names new) (e : Extends bank over) where
  item_good : (i : Item) → IsGoodItem names bank i → IsGoodItem new over i
  item_good i h = record { good = (at_kept names bank new over i.at.0 g e h.good).good; sign = cons_on names new i.sign g h.sign }

  item_same : (i : Item) → IsGoodItem names bank i → item_text new over i ≡ item_text names bank i
  item_same i h = let k = at_kept names bank new over i.at.0 g e h.good in let a = k.text in let b = k.cons in rw (a, b) refl

  part_good : (p : Option Word) (args : List At) → IsGoodPart names bank p args → IsGoodPart new over p args
  part_good None args h = h
  part_good (Some (HeadWord x)) args h = (head_on names new x g h).0
  part_good (Some (LeafWord at)) args h = let k = at_kept names bank new over at.0 g e h.1.0 in (h.0, (k.good, ap has_arguments k.tree ∙ h.1.1))

  pub part_same : (p : Option Word) (args : List At) → IsGoodPart names bank p args → part_text new over p ≡ part_text names bank p
  part_same None args h = refl
  part_same (Some (HeadWord x)) args h = (head_on names new x g h).1
  part_same (Some (LeafWord at)) args h = (at_kept names bank new over at.0 g e h.1.0).text

  pub bracket_good : (b : Bracket) → IsGoodBracket names bank b → IsGoodBracket new over b
  bracket_good b h = record {
    items = All-weaker (IsGoodItem names bank) (IsGoodItem new over) item_good b.items.items h.items;
    part = part_good b.part b.args.items h.part;
    args = All-weaker (λ (a : At). IsSpelledAt names bank a.0) (λ (a : At). IsSpelledAt new over a.0) (arg_good names bank new over g e) b.args.items h.args;
  }

  pub bracket_same : (b : Bracket) → IsGoodBracket names bank b → bracket_text new over b ≡ bracket_text names bank b
  bracket_same b h =
      let i = flat_same (IsGoodItem names bank) (item_text new over) (item_text names bank) item_same b.items.items h.items in
      let p = part_same b.part b.args.items h.part in
      let a : args_text new over b.args.items ≡ args_text names bank b.args.items =
      flat_same (λ (x : At). IsSpelledAt names bank x.0) (λ (x : At). field (argument_at new over x.0)) (λ (x : At). field (argument_at names bank x.0))
      (arg_same names bank new over g e) b.args.items h.args in
      ap (λ z. 40 ∷ (z ++ (part_text new over b.part ++ args_text new over b.args.items))) i
      ∙ (ap (λ z. 40 ∷ (flat_map (item_text names bank) b.items.items ++ (z ++ args_text new over b.args.items))) p
      ∙ ap (λ z. 40 ∷ (flat_map (item_text names bank) b.items.items ++ (part_text names bank b.part ++ z))) a)

  outer_same : (b : Bracket) → IsGoodBracket names bank b → outer_text new over b ≡ outer_text names bank b
  outer_same b h = ap (λ z. z ++ gap b.part) (bracket_same b h)

  pub open_good : (o : Open) → IsGood names bank o → IsGood new over o
  open_good o h = record {
    outer = All-weaker (IsGoodBracket names bank) (IsGoodBracket new over) bracket_good o.outer.items h.outer;
    top =
        bracket_good o.top h.top;
  }

  pub open_same : (o : Open) → IsGood names bank o → open_text new over o ≡ open_text names bank o
  open_same o h =
      let u = flat_same (IsGoodBracket names bank) (outer_text new over) (outer_text names bank) outer_same o.outer.items h.outer in
      ap (λ z. z ++ bracket_text new over o.top) u ∙ ap (λ z. flat_map (outer_text names bank) o.outer.items ++ z) (bracket_same o.top h.top)

-- ---- frames

pub frames_push : (xs : List Bracket) (x : Bracket) → reverse (map frame_of (xs ++ x ∷ [])) ≡ frame_of x ∷ reverse (map frame_of xs)
frames_push xs x = ap reverse (map-append frame_of xs (x ∷ [])) ∙ reverse-append (map frame_of xs) (frame_of x ∷ [])

-- the shape behind a word
pub word_shape : (names : List (List ℕ)) (bank : Nodes) (w : List ℕ) (x : Word) → IsWordOf names bank w x → IsWord w (shape_of (Some x) [])
word_shape names bank w (HeadWord h) i = i.word
word_shape names bank w (LeafWord at) i = i.word

pub shape_known : (x : Word) (args : List At) → is_wanted (shape_of (Some x) args) ≡ false
shape_known (HeadWord h) [] = refl
shape_known (HeadWord h) (a ∷ args) = refl
shape_known (LeafWord at) args = refl

pub takes_head : (h : Head) (args : List At) → takes (shape_of (Some (HeadWord h)) args) ≡ true
takes_head h [] = refl
takes_head h (a ∷ args) = refl

-- ---- into a bracket

module _ (names : List (List ℕ)) (bank : Nodes) (o p : Open) (good : IsGood names bank o) (opened : IsOpened o p) where
  opened_good : IsGood names bank p
  opened_good = record {
    outer = subst (All (IsGoodBracket names bank)) (sym opened.outer) (All-push (IsGoodBracket names bank) o.outer.items o.top good.outer good.top);
    top = record {
      items = subst (All (IsGoodItem names bank)) (sym opened.items) (All-nil (IsGoodItem names bank));
      part = rw opened.part opened.args;
      args = subst (All (λ (a : At). IsSpelledAt names bank a.0)) (sym opened.args) (All-nil (λ (a : At). IsSpelledAt names bank a.0));
    };
  }

  opened_frames : frames p ≡ fresh ∷ frames o
  opened_frames = rw (opened.outer, opened.items, opened.part) (ap (λ z. fresh ∷ z) (frames_push o.outer.items o.top))

  opened_text : open_text names bank p ≡ open_text names bank o ++ (gap o.top.part ++ 40 ∷ [])
  opened_text = rw (opened.outer, opened.items, opened.part, opened.args)
      (ap (λ z. z ++ 40 ∷ []) (flat_map-append (outer_text names bank) o.outer.items (o.top ∷ []))
      ∙ together (flat_map (outer_text names bank) o.outer.items) (bracket_text names bank o.top) (gap o.top.part))
    where
      together : (a b c : List ℕ) → (a ++ ((b ++ c) ++ [])) ++ 40 ∷ [] ≡ (a ++ b) ++ (c ++ 40 ∷ [])
      together a b c = simp (append_assoc, append-nil)

  pub first_opened : (left : List ℕ) → o.top.part ≡ None → Turns names bank o (40 ∷ left) names bank p left
  first_opened left n = record {
    good = opened_good;
    text = ap (λ z. z ++ left) opened_text ∙ (ap (λ q. (open_text names bank o ++ (gap q ++ 40 ∷ [])) ++ left) n
        ∙ append_assoc (open_text names bank o) (40 ∷ []) left);
    moves = moves_behind names bank (40 ∷ left) (40 ∷ []) left names bank left refl (open_mentions left) (moves_still names bank left);
    shorter = omega arith;
    goes = λ end a.
        let c = not (is_none o.top.items.items) in
        let fs = reverse (map frame_of o.outer.items) in
        let e : frames o ≡ frame c Wanted ∷ fs = ap (λ q. frame c (shape_of q o.top.args.items) ∷ fs) n in
        let b : Accepts end (frame c Wanted ∷ fs) (40 ∷ left) = subst (λ hs. Accepts end hs (40 ∷ left)) e a in
        subst (λ hs. Accepts end hs left) (sym (opened_frames ∙ ap (λ z. fresh ∷ z) e)) (first_bracket_on end c fs left b);
  }

  pub argument_opened : (left : List ℕ) (h : Head) → o.top.part ≡ Some (HeadWord h) → Turns names bank o (32 ∷ 40 ∷ left) names bank p left
  argument_opened left h n = record {
    good = opened_good;
    text = ap (λ z. z ++ left) opened_text ∙ (ap (λ q. (open_text names bank o ++ (gap q ++ 40 ∷ [])) ++ left) n
        ∙ append_assoc (open_text names bank o) (32 ∷ 40 ∷ []) left);
    moves = moves_behind names bank (32 ∷ 40 ∷ left) (32 ∷ 40 ∷ []) left names bank left refl (space_mentions (40 ∷ left) ∙ open_mentions left)
        (moves_still names bank left);
    shorter = omega arith;
    goes = λ end a. subst (λ fs. Accepts end fs left) (sym opened_frames)
        (argument_bracket_on end (not (is_none o.top.items.items)) (shape_of o.top.part o.top.args.items) (reverse (map frame_of o.outer.items)) left
        (rw n (shape_known (HeadWord h) o.top.args.items)) a);
  }

-- ---- words

-- brackets that differ in the part of the innermost one alone
pub record IsPut (o p : Open) (x : Word) : Type 0 where
  pub outer : p.outer.items ≡ o.outer.items
  pub items : p.top.items.items ≡ o.top.items.items
  pub part : p.top.part ≡ Some x
  pub args : p.top.args.items ≡ o.top.args.items

pub word_good : (names : List (List ℕ)) (bank : Nodes) (w : List ℕ) (x : Word) → IsWordOf names bank w x → IsGoodPart names bank (Some x) []
word_good names bank w (HeadWord h) i = i.plain
word_good names bank w (LeafWord at) i = (refl, (i.good, i.bare))

pub word_text : (names : List (List ℕ)) (bank : Nodes) (w : List ℕ) (x : Word) → IsWordOf names bank w x → part_text names bank (Some x) ≡ w
word_text names bank w (HeadWord h) i = i.is
word_text names bank w (LeafWord at) i = i.is

pub first_put : (names : List (List ℕ)) (bank : Nodes) (o p : Open) (x : Word) (bytes : List ℕ) (new : List (List ℕ)) (over : Nodes) (left : List ℕ)
    → IsGood names bank o → o.top.part ≡ None → Moves names bank bytes new over left → IsWordAt new over bytes x left → IsPut o p x
    → Turns names bank o bytes new over p left
first_put names bank o p x bytes new over left good n m w put = record {
  good = record {
    outer = rw put.outer g.outer;
    top = record {
      items = rw put.items g.top.items;
      part = rw (put.part, put.args, none) (word_good new over w.spelling x w.word);
      args = rw put.args g.top.args;
    };
  };
  text =
      ap (λ z. z ++ left) (rw (put.outer, put.items, put.part, put.args, none, wt) refl)
      ∙ (together (flat_map (outer_text new over) o.outer.items) (flat_map (item_text new over) o.top.items.items) w.spelling left
      ∙ (ap (λ z. z ++ (w.spelling ++ left)) same_o ∙ ap (λ z. open_text names bank o ++ z) (sym w.is)));
  moves = m;
  shorter = let f = word_full w.spelling (shape_of (Some x) []) (word_shape new over w.spelling x w.word) in let l = ap length w.is in
      let k = length-append w.spelling left in omega arith;
  goes = λ end a.
      let b : Accepts end (frame (not (is_none o.top.items.items)) Wanted ∷ reverse (map frame_of o.outer.items)) bytes = rw n at a in
      let c = first_word_on end (not (is_none o.top.items.items)) (reverse (map frame_of o.outer.items)) bytes w.spelling left (shape_of (Some x) [])
      (word_shape new over w.spelling x w.word) w.end w.is b in
      subst (λ fs. Accepts end fs left) (sym frames_p) c;
}
  where
    g : IsGood new over o
    g = open_good names bank new over m.grows m.keeps o good

    none : o.top.args.items ≡ []
    none = rw n at good.top.part

    wt : part_text new over (Some x) ≡ w.spelling
    wt = word_text new over w.spelling x w.word

    frames_p : frames p ≡ frame (not (is_none o.top.items.items)) (shape_of (Some x) []) ∷ reverse (map frame_of o.outer.items)
    frames_p = rw (put.outer, put.items, put.part, put.args, none) refl

    together : (a b c d : List ℕ) → (a ++ (40 ∷ (b ++ (c ++ [])))) ++ d ≡ (a ++ (40 ∷ (b ++ ([] ++ [])))) ++ (c ++ d)
    together a b c d = simp (append_assoc, append-nil)

    same_o : flat_map (outer_text new over) o.outer.items ++ (40 ∷ (flat_map (item_text new over) o.top.items.items ++ ([] ++ []))) ≡ open_text names bank o
    same_o =
        let q = none in
        let e : open_text new over o ≡ flat_map (outer_text new over) o.outer.items ++ (40 ∷ (flat_map (item_text new over) o.top.items.items ++ ([] ++ []))) =
        rw (n, q) refl in
        sym e ∙ open_same names bank new over m.grows m.keeps o good

-- ---- terms of parts

args_trees : (names : List (List ℕ)) (bank : Nodes) (args : List At) → args_text names bank args ≡ flat_map (term_field names) (term_trees bank args)
args_trees names bank [] = refl
args_trees names bank (a ∷ args) = ap (λ z. field (argument_at names bank a.0) ++ z) (args_trees names bank args)

-- the term of a part
pub record IsPartTerm (names : List (List ℕ)) (bank over : Nodes) (x : Word) (args : List At) (at : ℕ) : Type 0 where
  pub good : IsSpelledAt names over at
  pub text : text_at names over at ≡ part_text names bank (Some x) ++ args_text names bank args
  pub bare : is_cons names (term_tree over at) ≡ false
  pub has : has_arguments (term_tree over at) ≡ not (is_none args)

pub part_term : (names : List (List ℕ)) (bank over : Nodes) (x : Word) (args : List At) (at : ℕ) → IsGoodPart names bank (Some x) args
    → All (λ a. IsSpelledAt names bank a.0) args → IsTermFrom bank over x args at → Extends bank over → IsPartTerm names bank over x args at
part_term names bank over (HeadWord h) args at p a t e =
    let ts = term_trees bank args in
    let spelled : All (IsSpelledTerm names) ts = All-map (IsSpelledTerm names) (λ (b : At). term_tree bank b.0) args
    (All-weaker (λ (b : At). IsSpelledAt names bank b.0) (λ (b : At). IsSpelledTerm names (term_tree bank b.0)) (λ b s. s.spelled) args a) in
    let shut : All (λ u. is_closed u ≡ true) ts = All-map (λ u. is_closed u ≡ true) (λ (b : At). term_tree bank b.0) args
    (All-weaker (λ (b : At). IsSpelledAt names bank b.0) (λ (b : At). is_closed (term_tree bank b.0) ≡ true) (λ b s. s.closed) args a) in
    record {
      good = record {
        inside = t.inside;
        spelled = subst (IsSpelledTerm names) (sym t.tree) (app_spelled names h ts p spelled);
        closed =
            ap is_closed t.tree ∙ app_closed names h ts p shut;
      };
      text = ap (term_text names) t.tree ∙ (app_text names h ts p ∙ ap (λ z. head_text names h ++ z) (sym (args_trees names bank args)));
      bare = ap (is_cons names) t.tree ∙ app_no_cons names h ts p;
      has = ap has_arguments t.tree ∙ has args;
    }
  where
    has : (args : List At) → has_arguments (app h (term_trees bank args)) ≡ not (is_none args)
    has [] = refl
    has (b ∷ args) = app_has h (term_tree bank b.0) (term_trees bank args)
part_term names bank over (LeafWord b) args at p a t e =
    let k = at_kept names bank names over b.0 (grows_none names) e p.1.0 in
    let none = p.0 in
    record {
      good = subst (IsSpelledAt names over) (sym t) k.good;
      text = ap (text_at names over) t ∙ (k.text ∙ (rw none (sym (append-nil (text_at names bank b.0)))));
      bare = ap (λ z. is_cons names (term_tree over z)) t ∙ (k.cons ∙ no_cons (term_tree bank b.0) p.1.1);
      has = ap (λ z. has_arguments (term_tree over z)) t ∙ (ap has_arguments k.tree ∙ (rw none p.1.1));
    }
  where
    no_cons : (u : Term) → has_arguments u ≡ false → is_cons names u ≡ false
    no_cons (Var n) h = refl
    no_cons (Int z) h = refl
    no_cons (Con c) h = refl
    no_cons (Ap f c) h = absurd cc

-- ---- an argument without brackets

-- brackets that differ in one argument more
pub record IsArgued (o p : Open) (at : At) : Type 0 where
  pub outer : p.outer.items ≡ o.outer.items
  pub items : p.top.items.items ≡ o.top.items.items
  pub part : p.top.part ≡ o.top.part
  pub args : p.top.args.items ≡ o.top.args.items ++ at ∷ []

head_applied : (h : Head) (args : List At) (at : At) → shape_of (Some (HeadWord h)) (args ++ at ∷ []) ≡ Applied
head_applied h [] at = refl
head_applied h (a ∷ args) at = refl

module _ (names : List (List ℕ)) (bank : Nodes) (o p : Open) (at : At) (h : Head) (good : IsGood names bank o) (head : o.top.part ≡ Some (HeadWord h))
    (put : IsArgued o p at) (arg : IsSpelledAt names bank at.0) where
  pub argued_good : IsGood names bank p
  argued_good = record {
    outer = subst (All (IsGoodBracket names bank)) (sym put.outer) good.outer;
    top = record {
      items = subst (All (IsGoodItem names bank)) (sym put.items) good.top.items;
      part = let q : IsPlainHead names h = rw head at good.top.part in subst (λ z. IsGoodPart names bank z p.top.args.items) (sym (put.part ∙ head)) q;
      args = subst (All (λ (a : At). IsSpelledAt names bank a.0)) (sym put.args)
          (All-push (λ (a : At). IsSpelledAt names bank a.0) o.top.args.items at good.top.args arg);
    };
  }

  pub argued_text : open_text names bank p ≡ open_text names bank o ++ (32 ∷ argument_at names bank at.0)
  argued_text =
      rw (put.outer, put.items, put.part, put.args) (ap (λ z. flat_map (outer_text names bank) o.outer.items
      ++ (40 ∷ (flat_map (item_text names bank) o.top.items.items ++ (part_text names bank o.top.part ++ z))))
      (flat_map-append (λ (a : At). field (argument_at names bank a.0)) o.top.args.items (at ∷ []))
      ∙ together (flat_map (outer_text names bank) o.outer.items) (flat_map (item_text names bank) o.top.items.items) (part_text names bank o.top.part)
      (args_text names bank o.top.args.items) (argument_at names bank at.0))
    where
      together : (a b c d e : List ℕ) → a ++ (40 ∷ (b ++ (c ++ (d ++ ((32 ∷ e) ++ []))))) ≡ (a ++ (40 ∷ (b ++ (c ++ d)))) ++ (32 ∷ e)
      together a b c d e = simp (append_assoc, append-nil)

  pub argued_frames : frames p ≡ frame (not (is_none o.top.items.items)) Applied ∷ reverse (map frame_of o.outer.items)
  argued_frames = rw (put.outer, put.items, put.part, put.args, head)
      (ap (λ z. frame (not (is_none o.top.items.items)) z ∷ reverse (map frame_of o.outer.items)) (head_applied h o.top.args.items at))

-- the argument of a word
pub leaf_argument : (u : Term) (text : List ℕ) → has_arguments u ≡ false → argument_text u text ≡ text
leaf_argument u text h = rw h refl

module _ (names : List (List ℕ)) (bank : Nodes) (o p : Open) (x : Word) (h : Head) (bytes : List ℕ) (new : List (List ℕ)) (mid over : Nodes) (left : List ℕ)
    (at : At) where
  pub argument_put : IsGood names bank o → o.top.part ≡ Some (HeadWord h) → Moves names bank bytes new mid left → IsWordAt new mid bytes x left
      → IsTermFrom mid over x [] at.0 → Extends mid over → IsArgued o p at → Turns names bank o (32 ∷ bytes) new over p left
  argument_put good n m w t e put =
      let k = part_term new mid over x [] at.0 (word_good new mid w.spelling x w.word) (All-nil (λ (a : At). IsSpelledAt new mid a.0)) t e in
      let keeps = Extends-trans m.keeps e in
      let g = open_good names bank new over m.grows keeps o good in
      let word : argument_at new over at.0 ≡ w.spelling = leaf_argument (term_tree over at.0) (text_at new over at.0) k.has
      ∙ (k.text ∙ (append-nil (part_text new mid (Some x)) ∙ word_text new mid w.spelling x w.word)) in
      record {
        good = argued_good new over o p at h g n put k.good;
        text =
            ap (λ z. z ++ left) (argued_text new over o p at h g n put k.good)
            ∙ (append_assoc (open_text new over o) (32 ∷ argument_at new over at.0) left
            ∙ (ap (λ z. z ++ (32 ∷ (argument_at new over at.0 ++ left))) (open_same names bank new over m.grows keeps o good)
            ∙ ap (λ z. open_text names bank o ++ (32 ∷ z)) (ap (λ z. z ++ left) word ∙ sym w.is)));
        moves = moves_behind names bank (32 ∷ bytes) (32 ∷ []) bytes new over left refl (space_mentions bytes)
            (moves_over names bank bytes new mid over left m e);
        shorter = let l = ap length w.is in let q = length-append w.spelling left in omega arith;
        goes = λ end a.
            let c = not (is_none o.top.items.items) in
            let fs = reverse (map frame_of o.outer.items) in
            let known : is_wanted (shape_of o.top.part o.top.args.items) ≡ false =
            ap (λ q. is_wanted (shape_of q o.top.args.items)) n ∙ shape_known (HeadWord h) o.top.args.items in
            let b = argument_word_on end c (shape_of o.top.part o.top.args.items) fs bytes w.spelling left (shape_of (Some x) []) known
            (word_shape new mid w.spelling x w.word) w.end w.is a in
            subst (λ hs. Accepts end hs left) (sym (argued_frames new over o p at h g n put k.good)) b;
      }

-- ---- a sign

module _ (names : List (List ℕ)) (bank : Nodes) (o p : Open) (i : Item) (good : IsGood names bank o) (has : HasItem o.top p.top i)
    (outer : p.outer.items ≡ o.outer.items) (item : IsGoodItem names bank i) where
  pub item_put_good : IsGood names bank p
  item_put_good = record {
    outer = subst (All (IsGoodBracket names bank)) (sym outer) good.outer;
    top = record {
      items = subst (All (IsGoodItem names bank)) (sym has.items) (All-push (IsGoodItem names bank) o.top.items.items i good.top.items item);
      part = subst (λ z. IsGoodPart names bank z p.top.args.items) (sym has.part) has.args;
      args = subst (All (λ (a : At). IsSpelledAt names bank a.0)) (sym has.args) (All-nil (λ (a : At). IsSpelledAt names bank a.0));
    };
  }

  -- behind what stands in front of the part
  pub item_put_text : open_text names bank p ≡ (flat_map (outer_text names bank) o.outer.items ++ (40 ∷ flat_map (item_text names bank) o.top.items.items))
      ++ item_text names bank i
  item_put_text =
      rw (outer, has.items, has.part, has.args) (ap (λ z. flat_map (outer_text names bank) o.outer.items ++ (40 ∷ (z ++ [])))
      (flat_map-append (item_text names bank) o.top.items.items (i ∷ []))
      ∙ together (flat_map (outer_text names bank) o.outer.items) (flat_map (item_text names bank) o.top.items.items) (item_text names bank i))
    where
      together : (a b c : List ℕ) → a ++ (40 ∷ ((b ++ (c ++ [])) ++ [])) ≡ (a ++ (40 ∷ b)) ++ c
      together a b c = simp (append_assoc, append-nil)

  some_item : (xs : List Item) → not (is_none (xs ++ i ∷ [])) ≡ true
  some_item [] = refl
  some_item (x ∷ xs) = refl

  pub item_put_frames : frames p ≡ frame true Wanted ∷ reverse (map frame_of o.outer.items)
  item_put_frames = rw (outer, has.items, has.part) (ap (λ z. frame z Wanted ∷ reverse (map frame_of o.outer.items)) (some_item o.top.items.items))

-- ---- no step

pub first_stuck : (o : Open) (bytes : List ℕ) → o.top.part ≡ None → BeginsNot 40 bytes → HasNoWord bytes → (end : List ℕ) → Accepts end (frames o) bytes → ⊥
first_stuck o bytes n b w end a =
    let c = not (is_none o.top.items.items) in
    let fs = reverse (map frame_of o.outer.items) in
    let e : frames o ≡ frame c Wanted ∷ fs = ap (λ q. frame c (shape_of q o.top.args.items) ∷ fs) n in
    first_none end c fs bytes b w (subst (λ hs. Accepts end hs bytes) e a)

pub known_part : (o : Open) (x : Word) → o.top.part ≡ Some x → is_wanted (shape_of o.top.part o.top.args.items) ≡ false
known_part o x n = ap (λ q. is_wanted (shape_of q o.top.args.items)) n ∙ shape_known x o.top.args.items

pub argument_stuck : (o : Open) (x : Word) (bytes : List ℕ) → o.top.part ≡ Some x → BeginsNot 40 bytes → HasNoWord bytes → (end : List ℕ)
    → Accepts end (frames o) (32 ∷ bytes) → ⊥
argument_stuck o x bytes n b w end a = argument_none end (not (is_none o.top.items.items)) (shape_of o.top.part o.top.args.items)
    (reverse (map frame_of o.outer.items)) bytes (known_part o x n) b w a
