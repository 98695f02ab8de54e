-- Formulas are put into a bank step by step.
use Rattle.std.proofs.Common.{◌≡◌, ℕ, suc, ◌+◌, ◌-◌, ◌*◌, ◌<◌, ◌≤◌, List, [], ◌∷◌, ◌++◌, length, refl, sym, subst, ap, ◌∙◌, arith}
use Rattle.std.specs.Prelude.{unwrap_or, false, ◌^◌, Result, Ok, Err, IfOk}
use Rattle.std.specs.List.{IsDistinct}
use Rattle.std.specs.Str.{bytes_eq}
use Rattle.ll_bank.specs.Term.{Term}
use Rattle.ll_polarity.specs.Numbered.{text_of}
use Rattle.std.proofs.lemmas.List.{append-nil}
use Rattle.ll_bank.specs.declared.FormAt.{FormAt}
use Rattle.ll_bank.specs.Form.{Form, Use, Num, Relation}
use Rattle.ll_bank.specs.Nodes.{Nodes, form_tree, ShowsForm, Extends}
use Rattle.ll_bank.proofs.CallerLemmas.{Extends-trans, HasForm-extends, form_tree-extends, AllInTerms-extends, term_trees-extends}
use Rattle.ll_parser.specs.declared.RawAt.{RawAt}
use Rattle.ll_parser.specs.Nodes.{Node, raw_at}
use Rattle.ll_parser.specs.Raw.{Raw, load}
use Rattle.ll_parser.specs.Weights.{weight}
use Rattle.ll_polarity.specs.declared.front.Place.{Place}
use Rattle.ll_polarity.specs.declared.put_forms.Frame.{Frame}
use Rattle.ll_polarity.specs.declared.put_forms.Frame.TheVariants as frame
use Rattle.ll_polarity.specs.declared.put_forms.Step.{Step}
use Rattle.ll_polarity.specs.declared.put_forms.Step.TheVariants as step
use Rattle.ll_polarity.specs.Named.{IsNamed}
use Rattle.ll_polarity.specs.Scope.{Binder, Scope, Scoped, binds}
use Rattle.ll_polarity.specs.Reading.{Met, Read, joined}
use Rattle.ll_polarity.specs.Built.{Around, inside, built_term, built_terms, built_number, built_form, arguments}
use Rattle.ll_polarity.specs.Standing.{around, HasRoom, StandsIn}
use Rattle.ll_polarity.specs.Calls.{IsReady}
use Rattle.ll_polarity.specs.Frames.{Ground, within, within_all, wraps, wrapped, comes, FrameHas, FrameFits, FramesFit, StepFits, frame_left, frames_left}
use Rattle.ll_polarity.specs.Frames.{step_left, Advances}
use Rattle.ll_polarity.proofs.reading.Grows.{Longer, longer_refl, longer_trans, longer_form}
use Rattle.ll_polarity.proofs.reading.Building.{met_form}
use Rattle.ll_polarity.proofs.putting.Calling.{room_before}

pub longer_form_built : (places : List ℕ → ℕ) (a : Around) (met : Met) (r : Raw) → Longer met (built_form places a met r).met
longer_form_built places a met r = subst (Longer met) (sym (met_form places [] a met r)) (longer_form [] a.scope met r)

pub room_load : (places : List ℕ → ℕ) (a : Around) (met : Met) (at : _) (m : _) (args : _) (r : Raw) → HasRoom (built_form places a met (load at m args r)).met
    → HasRoom (built_terms a met args).met
room_load places a met at m args r h = room_before (longer_form_built places a (built_terms a met args).met r) h

-- ---- one step

module _ (g : Ground) (new : Nodes) (a : Around) (was : Read Form) (left : ℕ) (old later : List Frame) (met : Met) (now : Around) where
  pub advance_give : (t : FormAt) (f : Form) → ShowsForm new t.0 f → (let x : Read Form = record { it = f; met = met } in x) ≡ was → later ≡ old → now ≡ a
      → 2 < left → Advances g new a was left old later (step.Give t) met now
  advance_give t f shows is same here l = record {
    pushed = [];
    waiting = same ∙ sym (append-nil old);
    means = ap (λ x. let y : Read Form = record { it = x; met = met } in y) shows.tree ∙ is;
    standing = here;
    fits = tt;
    step = shows.inside;
    less = omega arith;
  }

  pub advance_read : (f : Frame) (at : RawAt) → later ≡ old ++ f ∷ [] → wraps g new a f (built_form g.modules now met (raw_at g.texts g.forms at.0)) ≡ was
      → now ≡ within g a f → FrameFits g new f
      → IsReady g.texts g.forms at.0 → frame_left g f + 5 * weight (raw_at g.texts g.forms at.0) < left
      → Advances g new a was left old later (step.Read at) met now
  advance_read f at added is here fits ready l = record {
    pushed = f ∷ [];
    waiting = added;
    means = is;
    standing = here;
    fits = (fits, tt);
    step = ready;
    less = omega arith;
  }

-- what holds in any case holds of a result
pub always : {T E : Type 0} (r : Result T E) (P : Type 0) → P → IfOk r (λ _. P)
always (Ok x) P p = p
always (Err e) P p = tt

-- a part of a tree that is ready
pub part_ready : (texts : List (List ℕ)) (forms : List Node) (at part : ℕ) → part < at → at < length forms → IsNamed (raw_at texts forms part)
    → IsReady texts forms part
part_ready texts forms at part below inside named = record { inside = omega arith; named = named }

-- more is left to do than in a formula that is given
pub two_below : (n : ℕ) → 2 < 5 * suc n
two_below n = omega arith

-- a formula is given that is the whole of what is read
pub begun_gives : {E : Type 0} (r : Result Step E) (g : Ground) (new : Nodes) (a : Around) (first met : Met) (frames : List Frame) (f : Form) {raw seen : Raw}
    → raw ≡ seen → (let x : Read Form = record { it = f; met = met } in x) ≡ built_form g.modules a first seen → 2 < 5 * weight seen
    → IfOk r (λ s. (h : Ground) (b : Around) (m : Met) (left : ℕ) (fs : List Frame) → 2 < left
    → Advances h new b (record { it = f; met = m }) left fs fs s m b)
    → IfOk r (λ s. Advances g new a (built_form g.modules a first raw) (5 * weight raw) frames frames s met a)
begun_gives (Ok s) g new a first met frames f {raw} {seen} tree is l h =
    subst (λ (x : Raw). Advances g new a (built_form g.modules a first x) (5 * weight x) frames frames s met a) (sym tree)
    (subst (λ (x : Read Form). Advances g new a x (5 * weight seen) frames frames s met a) is (h g a met (5 * weight seen) frames l))
begun_gives (Err e) g new a first met frames f tree is l h = tt

-- a part is read of what is read, behind a front that is put on
pub begun_read : {E : Type 0} (r : Result Step E) (g : Ground) (new : Nodes) (a now : Around) (first met : Met) (old later : List Frame) (f : Frame)
    (at : RawAt) {raw seen : Raw} → raw ≡ seen
    → wraps g new a f (built_form g.modules (within g a f) met (raw_at g.texts g.forms at.0)) ≡ built_form g.modules a first seen
    → FrameFits g new f → IsReady g.texts g.forms at.0 → frame_left g f + 5 * weight (raw_at g.texts g.forms at.0) < 5 * weight seen
    → IfOk r (λ s. s ≡ step.Read at) → IfOk r (λ _. later ≡ old ++ f ∷ []) → IfOk r (λ _. now ≡ within g a f)
    → IfOk r (λ s. Advances g new a (built_form g.modules a first raw) (5 * weight raw) old later s met now)
begun_read (Ok s) g new a now first met old later f at {raw} {seen} tree is fits ready l next added here =
    subst (λ (x : Raw). Advances g new a (built_form g.modules a first x) (5 * weight x) old later s met now) (sym tree)
    (subst (λ (t : Step). Advances g new a (built_form g.modules a first seen) (5 * weight seen) old later t met now) (sym next)
    (advance_read g new a (built_form g.modules a first seen) (5 * weight seen) old later met now f at added
    (ap (λ x. wraps g new a f (built_form g.modules x met (raw_at g.texts g.forms at.0))) here ∙ is) here fits ready l))
begun_read (Err e) g new a now first met old later f at tree is fits ready l next added here = tt

-- what is put together of the two sides of a whole-number goal
pub sides_read : (q : Relation) (a : Around) (first met : Met) (l r : Raw) (t u : Term) → t ≡ (built_term a first l).it
    → u ≡ (built_term a (built_term a first l).met r).it → met ≡ (built_term a (built_term a first l).met r).met
    → (let x : Read Form = record { it = Num q t u; met = met } in x) ≡ built_number q a first l r
sides_read q a first met l r t u left right is = λ i. record { it = Num q (left i) (right i); met = is i }

-- out of a quantifier
pub back_out : (p later : Place) (s t : Scope) (a : Around) (w : List ℕ) → later ≡ record p { depth = p.depth - 1 } → around p s ≡ inside w a
    → ((inner : Binder) (outer : Scope) → s ≡ inner ∷ outer → t ≡ outer) → around later t ≡ a
back_out p later s t a w is e out =
    let q : later.quantified ≡ a.quantified = ap (λ x. x.quantified) is ∙ ap (λ x. x.quantified) e in
    let d : later.depth ≡ a.depth = (let i = ap (λ x. x.depth) is in let j = ap (λ x. x.depth) e in omega arith) in
    let u : t ≡ a.scope = out (binds w) a.scope (ap (λ x. x.scope) e) in
    λ i. record { quantified = q i; depth = d i; scope = u i }

-- ---- steps in a row

module _ (g : Ground) where
  within-append : (a : Around) (xs ys : List Frame) → within_all g a (xs ++ ys) ≡ within_all g (within_all g a xs) ys
  within-append a [] ys = refl
  within-append a (x ∷ xs) ys = within-append (within g a x) xs ys

  wrapped-append : (bank : Nodes) (a : Around) (xs ys : List Frame) (t : Read Form)
      → wrapped g bank a (xs ++ ys) t ≡ wrapped g bank a xs (wrapped g bank (within_all g a xs) ys t)
  wrapped-append bank a [] ys t = refl
  wrapped-append bank a (x ∷ xs) ys t = ap (wraps g bank a x) (wrapped-append bank (within g a x) xs ys t)

  left-append : (xs ys : List Frame) → frames_left g (xs ++ ys) ≡ frames_left g xs + frames_left g ys
  left-append [] ys = omega arith
  left-append (x ∷ xs) ys = omega (arith, left-append xs ys)

  pub fit-append : (bank : Nodes) (xs ys : List Frame) → FramesFit g bank xs → FramesFit g bank ys → FramesFit g bank (xs ++ ys)
  fit-append bank [] ys h k = k
  fit-append bank (x ∷ xs) ys h k = (h.0, fit-append bank xs ys h.1 k)

  pub fit-before : (bank : Nodes) (xs ys : List Frame) → FramesFit g bank (xs ++ ys) → FramesFit g bank xs × FramesFit g bank ys
  fit-before bank [] ys h = (tt, h)
  fit-before bank (x ∷ xs) ys h = let i = fit-before bank xs ys h.1 in ((h.0, i.0), i.1)

  wraps_extends : {old new : Nodes} (e : Extends old new) (a : Around) (f : Frame) (t : Read Form) → FrameFits g old f → wraps g new a f t ≡ wraps g old a f t
  wraps_extends e a frame.Braces t h = refl
  wraps_extends e a (frame.Forall n) t h = refl
  wraps_extends e a (frame.Exists n) t h = refl
  wraps_extends e a (frame.Left o r) t h = refl
  wraps_extends e a (frame.Right o f) t h = ap (λ x. let y : Read Form = record { it = joined o x t.it; met = t.met } in y) (form_tree-extends e f.0 h)
  wraps_extends e a (frame.Load m ts) t h = ap (λ xs. let y : Read Form = record { it = Use m xs t.it; met = t.met } in y) (term_trees-extends e ts.items h)

  wrapped_extends : {old new : Nodes} (e : Extends old new) (a : Around) (fs : List Frame) (t : Read Form) → FramesFit g old fs
      → wrapped g new a fs t ≡ wrapped g old a fs t
  wrapped_extends e a [] t h = refl
  wrapped_extends {old} {new} e a (f ∷ fs) t h = wraps_extends e a f (wrapped g new (within g a f) fs t) h.0
      ∙ ap (wraps g old a f) (wrapped_extends e (within g a f) fs t h.1)

  fit_extends : {old new : Nodes} (e : Extends old new) (f : Frame) → FrameFits g old f → FrameFits g new f
  fit_extends e frame.Braces h = tt
  fit_extends e (frame.Forall n) h = tt
  fit_extends e (frame.Exists n) h = tt
  fit_extends e (frame.Left o r) h = h
  fit_extends e (frame.Right o f) h = HasForm-extends e f.0 h
  fit_extends e (frame.Load m ts) h = AllInTerms-extends e ts.items h

  fits_extend : {old new : Nodes} (e : Extends old new) (fs : List Frame) → FramesFit g old fs → FramesFit g new fs
  fits_extend e [] h = tt
  fits_extend e (f ∷ fs) h = (fit_extends e f h.0, fits_extend e fs h.1)

  longer_wraps : (bank : Nodes) (a : Around) (f : Frame) (t : Read Form) → Longer t.met (wraps g bank a f t).met
  longer_wraps bank a frame.Braces t = longer_refl t.met
  longer_wraps bank a (frame.Forall n) t = longer_refl t.met
  longer_wraps bank a (frame.Exists n) t = longer_refl t.met
  longer_wraps bank a (frame.Left o r) t = longer_form_built g.modules a t.met (raw_at g.texts g.forms r.0)
  longer_wraps bank a (frame.Right o f) t = longer_refl t.met
  longer_wraps bank a (frame.Load m ts) t = longer_refl t.met

  longer_wrapped : (bank : Nodes) (a : Around) (fs : List Frame) (t : Read Form) → Longer t.met (wrapped g bank a fs t).met
  longer_wrapped bank a [] t = longer_refl t.met
  longer_wrapped bank a (f ∷ fs) t = longer_trans (longer_wrapped bank (within g a f) fs t) (longer_wraps bank a f (wrapped g bank (within g a f) fs t))

  -- a formula on the way, in a bank that extends the first one
  pub record IsComing (target : Read Form) (a : Around) (first bank : Nodes) (frames : List Frame) (next : Step) (met : Met) (now : Around) : Type 0 where
    pub means : wrapped g bank a frames (comes g bank now next met) ≡ target
    pub standing : now ≡ within_all g a frames
    pub fits : FramesFit g bank frames
    pub step : StepFits g bank next
    pub keeps : Extends first bank

  -- and no more is left to do than there was at first
  pub record IsUnderWay (target : Read Form) (a : Around) (first bank : Nodes) (frames : List Frame) (next : Step) (met : Met) (now : Around) (most : ℕ) :
      Type 0 where
    pub coming : IsComing target a first bank frames next met now
    pub low : frames_left g frames + step_left g next ≤ most

  -- and less is left to do than before
  pub record IsFurther (target : Read Form) (a : Around) (first bank : Nodes) (frames : List Frame) (next : Step) (met : Met) (now : Around) (before : ℕ) :
      Type 0 where
    pub coming : IsComing target a first bank frames next met now
    pub less : frames_left g frames + step_left g next < before

  less_taken : (frames rest : List Frame) (f : Frame) → frames ≡ rest ++ f ∷ [] → frames_left g frames ≡ frames_left g rest + frame_left g f
  less_taken frames rest f e = rw e (omega (arith, left-append rest (f ∷ [])))

  less_advanced : (new : Nodes) (b : Around) (was : Read Form) (left : ℕ) (frames later : List Frame) (next : Step) (met : Met) (now : Around)
      → Advances g new b was left frames later next met now
      → frames_left g later + step_left g next < frames_left g frames + left
  less_advanced new b was left frames later next met now d = let i = d.less in rw d.waiting (omega (arith, left-append frames d.pushed))

  advanced : (target : Read Form) (a : Around) (first old new : Nodes) (was : Read Form) (left : ℕ) (frames later : List Frame) (next : Step) (met : Met)
      (now : Around) → wrapped g old a frames was ≡ target → FramesFit g old frames
      → Advances g new (within_all g a frames) was left frames later next met now → Extends first old → Extends old new
      → IsComing target a first new later next met now
  advanced target a first old new was left frames later next met now w fits d keeps more = record {
    means =
        ap (λ fs. wrapped g new a fs (comes g new now next met)) d.waiting
        ∙ (wrapped-append new a frames d.pushed (comes g new now next met)
        ∙ (ap (wrapped g new a frames) d.means ∙ (wrapped_extends more a frames was fits ∙ w)));
    standing = d.standing ∙ (sym (within-append a frames d.pushed) ∙ ap (within_all g a) (sym d.waiting));
    fits = subst (FramesFit g new) (sym d.waiting) (fit-append new frames d.pushed (fits_extend more frames fits) d.fits);
    step = d.step;
    keeps = Extends-trans keeps more;
  }

module _ {g : Ground} {target : Read Form} {a : Around} {first bank : Nodes} {frames : List Frame} {met : Met} {now : Around} where
  -- the step is known
  pub at_step : {was next : Step} {most : ℕ} → was ≡ next → IsComing g target a first bank frames was met now
      → frames_left g frames + step_left g was ≤ most → IsUnderWay g target a first bank frames next met now most
  at_step {most} e w low = record {
    coming = subst (λ (s : Step). IsComing g target a first bank frames s met now) e w;
    low = subst (λ (s : Step). frames_left g frames + step_left g s ≤ most) e low;
  }

  pub coming_room : {next : Step} → IsComing g target a first bank frames next met now → HasRoom target.met → HasRoom (comes g bank now next met).met
  coming_room {next} w r = room_before
      (subst (λ t. Longer (comes g bank now next met).met t.met) w.means (longer_wrapped g bank a frames (comes g bank now next met))) r

  -- what is read is begun
  pub read_on : {was next : Step} {at : RawAt} {new : Nodes} {later : List Frame} {met' : Met} {now' : Around} → was ≡ step.Read at
      → IsComing g target a first bank frames was met now
      → Advances g new now (built_form g.modules now met (raw_at g.texts g.forms at.0)) (5 * weight (raw_at g.texts g.forms at.0)) frames later next met' now'
      → Extends bank new → IsFurther g target a first new later next met' now' (frames_left g frames + step_left g was)
  read_on {next} {at} {new} {later} {met'} {now'} e c d more =
      let w = subst (λ (s : Step). IsComing g target a first bank frames s met now) e c in
      let built = built_form g.modules now met (raw_at g.texts g.forms at.0) in
      let left = 5 * weight (raw_at g.texts g.forms at.0) in
      record {
        coming = advanced g target a first bank new built left frames later next met' now' w.means w.fits
            (subst (λ x. Advances g new x built left frames later next met' now') w.standing d) w.keeps more;
        less = subst (λ (s : Step). frames_left g later + step_left g next < frames_left g frames + step_left g s) (sym e)
            (less_advanced g new now built left frames later next met' now' d);
      }

  -- what was round a front that is taken off
  taken_around : {t : FormAt} (rest : List Frame) (f : Frame) → IsComing g target a first bank frames (step.Give t) met now → frames ≡ rest ++ f ∷ []
      → now ≡ within g (within_all g a rest) f
  taken_around rest f w e = w.standing ∙ (ap (within_all g a) e ∙ within-append g a rest (f ∷ []))

  pub taken_fits : {t : FormAt} (rest : List Frame) (f : Frame) → IsComing g target a first bank frames (step.Give t) met now → frames ≡ rest ++ f ∷ []
      → FrameFits g bank f
  taken_fits rest f w e = (fit-before g bank rest (f ∷ []) (subst (FramesFit g bank) e w.fits)).1.0

  -- a formula is given to the front that is taken off
  pub given_on : {was next : Step} {t : FormAt} {new : Nodes} {rest later : List Frame} {now' : Around} (f : Frame) → was ≡ step.Give t
      → IsComing g target a first bank frames was met now → frames ≡ rest ++ f ∷ []
      → ((h : Ground) (b : Around) (m : Met) → FrameFits h bank f → now ≡ within h b f
      → Advances h new b (wraps h bank b f (record { it = form_tree bank t.0; met = m })) (frame_left h f + 2) rest later next m now')
      → Extends bank new → IsFurther g target a first new later next met now' (frames_left g frames + step_left g was)
  given_on {next} {t} {new} {rest} {later} {now'} f e c taken gives more =
      let w = subst (λ (s : Step). IsComing g target a first bank frames s met now) e c in
      let b = within_all g a rest in
      let here : Read Form = record { it = form_tree bank t.0; met = met } in
      let d = gives g b met (taken_fits rest f w taken) (taken_around rest f w taken) in
      record {
        coming = advanced g target a first bank new (wraps g bank b f here) (frame_left g f + 2) rest later next met now'
            (sym (wrapped-append g bank a rest (f ∷ []) here) ∙ (ap (λ fs. wrapped g bank a fs here) (sym taken) ∙ w.means))
            (fit-before g bank rest (f ∷ []) (subst (FramesFit g bank) taken w.fits)).0 d w.keeps more;
        less = subst (λ (s : Step). frames_left g later + step_left g next < frames_left g frames + step_left g s) (sym e)
            (let l = less_advanced g new b (wraps g bank b f here) (frame_left g f + 2) rest later next met now' d in
            let k = less_taken g frames rest f taken in omega arith);
      }

  pub coming_ends : {t : FormAt} → IsComing g target a first bank frames (step.Give t) met now → frames ≡ []
      → ShowsForm bank t.0 target.it × (met ≡ target.met) × (now ≡ a)
  coming_ends {t} w e =
      let m : record { it = form_tree bank t.0; met = met } ≡ target =
      sym (ap (λ fs. wrapped g bank a fs (record { it = form_tree bank t.0; met = met })) e) ∙ w.means in
      (record { inside = w.step; tree = ap (λ x. x.it) m }, ap (λ x. x.met) m, w.standing ∙ ap (within_all g a) e)

-- ---- what is round a part

module _ (g : Ground) where
  within_quantified : (a : Around) (fs : List Frame) → (within_all g a fs).quantified ≡ a.quantified
  within_quantified a [] = refl
  within_quantified a (frame.Braces ∷ fs) = within_quantified a fs
  within_quantified a (frame.Forall n ∷ fs) = within_quantified (within g a (frame.Forall n)) fs
  within_quantified a (frame.Exists n ∷ fs) = within_quantified (within g a (frame.Exists n)) fs
  within_quantified a (frame.Left o r ∷ fs) = within_quantified a fs
  within_quantified a (frame.Right o f ∷ fs) = within_quantified a fs
  within_quantified a (frame.Load m ts ∷ fs) = within_quantified a fs

  within_deep : (a : Around) (fs : List Frame) → a.depth ≤ length a.scope → (within_all g a fs).depth ≤ length (within_all g a fs).scope
  within_deep a [] h = h
  within_deep a (frame.Braces ∷ fs) h = within_deep a fs h
  within_deep a (frame.Forall n ∷ fs) h = within_deep (within g a (frame.Forall n)) fs (omega arith)
  within_deep a (frame.Exists n ∷ fs) h = within_deep (within g a (frame.Exists n)) fs (omega arith)
  within_deep a (frame.Left o r ∷ fs) h = within_deep a fs h
  within_deep a (frame.Right o f ∷ fs) h = within_deep a fs h
  within_deep a (frame.Load m ts ∷ fs) h = within_deep a fs h

  within_high : (a : Around) (fs : List Frame) → length (within_all g a fs).scope ≤ length a.scope + frames_left g fs
  within_high a [] = omega arith
  within_high a (frame.Braces ∷ fs) = omega (arith, within_high a fs)
  within_high a (frame.Forall n ∷ fs) = omega (arith, within_high (within g a (frame.Forall n)) fs)
  within_high a (frame.Exists n ∷ fs) = omega (arith, within_high (within g a (frame.Exists n)) fs)
  within_high a (frame.Left o r ∷ fs) = omega (arith, within_high a fs)
  within_high a (frame.Right o f ∷ fs) = omega (arith, within_high a fs)
  within_high a (frame.Load m ts ∷ fs) = omega (arith, within_high a fs)

-- what is read stands among the names and the numbers of its text
pub stands_now : {g : Ground} {target : Read Form} {a : Around} {first bank : Nodes} {frames : List Frame} {at : RawAt} {met : Met} {most : ℕ}
    (binders : Scoped) (place : Place) → IsUnderWay g target a first bank frames (step.Read at) met (around place binders.scope) most
    → IsDistinct bytes_eq g.texts → binders.texts ≡ g.texts → a.depth ≤ length a.scope → length a.scope + unwrap_or a.quantified 0 + most < 2 ^ 32
    → StandsIn g.texts binders place × (length binders.scope + unwrap_or place.quantified 0 + 5 * weight (raw_at g.texts g.forms at.0) < 2 ^ 32)
stands_now {g} {a} {frames} binders place w distinct same deep high =
    let e = w.coming.standing in
    let low = w.low in
    let q : unwrap_or place.quantified 0 ≡ unwrap_or a.quantified 0 = ap (λ o. unwrap_or o 0) (ap (λ x. x.quantified) e ∙ within_quantified g a frames) in
    let d : place.depth ≡ (within_all g a frames).depth = ap (λ x. x.depth) e in
    let l : length binders.scope ≡ length (within_all g a frames).scope = ap (λ x. length x.scope) e in
    let h = within_high g a frames in
    let k = within_deep g a frames deep in
    (record { distinct = distinct; same = same; depth = omega arith; room = omega arith }, omega arith)

-- into a quantifier
pub entered_around : (p later : Place) (s t : Scoped) (texts : List (List ℕ)) (n : ℕ) → later ≡ record p { depth = p.depth + 1 }
    → t ≡ record s { scope = record { text = text_of s.texts n; local = false } ∷ s.scope } → s.texts ≡ texts
    → around later t.scope ≡ inside (text_of texts n) (around p s.scope)
entered_around p later s t texts n is e same =
    let d : later.depth ≡ suc p.depth = (let i = ap (λ x. x.depth) is in omega arith) in
    let u : t.scope ≡ binds (text_of texts n) ∷ s.scope = ap (λ x. x.scope) e ∙ ap (λ ts. binds (text_of ts n) ∷ s.scope) same in
    λ i. record { quantified = (is i).quantified; depth = d i; scope = u i }

-- the number of quantifiers round a part, and of binders, grows by one
pub stands_entered : {E : Type 0} (r : Result Step E) (texts : List (List ℕ)) (p later : Place) (s t : Scoped) (n w left : ℕ) → StandsIn texts s p
    → later ≡ record p { depth = p.depth + 1 }
    → IfOk r (λ _. t ≡ record s { scope = record { text = text_of s.texts n; local = false } ∷ s.scope })
    → length s.scope + unwrap_or p.quantified 0 + 5 * w < 2 ^ 32 → w ≡ suc left → IfOk r (λ _. StandsIn texts t later)
stands_entered (Ok x) texts p later s t n w left stands is entered high more =
    let q : unwrap_or later.quantified 0 ≡ unwrap_or p.quantified 0 = ap (λ x. unwrap_or x.quantified 0) is in
    let d : later.depth ≡ p.depth + 1 = ap (λ x. x.depth) is in
    let l : length t.scope ≡ suc (length s.scope) = ap (λ x. length x.scope) entered in
    let k = stands.depth in
    record { distinct = stands.distinct; same = ap (λ x. x.texts) entered ∙ stands.same; depth = omega arith; room = omega arith }
stands_entered (Err e) texts p later s t n w left stands is entered high more = tt

pub scope_entered : {E : Type 0} (r : Result Step E) (s t : Scoped) (n : ℕ)
    → IfOk r (λ _. t ≡ record s { scope = record { text = text_of s.texts n; local = false } ∷ s.scope })
    → IfOk r (λ _. length t.scope ≤ length s.scope + 1)
scope_entered (Ok x) s t n entered = let l : length t.scope ≡ suc (length s.scope) = ap (λ x. length x.scope) entered in omega arith
scope_entered (Err e) s t n entered = tt

-- where a body stands, if its quantifier was gone into
pub around_entered : {E : Type 0} (r : Result Step E) (p later : Place) (s t : Scoped) (texts : List (List ℕ)) (n : ℕ)
    → later ≡ record p { depth = p.depth + 1 }
    → IfOk r (λ _. t ≡ record s { scope = record { text = text_of s.texts n; local = false } ∷ s.scope }) → s.texts ≡ texts
    → IfOk r (λ _. around later t.scope ≡ inside (text_of texts n) (around p s.scope))
around_entered (Ok x) p later s t texts n is entered same = entered_around p later s t texts n is entered same
around_entered (Err e) p later s t texts n is entered same = tt

pub load_read : (places : List ℕ → ℕ) (a : Around) (met later : Met) (r : Raw) (at : _) (m : _) (args : _) (body : Raw) (k : ℕ) (us : List Term)
    → r ≡ load at m args body → k ≡ places m.text
    → us ≡ (built_terms a met (arguments r)).it → later ≡ (built_terms a met (arguments r)).met
    → (let t = built_form places a later body in let x : Read Form = record { it = Use k us t.it; met = t.met } in x) ≡ built_form places a met r
load_read places a met later r at m args body k us is first shown met_is =
    let u : us ≡ (built_terms a met args).it = shown ∙ ap (λ x. (built_terms a met (arguments x)).it) is in
    let h : later ≡ (built_terms a met args).met = met_is ∙ ap (λ x. (built_terms a met (arguments x)).met) is in
    (λ i. let t = built_form places a (h i) body in let x : Read Form = record { it = Use (first i) (u i) t.it; met = t.met } in x)
    ∙ ap (built_form places a met) (sym is)

pub has_parts : (g : Ground) (bank : Nodes) (f : Frame) → FrameFits g bank f → FrameHas bank f
has_parts g bank frame.Braces h = tt
has_parts g bank (frame.Forall n) h = tt
has_parts g bank (frame.Exists n) h = tt
has_parts g bank (frame.Left o r) h = tt
has_parts g bank (frame.Right o f) h = h
has_parts g bank (frame.Load m ts) h = h
