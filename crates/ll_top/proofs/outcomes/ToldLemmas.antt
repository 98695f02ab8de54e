-- From what the calls of a sink took to what it tells was written.
use Rattle.std.proofs.Common.{◌≡◌, ℕ, List, [], ◌++◌, Option, None, Some, take, sym, ◌∙◌, IfSome}
use Rattle.std.specs.Io.KnownBytes.{append_known}
use Rattle.std.proofs.lemmas.List.{append-nil}
use Rattle.ll_list_laws.proofs.CallerLemmas.{some_is}
use Rattle.ll_edge.specs.Pieces.{AppendsFront}
use Rattle.ll_edge.specs.Texts.{Texts}
use Rattle.ll_edge.specs.Log.{Entry, ShelfKept, Agrees, ToldFits}
use Rattle.ll_edge.proofs.CallerLemmas.{append_known-nil, fits_told}
use Rattle.ll_top.specs.forms.Words.{RunWords}
use Rattle.ll_top.specs.texts.CallEnds.{AppendsOwn, nothing, front, Ends, whole, unwritable, no_memory}
use Rattle.ll_top.specs.Proved.{WritesShown}

-- the texts that a shelf tells fit its log
pub texts-fit : {S : Type 0} {texts : S → Option Texts} {faults absences : S → ℕ} {log : S → List Entry} {before after : S}
    → ShelfKept texts faults absences log before after → IfSome (texts after) (λ told. Agrees told [] (log after))
    → ToldFits (texts before) (log before) (log after)
texts-fit {texts} {log} {before} {after} kept told = fits_told (texts before) (texts after) (log before) (log after) kept.same_texts told

-- ---- a call that may not be served

module _ (P : Option Texts → ℕ → Type 0) (before after : List Entry) where
  pub plain-at : (answer : Option ℕ) → IfSome answer (λ status. (told : Option Texts) → ToldFits told before after → P told status)
      → (told : Option Texts) → ToldFits told before after → IfSome answer (P told)
  plain-at None h told fits = tt
  plain-at (Some status) h told fits = h told fits

  pub plain-each : (answer : Option ℕ) → ((told : Option Texts) → ToldFits told before after → IfSome answer (P told))
      → IfSome answer (λ status. (told : Option Texts) → ToldFits told before after → P told status)
  plain-each None h = tt
  plain-each (Some status) h = h

-- ---- what a sink tells

module _ (before after : List ℕ) (known later : Option (List ℕ)) (told : (more : List ℕ) → after ≡ before ++ more → later ≡ append_known known more) where
  front-told : (text : List ℕ) → AppendsFront (Some before) text (Some after) → AppendsFront known text later
  front-told text f = record { taken = f.taken; within = f.within; appended = told (take f.taken text) (some_is _ _ f.appended) }

  pub ends-told : (Comes : ℕ → List ℕ → Type 0) (write_failed : Type 0) (status : ℕ) → Ends Comes write_failed (Some before) (Some after) status
      → Ends Comes write_failed known later status
  ends-told Comes w status (whole text c a) = whole text c (told text (some_is _ _ a))
  ends-told Comes w status (unwritable meant text c h s a) = unwritable meant text c h s (front-told text a)
  ends-told Comes w status (no_memory s a) = no_memory s (own a)
    where
      own : AppendsOwn Comes (Some before) (Some after) → AppendsOwn Comes known later
      own (nothing e) = nothing (told [] (some_is _ _ e ∙ sym (append-nil before)) ∙ append_known-nil known)
      own (front s t c f) = front s t c (front-told t f)

  pub shown-told : (texts : Option Texts) (run : RunWords) → WritesShown texts run (Some before) (Some after) → WritesShown texts run known later
  shown-told texts run w = record {
    problem = w.problem;
    asks = w.asks;
    answers = w.answers;
    are_shown = w.are_shown;
    covers = w.covers;
    written = told _ (some_is _ _ w.written);
  }

  pub plain-told : (Comes : ℕ → List ℕ → Type 0) (write_failed : Type 0) (answer : Option ℕ)
      → IfSome answer (Ends Comes write_failed (Some before) (Some after)) → IfSome answer (Ends Comes write_failed known later)
  plain-told Comes w None h = tt
  plain-told Comes w (Some status) h = ends-told Comes w status h
