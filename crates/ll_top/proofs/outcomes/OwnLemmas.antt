-- From the way a call ends to its status and its text, and texts of two pieces.
use Rattle.std.proofs.Common.{◌≡◌, ◌≤◌, ℕ, sym, subst, List, ◌++◌}
use Rattle.std.specs.Prelude.{Option, Result, Ok, Err, IfOk, IfErr, OnOk, OnErr}
use Rattle.std.specs.Io.KnownBytes.{append_known}
use Rattle.ll_edge.proofs.CallerLemmas.{Rose-later, both-written, second-cut}
use Rattle.ll_edge.specs.Counts.{Rose}
use Rattle.ll_edge.specs.Pieces.{AppendsFront}
use Rattle.ll_top.specs.declared.texts.judge.Role.{Role}
use Rattle.ll_top.specs.declared.texts.refusing.TextRefusal.{TextRefusal}
use Rattle.ll_top.specs.declared.texts.refusing.Refusal.{Refusal}
use Rattle.ll_top.specs.declared.texts.refusing.Refusal.TheVariants.{Text, Unwritable, OutOfMemory}
use Rattle.ll_top.specs.texts.CallEnds.{front, Ends, whole}
use Rattle.ll_top.specs.OwnEnds.{EndsOwn}
use Rattle.ll_top.specs.Running.{IsRunRefusal}
use Rattle.ll_top.proofs.outcomes.CallLemmas.{own-more}

-- ---- two pieces, one behind the other

-- a refusal that came later on
pub refusal-later : (before middle after : ℕ) (e : Refusal) → before ≤ middle → IsRunRefusal middle after e → IsRunRefusal before after e
refusal-later before middle after (Text role refusal) l h = h
refusal-later before middle after Unwritable l h = Rose-later before middle after l h
refusal-later before middle after OutOfMemory l h = h

-- the second piece was written, or a prefix of both was
pub second-done : {A : Type 0} (before mid after : Option (List ℕ)) (a b : List ℕ) (r : Result A Refusal) → mid ≡ append_known before a
    → OnOk r (after ≡ append_known mid b) → OnOk r (after ≡ append_known before (a ++ b))
second-done before mid after a b (Ok done) e h = both-written before mid after a b e h
second-done before mid after a b (Err x) e h = tt

pub second-stopped : {A : Type 0} (before mid after : Option (List ℕ)) (a b : List ℕ) (r : Result A Refusal) → mid ≡ append_known before a
    → OnErr r (AppendsFront mid b after) → OnErr r (AppendsFront before (a ++ b) after)
second-stopped before mid after a b (Ok done) e h = tt
second-stopped before mid after a b (Err x) e h = second-cut before mid after a b e h

pub refused-later : {A : Type 0} (before middle after : ℕ) (r : Result A Refusal) → before ≤ middle → IfErr r (IsRunRefusal middle after)
    → IfErr r (IsRunRefusal before after)
refused-later before middle after (Ok done) l h = tt
refused-later before middle after (Err e) l h = refusal-later before middle after e l h

-- ---- what a call comes to

-- with more causes, or another text
pub ends-more : {A : Type 0} (Comes Other : ℕ → List ℕ → Type 0) (status_of : A → ℕ) (Fails Others : Role → TextRefusal
    → Type 0) (w : Type 0) (before after : Option (List ℕ)) (r : Result A Refusal)
    → ((s : ℕ) (t : List ℕ) → Comes s t → Other s t) → ((role : Role) (refusal : TextRefusal) → Fails role refusal → Others role refusal)
    → EndsOwn Comes status_of Fails w before after r → EndsOwn Other status_of Others w before after r
ends-more Comes Other status_of Fails Others w before after (Ok done) f g h = (h.0, f (status_of done) h.0 h.1, h.2)
ends-more Comes Other status_of Fails Others w before after (Err (Text role refusal)) f g h = (g role refusal h.0, h.1)
ends-more Comes Other status_of Fails Others w before after (Err Unwritable) f g h = (h.0, h.1, f h.0 h.1 h.2, h.3, h.4)
ends-more Comes Other status_of Fails Others w before after (Err OutOfMemory) f g h = own-more Comes Other before after f h

module _ {A : Type 0} (Comes : ℕ → List ℕ → Type 0) (status_of : A → ℕ) (Fails : Role → TextRefusal → Type 0) (before after : Option (List ℕ)) where
  -- it stopped within its text: no write can fail, and no text be refused there but of the cause that is known
  pub stopped : (faults more status : ℕ) (text : List ℕ) (e : Refusal) → IsRunRefusal faults more e → Comes status text → AppendsFront before text after
      → EndsOwn Comes status_of Fails (Rose faults more) before after (Err e)
  stopped faults more status text (Text role refusal) h c f = absurd h
  stopped faults more status text Unwritable h c f = (status, text, c, h, f)
  stopped faults more status text OutOfMemory h c f = front status text c f

  -- all of its text was written, or it stopped within that
  pub ended : (faults more status : ℕ) (text : List ℕ) (r : Result A Refusal) → Comes status text → IfOk r (λ done. status_of done ≡ status)
      → IfErr r (IsRunRefusal faults more)
      → OnOk r (after ≡ append_known before text) → OnErr r (AppendsFront before text after) → EndsOwn Comes status_of Fails (Rose faults more) before after r
  ended faults more status text (Ok done) c s e w f = (text, subst (λ n. Comes n text) (sym s) c, w)
  ended faults more status text (Err e) c s h w f = stopped faults more status text e h c f

  module _ (w : Type 0) where
    -- the call, where no text is refused
    pub done-ends : (done : A) (status : ℕ) → status ≡ status_of done → EndsOwn Comes status_of Fails w before after (Ok done)
        → Ends Comes w before after status
    done-ends done status e h = whole h.0 (subst (λ n. Comes n h.0) (sym e) h.1) h.2
