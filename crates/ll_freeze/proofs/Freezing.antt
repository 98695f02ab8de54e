-- What frozen choice points keep.
use Rattle.std.proofs.Common.{◌≡◌, ◌<◌, ◌^◌, sym, ◌∙◌, ap, arith, subst, Bool, true, false, ℕ, List, [], ◌∷◌, length}
use Rattle.ll_laws.specs.declared.Candidate.{Candidate}
use Rattle.ll_laws.specs.State.{State}
use Rattle.ll_laws.specs.Problem.{ProblemTree, start_of}
use Rattle.ll_store.specs.Tables.{table_of}
use Rattle.ll_store.specs.Stored.{State as StoreState}
use Rattle.ll_store.specs.Layered.{LayersSight}
use Rattle.ll_store.proofs.CallerLemmas.{same_states}
use Rattle.ll_freeze.specs.declared.rest.Rest.{Rest}
use Rattle.ll_freeze.specs.Parts.{Parts, Base, base_of}
use Rattle.ll_freeze.specs.Rested.{parts_with}
use Rattle.ll_freeze.specs.Fits.{Fits}
use Rattle.ll_freeze.specs.Shown.{state_of}
use Rattle.ll_freeze.specs.Calls.{IsStart, IsImage}
use Rattle.ll_freeze.specs.Frozen.{FrozenSight, AreTries, IsFrozen, no_choice, sight_of, opening, Thaws}

-- the image of a machine with candidates of its goal
pub frozen_image : (old new : Parts) (cs ds : List Candidate) (depth : ℕ) → IsImage old new → 0 < old.left → AreTries (state_of old) cs → length cs < 2 ^ 32
    → ds ≡ cs → IsFrozen new ds false depth
frozen_image old new cs ds depth i l t n e =
    record {
      fits = i.fits;
      stands = (rw i.left l, rw e (subst (λ (s : State). AreTries s cs) (sym i.state) t));
      count = rw e n;
    }

-- the start of a search
pub frozen_start : (p : ProblemTree) (m : Parts) (cs : List Candidate) → IsStart p m → cs ≡ no_choice ∷ [] → IsFrozen m cs true 0
frozen_start p m cs i e =
    record {
      fits = i.fits;
      stands = (i.state ∙ ap (λ q. start_of q) (sym i.problem), i.left ∙ ap (λ (q : ProblemTree). q.bound) (sym i.problem), e);
      count = rw e (omega arith);
    }

-- a batch of an image is one of what it is an image of
pub same_sight : (old new : Parts) (cs ds : List Candidate) (depth : ℕ) → IsImage old new → ds ≡ cs → sight_of new ds false depth ≡ sight_of old cs false depth
same_sight old new cs ds depth i e = λ j. record {
  problem = i.problem j;
  state = i.state j;
  left = i.left j;
  untried = e j;
  starts = false;
  base = i.base j;
  depth = depth;
}

-- and that of a start is one of the problem's search
pub start_sight : (p : ProblemTree) (m : Parts) (cs : List Candidate) → IsStart p m → cs ≡ no_choice ∷ [] → sight_of m cs true 0 ≡ opening p (base_of m)
start_sight p m cs i e = λ j. record { problem = i.problem j; state = i.state j; left = i.left j; untried = e j; starts = true; base = base_of m; depth = 0 }

-- an image of what is frozen is thawed
pub thawed : (m n : Parts) (cs : List Candidate) (starts : Bool) (depth : ℕ) (f : FrozenSight) → sight_of m cs starts depth ≡ f → IsImage m n → Thaws f n
thawed m n cs starts depth f e i = subst (λ (g : FrozenSight). Thaws g n) e
    (record { problem = i.problem; state = i.state; left = i.left; base = i.base; fits = i.fits })

-- ---- batches, by all of a machine but its store and by the layers of its store

-- a batch of these is what a machine's parts and its candidates make
pub record Makes (old : Parts) (rest : Rest) (layers : LayersSight) (cs ds : List Candidate) (depth : ℕ) : Type 0 where
  pub frozen : IsFrozen (parts_with rest layers.state) ds false layers.depth
  pub sight : sight_of (parts_with rest layers.state) ds false layers.depth ≡ sight_of old cs false depth

pub makes : (old : Parts) (rest : Rest) (st : StoreState) (layers : LayersSight) (cs ds : List Candidate) (depth : ℕ) → IsImage old (parts_with rest st)
    → layers ≡ record { state = st; depth = depth }
    → 0 < old.left → AreTries (state_of old) cs → length cs < 2 ^ 32 → ds ≡ cs → Makes old rest layers cs ds depth
makes old rest st layers cs ds depth i e l t n d =
    subst (λ (x : LayersSight). Makes old rest x cs ds depth) (sym e)
    (record { frozen = frozen_image old (parts_with rest st) cs ds depth i l t n d; sight = same_sight old (parts_with rest st) cs ds depth i d })

-- and so is that of a start
pub record Starts (p : ProblemTree) (rest : Rest) (layers : LayersSight) (cs : List Candidate) : Type 0 where
  pub frozen : IsFrozen (parts_with rest layers.state) cs true layers.depth
  pub sight : sight_of (parts_with rest layers.state) cs true layers.depth ≡ opening p (base_of (parts_with rest layers.state))
  pub problem : rest.problem.now ≡ p

pub starts : (p : ProblemTree) (m : Parts) (rest : Rest) (st : StoreState) (layers : LayersSight) (cs : List Candidate) → IsStart p m → parts_with rest st ≡ m
    → layers ≡ record { state = st; depth = 0 } → cs ≡ no_choice ∷ []
    → Starts p rest layers cs
starts p m rest st layers cs i e d c =
    let own : IsStart p (parts_with rest st) = subst (λ (x : Parts). IsStart p x) (sym e) i in
    subst (λ (x : LayersSight). Starts p rest x cs) (sym d)
    (record { frozen = frozen_start p (parts_with rest st) cs own c; sight = start_sight p (parts_with rest st) cs own c; problem = own.problem })

-- a store in the state of the layers makes the machine that was frozen
pub fits_with : (rest : Rest) (st : StoreState) (layers : LayersSight) → st ≡ layers.state → Fits (parts_with rest layers.state) → Fits (parts_with rest st)
fits_with rest st layers e f = subst (λ (x : StoreState). Fits (parts_with rest x)) (sym e) f

pub thaws_with : (rest : Rest) (st : StoreState) (layers : LayersSight) (n : Parts) (cs : List Candidate) (starts : Bool) (f : FrozenSight) → st ≡ layers.state
    → sight_of (parts_with rest layers.state) cs starts layers.depth ≡ f → IsImage (parts_with rest st) n → Thaws f n
thaws_with rest st layers n cs starts f e v i =
    thawed (parts_with rest layers.state) n cs starts layers.depth f v (subst (λ (x : StoreState). IsImage (parts_with rest x) n) e i)

-- stores in which terms are read alike are in the same state
pub same_store : (b : Base) (st : StoreState) (rest : Rest) (layers : LayersSight) (cs : List Candidate) (starts : Bool) (f : FrozenSight) → b ≡ f.base
    → record { bank = st.nodes; bound = (table_of st.cells).bound; levels = (table_of st.cells).levels } ≡ b
    → sight_of (parts_with rest layers.state) cs starts layers.depth ≡ f → st ≡ layers.state
same_store b st rest layers cs starts f e own v =
    let all = own ∙ (e ∙ ap (λ (g : FrozenSight). g.base) (sym v)) in
    same_states st layers.state (ap (λ (x : Base). x.bank) all) (ap (λ (x : Base). x.bound) all) (ap (λ (x : Base). x.levels) all)
