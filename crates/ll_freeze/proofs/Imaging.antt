-- The image of a machine.
use Rattle.std.proofs.Common.{◌≡◌, refl, sym, ◌∙◌}
use Rattle.ll_agenda.specs.Frames.{ShowsItems}
use Rattle.ll_freeze.specs.Parts.{Parts, Base}
use Rattle.ll_freeze.specs.Shown.{items_of, state_of}
use Rattle.ll_freeze.specs.Fits.{Fits}
use Rattle.ll_freeze.specs.Calls.{IsImage, SameTerms}
use Rattle.ll_freeze.proofs.CallerLemmas.{state_is, fits_kept}

pub image_of : (m n : Parts) → SameTerms m n → n.resources ≡ m.resources → ShowsItems n.agenda n.top (items_of m) → n.eigens ≡ m.eigens
    → n.left ≡ m.left → n.steps ≡ m.steps → Fits m → IsImage m n
image_of m n s r i e l st f =
    let a : state_of n ≡ state_of m =
    state_is n ∙ (rw (s.bank, s.bound, r, i.list, s.levels, e, s.terms, st) refl ∙ sym (state_is m)) in
    record {
      problem = s.problem;
      state = a;
      base = λ i. let b : Base = record { bank = s.bank i; bound = s.bound i; levels = s.levels i } in b;
      left = l;
      fits = fits_kept m n s f (rw a f.consistent) (rw a f.rests) e (rw r f.clauses) (rw r f.sorted_clauses) i.inside (rw (r, i.list) f.items)
          (rw i.list f.sorted_goals) (rw (r, l) f.labels)
          (rw (e, l) f.eigens) (rw r f.keyed);
    }
