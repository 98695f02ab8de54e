-- What an outlet tells of its sink's faults.
use Rattle.std.proofs.Common.{◌≡◌, ◌∙◌, ℕ, Bool, true, false, inl, inr, subst, sym}
use Rattle.ll_top.specs.declared.texts.refusing.Refusal.{Refusal}
use Rattle.ll_top.specs.declared.texts.refusing.Refusal.TheVariants.{Unwritable, OutOfMemory}
use Rattle.ll_top.specs.texts.Told.{WritesBy}
use Rattle.ll_top.specs.lines.Running.{TellsFaults}
use Rattle.ll_top.specs.Running.{IsRunRefusal}

-- A refusal says that the sink failed exactly where the outlet tells so, and then the count rose. Else the count stands still.
pub told-refusal : (told : Bool) (before : ℕ) (later : Bool) (after : ℕ) (e : Refusal) → TellsFaults told before later after → told ≡ false
    → (later ≡ true → e ≡ Unwritable) → (later ≡ false → e ≡ OutOfMemory) → IsRunRefusal before after e × WritesBy before after e
told-refusal told before later after e (inl (same, still)) none unwritable memory =
    subst (λ x. IsRunRefusal before after x × WritesBy before after x) (sym (memory (same ∙ none))) (tt, still)
told-refusal told before later after e (inr (tells, rose)) none unwritable memory =
    subst (λ x. IsRunRefusal before after x × WritesBy before after x) (sym (unwritable tells)) (rose, tt)
