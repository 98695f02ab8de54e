-- What is read under later bindings is what was read before them, under the substitution between: everywhere at once.
use Rattle.std.proofs.Common.{◌≡◌, ℕ, List, [], ◌∷◌, map, All, refl, ap, sym, ◌∙◌, Option}
use Rattle.std.proofs.lemmas.List.Elements.{All-head, All-tail}
use Rattle.ll_bank.specs.declared.At.{At}
use Rattle.ll_bank.specs.declared.FormAt.{FormAt}
use Rattle.ll_bank.specs.Term.{Term, sub}
use Rattle.ll_bank.specs.declared.environment.Environment.{Environment}
use Rattle.ll_bank.specs.Environments.{values_in}
use Rattle.ll_bank.specs.Form.{close_form, sub_form}
use Rattle.ll_bank.specs.Nodes.{Nodes, HasTerm, HasForm, AllInTerms, Extends, term_tree, form_tree}
use Rattle.ll_bank.proofs.CallerLemmas.{term_tree-extends, form_tree-extends}
use Rattle.ll_laws.specs.Settle.{Saved, Entry}
use Rattle.ll_laws.specs.State.{sub_item, sub_entry}
use Rattle.ll_laws.proofs.CallerLemmas.{sub_comp, sub_same, sub_form_comp}
use Rattle.ll_freeze.specs.declared.machine.Item.{Item}
use Rattle.ll_freeze.specs.declared.machine.Item.TheVariants.{Goal, LolliEnd, ImpEnd, Mid, WithEnd, BangEnd}
use Rattle.ll_freeze.specs.Reading.{reading, read_term, read_form, goal_tree, read_goal}
use Rattle.ll_freeze.specs.Shown.{shown_item, shown_entry}
use Rattle.ll_freeze.specs.Fits.{HasItem}
use Rattle.ll_freeze.proofs.CallerLemmas.{form_same}

module _ (old new : Nodes) (before after : List (Option At)) (v : ℕ → Term) (keeps : Extends old new) (reads : (x : ℕ)
    → reading new after x ≡ sub v (reading old before x)) where
  pub term_later : (at : At) → HasTerm old at.0 → read_term new after at ≡ sub v (read_term old before at)
  term_later at h =
      ap (sub (reading new after)) (term_tree-extends keeps at.0 h)
      ∙ (sub_same (reading new after) (λ x. sub v (reading old before x)) reads (term_tree old at.0)
      ∙ sym (sub_comp v (reading old before) (term_tree old at.0)))

  pub form_later : (at : FormAt) → HasForm old at.0 → read_form new after at ≡ sub_form v (read_form old before at)
  form_later at h =
      ap (sub_form (reading new after)) (form_tree-extends keeps at.0 h)
      ∙ (form_same (reading new after) (λ x. sub v (reading old before x)) reads (form_tree old at.0)
      ∙ sym (sub_form_comp v (reading old before) (form_tree old at.0)))

  pub goal_later : (e : Environment) (at : FormAt) → HasForm old at.0 → read_goal new after e at ≡ sub_form v (read_goal old before e at)
  goal_later e at h =
      ap (λ f. sub_form (reading new after) (close_form (values_in e) f)) (form_tree-extends keeps at.0 h)
      ∙ (form_same (reading new after) (λ x. sub v (reading old before x)) reads (goal_tree old e at)
      ∙ sym (sub_form_comp v (reading old before) (goal_tree old e at)))

  pub terms_later : (ats : List At) → AllInTerms old ats → map (read_term new after) ats ≡ map (sub v) (map (read_term old before) ats)
  terms_later [] h = refl
  terms_later (a ∷ ats) h = λ i. term_later a (All-head (λ (b : At). HasTerm old b.0) a ats h) i
      ∷ terms_later ats (All-tail (λ (b : At). HasTerm old b.0) a ats h) i

  item_later : (kept : List Saved) (n : ℕ) (i : Item) → HasItem old n i → shown_item new after kept i ≡ sub_item v (shown_item old before kept i)
  item_later kept n (Goal g e) h = ap (λ r. Rattle.ll_laws.specs.Settle.Goal r) (goal_later e g h)
  item_later kept n (LolliEnd b) h = refl
  item_later kept n ImpEnd h = refl
  item_later kept n (Mid s) h = refl
  item_later kept n (WithEnd s t) h = refl
  item_later kept n (BangEnd s) h = refl

  pub items_later : (kept : List Saved) (n : ℕ) (is : List Item) → All (HasItem old n) is
      → map (shown_item new after kept) is ≡ map (sub_item v) (map (shown_item old before kept) is)
  items_later kept n [] h = refl
  items_later kept n (i ∷ is) h = λ j. item_later kept n i (All-head (HasItem old n) i is h) j ∷ items_later kept n is (All-tail (HasItem old n) i is h) j

  entry_later : (e : Entry FormAt) → HasForm old e.clause.0 → shown_entry new after e ≡ sub_entry v (shown_entry old before e)
  entry_later e h = λ i. record { label = e.label; kind = e.kind; live = e.live; clause = form_later e.clause h i }

  pub entries_later : (es : List (Entry FormAt)) → All (λ e. HasForm old e.clause.0) es
      → map (shown_entry new after) es ≡ map (sub_entry v) (map (shown_entry old before) es)
  entries_later [] h = refl
  entries_later (e ∷ es) h =
      λ i. entry_later e (All-head (λ (d : Entry FormAt). HasForm old d.clause.0) e es h) i
      ∷ entries_later es (All-tail (λ (d : Entry FormAt). HasForm old d.clause.0) e es h) i
