-- What contracts see of each change of what is stored.
use Rattle.std.proofs.Common.{◌≡◌, ℕ, suc, ◌-◌, ◌<◌, Bool, true, false, ◌||◌, ◌&&◌, not, List, [], ◌∷◌, ◌++◌, length}
use Rattle.std.proofs.Common.{map, drop, All, get_or, refl, ap, sym, ◌∙◌}
use Rattle.std.proofs.Common.{subst, arith}
use Rattle.std.specs.Prelude.{reverse, Option, Some, None, option_map, if◌then◌else◌}
use Rattle.std.proofs.lemmas.Bool.{false≢true}
use Rattle.std.proofs.lemmas.List.{length-map, length-reverse, length-take-le, get_or-map, get_or_append_left, get_or_push}
use Rattle.std.proofs.lemmas.List.Elements.{All-get_or}
use Rattle.ll_laws.specs.declared.Kind.{Kind}
use Rattle.ll_laws.specs.Attempt.{is_linear}
use Rattle.ll_laws.specs.Settle.{Entry as Resource, Saved, Goal, LolliEnd, ImpEnd, WithEnd, Front, settle_front, marks, remark, both_live, join_by, kept_if}
use Rattle.ll_laws.specs.Settle.{end_with}
use Rattle.ll_resources.specs.declared.context.Saved.{Saved as Handle}
use Rattle.ll_resources.specs.declared.state.Stored.{Stored}
use Rattle.ll_resources.specs.Seen.{seen, seen_all, filled}
use Rattle.ll_resources.specs.Saves.{block_of, kept_marks, IsWithin}
use Rattle.ll_resources.specs.Resources.{Resources, saved_at, saved_as, saved_now, SavedFits}
use Rattle.ll_resources.specs.Resources.{settled, with_front, load_end, bang_end, with_end, after_load_keyed}
use Rattle.ll_resources.specs.Resources.{after_pick, after_save, after_bang, after_with_mid, KeepsSaved, SettlesMiddle}
use Rattle.ll_resources.specs.Raw.{Raw, shown, front, chained, raw_picked, end_flag, mark_slot, first_place, newest_linear, end_fails, Closes, raw_kept}
use Rattle.ll_resources.specs.Raw.{kept_now, raw_remarked, kept_under, block_under, block_later, Agrees, Joins}
use Rattle.ll_resources.specs.Chains.{IsChained, Loads}
use Rattle.ll_resources.proofs.SeenLemmas.{reverse-push, reverse-front, reverse-rest, reverse-set, length-filled, length-seen, marks-seen, remark-seen}
use Rattle.ll_resources.proofs.SeenLemmas.{unlive-seen, picked-seen, seen-first}
use Rattle.ll_resources.proofs.KeptLemmas.{block-behind, kept-behind, kept-more, within-behind, within-more}

-- what is kept lies among the marks
abbrev pub HasWithin : {C : Type 0} → Raw C → Type 0
HasWithin r = All (IsWithin r.marks) r.kept

-- what holds of each state
pub record IsWell {C : Type 0} (r : Raw C) : Type 0 where
  pub within : HasWithin r
  pub chained : IsChained r

module _ {C : Type 0} where
  -- a context by its parts
  abbrev made : List (Option ℕ) → List (Resource C) → Bool → ℕ → List Saved → Resources C
  made keys es flag next kept = record { entries = es; flag = flag; next = next; kept = kept; keys = keys }

  -- the keys of entries, the newest in front
  abbrev pub keys_of : List (Stored C) → List (Option ℕ)
  keys_of ss = map (λ (s : Stored C). s.key) ss

  pub shown-loaded : (kind : Kind) (clause : C) (key : ℕ) (r new : Raw C) → Loads kind clause key r new
      → shown new ≡ after_load_keyed kind clause key (shown r)
  shown-loaded kind clause key r new l =
      let s : Stored C = chained r.next kind clause key l.at (r.tops key) in
      let flag : Bool = if is_linear kind then false else r.flag in
      let ks : List Saved = map (kept_marks r.marks) r.kept in
      ap (λ (t : Raw C). shown t) l.state
      ∙ (ap (λ ss. made (keys_of ss) (seen_all ss (reverse (r.live ++ is_linear kind ∷ []))) flag (suc r.next) ks) (reverse-push r.entries s)
      ∙ ap (λ bs. made (keys_of (s ∷ reverse r.entries)) (seen_all (s ∷ reverse r.entries) bs) flag (suc r.next) ks) (reverse-push r.live (is_linear kind)))

  pub shown-picked : (label : ℕ) (r : Raw C) → shown (raw_picked (mark_slot (length r.live) (first_place label (reverse r.entries))) r)
      ≡ after_pick label (shown r)
  shown-picked label r =
      let ks : List Saved = map (kept_marks r.marks) r.kept in
      ap (λ bs. made (keys_of (reverse r.entries)) (seen_all (reverse r.entries) bs) r.flag r.next ks)
      (reverse-set r.live (first_place label (reverse r.entries)) false)
      ∙ ap (λ es. made (keys_of (reverse r.entries)) es r.flag r.next ks) (sym (picked-seen label (reverse r.entries) (reverse r.live)))

  pub entries-count : (r : Raw C) → length (shown r).entries ≡ length r.entries
  entries-count r = length-seen (reverse r.entries) (reverse r.live) ∙ length-reverse r.entries

  -- ---- the end of the newest entry's goal

  -- the newest entry, and the others
  shown-first : (r : Raw C) (d : Stored C) → 0 < length r.entries
      → (shown r).entries ≡ seen (get_or r.entries (length r.entries - 1) d) (get_or (reverse r.live) 0 false)
      ∷ seen_all (reverse (front r.entries)) (reverse (front r.live))
  shown-first r d l =
      let s : Stored C = get_or r.entries (length r.entries - 1) d in
      ap (λ ss. seen_all ss (reverse r.live)) (reverse-front r.entries d l)
      ∙ (seen-first s (reverse (front r.entries)) (reverse r.live)
      ∙ ap (λ bs. seen s (get_or (reverse r.live) 0 false) ∷ seen_all (reverse (front r.entries)) bs) (reverse-rest r.live))

  some_item : (xs : List (Stored C)) → 0 < length xs → Stored C
  some_item [] l = absurd (omega (arith, l))
  some_item (x ∷ xs) l = x

  close_core : (saved : Bool) (e : Resource C) (es : List (Resource C)) (q : Resources C) (b : Bool) → (b && (e.live && not q.flag)) ≡ false
      → option_map (with_front q) (settle_front ((if b then LolliEnd saved else ImpEnd) ∷ []) (e ∷ es) q.flag)
      ≡ Some (record q { entries = es; flag = if b then saved || q.flag else q.flag; keys = drop (length q.entries - length es) q.keys })
  close_core saved e es q true h =
      let f : Front (Unit {0}) C = record { agenda = []; context = es; flag = saved || q.flag } in
      ap (λ t. option_map (with_front q) (if t then None else Some f)) h
  close_core saved e es q false h = refl

  fail_core : (saved : Bool) (e : Resource C) (es : List (Resource C)) (q : Resources C) (b : Bool) → (b && (e.live && not q.flag)) ≡ true
      → option_map (with_front q) (settle_front ((if b then LolliEnd saved else ImpEnd) ∷ []) (e ∷ es) q.flag) ≡ None
  fail_core saved e es q true h =
      let f : Front (Unit {0}) C = record { agenda = []; context = es; flag = saved || q.flag } in
      ap (λ t. option_map (with_front q) (if t then None else Some f)) h
  fail_core saved e es q false h = absurd (false≢true h)

  pub newest-is : (r : Raw C) (d : Stored C) → 0 < length r.entries → newest_linear (reverse r.entries) ≡ is_linear (get_or r.entries
      (length r.entries - 1) d).kind
  newest-is r d l = ap (λ ss. newest_linear ss) (reverse-front r.entries d l)

  pub shown-closed : (saved : Bool) (r new : Raw C) → 0 < length r.entries → Closes saved r new
      → settled (load_end saved (shown r).entries) (shown r) ≡ Some (shown new)
  shown-closed saved r new l c =
      let d = some_item r.entries l in
      let s : Stored C = get_or r.entries (length r.entries - 1) d in
      let e : Resource C = seen s (get_or (reverse r.live) 0 false) in
      let es : List (Resource C) = seen_all (reverse (front r.entries)) (reverse (front r.live)) in
      let q = shown r in
      let linear : newest_linear (reverse r.entries) ≡ is_linear s.kind = newest-is r d l in
      let one : length q.entries - length es ≡ 1 =
      (let a = entries-count r in let b = length-seen (reverse (front r.entries)) (reverse (front r.live)) in
      let d = length-reverse (front r.entries) in let f = length-take-le (length r.entries - 1) r.entries (omega arith) in omega (arith, a, b, d, f, l)) in
      let keys : drop (length q.entries - length es) q.keys ≡ keys_of (reverse (front r.entries)) =
      ap (λ n. drop n q.keys) one ∙ ap (λ ss. drop 1 (keys_of ss)) (reverse-front r.entries d l) in
      let goes : (is_linear s.kind && (e.live && not r.flag)) ≡ false = ap (λ b. b && (e.live && not r.flag)) (sym linear) ∙ c.goes in
      ap (λ xs. option_map (with_front q) (settle_front (load_end saved xs ∷ []) xs q.flag)) (shown-first r d l)
      ∙ (close_core saved e es q (is_linear s.kind) goes
      ∙ (ap (λ b. Some (made (drop (length q.entries - length es) q.keys) es (if b then saved || r.flag else r.flag) r.next
      (map (kept_marks r.marks) r.kept))) (sym linear)
      ∙ (ap (λ ks. Some (made ks es (end_flag saved r) r.next (map (kept_marks r.marks) r.kept))) keys
      ∙ ap (λ (t : Raw C). Some (shown t)) (sym c.state))))

  pub shown-fails : (saved : Bool) (r : Raw C) → 0 < length r.entries → end_fails r ≡ true → settled (load_end saved (shown r).entries) (shown r) ≡ None
  shown-fails saved r l h =
      let d = some_item r.entries l in
      let s : Stored C = get_or r.entries (length r.entries - 1) d in
      let e : Resource C = seen s (get_or (reverse r.live) 0 false) in
      let es : List (Resource C) = seen_all (reverse (front r.entries)) (reverse (front r.live)) in
      let q = shown r in
      let linear : newest_linear (reverse r.entries) ≡ is_linear s.kind = newest-is r d l in
      let fails : (is_linear s.kind && (e.live && not r.flag)) ≡ true = ap (λ b. b && (e.live && not r.flag)) (sym linear) ∙ h in
      ap (λ xs. option_map (with_front q) (settle_front (load_end saved xs ∷ []) xs q.flag)) (shown-first r d l)
      ∙ fail_core saved e es q (is_linear s.kind) fails

  -- ---- marks kept, and others in their place

  pub shown-remarked : (live : List Bool) (flag : Bool) (r : Raw C) → HasWithin r
      → shown (raw_remarked live flag r) ≡ record (shown r) { entries = seen_all (reverse r.entries) (reverse live); flag = flag }
  shown-remarked live flag r w = ap (λ ks. made (keys_of (reverse r.entries)) (seen_all (reverse r.entries) (reverse live)) flag r.next ks)
      (kept-behind r.marks r.live r.kept w)

  pub within-remarked : (live : List Bool) (flag : Bool) (r : Raw C) → HasWithin r → HasWithin (raw_remarked live flag r)
  within-remarked live flag r w = within-behind r.marks r.live r.kept w

  saved-now : (r : Raw C) → saved_now (shown r) ≡ record { live = filled (length r.entries) (reverse r.live); flag = r.flag }
  saved-now r =
      ap (λ bs. let s : Saved = record { live = bs; flag = r.flag } in s)
      (marks-seen (reverse r.entries) (reverse r.live) ∙ ap (λ n. filled n (reverse r.live)) (length-reverse r.entries))

  pub shown-kept : (live : List Bool) (r : Raw C) → HasWithin r
      → shown (raw_kept live r) ≡ record (after_save (shown r)) { entries = seen_all (reverse r.entries) (reverse live) }
  shown-kept live r w =
      let es : List (Resource C) = seen_all (reverse r.entries) (reverse live) in
      ap (λ ks. made (keys_of (reverse r.entries)) es false r.next ks) (kept-more r.marks r.live r.kept (kept_now r) w refl refl)
      ∙ ap (λ s. made (keys_of (reverse r.entries)) es false r.next (map (kept_marks r.marks) r.kept ++ s ∷ [])) (sym (saved-now r))

  pub within-kept : (live : List Bool) (r : Raw C) → HasWithin r → HasWithin (raw_kept live r)
  within-kept live r w = within-more r.marks r.live r.kept (kept_now r) w refl refl

  -- what is kept under a number
  pub saved-under : (h : Handle) (r : Raw C) → h.number < length r.kept → saved_at (shown r).kept h ≡ kept_marks r.marks (kept_under h.number r)
  saved-under h r l = get_or-map (kept_marks r.marks) r.kept h.number _ _ l

  pub number-inside : (h : Handle) (r : Raw C) → SavedFits h (shown r) → h.number < length r.kept
  number-inside h r f = let n = length-map r.kept (kept_marks r.marks) in omega (arith, n, f.0)

  -- it belongs to as many entries
  count-is : (h : Handle) (r : Raw C) → SavedFits h (shown r) → (kept_under h.number r).count ≡ length r.entries
  count-is h r f =
      let k = kept_under h.number r in
      sym (length-filled k.count (reverse (block_of r.marks k)))
      ∙ (ap (λ (s : Saved). length s.live) (sym (saved-under h r (number-inside h r f)))
      ∙ (f.1 ∙ (length-seen (reverse r.entries) (reverse r.live) ∙ length-reverse r.entries)))

  pub within-under : (number : ℕ) (r : Raw C) → HasWithin r → number < length r.kept → IsWithin r.marks (kept_under number r)
  within-under number r w l = All-get_or (IsWithin r.marks) r.kept number _ l w

  pub later-same : (number : ℕ) (r : Raw C) → HasWithin r → number < length r.kept → block_later number r ≡ block_under number r
  later-same number r w l = block-behind r.marks r.live (kept_under number r) (within-under number r w l)

  -- its marks, as those of the entries
  saved-live : (h : Handle) (r : Raw C) → HasWithin r → SavedFits h (shown r)
      → (saved_at (shown r).kept h).live ≡ filled (length (reverse r.entries)) (reverse (block_later h.number r))
  saved-live h r w f =
      let l = number-inside h r f in
      ap (λ (s : Saved). s.live) (saved-under h r l)
      ∙ (ap (λ n. filled n (reverse (block_under h.number r))) (count-is h r f ∙ sym (length-reverse r.entries))
      ∙ ap (λ bs. filled (length (reverse r.entries)) (reverse bs)) (sym (later-same h.number r w l)))

  given-back : (h : Handle) (r : Raw C) → HasWithin r → SavedFits h (shown r)
      → remark (shown r).entries (saved_at (shown r).kept h).live ≡ seen_all (reverse r.entries) (reverse (block_later h.number r))
  given-back h r w f =
      ap (λ bs. remark (shown r).entries bs) (saved-live h r w f)
      ∙ remark-seen (reverse r.entries) (reverse r.live) (reverse (block_later h.number r))

  pub shown-banged : (r : Raw C) → HasWithin r → shown (raw_remarked [] r.flag r) ≡ after_bang (shown r)
  shown-banged r w =
      shown-remarked [] r.flag r w
      ∙ ap (λ es. made (keys_of (reverse r.entries)) es r.flag r.next (map (kept_marks r.marks) r.kept)) (sym (unlive-seen (reverse r.entries)
      (reverse r.live)))

  -- the keys of the entries that settling left
  abbrev keys_left : Raw C → List (Resource C) → List (Option ℕ)
  keys_left r es = drop (length (shown r).entries - length es) (shown r).keys

  -- all, where none went
  keys-stay : (r : Raw C) (bs : List Bool) → keys_left r (seen_all (reverse r.entries) bs) ≡ (shown r).keys
  keys-stay r bs =
      let a = length-seen (reverse r.entries) (reverse r.live) in let b = length-seen (reverse r.entries) bs in
      ap (λ n. drop n (shown r).keys)
      (let e : length (shown r).entries - length (seen_all (reverse r.entries) bs) ≡ 0 = omega (arith, a, b) in e)

  pub shown-bang-end : (h : Handle) (r : Raw C) → HasWithin r → SavedFits h (shown r)
      → settled (bang_end (shown r).kept h) (shown r) ≡ Some (shown (raw_remarked (block_later h.number r) (kept_under h.number r).flag r))
  shown-bang-end h r w f =
      let ks : List Saved = map (kept_marks r.marks) r.kept in
      let es : List (Resource C) = seen_all (reverse r.entries) (reverse (block_later h.number r)) in
      ap (λ es. Some (made (keys_left r es) es (saved_at ks h).flag r.next ks)) (given-back h r w f)
      ∙ (ap (λ kl. Some (made kl es (saved_at ks h).flag r.next ks)) (keys-stay r (reverse (block_later h.number r)))
      ∙ (ap (λ (s : Saved). Some (made (keys_of (reverse r.entries)) es s.flag r.next ks))
      (saved-under h r (number-inside h r f))
      ∙ ap (λ (t : Resources C). Some t) (sym (shown-remarked (block_later h.number r) (kept_under h.number r).flag r w))))

  pub shown-mid : (h : Handle) (r : Raw C) → HasWithin r → SavedFits h (shown r) → shown (raw_kept (block_later h.number r) r) ≡ after_with_mid h (shown r)
  shown-mid h r w f =
      shown-kept (block_later h.number r) r w
      ∙ ap (λ es. let s : Resources C = record (after_save (shown r)) { entries = es } in s) (sym (given-back h r w f))

  -- ---- the end of `&`

  -- what both sides leave, or none
  joined-as : (ok : Bool) (s h : Handle) (r : Raw C) → HasWithin r → SavedFits s (shown r) → SavedFits h (shown r) → Agrees h.number r ok
      → settled (with_end (shown r).kept s h) (shown r)
      ≡ option_map (with_front (shown r)) (end_with (settle_front []) (saved_at (shown r).kept s) (shown r).entries
      (kept_if ok (both_live (filled (length r.entries) (reverse (block_under h.number r))) (filled (length r.entries) (reverse r.live)))
      ((kept_under h.number r).flag && r.flag)))
  joined-as ok s h r w fs fh a =
      let q = shown r in let n : ℕ = length r.entries in let k = kept_under h.number r in
      let go : Option Saved → Option (Resources C) = λ o. option_map (with_front q) (end_with (settle_front []) (saved_at q.kept s) q.entries o) in
      let first : saved_at q.kept h ≡ record { live = filled n (reverse (block_under h.number r)); flag = k.flag } =
      saved-under h r (number-inside h r fh) ∙ ap (λ m. let x : Saved = record { live = filled m (reverse (block_under h.number r)); flag = k.flag } in
      x) (count-is h r fh) in
      ap (λ (x : Saved). go (join_by x.flag r.flag x.live (marks q.entries))) first
      ∙ (ap (λ (x : Saved). go (join_by k.flag r.flag (filled n (reverse (block_under h.number r))) x.live)) (saved-now r) ∙ ap go a)

  pub shown-joined : (s h : Handle) (r new : Raw C) → HasWithin r → SavedFits s (shown r) → SavedFits h (shown r)
      → Agrees h.number r true → Joins s.number h.number r new
      → settled (with_end (shown r).kept s h) (shown r) ≡ Some (shown new)
  shown-joined s h r new w fs fh a j =
      let q = shown r in let ks : List Saved = map (kept_marks r.marks) r.kept in
      let v : Bool = (kept_under h.number r).flag && r.flag in
      let n : ℕ = length (reverse r.entries) in
      let both : both_live (filled (length r.entries) (reverse (block_under h.number r))) (filled (length r.entries) (reverse r.live))
      ≡ filled n (reverse new.live) =
      ap (λ m. both_live (filled m (reverse (block_under h.number r))) (filled m (reverse r.live))) (sym (length-reverse r.entries))
      ∙ (ap (λ bs. both_live (filled n (reverse bs)) (filled n (reverse r.live))) (sym (later-same h.number r w (number-inside h r fh))) ∙ sym (j.both n)) in
      joined-as true s h r w fs fh a
      ∙ (ap (λ bs. Some (made (keys_left r (remark q.entries bs)) (remark q.entries bs) ((saved_at ks s).flag || v) r.next ks)) both
      ∙ (ap (λ es. Some (made (keys_left r es) es ((saved_at ks s).flag || v) r.next ks))
      (remark-seen (reverse r.entries) (reverse r.live) (reverse new.live))
      ∙ (ap (λ kl. Some (made kl (seen_all (reverse r.entries) (reverse new.live)) ((saved_at ks s).flag || v) r.next ks)) (keys-stay r (reverse new.live))
      ∙ (ap (λ (x : Saved). Some (made (keys_of (reverse r.entries)) (seen_all (reverse r.entries) (reverse new.live)) (x.flag || v) r.next ks))
      (saved-under s r (number-inside s r fs))
      ∙ (ap (λ (t : Resources C). Some t) (sym (shown-remarked new.live ((kept_under s.number r).flag || v) r w))
      ∙ ap (λ (t : Raw C). Some (shown t)) (sym j.state))))))

  pub shown-apart : (s h : Handle) (r : Raw C) → HasWithin r → SavedFits s (shown r) → SavedFits h (shown r) → Agrees h.number r false
      → settled (with_end (shown r).kept s h) (shown r) ≡ None
  shown-apart s h r w fs fh a = joined-as false s h r w fs fh a

  -- ---- what callers learn of what is kept

  pub keeps-more : (q s : Resources C) (x : Saved) → s.kept ≡ q.kept ++ x ∷ [] → KeepsSaved (length q.kept) q s
  keeps-more q s x e h l = ap (λ ks. saved_at ks h) e ∙ get_or_append_left q.kept (x ∷ []) _ h.number l

  pub last-saved : (q s : Resources C) (x : Saved) → s.kept ≡ q.kept ++ x ∷ [] → saved_at s.kept (saved_as (length q.kept)) ≡ x
  last-saved q s x e = ap (λ ks. saved_at ks (saved_as (length q.kept))) e ∙ get_or_push q.kept x _ (length q.kept) refl

  pub settles-mid : (h : Handle) (q s : Resources C) → s ≡ after_with_mid h q
      → SettlesMiddle (saved_at q.kept h) (saved_at s.kept (saved_as (length q.kept))) q s
  settles-mid h q s e =
      let saved = saved_at q.kept h in
      let mid : Saved → List (Resource C) → Bool → Option (Front (Unit {0}) C) =
      λ x es b. Some (record { agenda = Goal (tt {0}) ∷ WithEnd saved x ∷ []; context = es; flag = b }) in
      let t = after_with_mid h q in
      ap (λ x. mid x t.entries t.flag) (sym (last-saved q s (saved_now q) (ap (λ (r : Resources C). r.kept) e)))
      ∙ ap (λ (r : Resources C). mid (saved_at s.kept (saved_as (length q.kept))) r.entries r.flag) (sym e)

  -- where the later context is known as a whole

  pub save-keeps : (q s : Resources C) → s ≡ after_save q → KeepsSaved (length q.kept) q s
  save-keeps q s e = keeps-more q s (saved_now q) (ap (λ (r : Resources C). r.kept) e)

  pub save-last : (q s : Resources C) (n : ℕ) → n ≡ length q.kept → s ≡ after_save q → saved_at s.kept (saved_as n) ≡ saved_now q
  save-last q s n c e = ap (λ m. saved_at s.kept (saved_as m)) c ∙ last-saved q s (saved_now q) (ap (λ (r : Resources C). r.kept) e)

  pub mid-keeps : (h : Handle) (q s : Resources C) → s ≡ after_with_mid h q → KeepsSaved (length q.kept) q s
  mid-keeps h q s e = keeps-more q s (saved_now q) (ap (λ (r : Resources C). r.kept) e)

  pub mid-settles : (h : Handle) (q s : Resources C) (n : ℕ) → n ≡ length q.kept → s ≡ after_with_mid h q
      → SettlesMiddle (saved_at q.kept h) (saved_at s.kept (saved_as n)) q s
  mid-settles h q s n c e = subst (λ m. SettlesMiddle (saved_at q.kept h) (saved_at s.kept (saved_as m)) q s) (sym c) (settles-mid h q s e)
