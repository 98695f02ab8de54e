-- What the log of a shelf says of a text that was read.
use Rattle.std.proofs.Common.{◌≡◌, ℕ, ◌+◌, ◌<◌, ◌≤◌, List, [], ◌∷◌, ◌++◌, Option, Some, None, length, take, drop, refl, ap, sym, subst, ◌∙◌, arith, IfSome}
use Rattle.std.proofs.Common.{IsSomeAnd}
use Rattle.std.proofs.Common.{length-append, length-take, length-drop, append_assoc}
use Rattle.std.specs.Prelude.{Result, Ok, Err, Vec}
use Rattle.ll_edge.specs.declared.text.ReadFault.{ReadFault}
use Rattle.ll_edge.specs.declared.text.ReadFault.TheVariants as fault
use Rattle.std.proofs.Math.Seq.{take-add}
use Rattle.std.proofs.lemmas.List.{take_all, append-nil}
use Rattle.ll_edge.specs.Texts.{Texts, text_of}
use Rattle.ll_edge.specs.Log.{Answer, Handed, NoText, Entry, logged, Grew, IsGiven, Agrees, ToldFits, Hands, handed_none, handed_more, Reads, ReadingEnds}

-- ---- logs that grow

pub grew_none : (log : List Entry) → Grew log log
grew_none log = ([], sym (append-nil log))

pub grew_by : (before log after : List Entry) (name : List ℕ) (from : ℕ) (answer : Answer) → Grew before log → after ≡ logged log name from answer
    → Grew before after
grew_by before log after name from answer g e =
    let entry : Entry = record { name = name; from = from; answer = answer } in
    (g.0 ++ entry ∷ [], e ∙ ap (λ l. l ++ entry ∷ []) g.1 ∙ append_assoc before g.0 (entry ∷ []))

pub grew_hands : {name : List ℕ} {before log : List Entry} {bytes : List ℕ} → Hands name before log bytes → Grew before log
grew_hands {before = before} handed_none = grew_none before
grew_hands {name} {before} (handed_more {log} {bytes} piece some h) = grew_by before log _ name (length bytes) (Handed piece) (grew_hands h) refl

pub grew_reads : {name : List ℕ} {before after : List Entry} {bytes : List ℕ} {answer : Answer} → Reads name before after bytes answer → Grew before after
grew_reads {name} {before} {after} {bytes} {answer} r = grew_by before r.log after name (length bytes) answer (grew_hands r.hands) r.last

pub grew_trans : (before mid after : List Entry) → Grew before mid → Grew mid after → Grew before after
grew_trans before mid after a b = (a.0 ++ b.0, b.1 ∙ ap (λ l. l ++ b.0) a.1 ∙ append_assoc before a.0 b.0)

-- the log grew while a text was read, however that ended
pub grew_reading : {A : Type 0} (limit : ℕ) (name : List ℕ) (before after : List Entry) (result : Result (Vec ℕ A) ReadFault)
    → ReadingEnds limit name before after result → Grew before after
grew_reading limit name before after (Ok text) r = grew_reads r
grew_reading limit name before after (Err fault.Absent) r = grew_reads r.1
grew_reading limit name before after (Err fault.Failed) r = grew_reads r.1
grew_reading limit name before after (Err fault.TooLong) r = grew_hands r.1
grew_reading limit name before after (Err fault.OutOfMemory) r = grew_hands r.1

-- ---- parts of a log that agrees with some texts

-- what comes behind any first entries
pub agrees_behind : (texts : Texts) (before after : List Entry) → Agrees texts [] after → Agrees texts before after
agrees_behind texts before after all = λ between entry rest e. all (before ++ between) entry rest (e ∙ sym (append_assoc before between (entry ∷ rest)))

-- the first of two parts
pub agrees_first : (texts : Texts) (before mid after : List Entry) → Grew mid after → Agrees texts before after → Agrees texts before mid
agrees_first texts before mid after g all = λ between entry rest e.
    all between entry (rest ++ g.0)
    (g.1 ∙ (ap (λ l. l ++ g.0) e ∙ (append_assoc before (between ++ entry ∷ rest) g.0 ∙ ap (λ l. before ++ l) (append_assoc between (entry ∷ rest) g.0))))

-- the second of two parts
pub agrees_second : (texts : Texts) (before mid after : List Entry) → Grew before mid → Agrees texts before after → Agrees texts mid after
agrees_second texts before mid after g all = λ between entry rest e.
    all (g.0 ++ between) entry rest
    (e ∙ (ap (λ l. l ++ (between ++ entry ∷ rest)) g.1 ∙ (append_assoc before g.0 (between ++ entry ∷ rest)
    ∙ ap (λ l. before ++ l) (sym (append_assoc g.0 between (entry ∷ rest))))))

-- the last answer
pub last_given : (texts : Texts) (before log after : List Entry) (name : List ℕ) (from : ℕ) (answer : Answer) → Grew before log
    → after ≡ logged log name from answer → Agrees texts before after → IsGiven (text_of texts name) from answer
last_given texts before log after name from answer g e all =
    let entry : Entry = record { name = name; from = from; answer = answer } in
    all g.0 entry [] (e ∙ (ap (λ l. l ++ entry ∷ []) g.1 ∙ append_assoc before g.0 (entry ∷ [])))

-- ---- what was read of a text

-- what was read is the front of this text; with no text nothing was read
abbrev pub IsFrontOf : Option (List ℕ) → List ℕ → Type 0
IsFrontOf None bytes = bytes ≡ []
IsFrontOf (Some text) bytes = (length bytes ≤ length text) × (take (length bytes) text ≡ bytes)

front_none : (found : Option (List ℕ)) → IsFrontOf found []
front_none None = refl
front_none (Some text) = (omega arith, refl)

front_more : (found : Option (List ℕ)) (bytes piece : List ℕ) → IsFrontOf found bytes → IsGiven found (length bytes) (Handed piece)
    → IsFrontOf found (bytes ++ piece)
front_more None bytes piece front part = absurd part
front_more (Some text) bytes piece front part =
    let l = ap length part.is in
    let size : length (bytes ++ piece) ≡ length bytes + length piece = length-append bytes piece in (
      omega (arith, l, size, front.0, length-take (length piece) (drop (length bytes) text), length-drop (length bytes) text),
      ap (λ k. take k text) size ∙ (take-add (length bytes) (length piece) text ∙ (ap (λ xs. xs ++ take (length piece) (drop (length bytes) text)) front.1
          ∙ ap (λ xs. bytes ++ xs) (sym part.is))),
    )

front_whole : (found : Option (List ℕ)) (bytes : List ℕ) → IsFrontOf found bytes → IsGiven found (length bytes) (Handed []) → found ≡ Some bytes
front_whole None bytes front part = absurd part
front_whole (Some text) bytes front part = ap Some (sym (take_all (length bytes) text (part.at_end.0 refl)) ∙ front.1)

front_longer : (found : Option (List ℕ)) (bytes : List ℕ) (limit : ℕ) → IsFrontOf found bytes → limit < length bytes
    → IsSomeAnd found (λ text. limit < length text)
front_longer None bytes limit front longer = absurd (let e = ap length front in omega arith)
front_longer (Some text) bytes limit front longer = let within = front.0 in omega arith

pub hands_front : (texts : Texts) {name : List ℕ} {before log : List Entry} {bytes : List ℕ} → Agrees texts before log → Hands name before log bytes
    → IsFrontOf (text_of texts name) bytes
hands_front texts {name} all handed_none = front_none (text_of texts name)
hands_front texts {name} {before} all (handed_more {log} {bytes} piece some h) =
    front_more (text_of texts name) bytes piece
    (hands_front texts (agrees_first texts before log _ (grew_by log log _ name (length bytes) (Handed piece) (grew_none log) refl) all) h)
    (last_given texts before log _ name (length bytes) (Handed piece) (grew_hands h) refl all)

-- a reading that ended with no bytes read the whole text
pub reads_whole : (texts : Texts) {name : List ℕ} {before after : List Entry} {bytes : List ℕ} → Agrees texts before after
    → Reads name before after bytes (Handed []) → text_of texts name ≡ Some bytes
reads_whole texts {name} {before} {after} {bytes} all r =
    front_whole (text_of texts name) bytes
    (hands_front texts (agrees_first texts before r.log after (grew_by r.log r.log after name (length bytes) (Handed []) (grew_none r.log) r.last) all) r.hands)
    (last_given texts before r.log after name (length bytes) (Handed []) (grew_hands r.hands) r.last all)

-- one that ended with the answer that there is no text found none
pub reads_absent : (texts : Texts) {name : List ℕ} {before after : List Entry} {bytes : List ℕ} → Agrees texts before after
    → Reads name before after bytes NoText → text_of texts name ≡ None
reads_absent texts {name} {before} {after} {bytes} all r =
    last_given texts before r.log after name (length bytes) NoText (grew_hands r.hands) r.last all

-- one that was handed more than the limit read a text that is longer
pub hands_longer : (texts : Texts) {name : List ℕ} {before after : List Entry} {bytes : List ℕ} (limit : ℕ) → Agrees texts before after
    → Hands name before after bytes → length bytes ≡ limit + 1 → IsSomeAnd (text_of texts name) (λ text. limit < length text)
hands_longer texts {name} {bytes = bytes} limit all h e = front_longer (text_of texts name) bytes limit (hands_front texts all h) (omega (arith, e))

-- ---- the same for texts that are told

-- what a shelf tells fits its log
pub fits_told : (told now_told : Option Texts) (before after : List Entry) → now_told ≡ told → IfSome now_told (λ texts. Agrees texts [] after)
    → ToldFits told before after
fits_told None now_told before after same all = tt
fits_told (Some texts) now_told before after same all =
    agrees_behind texts before after (subst (λ told. IfSome told (λ texts. Agrees texts [] after)) same all)

-- what fits a log fits each of two parts
pub fits_first : (told : Option Texts) (before mid after : List Entry) → Grew mid after → ToldFits told before after → ToldFits told before mid
fits_first None before mid after g fits = tt
fits_first (Some texts) before mid after g fits = agrees_first texts before mid after g fits

pub fits_second : (told : Option Texts) (before mid after : List Entry) → Grew before mid → ToldFits told before after → ToldFits told mid after
fits_second None before mid after g fits = tt
fits_second (Some texts) before mid after g fits = agrees_second texts before mid after g fits

pub told_whole : (told : Option Texts) {name : List ℕ} {before after : List Entry} {bytes : List ℕ} → ToldFits told before after
    → Reads name before after bytes (Handed []) → IfSome told (λ texts. text_of texts name ≡ Some bytes)
told_whole None fits r = tt
told_whole (Some texts) fits r = reads_whole texts fits r

pub told_absent : (told : Option Texts) {name : List ℕ} {before after : List Entry} {bytes : List ℕ} → ToldFits told before after
    → Reads name before after bytes NoText → IfSome told (λ texts. text_of texts name ≡ None)
told_absent None fits r = tt
told_absent (Some texts) fits r = reads_absent texts fits r

pub told_longer : (told : Option Texts) {name : List ℕ} {before after : List Entry} {bytes : List ℕ} (limit : ℕ) → ToldFits told before after
    → Hands name before after bytes → length bytes ≡ limit + 1 → IfSome told (λ texts. IsSomeAnd (text_of texts name) (λ text. limit < length text))
told_longer None limit fits h e = tt
told_longer (Some texts) limit fits h e = hands_longer texts limit fits h e

-- ---- one call more

pub hands_more : {name : List ℕ} {before log : List Entry} {bytes : List ℕ} (after : List Entry) (now piece : List ℕ) (from : ℕ) → Hands name before log bytes
    → from ≡ length bytes → after ≡ logged log name from (Handed piece) → now ≡ bytes ++ piece → 0 < length piece → Hands name before after now
hands_more {name} {before} {log} {bytes = bytes} after now piece from h at e is some =
    subst (λ l. Hands name before l now) (sym (e ∙ ap (λ place. logged log name place (Handed piece)) at))
    (subst (λ bs. Hands name before (logged log name (length bytes) (Handed piece)) bs) (sym is) (handed_more piece some h))

pub reads_last : {name : List ℕ} {before log : List Entry} {bytes : List ℕ} (after : List Entry) (from : ℕ) (answer : Answer) → Hands name before log bytes
    → from ≡ length bytes → after ≡ logged log name from answer → Reads name before after bytes answer
reads_last {name} {log = log} after from answer h at e = record { log = log; hands = h; last = e ∙ ap (λ place. logged log name place answer) at }

-- the last call was handed no bytes
pub reads_end : {name : List ℕ} {before log : List Entry} {bytes : List ℕ} (after : List Entry) (from n : ℕ) (buf : List ℕ) → Hands name before log bytes
    → from ≡ length bytes → n ≡ 0 → after ≡ logged log name from (Handed (take n buf)) → Reads name before after bytes (Handed [])
reads_end {name} {log = log} after from n buf h at none e =
    reads_last after from (Handed []) h at (e ∙ ap (λ k. logged log name from (Handed (take k buf))) none)
