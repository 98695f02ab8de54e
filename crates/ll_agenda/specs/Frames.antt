-- An agenda as its frames, and the lists that its tops show.
use Rattle.std.specs.Prelude.{◌≡◌, ℕ, ◌<◌, ◌≤◌, ◌++◌, List, [], ◌∷◌, length, slice_index_or, refl}
use Rattle.std.specs.Coded.{Coded, code_by, coded_list, coded×, coded_ℕ}
use Rattle.ll_bank.specs.Nodes.{grow}
use Rattle.ll_agenda.specs.declared.agenda.Top.{Top}

-- the frames of an agenda: each an item with the top of the list behind it
abbrev pub Frames : Type 0 → Type 0
Frames T = List (T × Top)

-- a top is stored as its place
abbrev pub top_code : Coded Top
top_code = code_by ℕ coded_ℕ (λ top. top.place) (λ place. record { place = place }) (λ _. refl)

-- and frames as pairs
abbrev pub frames_code : {T : Type 0} → Coded T → Coded (Frames T)
frames_code code = coded_list (coded× code top_code)

module _ {T : Type 0} where
  -- the list of a frame over the lists of the tops before it: its item in front of the list of its rest
  abbrev pub list_of : List (List T) → T × Top → List T
  list_of lists frame = frame.0 ∷ slice_index_or lists frame.1.place []

  -- the list of a top: place 0 has the empty list, and the frames in turn have their lists over the lists before them
  unfoldable pub items_at : Frames T → Top → List T
  items_at frames top = slice_index_or (grow list_of ([] ∷ []) frames) top.place []

  -- the agenda has this top
  abbrev pub HasTop : Frames T → Top → Type 0
  HasTop frames top = top.place ≤ length frames

  -- the agenda has this top, and its list is this one
  pub record ShowsItems (frames : Frames T) (top : Top) (items : List T) : Type 0 where
    pub inside : HasTop frames top
    pub list : items_at frames top ≡ items

  -- the list of a top is this item in front of the list of the rest, which is a top of the agenda too
  pub record BeginsWith (frames : Frames T) (top : Top) (item : T) (rest : Top) : Type 0 where
    pub list : items_at frames top ≡ item ∷ items_at frames rest
    pub inside : HasTop frames rest
    -- and one of the frames before its own
    pub earlier : rest.place < top.place

  -- no frame is behind that of this top
  abbrev pub IsLast : Frames T → Top → Type 0
  IsLast frames top = top.place ≡ length frames

  -- the later agenda has the frames of the earlier one and more behind them, and the earlier tops have the lists that they had
  pub record Extends (old new : Frames T) : Type 0 where
    pub more : Frames T
    pub frames : new ≡ old ++ more
    pub same_items : (top : Top) → HasTop old top → items_at new top ≡ items_at old top

  -- the rest of each frame is a top of the frames before it
  abbrev pub IsWellFounded : Frames T → Type 0
  IsWellFounded frames = (at : ℕ) (d : T × Top) → at < length frames → (slice_index_or frames at d).1.place ≤ at
