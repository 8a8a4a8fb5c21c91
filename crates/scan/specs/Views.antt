-- THE WALK'S STATE as two lists and a place: what waits, the word that was pushed last first; the records, the one that was laid down last
-- first; the place of the last token that was read. And what the walk does to them, a word at a time.
use Rattle.std.specs.Prelude.{ℕ, ◌/◌, ◌%◌, ◌≡◌, true, false, List, [], ◌∷◌, leb}

pub record View : Type 0 where
  pub left : ℕ
  pub stack : List ℕ
  pub records : List ℕ

unfoldable pub top_word : List ℕ → ℕ
top_word [] = 0
top_word (w ∷ S) = w

unfoldable pub tail_of : List ℕ → List ℕ
tail_of [] = []
tail_of (w ∷ S) = S

-- The tokens from a place on have been read.
unfoldable pub read_from : ℕ → View → View
read_from at v = record { left = at; stack = v.stack; records = v.records }

-- One word more waits.
unfoldable pub pushed : ℕ → View → View
pushed w v = record { left = v.left; stack = w ∷ v.stack; records = v.records }

-- The last one waits no more.
unfoldable pub popped : View → View
popped v = record { left = v.left; stack = tail_of v.stack; records = v.records }

-- One record more.
unfoldable pub laid : ℕ → View → View
laid w v = record { left = v.left; stack = v.stack; records = w ∷ v.records }

-- The top becomes a record; its grade, from bit 26 on, is cut off.
unfoldable pub taken : View → View
taken v = popped (laid (top_word v.stack % 67108864) v)

-- Two lists: those of a state.
pub record Lists : Type 0 where
  pub stack : List ℕ
  pub records : List ℕ

-- The words from a number on become records; their grades, from bit 26 on, are cut off.
unfoldable pub settled_lists : ℕ → List ℕ → List ℕ → Lists
settled_lists from [] R = record { stack = []; records = R }
settled_lists from (w ∷ S) R =
    elim (leb from w) [ true ↦ settled_lists from S (w % 67108864 ∷ R) | false ↦ record { stack = w ∷ S; records = R } ]

unfoldable pub settled : ℕ → View → View
settled from v =
    let l = settled_lists from v.stack v.records in
    record { left = v.left; stack = l.stack; records = l.records }

-- The lowest word of the stack is that of the whole list, which no opener takes.
pub data Based : List ℕ → Type 0 where
  bottom : {w : ℕ} → w / 32768 ≡ 7 → Based (w ∷ [])
  above : {w : ℕ} {S : List ℕ} → Based S → Based (w ∷ S)
