-- What `push` and `pop` ask and ensure: the six words of a frame right above its list.
use Rattle.std.specs.Prelude.{ℕ, ◌+◌, ◌-◌, ◌^◌, ◌≤◌, ◌<◌, ◌≡◌, ◌⊎◌, List, length}
use Rattle.nodes.specs.Store.{wd}
use Rattle.nodes.specs.declared.frames.List.{List as WorkList}
use Rattle.nodes.specs.declared.frames.Held.{Held}

-- The list l ends at the word `top`, and its frame, with what a pass held of it, stands in the six words from there on.
pub record FrameAt (W : List ℕ) (top : ℕ) (l : WorkList) (h : Held) : Type 0 where
  pub above : l.base + l.len ≡ top
  pub owner-word : wd W top ≡ l.owner
  pub base_word : wd W (top + 1) ≡ l.base
  pub read_word : wd W (top + 2) ≡ l.read
  pub write_word : wd W (top + 3) ≡ l.write
  pub first-word : wd W (top + 4) ≡ h.first
  pub second_word : wd W (top + 5) ≡ h.second

-- Six words are free above the list, and its numbers fit a word.
pub record CanPush (W : List ℕ) (l : WorkList) : Type 0 where
  pub room : l.base + l.len + 6 ≤ length W
  pub small : length W < 2 ^ 32
  pub read : l.read ≤ l.len
  pub write : l.write ≤ l.len

-- The frame stands above its list, `after` is the word past it, and all else is as it was.
pub record Pushed (W : List ℕ) (l : WorkList) (h : Held) (after : ℕ) (W' : List ℕ) : Type 0 where
  pub past : after ≡ l.base + l.len + 6
  pub frame : FrameAt W' (l.base + l.len) l h
  pub same : (j : ℕ) → (j < l.base + l.len) ⊎ (l.base + l.len + 6 ≤ j) → wd W' j ≡ wd W j
  pub long : length W' ≡ length W

-- A frame ends right below `top`, and its list starts below the frame.
pub record CanPop (W : List ℕ) (top : ℕ) : Type 0 where
  pub six : 6 ≤ top
  pub within : top ≤ length W
  pub base : wd W (top - 5) ≤ top - 6
