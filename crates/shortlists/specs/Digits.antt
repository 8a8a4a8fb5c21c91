-- What the code asks and finds on its way to the list at a position: how many lists there are, and where it stands among those of its
-- length.
use Rattle.std.specs.Prelude.{ℕ, ◌+◌, ◌^◌, ◌≤◌, ◌<◌, ◌≡◌, true, List, length}
use Rattle.shortlists.specs.declared.digits.Standing.{Standing}
use Rattle.shortlists.specs.ShortLists.{up_to, powers, is_alphabet}

-- So few letters, and so short lists, that their number fits.
pub record CanCount (k n : ℕ) : Type 0 where
  pub few : k ≤ 8
  pub short : n ≤ 6

-- There is a list of at most six of k letters at the position.
pub record CanFind (k position : ℕ) : Type 0 where
  pub some : 1 ≤ k
  pub few : k ≤ 8
  pub below : position < powers k 7

-- THE LENGTH of that list: the position is behind all shorter lists and, of those of its length, behind so many.
pub record Found (k position : ℕ) (s : Standing) : Type 0 where
  pub short : s.length ≤ 6
  pub size : s.size ≡ k ^ s.length
  pub left : s.left < s.size
  pub whole : position ≡ powers k s.length + s.left

-- There is a list of at most six letters of the alphabet at the position.
pub record CanList (letters : List ℕ) (position : ℕ) : Type 0 where
  pub alphabet : is_alphabet letters ≡ true
  pub below : position < length (up_to letters 6)
