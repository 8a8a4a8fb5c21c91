-- Numbers laid down in a buffer: by stores one after another, in front, and behind others that were; how long the buffer is after.
-- Assumes nothing.
use mathlib.Core.{Path.{◌≡◌, refl, ap, sym, ◌∙◌}, List.{List, [], ◌++◌, append_assoc}}
use Prim.Native.Nat.{ℕ, ◌+◌, ◌≤◌}
use native.Mathlib.{Nat.{add_assoc}, Omega.{arith}}
use lib.ListN.{length, take, drop, length-append, length-drop, take-append-drop}
use lib.Seq.{sets, sets-eq, drop-drop, length-take-le, take_at, drop_at, take-append-le, take-take, take-append_seam, drop-append_seam}
use borrow.Rule.Slice.PartMut.{put_mid}
use Rattle.molang.specs.Parse.{in_front}
use Rattle.words.specs.Records.{laid_at}

pub laid-sets : (ws l : List ℕ) (at : ℕ) → at + length ws ≤ length l → sets l at ws ≡ laid_at at ws l
unfolding laid_at in_front
laid-sets ws l at room = sets-eq ws l at room ∙ rw (drop-drop (length ws) at l) (append_assoc (take at l) ws (drop (at + length ws) l))

-- Words that were copied to a part of a buffer.
pub laid-part : (at k : ℕ) (ys ws l : List ℕ) → k ≡ length ws → ys ≡ ws → put_mid at k l ys ≡ laid_at at ws l
laid-part at k ys ws l long e = unfold laid_at in_front in rw (long, e) refl

-- The first words of a buffer.
pub laid-front : (ws l : List ℕ) → laid_at 0 ws l ≡ in_front ws l
laid-front ws l = unfold laid_at in refl

-- Words after others.
pub laid-after : (vs ws l : List ℕ) → laid_at (length vs) ws (in_front vs l) ≡ in_front (vs ++ ws) l
unfolding laid_at in_front
laid-after vs ws l =
    rw (
      take-append_seam vs (drop (length vs) l),
      drop-append_seam vs (drop (length vs) l),
      drop-drop (length ws)
          (length vs) l,
      length-append vs ws,
    )
    (sym (append_assoc vs ws (drop (length vs + length ws) l)))

-- Nothing is laid.
pub none-laid : (to : ℕ) (list : List ℕ) → list ≡ laid_at to [] list
none-laid to list = unfold laid_at in_front in sym (take-append-drop to list)

-- WORDS BEHIND WORDS. How far the first go.
front_length : (to : ℕ) (ws list : List ℕ) → to ≤ length list → length (take to list ++ ws) ≡ to + length ws
front_length to ws list h = length-append (take to list) ws ∙ ap (λ (n : ℕ). n + length ws) (length-take-le to list h)

-- In two parts: up to where the words end, and after.
laid_by : (to : ℕ) (ws list : List ℕ) → laid_at to ws list ≡ (take to list ++ ws) ++ drop (to + length ws) list
unfolding laid_at in_front
laid_by to ws list = rw (drop-drop (length ws) to list) (sym (append_assoc (take to list) ws (drop (to + length ws) list)))

pub laid-length : (to : ℕ) (ws list : List ℕ) → to + length ws ≤ length list → length (laid_at to ws list) ≡ length list
laid-length to ws list h =
    rw laid_by
    (length-append (take to list ++ ws) (drop (to + length ws) list)
    ∙ omega (arith, front_length to ws list (omega arith), length-drop (to + length ws) list))

pub laid-laid : (to : ℕ) (xs ys list : List ℕ) → to ≤ length list
    → laid_at (to + length xs) ys (laid_at to xs list) ≡ laid_at to (xs ++ ys) list
laid-laid to xs ys list h =
    let front = front_length to xs list h in
    let whole = laid_by to xs list in
    let before : take (to + length xs) (laid_at to xs list) ≡ take to list ++ xs =
    rw whole (take_at (take to list ++ xs) (drop (to + length xs) list) (to + length xs) front)
    in
    let behind : drop (to + length xs + length ys) (laid_at to xs list) ≡ drop (to + length (xs ++ ys)) list =
    rw (
      whole,
      ← drop-drop (length ys) (to + length xs),
      drop_at (take to list ++ xs) (drop (to + length xs) list) (to + length xs) front,
      drop-drop (length ys) (to + length xs) list,
      length-append,
      ← add_assoc,
    ) refl
    in
    let joined : (take (to + length xs) (laid_at to xs list) ++ ys) ++ drop (to + length xs + length ys) (laid_at to xs list)
    ≡ (take to list ++ (xs ++ ys)) ++ drop (to + length (xs ++ ys)) list =
    rw (before, behind, append_assoc (take to list) xs ys) refl
    in
    laid_by (to + length xs) ys (laid_at to xs list) ∙ (joined ∙ sym (laid_by to (xs ++ ys) list))

-- Words before words that were laid.
pub laid-before : (to : ℕ) (xs ys list : List ℕ) → to + length xs ≤ length list
    → laid_at to xs (laid_at (to + length xs) ys list) ≡ laid_at to (xs ++ ys) list
laid-before to xs ys list h =
    let n = to + length xs in
    let behind = drop (n + length ys) list in
    let front = length-take-le n list h in
    let whole : laid_at n ys list ≡ take n list ++ (ys ++ behind) = laid_by n ys list ∙ append_assoc (take n list) ys behind in
    let before : take to (laid_at n ys list) ≡ take to list =
    rw whole (take-append-le to (take n list) (ys ++ behind) (omega (arith, front)) ∙ take-take to n list (omega arith))
    in
    let after : drop n (laid_at n ys list) ≡ ys ++ behind = rw whole (drop_at (take n list) (ys ++ behind) n front) in
    let joined : (take to list ++ xs) ++ (ys ++ behind) ≡ (take to list ++ (xs ++ ys)) ++ drop (to + length (xs ++ ys)) list =
    rw (length-append, ← add_assoc, ← append_assoc (take to list ++ xs) ys behind, append_assoc (take to list) xs ys) refl
    in
    laid_by to xs (laid_at n ys list) ∙ (rw (before, after) joined ∙ sym (laid_by to (xs ++ ys) list))
