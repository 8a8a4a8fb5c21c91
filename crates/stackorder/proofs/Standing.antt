-- Nodes in words, counted in the walk's direction: where the node of an index stands, what a turn's stores leave of the others, and that a
-- row of nodes stands in the words that it is joined to. Assumes nothing.
use Prim.Native.Nat.{ℕ, suc, ◌+◌, ◌*◌, ◌-◌, ◌≤◌, ◌<◌}
use mathlib.Core.{Path.{◌≡◌, refl, ap, sym, ◌∙◌}, Logic.{◌⊎◌, inl, inr}}
use mathlib.Core.List.{List, [], ◌∷◌, ◌++◌, append_assoc, append-nil, reverse, reverse-cons}
use native.Mathlib.{Omega.{arith}, Nat.{add-zero}, Numerals.{towards_suc}}
use lib.ListN.{length, get_or, set, take, drop, length-append, length-set, length-drop, take-append-drop}
use lib.Seq.{get_or-append-add, drop-cons, take-add, drop-drop, get_or-set_same, get_or-set_other, get_or-drop, length-take-le, ext_get_or}
use Rattle.molang.specs.Parse.{in_front}
use Rattle.words.{specs.Records.{laid_at}, specs.Tokens.{node_length}, proofs.LaidLaws.{laid-long, laid_in, laid_out}}
use Rattle.stackorder.specs.{declared.reorder.Direction.{Direction}, declared.reorder.Direction.TheVariants.{Forward, Backward}}
use Rattle.stackorder.specs.Reorder.{other_way, first_end, next_end, EndsIn, node_at}
use Rattle.stackorder.proofs.Orders.{joined, joined-append, Sevens, from_left}

-- ---- where a node begins and ends

-- Where the node of index i begins, of n nodes.
abbrev pub start_of : Direction → ℕ → ℕ → ℕ
start_of Forward n i = node_length * i
start_of Backward n i = node_length * (n - suc i)

-- Its end; of index n, one node past the last.
abbrev pub end_of : Direction → ℕ → ℕ → ℕ
end_of Forward n i = node_length * suc i
end_of Backward n i = node_length * (n - i)

-- What is left of the way from an end to one node past the last.
abbrev pub to_go : Direction → ℕ → ℕ → ℕ
to_go Forward words to = words + node_length - to
to_go Backward words to = to

pub end-start : (d : Direction) (n i : ℕ) → i < n → end_of d n i ≡ start_of d n i + node_length
end-start Forward n i h = omega arith
end-start Backward n i h = omega arith

pub end-within : (d : Direction) (n i : ℕ) → i < n → EndsIn (node_length * n) (end_of d n i)
end-within Forward n i h = (omega arith, omega arith)
end-within Backward n i h = (omega arith, omega arith)

pub end-next : (d : Direction) (n i : ℕ) → i < n → next_end d (end_of d n i) ≡ end_of d n (suc i)
end-next Forward n i h = omega arith
end-next Backward n i h = omega arith

pub end_back : (d : Direction) (n i : ℕ) → i < n → next_end (other_way d) (end_of d n (suc i)) ≡ end_of d n i
end_back Forward n i h = omega arith
end_back Backward n i h = omega arith

pub end-first : (d : Direction) (n : ℕ) → first_end d (node_length * n) ≡ end_of d n 0
end-first Forward n = refl
end-first Backward n = omega arith

pub end-last : (d : Direction) (n : ℕ) → 0 < n → first_end (other_way d) (node_length * n) ≡ end_of d n (n - 1)
end-last Forward n h = omega arith
end-last Backward n h = omega arith

pub end-past : (d : Direction) (n i : ℕ) → i ≤ n → end_of d n i ≡ end_of d n n → i ≡ n
end-past Forward n i h e = omega arith
end-past Backward n i h e = omega arith

pub end-to-go : (d : Direction) (n i : ℕ) → i ≤ n → to_go d (node_length * n) (end_of d n i) ≡ node_length * (n - i)
end-to-go Forward n i h = omega arith
end-to-go Backward n i h = omega arith

-- Nodes of two indices stand apart.
abbrev pub Apart : ℕ → ℕ → Type 0
Apart p q = (p + node_length ≤ q) ⊎ (q + node_length ≤ p)

pub start-apart : (d : Direction) (n i j : ℕ) → (i < j) ⊎ (j < i) → i < n → j < n → Apart (start_of d n i) (start_of d n j)
start-apart Forward n i j (inl h) a b = inl (omega arith)
start-apart Forward n i j (inr h) a b = inr (omega arith)
start-apart Backward n i j (inl h) a b = inr (omega arith)
start-apart Backward n i j (inr h) a b = inl (omega arith)

pub start-within : (d : Direction) (n i : ℕ) → i < n → start_of d n i + node_length ≤ node_length * n
start-within Forward n i h = omega arith
start-within Backward n i h = omega arith

-- ---- stores

-- The words of the node from p on are as they were.
abbrev pub Kept : List ℕ → List ℕ → ℕ → Type 0
Kept Z Z' p = (j : ℕ) → j < node_length → get_or Z' (p + j) 0 ≡ get_or Z (p + j) 0

pub node_kept : (Z Z' : List ℕ) (p : ℕ) → Kept Z Z' p → node_at Z' p ≡ node_at Z p
node_kept Z Z' p h =
    let first : get_or Z' p 0 ≡ get_or Z p 0 = rw add-zero at (h 0 (omega arith)) in
    rw (first, h 1 (omega arith), h 2 (omega arith), h 3 (omega arith), h 4 (omega arith), h 5 (omega arith), h 6 (omega arith)) refl

-- Words that are laid down at q.
module _ (ws Z : List ℕ) (q : ℕ) (seven : length ws ≡ node_length) (room : q + node_length ≤ length Z) where
  pub laid-length : length (laid_at q ws Z) ≡ length Z
  laid-length = laid-long ws Z q (omega arith)

  pub laid_kept : (p : ℕ) → Apart p q → Kept Z (laid_at q ws Z) p
  laid_kept p (inl a) j h = laid_out ws Z q (omega arith) (p + j) (inl (omega arith))
  laid_kept p (inr a) j h = laid_out ws Z q (omega arith) (p + j) (inr (omega arith))

  pub laid-past : (j : ℕ) → q + node_length ≤ j → get_or (laid_at q ws Z) j 0 ≡ get_or Z j 0
  laid-past j h = laid_out ws Z q (omega arith) j (inr (omega arith))

pub laid-node : (W Z : List ℕ) (p q : ℕ) → q + node_length ≤ length Z → node_at (laid_at q (node_at W p) Z) q ≡ node_at W p
laid-node W Z p q room =
    let laid_word = laid_in (node_at W p) Z q room in
    let first : get_or (laid_at q (node_at W p) Z) q 0 ≡ get_or W p 0 = rw add-zero at (laid_word 0 (omega arith)) in
    rw (
      first,
      laid_word 1 (omega arith),
      laid_word 2 (omega arith),
      laid_word 3 (omega arith),
      laid_word 4 (omega arith),
      laid_word 5 (omega arith),
      laid_word 6 (omega arith),
    ) refl

-- Two words that are stored at q.
module _ (Z : List ℕ) (q a b : ℕ) (room : q + node_length ≤ length Z) where
  abbrev Stored : List ℕ
  Stored = set (set Z q a) (q + 1) b

  pub stored-length : length Stored ≡ length Z
  stored-length = length-set (set Z q a) (q + 1) b ∙ length-set Z q a

  pub stored-first : get_or Stored q 0 ≡ a
  stored-first = get_or-set_other (set Z q a) (q + 1) q b 0 (omega arith) ∙ get_or-set_same Z q a 0 (omega arith)

  pub stored-second : get_or Stored (q + 1) 0 ≡ b
  stored-second = get_or-set_same (set Z q a) (q + 1) b 0 (omega (arith, length-set Z q a))

  stored-else : (j : ℕ) → (j < q) ⊎ (q + node_length ≤ j) → get_or Stored j 0 ≡ get_or Z j 0
  stored-else j (inl h) = get_or-set_other (set Z q a) (q + 1) j b 0 (omega arith) ∙ get_or-set_other Z q j a 0 (omega arith)
  stored-else j (inr h) = get_or-set_other (set Z q a) (q + 1) j b 0 (omega arith) ∙ get_or-set_other Z q j a 0 (omega arith)

  pub stored-kept : (p : ℕ) → Apart p q → Kept Z Stored p
  stored-kept p (inl h) j k = stored-else (p + j) (inl (omega arith))
  stored-kept p (inr h) j k = stored-else (p + j) (inr (omega arith))

  pub stored_past : (j : ℕ) → q + node_length ≤ j → get_or Stored j 0 ≡ get_or Z j 0
  stored_past j h = stored-else j (inr h)

-- ---- rows of nodes in words

-- The nodes xs stand from index i on.
abbrev pub Stands : Direction → ℕ → List ℕ → ℕ → List (List ℕ) → Type 0
Stands d n W i [] = Unit {0}
Stands d n W i (x ∷ xs) = (node_at W (start_of d n i) ≡ x) × Stands d n W (suc i) xs

pub stands-kept : (d : Direction) (n : ℕ) (Z Z' : List ℕ) (i : ℕ) (xs : List (List ℕ))
    → ((k : ℕ) → k < i + length xs → Kept Z Z' (start_of d n k)) → Stands d n Z i xs → Stands d n Z' i xs
stands-kept d n Z Z' i [] h p = tt
stands-kept d n Z Z' i (x ∷ xs) h p =
    (node_kept Z Z' (start_of d n i) (h i (omega arith)) ∙ p.0, stands-kept d n Z Z' (suc i) xs (λ k b. h k (omega arith)) p.1)

pub stands-more : (d : Direction) (n : ℕ) (Z : List ℕ) (i : ℕ) (xs : List (List ℕ)) (x : List ℕ)
    → Stands d n Z i xs → node_at Z (start_of d n (i + length xs)) ≡ x → Stands d n Z i (xs ++ x ∷ [])
stands-more d n Z i [] x p e = (rw add-zero at e, tt)
stands-more d n Z i (y ∷ xs) x p e =
    let later : i + suc (length xs) ≡ suc i + length xs = omega arith in
    (p.0, stands-more d n Z (suc i) xs x p.1 (rw later at e))

-- ---- a row in the words that it is joined to

node_in : (P x z : List ℕ) → length x ≡ node_length → node_at (P ++ (x ++ z)) (length P) ≡ x
node_in P [] z e = absurd (omega arith)
node_in P (a ∷ []) z e = absurd (omega arith)
node_in P (a ∷ b ∷ []) z e = absurd (omega arith)
node_in P (a ∷ b ∷ c ∷ []) z e = absurd (omega arith)
node_in P (a ∷ b ∷ c ∷ d ∷ []) z e = absurd (omega arith)
node_in P (a ∷ b ∷ c ∷ d ∷ f ∷ []) z e = absurd (omega arith)
node_in P (a ∷ b ∷ c ∷ d ∷ f ∷ g ∷ []) z e = absurd (omega arith)
node_in P (a ∷ b ∷ c ∷ d ∷ f ∷ g ∷ h ∷ []) z e =
    let ws = a ∷ b ∷ c ∷ d ∷ f ∷ g ∷ h ∷ z in
    let first : get_or (P ++ ws) (length P) 0 ≡ a = rw add-zero at (get_or-append-add P ws 0 0) in
    rw (
      first,
      get_or-append-add P ws 1 0,
      get_or-append-add P ws 2 0,
      get_or-append-add P ws 3 0,
      get_or-append-add P ws 4 0,
      get_or-append-add P ws 5 0,
      get_or-append-add P ws 6 0,
    ) refl
node_in P (a ∷ b ∷ c ∷ d ∷ f ∷ g ∷ h ∷ i ∷ x) z e = absurd (omega arith)

forward-in : (n : ℕ) (W P : List ℕ) (i : ℕ) (xs : List (List ℕ)) (z : List ℕ) → W ≡ P ++ (joined xs ++ z) → length P ≡ node_length * i
    → Sevens xs → Stands Forward n W i xs
forward-in n W P i [] z e l s = tt
forward-in n W P i (x ∷ xs) z e l s =
    let here : W ≡ P ++ (x ++ (joined xs ++ z)) = e ∙ ap (λ (ws : List ℕ). P ++ ws) (append_assoc x (joined xs) z) in (
      rw (here, ← l) (node_in P x (joined xs ++ z) s.0),
      forward-in n W (P ++ x) (suc i) xs z (here ∙ sym (append_assoc P x (joined xs ++ z))) (length-append P x ∙ omega (arith, s.0))
          s.1,
    )

-- The same from the right.
reversed-joined : (x : List ℕ) (xs : List (List ℕ)) → joined (reverse (x ∷ xs)) ≡ joined (reverse xs) ++ x
reversed-joined x xs =
    rw (reverse-cons x xs, joined-append (reverse xs) (x ∷ [])) (ap (λ (ws : List ℕ). joined (reverse xs) ++ ws) (append-nil x))

reversed-length : (xs : List (List ℕ)) → Sevens xs → length (joined (reverse xs)) ≡ node_length * length xs
reversed-length [] s = refl
reversed-length (x ∷ xs) s =
    ap length (reversed-joined x xs) ∙ (length-append (joined (reverse xs)) x ∙ omega (arith, s.0, reversed-length xs s.1))

backward-in : (n : ℕ) (W : List ℕ) (i : ℕ) (xs : List (List ℕ)) (z : List ℕ) → W ≡ joined (reverse xs) ++ z → i + length xs ≡ n
    → Sevens xs → Stands Backward n W i xs
backward-in n W i [] z e l s = tt
backward-in n W i (x ∷ xs) z e l s =
    let P = joined (reverse xs) in
    let here : W ≡ P ++ (x ++ z) = e ∙ (ap (λ (ws : List ℕ). ws ++ z) (reversed-joined x xs) ∙ append_assoc P x z) in
    let index : node_length * (n - suc i) ≡ length P = omega (arith, reversed-length xs s.1) in
    (rw (index, here) (node_in P x z s.0), backward-in n W (suc i) xs (x ++ z) here (omega arith) s.1)

-- A row stands in its words.
pub stands-in : (d : Direction) (n : ℕ) (W : List ℕ) (xs : List (List ℕ)) → W ≡ joined (from_left d xs) → length xs ≡ n → Sevens xs
    → Stands d n W 0 xs
stands-in Forward n W xs e l s = forward-in n W [] 0 xs [] (e ∙ sym (append-nil (joined xs))) refl s
stands-in Backward n W xs e l s = backward-in n W 0 xs [] (e ∙ sym (append-nil (joined (reverse xs)))) (omega arith) s

-- ---- the words in which a row stands

node-words : (Z : List ℕ) (p : ℕ) → p + node_length ≤ length Z → take node_length (drop p Z) ≡ node_at Z p
node-words Z p h =
    simp towards_suc
    (rw (
      drop-cons Z p 0 (omega arith),
      drop-cons Z (suc p) 0 (omega arith),
      drop-cons Z (suc (suc p)) 0 (omega arith),
      drop-cons Z (suc (suc (suc p))) 0 (omega arith),
      drop-cons Z (suc (suc (suc (suc p)))) 0 (omega arith),
      drop-cons Z (suc (suc (suc (suc (suc p))))) 0 (omega arith),
      drop-cons Z (suc (suc (suc (suc (suc (suc p)))))) 0 (omega arith),
    ) refl)

forward-out : (n : ℕ) (Z : List ℕ) (i : ℕ) (xs : List (List ℕ)) → Stands Forward n Z i xs → node_length * (i + length xs) ≤ length Z
    → take (node_length * length xs) (drop (node_length * i) Z) ≡ joined xs
forward-out n Z i [] p h = refl
forward-out n Z i (x ∷ xs) p h =
    let more : node_length * suc (length xs) ≡ node_length + node_length * length xs = omega arith in
    let next : node_length * i + node_length ≡ node_length * suc i = omega arith in
    let here : take node_length (drop (node_length * i) Z) ≡ x = node-words Z (node_length * i) (omega arith) ∙ p.0 in
    rw (more, take-add node_length (node_length * length xs) (drop (node_length * i) Z), drop-drop node_length (node_length * i) Z, next)
    (rw (here, forward-out n Z (suc i) xs p.1 (omega arith)) refl)

backward-out : (n : ℕ) (Z : List ℕ) (i : ℕ) (xs : List (List ℕ)) → Stands Backward n Z i xs → i + length xs ≡ n → node_length * n ≤ length Z
    → take (node_length * length xs) Z ≡ joined (reverse xs)
backward-out n Z i [] p l h = refl
backward-out n Z i (x ∷ xs) p l h =
    let more : node_length * suc (length xs) ≡ node_length * length xs + node_length = omega arith in
    let index : node_length * (n - suc i) ≡ node_length * length xs = omega arith in
    let here : take node_length (drop (node_length * length xs) Z) ≡ x = node-words Z (node_length * length xs) (omega arith)
    ∙ (rw index at p.0) in
    rw (more, take-add (node_length * length xs) node_length Z, reversed-joined x xs)
    (rw (here, backward-out n Z (suc i) xs p.1 (omega arith) h) refl)

pub stands-out : (d : Direction) (n : ℕ) (Z : List ℕ) (xs : List (List ℕ)) → Stands d n Z 0 xs → length xs ≡ n → node_length * n ≤ length Z
    → take (node_length * n) Z ≡ joined (from_left d xs)
stands-out Forward n Z xs p l h = rw (← l) (forward-out n Z 0 xs p (omega arith))
stands-out Backward n Z xs p l h = rw (← l) (backward-out n Z 0 xs p (omega arith) h)

-- Words with a row in front and another list's words after it.
pub front_of : (Z O ws : List ℕ) (m : ℕ) → take m Z ≡ ws → m ≤ length Z → length Z ≡ length O
    → ((j : ℕ) → m ≤ j → get_or Z j 0 ≡ get_or O j 0) → Z ≡ in_front ws O
unfolding in_front
front_of Z O ws m e h l same =
    let all : length ws ≡ m = ap length (sym e) ∙ length-take-le m Z h in
    let behind : drop m Z ≡ drop m O =
    ext_get_or 0 (drop m Z) (drop m O) (omega (arith, length-drop m Z, length-drop m O))
    (λ j b. rw (get_or-drop m Z j 0, get_or-drop m O j 0) (same (m + j) (omega arith)))
    in
    sym (take-append-drop m Z) ∙ rw (all, e, behind) refl
