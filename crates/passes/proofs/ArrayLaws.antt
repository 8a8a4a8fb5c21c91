-- The array pass as laws: what it makes of a name, of its next index and of a bare name at the end of an array's contents.
use mathlib.Core.{Path.{◌≡◌, refl, sym, ap, ◌∙◌}, Bool.{Bool, true, false, true≢false}, List.{List, [], ◌∷◌}}
use Rattle.molang.{specs.Operator.{array}, specs.Forest.{Token, Forest, nil, node, renamed}}
use Rattle.molang.{specs.Message.{Message, empty_array_index, Result, ok, fail}, specs.Level.{on, into, stop, walk}}
use Rattle.molang.specs.Calls.{Indexing, unindexed, named, indexed, flushed, is_index, starts_with_index, empty_index, next_index, index}
use Rattle.molang.{specs.Calls.{array_step, array_finish, array_level}, specs.Free.{is_nil, is_array_name}}
use Rattle.molang.{specs.Work.{arrays, work, in_reading, takes, and_then}, proofs.Walks.{onward, back, walk-onward}}

-- ---- one step of the walk

module _ (s : Indexing) (k : Token) (cs rest : Forest) where
  walk_step : work arrays s (node k cs rest) ≡ onward array_level k cs rest (array_step s k cs)
  walk_step = unfold work array_level in walk-onward array_level s k cs rest

  pub array-on : (t : Indexing) → array_step s k cs ≡ on t → work arrays s (node k cs rest) ≡ work arrays t rest
  array-on t e = unfold onward work in walk_step ∙ ap (onward array_level k cs rest) e

  pub array-stop : (m : List Message) → array_step s k cs ≡ stop m → work arrays s (node k cs rest) ≡ fail m
  array-stop m e = unfold onward in walk_step ∙ ap (onward array_level k cs rest) e

  back-then : (t : Indexing) (x : Result) → back array_level t k rest x ≡ and_then x (λ kids. work arrays (takes arrays t k kids) rest)
  unfolding back and_then work takes
  back-then t (ok kids) = refl
  back-then t (fail m) = refl

  -- the children begin in the state u
  pub array-in : (t u : Indexing) → array_step s k cs ≡ into t u
      → work arrays s (node k cs rest) ≡ and_then (work arrays u (in_reading arrays cs)) (λ kids. work arrays (takes arrays t k kids) rest)
  array-in t u e = unfold onward in_reading work in walk_step ∙ ap (onward array_level k cs rest) e ∙ back-then t (walk array_level u cs)

-- ---- a name or an array that no index follows

flush-step : (s : Indexing) (k : Token) (cs : Forest) → is_index k ≡ false → array_step s k cs ≡ array_step (unindexed (flushed s)) k cs
unfolding array_step flushed
flush-step s k nil e = rw (e, array_step) refl
flush-step s k (node c cs r) e = rw (e, array_step) refl

-- a name or an array that no index follows is done
pub flush : (s : Indexing) (rest : Forest) → starts_with_index rest ≡ false → work arrays s rest ≡ work arrays (unindexed (flushed s)) rest
unfolding starts_with_index work walk array_level array_finish flushed
flush s nil e = refl
flush s (node k cs rest) e =
    walk_step s k cs rest ∙ ap (onward array_level k cs rest) (flush-step s k cs e) ∙ sym (walk_step (unindexed (flushed s)) k cs rest)

-- ---- a name, and an array's next index

name-leaf : (i : Bool) (d : Forest) (k : Token) → is_index k ≡ i → is_array_name k.op ≡ true → is_index k ≡ false
    → array_step (unindexed d) k nil ≡ on (named d k)
name-leaf i d k e h n = unfold array_step flushed is_array_name in rw (n, array_step) (rw h refl)

-- a name waits for its index
pub name-waits : (d : Forest) (k : Token) → is_array_name k.op ≡ true → is_index k ≡ false → array_step (unindexed d) k nil ≡ on (named d k)
name-waits d k h n = name-leaf (is_index k) d k refl h n

module _ (d : Forest) (q k : Token) (e : is_index k ≡ true) where
  -- an empty index is an error, of the name as an array and of an array
  pub named-empty : array_step (named d q) k nil ≡ stop (empty_array_index (renamed array q) k ∷ [])
  named-empty = unfold array_step empty_index in rw (e, array_step) refl

  pub indexed-empty : (contents : Forest) → array_step (indexed d q contents) k nil ≡ stop (empty_array_index q k ∷ [])
  indexed-empty contents = unfold array_step empty_index in rw (e, array_step) refl

  -- the first index
  pub named_in : (cs : Forest) → is_nil cs ≡ false → array_step (named d q) k cs ≡ into (indexed d (renamed array q) nil) (unindexed nil)
  unfolding array_step index is_nil
  named_in nil n = absurd (true≢false n)
  named_in (node c cs r) n = rw (e, array_step) refl

  -- a further index: one that completes no name, and one that completes the last of the contents, a bare name
  pub indexed-in : (contents cs : Forest) → is_nil cs ≡ false → next_index d q contents cs ≡ into (indexed d q contents) (unindexed nil)
      → array_step (indexed d q contents) k cs ≡ into (indexed d q contents) (unindexed nil)
  unfolding array_step index is_nil
  indexed-in contents nil n h = absurd (true≢false n)
  indexed-in contents (node c cs r) n h = rw (e, array_step) h

  pub indexed-lends : (l : Token) (contents cs : Forest) → is_nil cs ≡ false → is_array_name l.op ≡ true → starts_with_index cs ≡ true
      → array_step (indexed d q (node l nil contents)) k cs ≡ into (indexed d q contents) (named nil l)
  unfolding array_step index next_index is_nil is_array_name
  indexed-lends l contents nil n h i = absurd (true≢false n)
  indexed-lends l contents (node c cs r) n h i = rw (e, array_step) (rw (h, next_index) (rw (i, next_index) refl))

-- a name that is lent to a list that begins with its index gives the same as the array of that name without contents
pub lent-indexed : (d : Forest) (l : Token) (f : Forest) → starts_with_index f ≡ true
    → work arrays (named d l) f ≡ work arrays (indexed d (renamed array l) nil) f
unfolding starts_with_index next_index is_nil
lent-indexed d l nil e = absurd (true≢false (sym e))
lent-indexed d l (node k nil rest) e =
    array-stop (named d l) k nil rest _ (named-empty d l k e)
    ∙ sym (array-stop (indexed d (renamed array l) nil) k nil rest _ (indexed-empty d (renamed array l) k e nil))
lent-indexed d l (node k (node c cs r) rest) e =
    array-in (named d l) k (node c cs r) rest _ _ (named_in d l k e (node c cs r) refl)
    ∙ sym
    (array-in (indexed d (renamed array l) nil) k (node c cs r) rest _ _ (indexed-in d (renamed array l) k e nil (node c cs r) refl refl))
