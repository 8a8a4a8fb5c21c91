-- What `scan` found is a text of the list: the theorem of the walk, put together with the places of its records.
use Prim.Native.Nat.{ℕ, zero, suc, ◌*◌, ◌≤◌, ◌<◌}
use native.Mathlib.Omega.{arith}
use mathlib.Core.{Path.{◌≡◌, refl, ap, sym, subst, ◌∙◌}, Bool.{Bool, true, false, ◌||◌}, List.{List}}
use lib.{IntN.{ℤ}, ListN.{length, drop}}
use Rattle.molang.specs.{Operator.{any, is_operator}, Forest.{Token}, Order.{rules}, Words.{tokens_of, list_words}, Parse.{in_halves}}
use Rattle.molang.proofs.{Words.{LegalTokens, no_tokens, token, words_back}, ListWords.{list_words-length}}
use Rattle.ops.specs.declared.sets.OpSet.{OpSet}
use Rattle.std.specs.Prelude.{Option, Some}
use Rattle.scan.specs.Entries.{nth, entries_of}
use Rattle.scan.specs.{Tables.{table_of}, Views.{View}}
use Rattle.scan.specs.{Turns.{Walking, Turning, want, done, gives_up, turned_once, want_turn, Walks, stays, goes, start}, States.{given}}
use Rattle.scan.specs.{Scanning.{Scans, found, HasScanned}, Walk.{CanWalk}}
use Rattle.scan.proofs.{Placing.{all_placed, AllPlaced, Stands}, Walked.{walk-text}, WalkLaws.{Found}}

-- Every token of a list without fault is an operator's.
legal-op : {ks : List Token} → LegalTokens ks → (i : ℕ) → i < length ks → is_operator (nth ks i).op ≡ true
unfolding nth
legal-op no_tokens i l = absurd (omega (arith, l))
legal-op (token h hs) zero l = h.op
legal-op (token h hs) (suc i) l = legal-op hs i (omega (arith, l))

first-false : (a b : Bool) → (a || b) ≡ false → a ≡ false
first-false true b e = e
first-false false b e = refl

second-false : (a b : Bool) → (a || b) ≡ false → b ≡ false
second-false true b e = absurd (omega (arith, no e))
  where
    no : true ≡ false → ◌≡◌ {A = ℕ} 0 1
    no e = cc
second-false false b e = e

-- A walk of no token gives up.
data Still : Turning → Type 0 where
  unread : Still (want (start 0))
  stopped : Still gives_up

still : (g : Walking) {b : Turning} → Walks g (want (start 0)) b → Still b
still g stays = unread
still g (goes w) = next (still g w)
  where
    next : {b : Turning} → Still b → Still (turned_once g b)
    next unread = unfold turned_once want_turn start in stopped
    next stopped = unfold turned_once in stopped

some-token : (g : Walking) (l : ℕ) {v : View} → Walks g (want (start l)) (done v) → 0 < l
some-token g zero w = absurd (no (still g w))
  where
    no : {v : View} → Still (done v) → ⊥
    no = elim [ ]
some-token g (suc l) w = omega arith

module _ {list W tree : List ℕ} {n : ℕ} (can : CanWalk list W tree n) where
  module _ (used : OpSet) (version : ℤ) where
    back : (list_words (tokens_of list) ≡ list) × LegalTokens (tokens_of list)
    back = let t = can.tokens in words_back 0 0 list can.faultless (omega (arith, t))

    many : length list ≡ 5 * length (tokens_of list)
    many = ap (λ (l : List ℕ). length l) (sym back.0) ∙ list_words-length (tokens_of list)

    pub found-text : {W' : List ℕ} {from : ℕ} → Scans list used version W' (Some from)
        → Found list (in_halves used.low used.high) version (drop from W')
    unfolding any
    found-text {W'} {from} (found e s) =
        let g = given list (table_of (rules version)) used in
        let u = in_halves used.low used.high in
        let m = many in
        let t = can.tokens in
        let f = can.few in
        let w =
        walk-text version g
        (record {
          table = refl;
          legal = legal-op back.1;
          short = omega (arith, m, t, f);
          unassigned = first-false (u 71) _ s;
          unsplit = first-false (u 73) _ (second-false (u 71) _ s);
        }) e.view (subst (λ (l : ℕ). Walks g (want (start l)) (done e.view)) m e.walks)
        in
        record {
          text = w.text;
          formed = w.formed;
          spelled = w.same;
          serves = w.serves;
          entries = ap (entries_of (tokens_of list)) e.records ∙ w.nodes;
          placed = subst (AllPlaced (Stands (length list))) (sym e.records) (all_placed g (length list) (omega (arith, t, f))
              (some-token g (length list) e.walks) e.view (omega (arith, t)) e.walks);
        }

    ended : {W' : List ℕ} {from : ℕ} → Scans list used version W' (Some from) → from ≤ length W'
    ended (found e s) = e.within

    -- What `walk` needs to emit the records.
    pub scanned : (z : ℤ) → z ≡ version → {W' : List ℕ} {r : Option ℕ} {from : ℕ} → HasScanned list used z W W' r → r ≡ Some from
        → Found list (in_halves used.low used.high) version (drop from W') × (from ≤ length W') × (length W' ≡ length W)
    scanned z v {W'} {r} h e =
        let s = subst (λ (x : Option ℕ). Scans list used version W' x) e (subst (λ (y : ℤ). Scans list used y W' r) v h.scans) in
        (found-text s, ended s, h.long)
