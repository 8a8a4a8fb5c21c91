-- The whole of a run: what comes chunk by chunk is the input behind its front, and what is printed of the front over zeros is what is
-- printed for the input. Assumes nothing.
use Prim.Native.Nat.{ℕ, ◌+◌, ◌≤◌}
use mathlib.Core.{Path.{◌≡◌, sym, ◌∙◌}, List.{List, ◌++◌}}
use native.Mathlib.Omega.{arith}
use lib.{ListN.{length, take, replicate, length-append}, Seq.{take_all, take_at, length-take-le}}
use Rattle.words.specs.Records.{laid_at}
use Rattle.listing.proofs.ByteLaws.{front-over-zeros}
use Rattle.treelist.specs.{Listing.{printed}, Input.{RestRead, Came, printed_for}}

-- ONE CHUNK MORE
pub rest-on : (space space' : List ℕ) (last last' bytes bytes' : ℕ) → RestRead space last bytes → bytes' ≤ 72057594037927936
    → last' ≤ length space'
    → bytes' ≡ bytes + last'
    → RestRead space' last' bytes'
rest-on space space' last last' bytes bytes' q room few e =
    let came = q.before ++ take last space in
    record {
      before = came;
      size = omega (arith, q.size, length-append came (take last' space'), length-take-le last' space' few);
      room = room;
    }

-- An input that ended within the front, and one that went on behind it.
pub short-input : (front : List ℕ) (n : ℕ) → length front ≡ 2564 → n ≤ length front → Came (take n front) n
short-input front n size few =
    let long = length-take-le n front few in
    record { input = take n front; first = take_all 2564 (take n front) (omega arith); size = long }

pub long-input : (front space : List ℕ) (last bytes : ℕ) → length front ≡ 2564 → RestRead space last bytes → Came front (2564 + bytes)
long-input front space last bytes size q =
    let came = q.before ++ take last space in
    record { input = front ++ came; first = take_at front came 2564 size; size = omega (arith, length-append front came, q.size) }

-- WHAT IS PRINTED of what came.
pub front-prints : (front whole : List ℕ) (bytes : ℕ) (q : Came front bytes) → whole ≡ laid_at 0 front (replicate 2564 0)
    → printed bytes whole ≡ printed_for q.input
unfolding printed_for
front-prints front whole bytes q laid i =
    printed (sym q.size i) ((laid ∙ front-over-zeros 2564 q.input front q.first) i)
