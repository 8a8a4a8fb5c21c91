-- How far an input has been read: the bytes that came, in so many turns, and where they lead.
use Prim.Native.Nat.{ℕ, ◌+◌, ◌*◌, ◌≤◌}
use mathlib.Core.{Path.{◌≡◌, ap, sym, ◌∙◌}, List.{List, ◌++◌}}
use native.Mathlib.Omega.{arith}
use lib.{ListN.{length, take, length-append}, Seq.{length-take-le}}
use Rattle.std.specs.{Prelude.{Option}, Io.KnownBytes.{Consumes}}
use Rattle.liftcount.specs.Running.{State, fed, started}
use Rattle.liftcount.proofs.ByteLaws.{fed-append}

-- The bytes that came in so many turns.
pub record Sofar (list : List ℕ) (turns : ℕ) (s : State) : Type 0 where
  pub came : List ℕ
  pub few : length came ≤ 65536 * turns
  pub is : s ≡ fed (started list) came

-- They are what was taken from the reader.
pub record Taking (old new : Option (List ℕ)) (list : List ℕ) (turns : ℕ) (s : State) : Type 0 where
  pub so_far : Sofar list turns s
  pub taken : Consumes old new so_far.came

-- The chunk that was read leads on from where the bytes before it led.
pub on : (list : List ℕ) (turns : ℕ) (s s' : State) (q : Sofar list turns s) (chunk : List ℕ) → s' ≡ fed s chunk
    → s' ≡ fed (started list) (q.came ++ chunk)
on list turns s s' q chunk led =
    led ∙ ap (λ (s : State). fed s chunk) q.is ∙ sym (fed-append (started list) q.came chunk)

-- It has no more bytes than the space.
pub longer : (came space : List ℕ) (last : ℕ) → last ≤ length space → length space ≡ 65536
    → length (came ++ take last space) ≤ length came + 65536
longer came space last within size = omega (arith, length-append came (take last space), length-take-le last space within, within, size)
