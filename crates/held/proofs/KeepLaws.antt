-- Where the entry turned a call back, by what it told of it; and the words of a list that is kept. Assumes nothing.
use Prim.Native.Nat.{ℕ}
use mathlib.Core.{Path.{◌≡◌, refl, ap, sym, ◌∙◌}, List.{List}, Option.{Option, none, some}}
use lib.ListN.{length, take}
use Rattle.std.specs.Prelude.{Ok}
use Rattle.molang.specs.{Words.{Refusal, row}, Read.{Answer, tree, messages}}
use Rattle.molang.specs.Parse.{refused, told, in_front}
use Rattle.molang.proofs.HandedTree.{front-words}
use Rattle.parse.specs.{declared.Answer.{Answer as Answered}, declared.Answer.TheVariants.{Tree, Messages}, Answers.{told_of}}

-- A tree or messages are told of the calls that are not turned back, and of no others.
pub told-accepted : (o : Option Refusal) (a : Answer) (answer : Answered) → told_of (Ok answer) ≡ told o a → o ≡ none
unfolding told
told-accepted none a answer e = refl
told-accepted (some r) a (Tree nodes) e = cc
told-accepted (some r) a (Messages records) e = cc

pub told-refused : (o : Option Refusal) (a : Answer) {number place : ℕ} → refused number place ≡ told o a → o ≡ some (row number place)
unfolding told
told-refused none (tree k cs) e = cc
told-refused none (messages ms) e = cc
told-refused (some r) a {number} {place} e =
    let p : r.number ≡ number = cc in let q : r.place ≡ place = cc in (λ i. some (row (p i) (q i)))

-- The front of an array, put over the front of the slice.
pub kept-front : (list new slice : List ℕ) {new' : List ℕ} {kept : ℕ} → kept ≡ length list → new' ≡ in_front list new
    → in_front (take kept new') slice ≡ in_front list slice
kept-front list new slice {new'} {kept} k e =
    ap (λ (l : List ℕ). in_front l slice) (ap (take kept) e ∙ front-words list new kept (sym k))
