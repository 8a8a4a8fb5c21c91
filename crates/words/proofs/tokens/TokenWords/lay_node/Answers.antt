-- `words::tokens::TokenWords::lay_node` meets its contract: the token's words, and two stores after them. Assumes nothing.
use Prim.Native.Nat.{ℕ, ◌+◌, ◌%◌, ◌^◌}
use mathlib.Core.{Path.{ap, ◌∙◌}, List.{List, [], ◌∷◌, ◌++◌}}
use native.Mathlib.Omega.{arith}
use lib.ListN.{set, length-set}
use borrow.Author.Rules.{rules}
use Rattle.molang.specs.Words.{word}
use Rattle.words.proofs.{LaidLaws.{laid_more}}
use Rattle.words.specs.Tokens.{five_words}
use Rattle.words.proofs.tokens.TokenWords.lay_node.Goals as goal

pub returns : goal.returns
returns c =
    let start = c.before.before.before.before.before.before in
    let a = start.args in
    let k = five_words a.self in
    let n : ℕ = word 6 (a.children % 2 ^ 14) in
    rw (c.lay.ensures, c.children_word.ensures)
    (ap (λ (l : List ℕ). set l (a.at + 6) a.close) (laid_more k a.words.now a.at n (omega (arith, start.requires)))
    ∙ laid_more (k ++ (n ∷ [])) a.words.now a.at a.close (omega (arith, start.requires)))

pub bounds-words-at-2 : goal.bounds-words-at-2
bounds-words-at-2 c =
    simp length-set (search rules)
