-- `liftcount::feed::feed_words` meets its contract: whole words, one after the other. Assumes nothing.
use Prim.Native.Nat.{ℕ}
use mathlib.Core.{Path.{◌≡◌, refl, ap, sym, ◌∙◌}}
use native.Mathlib.Omega.{arith}
use borrow.Author.Rules.{rules}
use lib.ListN.{length, length-append}
use Rattle.liftcount.specs.{Running.{State, state_of, word_taken, fed}, Steps.{after_word}}
use Rattle.liftcount.proofs.FeedLaws.{word_on, none-left}
use Rattle.liftcount.proofs.feed.feed_words.Goals as goal

pub loop-word-init : goal.loop-word-init
loop-word-init c =
    let items = c.chunks_exact-word-items.ensures in
    rw (c.into_iter-word-iterator.ensures.into_iter_gives, items.rest) (items.size, c.requires.held_value.1, c.requires.held_value.0, search rules, refl)

pub loop-word-preserved : goal.loop-word-preserved
loop-word-preserved c =
    let at = c.loop-word in
    let x = c.in-Some.word.now in
    let later = c.next.new.self.rest.now in
    let s = c.in-Some.ensures.steps in
    let next = s.1 in
    let four : length x ≡ 4 = next.1 ∙ at.invariant.0 in
    let whole =
    c.take_word-then.ensures
    ∙ ap (λ (w : ℕ). after_word (word_taken (state_of at.then at.list).progress.stage at.then.counts at.list w)) c.word_of-w.ensures
    in (
      s.0 ∙ at.invariant.0,
      omega (arith, at.invariant.1, four, ap length next.0, length-append x later),
      ap (λ (s : State). s.held) whole,
      omega (arith, ap (λ (s : State). s.partial) whole),
      ap (λ (s : State). fed s later) whole
          ∙ sym (word_on (state_of at.then at.list) x later at.invariant.2 at.invariant.3 four)
          ∙ ap (fed (state_of at.then at.list)) (sym next.0)
          ∙ at.invariant.4,
    )

pub returns : goal.returns
returns c =
    let at = c.loop-word in
    let short = c.in-None.ensures.steps.1.0 in
    sym (none-left (state_of at.then at.list) at.word-iterator.rest.now at.invariant.1 (omega (arith, short, at.invariant.0))) ∙ at.invariant.4
