-- `accept::lengths` meets its contract: the rows in the table's order. Assumes nothing.
use Prim.Native.Nat.{ℕ, ◌+◌, ◌*◌, ◌/◌, ◌%◌}
use native.Mathlib.Omega.{arith}
use lib.ListN.{length, length-replicate}
use borrow.Author.{Tests.{eq-eqb, ne_eqb, le-leb, lt-leb}}
use Rattle.molang.specs.{FirstFailure.{must, first_of}, Parse.{most_tokens, length_rows}}
use Rattle.accept.proofs.lengths.Goals as goal

pub returns-then-words-ne0 : goal.returns-then-words-ne0
returns-then-words-ne0 c = unfold length_rows first_of must in rw (c.at.ensures, ne_eqb (length c.args.list.now % 5) 0 (λ e. omega arith))

pub returns-then-n-gt-MOST_TOKENS : goal.returns-then-n-gt-MOST_TOKENS
unfolding length_rows first_of must
returns-then-n-gt-MOST_TOKENS c =
    let words = length c.args.list.now in
    rw (c.at-then-n-gt-MOST_TOKENS.ensures, eq-eqb (words % 5) 0 (omega arith), lt-leb (words / 5) most_tokens (omega arith))

pub returns-then-sizes-n : goal.returns-then-sizes-n
unfolding length_rows first_of must
returns-then-sizes-n c =
    let a = c.args in
    let words = length a.list.now in
    rw (
      c.at-then-sizes-n.ensures,
      eq-eqb (words % 5) 0 (omega arith),
      le-leb (words / 5) most_tokens (omega arith),
      length-replicate {A = ℕ} a.sizes.tree 0,
      lt-leb (21 * (words / 5)) a.sizes.tree (omega arith),
    )

pub returns-then-sizes : goal.returns-then-sizes
unfolding length_rows first_of must
returns-then-sizes c =
    let a = c.args in
    let words = length a.list.now in
    rw (
      c.at-then-sizes.ensures,
      eq-eqb (words % 5) 0 (omega arith),
      le-leb (words / 5) most_tokens (omega arith),
      length-replicate {A = ℕ} a.sizes.tree 0,
      le-leb (21 * (words / 5)) a.sizes.tree (omega arith),
      length-replicate {A = ℕ} a.sizes.messages 0,
      lt-leb 16 a.sizes.messages (omega arith),
    )

pub returns-then-sizes-n-2 : goal.returns-then-sizes-n-2
unfolding length_rows first_of must
returns-then-sizes-n-2 c =
    let a = c.args in
    let words = length a.list.now in
    rw (
      c.at-then-sizes-n-2.ensures,
      eq-eqb (words % 5) 0 (omega arith),
      le-leb (words / 5) most_tokens (omega arith),
      length-replicate {A = ℕ} a.sizes.tree 0,
      le-leb (21 * (words / 5)) a.sizes.tree (omega arith),
      length-replicate {A = ℕ} a.sizes.messages 0,
      le-leb 16 a.sizes.messages (omega arith),
      length-replicate {A = ℕ} a.sizes.work 0,
      lt-leb (64 * (words / 5) + 64) a.sizes.work (omega arith),
    )

pub returns : goal.returns
unfolding length_rows first_of must
returns c =
    let a = c.args in
    let words = length a.list.now in
    rw (
      eq-eqb (words % 5) 0 (omega arith),
      le-leb (words / 5) most_tokens (omega arith),
      length-replicate {A = ℕ} a.sizes.tree 0,
      le-leb (21 * (words / 5)) a.sizes.tree (omega arith),
      length-replicate {A = ℕ} a.sizes.messages 0,
      le-leb 16 a.sizes.messages (omega arith),
      length-replicate {A = ℕ} a.sizes.work 0,
      le-leb (64 * (words / 5) + 64) a.sizes.work (omega arith),
    )
