-- The seven words of a node: that they stand where `emit_node` laid them, and that they are the definition's, by its token and its child
-- count.
use Prim.Native.Nat.{ℕ, ◌%◌, ◌^◌, ◌<◌}
use mathlib.Core.{Path.{◌≡◌, refl}, List.{List}}
use native.Mathlib.Omega.{arith}
use lib.ListN.{length}
use Rattle.molang.specs.{Forest.{Token}, Words.{token_words, node_words_of}}
use Rattle.words.{specs.Records.{laid_at}, specs.Tokens.{node_length, node_words}, proofs.LaidLaws.{laid-long, laid_in, laid_out}}
use Rattle.nodes.specs.{Store.{slot_start, close_word_at, first_at, TokenAt, Seg}, Stored.{stored_at, token_of_stored}, Children.{Counted}}
use Rattle.nodes.proofs.Tokens.{operator-word, start_word, end-word, value-word, close-word}
use Rattle.buffers.specs.Emit.{CanEmitNode, NodeEmitted}
use Rattle.buffers.proofs.Runs.{seg-of-words}

pub node-emitted : (W W' : List ℕ) (s at n : ℕ) → CanEmitNode W s at → Counted W (first_at W s) n
    → W' ≡ laid_at at (node_words (token_of_stored (stored_at W (slot_start s))) n (close_word_at W s)) W → NodeEmitted W s at W'
node-emitted W W' s at n p counted e =
    let ws = node_words (token_of_stored (stored_at W (slot_start s))) n (close_word_at W s) in
    let here : Seg W' at ws = rw e (seg-of-words (laid_at at ws W) at ws (laid_in ws W at p.room)) in
    record {
      words = λ cs ch. rw (counted.count cs ch) at here;
      same = rw e (laid_out ws W at p.room);
      long = rw e (laid-long ws W at p.room);
    }

-- For a slot that holds the token k they are the definition's.
pub node-words : (W : List ℕ) (s : ℕ) (k : Token) (n : ℕ) → TokenAt W s k → n < 2 ^ 14
    → node_words (token_of_stored (stored_at W (slot_start s))) n (close_word_at W s) ≡ node_words_of k n
unfolding node_words_of token_words
node-words W s k n t few =
    let small : n % 2 ^ 14 ≡ n = omega arith in
    rw (operator-word t, start_word t, end-word t, value-word t, close-word t, small) refl

pub node-long : (k : Token) (n : ℕ) → length (node_words_of k n) ≡ node_length
node-long k n = unfold node_words_of token_words in refl
