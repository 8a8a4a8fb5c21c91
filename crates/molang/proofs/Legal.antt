-- A legal list gives a legal tree, which is read back from its words: what stands between a first reading and the writer.
use Prim.Native.Nat.{ℕ, ◌^◌, ◌≤◌, ◌<◌}
use mathlib.Core.{Path.{◌≡◌, refl}, Bool.{Bool}, List.{List}, Option.{none}}
use native.Mathlib.Omega.{arith}
use lib.{IntN.{ℤ}, ListN.{length}}
use Rattle.molang.specs.Operator
use Rattle.molang.specs.{Forest.{Token, Forest, nil, node, renamed, bare, closed_by, leaves, size}, Read.{Answer, read}}
use Rattle.molang.specs.{Words.{tree_words, operator_field}, Legal.{Legal, LegalTrees, no_trees, legal_tree}, Parse.{most_tokens}}
use Rattle.molang.specs.WriteEntry.{tree_fault, trees_of}
use Rattle.molang.proofs.{Trees.{count-size}, Bounds.{read-tree}, Words.{LegalTokens, no_tokens, token, trees-back, operator-low}}
use Rattle.molang.proofs.{TreeWords.{tree-unfaulted}, Every.{Every, nowhere, at, Renewable, read-every}}

-- A token with another operator, or with another's span and no payload, is legal.
pub legal-renamed : (o : ℕ) (k : Token) → o ≤ 110 → Legal k → Legal (renamed o k)
unfolding renamed
legal-renamed o k b h =
    record {
      op = operator-low o b;
      variant = h.variant;
      value = h.value;
      no_payload = h.no_payload;
      start = h.start;
      end = h.end;
      close = h.close;
    }

pub legal-bare : (o : ℕ) (k : Token) → o ≤ 110 → Legal k → Legal (bare o k)
unfolding bare
legal-bare o k b h =
    record {
      op = operator-low o b;
      variant = omega arith;
      value = omega arith;
      no_payload = λ e. refl;
      start = h.start;
      end = h.end;
      close = h.end;
    }

-- A section that is closed by a legal token is legal.
pub legal-closed : (k o : Token) → Legal k → Legal o → Legal (closed_by k o)
unfolding closed_by
legal-closed k o h g =
    record {
      op = g.op;
      variant = g.variant;
      value = g.value;
      no_payload = g.no_payload;
      start = g.start;
      end = g.end;
      close = h.end;
    }

legal-new : Renewable Legal
legal-new =
    record {
      plus = λ k m h. legal-renamed Operator.add k (omega arith) h;
      array = λ k m h. legal-renamed Operator.array k (omega arith) h;
      statement = λ k h. legal-bare Operator.semicolon k (omega arith) h;
      minus = λ k h. legal-bare Operator.negate k (omega arith) h;
      section = λ k o m c h g. legal-closed k o h g;
    }

legal-leaves : {ks : List Token} → LegalTokens ks → Every Legal (leaves ks)
unfolding leaves
legal-leaves no_tokens = nowhere
legal-leaves (token h hs) = at h nowhere (legal-leaves hs)

legal-trees : {f : Forest} → Every Legal f → size f < 2 ^ 14 → LegalTrees f
unfolding size
legal-trees nowhere b = no_trees
legal-trees (at {cs = cs} h below later) b =
    legal_tree {cs = cs} h (omega (arith, count-size cs)) (legal-trees below (omega arith)) (legal-trees later (omega arith))

pub read-legal : (tokens : List Token) (u : ℕ → Bool) (version : ℤ) (source_length : ℕ) (k : Token) (cs : Forest) → LegalTokens tokens
    → length tokens ≤ most_tokens → read tokens u version source_length ≡ Answer.tree k cs → LegalTrees (node k cs nil)
read-legal ts u v l k cs h b e =
    legal-trees (read-every Legal legal-new ts u v l k cs (legal-leaves h) e) (omega (arith, read-tree ts u v l k cs e))

-- The writer reads the tree that the reader has given.
pub read_back : (tokens : List Token) (u : ℕ → Bool) (version : ℤ) (source_length : ℕ) (k : Token) (cs : Forest) → LegalTokens tokens
    → length tokens ≤ most_tokens → read tokens u version source_length ≡ Answer.tree k cs
    → trees_of (tree_words (node k cs nil)) ≡ node k cs nil
read_back ts u v l k cs h b e = trees-back (node k cs nil) (read-legal ts u v l k cs h b e)

-- The writer does not answer 12 to it.
pub read-unfaulted : (tokens : List Token) (u : ℕ → Bool) (version : ℤ) (source_length : ℕ) (k : Token) (cs : Forest) → LegalTokens tokens
    → length tokens ≤ most_tokens → read tokens u version source_length ≡ Answer.tree k cs
    → tree_fault 0 operator_field 0 (record { called = 1; begun = 0 }) (tree_words (node k cs nil)) ≡ none
read-unfaulted ts u v l k cs h b e = tree-unfaulted k cs (read-legal ts u v l k cs h b e) (omega (arith, read-tree ts u v l k cs e))
