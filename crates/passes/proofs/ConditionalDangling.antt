-- `dangling` by its slice: the first root that is a `?` or a `:` that nothing is under.
use Prim.Native.Nat.{ℕ, ◌+◌, ◌≤◌, ◌<◌}
use mathlib.Core.{Path.{◌≡◌, refl}, Bool.{Bool, true, false, ◌||◌, cond}, List.{List}}
use native.Mathlib.Omega.{arith}
use lib.ListN.{length, get_or}
use Rattle.std.specs.{Prelude.{Some}, List.{between, find}}
use Rattle.molang.specs.{Operator.{conditional, conditional_else}, Forest.{Forest, node}, Conditional.{is_token, dangling}}
use Rattle.nodes.{specs.Store.{slot_end, RepF, ends, more, RepT}, specs.Slots.{is_token_at}, proofs.Trees.{token-test}}
use Rattle.passes.specs.Conditional.{CanDangle, DanglesAt, nowhere, here, Dangles}
use Rattle.passes.proofs.ListWords.{array-words, array-below}

-- the test of an item
abbrev pub dangles_at : List ℕ → ℕ → Bool
dangles_at W s = is_token_at W s conditional || is_token_at W s conditional_else

finds : {W X bs : List ℕ} {lo hi : ℕ} {f : Forest} → RepF W X bs lo hi f → DanglesAt W (dangling f) (find (dangles_at W) bs)
unfolding dangling
finds (ends h) = nowhere
finds {W} {X} (more {b = b} {bs = bs} {l = l} {m = m} {t = t} {k = k} {f = f} {cs = cs} a low high pos out token noted chain kids r) =
    rw (token-test conditional k tree, token-test conditional_else k tree)
    (go (is_token conditional t k || is_token conditional_else t k) refl (finds r))
  where
    tree : RepT W X b l m t k
    tree =
        record {
          cs = cs;
          low = low;
          high = high;
          pos = pos;
          out = out;
          token = token;
          noted = noted;
          chain = chain;
          kids = kids;
        }

    go : (x : Bool) → (is_token conditional t k || is_token conditional_else t k) ≡ x → DanglesAt W (dangling f) (find (dangles_at W) bs)
        → DanglesAt W (dangling (node t k f))
        (cond (is_token conditional t k || is_token conditional_else t k) (Some b) (find (dangles_at W) bs))
    go true e h = rw (e, dangling) (here token)
    go false e h = rw (e, dangling) h

module _ {W : List ℕ} {base from len : ℕ} where
  -- what `dangling` asks of each item
  pub dangle-slot : (g : CanDangle W base from len) (k x : ℕ) → k < length (between (base + from) (base + len) W)
      → x ≡ get_or (between (base + from) (base + len) W) k x → (y : ℕ) → y ≡ x → slot_end y ≤ length W
  dangle-slot g k x h e y s =
      let b : x < g.hi = array-below g.items.array (base + len) (omega (arith, g.items.count)) g.within k x h e in
      omega (arith, g.below, g.within)

  pub dangles : Dangles W base from len (find (dangles_at W) (between (base + from) (base + len) W))
  dangles =
      record {
        at = λ g. rw (array-words g.items.array (base + len) (omega (arith, g.items.count)) g.within) (finds g.items.array.rep);
      }
