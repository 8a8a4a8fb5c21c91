-- `return`: it takes the next tree, as it is, as its child.
use Prim.Native.Nat.{ℕ, ◌+◌, ◌≤◌, ◌<◌}
use mathlib.Core.{Path.{◌≡◌, refl, ap, ◌∙◌}, Bool.{true, false, true≢false}, List.{List, [], ◌∷◌}}
use native.Mathlib.Omega.{arith}
use lib.ListN.{length, set}
use Rattle.molang.{specs.Forest.{Token, Forest, nil, node, count, size}, specs.Message.{unary_without_operand, fail}}
use Rattle.molang.specs.Level.{on, walk, through, Gathered, gathered, waiting, nothing}
use Rattle.molang.{specs.Unary.{return_step, return_resume, return_finish, return_level}, specs.Free.{is_nil, is_return}}
use Rattle.molang.{specs.Work.{Kind, returns, State, work, begins, in_reading, takes, and_then}, proofs.Return.{return-inert}}
use Rattle.nodes.specs.{declared.frames.List.{List as Items}, Store.{wd, slot_start}, Children.{Attached}}
use Rattle.levels.specs.{Passes.{walk_of, moved_to, operators, Runs, return_pass, waits}, Items.{Ahead}, Sides.{GatherSide, all, Holds}}
use Rattle.levels.specs.{Turns.{Within, TurnTo, goes, fails}, declared.turns.Pass.TheVariants.{Returns}, declared.turns.Turn.{Turn}}
use Rattle.levels.specs.{declared.turns.Turn.TheVariants.{On}, declared.failure.Failure.TheVariants.{UnaryWithoutOperand}}
use Rattle.levels.specs.Failures.{Tells}
use Rattle.std.specs.Prelude.{Ok, Err}
use Rattle.levels.proofs.{Reading.{ahead-end, same-within}, PassClasses.{runs-covers}, States.{sides-of}}
use Rattle.passes.specs.TokenTurns.{unasked, ReturnTurned, Saying}
use Rattle.passes.proofs.GatherLaws.{walk-node, walk-passed, LeftLevel, item-holds, kept-within, Attaching, attached, item-attached}
use Rattle.passes.proofs.GatherLaws.{within-then, Stands, stands, Standing}

return-node : (d : Forest) (k : Token) (cs rest : Forest) → is_nil cs ≡ false
    → work returns (gathered d) (node k cs rest) ≡ and_then (work returns (begins returns cs) (in_reading returns cs))
    (λ kids. work returns (takes returns (gathered d) k kids) rest)
unfolding work begins in_reading takes through return_level return_resume is_nil
return-node d k nil rest e = absurd (true≢false e)
return-node d k (node c cs r) rest e = walk-node return_level is_return return-inert d k c cs r rest

return-level : LeftLevel returns Returns is_return gathered unasked
unfolding work begins waits operators return_level nothing
return-level =
    record {
      covers = runs-covers returns Returns return_pass;
      sides = λ fine done ahead low mid high below within. sides-of return_pass (all done) ahead tt low mid high below within;
      turning = λ v h. h;
      framed = λ v h. h;
      calm = λ d. refl;
      unlent = refl;
      fresh = λ cs. refl;
      passes = λ p. walk-passed return_level is_return return-inert p;
      keeps = λ p h. refl;
      node = return-node;
    }

pub return-stands : {T : Saying} (W : List ℕ) (v : Items) → T returns gathered is_return unasked → Standing T W v Returns
return-stands {T} W v t g = go g.holds.sides.runs g.holds
  where
    open-side : {X : List ℕ} {lo l m hi : ℕ} {s : Gathered} {rest : Forest} → GatherSide W X v.base v.write lo l s
        → Ahead W X v.base v.read v.len m hi rest
        → l ≤ m → v.write ≤ v.read → slot_start hi ≤ v.base → v.base + v.len ≤ length W → Stands T W v Returns returns X lo hi s rest
    open-side (all done) ahead mid behind below within = stands return-level t refl done ahead mid behind below within g.small

    go : {κ : Kind} {X : List ℕ} {lo hi : ℕ} {s : State κ} {rest : Forest} → Runs κ Returns → Holds κ W X lo hi (walk_of v Returns) s rest
        → Stands T W v Returns κ X lo hi s rest
    go return_pass h = open-side h.sides.done h.sides.unread h.sides.mid h.turning h.sides.below h.sides.within

-- ---- the token's turn

return-step : (d : Forest) (k : Token) → is_return k.op ≡ true → return_step (gathered d) k nil ≡ on (waiting d k)
return-step d k p = unfold return_step is_return in rw (p, return_step) refl

return-last : (d : Forest) (k : Token) → is_return k.op ≡ true
    → work returns (gathered d) (node k nil nil) ≡ fail (unary_without_operand k ∷ [])
return-last d k p = unfold work walk return_level return_finish in rw (return-step d k p, walk) refl

return-takes : (d : Forest) (k t : Token) (ts rest : Forest) → is_return k.op ≡ true
    → work returns (gathered d) (node k nil (node t ts rest)) ≡ work returns (gathered (node k (node t ts nil) d)) rest
return-takes d k t ts rest p = unfold work walk return_level return_step in rw (return-step d k p, walk) refl

-- nothing comes after the `return`
pub returned-end : (W : List ℕ) (v : Items) (b : ℕ) → v.read ≡ v.len → ReturnTurned W v b (Err (UnaryWithoutOperand b)) W
returned-end W v b e =
    record {
      to = λ g p fine.
          fails (Tells.unary_without_operand g.item.tree.token)
          (ap (λ (f : Forest). work returns (gathered g.d) (node g.k nil f)) (ahead-end g.rest (omega arith) g.item.ahead)
          ∙ return-last g.d g.k p);
      within = λ g. same-within;
    }

module _ {W W' : List ℕ} (W'' : List ℕ) (v : Items) (b c : ℕ) (e : wd W (v.base + v.read) ≡ c) (n : v.read < v.len)
    (w : Attached W b c W') (s : W'' ≡ set W' (v.base + v.write) b) where
  return-goes : {X : List ℕ} {lo hi : ℕ} {d : Forest} {k : Token} {rest : Forest} → is_return k.op ≡ true
      → Attaching W W' X v b lo hi d k rest
      → TurnTo returns W'' X lo hi (walk_of v Returns) (gathered d) (node k nil rest)
      (Ok (On (walk_of (moved_to v (v.read + 1) (v.write + 1)) Returns)))
  unfolding count size waits
  return-goes {d = d} {k = k} p (attached {t = t} {ts = ts} {rest = rest} i x) =
      goes {s' = gathered (node k (node t ts nil) d)} (record { owner = refl; base = refl; len = refl; classes = refl })
      (item-holds return-level i s refl) (return-takes d k t ts rest p) (omega arith) (omega arith) (omega arith)

  return-within : {X : List ℕ} {lo hi : ℕ} {d : Forest} {k : Token} {rest : Forest} → Attaching W W' X v b lo hi d k rest
      → Within W W'' X lo hi v
  return-within (attached i x) = within-then refl refl x (kept-within W' W'' i s)

  -- the next tree goes below the `return`
  pub returned-on : ReturnTurned W v b (Ok (On (walk_of (moved_to v (v.read + 1) (v.write + 1)) Returns))) W''
  returned-on =
      record { to = λ g p fine. return-goes p (item-attached g.item e n w); within = λ g. return-within (item-attached g.item e n w) }

  -- the same of the list and the turn that the code makes
  pub returned-turn : (l1 l2 : Items) (r : Turn) → l1 ≡ moved_to v (v.read + 1) v.write → l2 ≡ moved_to l1 l1.read (l1.write + 1)
      → r ≡ On (walk_of l2 Returns)
      → ReturnTurned W v b (Ok r) W''
  returned-turn l1 l2 r e1 e2 er = rw (er, e2, e1) returned-on
