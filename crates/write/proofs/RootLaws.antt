-- The root of a script: what the loop over its children keeps.
use Prim.Native.Nat.{ℕ, zero, suc, ◌+◌, ◌-◌, ◌*◌, ◌≤◌, ◌<◌}
use mathlib.Core.{Path.{◌≡◌, refl, ap, sym, ◌∙◌}, Bool.{true, false}, List.{List}}
use native.Mathlib.{Omega.{arith}, Nat.{add-zero, add-suc}}
use lib.{Dec.{eqb, ltb}, ListN.{length, get_or, drop, drop_of_length-le, length-drop}, Seq.{get_or-drop, drop-drop}}
use borrow.Author.Tests.{eq-eqb, ne_eqb, eqb-true, eqb-false, lt-ltb, le-ltb}
use Rattle.molang.specs.Operator
use Rattle.molang.{specs.Forest.{Forest, nil, node, count, size}, specs.Plain.{all_semicolons, semicolon_form}, specs.Words.{low_of}}
use Rattle.molang.{specs.WriteEntry.{other_trees, trees_of}, proofs.Words.{beside, other-beside}}
use Rattle.molang.specs.Plain as plain
use Rattle.molang.proofs.Booleans as booleans
use Rattle.words.specs.{Fields.{operator_of}, Tokens.{node_length}}
use Rattle.shape.specs.Shaped.{count_index, Shaped, most_children, OneTree}
use Rattle.shape.proofs.RowLaws.{Opened, opened, shaped-room, shaped-count, shaped-length, no_kids}
use Rattle.write.specs.{declared.reader.NodeView.{NodeView}, Reading.{view_at}, Scripts.{holds_statements}}

-- The children of a lone root are the row behind it.
beside-nil : (f : Forest) → beside f nil ≡ f
unfolding beside
beside-nil nil = refl
beside-nil (node k cs rest) = ap (node k cs) (beside-nil rest)

pub children-row : {most : ℕ} {tree : List ℕ} → Shaped most 1 tree → (o : Opened most 1 tree) → trees_of (drop node_length tree) ≡ o.cs
unfolding count
children-row s o =
    let alone : count (node o.k o.cs o.rest) ≡ 1 = ap count (sym o.trees) ∙ shaped-count s in
    let rest : o.rest ≡ nil = no_kids o.rest (omega (arith, alone)) in
    o.below ∙ (ap (beside o.cs) rest ∙ beside-nil o.cs)

-- THE LOOP'S INVARIANT: the child that came last calls for `due` of the trees that are to come; the children that came are semicolons.
pub record Holding (tree : List ℕ) (due at : ℕ) : Type 0 where
  pub others : ℕ
  pub behind : node_length ≤ at
  pub within : at ≤ length tree
  pub shaped : Shaped most_children (others + due) (drop at tree)
  pub same : all_semicolons (other_trees due (trees_of (drop at tree))) ≡ all_semicolons (trees_of (drop node_length tree))

pub holding-begins : {tree : List ℕ} → OneTree tree → Holding tree 0 node_length
unfolding other_trees
holding-begins {tree = tree} one =
    let o = opened one.shaped (omega (arith, shaped-room one.shaped)) in
    record {
      others = low_of (get_or tree count_index 0) + o.others;
      behind = omega arith;
      within = o.long;
      shaped = rw add-zero o.shaped;
      same = refl;
    }

-- The root's form by its children.
not-all : (cs : Forest) → all_semicolons cs ≡ false → false ≡ semicolon_form plain.at_root cs
unfolding semicolon_form
not-all nil e = refl
not-all (node x xs rest) e = sym e

all_hold : (cs : Forest) (words : ℕ) → words - node_length ≡ node_length * size cs → all_semicolons cs ≡ true
    → ltb node_length words ≡ semicolon_form plain.at_root cs
unfolding semicolon_form size
all_hold nil words e a = le-ltb node_length words (omega (arith, e))
all_hold (node x xs rest) words e a = lt-ltb node_length words (omega (arith, e)) ∙ sym a

-- The trees behind a node's children and some trees after these.
other-behind : (ks rest : Forest) (m : ℕ) → other_trees (m + count ks) (beside ks rest) ≡ other_trees m rest
unfolding other_trees count beside
other-behind nil rest m = ap (λ (n : ℕ). other_trees n rest) (add-zero m)
other-behind (node x xs more) rest m = rw add-suc (other-behind more rest m)

module _ {tree : List ℕ} (one : OneTree tree) where
  root : Opened most_children 1 tree
  root = opened one.shaped (omega (arith, shaped-room one.shaped))

  root-refuses : all_semicolons (trees_of (drop node_length tree)) ≡ false → false ≡ holds_statements (trees_of tree)
  unfolding holds_statements
  root-refuses e = rw root.trees (not-all root.cs (ap all_semicolons (sym (children-row one.shaped root)) ∙ e))

  root-holds : all_semicolons (trees_of (drop node_length tree)) ≡ true → ltb node_length (length tree) ≡ holds_statements (trees_of tree)
  unfolding holds_statements
  root-holds e =
      let row = children-row one.shaped root in
      let words : length tree - node_length ≡ node_length * size root.cs =
      sym (length-drop node_length tree) ∙ (shaped-length root.shaped ∙ ap (λ (f : Forest). node_length * size f) row)
      in
      rw root.trees (all_hold root.cs (length tree) words (ap all_semicolons (sym row) ∙ e))

  module _ {due at : ℕ} (h : Holding tree due at) (whole : at + node_length ≤ length tree) where
    here : Opened most_children (h.others + due) (drop at tree)
    here = opened h.shaped (rw length-drop (omega arith))

    next : drop node_length (drop at tree) ≡ drop (at + node_length) tree
    next = drop-drop node_length at tree

    -- What was seen of the node.
    module _ {v : NodeView} (seen : v ≡ view_at tree at) where
      is_op : v.op ≡ operator_of (get_or tree at 0)
      is_op = ap (λ (w : NodeView). w.op) seen

      is_count : v.children ≡ low_of (get_or tree (at + count_index) 0)
      is_count = ap (λ (w : NodeView). w.children) seen

      here-op : here.k.op ≡ v.op
      here-op =
          here.op ∙ (ap operator_of (get_or-drop at tree 0 0 ∙ ap (λ (m : ℕ). get_or tree m 0) (add-zero at)) ∙ sym is_op)

      here-low : low_of (get_or (drop at tree) count_index 0) ≡ v.children
      here-low = ap low_of (get_or-drop at tree count_index 0) ∙ sym is_count

      here-count : count here.cs ≡ v.children
      here-count = here.children ∙ here-low

      -- A child that is no semicolon.
      pub holding-refused : due ≡ 0 → (v.op ≡ Operator.semicolon → ⊥) → false ≡ holds_statements (trees_of tree)
      unfolding other_trees all_semicolons
      holding-refused none other =
          let no : eqb here.k.op Operator.semicolon ≡ false = rw here-op (ne_eqb v.op Operator.semicolon other) in
          root-refuses (sym h.same ∙ rw (none, here.trees, no))

      -- A child that is one.
      holding-child : due ≡ 0 → v.op ≡ Operator.semicolon → Holding tree (due - 1 + v.children) (at + node_length)
      unfolding other_trees all_semicolons
      holding-child none semicolon =
          let yes : eqb here.k.op Operator.semicolon ≡ true = rw here-op (eq-eqb v.op Operator.semicolon semicolon) in
          let calls : due - 1 + v.children ≡ v.children = omega (arith, none) in
          let trees : low_of (get_or (drop at tree) count_index 0) + here.others ≡ here.others + v.children = omega (arith, here-low) in
          let shaped : Shaped most_children (here.others + v.children) (drop node_length (drop at tree)) = rw trees at here.shaped in
          let still : all_semicolons here.rest ≡ all_semicolons (trees_of (drop node_length tree)) =
          (rw (none, here.trees, yes) at h.same)
          in
          record {
            others = here.others;
            behind = omega (arith, h.behind);
            within = whole;
            shaped = rw (calls, ← next) shaped;
            same = rw (calls, ← next, here.below, ← here-count, other-beside here.cs here.rest) still;
          }

      -- All that is called for is still to come.
      pub holding-few : due - 1 + v.children ≤ length tree
      holding-few =
          omega (
            arith,
            shaped-room here.shaped,
            here-low,
            here.is_top,
            length-drop node_length (drop at tree),
            length-drop at tree,
          )

      -- A node below the child that came last.
      holding-below : (due ≡ 0 → ⊥) → Holding tree (due - 1 + v.children) (at + node_length)
      unfolding other_trees
      holding-below some =
          let left : due ≡ suc (due - 1) = positive due some in
          let trees : low_of (get_or (drop at tree) count_index 0) + here.others ≡ h.others + (due - 1 + v.children) =
          omega (arith, here-low, here.is_top, left)
          in
          let shaped : Shaped most_children (h.others + (due - 1 + v.children)) (drop node_length (drop at tree)) =
          rw trees at here.shaped
          in
          let still : all_semicolons (other_trees (due - 1) here.rest) ≡ all_semicolons (trees_of (drop node_length tree)) =
          ap (λ (n : ℕ). all_semicolons (other_trees n (node here.k here.cs here.rest))) (sym left) ∙ (rw here.trees at h.same)
          in
          record {
            others = h.others;
            behind = omega (arith, h.behind);
            within = whole;
            shaped = rw (← next) shaped;
            same = rw (← next, here.below, ← here-count, other-behind here.cs here.rest (due - 1)) still;
          }
        where
          positive : (n : ℕ) → (n ≡ 0 → ⊥) → n ≡ suc (n - 1)
          positive zero a = absurd (a refl)
          positive (suc n) a = omega arith

      pub holding-on : (due ≡ 0 → v.op ≡ Operator.semicolon) → Holding tree (due - 1 + v.children) (at + node_length)
      holding-on semicolon = booleans.either (eqb due 0) (λ e. holding-child (eqb-true due 0 e) (semicolon (eqb-true due 0 e))) (λ e. holding-below (eqb-false due 0 e))

  -- After the last.
  pub holding-ends : {due at : ℕ} → Holding tree due at → length tree < at + node_length
      → ltb node_length (length tree) ≡ holds_statements (trees_of tree)
  unfolding trees_of other_trees all_semicolons
  holding-ends {due = due} {at = at} h left =
      let end : length tree ≤ at = omega (arith, shaped-length h.shaped, length-drop at tree) in
      root-holds (sym h.same ∙ rw (drop_of_length-le tree end) (none_other due))
    where
      none_other : (n : ℕ) → all_semicolons (other_trees n nil) ≡ true
      none_other zero = refl
      none_other (suc n) = refl
