-- From a walk that found a text to the promise of `walk`: its records can be emitted, and what is emitted is the tree that the definition
-- reads.
use Prim.Native.Nat.{ℕ, zero, suc, ◌+◌, ◌*◌, ◌-◌, ◌≤◌, ◌<◌}
use mathlib.Core.{Path.{◌≡◌, ap, sym, subst, ◌∙◌}, Bool.{Bool, true}, List.{List, [], ◌∷◌}, Option.{none}}
use mathlib.Core.Option as Options
use native.Mathlib.Omega.{arith}
use lib.{ListN.{length, get_or, drop, length-drop}, IntN.{ℤ}, Seq.{get_or-drop}}
use Rattle.molang.specs.{Forest.{Token, Forest, nil, node, size}, Order.{rules}, Read.{Answer, tree, messages, read}}
use Rattle.molang.specs.Words.{tokens_of, list_words, tree_words}
use Rattle.molang.specs.{Parse.{in_front}, Grammar.{Text, tokens, well_formed, trees, Serves}}
use Rattle.molang.proofs.{Words.{LegalTokens, words_back, tokens-end}, ListWords.{list_words-length}, Bounds.{read-tree}, Grammar.{Reads, text-reads}}
use Rattle.scan.specs.{Laid.{laid_onto}, Entries.{entries_of}, Emit.{words_of_records, IsPlaced, CanEmitRecords}, Walk.{CanWalk, TreeRead}}
use Rattle.scan.proofs.{Placing.{AllPlaced, more, Stands}, TreeLaws.{trees-words, trees-long}}

-- A text of the list's tokens, and the records of its tree.
pub record Found (list : List ℕ) (u : ℕ → Bool) (version : ℤ) (R : List ℕ) : Type 0 where
  pub text : Text
  pub formed : well_formed (rules version) text ≡ true
  pub spelled : tokens text [] ≡ tokens_of list
  pub serves : Serves u (tokens_of list)
  pub entries : entries_of (tokens_of list) R ≡ laid_onto (trees Options.none text nil) []
  pub placed : AllPlaced (Stands (length list)) R

-- The answer of one tree.
abbrev root_of : Forest → Answer
root_of nil = messages []
root_of (node k cs rest) = tree k cs

module _ (list W tree₀ : List ℕ) (n : ℕ) (can : CanWalk list W tree₀ n) (u : ℕ → Bool) (version : ℤ) where
  back : (list_words (tokens_of list) ≡ list) × LegalTokens (tokens_of list)
  back = let t = can.tokens in words_back 0 0 list can.faultless (omega (arith, t))

  many : length list ≡ 5 * length (tokens_of list)
  many = ap (λ (l : List ℕ). length l) (sym back.0) ∙ list_words-length (tokens_of list)

  module _ (W' : List ℕ) (from : ℕ) (long : length W' ≡ length W) (within : from ≤ length W') (f : Found list u version (drop from W')) where
    abbrev R : List ℕ
    R = drop from W'

    read_as : (len : ℕ) → Reads f.text u version len
    read_as len = text-reads version f.text f.formed u (subst (Serves u) (sym f.spelled) f.serves) len

    reading : (len : ℕ) → read (tokens_of list) u version len ≡ tree (read_as 0).root (read_as 0).children
    reading len =
        let r = read_as len in
        ap (λ (ks : List Token). read ks u version len) (sym f.spelled) ∙ r.reads ∙ ap root_of (sym r.tree_of ∙ (read_as 0).tree_of)

    count : length R ≡ size (node (read_as 0).root (read_as 0).children nil)
    count = trees-long (tokens_of list) back.1 (tokens-end list) R (trees Options.none f.text nil) f.entries ∙ ap size (read_as 0).tree_of

    -- Each record has its places.
    placed_at : (ws : List ℕ) → AllPlaced (Stands (length list)) ws → (i : ℕ) → i < length ws → Stands (length list) (get_or ws i 0)
    placed_at [] p i h = absurd (omega arith)
    placed_at (w ∷ ws) (more s p) zero h = s
    placed_at (w ∷ ws) (more s p) (suc i) h = placed_at ws p i (omega arith)

    pub can-emit : CanEmitRecords list W' tree₀ from
    can-emit =
        let r = read_as 0 in
        let size3 = read-tree (tokens_of list) u version 0 r.root r.children (reading 0) in
        let l = length-drop from W' in
        let c = count in
        let t = can.tree-room in
        let m = many in
        let k = can.tokens in
        record { within = within; placed = placed; room = omega (arith, size3, l, c, t, m, k) }
      where
        in_list : (w : ℕ) → Stands (length list) w → IsPlaced list w
        in_list w s =
            let a = s.token.whole in
            let b = s.token.inside in
            let c = s.closer.whole in
            let d = s.closer.inside in
            let t = can.tokens in
            record { token = omega (arith, a, b, t); closer = omega (arith, c, d, t) }

        placed : (r : ℕ) → from ≤ r → r < length W' → IsPlaced list (get_or W' r 0)
        placed r a b =
            let l = length-drop from W' in
            let s = placed_at R f.placed (r - from) (omega (arith, a, b, l)) in
            let e : from + (r - from) ≡ r = omega (arith, a) in
            let w : get_or R (r - from) 0 ≡ get_or W' r 0 = get_or-drop from W' (r - from) 0 ∙ ap (λ (n : ℕ). get_or W' n 0) e in
            subst (IsPlaced list) w (in_list (get_or R (r - from) 0) s)

    pub has-emitted : (nodes : ℕ) (tree' : List ℕ) → nodes ≡ length W' - from → tree' ≡ in_front (words_of_records list R) tree₀
        → TreeRead list u version tree₀ nodes tree'
    has-emitted nodes tree' c e =
        let r = read_as 0 in
        let l = length-drop from W' in
        let k = count in
        let words : words_of_records list R ≡ tree_words (node r.root r.children nil) =
        ap (λ (ws : List ℕ). words_of_records ws R) (sym back.0)
        ∙ trees-words (tokens_of list) back.1 (tokens-end list) R (trees Options.none f.text nil)
        (subst (λ (m : ℕ). AllPlaced (Stands m) R) many f.placed) f.entries
        ∙ ap tree_words r.tree_of
        in
        record {
          root = r.root;
          children = r.children;
          reads = reading;
          count = omega (arith, c, l, k);
          words = e ∙ ap (λ (ws : List ℕ). in_front ws tree₀) words;
        }
