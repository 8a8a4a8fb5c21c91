-- THE GRAMMAR'S THEOREM: reading the tokens of a well-formed text gives the text's tree, at every version and source length, with every
-- used
-- set that serves the list (`text-reads`). So a list has at most one tree by the grammar (`one-reading`), the entry answers that tree
-- (`text-answered`), and a text that is well-formed under all rules is read alike at all versions (`same-at-all`). How it is proved: a text
-- has three views, each as small as the passes that it serves (Shape, Prefixed, Ranked; Views says that they are of one list); a pass takes
-- a
-- form of a view to the next one; the rules give what each view asks (Kept, Keeping, Treed).
use Prim.Native.Nat.{ℕ}
use mathlib.Core.{Path.{◌≡◌, refl, ap, sym, ◌∙◌, subst}, Bool.{Bool, true, false, ◌&&◌, false≢true, and-eq-true_iff}, List.{List, [], ◌∷◌}}
use mathlib.Core.Option.{Option, none, some}
use lib.{Dec.{eqb, leb}, IntN.{ℤ, pos, negsuc}}
use Rattle.molang.specs.Operator
use Rattle.molang.specs.{Forest.{Token, Forest, nil, node, bare, renamed, closed_by, leaves, size}, Message.{ok}}
use Rattle.molang.specs.Order.{Rules, rules, is_from, effective, last_token, last_of, ends_with_semicolon, runs, apply}
use Rattle.molang.specs.{Read.{Answer, tree, rooted, grouped, read}, Words.{tokens_of, tree_words}}
use Rattle.molang.specs.Parse.{Call, in_halves, refusal, reading, told, a_tree, answered, in_front, tree_in, tree_after}
use Rattle.molang.specs.Grammar.{Text, tokens, tokens_before, outline, Sort, is_list, is_text, well_formed, signed, listed, trees, ends_in}
use Rattle.molang.specs.Grammar.{Serves, unpaired, same_at_all}
use Rattle.molang.specs.Grammar as Texts
use Rattle.molang.proofs.Versions.{reads_as, rules-of-three}
use Levels.{ruled}
use Reading.{canonical-later, later}
use Complete.{canonical, unneeded, each-used}
use Treed.{is-canonical, text-trees}
pub mod Shape
pub mod Prefixed
pub mod Ranked
pub mod Ranks
pub mod Returned
pub mod Views
pub mod Signed
pub mod Canonical
pub mod Used
pub mod ShapeForms
pub mod Walk
pub mod Chains
pub mod BinaryLevels
pub mod Ternary
pub mod Prefixes
pub mod Members
pub mod Sectioning
pub mod Calling
pub mod Stating
pub mod Indexing
pub mod Counting
pub mod TextForms
pub mod Returning
pub mod Levels
pub mod Reading
pub mod FreeForms
pub mod Gating
pub mod Complete
pub mod Signs
pub mod Numbers
pub mod Kept
pub mod Given
pub mod Keeping
pub mod Treed
pub mod Examples

-- ---- one tree

-- A text that is a whole list has one tree.
pub record OneTree (t : Text) : Type 0 where
  pub root : Token
  pub children : Forest
  pub alone : trees none t nil ≡ node root children nil

script-tree : (s : Sort) (x : Text) → (outline x).sort ≡ s → Texts.are_lines s ≡ true → OneTree (Texts.script x)
unfolding Texts.are_lines trees listed
script-tree Texts.a_statement x e h = absurd (false≢true h)
script-tree Texts.a_script x e h = absurd (false≢true h)
script-tree (Texts.a_line q) x e h =
    record { root = bare Operator.semicolon q; children = trees none x nil; alone = ap (λ (s : Sort). listed s (trees none x nil) nil) e }
script-tree (Texts.some_lines q) x e h =
    record { root = bare Operator.semicolon q; children = trees none x nil; alone = ap (λ (s : Sort). listed s (trees none x nil) nil) e }
script-tree Texts.a_last x e h = absurd (false≢true h)

no-list : (s : Sort) → is_list (Texts.several s) ≡ true → ⊥
unfolding Texts.several is_list
no-list Texts.a_statement h = false≢true h
no-list Texts.a_script h = false≢true h
no-list (Texts.a_line e) h = false≢true h
no-list (Texts.some_lines e) h = false≢true h
no-list Texts.a_last h = false≢true h

pub one-tree : (r : Rules) (t : Text) → well_formed r t ≡ true → OneTree t
one-tree r t h = let b = (and-eq-true_iff (is_list (outline t).sort) (is_text r t)).0 (unfold well_formed in h) in by t b.0 b.1
  where
    by : (t : Text) → is_list (outline t).sort ≡ true → is_text r t ≡ true → OneTree t
    by (Texts.operand k) l i = unfold trees signed in record { root = _; children = _; alone = refl }
    by (Texts.member b m ms) l i = unfold trees signed in record { root = _; children = _; alone = refl }
    by (Texts.section o e x) l i = unfold trees signed in record { root = _; children = _; alone = refl }
    by (Texts.query k o e x) l i = unfold trees signed in record { root = _; children = _; alone = refl }
    by (Texts.math_call k o e x) l i = unfold trees signed in record { root = _; children = _; alone = refl }
    by (Texts.math_empty k o e) l i = unfold trees signed in record { root = _; children = _; alone = refl }
    by (Texts.index k o e x) l i = unfold trees signed in record { root = _; children = _; alone = refl }
    by (Texts.arrow k x y) l i = unfold trees signed in record { root = _; children = _; alone = refl }
    by (Texts.prefix k x) l i = unfold trees signed in record { root = _; children = _; alone = refl }
    by (Texts.returned k x) l i = unfold trees in record { root = _; children = _; alone = refl }
    by (Texts.between k x y) l i = unfold trees in record { root = _; children = _; alone = refl }
    by (Texts.minus k x y) l i = unfold trees in record { root = _; children = _; alone = refl }
    by (Texts.minuses k j x y) l i = unfold trees in record { root = _; children = _; alone = refl }
    by (Texts.choice q d t) l i = unfold trees in record { root = _; children = _; alone = refl }
    by (Texts.chosen q k d t e) l i = unfold trees in record { root = _; children = _; alone = refl }
    by (Texts.script x) l i =
        script-tree (outline x).sort x refl ((and-eq-true_iff (Texts.are_lines (outline x).sort) (is_text r x)).0 (unfold is_text in i)).0
    by (Texts.line e es x) l i = absurd (false≢true (unfold outline is_list in l))
    by (Texts.lines x y) l i = absurd (no-list (outline x).sort (unfold outline in l))
    by (Texts.final x) l i = absurd (false≢true (unfold outline is_list in l))

-- ---- the check of the last token

abbrev Ends : ℕ → Option Token → Type 0
Ends n none = ⊥
Ends n (some k) = eqb k.op n ≡ true

ends-in : (n : ℕ) (b : Option Token) (ks : List Token) → ends_in n ks ≡ true → Ends n (last_of b (leaves ks))
unfolding ends_in last_of leaves
ends-in n b [] h = absurd (false≢true h)
ends-in n b (k ∷ []) h = h
ends-in n b (k ∷ l ∷ ks) h = ends-in n (some k) (l ∷ ks) h

let_through : (len : ℕ) (ks : List Token) → ends_in Operator.semicolon ks ≡ true → apply len last_token (leaves ks) ≡ ok (leaves ks)
unfolding apply ends_with_semicolon
let_through len ks h = by (last_of none (leaves ks)) refl (ends-in Operator.semicolon none ks h)
  where
    by : (o : Option Token) → last_of none (leaves ks) ≡ o → Ends Operator.semicolon o → apply len last_token (leaves ks) ≡ ok (leaves ks)
    by none e g = absurd g
    by (some k) e g = rw (e, ends_with_semicolon) (rw g refl)

-- ---- the theorem

-- What reading gives: the one tree of the text.
pub record Reads (t : Text) (u : ℕ → Bool) (version : ℤ) (source_length : ℕ) : Type 0 where
  pub root : Token
  pub children : Forest
  pub tree_of : trees none t nil ≡ node root children nil
  pub reads : read (tokens t []) u version source_length ≡ tree root children

-- THE GRAMMAR'S THEOREM.
pub text-reads : (version : ℤ) (t : Text) → well_formed (rules version) t ≡ true → (u : ℕ → Bool) → Serves u (tokens t [])
    → (source_length : ℕ)
    → Reads t u version source_length
unfolding read rules rooted
text-reads version t h u s len =
    let c = is_from 6 (effective version) in
    let p = is_from 5 (effective version) in
    let one = one-tree (rules version) t h in
    record {
      root = one.root;
      children = one.children;
      tree_of = one.alone;
      reads =
          canonical c c p t (is-canonical c c p t h) len u s.has (λ w. let_through len (tokens t []) (s.ends (unfold runs in w)))
          ∙ ap (rooted len []) (text-trees c c p t h nil ∙ one.alone);
    }

-- ---- at most one tree

abbrev anything : ℕ → Bool
anything n = true

later-reads : (c a p : Bool) (t : Text) (h : well_formed (ruled c a p) t ≡ true)
    → grouped 0 anything (later c a p t (is-canonical c a p t h)) [] (leaves (tokens t [])) ≡ rooted 0 [] (trees none t nil)
later-reads c a p t h =
    canonical-later c a p t (is-canonical c a p t h) 0 anything
    (unneeded c a p t (is-canonical c a p t h) anything (each-used anything (tokens t []) (λ n e. refl)) 0)
    ∙ ap (rooted 0 []) (text-trees c a p t h nil)

-- AT MOST ONE TREE: two texts of the same tokens that are well-formed under the same rules have the same tree.
pub one-reading : (version : ℤ) (t v : Text) → well_formed (rules version) t ≡ true → well_formed (rules version) v ≡ true
    → tokens t [] ≡ tokens v []
    → trees none t nil ≡ trees none v nil
unfolding rules rooted
one-reading version t v h i e =
    let c = is_from 6 (effective version) in
    let p = is_from 5 (effective version) in
    let one = one-tree (rules version) t h in
    let other = one-tree (rules version) v i in
    let same : tree one.root one.children ≡ tree other.root other.children =
    sym (ap (rooted 0 []) one.alone) ∙ sym (later-reads c c p t h)
    ∙ ap (λ (ks : List Token). grouped 0 anything (later c c p t (is-canonical c c p t h)) [] (leaves ks)) e
    ∙ later-reads c c p v i ∙ ap (rooted 0 []) other.alone in
    one.alone ∙ (let m : node one.root one.children nil ≡ node other.root other.children nil = cc in m) ∙ sym other.alone

-- ---- the entry

-- THE ENTRY on the words of a well-formed text: it answers a tree of as many nodes as the text's tree has, and its words stand in front of
-- the
-- tree buffer.
pub text-answered : (c : Call) (t : Text) → refusal c ≡ none → tokens_of c.list ≡ tokens t [] → well_formed (rules c.version) t ≡ true
    → Serves (in_halves c.used_low c.used_high) (tokens t [])
    → (answered c ≡ a_tree (size (trees none t nil))) × (tree_after c ≡ in_front (tree_words (trees none t nil)) c.tree)
unfolding answered tree_after reading
text-answered c t f e h s =
    let g = text-reads c.version t h (in_halves c.used_low c.used_high) s c.source_length in
    let a : reading c ≡ tree g.root g.children =
    ap (λ (ks : List Token). read ks (in_halves c.used_low c.used_high) c.version c.source_length) e ∙ g.reads in (
      ap (λ (o : Option _). told o (reading c)) f ∙ ap (told none) a
          ∙ (unfold told in ap (λ (x : Forest). a_tree (size x)) (sym g.tree_of)),
      ap (λ (o : Option _). tree_in o (reading c) c.tree) f ∙ ap (λ (b : Answer). tree_in none b c.tree) a
          ∙ (unfold tree_in in ap (λ (x : Forest). in_front (tree_words x) c.tree) (sym g.tree_of)),
    )

-- ---- the same at all versions

-- What stays as it is if conditionals become operators between operands.
outline-unpaired : (t : Text) → ((outline (unpaired t)).sort ≡ (outline t).sort) × ((outline (unpaired t)).first ≡ (outline t).first)
unfolding unpaired outline
outline-unpaired (Texts.operand k) = (refl, refl)
outline-unpaired (Texts.member b a ms) = (refl, refl)
outline-unpaired (Texts.section o c x) = (refl, refl)
outline-unpaired (Texts.query k o c x) = (refl, refl)
outline-unpaired (Texts.math_call k o c x) = (refl, refl)
outline-unpaired (Texts.math_empty k o c) = (refl, refl)
outline-unpaired (Texts.index k o c x) = (refl, refl)
outline-unpaired (Texts.arrow k x y) = (refl, (outline-unpaired x).1)
outline-unpaired (Texts.prefix k x) = (refl, refl)
outline-unpaired (Texts.returned k x) = (refl, refl)
outline-unpaired (Texts.between k x y) = (refl, (outline-unpaired x).1)
outline-unpaired (Texts.minus k x y) = (refl, (outline-unpaired x).1)
outline-unpaired (Texts.minuses k l x y) = (refl, (outline-unpaired x).1)
outline-unpaired (Texts.choice q c t) = (refl, (outline-unpaired c).1)
outline-unpaired (Texts.chosen q k c t e) = (refl, (outline-unpaired c).1)
outline-unpaired (Texts.script x) = (refl, (outline-unpaired x).1)
outline-unpaired (Texts.line e es x) = (refl, (outline-unpaired x).1)
outline-unpaired (Texts.lines x y) = (ap Texts.several (outline-unpaired x).0, (outline-unpaired x).1)
outline-unpaired (Texts.final x) = (refl, (outline-unpaired x).1)

tokens-unpaired : (t : Text) (r : List Token) → tokens (unpaired t) r ≡ tokens t r
unfolding unpaired tokens
tokens-unpaired (Texts.operand k) r = refl
tokens-unpaired (Texts.member b a ms) r = refl
tokens-unpaired (Texts.section o c x) r = ap (◌∷◌ o) (tokens-unpaired x (c ∷ r))
tokens-unpaired (Texts.query k o c x) r = ap (λ (ks : List Token). k ∷ o ∷ ks) (tokens-unpaired x (c ∷ r))
tokens-unpaired (Texts.math_call k o c x) r = ap (λ (ks : List Token). k ∷ o ∷ ks) (tokens-unpaired x (c ∷ r))
tokens-unpaired (Texts.math_empty k o c) r = refl
tokens-unpaired (Texts.index k o c x) r = ap (λ (ks : List Token). k ∷ o ∷ ks) (tokens-unpaired x (c ∷ r))
tokens-unpaired (Texts.arrow k x y) r = tokens-unpaired x _ ∙ ap (λ (ks : List Token). tokens x (k ∷ ks)) (tokens-unpaired y r)
tokens-unpaired (Texts.prefix k x) r = ap (◌∷◌ k) (tokens-unpaired x r)
tokens-unpaired (Texts.returned k x) r = ap (◌∷◌ k) (tokens-unpaired x r)
tokens-unpaired (Texts.between k x y) r = tokens-unpaired x _ ∙ ap (λ (ks : List Token). tokens x (k ∷ ks)) (tokens-unpaired y r)
tokens-unpaired (Texts.minus k x y) r = tokens-unpaired x _ ∙ ap (λ (ks : List Token). tokens x (k ∷ ks)) (tokens-unpaired y r)
tokens-unpaired (Texts.minuses k l x y) r = tokens-unpaired x _ ∙ ap (λ (ks : List Token). tokens x (k ∷ l ∷ ks)) (tokens-unpaired y r)
tokens-unpaired (Texts.choice q c t) r = tokens-unpaired c _ ∙ ap (λ (ks : List Token). tokens c (q ∷ ks)) (tokens-unpaired t r)
tokens-unpaired (Texts.chosen q k c t e) r =
    tokens-unpaired c _
    ∙ ap (λ (ks : List Token). tokens c (q ∷ ks)) (tokens-unpaired t _ ∙ ap (λ (ks : List Token). tokens t (k ∷ ks)) (tokens-unpaired e r))
tokens-unpaired (Texts.script x) r = tokens-unpaired x r
tokens-unpaired (Texts.line e es x) r = tokens-unpaired x (e ∷ tokens_before es r)
tokens-unpaired (Texts.lines x y) r = tokens-unpaired x _ ∙ ap (tokens x) (tokens-unpaired y r)
tokens-unpaired (Texts.final x) r = tokens-unpaired x r

trees-unpaired : (s : Option Token) (t : Text) (r : Forest) → trees s (unpaired t) r ≡ trees s t r
unfolding unpaired trees
trees-unpaired s (Texts.operand k) r = refl
trees-unpaired s (Texts.member b a ms) r = refl
trees-unpaired s (Texts.section o c x) r = ap (λ (f : Forest). signed s (closed_by c o) f r) (trees-unpaired none x nil)
trees-unpaired s (Texts.query k o c x) r = ap (λ (f : Forest). signed s k (node (closed_by c o) f nil) r) (trees-unpaired none x nil)
trees-unpaired s (Texts.math_call k o c x) r = ap (λ (f : Forest). signed s k (node (closed_by c o) f nil) r) (trees-unpaired none x nil)
trees-unpaired s (Texts.math_empty k o c) r = refl
trees-unpaired s (Texts.index k o c x) r = ap (λ (f : Forest). signed s (renamed Operator.array k) f r) (trees-unpaired none x nil)
trees-unpaired s (Texts.arrow k x y) r =
    ap (λ (f : Forest). signed s k f r) (trees-unpaired none x _ ∙ ap (trees none x) (trees-unpaired none y nil))
trees-unpaired s (Texts.prefix k x) r = ap (λ (f : Forest). signed s k f r) (trees-unpaired none x nil)
trees-unpaired s (Texts.returned k x) r = ap (λ (f : Forest). node k f r) (trees-unpaired none x nil)
trees-unpaired s (Texts.between k x y) r = ap (λ (f : Forest). node k f r)
    (trees-unpaired s x _ ∙ ap (trees s x) (trees-unpaired none y nil))
trees-unpaired s (Texts.minus k x y) r = ap (λ (f : Forest). node (renamed Operator.add k) f r)
    (trees-unpaired s x _ ∙ ap (trees s x) (trees-unpaired (some k) y nil))
trees-unpaired s (Texts.minuses k l x y) r = ap (λ (f : Forest). node (renamed Operator.add k) f r)
    (trees-unpaired s x _ ∙ ap (trees s x) (trees-unpaired none y nil))
trees-unpaired s (Texts.choice q c t) r = ap (λ (f : Forest). node q f r)
    (trees-unpaired s c _ ∙ ap (trees s c) (trees-unpaired none t nil))
trees-unpaired s (Texts.chosen q k c t e) r =
    ap (λ (f : Forest). node q f r) (trees-unpaired s c _
    ∙ ap (λ (f : Forest). trees s c (node k f nil)) (trees-unpaired none t _ ∙ ap (trees none t) (trees-unpaired none e nil)))
trees-unpaired s (Texts.script x) r =
    ap (λ (m : Sort). listed m (trees none (unpaired x) nil) r) (outline-unpaired x).0
    ∙ ap (λ (f : Forest). listed (outline x).sort f r) (trees-unpaired none x nil)
trees-unpaired s (Texts.line e es x) r =
    ap (λ (k : Token). node (bare Operator.semicolon k) (trees none (unpaired x) nil) r) (outline-unpaired x).1
    ∙ ap (λ (f : Forest). node (bare Operator.semicolon (outline x).first) f r) (trees-unpaired none x nil)
trees-unpaired s (Texts.lines x y) r = trees-unpaired none x _ ∙ ap (trees none x) (trees-unpaired none y r)
trees-unpaired s (Texts.final x) r =
    ap (λ (k : Token). node (bare Operator.semicolon k) (trees none (unpaired x) nil) r) (outline-unpaired x).1
    ∙ ap (λ (f : Forest). node (bare Operator.semicolon (outline x).first) f r) (trees-unpaired none x nil)

-- THE SAME AT ALL VERSIONS: a text that passes the test is read to its one tree at every version.
pub same-at-all : (t : Text) → same_at_all t ≡ true → (u : ℕ → Bool) → Serves u (tokens t []) → (version : ℤ) (source_length : ℕ)
    → Reads t u version source_length
unfolding same_at_all
same-at-all t h u s version len =
    let b = (and-eq-true_iff (well_formed (rules (pos 4)) (unpaired t) && well_formed (rules (pos 5)) t) (well_formed (rules (pos 6)) t)).0 h in
    let d = (and-eq-true_iff (well_formed (rules (pos 4)) (unpaired t)) (well_formed (rules (pos 5)) t)).0 b.0 in
    by version d.0 d.1 b.1 (rules-of-three version)
  where
    below : (v : ℤ) → well_formed (rules (pos 4)) (unpaired t) ≡ true → rules v ≡ rules (pos 4) → Reads t u v len
    below v h e =
        let serves = subst (Serves u) (sym (tokens-unpaired t [])) s in
        let g = text-reads v (unpaired t) (ap (λ (r : Rules). well_formed r (unpaired t)) e ∙ h) u serves len in
        record {
          root = g.root;
          children = g.children;
          tree_of = sym (trees-unpaired none t nil) ∙ g.tree_of;
          reads = ap (λ (ks : List Token). read ks u v len) (sym (tokens-unpaired t [])) ∙ g.reads;
        }

    from : (v w : ℤ) → well_formed (rules w) t ≡ true → rules v ≡ rules w → Reads t u v len
    from v w h e = text-reads v t (ap (λ (r : Rules). well_formed r t) e ∙ h) u s len

    six-or-less : (v : ℤ) (b d : Bool) → well_formed (rules (pos 4)) (unpaired t) ≡ true → well_formed (rules (pos 5)) t ≡ true
        → well_formed (rules (pos 6)) t ≡ true
        → rules v ≡ rules (elim b [ true ↦ pos 6 | false ↦ elim d [ true ↦ pos 5 | false ↦ pos 4 ] ]) → Reads t u v len
    six-or-less v true d f g h e = from v (pos 6) h e
    six-or-less v false true f g h e = from v (pos 5) g e
    six-or-less v false false f g h e = below v f e

    by : (v : ℤ) → well_formed (rules (pos 4)) (unpaired t) ≡ true → well_formed (rules (pos 5)) t ≡ true
        → well_formed (rules (pos 6)) t ≡ true
        → rules v ≡ rules (reads_as v) → Reads t u v len
    by (negsuc n) f g h e = below (negsuc n) f e
    by (pos n) f g h e = six-or-less (pos n) (leb 6 n) (leb 5 n) f g h e
