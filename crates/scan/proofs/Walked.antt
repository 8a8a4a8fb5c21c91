-- THE WALK'S THEOREM: if the walk ends, its list is a well-formed text, and the records are the nodes of the text's tree (`walk-text`); so they
-- are the nodes of the tree that the list reads to (`walk-tree`).
use Prim.Native.Nat.{ℕ, zero, suc, ◌*◌, ◌≤◌, ◌<◌}
use mathlib.Core.{Path.{◌≡◌, refl, ap, sym, subst, ◌∙◌}, Bool.{Bool, true, false, ◌||◌, true≢false, false≢true}}
use mathlib.Core.{List.{List, [], ◌∷◌}, Option.{none}}
use native.Mathlib.Omega.{arith}
use lib.{Dec.{leb}, IntN.{ℤ, pos, negsuc}, ListN.{length, drop}}
use Rattle.molang.specs.Operator
use Rattle.molang.specs.{Operator.{any, is_operator}, Forest.{Token, Forest, nil, node}, Order.{Rules, rules, is_from, effective}}
use Rattle.molang.specs.{Read.{tree, read, uses}, Grammar.{Text, tokens, outline, is_list, is_text, well_formed, trees, Serves}}
use Rattle.molang.proofs.{Computed.{computed}, Grammar.Given.{and_both}, Grammar.{text-reads}}
use Rattle.molang.proofs.Versions.{reads_as, rules-of-three}
use Rattle.scan.specs.{Laid.{laid_onto}, Entries.{nth, entries_of}, Views.{View}}
use Rattle.scan.specs.{Turns.{Walking, Turning, want, have, done, gives_up, turned_once, Walks, stays, goes, start}, Tables.{table_of, entry_in}}
use Rattle.scan.proofs.{Frames.{outside, after, laid_after, has_minus}, Settling.{bottom}}
use Rattle.scan.proofs.{Told.{Told, told_below, told-five, told-six}, Kept.{Known, Awaits, Holds}}
use Rattle.scan.proofs.{Wanting.{want_kept}, Opening.{stated-list, have-kept}}

-- ---- the table of a version

-- What the table of the rules tells.
abbrev Tells : Rules → Type 0
Tells r = Told r (entry_in (table_of r))

told-as : (v : ℤ) → Tells (rules (reads_as v))
unfolding rules is_from effective table_of
told-as (negsuc n) = told_below
told-as (pos n) = by (leb 6 n) (leb 5 n)
  where
    by : (b c : Bool) → Tells (rules (elim b [ true ↦ pos 6 | false ↦ elim c [ true ↦ pos 5 | false ↦ pos 4 ] ]))
    by true c = told-six
    by false true = told-five
    by false false = told_below

pub told_at : (v : ℤ) → Tells (rules v)
told_at v = subst Tells (sym (rules-of-three v)) (told-as v)

-- ---- the walk

drop_all : (T : List Token) → drop (length T) T ≡ []
drop_all [] = refl
drop_all (k ∷ ks) = drop_all ks

module _ (r : Rules) (g : Walking) (h : Known r g) where
  turned-kept : (a : Turning) → Holds r g h a → Holds r g h (turned_once g a)
  unfolding turned_once
  turned-kept (want v) k = want_kept r g h v k
  turned-kept (have v) k = have-kept r g h v k
  turned-kept (done v) k = k
  turned-kept gives_up k = tt

  walked : (a b : Turning) → Walks g a b → Holds r g h a → Holds r g h b
  walked a b stays k = k
  walked a b (goes {b = c} w) k = turned-kept c (walked a c w k)

  -- Where the walk starts.
  starts : Awaits r g h (start (5 * length g.tokens))
  unfolding start after laid_after has_minus entries_of uses
  starts =
      record {
        frames = outside;
        stacked = tt;
        stack = bottom refl;
        records = refl;
        place = record { index = length g.tokens; place = refl; within = omega arith; rest = drop_all g.tokens };
        seen = λ n e. absurd (false≢true e);
        expects = λ m. absurd (false≢true m);
      }

-- ---- the theorem

-- What is known before the walk: the table is that of the version; every number is legal; the list has at most 4,096 tokens; the used set has
-- no `=` and no semicolon.
pub record Walkable (version : ℤ) (g : Walking) : Type 0 where
  pub table : g.entry ≡ entry_in (table_of (rules version))
  pub legal : (i : ℕ) → i < length g.tokens → is_operator (nth g.tokens i).op ≡ true
  pub short : length g.tokens ≤ 4096
  pub unassigned : g.used Operator.assignment ≡ false
  pub unsplit : g.used Operator.semicolon ≡ false

legal-all : (T : List Token) → ((i : ℕ) → i < length T → is_operator (nth T i).op ≡ true) → (i : ℕ) → is_operator (nth T i).op ≡ true
unfolding nth
legal-all [] h i = unfold computed in refl
legal-all (k ∷ ks) h zero = h zero (omega arith)
legal-all (k ∷ ks) h (suc i) = legal-all ks (λ j l. h (suc j) (omega (arith, l))) i

known : (version : ℤ) (g : Walking) → Walkable version g → Known (rules version) g
known version g w =
    record {
      told = subst (Told (rules version)) (sym w.table) (told_at version);
      legal = legal-all g.tokens w.legal;
      short = w.short;
      unsplit = w.unsplit;
    }

-- What the records are.
pub record Text-walked (version : ℤ) (g : Walking) (v : View) : Type 0 where
  pub text : Text
  pub formed : well_formed (rules version) text ≡ true
  pub same : tokens text [] ≡ g.tokens
  pub serves : Serves g.used g.tokens
  pub nodes : entries_of g.tokens v.records ≡ laid_onto (trees none text nil) []

-- THE WALK'S THEOREM.
pub walk-text : (version : ℤ) (g : Walking) → Walkable version g → (v : View) → Walks g (want (start (5 * length g.tokens))) (done v)
    → Text-walked version g v
unfolding well_formed any
walk-text version g w v d =
    let r = rules version in
    let k = known version g w in
    let f = walked r g k (want (start (5 * length g.tokens))) (done v) d (starts r g k) in
    record {
      text = f.text;
      formed = and_both (is_list (outline f.text).sort) (is_text r f.text) (stated-list f.text f.stated) f.formed;
      same = f.same;
      serves = record { has = f.seen; ends = λ e. absurd (false≢true (sym (neither (g.used Operator.assignment) (g.used Operator.semicolon) w.unassigned w.unsplit) ∙ e)) };
      nodes = f.nodes;
    }
  where
    neither : (a b : Bool) → a ≡ false → b ≡ false → (a || (b || false)) ≡ false
    neither true b e f = absurd (true≢false e)
    neither false true e f = absurd (true≢false f)
    neither false false e f = refl

-- The records are the nodes of the tree that the list reads to.
pub record Tree-walked (version : ℤ) (g : Walking) (source_length : ℕ) (v : View) : Type 0 where
  pub root : Token
  pub children : Forest
  pub reads : read g.tokens g.used version source_length ≡ tree root children
  pub nodes : entries_of g.tokens v.records ≡ laid_onto (node root children nil) []

pub walk-tree : (version : ℤ) (g : Walking) → Walkable version g → (source_length : ℕ) (v : View)
    → Walks g (want (start (5 * length g.tokens))) (done v) → Tree-walked version g source_length v
walk-tree version g w len v d =
    let t = walk-text version g w v d in
    let e = text-reads version t.text t.formed g.used (subst (Serves g.used) (sym t.same) t.serves) len in
    record {
      root = e.root;
      children = e.children;
      reads = ap (λ (ks : List Token). read ks g.used version len) (sym t.same) ∙ e.reads;
      nodes = t.nodes ∙ ap (λ (f : Forest). laid_onto f []) e.tree_of;
    }
